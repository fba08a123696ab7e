-- `kinds::all_kinds::places` meets its contract.
use lib.ListN.{get_or}
use Rattle.kinds.specs.KindsPromises.{place_by}
use Rattle.chains.proofs.FillLaws.{Filling}
use Rattle.kinds.proofs.all_kinds.places.Given as goal

abbrev pub invariant-loop-j : goal.invariant-loop-j
invariant-loop-j l = Filling (λ j. place_by l.marks (get_or l.names j 0)) l.initial.out l.out l.j
