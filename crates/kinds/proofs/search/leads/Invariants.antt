-- `kinds::search::leads` meets its contract.
use Prim.Native.Nat.{◌-◌}
use lib.ListN.{length}
use Rattle.kinds.proofs.SearchLaws.{Searching, SearchRoom}
use Rattle.kinds.proofs.search.leads.Given as goal

abbrev pub invariant-loop-search : goal.invariant-loop-search
invariant-loop-search l = Searching l.pack l.dir l.a l.b l.search × SearchRoom (length l.initial.search.marks) (length l.initial.search.queue) l.search.entered l.search

abbrev pub decreases-loop-search : goal.decreases-loop-search
decreases-loop-search l = length l.search.queue - l.search.entered
