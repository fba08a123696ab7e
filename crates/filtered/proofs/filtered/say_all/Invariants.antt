-- `filtered::filtered::say_all` meets its contract.

use Rattle.filtered.specs.Said.{said_in}
use Rattle.chains.proofs.FillLaws.{Filling}
use Rattle.filtered.proofs.filtered.say_all.Given as goal

abbrev pub invariant-loop-j : goal.invariant-loop-j
invariant-loop-j l = Filling (said_in l.filter l.taken l.initial.out) l.initial.out l.out l.j
