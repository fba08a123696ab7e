-- `stamping::lists` meets its contract.
use Rattle.stamping.proofs.ListForLaws.{Listing}
use Rattle.stamping.proofs.lists.lists.Given as goal

abbrev pub invariant-loop-i : goal.invariant-loop-i
invariant-loop-i l = Listing l.pack l.work l.acts l.asked l.order l.table l.more l.i
