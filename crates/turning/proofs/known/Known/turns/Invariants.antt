-- `turning::turns::Known::turns` meets its contract.
use Rattle.turning.proofs.TurnsLaws.{Going}
use Rattle.turning.proofs.known.Known.turns.Given as goal

abbrev pub invariant-loop-i : goal.invariant-loop-i
invariant-loop-i l = Going l.self l.from l.to l.fn.work l.fn.notes l.work l.notes l.i l.root
