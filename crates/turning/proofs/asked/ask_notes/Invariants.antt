-- `turning::asked::ask_notes` meets its contract.
use Rattle.std.proofs.Common.{◌+◌}
use Rattle.turning.proofs.MarkLaws.{Marking}
use Rattle.turning.proofs.asked.ask_notes.Given as goal

abbrev pub invariant-loop-code : goal.invariant-loop-code
invariant-loop-code l = Marking l.pack l.notes l.all l.fn.table (l.code-index + 1) l.current l.table
