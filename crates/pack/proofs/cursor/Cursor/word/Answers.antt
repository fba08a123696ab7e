-- `pack::cursor::Cursor::word` meets its contract.
use Rattle.std.proofs.Common.{◌∙◌, ap}
use Rattle.std.specs.Prelude.{Err}
use Rattle.pack.proofs.StepLaws.{word-there, word-ended}
use Rattle.pack.proofs.cursor.Cursor.word.Goals as goal

pub returns-in-Some : goal.returns-in-Some
returns-in-Some c = let h = c.in-Some.ensures.lookup in rw (h.3.1 0) (word-there _ _ h.3.0)

pub returns-in-None : goal.returns-in-None
returns-in-None c = ap Err c.refused.ensures ∙ word-ended _ _ c.in-None.ensures.lookup.3
