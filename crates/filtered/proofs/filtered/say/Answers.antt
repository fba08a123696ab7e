-- `filtered::filtered::say` meets its contract.
use mathlib.Core.Path.{◌∙◌}
use Rattle.filtered.proofs.SaidLaws.{said-direct}
use Rattle.filtered.proofs.filtered.say.Goals as goal

pub returns-in-Direct : goal.returns-in-Direct
returns-in-Direct c = rw c.in-Direct.is (c.unwrap_or.ensures ∙ said-direct _ _ (rw c.from-taken.ensures.0 at c.direct.ensures))
