-- `reading::tree::scalar` meets its contract: a tree is a row of one.
use mathlib.Core.Path.{sym}
use Rattle.definitions.specs.Tree.{root}
use Rattle.pack.proofs.StepLaws.{exit}
use Rattle.reading.proofs.RowLaws.{noted_as, tree_noted}
use Rattle.reading.proofs.tree.scalar.Goals as goal

pub returns-in_err-at : goal.returns-in_err-at
unfolding root
returns-in_err-at c = noted_as _ _ _ _ _ (sym (exit c.from_residual.ensures.1)) (tree_noted _ _ _ _ _ _ c.in_err-at.ensures)

pub returns : goal.returns
unfolding root
returns c = tree_noted _ _ _ _ _ _ c.in_ok-at.ensures
