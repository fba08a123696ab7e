-- `reading::tree::judgment` meets its contract: a leaf is a row that ends after its word.
use Prim.Native.Nat.{ℕ, ◌<◌}
use native.Mathlib.Omega.{arith}
use mathlib.Core.Path.{refl, sym}
use lib.ListN.{get_or}
use Rattle.definitions.specs.Table.{kind_of, value_of, judgment}
use Rattle.definitions.specs.Tree.{root}
use Rattle.pack.proofs.StepLaws.{exit}
use Rattle.reading.proofs.TreeLaws.{leaf_last}
use Rattle.reading.proofs.NotingLaws.{plain-last}
use Rattle.reading.proofs.RowLaws.{walking, head_refused, begun, past_leaf, row_walked, noted_as, tree_noted}
use Rattle.reading.proofs.tree.judgment.Goals as goal

pub returns-in_err-next : goal.returns-in_err-next
unfolding root
returns-in_err-next c =
    let w = walking c.args.part.heads.now.names judgment c.args.context.number c.args.part.words.now 32 1 _ c.args.notes.now c.requires in
    noted_as _ _ _ _ _ (sym (exit c.from_residual.ensures.1)) (tree_noted _ _ _ _ _ _ (head_refused w (omega arith) c.in_err-next.ensures refl))

pub bounds-part-c : goal.bounds-part-c
bounds-part-c c =
    let w = walking c.args.part.heads.now.names judgment 0 c.args.part.words.now 32 1 _ c.args.notes.now c.requires in
    (begun w (omega arith) c.in_ok-next.ensures refl).inside

pub returns-then-part-c-gt-SAME_ENTITY : goal.returns-then-part-c-gt-SAME_ENTITY
unfolding root
returns-then-part-c-gt-SAME_ENTITY c =
    let k : ℕ = kind_of (get_or c.args.part.words.now c.args.c.at 0) in
    let hi : k < 256 = omega arith in
    let w = walking c.args.part.heads.now.names judgment c.args.context.number c.args.part.words.now 32 1 _ c.args.notes.now c.requires in
    let l = leaf_last (value_of (get_or c.args.part.words.now c.args.c.at 0)) k (omega (arith, c.if-part-c-gt-SAME_ENTITY.true)) hi in
    tree_noted _ _ _ _ _ _ (row_walked (past_leaf w (omega arith) c.in_ok-next.ensures refl l (plain-last k c.if-part-c-gt-SAME_ENTITY.true hi)) (omega arith))

pub returns-in_err-at : goal.returns-in_err-at
unfolding root
returns-in_err-at c = noted_as _ _ _ _ _ (sym (exit c.from_residual-in_err-at.ensures.1)) (tree_noted _ _ _ _ _ _ c.in_err-at.ensures)

pub returns : goal.returns
unfolding root
returns c = tree_noted _ _ _ _ _ _ c.in_ok-at.ensures
