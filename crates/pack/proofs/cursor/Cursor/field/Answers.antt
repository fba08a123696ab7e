-- `pack::cursor::Cursor::field` meets its contract.
use mathlib.Core.Path.{refl, sym, ap, ◌∙◌}
use native.Mathlib.Omega.{arith}
use Rattle.std.specs.Prelude.{Err}
use Rattle.pack.proofs.StepLaws.{exit_same, word-stop, word_rejected, word_value, word_on, field-word}
use Rattle.pack.proofs.FormLaws.{only_same, only-other}
use Rattle.definitions.specs.Form.{allowed_here}
use Rattle.pack.proofs.cursor.Cursor.field.Goals as goal

pub returns-in_err-w : goal.returns-in_err-w
returns-in_err-w c = exit_same c.from_residual.ensures.1 c.in_err-w.was ∙ word-stop _ _ _ _ _ c.word.ensures c.in_err-w.was ∙ field-word _ _ _ _ _

pub returns-then-w-kind : goal.returns-then-w-kind
returns-then-w-kind c = ap Err c.refused.ensures ∙ word_rejected _ _ _ _ _ c.word.ensures c.in_ok-w.was (only-other _ _ c.if-w-kind.true) (λ h. omega arith) ∙ field-word _ _ _ _ _

pub returns-then-allows : goal.returns-then-allows
unfolding allowed_here
returns-then-allows c =
    word_on _ _ _ _ _ c.word.ensures c.in_ok-w.was (only_same _ _ c.if-w-kind.false)
    (rw (c.if-w-kind.false, c.requires) (sym c.allows.ensures ∙ c.if-allows.true)) refl ∙ field-word _ _ _ _ _

pub returns-else-allows : goal.returns-else-allows
unfolding allowed_here
returns-else-allows c =
    ap Err c.refused-else-allows.ensures ∙ word_value _ _ _ _ _ c.word.ensures c.in_ok-w.was (only_same _ _ c.if-w-kind.false)
    (rw (c.if-w-kind.false, c.requires) (sym c.allows.ensures ∙ c.if-allows.false)) ∙ field-word _ _ _ _ _
