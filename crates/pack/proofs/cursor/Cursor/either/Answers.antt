-- `pack::cursor::Cursor::either` meets its contract.
use mathlib.Core.Path.{refl, sym, ap, ◌∙◌}
use native.Mathlib.Omega.{arith}
use Rattle.std.specs.Prelude.{Err}
use Rattle.pack.proofs.StepLaws.{exit_same, word-stop, word_rejected, word_value, word_on}
use Rattle.pack.proofs.FormLaws.{either_other, either_first, either_second}
use Rattle.definitions.specs.Form.{allowed_here}
use Rattle.pack.proofs.cursor.Cursor.either.Goals as goal
use Rattle.pack.proofs.cursor.Cursor.either.Goals.{then-kind-a+else-kind-b, else-kind-a}

pub returns-in_err-w : goal.returns-in_err-w
returns-in_err-w c = exit_same c.from_residual.ensures.1 c.in_err-w.was ∙ word-stop _ _ _ _ _ c.word.ensures c.in_err-w.was

pub returns-then-kind-b : goal.returns-then-kind-b
returns-then-kind-b c = ap Err c.refused.ensures ∙ word_rejected _ _ _ _ _ c.word.ensures c.in_ok-w.was (either_other _ _ _ c.if-kind-a.true c.if-kind-b.true) (λ h. omega arith)

pub returns-then-allows : goal.returns-then-allows
unfolding allowed_here
returns-then-allows c =
    elim c.if-kind-a.branch [
      | then-kind-a+else-kind-b w ↦
          word_on _ _ _ _ _ c.word.ensures c.in_ok-w.was (either_second _ _ _ w.if-kind-b.false)
          (rw (w.if-kind-b.false, c.requires.1) (sym c.allows.ensures ∙ c.if-allows.true)) refl
      | else-kind-a w ↦
          word_on _ _ _ _ _ c.word.ensures c.in_ok-w.was (either_first _ _ _ w.if-kind-a.false)
          (rw (w.if-kind-a.false, c.requires.0) (sym c.allows.ensures ∙ c.if-allows.true)) refl
    ]

pub returns-else-allows : goal.returns-else-allows
unfolding allowed_here
returns-else-allows c =
    ap Err c.refused-else-allows.ensures ∙ elim c.if-kind-a.branch [
      | then-kind-a+else-kind-b w ↦
          word_value _ _ _ _ _ c.word.ensures c.in_ok-w.was (either_second _ _ _ w.if-kind-b.false)
          (rw (w.if-kind-b.false, c.requires.1) (sym c.allows.ensures ∙ c.if-allows.false))
      | else-kind-a w ↦
          word_value _ _ _ _ _ c.word.ensures c.in_ok-w.was (either_first _ _ _ w.if-kind-a.false)
          (rw (w.if-kind-a.false, c.requires.0) (sym c.allows.ensures ∙ c.if-allows.false))
    ]
