-- `reading::words::Words::up_to` meets its contract.
use native.Mathlib.Omega.{arith}
use Rattle.pack.proofs.FormLaws.{only_same, only-other}
use Rattle.reading.proofs.WalkLaws.{test-ended, test_turned, test-value, test-read, up_within, up_over}
use Rattle.reading.proofs.words.Words.up_to.Goals as goal

pub returns-then-self-at : goal.returns-then-self-at
returns-then-self-at c n = test-ended _ _ _ _ (omega arith) c.new.ensures

pub returns-then-w-kind : goal.returns-then-w-kind
returns-then-w-kind c n = test_turned _ _ _ _ (omega arith) c.new-then-w-kind.ensures (only-other _ _ c.if-w-kind.true) (λ h. omega arith)

pub returns-then-most-w : goal.returns-then-most-w
returns-then-most-w c n =
    test-value _ _ _ _ (omega arith) c.new-then-most-w.ensures (only_same _ _ c.if-w-kind.false) (up_over _ _ _ _ c.requires.1 c.if-w-kind.false c.if-most-w.true)

pub returns : goal.returns
returns c n = test-read _ _ _ _ (omega arith) (only_same _ _ c.if-w-kind.false) (up_within _ _ _ _ c.requires.1 c.if-w-kind.false (omega arith))
