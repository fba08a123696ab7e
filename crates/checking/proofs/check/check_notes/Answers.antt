-- `checking::check::check_notes` meets its contract.
use Rattle.std.proofs.Common.{arith, ap, refl}
use Rattle.std.specs.Prelude.{Err}
use Rattle.pack.proofs.StepLaws.{exit}
use Rattle.checking.proofs.CheckLaws.{check_short, check_long, check_left, checked_no, checked_refused, checked-yes}
use Rattle.checking.proofs.check.check_notes.Goals as goal

pub returns-then-len-lt-LEAST_WORDS : goal.returns-then-len-lt-LEAST_WORDS
returns-then-len-lt-LEAST_WORDS c = checked_no (ap Err c.refused.ensures) (check_short _ (omega arith))

pub returns-then-len-gt-MOST_WORDS : goal.returns-then-len-gt-MOST_WORDS
returns-then-len-gt-MOST_WORDS c = checked_no (ap Err c.refused-then-len-gt-MOST_WORDS.ensures) (check_long _ (omega arith) (omega arith))

pub returns-in_err-l : goal.returns-in_err-l
returns-in_err-l c = rw (exit c.from_residual.ensures.1) (checked_refused (omega arith) (omega arith) c.in_err-l.ensures refl)

pub returns-then-end-len : goal.returns-then-end-len
returns-then-end-len c = checked_no (ap Err c.refused-then-end-len.ensures) (check_left _ (omega arith) (omega arith) c.in_ok-l.ensures.answers refl (omega arith))

pub returns : goal.returns
returns c = checked-yes (omega arith) (omega arith) c.in_ok-l.ensures refl (omega arith)
