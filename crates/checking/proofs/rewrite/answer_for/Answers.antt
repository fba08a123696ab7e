-- `checking::rewrite::answer_for` meets its contract.
use Rattle.std.proofs.Common.{arith, ap, ◌∙◌, refl}
use Rattle.std.specs.Prelude.{Err}
use Rattle.pack.proofs.StepLaws.{handed}
use Rattle.checking.proofs.OperationLaws.{accepted}
use Rattle.checking.proofs.RewriteLaws.{answer-refused, answer-room, answer-length}
use Rattle.checking.proofs.rewrite.answer_for.Goals as goal

pub returns-in_err-check-clause-answers : goal.returns-in_err-check-clause-answers
returns-in_err-check-clause-answers c = handed c.from_residual.ensures.1 (answer-refused _ _ c.in_err-check.ensures refl)

pub returns-then-room-pack-clause-answers : goal.returns-then-room-pack-clause-answers
returns-then-room-pack-clause-answers c = ap Err c.refused.ensures ∙ answer-room _ _ (accepted _ c.check.ensures c.in_ok-check.was) (omega arith)

pub overflow_cast-result : goal.overflow_cast-result
overflow_cast-result c = omega (arith, (accepted _ c.check.ensures c.in_ok-check.was).short)

pub returns-clause-answers : goal.returns-clause-answers
returns-clause-answers c = answer-length _ _ (accepted _ c.check.ensures c.in_ok-check.was) (omega arith)
