-- `records::rule::rules` meets its contract.
use Rattle.std.proofs.Common.{arith, refl}
use Rattle.definitions.specs.Pack.{rules}
use Rattle.definitions.specs.Form.{says}
use Rattle.records.proofs.KeptLaws.{noted_err}
use Rattle.records.proofs.LoopLaws.{left_start, left_next, count_err, turn_err, noted-all}
use Rattle.records.proofs.rule.rules.Goals as goal

pub returns-in_err-count : goal.returns-in_err-count
unfolding rules
returns-in_err-count c = noted_err (search (count_err, c.in_err-count.ensures)) c.from_residual.ensures.1

pub loop-init : goal.loop-init
unfolding rules
loop-init c = (left_start, refl)

pub returns-in_err-next : goal.returns-in_err-next
unfolding rules says
returns-in_err-next c =
    let answers = (c.in_err-next.ensures 0).answers in
    noted_err (search (turn_err, c.loop.invariant.0, c.in_ok-count.ensures, answers, arith)) c.from_residual-in_err-next.ensures.1

pub loop-preserved : goal.loop-preserved
loop-preserved c =
    let left = c.loop.invariant.0 in
    (left_next left (omega arith) (c.in_ok-next.ensures left.i) (λ _ _. refl), omega (arith, c.loop.invariant.1))

pub returns : goal.returns
unfolding rules
returns c = noted-all c.field.ensures c.in_ok-count.was c.loop.invariant.0 (omega arith)
