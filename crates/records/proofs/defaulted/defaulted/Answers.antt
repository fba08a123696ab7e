-- `records::defaulted::defaulted` meets its contract.
use Rattle.std.proofs.Common.{arith, ap, ℕ, ◌+◌}
use Rattle.definitions.specs.Pack.{defaulted}
use Rattle.definitions.specs.Form.{says}
use Rattle.pack.proofs.StepLaws.{handed}
use Rattle.records.proofs.RecordLaws.{defaulted-small}
use Rattle.records.proofs.LoopLaws.{left_start, count_err, turn_err, read_next, all_ok}
use Rattle.records.proofs.defaulted.defaulted.Goals as goal

pub returns-in_err-count : goal.returns-in_err-count
unfolding defaulted says
returns-in_err-count c = handed c.from_residual.ensures.1 (search (count_err, c.in_err-count.ensures))

pub loop-init : goal.loop-init
unfolding defaulted says
loop-init c = left_start

pub returns-in_err-v : goal.returns-in_err-v
unfolding defaulted says
returns-in_err-v c = handed c.from_residual-in_err-v.ensures.1 (search (turn_err, c.loop.invariant, c.in_ok-count.ensures, c.in_err-v.ensures, arith))

pub overflow_add-low : goal.overflow_add-low
overflow_add-low c = omega (arith, defaulted-small _ _ _ _ c.defaulted_name.ensures c.in_ok-v.was)

pub loop-preserved : goal.loop-preserved
loop-preserved c = read_next c.loop.invariant (omega arith) _ c.in_ok-v.ensures (λ _ e. ap (λ (v : ℕ). v + 1) e)

pub returns : goal.returns
unfolding defaulted says
returns c = search (all_ok, c.loop.invariant, c.in_ok-count.ensures, arith)
