-- `records::block::blocks` meets its contract.
use Rattle.std.proofs.Common.{arith}
use Rattle.definitions.specs.Pack.{blocks}
use Rattle.definitions.specs.Form.{says}
use Rattle.pack.proofs.StepLaws.{handed}
use Rattle.records.proofs.LoopLaws.{left_start, count_err, turn_err, read_next, all_ok}
use Rattle.records.proofs.block.blocks.Goals as goal

pub returns-in_err-count : goal.returns-in_err-count
unfolding blocks says
returns-in_err-count c = handed c.from_residual.ensures.1 (search (count_err, c.in_err-count.ensures))

pub loop-init : goal.loop-init
unfolding blocks says
loop-init c = left_start

pub returns-in_err-next : goal.returns-in_err-next
unfolding blocks says
returns-in_err-next c = handed c.from_residual-in_err-next.ensures.1 (search (turn_err, c.loop.invariant, c.in_ok-count.ensures, c.in_err-next.ensures, arith))

pub loop-preserved : goal.loop-preserved
unfolding blocks says
loop-preserved c = search (read_next, c.loop.invariant, c.in_ok-next.ensures, arith)

pub returns : goal.returns
unfolding blocks says
returns c = search (all_ok, c.loop.invariant, c.in_ok-count.ensures, arith)
