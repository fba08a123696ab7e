-- `resolve::order::order_blocks` meets its contract.
use native.Mathlib.Omega.{arith}
use Rattle.resolve.proofs.PlacesLaws.{walk-room, walk-next, walk_end}
use Rattle.resolve.proofs.order.order_blocks.Goals as goal

pub put_word-requires : goal.put_word-requires
put_word-requires c = walk-room _ _ _ _ c.loop.invariant c.requires c.loop-test.true

pub loop-preserved : goal.loop-preserved
loop-preserved c = walk-next _ _ _ _ c.loop.invariant c.loop-test.true c.after-at.ensures c.put_word.ensures

pub returns : goal.returns
returns c = walk_end _ _ _ _ c.loop.invariant (omega arith)
