-- `resolve::order::order_relations` meets its contract.
use lib.ListN.{get_or}
use Rattle.chains.specs.DirectoryWord.{starts_in}
use Rattle.resolve.proofs.WriteLaws.{mapped_next}
use Rattle.resolve.proofs.order.order_relations.Goals as goal

pub start-requires : goal.start-requires
start-requires c = c.requires.0 _ c.loop-name-test.true

pub loop-name-preserved : goal.loop-name-preserved
loop-name-preserved c = mapped_next (λ name. get_or (starts_in c.args.dir.now) name 0) _ c.loop-name-test.true c.loop-name.invariant (rw (← c.start.ensures.0) c.put_word.ensures)
