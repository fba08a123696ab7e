-- `resolve::order::order_blocks` meets its contract.
use Rattle.resolve.proofs.PlacesLaws.{Walking}
use Rattle.resolve.proofs.order.order_blocks.Given as goal

abbrev pub invariant-loop : goal.invariant-loop
invariant-loop l = Walking l.pack l.fn.blocks.at l.fn.blocks.count l.initial.places l.counter l.at l.places
