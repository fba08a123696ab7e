-- `resolve::order::order_relations` meets its contract: the places of as many names are written.
use lib.ListN.{take}
use Rattle.resolve.specs.Finish.{order_in}
use Rattle.resolve.specs.Writing.{Writes}
use Rattle.resolve.proofs.order.order_relations.Given as goal

abbrev pub invariant-loop-name : goal.invariant-loop-name
invariant-loop-name l = Writes l.initial.places (order_in l.dir (take l.name-index l.names)) l.places
