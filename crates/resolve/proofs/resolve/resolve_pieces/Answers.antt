-- `resolve::resolve::resolve_pieces` meets its contract.
use native.Mathlib.Omega.{arith}
use Rattle.resolve.proofs.PlacesLaws.{order_of, relations_few, pieces_room, pieces_long}
use Rattle.resolve.proofs.resolve.resolve_pieces.Goals as goal

pub pieces-count-requires : goal.pieces-count-requires
pieces-count-requires g c = relations_few c.requires.0.resolves

pub order-requires : goal.order-requires
order-requires g c = order_of c.requires.0.resolves (pieces_room c.requires.0.resolves c.pieces-count.ensures g.row.MOST (omega (arith, c.requires.0.few)))

pub resolve_placed-requires : goal.resolve_placed-requires
resolve_placed-requires g c = (
  record {
    dir = _;
    before = _;
    resolves = c.requires.0.resolves;
    marked = c.requires.0.marked;
    begins = c.order.ensures (order_of c.requires.0.resolves (pieces_room c.requires.0.resolves c.pieces-count.ensures g.row.MOST (omega (arith, c.requires.0.few))));
    unequal = c.requires.0.unequal;
  },
  pieces_long c.requires.0.resolves c.pieces-count.ensures {most = g.row.MOST} c.order.new.places (omega (arith, c.requires.0.few)) c.order.auto.places,
  c.requires.1,
)
