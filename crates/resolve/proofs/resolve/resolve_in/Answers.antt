-- `resolve::resolve::resolve_in` meets its contract.
use native.Mathlib.Omega.{arith}
use mathlib.Core.Path.{refl, ap, sym, ◌∙◌}
use Rattle.std.specs.Prelude.{Err}
use Rattle.filtered.specs.Taking.{option_in}
use Rattle.resolve.proofs.PlacesLaws.{relations_few, pieces_few}
use Rattle.resolve.proofs.ResolveLaws.{marks-asked, equal_reached, equal_refused, into_refused}
use Rattle.resolve.proofs.resolve.resolve_in.Goals as goal

pub equal_kinds-requires : goal.equal_kinds-requires
equal_kinds-requires c = equal_reached c.requires c.first_equal.ensures (ap option_in c.in-Some.is)

pub returns-in-Some : goal.returns-in-Some
returns-in-Some c =
    into_refused _ _ refl (λ lent. ap Err c.equal_kinds.ensures ∙ equal_refused c.requires c.first_equal.ensures (ap option_in c.in-Some.is) lent)

pub ask_notes-requires : goal.ask_notes-requires
ask_notes-requires c =
    marks-asked c.requires

pub pieces-requires : goal.pieces-requires
pieces-requires c = relations_few c.requires

pub resolve_pieces-requires : goal.resolve_pieces-requires
resolve_pieces-requires c = (
  record { before = _; resolves = c.requires; marked = c.ask_notes.ensures; few = omega (arith, c.pieces.ensures); unequal = sym c.first_equal.ensures ∙ ap option_in c.in_default.is },
  omega arith,
)

pub resolve_pieces-requires-2 : goal.resolve_pieces-requires-2
resolve_pieces-requires-2 c = (
  record { before = _; resolves = c.requires; marked = c.ask_notes.ensures; few = omega (arith, c.pieces.ensures, pieces_few c.requires c.pieces.ensures); unequal = sym c.first_equal.ensures ∙ ap option_in c.in_default.is },
  omega arith,
)
