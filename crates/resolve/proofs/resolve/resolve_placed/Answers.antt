-- `resolve::resolve::resolve_placed` meets its contract.
use native.Mathlib.Omega.{arith}
use borrow.Author.Rules.{rules}
use mathlib.Core.Path.{refl, ◌∙◌}
use Rattle.chains.proofs.AnswerLaws.{front_length}
use Rattle.resolve.proofs.ResolveLaws.{turns-asked, placed_finish, placed-all, placed_stopped, into_part, into_stopped}
use Rattle.resolve.proofs.resolve.resolve_placed.Goals as goal

pub turn_pack-requires : goal.turn_pack-requires
turn_pack-requires g c =
    turns-asked c.requires.0 c.copy.ensures

pub slice_bounds-finish-end : goal.slice_bounds-finish-end
slice_bounds-finish-end g c =
    omega (arith, c.requires.0.resolves.fits)

pub finish-requires : goal.finish-requires
finish-requires g c = (placed_finish c.requires.0 c.turn_pack.ensures c.in_ok-turn_pack.was, c.requires.1, c.requires.2)

pub returns : goal.returns
returns g c =
    let room = front_length c.turn_pack.new.notes c.args.checked.now.figures.room (omega (arith, c.turn_pack.auto.notes, c.requires.0.resolves.fits)) in
    into_part _ _ _ room (placed-all c.requires.0 _ c.turn_pack.ensures c.in_ok-turn_pack.was c.finish.ensures) (c.finish.auto.out ∙ room) refl

pub returns-in_err-turn_pack : goal.returns-in_err-turn_pack
returns-in_err-turn_pack g c =
    into_stopped _ _ (placed_stopped c.requires.0 _ c.turn_pack.ensures c.in_err-turn_pack.was) (search rules)
