-- `kinds::kinds_of::place_sized` meets its contract.
use native.Mathlib.Omega.{arith}
use mathlib.Core.Path.{refl, ◌∙◌}
use Rattle.pack.proofs.StepLaws.{handed}
use Rattle.chains.proofs.CheckedLaws.{few-relations}
use Rattle.chains.proofs.EntryLaws.{directed, lent-said, reaches_kept, room_sized}
use Rattle.kinds.proofs.PartLaws.{walkable_own, own-place}
use Rattle.kinds.proofs.OperationLaws.{name-refused, name-unknown, name-place}
use Rattle.kinds.proofs.kinds_of.place_sized.Goals as goal

pub returns-in_err-l : goal.returns-in_err-l
returns-in_err-l g c = handed c.from_residual.ensures.1 (name-refused _ _ c.in_err-l.ensures.answers refl)

pub returns-then-l-name : goal.returns-then-l-name
returns-then-l-name g c =
    let d = directed (room_sized c.requires).clear c.check_directory.ensures c.in_ok-l.was in c.unknown_name.ensures ∙ name-unknown _ _ d.checked d.named (omega arith)

pub overflow_add-l : goal.overflow_add-l
overflow_add-l g c = let d = directed (room_sized c.requires).clear c.check_directory.ensures c.in_ok-l.was in omega (arith, few-relations d)

pub walk-place-requires : goal.walk-place-requires
walk-place-requires g c =
    let r = room_sized c.requires in
    let d = directed r.clear c.check_directory.ensures c.in_ok-l.was in
    (walkable_own d (omega arith) (lent-said d r.lent), reaches_kept c.check_directory.auto.dir r.reaches)

pub returns : goal.returns
returns g c =
    let r = room_sized c.requires in
    let d = directed r.clear c.check_directory.ensures c.in_ok-l.was in
    name-place _ _ d.checked d.named c.if-l-name.false (own-place d (lent-said d r.lent) c.walk-place.ensures)
