-- `kinds::all_kinds::kinds_sized` meets its contract.
use Rattle.std.specs.Prelude.{Err}
use native.Mathlib.Omega.{arith}
use mathlib.Core.Path.{refl, ap, sym, ◌∙◌}
use Rattle.pack.proofs.StepLaws.{exit}
use Rattle.chains.proofs.CheckedLaws.{few-names, names-many, settleable, kinds-marked, placeable}
use Rattle.chains.proofs.AnswerLaws.{front_length}
use Rattle.chains.proofs.EntryLaws.{directed, lent-said, reaches_kept, room_sized}
use Rattle.kinds.proofs.PartLaws.{kinds_left}
use Rattle.kinds.proofs.OperationLaws.{kinds-refused, kinds-room, kinds-done}
use Rattle.kinds.proofs.all_kinds.kinds_sized.Goals as goal

pub returns-in_err-l : goal.returns-in_err-l
returns-in_err-l g c = rw (exit c.from_residual.ensures.1) (kinds-refused _ _ c.in_err-l.ensures.answers refl)

pub returns-then-out-count : goal.returns-then-out-count
returns-then-out-count g c =
    let d = directed (room_sized c.requires).clear c.check_directory.ensures c.in_ok-l.was in kinds-room _ _ d.checked d.counted (omega arith) (ap Err c.refused.ensures)

pub slice_bounds-names-end : goal.slice_bounds-names-end
slice_bounds-names-end g c =
    let d = directed (room_sized c.requires).clear c.check_directory.ensures c.in_ok-l.was in sym (names-many d)

pub settle_all-steps-requires : goal.settle_all-steps-requires
settle_all-steps-requires g c =
    let d = directed (room_sized c.requires).clear c.check_directory.ensures c.in_ok-l.was in
    (few-names d, settleable d (lent-said d (room_sized c.requires).lent), reaches_kept c.check_directory.auto.dir (room_sized c.requires).reaches)

pub places-requires : goal.places-requires
places-requires g c =
    let d = directed (room_sized c.requires).clear c.check_directory.ensures c.in_ok-l.was in let t = lent-said d (room_sized c.requires).lent in (
      front_length c.args.out.now c.in_ok-l.l.relations (omega arith) ∙ sym (names-many d),
      placeable d.checked (kinds-marked d t c.settle_all-steps.ensures) d.named (omega (arith, t.long, c.settle_all-steps.ensures.long)),
    )

pub returns : goal.returns
returns g c =
    let d = directed (room_sized c.requires).clear c.check_directory.ensures c.in_ok-l.was in
    kinds-done _ _ d.checked d.counted (omega arith) (kinds_left (kinds-marked d (lent-said d (room_sized c.requires).lent) c.settle_all-steps.ensures) c.places.ensures)
