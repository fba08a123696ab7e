-- `kinds::lean::lean_sized` meets its contract.
use native.Mathlib.Omega.{arith}
use mathlib.Core.Path.{refl, ◌∙◌}
use Rattle.pack.proofs.StepLaws.{handed}
use Rattle.chains.proofs.EntryLaws.{directed, room_sized}
use Rattle.kinds.proofs.EdgeLaws.{its_searchable, its_leaning}
use Rattle.kinds.proofs.OperationLaws.{lean-refused, first-unknown, second_unknown, leans-or_not, as_number}
use Rattle.kinds.proofs.lean.lean_sized.Goals as goal

pub returns-in_err-l : goal.returns-in_err-l
returns-in_err-l g c = handed c.from_residual.ensures.1 (lean-refused _ _ _ c.in_err-l.ensures.answers refl)

pub returns-then-l-a : goal.returns-then-l-a
returns-then-l-a g c =
    let d = directed (room_sized c.requires).clear c.check_directory.ensures c.in_ok-l.was in c.unknown_name.ensures ∙ first-unknown _ _ _ d.checked d.named (omega arith)

pub returns-then-l-b : goal.returns-then-l-b
returns-then-l-b g c =
    let d = directed (room_sized c.requires).clear c.check_directory.ensures c.in_ok-l.was in c.unknown_name-then-l-b.ensures ∙ second_unknown _ _ _ d.checked d.named
    (omega arith) (omega arith)

pub leads-leans-requires : goal.leads-leans-requires
leads-leans-requires g c =
    let d = directed (room_sized c.requires).clear c.check_directory.ensures c.in_ok-l.was in
    its_searchable d c.requires (omega arith) (omega arith) c.if-l-a.false c.if-l-b.false

pub returns : goal.returns
returns g c =
    let d = directed (room_sized c.requires).clear c.check_directory.ensures c.in_ok-l.was in
    rw (as_number c.leads-leans.result) (leans-or_not _ _ _ d.checked d.named c.if-l-a.false c.if-l-b.false (its_leaning d c.leads-leans.ensures))
