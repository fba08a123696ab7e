-- `records::rule::bodies` meets its contract.
use Rattle.std.proofs.Common.{arith, refl}
use Rattle.definitions.specs.Pack.{bodies}
use Rattle.pack.proofs.StepLaws.{more-stop, first-stop}
use Rattle.records.specs.Notes.{note_body, note_bodies}
use Rattle.records.proofs.RecordLaws.{bodies_one}
use Rattle.records.proofs.KeptLaws.{noted_err}
use Rattle.records.proofs.LoopLaws.{left_next, more_err, noted_more}
use Rattle.records.proofs.rule.bodies.Goals as goal

pub returns-in_err-count : goal.returns-in_err-count
unfolding bodies
returns-in_err-count c = noted_err (more-stop _ _ _ _ _ _ _ _ c.in_err-count.ensures refl) c.from_residual.ensures.1

pub returns-in_err-first : goal.returns-in_err-first
unfolding bodies
returns-in_err-first c = noted_err (first-stop _ _ _ _ _ _ _ _ c.field.ensures c.in_ok-count.was _ c.in_err-first.ensures.answers refl) c.from_residual-in_err-first.ensures.1

pub returns-in_err-next : goal.returns-in_err-next
unfolding bodies
returns-in_err-next c = more_err c.field.ensures c.in_ok-count.was c.body.ensures c.in_ok-first.was c.loop.invariant.0 (omega arith) c.in_err-next.ensures c.from_residual-in_err-next.ensures.1

pub loop-preserved : goal.loop-preserved
loop-preserved c = (left_next c.loop.invariant.0 (omega arith) c.in_ok-next.ensures (λ _ _. refl), omega (arith, c.loop.invariant.1))

pub returns : goal.returns
unfolding bodies note_bodies
returns c =
    let one = bodies_one _ _ _ c.field.ensures c.in_ok-count.was in
    noted_more (note_body c.args.context.number) c.field.ensures c.in_ok-count.was c.body.ensures c.in_ok-first.was c.loop.invariant.0 (omega arith)
