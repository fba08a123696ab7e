-- `records::rule::rule` meets its contract.
use Rattle.definitions.specs.Pack.{rule}
use Rattle.pack.proofs.StepLaws.{by-via, then_ok, then_err}
use Rattle.records.proofs.KeptLaws.{noted_err}
use Rattle.records.proofs.NotesLaws.{rule-place, rule-noted}
use Rattle.records.proofs.rule.rule.Goals as goal

pub returns-in_err-c1 : goal.returns-in_err-c1
unfolding rule
returns-in_err-c1 c = λ i. noted_err (search (by-via, then_ok, then_err, c.in_err-c1.ensures) depth 12) c.from_residual.ensures.1

pub returns-in_err-c2 : goal.returns-in_err-c2
unfolding rule
returns-in_err-c2 c = λ i. noted_err (search (by-via, then_ok, then_err, c.in_ok-c1.ensures, c.in_err-c2.ensures) depth 12) c.from_residual-in_err-c2.ensures.1

pub returns-in_err-c3 : goal.returns-in_err-c3
unfolding rule
returns-in_err-c3 c =
    λ i. noted_err (by-via _ _ _ _ _ _ _ _
    (then_ok _ _ _ _ _ _ c.in_ok-c1.ensures
    (λ _. then_ok _ _ _ _ _ _ c.in_ok-c2.ensures (λ _. then_err _ _ _ _ _ _ c.in_err-c3.ensures)))) c.from_residual-in_err-c3.ensures.1

pub open-context-requires : goal.open-context-requires
open-context-requires c = rule-place _ _ _ c.skip.ensures c.in_ok-c1.was c.args.part.few

pub returns : goal.returns
returns c =
    λ i. rule-noted _ i _ _ _ c.skip.ensures c.in_ok-c1.was c.skip-2.ensures c.in_ok-c2.was c.skip-3.ensures c.in_ok-c3.was
    c.open-context.ensures.0 c.open-context.ensures.1 c.bodies.ensures
