-- `records::all::records` meets its contract.
use Rattle.std.proofs.Common.{refl}
use Rattle.definitions.specs.Pack.{records}
use Rattle.pack.proofs.StepLaws.{then_ok, then_err, exit}
use Rattle.records.proofs.DirectoryLaws.{laid_no, laid_yes}
use Rattle.records.proofs.all.records.Goals as goal

pub returns-in_err-c1 : goal.returns-in_err-c1
unfolding records
returns-in_err-c1 c = laid_no _ _ _ _ _ (search (then_ok, then_err, c.in_err-c1.ensures) depth 12) (exit c.from_residual.ensures.1)

pub returns-in_err-relations : goal.returns-in_err-relations
unfolding records
returns-in_err-relations c =
    laid_no _ _ _ _ _ (then_ok _ _ _ _ _ _ c.in_ok-c1.ensures
    (λ _. then_err _ _ _ _ _ _ c.in_err-relations.ensures.answers)) (exit c.from_residual-in_err-relations.ensures.1)

pub returns-in_err-c3 : goal.returns-in_err-c3
unfolding records
returns-in_err-c3 c =
    laid_no _ _ _ _ _ (then_ok _ _ _ _ _ _ c.in_ok-c1.ensures
    (λ _. then_ok _ _ _ _ _ _ c.in_ok-relations.ensures.answers
    (λ _. then_err _ _ _ _ _ _ c.in_err-c3.ensures.answers))) (exit c.from_residual-in_err-c3.ensures.1)

pub returns-in_err-c4 : goal.returns-in_err-c4
unfolding records
returns-in_err-c4 c =
    laid_no _ _ _ _ _ (then_ok _ _ _ _ _ _ c.in_ok-c1.ensures
    (λ _. then_ok _ _ _ _ _ _ c.in_ok-relations.ensures.answers
    (λ _. then_ok _ _ _ _ _ _ c.in_ok-c3.ensures.answers (λ _. c.in_err-c4.ensures)))) (exit c.from_residual-in_err-c4.ensures.1)

pub returns : goal.returns
returns c =
    laid_yes _ _ _ _ _ c.defaulted.ensures c.in_ok-c1.was c.relations.ensures c.in_ok-relations.was c.rules.ensures
    c.in_ok-c3.was c.in_ok-c4.ensures refl c.count-noted.ensures c.count-all.ensures
