-- `records::rule::body` meets its contract.
use Rattle.std.proofs.Common.{◌≡◌, arith}
use Rattle.definitions.specs.Pack.{body}
use Rattle.pack.proofs.StepLaws.{walks}
use Rattle.reading.proofs.WalkLaws.{field-within}
use Rattle.records.proofs.RecordLaws.{body-sort}
use Rattle.records.proofs.KeptLaws.{noted_err}
use Rattle.records.proofs.NotesLaws.{rooted, body-noted}
use Rattle.records.proofs.rule.body.Goals as goal

pub returns-in_err-sort : goal.returns-in_err-sort
unfolding body
returns-in_err-sort c = noted_err (search (walks, c.in_err-sort.ensures) depth 12) c.from_residual.ensures.1

pub scalar-requires : goal.scalar-requires
scalar-requires c = field-within _ _ _ _ _ c.field.ensures c.in_ok-sort.was

pub judgment-requires : goal.judgment-requires
judgment-requires c = field-within _ _ _ _ _ c.field.ensures c.in_ok-sort.was

pub returns-then-sort-eq-SCALAR : goal.returns-then-sort-eq-SCALAR
returns-then-sort-eq-SCALAR c =
    let z : c.in_ok-sort.sort ≡ 0 = c.if-sort-eq-SCALAR.true in
    body-noted _ _ _ _ _ c.field.ensures c.in_ok-sort.was (rw z (rooted _ _ _ _ _ _ c.scalar.ensures))

pub returns-else-sort-eq-SCALAR : goal.returns-else-sort-eq-SCALAR
returns-else-sort-eq-SCALAR c =
    let z : c.in_ok-sort.sort ≡ 1 = omega (arith, body-sort _ _ _ c.field.ensures c.in_ok-sort.was, c.if-sort-eq-SCALAR.false) in
    body-noted _ _ _ _ _ c.field.ensures c.in_ok-sort.was (rw z (rooted _ _ _ _ _ _ c.judgment.ensures))
