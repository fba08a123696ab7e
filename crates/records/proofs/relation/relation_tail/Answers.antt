-- `records::relation::relation_tail` meets its contract.
use Rattle.std.proofs.Common.{arith}
use Rattle.definitions.specs.Pack.{relation_tail}
use Rattle.pack.proofs.StepLaws.{last_err, then_ok, then_err}
use Rattle.records.proofs.KeptLaws.{noted_err}
use Rattle.records.proofs.NotesLaws.{field_on, list_on, tail_noted}
use Rattle.records.proofs.DirectoryLaws.{list-few}
use Rattle.records.proofs.relation.relation_tail.Goals as goal

pub returns-in_err-c1 : goal.returns-in_err-c1
unfolding relation_tail
returns-in_err-c1 c = noted_err (last_err (λ a. 0) _ _ _ _ (search (then_ok, then_err, c.in_err-c1.ensures) depth 16)) c.from_residual.ensures.1

pub returns-in_err-c2 : goal.returns-in_err-c2
unfolding relation_tail
returns-in_err-c2 c = noted_err (last_err (λ a. 0) _ _ _ _ (search (then_ok, then_err, c.in_ok-c1.ensures, c.in_err-c2.ensures) depth 16)) c.from_residual-in_err-c2.ensures.1

pub returns-in_err-kinds : goal.returns-in_err-kinds
unfolding relation_tail
returns-in_err-kinds c = noted_err (last_err (λ a. 0) _ _ _ _ (search (then_ok, then_err, c.in_ok-c1.ensures, c.in_ok-c2.ensures, c.in_err-kinds.ensures) depth 16)) c.from_residual-in_err-kinds.ensures.1

pub optional_derivation-requires : goal.optional_derivation-requires
optional_derivation-requires c =
    let a = field_on _ _ _ _ c.skip.ensures c.in_ok-c1.was in
    let b = field_on _ _ _ _ c.skip-2.ensures c.in_ok-c2.was in
    let l = list_on _ _ _ c.name_list.ensures c.in_ok-kinds.was in
    (c.requires.0, list-few _ _ _ c.name_list.ensures c.in_ok-kinds.was, omega (arith, a, b, l, c.requires.1))

pub returns : goal.returns
returns c = tail_noted _ _ _ _ _ c.skip.ensures c.in_ok-c1.was c.skip-2.ensures c.in_ok-c2.was c.name_list.ensures c.in_ok-kinds.was c.optional_derivation.ensures
