-- `records::derivation::derivation` meets its contract.
use Rattle.std.proofs.Common.{arith, refl}
use Rattle.definitions.specs.Pack.{derivation}
use Rattle.pack.proofs.StepLaws.{by-via, then_ok, then_err, last_err}
use Rattle.records.proofs.KeptLaws.{noted_err}
use Rattle.records.proofs.DirectoryLaws.{chain-read}
use Rattle.records.proofs.NotesLaws.{derivation-noted}
use Rattle.records.proofs.derivation.derivation.Goals as goal

pub returns-in_err-lead : goal.returns-in_err-lead
unfolding derivation
returns-in_err-lead c = noted_err (by-via _ _ _ _ _ _ _ _ (search (then_ok, then_err, last_err, c.in_err-lead.ensures) depth 14)) c.from_residual.ensures.1

pub open-context-requires : goal.open-context-requires
open-context-requires c = let r = chain-read _ _ _ c.chain.ensures c.in_ok-lead.was in omega arith

pub overflow_sub-slots : goal.overflow_sub-slots
overflow_sub-slots c = let r = chain-read _ _ _ c.chain.ensures c.in_ok-lead.was in omega arith

pub overflow_cast-slots : goal.overflow_cast-slots
overflow_cast-slots c = let r = chain-read _ _ _ c.chain.ensures c.in_ok-lead.was in omega arith

pub overflow_add-slots-2 : goal.overflow_add-slots-2
overflow_add-slots-2 c = let r = chain-read _ _ _ c.chain.ensures c.in_ok-lead.was in omega arith

pub member-requires : goal.member-requires
member-requires c =
    let few = c.requires.0 in
    let r = chain-read _ _ _ c.chain.ensures c.in_ok-lead.was in (omega arith, omega arith)

pub returns : goal.returns
returns c = derivation-noted _ _ _ _ _ _ c.chain.ensures c.in_ok-lead.was c.open-context.ensures.0 c.open-context.ensures.1 _ refl c.member.ensures
