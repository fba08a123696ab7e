-- `records::derivation::chain` meets its contract.
use Rattle.std.proofs.Common.{arith}
use Rattle.definitions.specs.Pack.{chain}
use Rattle.pack.proofs.StepLaws.{handed, last_err, then_ok, then_err, field-fine}
use Rattle.records.proofs.KeptLaws.{kept_then, kept_last}
use Rattle.records.proofs.DirectoryLaws.{chain-leads}
use Rattle.records.proofs.derivation.chain.Goals as goal

pub returns-in_err-source : goal.returns-in_err-source
unfolding chain
returns-in_err-source c = handed c.from_residual.ensures.1 (last_err (λ a. 0) _ _ _ _ (search (then_ok, then_err, c.in_err-source.ensures) depth 16))

pub returns-in_err-steps : goal.returns-in_err-steps
unfolding chain
returns-in_err-steps c = handed c.from_residual-in_err-steps.ensures.1 (last_err (λ a. 0) _ _ _ _ (search (then_ok, then_err, c.in_ok-source.ensures, c.in_err-steps.ensures) depth 16))

pub returns-in_err-c3 : goal.returns-in_err-c3
unfolding chain
returns-in_err-c3 c = handed c.from_residual-in_err-c3.ensures.1 (last_err (λ a. 0) _ _ _ _ (search (then_ok, then_err, c.in_ok-source.ensures, c.in_ok-steps.ensures, c.in_err-c3.ensures) depth 16))

pub returns-in_err-c4 : goal.returns-in_err-c4
unfolding chain
returns-in_err-c4 c =
    handed c.from_residual-in_err-c4.ensures.1 (last_err (λ a. 0) _ _ _ _ (then_ok _ _ _ _ _ _ c.in_ok-source.ensures
    (λ _. then_ok _ _ _ _ _ _ c.in_ok-steps.ensures (λ _. then_ok _ _ _ _ _ _ c.in_ok-c3.ensures (λ _. c.in_err-c4.ensures)))))

pub lead-requires : goal.lead-requires
lead-requires c = omega (arith, (field-fine _ _ _ _ c.field.ensures c.in_ok-source.was).0)

pub returns : goal.returns
unfolding chain
returns c =
    kept_then _ _ _ _ c.field.ensures c.in_ok-source.was _ _
    (λ a. kept_then _ _ _ _ c.path.ensures c.in_ok-steps.was _ _
    (λ p. kept_then _ _ _ _ c.skip.ensures c.in_ok-c3.was _ _
    (λ _. kept_last _ _ _ _ c.skip-2.ensures c.in_ok-c4.was _ (λ _. chain-leads _ p.value p.fine a.kept p.kept c.lead.ensures))))
