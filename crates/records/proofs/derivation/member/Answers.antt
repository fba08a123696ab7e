-- `records::derivation::member` meets its contract.
use Rattle.definitions.specs.Pack.{member}
use Rattle.definitions.specs.Tree.{root}
use Rattle.pack.proofs.StepLaws.{last_err, then_ok, then_err}
use Rattle.reading.proofs.WalkLaws.{field-within, step_within}
use Rattle.records.proofs.KeptLaws.{noted_err}
use Rattle.records.proofs.NotesLaws.{rooted, member-noted}
use Rattle.records.proofs.derivation.member.Goals as goal

pub returns-in_err-c1 : goal.returns-in_err-c1
unfolding member root
returns-in_err-c1 c = noted_err (last_err (λ a. 0) _ _ _ _ (search (then_ok, then_err, c.in_err-c1.ensures) depth 16)) c.from_residual.ensures.1

pub returns-in_err-c2 : goal.returns-in_err-c2
unfolding member root
returns-in_err-c2 c = noted_err (last_err (λ a. 0) _ _ _ _ (search (then_ok, then_err, c.in_ok-c1.ensures, c.in_err-c2.ensures) depth 16)) c.from_residual-in_err-c2.ensures.1

pub returns-in_err-many : goal.returns-in_err-many
unfolding member root
returns-in_err-many c = noted_err (last_err (λ a. 0) _ _ _ _ (search (then_ok, then_err, c.in_ok-c1.ensures, c.in_ok-c2.ensures, c.in_err-many.ensures) depth 16)) c.from_residual-in_err-many.ensures.1

pub judgment-requires : goal.judgment-requires
judgment-requires c = step_within _ _ _ _ (field-within _ _ _ _ _ c.skip-2.ensures c.in_ok-c2.was) c.name_list.ensures c.in_ok-many.was

pub returns-in_err-c4 : goal.returns-in_err-c4
unfolding member
returns-in_err-c4 c =
    noted_err (last_err (λ a. 0) _ _ _ _ (then_ok _ _ _ _ _ _ c.in_ok-c1.ensures
    (λ _. then_ok _ _ _ _ _ _ c.in_ok-c2.ensures
    (λ _. then_ok _ _ _ _ _ _ c.in_ok-many.ensures (λ _. (rooted _ _ _ _ _ _ c.in_err-c4.ensures).answers))))) c.from_residual-in_err-c4.ensures.1

pub returns : goal.returns
returns c =
    member-noted _ _ _ _ _ c.skip.ensures c.in_ok-c1.was c.skip-2.ensures c.in_ok-c2.was c.name_list.ensures c.in_ok-many.was
    c.args.front.kinds c.args.front.slots c.args.front.lead c.derived-noted.ensures
    (rooted _ _ _ _ _ _ c.judgment.ensures) c.in_ok-c4.was
