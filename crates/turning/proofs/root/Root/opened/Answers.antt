-- `turning::root::Root::opened` meets its contract.
use Rattle.std.proofs.Common.{refl}
use Rattle.turning.proofs.RootLaws.{rule-opened, relation-opened}
use Rattle.turning.proofs.root.Root.opened.Goals as goal

pub returns-then-word-eq-RULE : goal.returns-then-word-eq-RULE
returns-then-word-eq-RULE c = rule-opened _ _ _ refl c.if-word-eq-RULE.true refl refl refl

pub returns : goal.returns
returns c = relation-opened _ _ _ refl c.if-word-eq-RULE.false refl refl c.act_of-own.ensures c.related_kind-entity.ensures
