-- `filtered::taking::read_relations` meets its contract.
use native.Mathlib.Omega.{arith}
use Rattle.chains.proofs.EntryLaws.{reaches_one}
use Rattle.filtered.specs.Taking.{NamesLow}
use Rattle.filtered.proofs.TakingLaws.{read_all, read_next}
use Rattle.filtered.proofs.taking.read_relations.Goals as goal

pub read_relation-requires : goal.read_relation-requires
unfolding NamesLow
read_relation-requires c =
    let low = c.requires.0 c.loop-name.name-index in (omega (arith, low, c.loop-name.invariant.long), reaches_one c.requires.1 low)

pub loop-name-preserved : goal.loop-name-preserved
loop-name-preserved c = read_next _ _ _ _ _ _ c.loop-name.invariant (omega arith) c.read_relation.ensures

pub returns : goal.returns
returns c = read_all _ _ _ _ _ _ c.loop-name.invariant (omega arith)
