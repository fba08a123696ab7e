-- `kinds::search::Search::enter` meets its contract.
use native.Mathlib.Omega.{arith}
use Rattle.kinds.proofs.EdgeLaws.{at_none, underived, derived}
use Rattle.kinds.proofs.SearchLaws.{nothing-there, source_first, path_then, both_entered}
use Rattle.kinds.proofs.search.Search.enter.Goals as goal

pub returns-then-place-eq0 : goal.returns-then-place-eq0
returns-then-place-eq0 c = nothing-there _ (at_none _ _ c.if-place-eq0.true)

pub returns-then-not-has_derivation : goal.returns-then-not-has_derivation
returns-then-not-has_derivation c = nothing-there _ (underived _ _ c.if-place-eq0.false c.has_derivation.ensures c.if-not-has_derivation.true)

pub reach_source-requires : goal.reach_source-requires
reach_source-requires c =
    source_first _ _ _ (derived _ _ c.if-place-eq0.false c.has_derivation.ensures c.if-not-has_derivation.false c.kind_count.ensures.0) c.value_at.ensures.0 c.requires

pub reach_path-requires : goal.reach_path-requires
reach_path-requires c = (
  omega (arith, c.kind_count.ensures.1),
  path_then _ _ _ (derived _ _ c.if-place-eq0.false c.has_derivation.ensures c.if-not-has_derivation.false c.kind_count.ensures.0) c.value_at.ensures.0 c.requires c.reach_source.ensures,
)

pub returns : goal.returns
returns c =
    both_entered _ _ _ (derived _ _ c.if-place-eq0.false c.has_derivation.ensures c.if-not-has_derivation.false c.kind_count.ensures.0) c.value_at.ensures.0 c.requires c.reach_source.ensures
    c.reach_path.ensures
