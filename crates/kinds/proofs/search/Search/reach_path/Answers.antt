-- `kinds::search::Search::reach_path` meets its contract.
use native.Mathlib.Omega.{arith}
use Rattle.kinds.proofs.SearchLaws.{no_path, path_begin, path-end, step_asked, step_reached}
use Rattle.kinds.proofs.search.Search.reach_path.Goals as goal

pub returns-then-steps-eq-NONE : goal.returns-then-steps-eq-NONE
returns-then-steps-eq-NONE c = no_path _ _ _ c.value_at-steps.ensures.0 c.if-steps-eq-NONE.true

pub loop-k-init : goal.loop-k-init
loop-k-init c = path_begin _ _ _ c.value_at-steps.ensures.0 c.if-steps-eq-NONE.false c.requires.1 (omega arith) (omega arith)

pub reach-requires : goal.reach-requires
reach-requires c = step_asked _ _ _ c.loop-k.invariant c.value_at.ensures.0 (omega arith)

pub loop-k-preserved : goal.loop-k-preserved
loop-k-preserved c = step_reached _ _ _ c.loop-k.invariant c.value_at.ensures.0 (omega arith) (omega arith) c.reach.ensures

pub returns : goal.returns
returns c = path-end _ _ _ c.loop-k.invariant (omega arith)
