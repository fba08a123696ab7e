-- `stamping::lists::lists` meets its contract.
use mathlib.Core.Path.{◌∙◌}
use Rattle.stamping.proofs.ListForLaws.{listing_begin, listing_next}
use Rattle.stamping.proofs.lists.lists.Goals as goal

pub loop-i-init : goal.loop-i-init
loop-i-init c = listing_begin _ _ _ _ _ c.requires.1

pub loop-i-preserved : goal.loop-i-preserved
loop-i-preserved c = listing_next _ _ _ _ _ c.loop-i.invariant c.loop-i-test.true (c.unwrap_or-list.ensures ∙ c.list_for.ensures) c.added-more.ensures.0 c.added-more.ensures.1
