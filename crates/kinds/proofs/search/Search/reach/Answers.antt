-- `kinds::search::Search::reach` meets its contract.
use mathlib.Core.Path.{sym}
use Rattle.kinds.proofs.SearchLaws.{inside, fits, reached-before, reached_now, room_kept, added}
use Rattle.kinds.proofs.search.Search.reach.Goals as goal

pub bounds-self-inside-n : goal.bounds-self-inside-n
bounds-self-inside-n c = inside _ _ (rw (← c.self.view_is) at c.requires)

pub bounds-self-inside-n-then-not-self-n : goal.bounds-self-inside-n-then-not-self-n
bounds-self-inside-n-then-not-self-n c = inside _ _ (rw (← c.self.view_is) at c.requires)

pub bounds-self-inside-self-inside : goal.bounds-self-inside-self-inside
bounds-self-inside-self-inside c = fits _ _ (rw (← c.self.view_is) at c.requires) c.self.invariant c.if-not-self-n.true

pub invariant_of-self : goal.invariant_of-self
invariant_of-self c = room_kept c.self.invariant (added _ _ (rw (← c.self.view_is) at c.requires) c.if-not-self-n.true)

pub returns-then-not-self-n : goal.returns-then-not-self-n
returns-then-not-self-n c = rw (← c.self.view_is) (sym (reached_now _ _ c.if-not-self-n.true))

pub returns-else-not-self-n : goal.returns-else-not-self-n
returns-else-not-self-n c = rw (← c.self.view_is) (sym (reached-before _ _ c.if-not-self-n.false))
