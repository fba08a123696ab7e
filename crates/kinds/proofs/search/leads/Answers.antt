-- `kinds::search::leads` meets its contract.
use mathlib.Core.Path.{sym, ◌∙◌}
use Rattle.chains.proofs.EntryLaws.{reaches_one}
use Rattle.kinds.proofs.SearchLaws.{undeclared, room-first, asked-first, begun, not_there, queued_below, asked-next, own-entered, entered_one, fewer}
use Rattle.kinds.proofs.search.leads.Goals as goal

pub returns-then-start-eq0 : goal.returns-then-start-eq0
returns-then-start-eq0 c = undeclared _ _ _ _ c.start.ensures.0 c.if-start-eq0.true

pub invariant_of-search : goal.invariant_of-search
invariant_of-search c = room-first _ _ _ _ c.requires

pub enter-requires : goal.enter-requires
enter-requires c = asked-first _ _ _ _ c.requires c.start-2.ensures.0

pub loop-search-init : goal.loop-search-init
loop-search-init c = let b = begun _ _ _ _ c.requires c.start-2.ensures.0 c.enter.ensures in (b.0, own-entered b.1)

pub returns-in_default : goal.returns-in_default
returns-in_default c = not_there _ _ _ _ c.loop-search.invariant.0 c.in_default.ensures.0 (sym c.has_reached.ensures ∙ c.loop-search-test.true)

pub start-requires-in-loop-search : goal.start-requires-in-loop-search
start-requires-in-loop-search c =
    let f = c.loop-search.invariant.0 in reaches_one f.reaches (queued_below _ _ _ _ f c.in-Some.ensures.0 c.in-Some.ensures.1 c.in-Some.ensures.2)

pub enter-requires-in-loop-search : goal.enter-requires-in-loop-search
enter-requires-in-loop-search c =
    asked-next _ _ _ _ c.loop-search.invariant.0 c.in-Some.ensures.0 c.in-Some.ensures.1 c.in-Some.ensures.2 c.start-in-loop-search.ensures.0

pub loop-search-smaller : goal.loop-search-smaller
loop-search-smaller c = fewer _ _ _ _ c.loop-search.invariant.0 c.in-Some.ensures.0 c.in-Some.ensures.1 c.in-Some.ensures.2 c.start-in-loop-search.ensures.0 c.enter-in-loop-search.ensures

pub loop-search-preserved : goal.loop-search-preserved
loop-search-preserved c =
    let e = entered_one _ _ _ _ c.loop-search.invariant.0 c.in-Some.ensures.0 c.in-Some.ensures.1 c.in-Some.ensures.2 c.start-in-loop-search.ensures.0 c.enter-in-loop-search.ensures in
    (e.0, own-entered (e.1 _ _ _ c.loop-search.invariant.1))
