-- `resolve::order::order_rules` meets its contract.
use Prim.Native.Nat.{◌+◌}
use Rattle.resolve.specs.Finish.{RulesAsked}
use Rattle.resolve.proofs.PlacesLaws.{Rooting}
use Rattle.resolve.proofs.order.order_rules.Given as goal

abbrev pub invariant-loop-note : goal.invariant-loop-note
invariant-loop-note l = (a : RulesAsked l.notes l.from l.all l.initial.places) → Rooting a (l.from + l.note-index) l.places
