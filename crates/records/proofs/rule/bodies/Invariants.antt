-- `records::rule::bodies` meets its contract.
use Rattle.std.proofs.Common.{◌≡◌, ◌-◌, length}
use Rattle.definitions.specs.Pack.{body}
use Rattle.records.specs.Notes.{body_at}
use Rattle.records.proofs.LoopLaws.{LeftOf}
use Rattle.records.proofs.rule.bodies.Given as goal

abbrev pub invariant-loop : goal.invariant-loop
invariant-loop l =
    LeftOf (body l.part.heads.now.names) (body_at l.context.number) l.part.words.now (l.count - 1) l.initial.c.at l.initial.notes (l.count - l.counter) l.c.at l.notes
    × (length l.notes ≡ length l.initial.notes)
