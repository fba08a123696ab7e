-- `records::rule::rules` meets its contract.
use Rattle.std.proofs.Common.{◌≡◌, ◌-◌, length}
use Rattle.definitions.specs.Pack.{rule}
use Rattle.records.specs.Notes.{note_rule}
use Rattle.records.proofs.LoopLaws.{LeftOf}
use Rattle.records.proofs.rule.rules.Given as goal

abbrev pub invariant-loop : goal.invariant-loop
invariant-loop l =
    LeftOf (rule l.part.heads.now.names) (note_rule l.part.heads.now.names) l.part.words.now l.count l.initial.c.at l.initial.notes (l.count - l.counter) l.c.at l.notes
    × (length l.notes ≡ length l.initial.notes)
