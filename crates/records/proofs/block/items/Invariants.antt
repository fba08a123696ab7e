-- `records::block::items` meets its contract.
use Rattle.std.proofs.Common.{◌-◌}
use Rattle.definitions.specs.Pack.{item}
use Rattle.records.proofs.LoopLaws.{LeftOf, nothing}
use Rattle.records.proofs.block.items.Given as goal

abbrev pub invariant-loop : goal.invariant-loop
invariant-loop l = LeftOf (item l.n) nothing l.s l.end l.initial.c.at tt (l.end - l.counter) l.c.at tt
