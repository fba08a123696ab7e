-- `records::block::blocks` meets its contract.
use Rattle.std.proofs.Common.{◌-◌}
use Rattle.definitions.specs.Pack.{block}
use Rattle.records.proofs.LoopLaws.{LeftOf, nothing}
use Rattle.records.proofs.block.blocks.Given as goal

abbrev pub invariant-loop : goal.invariant-loop
invariant-loop l = LeftOf (block l.n) nothing l.s l.count l.initial.c.at tt (l.count - l.counter) l.c.at tt
