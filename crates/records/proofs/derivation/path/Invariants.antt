-- `records::derivation::path` meets its contract.
use Rattle.std.proofs.Common.{◌-◌}
use Rattle.definitions.specs.Pack.{hop}
use Rattle.records.proofs.LoopLaws.{LeftOf, nothing}
use Rattle.records.proofs.derivation.path.Given as goal

abbrev pub invariant-loop : goal.invariant-loop
invariant-loop l = LeftOf (hop l.n) nothing l.s l.end l.initial.c.at tt (l.end - l.counter) l.c.at tt
