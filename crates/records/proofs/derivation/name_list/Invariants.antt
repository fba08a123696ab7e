-- `records::derivation::name_list` meets its contract.
use Rattle.std.proofs.Common.{◌-◌}
use Rattle.definitions.specs.Form.{field}
use Rattle.records.proofs.LoopLaws.{LeftOf, nothing}
use Rattle.records.proofs.derivation.name_list.Given as goal

abbrev pub invariant-loop : goal.invariant-loop
invariant-loop l = LeftOf (field l.n 10) nothing l.s l.count l.initial.c.at tt (l.count - l.counter) l.c.at tt
