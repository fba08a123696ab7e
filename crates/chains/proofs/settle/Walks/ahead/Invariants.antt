-- `chains::settle::Walks::ahead` meets its contract.
use Prim.Native.Nat.{◌-◌}
use Rattle.chains.specs.DirectoryWord.{declarations_in}
use Rattle.chains.specs.Walks.{Keeps}
use Rattle.chains.proofs.AheadLaws.{GoingAhead}
use Rattle.chains.proofs.settle.Walks.ahead.Given as goal

abbrev pub invariant-loop : goal.invariant-loop
invariant-loop l = record {
  going : GoingAhead (declarations_in l.initial.self.dir.now) l.initial.self.marks.now l.initial.self.steps l.start l.fuel l.self.marks.now l.self.steps l.n (l.fuel - l.counter);
  keeps : Keeps l.initial.self l.self;
}
