-- `chains::settle::Walks::mark_path` meets its contract.
use Prim.Native.Nat.{◌-◌}
use mathlib.Core.Path.{◌≡◌}
use Rattle.chains.specs.DirectoryWord.{declarations_in}
use Rattle.chains.specs.Walks.{Keeps}
use Rattle.chains.proofs.AheadLaws.{MarkingPath}
use Rattle.chains.proofs.settle.Walks.mark_path.Given as goal

abbrev pub invariant-loop : goal.invariant-loop
invariant-loop l = record {
  marking : MarkingPath (declarations_in l.initial.self.dir.now) l.mark l.start l.count l.initial.self.marks.now l.n (l.count - l.counter) l.self.marks.now;
  steps : l.self.steps ≡ l.initial.self.steps;
  keeps : Keeps l.initial.self l.self;
}
