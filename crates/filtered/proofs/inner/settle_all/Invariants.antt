-- `filtered::inner::settle_all` meets its contract.
use Prim.Native.Nat.{◌+◌}
use lib.ListN.{length}
use Rattle.definitions.specs.Answers.{table_from}
use Rattle.chains.specs.DirectoryWord.{declarations_in}
use Rattle.filtered.specs.Said.{plainly}
use Rattle.chains.proofs.SettleLaws.{Settling}
use Rattle.filtered.proofs.inner.settle_all.Given as goal

abbrev pub invariant-loop-name : goal.invariant-loop-name
invariant-loop-name l = Settling (declarations_in l.dir) l.initial.marks (table_from plainly 0 (length l.initial.marks)) 0 (length l.initial.marks + 1) l.marks l.steps l.name
