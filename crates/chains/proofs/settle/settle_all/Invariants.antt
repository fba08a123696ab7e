-- `chains::settle::settle_all` meets its contract.
use Prim.Native.Nat.{◌+◌}
use lib.ListN.{length}
use Rattle.chains.specs.DirectoryWord.{declarations_in}
use Rattle.chains.proofs.SettleLaws.{Settling}
use Rattle.chains.proofs.settle.settle_all.Given as goal

abbrev pub invariant-loop-name : goal.invariant-loop-name
invariant-loop-name l = Settling (declarations_in l.dir) l.initial.marks l.names 0 (length l.names + 1) l.marks l.steps l.name-index
