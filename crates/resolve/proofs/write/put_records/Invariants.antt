-- `resolve::write::put_records` meets its contract.
use Prim.Native.Nat.{ℕ}
use mathlib.Core.Path.{◌≡◌}
use lib.ListN.{length}
use Rattle.resolve.specs.Pieces.{WriteAsked}
use Rattle.resolve.proofs.WriteLaws.{Writing}
use Rattle.resolve.proofs.WrittenPack.{come}
use Rattle.resolve.proofs.write.put_records.Given as goal

abbrev pub invariant-loop-i : goal.invariant-loop-i
invariant-loop-i l = (l.writer.out.ghost_name ≡ l.initial.writer.out.ghost_name) × ((room : ℕ) → room ≡ length l.initial.writer.out.now → (a : WriteAsked l.pack l.places l.lists l.work room) → Writing l.pack l.work l.places l.lists (come a) l.i l.start l.writer.to l.writer.out.now)
