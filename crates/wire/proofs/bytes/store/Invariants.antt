-- `wire::bytes::store` meets its contract: the bytes of the words stored, and then the bytes as they were.
use Prim.Native.Nat.{◌*◌}
use mathlib.Core.Path.{◌≡◌}
use mathlib.Core.List.{◌++◌}
use lib.ListN.{take, drop}
use Rattle.definitions.specs.Bytes.{bytes_of}
use Rattle.wire.proofs.bytes.store.Given as goal

abbrev pub invariant-loop-i : goal.invariant-loop-i
invariant-loop-i l = l.out ≡ bytes_of (take l.i l.words) ++ drop (4 * l.i) l.initial.out
