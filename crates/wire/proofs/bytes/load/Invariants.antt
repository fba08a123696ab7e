-- `wire::bytes::load` meets its contract: each four bytes so far are a word.
use mathlib.Core.Path.{◌≡◌}
use mathlib.Core.List.{map}
use lib.ListN.{take}
use Rattle.std.specs.Int.{w32, from_le_bytes}
use Rattle.wire.proofs.bytes.load.Given as goal

abbrev pub invariant-loop-i : goal.invariant-loop-i
invariant-loop-i l = take l.i l.words ≡ map (from_le_bytes w32) (take l.i l.fours)
