-- `resolve::resolve::resolve_copied` meets its contract.
use Prim.Native.Nat.{ℕ}
use native.Mathlib.Omega.{arith}
use mathlib.Core.Path.{refl}
use lib.ListN.{length-replicate}
use Rattle.checking.proofs.CheckLaws.{said-most}
use Rattle.resolve.proofs.resolve.resolve_copied.Goals as goal

pub resolve_named-requires-2 : goal.resolve_named-requires-2
resolve_named-requires-2 g c = (c.requires.0, λ m. omega (arith, c.requires.1 m, length-replicate {A = ℕ} g.row.MOST 0), said-most _, omega arith, refl)
