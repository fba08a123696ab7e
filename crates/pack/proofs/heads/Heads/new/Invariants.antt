-- `pack::heads::Heads::new` meets its contract.
use Rattle.std.proofs.Common.{◌≡◌, ℕ, ◌<◌, ◌≤◌, ◌+◌, List, length, get_or}
use Rattle.pack.specs.Packed.{EndsAt}
use Rattle.pack.proofs.heads.Heads.new.Given as goal

-- the ends of so many kinds are found, and the others are 0 so far
pub record Found (n i : ℕ) (ends : List ℕ) : Type 0 where
  pub long : length ends ≡ 64
  pub found : (k : ℕ) → k < i → EndsAt n (64 + k) (get_or ends k 0)
  pub rest : (k : ℕ) → i ≤ k → get_or ends k 0 ≡ 0

abbrev pub invariant-loop-i : goal.invariant-loop-i
invariant-loop-i l = Found l.names l.i l.ends
