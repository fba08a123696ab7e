-- What holds at each number of a range, such as a range of kinds, by computation over all of them.
-- Assumes nothing.
use mathlib.Core.Path.{◌≡◌, ◌∙◌, refl, sym}
use mathlib.Core.List.{List, [], ◌∷◌}
use mathlib.Core.Logic.{⊎_elim}
use Prim.Native.Nat.{ℕ, zero, suc, ◌+◌, ◌<◌, ◌≤◌}
use native.Mathlib.Nat.{eq-or-lt_of_le}
use native.Mathlib.Omega.{arith}
use lib.ListN.{replicate}

-- the values of f at the n numbers from a on
abbrev pub listed : {A : Type 0} → (ℕ → A) → ℕ → ℕ → List A
listed f a zero = []
listed f a (suc n) = f a ∷ listed f (suc a) n

-- two functions that list the same agree at each number of the range
pub agree : {A : Type 0} (f g : ℕ → A) (a n : ℕ) → listed f a n ≡ listed g a n → (k : ℕ) → a ≤ k → k < a + n → f k ≡ g k
agree f g a zero e k l h = absurd (omega arith)
agree f g a (suc n) e k l h =
    let rest : listed f (suc a) n ≡ listed g (suc a) n = cc in
    ⊎_elim (λ p. cc) (λ m. agree f g (suc a) n rest k m (omega arith)) (eq-or-lt_of_le l)

listed_same : {A : Type 0} (x : A) (a n : ℕ) → listed (λ _. x) a n ≡ replicate n x
listed_same x a zero = refl
listed_same x a (suc n) = rw (listed_same x (suc a) n)

-- a function that lists one value only has it at each number of the range
pub in_range : {A : Type 0} (f : ℕ → A) (x : A) (a n : ℕ) → listed f a n ≡ replicate n x → (k : ℕ) → a ≤ k → k < a + n → f k ≡ x
in_range f x a n e = agree f (λ _. x) a n (e ∙ sym (listed_same x a n))
