-- Words that are filled in one after another, each from its place.
use Prim.Native.Nat.{ℕ, zero, suc, ◌+◌, ◌-◌, ◌<◌, ◌≤◌}
use native.Mathlib.Omega.{arith}
use native.Mathlib.Nat.{zero-add, add-zero}
use native.Mathlib.Numerals.{add-one}
use mathlib.Core.Path.{◌≡◌, refl, ap, sym, ◌∙◌}
use mathlib.Core.List.{List, [], ◌∷◌, ◌++◌, map, append-nil, append_assoc}
use lib.ListN.{length, get_or, drop, set, length-set, drop_of_length-le}
use lib.Seq.{drop-cons, get_or-drop, set_at, ext_get_or}
use Rattle.definitions.specs.Answers.{table_from}

module _ (f : ℕ → ℕ) where
  pub table-length : (n k : ℕ) → length (table_from f n k) ≡ k
  table-length n zero = refl
  table-length n (suc k) = ap suc (table-length (suc n) k)

  table-last : (n k : ℕ) → table_from f n (suc k) ≡ table_from f n k ++ (f (n + k) ∷ [])
  table-last n zero = let e : n + 0 ≡ n = omega arith in rw e refl
  table-last n (suc k) = let e : suc n + k ≡ n + suc k = omega arith in rw (table-last (suc n) k, e) refl

  -- what stands at a place of a table with more behind it
  pub table_at : (n k m : ℕ) (more : List ℕ) → m < k → get_or (table_from f n k ++ more) m 0 ≡ f (n + m)
  table_at n zero m more h = absurd (omega arith)
  table_at n (suc k) zero more h = let e : n + 0 ≡ n = omega arith in rw e refl
  table_at n (suc k) (suc m) more h = let e : suc n + m ≡ n + suc m = omega arith in table_at (suc n) k m more (omega arith) ∙ ap f e

  pub table-past : (n k m : ℕ) (more : List ℕ) → k ≤ m → get_or (table_from f n k ++ more) m 0 ≡ get_or more (m - k) 0
  table-past n zero m more h = let e : m - 0 ≡ m = omega arith in rw e refl
  table-past n (suc k) zero more h = absurd (omega arith)
  table-past n (suc k) (suc m) more h = let e : m - k ≡ suc m - suc k = omega arith in table-past (suc n) k m more (omega arith) ∙ ap (λ (i : ℕ). get_or more i 0) e

  -- a table of the first names alone
  pub whole_at : (k m : ℕ) → m < k → get_or (table_from f 0 k) m 0 ≡ f m
  whole_at k m h = ap (λ (l : List ℕ). get_or l m 0) (sym (append-nil (table_from f 0 k))) ∙ table_at 0 k m [] h ∙ ap f (zero-add m)

  pub whole-past : (k m : ℕ) → k ≤ m → get_or (table_from f 0 k) m 0 ≡ 0
  whole-past k m h = ap (λ (l : List ℕ). get_or l m 0) (sym (append-nil (table_from f 0 k))) ∙ table-past 0 k m [] h

  module _ (out₀ : List ℕ) where
    pub record Filling (out : List ℕ) (j : ℕ) : Type 0 where
      pub within : j ≤ length out₀
      pub holds : out ≡ table_from f 0 j ++ drop j out₀
      pub long : length out ≡ length out₀

    module _ {out : List ℕ} {j : ℕ} (s : Filling out j) where
      pub next : j < length out₀ → {v : ℕ} → v ≡ f j → Filling (set out j v) (j + 1)
      next h {v} e =
          record {
            within = omega arith;
            holds = ap (λ (l : List ℕ). set l j v) (s.holds ∙ ap (λ (l : List ℕ). table_from f 0 j ++ l) (drop-cons out₀ j 0 h))
                ∙ set_at (table_from f 0 j) (get_or out₀ j 0) (drop (suc j) out₀) v j (table-length 0 j)
                ∙ ap (λ (x : ℕ). table_from f 0 j ++ (x ∷ drop (suc j) out₀)) (e ∙ ap f (sym (zero-add j)))
                ∙ sym (append_assoc (table_from f 0 j) (f (0 + j) ∷ []) (drop (suc j) out₀))
                ∙ ap (λ (l : List ℕ). l ++ drop (suc j) out₀) (sym (table-last 0 j))
                ∙ ap (λ (m : ℕ). table_from f 0 m ++ drop m out₀) (sym (add-one j));
            long = length-set out j v ∙ s.long;
          }

      -- what is next is as it was
      pub left_there : get_or out j 0 ≡ get_or out₀ j 0
      left_there =
          let z : j - j ≡ 0 = omega arith in
          ap (λ (l : List ℕ). get_or l j 0) s.holds ∙ table-past 0 j j (drop j out₀) (omega arith) ∙ ap (λ (i : ℕ). get_or (drop j out₀) i 0) z ∙ get_or-drop j out₀ 0 0 ∙ ap (λ (i : ℕ). get_or out₀ i 0) (add-zero j)

      pub done : length out₀ ≤ j → out ≡ table_from f 0 (length out₀)
      done h =
          let e : j ≡ length out₀ = omega (arith, s.within) in
          s.holds ∙ rw (drop_of_length-le out₀ h) (append-nil (table_from f 0 j) ∙ rw e refl)

-- ---- a table of what another holds

table-mapped : (f g : ℕ → ℕ) (i k : ℕ) → table_from (λ j. f (g j)) i k ≡ map f (table_from g i k)
table-mapped f g i zero = refl
table-mapped f g i (suc k) = ap (λ (l : List ℕ). f (g i) ∷ l) (table-mapped f g (suc i) k)

module _ (xs : List ℕ) where
  abbrev held : ℕ → ℕ
  held j = get_or xs j 0

  many : length (table_from held 0 (length xs)) ≡ length xs
  many = table-length held 0 (length xs)

  pub held-mapped : (f : ℕ → ℕ) → table_from (λ j. f (held j)) 0 (length xs) ≡ map f xs
  held-mapped f = table-mapped f held 0 (length xs) ∙ ap (map f) (ext_get_or 0 (table_from held 0 (length xs)) xs many (λ j h. whole_at held (length xs) j (omega (arith, many))))
