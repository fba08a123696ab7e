-- A run of records that are resolved one by one.
use Prim.Native.Nat.{ℕ, ◌+◌, suc}
use native.Mathlib.Omega.{arith}
use mathlib.Core.Path.{◌≡◌, refl, ap, sym, ◌∙◌, subst}
use mathlib.Core.List.{List, [], ◌∷◌, ◌++◌}
use lib.ListN.{length, length-append}
use Rattle.definitions.specs.Answers.{Outcome, done, refused, and_then, map_done}
use Rattle.directions.specs.RecordRuns.{run_words, run_by, EachKeeps}

pub run_length : {A : Type 0} (W : A → List ℕ) (by : ℕ → A → Outcome A) (at : ℕ) (l m : List A) → run_by W by at l ≡ done m → length m ≡ length l
unfolding run_by
run_length W by at [] m e = let z : [] ≡ m = cc in ap length (sym z)
run_length {A} W by at (a ∷ l) m e = go (λ x q. run_length W by (at + length (W a)) l x q) (by at a) e
  where
    more : ((x : List A) → run_by W by (at + length (W a)) l ≡ done x → length x ≡ length l) → (b : A) (o : Outcome (List A)) → run_by W by (at + length (W a)) l ≡ o → map_done (λ x. b ∷ x) o ≡ done m → length m ≡ suc (length l)
    more ih b (refused r) q e = let z : ◌≡◌ {A = ℕ} 0 1 = cc in absurd (omega arith)
    more ih b (done x) q e = let z : b ∷ x ≡ m = cc in ap length (sym z) ∙ ap suc (ih x q)

    go : ((x : List A) → run_by W by (at + length (W a)) l ≡ done x → length x ≡ length l) → (o : Outcome A) → and_then o (λ b. map_done (λ x. b ∷ x) (run_by W by (at + length (W a)) l)) ≡ done m → length m ≡ suc (length l)
    go ih (refused r) e = let z : ◌≡◌ {A = ℕ} 0 1 = cc in absurd (omega arith)
    go ih (done b) e = more ih b (run_by W by (at + length (W a)) l) refl e

module _ {A : Type 0} (W : A → List ℕ) (resolve : ℕ → A → Outcome A) (Keeps : A → Type 0) (long : (at : ℕ) (a b : A) → Keeps a → resolve at a ≡ done b → length (W b) ≡ length (W a)) where
  -- as many words as before
  pub run-words : (at : ℕ) (l m : List A) → EachKeeps Keeps l → run_by W resolve at l ≡ done m → length (run_words W m) ≡ length (run_words W l)
  unfolding run_by
  run-words at [] m h e = let z : [] ≡ m = cc in ap (λ (x : List A). length (run_words W x)) (sym z)
  run-words at (a ∷ l) m h e = go (λ x q. run-words (at + length (W a)) l x h.1 q) (resolve at a) refl e
    where
      more : ((x : List A) → run_by W resolve (at + length (W a)) l ≡ done x → length (run_words W x) ≡ length (run_words W l)) → (b : A) → length (W b) ≡ length (W a)
          → (o : Outcome (List A)) → run_by W resolve (at + length (W a)) l ≡ o → map_done (λ x. b ∷ x) o ≡ done m → length (run_words W m) ≡ length (W a ++ run_words W l)
      more ih b s (refused r) q e = let z : ◌≡◌ {A = ℕ} 0 1 = cc in absurd (omega arith)
      more ih b s (done x) q e = let z : b ∷ x ≡ m = cc in ap (λ (y : List A). length (run_words W y)) (sym z) ∙ length-append (W b) (run_words W x) ∙ omega (arith, ih x q, length-append (W a) (run_words W l))

      go : ((x : List A) → run_by W resolve (at + length (W a)) l ≡ done x → length (run_words W x) ≡ length (run_words W l))
          → (o : Outcome A) → resolve at a ≡ o → and_then o (λ b. map_done (λ x. b ∷ x) (run_by W resolve (at + length (W a)) l)) ≡ done m → length (run_words W m) ≡ length (W a ++ run_words W l)
      go ih (refused r) s e = let z : ◌≡◌ {A = ℕ} 0 1 = cc in absurd (omega arith)
      go ih (done b) s e = more ih b (long at a b h.0 s) (run_by W resolve (at + length (W a)) l) refl e

  -- each with what came of it
  abbrev pub RunPairs : ℕ → List A → List A → Type 0
  RunPairs at [] [] = Unit {0}
  RunPairs at [] (b ∷ m) = ⊥
  RunPairs at (a ∷ l) [] = ⊥
  RunPairs at (a ∷ l) (b ∷ m) = (resolve at a ≡ done b) × RunPairs (at + length (W a)) l m

  pub run_pairs : (at : ℕ) (l m : List A) → run_by W resolve at l ≡ done m → RunPairs at l m
  unfolding run_by
  run_pairs at [] m e = let z : [] ≡ m = cc in subst (λ (x : List A). RunPairs at [] x) z tt
  run_pairs at (a ∷ l) m e = go (λ x q. run_pairs (at + length (W a)) l x q) (resolve at a) refl e
    where
      more : ((x : List A) → run_by W resolve (at + length (W a)) l ≡ done x → RunPairs (at + length (W a)) l x) → (b : A) → resolve at a ≡ done b
          → (o : Outcome (List A)) → run_by W resolve (at + length (W a)) l ≡ o → map_done (λ x. b ∷ x) o ≡ done m → RunPairs at (a ∷ l) m
      more ih b s (refused r) q e = let z : ◌≡◌ {A = ℕ} 0 1 = cc in absurd (omega arith)
      more ih b s (done x) q e = let z : b ∷ x ≡ m = cc in subst (λ (y : List A). RunPairs at (a ∷ l) y) z (s, ih x q)

      go : ((x : List A) → run_by W resolve (at + length (W a)) l ≡ done x → RunPairs (at + length (W a)) l x)
          → (o : Outcome A) → resolve at a ≡ o → and_then o (λ b. map_done (λ x. b ∷ x) (run_by W resolve (at + length (W a)) l)) ≡ done m → RunPairs at (a ∷ l) m
      go ih (refused r) s e = let z : ◌≡◌ {A = ℕ} 0 1 = cc in absurd (omega arith)
      go ih (done b) s e = more ih b s (run_by W resolve (at + length (W a)) l) refl e
