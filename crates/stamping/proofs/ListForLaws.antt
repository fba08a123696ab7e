-- Laws of the list for a relation, in each way out of the code.
use Prim.Native.Nat.{ℕ, suc, ◌+◌, ◌*◌, ◌<◌, ◌≤◌}
use native.Mathlib.Omega.{arith}
use mathlib.Core.Path.{◌≡◌, refl, ap, sym, ◌∙◌}
use mathlib.Core.List.{List, [], ◌∷◌, ◌++◌}
use mathlib.Core.Bool.{Bool}
use lib.ListN.{length, get_or, take, set, length-set}
use lib.Seq.{take-suc, take-suc-set, length-take-le}
use Rattle.stamping.specs.Stamping.{list_for, added_for, lists_for, added_by}

-- ---- all lists

module _ (ws work acts : List ℕ) (asked : List Bool) where
  lists-more : (order : List ℕ) (start : ℕ) → lists_for ws work acts asked (order ++ (start ∷ [])) ≡ lists_for ws work acts asked order ++ (list_for ws work acts asked start ∷ [])
  unfolding lists_for
  lists-more [] start = refl
  lists-more (x ∷ order) start = ap (λ (l : List ℕ). list_for ws work acts asked x ∷ l) (lists-more order start)

  added_more : (order lists : List ℕ) (start list : ℕ) → length lists ≡ length order → added_by ws work (order ++ (start ∷ [])) (lists ++ (list ∷ [])) ≡ added_by ws work order lists + added_for ws work list start
  unfolding added_by
  added_more [] [] start list e = omega arith
  added_more [] (l ∷ lists) start list e = absurd (omega arith)
  added_more (x ∷ order) [] start list e = absurd (omega arith)
  added_more (x ∷ order) (l ∷ lists) start list e = omega (arith, added_more order lists start list (omega arith))

  module _ (order : List ℕ) where
    -- those of the first relations
    pub record Listing (table : List ℕ) (more i : ℕ) : Type 0 where
      pub within : i ≤ length order
      pub long : length table ≡ length order
      pub small : more ≤ i * 33554432
      pub holds : take i table ≡ lists_for ws work acts asked (take i order)
      pub sums : more ≡ added_by ws work (take i order) (take i table)

    pub listing_begin : {table : List ℕ} → length table ≡ length order → Listing table 0 0
    unfolding lists_for added_by
    listing_begin e = record { within = omega arith; long = e; small = omega arith; holds = refl; sums = refl }

    module _ {table : List ℕ} {more i : ℕ} (s : Listing table more i) where
      pub listing_next : i < length order → {list add : ℕ} → list ≡ list_for ws work acts asked (get_or order i 0) → add ≡ added_for ws work list (get_or order i 0) → add < 33554432 → Listing (set table i list) (more + add) (i + 1)
      listing_next h {list} {add} e f b =
          let one : i + 1 ≡ suc i = omega arith in
          let t : take (suc i) (set table i list) ≡ take i table ++ (list ∷ []) = take-suc-set table i list (omega (arith, s.long)) in
          let o : take (suc i) order ≡ take i order ++ (get_or order i 0 ∷ []) = take-suc order i 0 h in
          let same : length (take i table) ≡ length (take i order) = length-take-le i table (omega (arith, s.long)) ∙ sym (length-take-le i order s.within) in
          record {
            within = omega arith;
            long = length-set table i list ∙ s.long;
            small = omega (arith, s.small);
            holds = rw one (t ∙ rw (s.holds, e) (sym (lists-more (take i order) (get_or order i 0))) ∙ ap (lists_for ws work acts asked) (sym o));
            sums = rw (one, t, o) (rw (added_more (take i order) (take i table) (get_or order i 0) list same, ← f, ← s.sums) refl);
          }
