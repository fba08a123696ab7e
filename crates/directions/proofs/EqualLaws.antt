-- Laws of equal kinds in both slots.
use Prim.Native.Nat.{ℕ, suc, ◌+◌, ◌-◌, ◌<◌, ◌≤◌}
use native.Mathlib.Omega.{arith}
use mathlib.Core.Path.{◌≡◌, refl, ap, sym, ◌∙◌}
use mathlib.Core.List.{List}
use mathlib.Core.Bool.{Bool, true, false}
use mathlib.Core.Option.{Option, none, some}
use lib.ListN.{get_or}
use lib.Dec.{eqb}
use Rattle.definitions.specs.Filtered.{kind_at}
use Rattle.definitions.specs.Tables.{Derived}
use Rattle.definitions.specs.Direction.{Membership, membership, member_kinds}
use Rattle.definitions.specs.Resolving.{same_kind, equal_kinds}
use Rattle.definitions.specs.Table.{pick}
use Rattle.directions.specs.Words.{first_equal, derived_in, member_in, equal_in}
use Rattle.chains.specs.Record.{value_at}

-- ---- equal kinds

alike : Membership → Bool
alike none = false
alike (some m) = eqb m.0 m.1

same_kind_lem : (a b : Option ℕ) → same_kind a b ≡ alike (membership a b)
unfolding alike
same_kind_lem none b = refl
same_kind_lem (some c) none = refl
same_kind_lem (some c) (some r) = refl

equal_alike : (o : Option Derived) → equal_kinds o ≡ alike (member_kinds o)
unfolding alike
equal_alike none = refl
equal_alike (some d) = same_kind_lem (kind_at d.kinds d.current) (kind_at d.kinds d.related)

module _ (ws acts : List ℕ) (name : ℕ) where
  its-kinds : {m : Membership} → m ≡ member_in ws (get_or acts name 0) → alike m ≡ equal_in ws acts name
  unfolding equal_in member_in
  its-kinds q = ap alike q ∙ sym (equal_alike (derived_in ws (get_or acts name 0)))

  pub equal_unknown : none ≡ member_in ws (get_or acts name 0) → false ≡ equal_in ws acts name
  unfolding alike
  equal_unknown q = its-kinds q

  pub equal_known : {c r : ℕ} → some (c, r) ≡ member_in ws (get_or acts name 0) → eqb c r ≡ equal_in ws acts name
  unfolding alike
  equal_known q = its-kinds q

-- ---- the defaulted names

module _ (ws acts : List ℕ) where
  -- what is left to look at is what there was
  pub record Looking (count i : ℕ) : Type 0 where
    pub left : first_equal ws acts (3 + i) (count - i) ≡ first_equal ws acts 3 count

  pub look : (count : ℕ) → Looking count 0
  look count = let z : count - 0 ≡ count = omega arith in record { left = ap (first_equal ws acts 3) z }

  module _ {count i : ℕ} (l : Looking count i) (more : i < count) {equal : Bool} (q : equal ≡ equal_in ws acts (value_at ws (3 + i))) where
    step : pick equal (some (value_at ws (3 + i))) (first_equal ws acts (3 + i + 1) (count - i - 1)) ≡ first_equal ws acts 3 count
    unfolding first_equal
    step =
        let s : count - i ≡ suc (count - i - 1) = omega arith in
        rw q (sym (ap (first_equal ws acts (3 + i)) s)) ∙ l.left

    pub found : equal ≡ true → some (value_at ws (3 + i)) ≡ first_equal ws acts 3 count
    found t = rw t at step

    pub look_on : equal ≡ false → Looking count (i + 1)
    look_on f =
        record {
          left =
              let a : 3 + (i + 1) ≡ 3 + i + 1 = omega arith in
              let b : count - (i + 1) ≡ count - i - 1 = omega arith in
              rw (a, b) (rw f at step);
        }

  pub looked : {count i : ℕ} → Looking count i → count ≤ i → none ≡ first_equal ws acts 3 count
  unfolding first_equal
  looked {count} {i} l h = let z : count - i ≡ 0 = omega arith in sym (ap (first_equal ws acts (3 + i)) z) ∙ l.left
