-- What the code reads of a rule or relation when turning comes to it.
use Prim.Native.Nat.{ℕ, ◌+◌}
use mathlib.Core.Path.{◌≡◌, ap, sym, ◌∙◌}
use mathlib.Core.List.{List}
use mathlib.Core.Option.{none}
use lib.ListN.{get_or}
use Rattle.definitions.specs.Table.{kind_of, value_of}
use Rattle.definitions.specs.Direction.{related_kind, member_kinds}
use Rattle.directions.specs.Words.{derived_in, tables_in, member_in}
use Rattle.turning.specs.Turns.{value_in}
use Rattle.turning.specs.TurnPromises.{RootOpened}

module _ (ws acts : List ℕ) (at : ℕ) where
  pub rule-opened : {word name origin entity : ℕ} → word ≡ get_or ws at 0 → kind_of word ≡ 23 → name ≡ value_of word → origin ≡ value_in ws (at + 1) → entity ≡ value_in ws (at + 2)
      → RootOpened ws acts at (record { name = name; origin = origin; entity = entity; own = 0 })
  unfolding member_in derived_in
  rule-opened {word} w q n o e =
      record {
        rule = λ h. (e, λ j. record { name = (n ∙ ap value_of w) j; origin = o j; member = none });
        relation = λ h taken blocks count. absurd (h (sym (ap kind_of w) ∙ q));
      }

  pub relation-opened : {word name origin x entity : ℕ} → word ≡ get_or ws at 0 → (kind_of word ≡ 23 → ⊥) → name ≡ value_of word → origin ≡ value_in ws (at + 1) → x ≡ get_or acts name 0 → entity ≡ related_kind (derived_in ws x)
      → RootOpened ws acts at (record { name = name; origin = origin; entity = entity; own = x })
  unfolding tables_in member_in
  relation-opened {word} {name} {origin} {x} {entity} w h n o q e =
      let is : name ≡ value_in ws at = n ∙ ap value_of w in
      record {
        rule = λ z. absurd (h (ap kind_of w ∙ z));
        relation = λ z taken blocks count. (
          e ∙ ap (λ (y : ℕ). related_kind (derived_in ws y)) (q ∙ ap (λ (y : ℕ). get_or acts y 0) is),
          λ j. record { name = is j; origin = o j; member = ap (λ (y : ℕ). member_kinds (derived_in ws y)) (q ∙ ap (λ (y : ℕ). get_or acts y 0) is) j },
        );
      }
