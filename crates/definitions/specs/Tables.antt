-- The tables that resolving uses. 01, "Tables".
use Rattle.std.specs.Prelude.{ℕ, List, [], ◌∷◌}
use Rattle.std.proofs.Math.Option.{Option, none, some}
use Rattle.definitions.specs.Records.{Derivation, Relation}
use Rattle.definitions.specs.Kinds.{find, kinds_of}
use Rattle.definitions.specs.Filtered.{direct}

-- "Derived: slots and effective kinds."
pub record Derived : Type 0 where
  pub current : ℕ
  pub related : ℕ
  pub kinds : Option (List ℕ)

abbrev pub derived_by : Option (List ℕ) → Option Derivation → Option Derived
derived_by kinds none = none
derived_by kinds (some d) = some (record { current = d.current; related = d.related; kinds = kinds })

abbrev pub derived_at : Option (List ℕ) → Option Relation → Option Derived
derived_at kinds none = none
derived_at kinds (some r) = derived_by kinds r.derivation

-- "Typed: relations without derivation and with exactly two slot kinds."
abbrev pub pair : List ℕ → Option (List ℕ)
pair [] = none
pair (a ∷ []) = none
pair (a ∷ b ∷ []) = some (a ∷ b ∷ [])
pair (a ∷ b ∷ c ∷ ks) = none

abbrev pub typed_by : List ℕ → Option Derivation → Option (List ℕ)
typed_by ks none = pair ks
typed_by ks (some d) = none

abbrev pub typed_at : Option Relation → Option (List ℕ)
typed_at none = none
typed_at (some r) = typed_by r.slot_kinds r.derivation

-- what is known of a name: as a typed relation, as a derived one, as an entity
pub record Tables : Type 0 where
  pub typed : ℕ → Option (List ℕ)
  pub derived : ℕ → Option Derived
  pub direct : ℕ → Option ℕ

unfoldable pub tables : List Relation → Tables
tables rs = record { typed = λ n. typed_at (find n rs); derived = λ n. derived_at (kinds_of rs n) (find n rs); direct = direct rs }
