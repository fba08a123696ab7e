-- What the code reads of a relation from the words of a pack.
use Rattle.std.specs.Prelude.{ℕ, zero, suc, ◌+◌, ◌<◌, ◌≡◌, List, [], ◌∷◌, Bool, get_or, eqb, ltb}
use Rattle.std.proofs.Math.Option.{Option, none, some}
use Rattle.definitions.specs.Table.{pick}
use Rattle.definitions.specs.Places.{names_at}
use Rattle.chains.specs.Record.{value_at}
use Rattle.filtered.specs.Acts.{act_part, act_list}
use Rattle.filtered.specs.Said.{direct_in}
use Rattle.definitions.specs.declared.direction.Direction.{Direction}
use Rattle.definitions.specs.declared.direction.Direction.TheVariants.{Directed, Open}
use Rattle.definitions.specs.Tables.{Derived, Tables}
use Rattle.definitions.specs.Direction.{Membership, member_kinds, member_direction}
use Rattle.definitions.specs.Resolving.{equal_kinds}

-- what its number says of a relation: as a typed one by the two names of its list, and as a derived one whose slots stand at a place
unfoldable pub typed_in : List ℕ → ℕ → Option (List ℕ)
typed_in ws x = pick (eqb (act_part x) 1) (some (value_at ws (act_list x + 1) ∷ value_at ws (act_list x + 2) ∷ [])) none

unfoldable pub derived_in : List ℕ → ℕ → Option Derived
derived_in ws x = pick (ltb (act_part x) 2) none (some (record { current = value_at ws (act_part x); related = value_at ws (act_part x + 1); kinds = names_at ws (act_list x) }))

-- the tables, from the words, what aggregates do by name, and what is known of entities
unfoldable pub tables_in : List ℕ → List ℕ → List ℕ → Tables
tables_in ws acts taken = record { typed = λ n. typed_in ws (get_or acts n 0); derived = λ n. derived_in ws (get_or acts n 0); direct = direct_in taken }

-- the membership of what stands in the predicate of a relation, by its number; with 0 there is none
unfoldable pub member_in : List ℕ → ℕ → Membership
member_in ws x = member_kinds (derived_in ws x)

-- slots that fit into words
abbrev pub SlotsFit : Direction → Type 0
SlotsFit (Directed c r kind) = (c < 16777216) × (r < 16777216)
SlotsFit (Open other) = Unit {0}

-- a test of membership comes out as the tables say, whatever they say of entities
abbrev pub MemberTurned : List ℕ → List ℕ → ℕ → Membership → ℕ → ℕ → Direction → Type 0
MemberTurned ws acts relation m current related d = (taken : List ℕ) → d ≡ member_direction (tables_in ws acts taken) relation m current related

-- whether a name is that of a derived relation with equal kinds in its slots
unfoldable pub equal_in : List ℕ → List ℕ → ℕ → Bool
equal_in ws acts n = equal_kinds (derived_in ws (get_or acts n 0))

-- the first of so many names from a place on with equal kinds, or none
unfoldable pub first_equal : List ℕ → List ℕ → ℕ → ℕ → Option ℕ
first_equal ws acts at zero = none
first_equal ws acts at (suc k) = pick (equal_in ws acts (value_at ws at)) (some (value_at ws at)) (first_equal ws acts (at + 1) k)
