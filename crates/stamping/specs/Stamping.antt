-- Stamping, by the place of a list: what a relation comes out as when the list that stands at a place is stamped on it, 0 for none.
use Rattle.std.specs.Prelude.{ℕ, ◌+◌, ◌*◌, ◌<◌, ◌≤◌, ◌≡◌, List, [], ◌∷◌, Bool, false, ◌&&◌, length, get_or, eqb, ltb}
use Rattle.std.proofs.Math.Option.{some}
use Rattle.definitions.specs.Table.{pick}
use Rattle.definitions.specs.Records.{Derivation, Relation}
use Rattle.definitions.specs.Filtered.{kind_at}
use Rattle.definitions.specs.Places.{names_at}
use Rattle.chains.specs.Record.{value_at, kind_count}
use Rattle.filtered.specs.Acts.{act_part, act_list}
pub use Rattle.filtered.specs.Taking.{names_or}
use Rattle.definitions.specs.Resolving.{unlike, stamped_with}

pub data StampedBy (ws : List ℕ) (list : ℕ) (r : Relation) : Relation → Type 0 where
  as_it_is : list ≡ 0 → StampedBy ws list r r
  with_kinds : (d : Derivation) (ks : List ℕ) → 0 < list → names_at ws list ≡ some ks → r.derivation ≡ some d → d.slot_entities ≡ [] → StampedBy ws list r (stamped_with r d ks)

-- ---- the list for the relation whose record starts at a place: `ws` are the words of the pack, `work` the same with trees resolved in place

-- it has a derivation, whose slots stand at its part, "with list 21 empty"
unfoldable pub unstamped : List ℕ → ℕ → Bool
unstamped work part = pick (ltb part 2) false (eqb (value_at work (part + 4)) 0)

-- "current slot in range and its kind unlike the related one", by the kinds of the list at a place
unfoldable pub unlike_in : List ℕ → List ℕ → ℕ → ℕ → Bool
unlike_in ws work list slots = unlike (kind_at (names_at ws list) (value_at work slots)) (kind_at (names_at ws list) (value_at work (slots + 1)))

-- "pass over a relation with both lists empty that some atom or Exists names, or whose predicate holds kinds 102 to 104", list 21 being empty:
-- a table is true at the names of such relations
unfoldable pub passed_in : List ℕ → List Bool → ℕ → ℕ → Bool
passed_in work asked name start = eqb (kind_count work start) 0 && get_or asked name false

-- by the number of its name
unfoldable pub list_by : List ℕ → List ℕ → List Bool → ℕ → ℕ → ℕ → ℕ
list_by ws work asked name start x =
    pick (unstamped work (act_part x))
    (pick (unlike_in ws work (act_list x) (act_part x))
    (pick (passed_in work asked name start) 0 (act_list x))
    0)
    0

-- the place of the list that settles its name, where the list is stamped, else 0
unfoldable pub list_for : List ℕ → List ℕ → List ℕ → List Bool → ℕ → ℕ
list_for ws work acts asked start = list_by ws work asked (value_at work start) start (get_or acts (value_at work start) 0)

-- how many words more the relation has with the list stamped on it: "list 21 becomes the kinds, and so does list 9 if empty"
unfoldable pub added_for : List ℕ → List ℕ → ℕ → ℕ → ℕ
added_for ws work list start = length (names_or (names_at ws list)) * pick (eqb (kind_count work start) 0) 2 1

-- for relations that start at places, one after the other
unfoldable pub lists_for : List ℕ → List ℕ → List ℕ → List Bool → List ℕ → List ℕ
lists_for ws work acts asked [] = []
lists_for ws work acts asked (start ∷ order) = list_for ws work acts asked start ∷ lists_for ws work acts asked order

unfoldable pub added_by : List ℕ → List ℕ → List ℕ → List ℕ → ℕ
added_by ws work [] lists = 0
added_by ws work (start ∷ order) [] = 0
added_by ws work (start ∷ order) (list ∷ lists) = added_for ws work list start + added_by ws work order lists

-- all lists, and how many words more there are with them
pub record Listed (ws work acts : List ℕ) (asked : List Bool) (order lists : List ℕ) (added : ℕ) : Type 0 where
  pub each : lists ≡ lists_for ws work acts asked order
  pub adds : added ≡ added_by ws work order lists
  pub few : added ≤ 17179869184
