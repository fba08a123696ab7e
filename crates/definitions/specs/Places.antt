-- Where relations and their lists of kinds stand in the words of a pack.
use Rattle.std.specs.Prelude.{ℕ, suc, ◌+◌, ◌*◌, ◌<◌, ◌≡◌, List, [], ◌∷◌, map, false, length, get_or, take, drop, eqb}
use Rattle.std.proofs.Math.Option.{Option, none, some}
use Rattle.definitions.specs.Table.{pick, value_of, word_of}
use Rattle.definitions.specs.Form.{words_by}
use Rattle.definitions.specs.Records.{Hop, Relation, Pack}
use Rattle.definitions.specs.Pack.{relation}
use Rattle.definitions.specs.Kinds.{Which, list9, list21, count_kind, SettledBy, find, all_kinds, own_answer, list_of}
use Rattle.definitions.specs.Kinds as kinds

-- the words of a relation
abbrev pub relation_words : ℕ → Relation → List ℕ
relation_words n r = words_by (relation n (λ v. false)) r

-- the place where the record of a name starts, from the place where the first of the list starts
unfoldable pub start_of : ℕ → ℕ → ℕ → List Relation → ℕ
start_of n name at [] = at
start_of n name at (r ∷ rs) = pick (eqb name r.name) at (start_of n name (at + length (relation_words n r)) rs)

-- the first relation starts after 1, 2, 3 with the defaulted names, and 5
abbrev pub first_relation : Pack → ℕ
first_relation p = 4 + length p.defaulted

-- where the relations of a list end, from the place where the first starts
abbrev pub relations_end : ℕ → ℕ → List Relation → ℕ
relations_end n at [] = at
relations_end n at (r ∷ rs) = relations_end n (at + length (relation_words n r)) rs

abbrev pub hops : Option (List Hop) → ℕ
hops none = 0
hops (some l) = length l

-- the count word of list 9 stands after 6, 7 and 8; that of list 21 after 6 to 8, 9 with its kinds, 11, 12, 13 with its steps, and 17 to 20
abbrev pub count_place : Which → Relation → ℕ
count_place list9 r = 3
count_place list21 r = elim r.derivation [ none ↦ 0 | some d ↦ 4 + length r.slot_kinds + 3 + 3 * hops d.path + 4 ]

abbrev count_in : Option Relation → Which → ℕ
count_in none w = 0
count_in (some r) w = count_place w r

-- "the place of the settled list's count word, or 0 for none"
unfoldable pub place_of : Pack → kinds.KindsFound → ℕ
place_of p none = 0
place_of p (some s) =
    start_of p.names s.owner (first_relation p) p.relations + count_in (find s.owner p.relations) s.which

-- the names of the list whose count word stands at a place; at 0 there are no kinds
unfoldable pub names_at : List ℕ → ℕ → Option (List ℕ)
names_at ws place = pick (eqb place 0) none (some (map value_of (take (value_of (get_or ws place 0)) (drop (suc place) ws))))

-- At a place stands the owner's own list: a count word of kind 9 or 21 within the words, and after it the names of that list, which has one at least.
pub record OwnersList (ws : List ℕ) (rs : List Relation) (place : ℕ) (s : SettledBy) : Type 0 where
  pub owner : Relation
  pub found : find s.owner rs ≡ some owner
  pub inside : place < length ws
  pub count_word : get_or ws place 0 ≡ word_of (count_kind s.which) (length (list_of s.which owner))
  pub names : names_at ws place ≡ some (list_of s.which owner)
  pub not_empty : 0 < length (list_of s.which owner)

-- what is settled for a name, in All kinds
abbrev pub settled_of : Option kinds.KindsFound → kinds.KindsFound
settled_of none = none
settled_of (some a) = a

unfoldable pub all_kinds_words : Pack → List ℕ
all_kinds_words p = map (λ (r : Relation). place_of p (settled_of ((all_kinds p.relations).settled r.name))) p.relations

-- "the place of the settled list's count word, or 0 for none": so stands at a place what an answer says
abbrev pub SettledAt : List ℕ → List Relation → kinds.KindsFound → ℕ → Type 0
SettledAt ws rs none place = place ≡ 0
SettledAt ws rs (some s) place = OwnersList ws rs place s

-- "per relation in record order": for each of some relations, a place of what its own walk answers
abbrev pub AllSettledAt : List ℕ → List Relation → List Relation → List ℕ → Type 0
AllSettledAt ws rs [] places = places ≡ []
AllSettledAt ws rs (r ∷ more) [] = ⊥
AllSettledAt ws rs (r ∷ more) (place ∷ places) = SettledAt ws rs (own_answer rs r.name) place × AllSettledAt ws rs more places
