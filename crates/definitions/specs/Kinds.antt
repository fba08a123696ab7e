-- The kinds of relations. 01, "Chain walk".
use Rattle.std.specs.Prelude.{ℕ, List, [], ◌∷◌, map, eqb}
use Rattle.std.proofs.Math.Option.{Option, none, some}
use Rattle.definitions.specs.Table.{pick}
use Rattle.definitions.specs.Table as table
use Rattle.definitions.specs.Records.{Hop, Derivation, Relation}
use Rattle.definitions.specs.Chain.{Link, end, next, nothing, AllWalked, walk_all, own, outside, same}

-- the list that settles a relation: list 9 or list 21 of its owner
pub data Which : Type 0 where
  list9 : Which
  list21 : Which

-- the kind of its count word
abbrev pub count_kind : Which → ℕ
count_kind list9 = 9
count_kind list21 = 21

pub record SettledBy : Type 0 where
  pub owner : ℕ
  pub which : Which

-- an answer: the list, or no kinds
abbrev pub KindsFound : Type 0
KindsFound = Option SettledBy

abbrev pub from : ℕ → Which → Link KindsFound
from n w = end (some (record { owner = n; which = w }))

-- "a source and path none lead on to the source (it inherits); otherwise no kinds"
abbrev pub inherits : ℕ → Option (List Hop) → Link KindsFound
inherits source none = pick (eqb source table.none) (end none) (next source)
inherits source (some hops) = end none

-- "Else list 9 if non-empty, otherwise none."
abbrev pub plain : ℕ → List ℕ → Link KindsFound
plain n [] = end none
plain n (k ∷ ks) = from n list9

-- "a non-empty list 21 settles it. Else, with a derivation and list 9 empty: .."
abbrev pub derived : ℕ → Derivation → List ℕ → List ℕ → Link KindsFound
derived n d (k ∷ ks) slot_kinds = from n list21
derived n d [] (k ∷ ks) = from n list9
derived n d [] [] = inherits d.source d.path

abbrev pub declares : ℕ → List ℕ → Option Derivation → Link KindsFound
declares n slot_kinds none = plain n slot_kinds
declares n slot_kinds (some d) = derived n d d.slot_entities slot_kinds

-- the relation of a name
unfoldable pub find : ℕ → List Relation → Option Relation
find n [] = none
find n (r ∷ rs) = pick (eqb n r.name) (some r) (find n rs)

abbrev pub read_at : Option Relation → Link KindsFound
read_at none = end none
read_at (some r) = declares r.name r.slot_kinds r.derivation

-- One declaration read at a name. "An undeclared name (no relation's 6 holds it) settles at none."
unfoldable pub kind_step : List Relation → ℕ → Link KindsFound
kind_step rs n = read_at (find n rs)

abbrev pub declared : List Relation → List ℕ
declared rs = map (λ (r : Relation). r.name) rs

abbrev pub all_kinds : List Relation → AllWalked KindsFound
all_kinds rs = walk_all none same (kind_step rs) (declared rs) (declared rs) nothing 0

-- the undeclared sources that inheriting relations name, each once
abbrev pub undeclared_sources : List Relation → List ℕ
undeclared_sources rs = outside (kind_step rs) (declared rs) (declared rs)

abbrev pub own_answer : List Relation → ℕ → KindsFound
own_answer rs n = own none same (kind_step rs) (declared rs) n

-- the names that an answer stands for
abbrev pub list_of : Which → Relation → List ℕ
list_of list9 r = r.slot_kinds
list_of list21 r = elim r.derivation [ none ↦ [] | some d ↦ d.slot_entities ]

abbrev pub list_in : Option Relation → Which → List ℕ
list_in none w = []
list_in (some r) w = list_of w r

abbrev pub names_of : List Relation → KindsFound → Option (List ℕ)
names_of rs none = none
names_of rs (some s) = some (list_in (find s.owner rs) s.which)

-- the effective kinds of a name: those of its own walk
unfoldable pub kinds_of : List Relation → ℕ → Option (List ℕ)
kinds_of rs n = names_of rs (own_answer rs n)
