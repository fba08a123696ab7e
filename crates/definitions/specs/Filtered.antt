-- The filtered tables. 01, "Tables" and "Not needed for demand 3".
use Rattle.std.specs.Prelude.{ℕ, zero, suc, List, [], ◌∷◌, ◌++◌, Bool, true, false, ◌&&◌, not, length, get_or, ltb, eqb}
use Rattle.std.proofs.Math.Option.{Option, none, some}
use Rattle.definitions.specs.Table.{pick}
use Rattle.definitions.specs.Table as table
use Rattle.definitions.specs.declared.operation.Filter.{Filter}
use Rattle.definitions.specs.declared.operation.Filter.TheVariants.{Direct, Innermost, Alias, Unresolved}
use Rattle.definitions.specs.Records.{Derivation, Relation, Pack}
use Rattle.definitions.specs.Answers.{yes_no, table_from}
use Rattle.definitions.specs.Chain.{Link, end, next, own, same}
use Rattle.definitions.specs.Kinds.{kinds_of}
use Rattle.definitions.specs.Lean.{any}

-- the kind at a slot, where in range
abbrev pub kind_at : Option (List ℕ) → ℕ → Option ℕ
kind_at none slot = none
kind_at (some ks) slot = pick (ltb slot (length ks)) (some (get_or ks slot 0)) none

abbrev pub listed : Option ℕ → List ℕ
listed none = []
listed (some k) = k ∷ []

-- whether a derivation's field 19 names an entity: "19 entity°", so it may be none, which is no entity's name
abbrev pub entity_is : ℕ → ℕ → Bool
entity_is field e = pick (eqb field table.none) false (eqb field e)

-- "entity e takes the kind at the current slot of each derivation with entity e, where in range"; "Where the walk yields no kinds the relation is passed over."
abbrev pub takes : List Relation → ℕ → ℕ → Option Derivation → List ℕ
takes rs e n none = []
takes rs e n (some d) = pick (entity_is d.entity e) (listed (kind_at (kinds_of rs n) d.current)) []

abbrev pub taken_from : List Relation → ℕ → List Relation → List ℕ
taken_from rs e [] = []
taken_from rs e (r ∷ l) = takes rs e r.name r.derivation ++ taken_from rs e l

-- the kinds taken, in record order
unfoldable pub taken : List Relation → ℕ → List ℕ
taken rs e = taken_from rs e rs

-- the one distinct element
abbrev pub single : List ℕ → Option ℕ
single [] = none
single (k ∷ ks) = pick (any (λ x. not (eqb x k)) ks) none (some k)

-- "exactly one distinct kind gives direct(e), else none"
unfoldable pub direct : List Relation → ℕ → Option ℕ
direct rs e = single (taken rs e)

-- "Alias ..: 1 if some kind taken differs from the entity, else 0."
unfoldable pub alias : List Relation → ℕ → Bool
alias rs e = any (λ k. not (eqb k e)) (taken rs e)

abbrev pub names_entity : ℕ → Option Derivation → Bool
names_entity e none = false
names_entity e (some d) = entity_is d.entity e

abbrev pub is_nil : List ℕ → Bool
is_nil [] = true
is_nil (k ∷ ks) = false

-- "Unresolved: 1 if some derivation names e and no kind was taken."
unfoldable pub unresolved : List Relation → ℕ → Bool
unresolved rs e = any (λ (r : Relation). names_entity e r.derivation) rs && is_nil (taken rs e)

-- "a name that has direct follows it on, until a name without direct or one mapped to itself is met, which is its answer"
abbrev pub inner_at : ℕ → Option ℕ → Link (Option ℕ)
inner_at n none = end (some n)
inner_at n (some m) = pick (eqb m n) (end (some n)) (next m)

-- the names are those below N
abbrev pub up_to : ℕ → List ℕ
up_to zero = []
up_to (suc n) = n ∷ up_to n

abbrev pub inner_step : ℕ → (ℕ → Option ℕ) → ℕ → Link (Option ℕ)
inner_step names d n = pick (ltb n names) (inner_at n (d n)) (end none)

-- "longer rings and all leading there are none; a name that itself has no direct gets none"
abbrev pub innermost_by : (ℕ → Option ℕ) → ℕ → ℕ → Option ℕ
innermost_by d names e = elim (d e) [ none ↦ none | some m ↦ own none same (inner_step names d) (up_to names) e ]

unfoldable pub innermost : List Relation → ℕ → ℕ → Option ℕ
innermost rs names e = innermost_by (direct rs) names e

-- ---- the four tables, a word for each name

abbrev pub or_none : Option ℕ → ℕ
or_none none = table.none
or_none (some n) = n

-- the filtered tables: what each says of a name
abbrev pub filter_says : Filter → Pack → ℕ → ℕ
filter_says Direct p e = or_none (direct p.relations e)
filter_says Innermost p e = or_none (innermost p.relations p.names e)
filter_says Alias p e = yes_no (alias p.relations e)
filter_says Unresolved p e = yes_no (unresolved p.relations e)

abbrev pub filter_words : Filter → Pack → List ℕ
filter_words f p = table_from (filter_says f p) 0 p.names
