-- The kinds that entities take, by name, read at the records of relations.
use Rattle.std.specs.Prelude.{ℕ, suc, ◌+◌, ◌-◌, ◌<◌, ◌≤◌, ◌≡◌, map, List, [], ◌∷◌, Bool, not, length, get_or, set, ltb, eqb, Option, Some, None, IfSome}
use Rattle.std.proofs.Math.Option as math
use Rattle.std.proofs.Math.Option.{none, some}
use Rattle.definitions.specs.Table.{pick, value_of}
use Rattle.definitions.specs.Records.{Pack}
use Rattle.definitions.specs.Pack.{yes, read}
use Rattle.filtered.specs.declared.taking.Taken.{Taken}
use Rattle.filtered.specs.declared.taking.Taken.TheVariants.{Nothing, Named, One, Several}
use Rattle.definitions.specs.Lean.{any}
use Rattle.definitions.specs.Filtered.{kind_at, taken, names_entity}
use Rattle.definitions.specs.Places.{names_at}
use Rattle.chains.specs.Record.{value_at}
use Rattle.definitions.specs.Kinds.{all_kinds}
use Rattle.chains.specs.PackDirectory.{OfPack, RelationsNoted}
use Rattle.filtered.specs.Acts.{act_list, act_for, acts_from, ActsOf}

-- the code's option as that of the definitions
abbrev pub option_in : {A : Type 0} → Option A → math.Option A
option_in (Some a) = some a
option_in None = none

-- the names of a list, none where there is no list
abbrev pub names_or : math.Option (List ℕ) → List ℕ
names_or none = []
names_or (some ks) = ks

-- the words of the list whose count word stands at a place
pub record ListFound (ws : List ℕ) (place : ℕ) (words : List ℕ) : Type 0 where
  pub names : map value_of words ≡ names_or (names_at ws place)
  pub few : length words < 16777216
  pub within : length words ≤ length ws - suc place

-- the kind at a slot of a list of words
pub record KindIn (words : List ℕ) (slot : ℕ) (kind : Option ℕ) : Type 0 where
  pub is : option_in kind ≡ kind_at (some (map value_of words)) slot
  pub small : IfSome kind (λ k. k < 16777216)

-- the kind at a slot of the list whose count word stands at a place
pub record KindFound (ws : List ℕ) (place slot : ℕ) (kind : Option ℕ) : Type 0 where
  pub is : option_in kind ≡ kind_at (names_at ws place) slot
  pub small : IfSome kind (λ k. k < 16777216)

-- What is known of an entity, as one number: 0 no derivation names it, 1 one does and no kind is taken, 2 and the one kind taken, 16777218 several kinds.
abbrev pub several : ℕ
several = 16777218

abbrev pub known : Bool → List ℕ → ℕ
known named [] = pick named 1 0
known named (k ∷ ks) = pick (any (λ x. not (eqb x k)) ks) several (2 + k)

-- what the code knows of an entity, as that number
abbrev pub number_of_taken : Taken → ℕ
number_of_taken Nothing = 0
number_of_taken Named = 1
number_of_taken (One k) = 2 + k
number_of_taken Several = several

-- its one kind is not the number of several
abbrev pub Packable : Taken → Type 0
Packable Nothing = Unit {0}
Packable Named = Unit {0}
Packable (One k) = 2 + k ≡ several → ⊥
Packable Several = Unit {0}

-- after one more derivation that names it, and after one more kind
unfoldable pub named_after : ℕ → ℕ
named_after x = pick (eqb x 0) 1 x

unfoldable pub taken_after : ℕ → math.Option ℕ → ℕ
taken_after x none = x
taken_after x (some k) = pick (ltb x 2) (2 + k) (pick (eqb x (2 + k)) x several)

-- an entity past the table is passed over
unfoldable pub take_at : List ℕ → ℕ → math.Option ℕ → List ℕ
take_at t e kind = pick (ltb e (length t)) (set t e (taken_after (named_after (get_or t e 0)) kind)) t

-- the kind at a slot of a name, from what is known of all names
unfoldable pub kind_marked : List ℕ → List ℕ → ℕ → ℕ → math.Option ℕ
kind_marked ws acts name slot = kind_at (names_at ws (act_list (get_or acts name 0))) slot

-- after the relation of a name, whose slots stand at a place, 0 without a derivation: its entity (19) takes the kind at its current slot (17)
unfoldable pub taken_by : List ℕ → List ℕ → List ℕ → ℕ → ℕ → List ℕ
taken_by ws acts t name at = pick (eqb at 0) t (take_at t (value_at ws (at + 2)) (kind_marked ws acts name (value_at ws at)))

-- after the relations of some names
unfoldable pub taken_in : List ℕ → List ℕ → List ℕ → List ℕ → List ℕ → List ℕ
taken_in ws slots acts [] t = t
taken_in ws slots acts (n ∷ ns) t = taken_in ws slots acts ns (taken_by ws acts t n (get_or slots n 0))

-- ---- the relations, one after the other

-- what one leaves in both tables
pub record RelationRead (ws starts slots acts taken : List ℕ) (n : ℕ) (acts' taken' : List ℕ) : Type 0 where
  pub tells : acts' ≡ set acts n (act_for ws starts slots n (get_or acts n 0))
  pub takes : taken' ≡ taken_by ws acts taken n (get_or slots n 0)

-- and all of them
pub record RelationsRead (ws starts slots names acts taken acts' taken' : List ℕ) : Type 0 where
  pub tells : acts' ≡ acts_from ws starts slots names acts
  pub takes : taken' ≡ taken_in ws slots acts names taken

-- they are so many names at most
unfoldable pub NamesLow : ℕ → List ℕ → Type 0
NamesLow most names = (j : ℕ) → get_or names j 0 < most

-- what is known of every entity of a checked pack
abbrev pub KnowsEntities : List ℕ → List ℕ → Type 0
KnowsEntities ws t = OfPack ws (λ p. (e : ℕ) → get_or t e 0 ≡ known (any (λ r. names_entity e r.derivation) p.relations) (taken p.relations e))

-- the tables of a checked pack: the relations' names in record order, the places where their records start, what aggregates over them do, and what is known of entities
pub record Filled (ws names records acts taken : List ℕ) (steps : ℕ) : Type 0 where
  pub noted : RelationsNoted ws names records
  pub counts : (p : Pack) → read ws ≡ yes p → steps ≡ (all_kinds p.relations).steps
  pub says : ActsOf ws acts
  pub knows : KnowsEntities ws taken
