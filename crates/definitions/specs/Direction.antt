-- Which slot an aggregate runs from. 01, "Resolving": aggregates and RelationMember.
use Rattle.std.specs.Prelude.{ℕ, suc, ◌-◌, List, [], ◌∷◌, Bool, true, ◌&&◌, eqb}
use Rattle.std.proofs.Math.Option.{Option, none, some}
use Rattle.definitions.specs.Table.{pick}
use Rattle.definitions.specs.Filtered.{kind_at}
use Rattle.definitions.specs.declared.direction.Direction.{Direction}
use Rattle.definitions.specs.declared.direction.Direction.TheVariants.{Directed, Open}
use Rattle.definitions.specs.Tables.{Derived, Tables}

-- the slots that bear a kind, from a slot on
abbrev pub bearing : ℕ → ℕ → List ℕ → List ℕ
bearing k slot [] = []
bearing k slot (j ∷ ks) = pick (eqb j k) (slot ∷ bearing k (suc slot) ks) (bearing k (suc slot) ks)

abbrev pub or_else : Option ℕ → ℕ → ℕ
or_else none n = n
or_else (some k) n = k

-- a kind that is known, "or 0"
abbrev pub kind_or_zero : Option (List ℕ) → ℕ → ℕ
kind_or_zero ks slot = or_else (kind_at ks slot) 0

-- "one match sets current, related = 1 - current; two give 10; no match keeps the slots; the kind at the related slot or 0 results"
abbrev pub matched : List ℕ → ℕ → ℕ → ℕ → List ℕ → Direction
matched ks entity current related [] = Directed current related (kind_or_zero (some ks) related)
matched ks entity current related (slot ∷ []) = Directed slot (1 - slot) (kind_or_zero (some ks) (1 - slot))
matched ks entity current related (slot ∷ more ∷ slots) = Open entity

-- "A typed one is matched against direct(entity), or the entity itself"; "Any other keeps the slots, with 0."
abbrev pub towards : (ℕ → Option ℕ) → Option (List ℕ) → ℕ → ℕ → ℕ → Direction
towards direct none entity current related = Directed current related 0
towards direct (some ks) entity current related = matched ks entity current related (bearing (or_else (direct entity) entity) 0 ks)

-- "Aggregates 74 to 78: a derived relation supplies both slots, and its related kind or 0."
unfoldable pub turn : Tables → ℕ → ℕ → ℕ → ℕ → Direction
turn T relation entity current related =
    elim (T.derived relation) [
      | some d ↦ Directed d.current d.related (kind_or_zero d.kinds d.related)
      | none ↦ towards T.direct (T.typed relation) entity current related
    ]

-- the current and the related kind of a membership, where both are known
abbrev pub Membership : Type 0
Membership = Option (ℕ × ℕ)

abbrev pub membership : Option ℕ → Option ℕ → Membership
membership none r = none
membership (some c) none = none
membership (some c) (some r) = some (c, r)

-- of a derived relation: "entity = related kind or 0, membership = (current kind, related kind)"
abbrev pub related_kind : Option Derived → ℕ
related_kind none = 0
related_kind (some d) = kind_or_zero d.kinds d.related

abbrev pub member_kinds : Option Derived → Membership
member_kinds none = none
member_kinds (some d) = membership (kind_at d.kinds d.current) (kind_at d.kinds d.related)

abbrev pub all : ℕ → List ℕ → Bool
all k [] = true
all k (j ∷ ks) = eqb j k && all k ks

-- "both set if each is borne by exactly one slot, else both kept"
abbrev pub each_once : ℕ → ℕ → List ℕ → List ℕ → Direction
each_once current related (c ∷ []) (r ∷ []) = Directed c r 0
each_once current related (c ∷ []) (r ∷ s ∷ rs) = Directed current related 0
each_once current related (c ∷ []) [] = Directed current related 0
each_once current related (c ∷ d ∷ cs) rs = Directed current related 0
each_once current related [] rs = Directed current related 0

-- "Equal kinds: 10 if both slots are that kind (other = it), else kept."
abbrev pub between : List ℕ → ℕ × ℕ → ℕ → ℕ → Direction
between ks m current related =
    pick (eqb m.0 m.1)
    (pick (all m.0 ks) (Open m.0) (Directed current related 0))
    (each_once current related (bearing m.0 0 ks) (bearing m.1 0 ks))

abbrev pub tested : Option (List ℕ) → Membership → ℕ → ℕ → Direction
tested none m current related = Directed current related 0
tested (some ks) none current related = Directed current related 0
tested (some ks) (some m) current related = between ks m current related

-- "RelationMember: derived supplies slots; else both membership kinds and a typed relation are needed or slots stay."
unfoldable pub member_direction : Tables → ℕ → Membership → ℕ → ℕ → Direction
member_direction T relation m current related =
    elim (T.derived relation) [
      | some d ↦ Directed d.current d.related 0
      | none ↦ tested (T.typed relation) m current related
    ]
