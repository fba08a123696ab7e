-- What an aggregate over a relation does, as one number for each name: a part, and the mark of the list that settles the name.
use Rattle.std.specs.Prelude.{ℕ, ◌+◌, ◌-◌, ◌*◌, ◌/◌, ◌%◌, ◌<◌, ◌≤◌, ◌≡◌, List, [], ◌∷◌, true, length, get_or, set, eqb}
use Rattle.std.proofs.Math.Option.{Option, none, some}
use Rattle.definitions.specs.Table.{pick}
use Rattle.definitions.specs.Form.{among}
use Rattle.definitions.specs.Records.{Relation, Pack}
use Rattle.definitions.specs.Pack.{yes, read}
use Rattle.definitions.specs.Kinds.{find, declared, own_answer}
use Rattle.definitions.specs.Places.{start_of, first_relation, place_of}
use Rattle.chains.specs.Record.{kind_count}
use Rattle.chains.specs.PackDirectory.{slots_for}
use Rattle.filtered.specs.declared.act.Part.{Part}
use Rattle.filtered.specs.declared.act.Part.TheVariants.{Neither, Typed, Derived}

-- 0 if it is neither typed nor derived, 1 if it is typed by the two names of its list, else the place of its slots
abbrev pub act_part : ℕ → ℕ
act_part x = x / 131072

-- the place of the list, 0 for none
abbrev pub act_list : ℕ → ℕ
act_list x = x % 131072 - 2

-- the code's part as a number
abbrev pub part_number : Part → ℕ
part_number Neither = 0
part_number Typed = 1
part_number (Derived at) = at

-- the place of slots is none of the other numbers, and fits
abbrev pub PartFits : Part → Type 0
PartFits Neither = Unit {0}
PartFits Typed = Unit {0}
PartFits (Derived at) = (2 ≤ at) × (at < 32768)

-- ---- in the words

-- the part of the relation whose record starts at a place and whose slots stand at another, 0 without a derivation
unfoldable pub part_for : List ℕ → ℕ → ℕ → ℕ
part_for ws start slots = pick (eqb slots 0) (pick (eqb (kind_count ws start) 2) 1 0) slots

-- the number of a name, from its mark
unfoldable pub act_for : List ℕ → List ℕ → List ℕ → ℕ → ℕ → ℕ
act_for ws starts slots n x = x % 131072 + 131072 * part_for ws (get_or starts n 0) (get_or slots n 0)

-- after the relations of some names
unfoldable pub acts_from : List ℕ → List ℕ → List ℕ → List ℕ → List ℕ → List ℕ
acts_from ws starts slots [] t = t
acts_from ws starts slots (n ∷ ns) t = acts_from ws starts slots ns (set t n (act_for ws starts slots n (get_or t n 0)))

-- ---- of a checked pack

-- "Typed: relations without derivation and with exactly two slot kinds. Derived: slots and effective kinds."
abbrev pub typed_part : Option Relation → ℕ
typed_part none = 0
typed_part (some r) = pick (eqb (length r.slot_kinds) 2) 1 0

-- the part of a relation that starts at a place
abbrev pub part_at : ℕ → Option Relation → ℕ
part_at start o = pick (eqb (slots_for start o) 0) (typed_part o) (slots_for start o)

unfoldable pub part_of : Pack → ℕ → ℕ
part_of p m = part_at (start_of p.names m (first_relation p) p.relations) (find m p.relations)

pub record ActsOf (ws acts : List ℕ) : Type 0 where
  pub parts : (p : Pack) → read ws ≡ yes p → (m : ℕ) → act_part (get_or acts m 0) ≡ part_of p m
  pub lists : (p : Pack) → read ws ≡ yes p → (m : ℕ) → among m (declared p.relations) ≡ true → act_list (get_or acts m 0) ≡ place_of p (own_answer p.relations m)
