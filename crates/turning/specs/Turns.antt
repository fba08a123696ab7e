-- Notes turned one after the other: a node is read in the words of the pack, and its slots are set in others.
use Rattle.std.specs.Prelude.{ℕ, suc, ◌+◌, ◌-◌, ◌/◌, ◌%◌, ◌≡◌, List, [], ◌∷◌, map, Bool, length, get_or, set, take, drop, eqb}
use Rattle.std.proofs.Math.Option.{Option, none}
use Rattle.std.proofs.lemmas.List.Edits.{sets}
use Rattle.definitions.specs.Table.{pick, kind_of, value_of, entry_of, fields_of}
use Rattle.definitions.specs.Records.{Pack}
use Rattle.definitions.specs.Pack.{words}
use Rattle.definitions.specs.Inputs.{input}
use Rattle.definitions.specs.Tables.{Tables, tables}
use Rattle.definitions.specs.Direction.{Membership, related_kind, member_kinds}
use Rattle.definitions.specs.Tree.{Fields, field_words}
use Rattle.definitions.specs.Answers.{Outcome, done, refused, and_then}
use Rattle.definitions.specs.ResolvingTrees.{Citing, NodeStep, goes, stops, node_step}
use Rattle.turning.specs.declared.note.Note as taken
use Rattle.turning.specs.Notes.{Note, look_of}

-- ---- a note taken out of its number

abbrev pub field_of : ℕ → ℕ
field_of code = code % 8192

abbrev pub lost_of : ℕ → Bool
lost_of code = eqb (code / 8192 % 2) 1

abbrev pub inside_of : ℕ → ℕ
inside_of code = code / 16384

abbrev pub note_of : ℕ → taken.Note
note_of code = record { place = field_of code - 1; inside = inside_of code; lost = lost_of code }

-- ---- what is known

-- what is known of the pack: its tables, and the test of an input name with its origin and owner
pub record KnownTables : Type 0 where
  pub tables : Tables
  pub input : ℕ → ℕ → ℕ → Option ℕ

abbrev pub known_of : Pack → KnownTables
known_of p = record { tables = tables p.relations; input = input p.blocks }

-- the citing rule or relation: its name, its origin, and the membership of a relation
pub record Root : Type 0 where
  pub name : ℕ
  pub origin : ℕ
  pub member : Membership

abbrev pub citing : KnownTables → Root → Citing
citing K r = record { tables = K.tables; name = r.name; input = K.input r.origin }

-- the words so far, the entity of what stands inside each note by its number, and the rule or relation in which turning is
pub record Work : Type 0 where
  pub words : List ℕ
  pub results : List ℕ
  pub root : Root

abbrev pub work : List ℕ → List ℕ → Root → Work
work words results root = record { words = words; results = results; root = root }

abbrev pub value_in : List ℕ → ℕ → ℕ
value_in ws at = value_of (get_or ws at 0)

abbrev pub kind_here : List ℕ → ℕ → ℕ
kind_here ws at = kind_of (get_or ws at 0)

-- ---- rules and relations

-- "Rules in order, bodies in order, entity from 25, no membership."
abbrev pub rule_root : List ℕ → ℕ → Root
rule_root ws at = record { name = value_in ws at; origin = value_in ws (at + 1); member = none }

-- "entity = related kind or 0, membership = (current kind, related kind), citing = the relation"
abbrev pub relation_root : KnownTables → List ℕ → ℕ → Root
relation_root K ws at = record { name = value_in ws at; origin = value_in ws (at + 1); member = member_kinds (K.tables.derived (value_in ws at)) }

-- from its note on, turning is in it
unfoldable pub open_root : KnownTables → List ℕ → ℕ → ℕ → Work → Work
open_root K ws i at s =
    pick (eqb (kind_here ws at) 23)
    (work s.words (set s.results i (value_in ws (at + 2))) (rule_root ws at))
    (work s.words (set s.results i (related_kind (K.tables.derived (value_in ws at)))) (relation_root K ws at))

-- ---- nodes

abbrev pub held : Bool → Membership → Membership
held lost m = pick lost none m

-- so many fields, read from a place on
abbrev pub fields_at : List ℕ → ℕ → ℕ → Fields
fields_at ws at n = map (λ w. (kind_of w, value_of w)) (take n (drop at ws))

-- the node at a place, by its word: what it does, with this entity and membership
unfoldable pub step_at : Citing → ℕ → Membership → List ℕ → ℕ → NodeStep
step_at C entity m ws at =
    node_step C entity m (entry_of (kind_here ws at)).follows (value_in ws at) (fields_at ws (at + 1) (length (fields_of (entry_of (kind_here ws at)).follows)))

-- It goes on with its slots set, and the entity of its children results if they stand inside it; or it stops there:
-- "place the node, name the citing rule or relation".
abbrev pub turned_by : Bool → ℕ → ℕ → Work → NodeStep → Outcome Work
turned_by opens i at s (goes fs entity first rest) =
    done (work (sets s.words (at + 1) (take 2 (field_words fs))) (pick opens (set s.results i entity) s.results) s.root)
turned_by opens i at s (stops number other) = refused (record { number = number; place = at; name = s.root.name; other = other })

-- the entity is that of what stands inside the note in which it stands; a node without slots, noted for stamping, is passed over
unfoldable pub turn_node : KnownTables → List ℕ → ℕ → Note → Work → Outcome Work
turn_node K ws i n s =
    pick (look_of (kind_here ws n.place)).slots
    (turned_by (look_of (kind_here ws n.place)).opens i n.place s
    (step_at (citing K s.root) (get_or s.results n.inside 0) (held n.lost s.root.member) ws n.place))
    (done s)

-- the i-th note
unfoldable pub turn_note : KnownTables → List ℕ → ℕ → Note → Work → Outcome Work
turn_note K ws i n s = pick (eqb n.inside 0) (done (open_root K ws i n.place s)) (turn_node K ws i n s)

-- notes in a row, of which the first is the i-th
unfoldable pub turn_notes : KnownTables → List ℕ → ℕ → List Note → Work → Outcome Work
turn_notes K ws i [] s = done s
turn_notes K ws i (n ∷ ns) s = and_then (turn_note K ws i n s) (turn_notes K ws (suc i) ns)

-- in no rule or relation yet
abbrev pub nowhere : Root
nowhere = record { name = 0; origin = 0; member = none }

abbrev pub afresh : Work → Work
afresh s = work s.words s.results nowhere

-- those of a pack: rules first, then relations
unfoldable pub turn_pack : KnownTables → List ℕ → List Note → List Note → Work → Outcome Work
turn_pack K ws relations rules s = and_then (turn_notes K ws (1 + length relations) rules (afresh s)) (λ t. turn_notes K ws 1 relations (afresh t))

-- what comes of it: the words of the pack with its trees resolved, or the refusal
abbrev pub TurnedInto : Outcome Pack → Outcome Work → Type 0
TurnedInto (done q) o = (s : Work) × (o ≡ done s) × (s.words ≡ words q)
TurnedInto (refused r) o = o ≡ refused r
