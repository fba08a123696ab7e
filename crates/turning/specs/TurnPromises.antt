-- What the functions that turn notes promise each other.
use Rattle.std.specs.Prelude.{ℕ, suc, ◌+◌, ◌<◌, ◌≤◌, ◌≡◌, List, [], ◌∷◌, Bool, true, false, length, get_or, eqb, Result, Ok, Err}
use Rattle.definitions.specs.Table.{pick, kind_of, value_of, entry_of, fields_of}
use Rattle.definitions.specs.Records.{Pack}
use Rattle.definitions.specs.Pack.{yes, read, words}
use Rattle.definitions.specs.declared.answer.Number.{Number}
use Rattle.definitions.specs.declared.answer.Number.TheVariants.{DirectionOpen, DerivedInput}
use Rattle.inputs.specs.Blocks.{input_in, refuses_by}
use Rattle.definitions.specs.declared.answer.Refusal.{Refusal}
use Rattle.definitions.specs.declared.direction.Direction.{Direction}
use Rattle.definitions.specs.declared.direction.Direction.TheVariants.{Directed, Open}
use Rattle.definitions.specs.Tables.{Tables}
use Rattle.definitions.specs.Direction.{turn, Membership, related_kind, member_direction}
use Rattle.definitions.specs.Answers.{Outcome, done, refused, number_of}
use Rattle.definitions.specs.ResolvingTrees.{Citing, current_of, related_of, NodeStep, goes, stops}
use Rattle.chains.specs.PackDirectory.{OfPack}
use Rattle.directions.specs.Words.{tables_in, member_in}
use Rattle.directions.specs.RecordRuns.{trees_resolved}
use Rattle.turning.specs.declared.step.Out.{Out}
use Rattle.turning.specs.declared.step.Out.TheVariants.{Opens, Sets, Passes}
use Rattle.turning.specs.declared.step.Node.{Node}
use Rattle.turning.specs.declared.known.Known.{Known}
use Rattle.turning.specs.declared.root.Root as code
use Rattle.turning.specs.Notes.{Note, look_of, note_code, Held, NotesIn}
use Rattle.turning.specs.Turns.{KnownTables, known_of, held, Root, citing, Work, work, nowhere, value_in, kind_here, rule_root, relation_root, step_at, turn_note, turn_notes}

-- what is known of the pack, as the code has it
abbrev pub known_in : List ℕ → List ℕ → List ℕ → ℕ → ℕ → KnownTables
known_in ws acts taken blocks count = record { tables = tables_in ws acts taken; input = λ origin owner n. refuses_by (input_in ws blocks count origin owner n) }

abbrev pub known_by : Known → KnownTables
known_by k = known_in k.tables.pack.now k.tables.acts.now k.tables.taken.now k.blocks.at k.blocks.count

-- ---- where notes stand

-- a noted node: all its fields are there
pub record NodeStands (ws : List ℕ) (at : ℕ) : Type 0 where
  pub fields : at + length (fields_of (entry_of (kind_here ws at)).follows) < length ws
  pub slots : (look_of (kind_here ws at)).slots ≡ true → (kind_here ws (at + 1) ≡ 80) × (kind_here ws (at + 2) ≡ 81)
  pub short : length ws ≤ 8192

-- one that has slots: a clause, as the place changes from call to call
abbrev pub HasSlots : List ℕ → ℕ → Type 0
HasSlots ws at = NodeStands ws at × ((look_of (kind_here ws at)).slots ≡ true)

-- a rule or relation: its origin and what follows are there
abbrev pub RootStands : List ℕ → ℕ → Type 0
RootStands ws at = at + 2 < length ws

-- the i-th note, inside an earlier one or none
pub record Stands (ws : List ℕ) (i : ℕ) (n : Note) : Type 0 where
  pub within : n.inside < i
  pub near : n.place + 1 < 8192
  pub root : n.inside ≡ 0 → RootStands ws n.place
  pub node : (n.inside ≡ 0 → ⊥) → NodeStands ws n.place

-- ---- a node

-- its direction as an aggregate
unfoldable pub turn_at : Tables → List ℕ → ℕ → ℕ → Direction
turn_at T ws at entity = turn T (value_in ws at) entity (value_in ws (at + 1)) (value_in ws (at + 2))

-- what comes of a step, or the number and the other of a refusal
abbrev pub OutCame : Type 0
OutCame = Result Out (ℕ × ℕ)

-- if its children stand inside the node or not
abbrev pub out_by : Bool → NodeStep → OutCame
out_by true (goes fs entity first rest) = Ok (Opens (current_of fs) (related_of fs) entity)
out_by false (goes fs entity first rest) = Ok (Sets (current_of fs) (related_of fs))
out_by true (stops number other) = Err (number, other)
out_by false (stops number other) = Err (number, other)

unfoldable pub out_at : Citing → ℕ → Membership → List ℕ → ℕ → OutCame
out_at C entity m ws at = pick (look_of (kind_here ws at)).slots (out_by (look_of (kind_here ws at)).opens (step_at C entity m ws at)) (Ok Passes)

-- as a refusal of a node at a place, in the rule or relation of a name
abbrev pub told_by : ℕ → ℕ → OutCame → Result Out Refusal
told_by name at (Ok o) = Ok o
told_by name at (Err (number, other)) = Err (record { number = number; place = at; name = name; other = other })

-- the same in the code
abbrev pub refused_at : Node → Number → ℕ → Refusal
refused_at n number other = record { number = number_of number; place = n.note.place; name = n.root.name; other = other }

abbrev pub directed_by : Node → Direction → Result (ℕ × ℕ × ℕ) Refusal
directed_by n (Directed c r kind) = Ok (c, r, kind)
directed_by n (Open other) = Err (refused_at n DirectionOpen other)

-- by a direction: of an aggregate, of a test of membership, and of an OnlyRelated with its value's word
abbrev pub went_by : Node → Direction → Result Out Refusal
went_by n (Directed c r kind) = Ok (Opens c r kind)
went_by n (Open other) = Err (refused_at n DirectionOpen other)

abbrev pub tested_by : Node → Direction → Result Out Refusal
tested_by n (Directed c r kind) = Ok (Sets c r)
tested_by n (Open other) = Err (refused_at n DirectionOpen other)

abbrev pub told_input : Node → ℕ → Result (Unit {0}) Number → Result (Unit {0}) Refusal
told_input n name (Ok u) = Ok u
told_input n name (Err number) = Err (refused_at n number name)

abbrev pub allowed_by : (ℕ → ℕ → Result (Unit {0}) Number) → ℕ → Node → ℕ → Result (Unit {0}) Refusal
allowed_by allowed word n owner = pick (eqb (kind_of word) 84) (Err (refused_at n DerivedInput (value_of word))) (told_input n (value_of word) (allowed owner (value_of word)))

abbrev pub opened_by : ℕ → ℕ → Result (Unit {0}) Refusal → Result Out Refusal
opened_by c r (Ok u) = Ok (Opens c r 0)
opened_by c r (Err x) = Err x

abbrev pub only_by : (ℕ → ℕ → Result (Unit {0}) Number) → ℕ → Node → Direction → Result Out Refusal
only_by allowed word n (Directed c r owner) = opened_by c r (allowed_by allowed word n owner)
only_by allowed word n (Open other) = Err (refused_at n DirectionOpen other)

-- what is known of its relation
abbrev pub turned_in : Known → Node → Direction
turned_in k n = turn_at (tables_in k.tables.pack.now k.tables.acts.now k.tables.taken.now) k.tables.pack.now n.note.place n.entity

abbrev pub allowed_in : Known → Node → ℕ → Result (Unit {0}) Refusal
allowed_in k n owner = allowed_by (input_in k.tables.pack.now k.blocks.at k.blocks.count n.root.origin) (get_or k.tables.pack.now (n.note.place + 3) 0) n owner

abbrev pub only_in : Known → Node → Direction → Result Out Refusal
only_in k n d = only_by (input_in k.tables.pack.now k.blocks.at k.blocks.count n.root.origin) (get_or k.tables.pack.now (n.note.place + 3) 0) n d

abbrev pub aggregate_in : Known → Node → ℕ → Result Out Refusal
aggregate_in k n kind = pick (eqb kind 78) (only_in k n (turned_in k n)) (went_by n (turned_in k n))

abbrev pub member_at : Known → Node → Direction
member_at k n = member_direction (tables_in k.tables.pack.now k.tables.acts.now k.tables.taken.now) (value_in k.tables.pack.now n.note.place) (held n.note.lost (member_in k.tables.pack.now n.root.own)) (value_in k.tables.pack.now (n.note.place + 1)) (value_in k.tables.pack.now (n.note.place + 2))

abbrev pub tested_in : Known → Node → Result Out Refusal
tested_in k n = tested_by n (member_at k n)

abbrev pub OutFits : Result Out Refusal → Type 0
OutFits (Ok (Opens c r entity)) = (c < 16777216) × (r < 16777216)
OutFits (Ok (Sets c r)) = (c < 16777216) × (r < 16777216)
OutFits (Ok Passes) = Unit {0}
OutFits (Err s) = Unit {0}

-- what comes of it does not depend on the name of its rule or relation
pub record StepTaken (k : Known) (n : Node) (o : Result Out Refusal) : Type 0 where
  pub each : (root : Root) → root.origin ≡ n.root.origin
      → o ≡ told_by n.root.name n.note.place (out_at (citing (known_by k) root) n.entity (held n.note.lost (member_in k.tables.pack.now n.root.own)) k.tables.pack.now n.note.place)
  pub fits : OutFits o

-- ---- a rule or relation

abbrev pub root_in : List ℕ → code.Root → Root
root_in ws r = record { name = r.name; origin = r.origin; member = member_in ws r.own }

pub record RootOpened (ws acts : List ℕ) (at : ℕ) (r : code.Root) : Type 0 where
  pub rule : kind_here ws at ≡ 23 → (r.entity ≡ value_in ws (at + 2)) × (root_in ws r ≡ rule_root ws at)
  pub relation : (kind_here ws at ≡ 23 → ⊥) → (taken : List ℕ) (blocks count : ℕ)
      → (r.entity ≡ related_kind ((tables_in ws acts taken).derived (value_in ws at))) × (root_in ws r ≡ relation_root (known_in ws acts taken blocks count) ws at)

-- ---- notes

-- what comes of a note
abbrev pub NextBy : List ℕ → Outcome Work → Result code.Root Refusal → List ℕ → List ℕ → Type 0
NextBy ws (done s) o words notes = (r : code.Root) × (o ≡ Ok r) × (root_in ws r ≡ s.root) × (words ≡ s.words) × (notes ≡ s.results)
NextBy ws (refused x) o words notes = o ≡ Err x

-- the i-th note stands there, and its code in its place
pub record NoteAsked (ws words notes : List ℕ) (i : ℕ) : Type 0 where
  pub same : length words ≡ length ws
  pub inside : i < length notes
  pub n : Note
  pub is : get_or notes i 0 ≡ note_code n
  pub stands : Stands ws i n

pub record NoteTurned (k : Known) (i : ℕ) (r : code.Root) (words notes : List ℕ) (o : Result code.Root Refusal) (left kinds : List ℕ) : Type 0 where
  pub each : (n : Note) → get_or notes i 0 ≡ note_code n → Stands k.tables.pack.now i n → NextBy k.tables.pack.now (turn_note (known_by k) k.tables.pack.now i n (work words notes (root_in k.tables.pack.now r))) o left kinds
  pub long : length left ≡ length words
  pub wide : length kinds ≡ length notes
  pub others : (j : ℕ) → (j ≡ i → ⊥) → get_or kinds j 0 ≡ get_or notes j 0

-- where notes from a number on stand
abbrev pub Placed : List ℕ → ℕ → List Note → Type 0
Placed ws i [] = Unit {0}
Placed ws i (n ∷ ns) = Stands ws i n × Placed ws (suc i) ns

abbrev pub EndedBy : Outcome Work → Result (Unit {0}) Refusal → List ℕ → List ℕ → Type 0
EndedBy (done s) o words notes = (o ≡ Ok tt) × (words ≡ s.words) × (notes ≡ s.results)
EndedBy (refused x) o words notes = o ≡ Err x

pub record TurnsAsked (ws words notes : List ℕ) (from to : ℕ) : Type 0 where
  pub same : length words ≡ length ws
  pub inside : to ≤ length notes
  pub ns : List Note
  pub are : Held notes from ns
  pub many : to ≡ from + length ns
  pub placed : Placed ws from ns

-- the notes become results where something stands inside them
pub record NotesTurned (k : Known) (from to : ℕ) (words notes : List ℕ) (o : Result (Unit {0}) Refusal) (left kinds : List ℕ) : Type 0 where
  pub each : (ns : List Note) → Held notes from ns → to ≡ from + length ns → Placed k.tables.pack.now from ns
      → EndedBy (turn_notes (known_by k) k.tables.pack.now from ns (work words notes nowhere)) o left kinds
  pub long : length left ≡ length words
  pub wide : length kinds ≡ length notes
  pub earlier : (j : ℕ) → j < from → get_or kinds j 0 ≡ get_or notes j 0

-- ---- a pack

-- the tables of a checked pack, its notes, and a copy of its words
pub record PackAsked (ws acts taken words notes : List ℕ) (blocks count relations all : ℕ) : Type 0 where
  pub pack : Pack
  pub checked : read ws ≡ yes pack
  pub knows : known_in ws acts taken blocks count ≡ known_of pack
  pub copied : words ≡ ws
  pub noted : NotesIn pack notes relations all

-- its trees are resolved in the copy, or refused
abbrev pub TurnedAs : Outcome Pack → Result (Unit {0}) Refusal → List ℕ → Type 0
TurnedAs (done q) o left = (o ≡ Ok tt) × (left ≡ words q)
TurnedAs (refused r) o left = o ≡ Err r

abbrev pub PackTurned : List ℕ → Result (Unit {0}) Refusal → List ℕ → Type 0
PackTurned ws o left = OfPack ws (λ p. TurnedAs (trees_resolved p) o left)
