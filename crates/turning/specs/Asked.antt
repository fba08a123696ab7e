-- What stamping asks for, from the notes. 01, "Resolving", 4: "that some atom or Exists names, or whose predicate holds kinds 102 to 104".
use Rattle.std.specs.Prelude.{ℕ, ◌+◌, ◌<◌, ◌≡◌, List, [], ◌∷◌, Bool, true, ◌||◌, length, set, eqb, Some, None}
use Rattle.std.specs.declared.option.Option.{Option}
use Rattle.definitions.specs.Table.{pick}
use Rattle.definitions.specs.Lean.{any}
use Rattle.definitions.specs.Resolving.{role_judgment, atom_of}
use Rattle.turning.specs.Notes.{Note, note_code, Held}
use Rattle.turning.specs.Turns.{value_in, kind_here}

-- whether some note's word is of a sort
abbrev pub some_note : (ℕ → ℕ → Bool) → List ℕ → List Note → Bool
some_note is ws ns = any (λ (n : Note). is (kind_here ws n.place) (value_in ws n.place)) ns

-- an atom or Exists of a name
abbrev pub named_in : List ℕ → List Note → ℕ → Bool
named_in ws ns name = some_note (atom_of name) ws ns

-- a judgment of the kinds 102 to 104
abbrev pub roles_in : List ℕ → List Note → Bool
roles_in ws ns = some_note role_judgment ws ns

-- ---- in a table by name

-- the relation in whose predicate the notes after this one stand, if any
unfoldable pub relation_after : List ℕ → Note → Option ℕ → Option ℕ
relation_after ws n current = pick (eqb n.inside 0) (pick (eqb (kind_here ws n.place) 6) (Some (value_in ws n.place)) None) current

-- its mark
abbrev pub mark_if : Option ℕ → List Bool → List Bool
mark_if (Some name) t = set t name true
mark_if None t = t

-- an atom or Exists marks the name that it names, and any of the kinds 102 to 104 the relation in whose predicate it stands
abbrev pub atom_marked : ℕ → ℕ → List Bool → List Bool
atom_marked k v t = pick (eqb k 102 || eqb k 103) (set t v true) t

abbrev pub role_marked : ℕ → ℕ → Option ℕ → List Bool → List Bool
role_marked k v current t = pick (role_judgment k v) (mark_if current t) t

unfoldable pub mark_note : List ℕ → Note → Option ℕ → List Bool → List Bool
mark_note ws n current t =
    pick (eqb n.inside 0) t
    (role_marked (kind_here ws n.place) (value_in ws n.place) current (atom_marked (kind_here ws n.place) (value_in ws n.place) t))

unfoldable pub mark_notes : List ℕ → List Note → Option ℕ → List Bool → List Bool
mark_notes ws [] current t = t
mark_notes ws (n ∷ ns) current t = mark_notes ws ns (relation_after ws n current) (mark_note ws n current t)

-- what the functions that mark promise each other
abbrev pub InWords : List ℕ → List Note → Type 0
InWords ws [] = Unit {0}
InWords ws (n ∷ ns) = (n.place + 1 < 8192) × (n.place < length ws) × InWords ws ns

pub record MarkAsked (ws : List ℕ) (code : ℕ) : Type 0 where
  pub n : Note
  pub is : code ≡ note_code n
  pub near : n.place + 1 < 8192
  pub there : n.place < length ws

pub record NoteMarked (ws : List ℕ) (code : ℕ) (current : Option ℕ) (t : List Bool) (next : Option ℕ) (left : List Bool) : Type 0 where
  pub each : (n : Note) → code ≡ note_code n → n.place + 1 < 8192 → (next ≡ relation_after ws n current) × (left ≡ mark_note ws n current t)
  pub long : length left ≡ length t

pub record MarksAsked (ws notes : List ℕ) (all : ℕ) : Type 0 where
  pub ns : List Note
  pub are : Held notes 1 ns
  pub many : all ≡ length ns
  pub room : all < length notes
  pub there : InWords ws ns

abbrev pub NotesMarked : List ℕ → List ℕ → ℕ → List Bool → List Bool → Type 0
NotesMarked ws notes all t left = (ns : List Note) → Held notes 1 ns → all ≡ length ns → InWords ws ns → left ≡ mark_notes ws ns None t
