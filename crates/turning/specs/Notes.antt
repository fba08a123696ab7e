-- The notes of a pack: in word order, the rules, the derived relations and the nodes of their trees that resolving looks at.
use Rattle.std.specs.Prelude.{ℕ, suc, ◌+◌, ◌<◌, ◌≡◌, List, [], ◌∷◌, ◌++◌, false, length, get_or}
use Rattle.std.proofs.Math.Option.{Option, none, some}
use Rattle.definitions.specs.Records.{Derivation, Relation, Body, Rule, Pack}
use Rattle.definitions.specs.Places.{relation_words, first_relation}
use Rattle.definitions.specs.Resolving.{predicate_place, rule_words, first_rule}
use Rattle.directions.specs.RecordRuns.{body_words}
pub use Rattle.reading.specs.Notes.{Look, look_of, Note, note, within, context_of, note_code}
unfoldable pub use Rattle.definitions.specs.Tree.{size}
unfoldable pub use Rattle.reading.specs.Notes.{look_by, noted, notes_of, notes_in}

-- those of a run of records, one after the other from a place on
unfoldable pub notes_run : {A : Type 0} → (A → List ℕ) → (ℕ → ℕ → A → List Note) → ℕ → ℕ → List A → List Note
notes_run W N i at [] = []
notes_run W N i at (a ∷ l) = N i at a ++ notes_run W N (i + length (N i at a)) (at + length (W a)) l

-- a body is its 27 and the tree
abbrev pub body_notes : ℕ → ℕ → ℕ → Body → List Note
body_notes inside i at b = notes_of i inside false (at + 1) b.tree

-- a rule, and its bodies after 23, 24, 25 and 26
unfoldable pub rule_notes : ℕ → ℕ → Rule → List Note
rule_notes i at r = note at 0 false ∷ notes_run body_words (body_notes i) (suc i) (at + 4) (r.semantics ∷ r.versions)

-- a relation with a derivation, and its predicate
abbrev pub derived_notes : ℕ → ℕ → Relation → Option Derivation → List Note
derived_notes i at r none = []
derived_notes i at r (some d) = note at 0 false ∷ notes_of (suc i) i false (at + predicate_place r d) d.predicate

unfoldable pub relation_notes : ℕ → ℕ → Relation → List Note
relation_notes i at r = derived_notes i at r r.derivation

-- relations stand first; all are numbered through, from 1 on
unfoldable pub relations_noted : Pack → List Note
relations_noted p = notes_run (relation_words p.names) relation_notes 1 (first_relation p) p.relations

unfoldable pub rules_noted : Pack → List Note
rules_noted p = notes_run (rule_words p.names) rule_notes (1 + length (relations_noted p)) (first_rule p) p.rules

abbrev pub notes_of_pack : Pack → List Note
notes_of_pack p = relations_noted p ++ rules_noted p

-- ---- in an array

-- codes of notes from an index on
abbrev pub Held : List ℕ → ℕ → List Note → Type 0
Held notes i [] = Unit {0}
Held notes i (n ∷ ns) = (get_or notes i 0 ≡ note_code n) × Held notes (suc i) ns

-- the notes of a pack, from index 1 on: so many of relations, so many in all
pub record NotesIn (p : Pack) (notes : List ℕ) (relations all : ℕ) : Type 0 where
  pub room : all < length notes
  pub held : Held notes 1 (notes_of_pack p)
  pub first : relations ≡ length (relations_noted p)
  pub many : all ≡ length (notes_of_pack p)
