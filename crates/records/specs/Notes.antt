-- What the readers of records leave in the array of notes: each rule and each derived relation is noted, and then the nodes of its trees.
use Rattle.std.specs.Prelude.{ℕ, ◌+◌, ◌*◌, List, false, ◌≡◌, length, get_or, drop, Ok}
use Rattle.std.proofs.Math.Option.{Option, none, some}
use Rattle.definitions.specs.Form.{got, words_by, read_by}
use Rattle.pack.specs.Readers.{skip_over}
use Rattle.definitions.specs.Records.{Body, Rule, Derivation, Relation, undated}
use Rattle.definitions.specs.FieldRows.{MemberRow, RelationTail, RecordsRow}
use Rattle.definitions.specs.Pack.{body, rule, records}
use Rattle.definitions.specs.Places.{hops, relation_words}
use Rattle.reading.specs.Notes.{note, context_of, note_code}
use Rattle.reading.specs.Noting.{push, next_note, note_tree}
use Rattle.records.specs.Directory.{Laid, notes_all, note_relation, relations_at, rules_at, layout_of, directory_of, step_in}

-- a rule or relation at a place, inside no other note
abbrev pub opened : ℕ → List ℕ → List ℕ
opened at d = push (note_code (note at 0 false)) d

-- the context of its trees
abbrev pub inside : List ℕ → ℕ
inside d = context_of (next_note d) false

-- ---- rules

-- a body is its 27 and the tree
abbrev pub note_body : ℕ → ℕ → Body → List ℕ → List ℕ
note_body context at b d = (note_tree context b.tree (at + 1, d)).1

abbrev pub body_at : ℕ → ℕ → ℕ → Body → List ℕ → List ℕ
body_at context i at b d = note_body context at b d

-- the bodies stand after a count
unfoldable pub note_bodies : ℕ → ℕ → ℕ → Body × List Body → List ℕ → List ℕ
note_bodies n context at t d =
    notes_all (words_by (body n)) (body_at context) 0 (at + 1 + length (words_by (body n) t.0)) t.1 (note_body context (at + 1) t.0 d)

-- and that after 23, 24 and 25
unfoldable pub note_rule : ℕ → ℕ → ℕ → Rule → List ℕ → List ℕ
note_rule n i at r d = note_bodies n (inside d) (at + 3) (r.semantics, r.versions) (opened at d)

abbrev pub note_rules : ℕ → ℕ → List Rule → List ℕ → List ℕ
note_rules n at l d = notes_all (words_by (rule n)) (note_rule n) 0 (at + 1) l d

-- ---- relations

-- the predicate after 19, 20 and 21 with its names
abbrev pub note_member : ℕ → ℕ → MemberRow → List ℕ → List ℕ
note_member context at t d = (note_tree context t.1.1.1 (at + 3 + length t.1.1.0, d)).1

-- a derivation at a place, of the relation that starts at another: these stand after 12, 13 with its steps, 17 and 18
abbrev pub note_derivation : ℕ → ℕ → Derivation → List ℕ → List ℕ
note_derivation start at d e = (note_tree (inside e) d.predicate (at + 4 + 3 * hops d.path + 3 + length d.slot_entities, opened start e)).1

-- a derivation after its flag; without one nothing is noted
abbrev pub note_optional : ℕ → ℕ → Option Derivation → List ℕ → List ℕ
note_optional start at none e = e
note_optional start at (some d) e = note_derivation start (at + 1) d e

-- the flag stands after 7, 8, and 9 with its kinds
abbrev pub note_tail : ℕ → ℕ → RelationTail → List ℕ → List ℕ
note_tail start at t e = note_optional start (at + 3 + length t.1.1.0) t.1.1.1 e

unfoldable pub note_predicate : ℕ → ℕ → Relation → List ℕ → List ℕ
note_predicate i at r e = note_optional at (at + 4 + length r.slot_kinds) r.derivation e

abbrev pub note_predicates : ℕ → ℕ → List Relation → List ℕ → List ℕ
note_predicates n at l e = notes_all (relation_words n) note_predicate 0 (at + 1) l e

-- a relation in the directory and in the notes
abbrev pub Both : Type 0
Both = List ℕ × List ℕ

unfoldable pub note_both : ℕ → ℕ → Relation → Both → Both
note_both i at r d = (note_relation i at r d.0, note_predicate i at r d.1)

abbrev pub note_all : ℕ → ℕ → List Relation → Both → Both
note_all n at l d = notes_all (relation_words n) note_both 0 (at + 1) l d

-- ---- all records from a place on: after the relations, and after the rules

unfoldable pub relations_left : ℕ → ℕ → RecordsRow → List ℕ → List ℕ
relations_left n at t e = note_predicates n (relations_at n at t) t.1.0 e

unfoldable pub notes_left : ℕ → ℕ → RecordsRow → List ℕ → List ℕ
notes_left n at t e = note_rules n (rules_at n at t) t.1.1.0 (relations_left n at t e)

-- The answer; and if they were read, where they stand, what is noted of them in the directory, and the notes.
pub record LaidOut (n : ℕ) (ws : List ℕ) (at : ℕ) (d e : List ℕ) (r : Laid) (d' e' : List ℕ) : Type 0 where
  pub answers : step_in r ≡ skip_over (records undated n) ws at
  pub lays : (t : RecordsRow) (next : ℕ) (rest : List ℕ) → read_by (records undated n) at (drop at ws) ≡ got t next rest
      → r ≡ Ok (layout_of n at next t (get_or (relations_left n at t e) 0 0) (get_or (notes_left n at t e) 0 0))
  pub enters : (t : RecordsRow) (next : ℕ) (rest : List ℕ) → read_by (records undated n) at (drop at ws) ≡ got t next rest → d' ≡ directory_of n at t d
  pub notes : (t : RecordsRow) (next : ℕ) (rest : List ℕ) → read_by (records undated n) at (drop at ws) ≡ got t next rest → e' ≡ notes_left n at t e
