-- The directory that reading writes on its way: the relations in record order, and by name where each stands and what it declares.
use Rattle.std.specs.Prelude.{ℕ, ◌+◌, ◌*◌, ◌≤◌, ◌≡◌, List, [], ◌∷◌, Bool, length, get_or, set, drop, eqb, ltb, Result, Ok, Err}
use Rattle.std.proofs.Math.Option.{Option, none, some}
use Rattle.definitions.specs.declared.answer.Refusal.{Refusal}
use Rattle.records.specs.declared.directory.Layout.{Layout}
use Rattle.definitions.specs.Table.{pick}
use Rattle.definitions.specs.Table as table
use Rattle.definitions.specs.Form.{got, Form, words_by, read_by}
use Rattle.definitions.specs.Records.{Hop, Derivation, Relation}
use Rattle.definitions.specs.FieldRows.{ChainRow, MemberRow, RelationTail, RecordsRow}
use Rattle.definitions.specs.Pack.{defaulted, relations, rules}
use Rattle.definitions.specs.Places.{hops, relation_words}
use Rattle.pack.specs.Readers.{Step, on, step_of}

-- ---- readers that note

-- What a noting reader promises: its answer is that of its form; and if the form was read, what it notes in is as the value says.
-- Of a refusal nothing is said but the answer.
pub record Noted {A D : Type 0} (f : A → ℕ) (F : Form A) (note : A → D → D) (ws : List ℕ) (at : ℕ) (d : D) (r : Step) (d' : D) : Type 0 where
  pub answers : r ≡ step_of f F ws at
  pub notes : (a : A) (next : ℕ) (rest : List ℕ) → read_by F at (drop at ws) ≡ got a next rest → d' ≡ note a d

-- values in a row: each is noted by its number and its place
unfoldable pub notes_all : {A D : Type 0} → (A → List ℕ) → (ℕ → ℕ → A → D → D) → ℕ → ℕ → List A → D → D
notes_all W note i at [] d = d
notes_all W note i at (a ∷ l) d = notes_all W note (i + 1) (at + length (W a)) l (note i at a d)

-- ---- what is noted of a relation

-- "a source and path none lead on to the source": the name and 1, 0 for none
unfoldable pub lead_of : ℕ → Option (List Hop) → ℕ
lead_of source none = pick (eqb source table.none) 0 (source + 1)
lead_of source (some l) = 0

-- by the count of the path
abbrev pub lead_in : ℕ → ℕ → ℕ
lead_in source steps = pick (eqb steps table.none) (pick (eqb source table.none) 0 (source + 1)) 0

abbrev pub chain_lead : ChainRow → ℕ
chain_lead t = lead_of t.0 t.1.0

abbrev pub entities : MemberRow → ℕ
entities t = length t.1.1.0

-- how far behind the place of a relation with so many kinds the slots of its derivation stand
abbrev pub slots_behind : ℕ → Derivation → ℕ
slots_behind kinds d = 7 + kinds + 3 * hops d.path

-- Two numbers in one: how far behind its place the count of the list stands that settles it, 0 if no list does; and, times 64,
-- its link: 0 without a derivation, how far behind its place its slots stand, or 64 and the name that it leads on to.
-- A list 21 with names settles it, else a list 9 with names; else it may lead on.
abbrev pub plain_by : ℕ → ℕ
plain_by kinds = pick (eqb kinds 0) 0 3

abbrev pub derived_note : ℕ → ℕ → ℕ → ℕ → ℕ
derived_note kinds slots many lead =
    pick (eqb many 0) (pick (eqb kinds 0) (pick (eqb lead 0) (64 * slots) (64 * (63 + lead))) (3 + 64 * slots)) (slots + 4 + 64 * slots)

-- of a derivation with such a chain, by what follows the chain
abbrev pub member_note : ℕ → ℕ → ℕ → MemberRow → ℕ
member_note kinds slots lead t = derived_note kinds slots (entities t) lead

unfoldable pub note_in : ℕ → Option Derivation → ℕ
note_in kinds none = plain_by kinds
note_in kinds (some d) = derived_note kinds (slots_behind kinds d) (length d.slot_entities) (lead_of d.source d.path)

abbrev pub tail_note : RelationTail → ℕ
tail_note t = note_in (length t.1.1.0) t.1.1.1

-- ---- the directory: 512 names in record order, then a word for each name

unfoldable pub entered : List ℕ → ℕ → Bool
entered d v = ltb 0 (get_or d (512 + v) 0)

-- the word of a relation that starts at a place
abbrev pub entry : ℕ → Relation → ℕ
entry at r = at + 8192 * note_in (length r.slot_kinds) r.derivation

unfoldable pub note_relation : ℕ → ℕ → Relation → List ℕ → List ℕ
note_relation i at r d = set (set d i r.name) (512 + r.name) (entry at r)

abbrev pub note_relations : ℕ → ℕ → List Relation → List ℕ → List ℕ
note_relations n at l d = notes_all (relation_words n) note_relation 0 (at + 1) l d

-- room for so many names, of which none has a relation: a clause, as the directory is lent, filled, and read by the lender
pub record Clear (n : ℕ) (d : List ℕ) : Type 0 where
  pub long : 512 + n ≤ length d
  pub clear : (v : ℕ) → get_or d (512 + v) 0 ≡ 0

-- ---- all records

-- where the sorts of records stand that are read from a place on
unfoldable pub relations_at : ℕ → ℕ → RecordsRow → ℕ
relations_at n at t = at + length (words_by (defaulted n) t.0)

unfoldable pub rules_at : ℕ → ℕ → RecordsRow → ℕ
rules_at n at t = relations_at n at t + length (words_by (relations n) t.1.0)

unfoldable pub blocks_at : ℕ → ℕ → RecordsRow → ℕ
blocks_at n at t = rules_at n at t + length (words_by (rules n) t.1.1.0)

-- with so many notes of relations, and so many in all
unfoldable pub layout_of : ℕ → ℕ → ℕ → RecordsRow → ℕ → ℕ → Layout
layout_of n at end t first all =
    record { names = n; relations = length t.1.0; rules = rules_at n at t; blocks = blocks_at n at t; end = end; noted = first; all = all }

unfoldable pub directory_of : ℕ → ℕ → RecordsRow → List ℕ → List ℕ
directory_of n at t d = note_relations n (relations_at n at t) t.1.0 d

-- where the records stand, or a refusal
abbrev pub Laid : Type 0
Laid = Result Layout Refusal

-- a layout as a step
abbrev pub step_in : Laid → Step
step_in (Ok l) = on 0 (record { at = l.end })
step_in (Err r) = Err r
