-- What Check with a directory promises.
use Rattle.std.specs.Prelude.{Ok, Err}
use Rattle.std.specs.Prelude.{ℕ, ◌≡◌, List, length, get_or, leb}
use Rattle.definitions.specs.Answers.{Answer}
use Rattle.definitions.specs.Table.{pick, value_of}
use Rattle.definitions.specs.Form.{got, read_by}
use Rattle.definitions.specs.Records.{undated, Pack}
use Rattle.definitions.specs.FieldRows.{RecordsRow, to_row}
use Rattle.definitions.specs.Pack.{layout, yes, read}
use Rattle.pack.specs.Readers.{skip_over}
use Rattle.definitions.specs.Answers.{says_yes}
use Rattle.definitions.specs.Checking.{check_answer}
use Rattle.records.specs.Directory.{Laid}
use Rattle.records.specs.Directory.{step_in, layout_of, directory_of}
use Rattle.records.specs.Notes.{relations_left, notes_left}

-- N as word 1 says it, where that may be N; else 0
unfoldable pub names_said : List ℕ → ℕ
names_said ws = pick (leb (value_of (get_or ws 1 0)) 4096) (value_of (get_or ws 1 0)) 0

-- all the words of a slice of so many, of which the records start at word 2
pub record LaidWhole (len : ℕ) (ws d e : List ℕ) (r : Laid) (d' e' : List ℕ) : Type 0 where
  pub answers : step_in r ≡ skip_over (layout undated len) ws 0
  pub lays : (t : ℕ × (ℕ × RecordsRow)) (next : ℕ) (rest : List ℕ) → read_by (layout undated len) 0 ws ≡ got t next rest
      → r ≡ Ok (layout_of t.1.0 2 next t.1.1 (get_or (relations_left t.1.0 2 t.1.1 e) 0 0) (get_or (notes_left t.1.0 2 t.1.1 e) 0 0))
  pub enters : (t : ℕ × (ℕ × RecordsRow)) (next : ℕ) (rest : List ℕ) → read_by (layout undated len) 0 ws ≡ got t next rest → d' ≡ directory_of t.1.0 2 t.1.1 d
  pub notes : (t : ℕ × (ℕ × RecordsRow)) (next : ℕ) (rest : List ℕ) → read_by (layout undated len) 0 ws ≡ got t next rest → e' ≡ notes_left t.1.0 2 t.1.1 e

abbrev pub answer_in : Laid → Answer
answer_in (Ok l) = says_yes
answer_in (Err r) = Err r

-- Check's answer; and of a pack, where its records stand, the directory of its relations, and the notes
pub record CheckedNotes (ws d e : List ℕ) (r : Laid) (d' e' : List ℕ) : Type 0 where
  pub answers : answer_in r ≡ check_answer ws
  pub lays : (p : Pack) → read ws ≡ yes p
      → r ≡ Ok (layout_of p.names 2 (length ws) (to_row p).1 (get_or (relations_left p.names 2 (to_row p).1 e) 0 0) (get_or (notes_left p.names 2 (to_row p).1 e) 0 0))
  pub enters : (p : Pack) → read ws ≡ yes p → d' ≡ directory_of p.names 2 (to_row p).1 d
  pub notes : (p : Pack) → read ws ≡ yes p → e' ≡ notes_left p.names 2 (to_row p).1 e

-- the same without the notes
pub record DirectoryChecked (ws d : List ℕ) (r : Laid) (d' : List ℕ) : Type 0 where
  pub answers : answer_in r ≡ check_answer ws
  pub lays : (p : Pack) → read ws ≡ yes p → (first : ℕ) × (all : ℕ) × (r ≡ Ok (layout_of p.names 2 (length ws) (to_row p).1 first all))
  pub enters : (p : Pack) → read ws ≡ yes p → d' ≡ directory_of p.names 2 (to_row p).1 d
