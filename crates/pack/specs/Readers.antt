-- What the functions that read a part of a pack answer: the forms' readers, of whose values a number is kept.
use Rattle.std.specs.Prelude.{ℕ, ◌+◌, Bool, List, [], ◌∷◌, drop, get_or, eqb, Result, Ok, Err}
use Rattle.pack.specs.declared.cursor.Cursor.{Cursor}
use Rattle.definitions.specs.declared.answer.Refusal.{Refusal}
use Rattle.definitions.specs.Table.{word_of}
use Rattle.definitions.specs.Form.{Read, got, refused, Form, field, read_all, read_by}
use Rattle.definitions.specs.Records.{Relation}

-- a number that is kept of a value, and the place after it; or a refusal
abbrev pub Step : Type 0
Step = Result (ℕ × Cursor) Refusal

abbrev pub on : ℕ → Cursor → Step
on v k = Ok (v, k)

-- the number that is kept of a value, and the place after it; or the refusal
abbrev pub step_by : {A : Type 0} → (A → ℕ) → Read A → Step
step_by f (got a at ws) = on (f a) (record { at = at })
step_by f (refused r) = Err r

-- a form that is read at a place of the words
unfoldable pub step_of : {A : Type 0} → (A → ℕ) → Form A → List ℕ → ℕ → Step
step_of f F ws at = step_by f (read_by F at (drop at ws))

-- a form that is walked over
abbrev pub skip_over : {A : Type 0} → Form A → List ℕ → ℕ → Step
skip_over F = step_of (λ a. 0) F

abbrev pub itself : ℕ → ℕ
itself v = v

-- a word of a kind: its value
abbrev pub field_step : ℕ → ℕ → List ℕ → ℕ → Step
field_step n kind = step_of itself (field n kind)

abbrev pub next_word : ℕ → List ℕ → Step
next_word at [] = Err (record { number = 3; place = at; name = 0; other = 0 })
next_word at (w ∷ ws) = on w (record { at = at + 1 })

-- the word at a place, whatever it is
unfoldable pub word_step : List ℕ → ℕ → Step
word_step ws at = next_word at (drop at ws)

-- a head word is kept whole
abbrev pub whole_word : ℕ × ℕ → ℕ
whole_word t = word_of t.0 t.1

-- so many that follow one another
unfoldable pub skip_all : {S A : Type 0} → (S → A → S) → (S → Form A) → ℕ → S → List ℕ → ℕ → Step
skip_all step F n s ws at = step_by (λ l. 0) (read_all step (λ u b vs. read_by (F u) b vs) n s at (drop at ws))

-- whether a name's mark is set
abbrev pub marked : List ℕ → ℕ → Bool
marked marks v = eqb (get_or marks v 0) 1

abbrev pub name_of : Relation → ℕ
name_of r = r.name
