-- What the directory says of a name: its word is 0, or the place of its relation and what is noted of it (records, `Directory`).
use Rattle.std.specs.Prelude.{ℕ, ◌+◌, ◌-◌, ◌/◌, ◌%◌, ◌≤◌, List, length, get_or, take, eqb, ltb}
use Rattle.definitions.specs.Table.{pick}
use Rattle.definitions.specs.Answers.{table_from}

-- a directory with a word for each of so many names: a clause and no field of a struct, as the names change from call to call
pub record Reaches (dir : List ℕ) (names : ℕ) : Type 0 where
  pub most : names ≤ 4096
  pub long : 512 + names ≤ length dir

abbrev pub word_in : List ℕ → ℕ → ℕ
word_in dir m = get_or dir (512 + m) 0

-- the place of its relation
abbrev pub start_by : ℕ → ℕ
start_by w = w % 8192

-- its declaration as one number: the place where its list is counted, 0 for no kinds, or 65536 and the name that it leads on to
abbrev pub declared_by : ℕ → ℕ
declared_by w = pick (eqb (w / 8192 % 64) 0) (pick (ltb (w / 8192 / 64) 64) 0 (65536 + (w / 8192 / 64 - 64))) (w % 8192 + w / 8192 % 64)

-- the place of its slots, 0 without a derivation; those of a relation that leads on stand 7 behind its place
abbrev pub slots_by : ℕ → ℕ
slots_by w = pick (eqb (w / 8192 / 64) 0) 0 (w % 8192 + pick (ltb (w / 8192 / 64) 64) (w / 8192 / 64) 7)

unfoldable pub start_in : List ℕ → ℕ → ℕ
start_in dir m = start_by (word_in dir m)

unfoldable pub declared_in : List ℕ → ℕ → ℕ
declared_in dir m = declared_by (word_in dir m)

unfoldable pub slot_in : List ℕ → ℕ → ℕ
slot_in dir m = slots_by (word_in dir m)

-- the same of all names
unfoldable pub slots_in : List ℕ → List ℕ
slots_in dir = table_from (slot_in dir) 0 4096

unfoldable pub starts_in : List ℕ → List ℕ
starts_in dir = table_from (start_in dir) 0 4096

unfoldable pub declarations_in : List ℕ → List ℕ
declarations_in dir = table_from (declared_in dir) 0 4096

-- the names of so many relations in record order
abbrev pub names_in : List ℕ → ℕ → List ℕ
names_in dir count = take count dir
