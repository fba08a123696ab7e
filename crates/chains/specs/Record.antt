-- What the code reads of a relation from the words of a pack, at the place where its record starts.
use Rattle.std.specs.Prelude.{ℕ, zero, suc, ◌+◌, ◌*◌, ◌<◌, ◌≤◌, List, [], ◌∷◌, length, get_or}
use Rattle.definitions.specs.Table.{value_of}
use Rattle.definitions.specs.Form.{repeats}

unfoldable pub value_at : List ℕ → ℕ → ℕ
value_at ws at = value_of (get_or ws at 0)

-- of the relation whose record starts at a place: the number of its slot kinds (9), its flag (11), and the place of its current slot (17)
unfoldable pub kind_count : List ℕ → ℕ → ℕ
kind_count ws start = value_at ws (start + 3)

unfoldable pub flag_at : List ℕ → ℕ → ℕ
flag_at ws start = value_at ws (start + 4 + kind_count ws start)

unfoldable pub slots_place : List ℕ → ℕ → ℕ
slots_place ws start = start + 4 + kind_count ws start + 3 + 3 * repeats (value_at ws (start + 4 + kind_count ws start + 2))

-- the relations (14) that so many steps of a path name, from a place on; a step has three words
unfoldable pub steps_in : List ℕ → ℕ → ℕ → List ℕ
steps_in ws at zero = []
steps_in ws at (suc k) = value_at ws at ∷ steps_in ws (at + 3) k

-- those of the path whose count (13) stands at a place
unfoldable pub path_in : List ℕ → ℕ → List ℕ
path_in ws at = steps_in ws (at + 1) (repeats (value_at ws at))

-- the number of names in its list 21, whose count stands after 17 to 20
unfoldable pub entity_count : List ℕ → ℕ → ℕ
entity_count ws start = value_at ws (slots_place ws start + 4)

-- each record starts at a word of the slice, which has at most 8,192, so that sums of places stay small
pub record Recorded (ws records : List ℕ) : Type 0 where
  pub within : (n : ℕ) → get_or records n 0 < length ws
  pub few : length ws ≤ 8192
