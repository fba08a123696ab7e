-- The search along edges: marks by name say which names are reached, and the queue has them in the order in which they were.
use Rattle.std.specs.Prelude.{ℕ, suc, ◌+◌, ◌<◌, ◌≤◌, ◌≡◌, List, [], ◌∷◌, Bool, true, false, Option, Some, None, length, get_or, set}
use Rattle.definitions.specs.Table.{pick}
use Rattle.definitions.specs.Form.{among}
use Rattle.definitions.specs.Lean.{Leads}
use Rattle.chains.specs.DirectoryWord.{Reaches}
use Rattle.kinds.specs.Edges.{edges_by}

-- how far a search is: the marks, the queue, how many names are in it, and how many of these are entered
pub record Search : Type 0 where
  pub marks : List Bool
  pub queue : List ℕ
  pub count : ℕ
  pub entered : ℕ

abbrev pub searched : List Bool → List ℕ → ℕ → ℕ → Search
searched marks queue count entered = record { marks = marks; queue = queue; count = count; entered = entered }

-- a name is reached: it is marked and queued if it was not before
unfoldable pub reached : ℕ → Search → Search
reached n s = pick (get_or s.marks n false) s (searched (set s.marks n true) (set s.queue s.count n) (s.count + 1) s.entered)

-- some names, one after the other
unfoldable pub reached_all : List ℕ → Search → Search
reached_all [] s = s
reached_all (n ∷ ns) s = reached_all ns (reached n s)

-- the number of names that are not reached
unfoldable pub unmarked : List Bool → ℕ
unmarked [] = 0
unmarked (m ∷ ms) = pick m (unmarked ms) (suc (unmarked ms))

-- the queue has room for all names that are not reached
abbrev pub QueueHasRoom : Search → Type 0
QueueHasRoom s = unmarked s.marks + s.count ≤ length s.queue

-- what reaching some names asks for: each has a mark
pub record Reachable (names : List ℕ) (s : Search) : Type 0 where
  pub below : (n : ℕ) → among n names ≡ true → n < length s.marks

-- the next name in the queue is taken to be entered, if there is one
abbrev pub NextTaken : Search → Option ℕ → Search → Type 0
NextTaken s None t = (s.count ≤ s.entered) × (t ≡ s)
NextTaken s (Some n) t = (s.entered < s.count) × (n ≡ get_or s.queue s.entered 0) × (t ≡ searched s.marks s.queue s.count (s.entered + 1))

-- what a search from a name to another asks for: marks that are clear, for both and for all names to which edges lead, and room to queue them
pub record Searchable (ws dir : List ℕ) (a b : ℕ) (marks : List Bool) (queue : List ℕ) : Type 0 where
  pub reaches : Reaches dir (length marks)
  pub from : a < length marks
  pub to : b < length marks
  pub edges : (n m : ℕ) → among m (edges_by ws dir n) ≡ true → m < length marks
  pub clear : (m : ℕ) → get_or marks m false ≡ false
  pub room : length marks ≤ length queue

-- what is computed is whether one or more edges lead from a name to another
pub record Computes (computed : Bool) (edges : ℕ → List ℕ) (a b : ℕ) : Type 0 where
  pub sound : computed ≡ true → Leads edges a b
  pub complete : Leads edges a b → computed ≡ true
