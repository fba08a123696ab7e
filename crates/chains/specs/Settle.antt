-- The chain walk over a table by name: answers are places, and marks say which names are settled or on the path.
use Rattle.std.specs.Prelude.{ℕ, zero, suc, ◌+◌, ◌-◌, ◌*◌, ◌<◌, ◌≤◌, ◌≡◌, List, [], length, get_or, set, ltb, eqb, true}
use Rattle.std.proofs.Math.Option.{none, some}
use Rattle.definitions.specs.Table.{pick}
use Rattle.definitions.specs.Form.{among}
use Rattle.definitions.specs.Chain.{Link, end, next, Settled, Walked, walk, AllWalked, walks_from, same, nothing, own, walk_all}

-- what one entry of the table says
unfoldable pub link_at : List ℕ → ℕ → Link ℕ
link_at table n = pick (ltb (get_or table n 0) 65536) (end (get_or table n 0)) (next (get_or table n 0 - 65536))

-- every entry is a place or leads to one of so many names
unfoldable pub Leading : ℕ → List ℕ → Type 0
Leading names table = (n : ℕ) → get_or table n 0 < 65536 + names

-- what the marks say is settled: 2 and the answer
unfoldable pub settled_in : List ℕ → Settled ℕ
settled_in marks n = pick (ltb (get_or marks n 0) 2) none (some (get_or marks n 0 - 2))

-- the names on the path have the mark 1
unfoldable pub OnPath : List ℕ → List ℕ → Type 0
OnPath marks path = (n : ℕ) → among n path ≡ eqb (get_or marks n 0) 1

-- a walk in which every name's answer is a place, 0 in a ring
abbrev pub walk_in : List ℕ → ℕ → Settled ℕ → List ℕ → ℕ → Walked ℕ
walk_in table fuel t path n = walk 0 same (link_at table) fuel t path n

-- one name read adds one to the steps
pub record ReadOne (table : List ℕ) (n steps r steps' : ℕ) : Type 0 where
  pub says : r ≡ get_or table n 0
  pub counts : steps' ≡ steps + 1

-- every settled answer is a place
unfoldable pub Marked : List ℕ → Type 0
Marked marks = (n : ℕ) → get_or marks n 0 < 65538

-- what a walk asks for: a name that has a mark, a table that leads to such names, and room for as many more steps as there is fuel
pub record Walkable (table marks : List ℕ) (steps n fuel : ℕ) : Type 0 where
  pub name : n < length marks
  pub leading : Leading (length marks) table
  pub marked : Marked marks
  pub room : steps + fuel < 4294967295

-- what a walk leaves: its answer, what is settled, the steps, and the path's marks as they were
pub record WalkedHere (table marks : List ℕ) (steps n fuel r : ℕ) (marks' : List ℕ) (steps' : ℕ) : Type 0 where
  pub answers : (path : List ℕ) → OnPath marks path → r ≡ (walk_in table fuel (settled_in marks) path n).answer
  pub settles : (path : List ℕ) → OnPath marks path → settled_in marks' ≡ (walk_in table fuel (settled_in marks) path n).settled
  pub counts : (path : List ℕ) → OnPath marks path → steps' ≡ steps + (walk_in table fuel (settled_in marks) path n).steps
  pub path : (m : ℕ) → eqb (get_or marks' m 0) 1 ≡ eqb (get_or marks m 0) 1
  pub long : length marks' ≡ length marks
  pub marked : Marked marks'
  pub small : r < 65536
  pub fits : steps' ≤ steps + fuel

-- the name that an entry leads on to
abbrev pub next_in : List ℕ → ℕ → ℕ
next_in table n = get_or table n 0 - 65536

-- so many names along the chain from a name get a mark
unfoldable pub marked_path : List ℕ → ℕ → ℕ → ℕ → List ℕ → List ℕ
marked_path table mark zero n marks = marks
marked_path table mark (suc k) n marks = set (marked_path table mark k (next_in table n) marks) n mark

-- what a walk leaves before its answer settles its path: as many names as were read are on it
pub record WentAhead (table marks : List ℕ) (steps n fuel r : ℕ) (marks' : List ℕ) (steps' : ℕ) : Type 0 where
  pub walked : WalkedHere table marks steps n fuel r (marked_path table (2 + r) (steps' - steps) n marks') steps'
  pub more : steps ≤ steps'
  pub long : length marks' ≡ length marks

abbrev pub walks_in : List ℕ → ℕ → List ℕ → Settled ℕ → ℕ → AllWalked ℕ
walks_in table fuel starts t k = walks_from 0 same (link_at table) fuel starts t k

-- what walks from all starts ask for
pub record Settleable (table marks starts : List ℕ) (steps fuel : ℕ) : Type 0 where
  pub names : (j : ℕ) → get_or starts j 0 < length marks
  pub leading : Leading (length marks) table
  pub marked : Marked marks
  pub idle : OnPath marks []
  pub room : steps + length starts * fuel < 4294967295

-- and what they leave
pub record SettledAll (table marks starts : List ℕ) (steps fuel : ℕ) (marks' : List ℕ) (steps' : ℕ) : Type 0 where
  pub settles : settled_in marks' ≡ (walks_in table fuel starts (settled_in marks) steps).settled
  pub counts : steps' ≡ (walks_in table fuel starts (settled_in marks) steps).steps
  pub marked : Marked marks'
  pub long : length marks' ≡ length marks

-- every name of a list is settled
pub record Placeable (marks names : List ℕ) : Type 0 where
  pub names-below : (j : ℕ) → get_or names j 0 < length marks
  pub settled : (j : ℕ) → j < length names → 2 ≤ get_or marks (get_or names j 0) 0

-- What the walks from all starts settle for a name is what the walk from that name alone gives, for any type of answers: each start is settled so, and whatever else is settled.
pub record SettledOwn {R : Type 0} (stuck : R) (along : R → R) (step : ℕ → Link R) (declared starts : List ℕ) : Type 0 where
  pub each : (s : ℕ) → among s starts ≡ true → (walk_all stuck along step declared starts nothing 0).settled s ≡ some (own stuck along step declared s)
  pub whatever : (n : ℕ) (r : R) → (walk_all stuck along step declared starts nothing 0).settled n ≡ some r → r ≡ own stuck along step declared n
