-- What the walks ask of the directory, the marks and the steps that they hold, and what they leave.
use Rattle.std.specs.Prelude.{ℕ, ◌<◌, ◌≡◌, List, length}
use Rattle.chains.specs.declared.entry.Declaration.{Declaration}
use Rattle.chains.specs.declared.settle.Walks.{Walks}
use Rattle.chains.specs.Declaration.{Ends, number_of_declaration}
use Rattle.chains.specs.DirectoryWord.{declarations_in}
use Rattle.chains.specs.Settle.{Leading, ReadOne, marked_path, Walkable, WentAhead, WalkedHere}

abbrev pub table_of : Walks → List ℕ
table_of w = declarations_in w.dir.now

-- the directory is the same, and so are the marks that are lent
pub record Keeps (w w' : Walks) : Type 0 where
  pub dir : w'.dir.now ≡ w.dir.now
  pub lent : w'.marks.ghost_name ≡ w.marks.ghost_name

-- one name read
pub record ReadBy (w : Walks) (n : ℕ) (d : Declaration) (w' : Walks) : Type 0 where
  pub reads : ReadOne (table_of w) n w.steps (number_of_declaration d) w'.steps
  pub ends : Ends d
  pub marks : w'.marks.now ≡ w.marks.now

abbrev pub WalkableBy : Walks → ℕ → ℕ → Type 0
WalkableBy w n fuel = Walkable (table_of w) w.marks.now w.steps n fuel

abbrev pub WentAheadBy : Walks → ℕ → ℕ → ℕ → Walks → Type 0
WentAheadBy w n fuel r w' = WentAhead (table_of w) w.marks.now w.steps n fuel r w'.marks.now w'.steps

abbrev pub MarkableBy : Walks → ℕ → Type 0
MarkableBy w n = (n < length w.marks.now) × Leading (length w.marks.now) (table_of w)

pub record MarkedBy (w : Walks) (mark count n : ℕ) (w' : Walks) : Type 0 where
  pub marks : w'.marks.now ≡ marked_path (table_of w) mark count n w.marks.now
  pub steps : w'.steps ≡ w.steps

abbrev pub WalkedBy : Walks → ℕ → ℕ → ℕ → Walks → Type 0
WalkedBy w n fuel r w' = WalkedHere (table_of w) w.marks.now w.steps n fuel r w'.marks.now w'.steps
