-- What a writer has written, and room for more.
use Rattle.std.specs.Prelude.{ℕ, ◌≡◌, ◌+◌, ◌≤◌, List, ◌++◌, length, take}
use Rattle.resolve.specs.declared.writer.Writer.{Writer}

-- the words that are written
abbrev pub written_so_far : Writer → List ℕ
written_so_far w = take w.to w.out.now

-- room for more of them: a clause, as what is written next changes from call to call
abbrev pub HasRoom : Writer → List ℕ → Type 0
HasRoom w more = w.to + length more ≤ length w.out.now

-- nothing is written in a slice
pub record Begins (w : Writer) (out : List ℕ) : Type 0 where
  pub start : w.to ≡ 0
  pub slice : w.out.now ≡ out
  pub long : length w.out.now ≡ length out

-- words are written after those before, in the same slice
pub record Writes (w : Writer) (more : List ℕ) (w' : Writer) : Type 0 where
  pub same_reference : w'.out.ghost_name ≡ w.out.ghost_name
  pub long : length w'.out.now ≡ length w.out.now
  pub after : w'.to ≡ w.to + length more
  pub holds : written_so_far w' ≡ written_so_far w ++ more
