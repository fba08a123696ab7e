-- What the parts of the operations over bytes promise each other.
use Rattle.std.specs.Prelude.{ℕ, ◌<◌, ◌≤◌, ◌≡◌, List, length, get_or}
use Rattle.std.specs.Borrow.{Bor, MutBor}
use Rattle.definitions.specs.declared.operation.Writing.{Writing}
use Rattle.definitions.specs.Answers.{Answer, Answered}
use Rattle.definitions.specs.Operations.{answer_of, buffer_of}

-- what is known after each call is that it was that operation
abbrev pub Runs : (Bor (List ℕ) → MutBor (List ℕ) → Answer → MutBor (List ℕ) → Type 0) → Writing → Type 0
Runs post w = (words : Bor (List ℕ)) (lent : MutBor (List ℕ)) (a : Answer) (left : MutBor (List ℕ)) → post words lent a left → Answered (answer_of w) (buffer_of w) words.now lent.now a left.now

-- a slice without notes, with room for those of a pack of so many words and for as many words as may be written
pub record RoomIn (words : ℕ) (made : List ℕ) (most : ℕ) : Type 0 where
  pub blank : get_or made 0 0 ≡ 0
  pub noted : words ≤ most
  pub fits : most < length made
