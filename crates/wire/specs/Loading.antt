-- What the parts of the host's functions promise each other.
use Rattle.std.specs.Prelude.{ℕ, Bool, false, eqb, ◌*◌, ◌/◌, ◌≤◌, min, ◌≡◌, List, [], length, take, Ok, Err}
use Rattle.definitions.specs.Answers.{Answer}
use Rattle.definitions.specs.Table.{pick}
use Rattle.definitions.specs.Bytes.{words_of, are_words, out_after}

-- the words that are loaded: none where the bytes are no words
unfoldable pub loaded_of : List ℕ → List ℕ
loaded_of bytes = pick (are_words (length bytes)) (words_of bytes) []

-- they are these words, in a slice of so many
pub record Loaded (bytes : List ℕ) (room : ℕ) (words : List ℕ) : Type 0 where
  pub are : words ≡ loaded_of bytes
  pub fits : length words ≤ room

-- they stand at the front of a slice
pub record Fronted (bytes : List ℕ) (n : ℕ) (words : List ℕ) : Type 0 where
  pub front : take n words ≡ loaded_of bytes
  pub fits : n ≤ length words

-- a slice that has room for the words of so many bytes; more than 32,768 are none. A clause, as both slices are lent
abbrev pub Holds : ℕ → ℕ → Type 0
Holds bytes words = min bytes 32768 ≤ 4 * words

-- whether an answer is the refusal for want of room, by 16
abbrev pub lacks_room : Answer → Bool
lacks_room (Ok g) = false
lacks_room (Err r) = eqb r.number 16

-- an operation that writes into a slice of so many words, of which the output is then given those that it answers
pub record Tried (answer : List ℕ → ℕ → Answer) (buffer : List ℕ → List ℕ → List ℕ) (bytes : List ℕ) (most : ℕ) (out : List ℕ) (a : Answer) (after : List ℕ) : Type 0 where
  pub answers : a ≡ answer (loaded_of bytes) (min (length out / 4) most)
  pub leaves : after ≡ out_after a (buffer (loaded_of bytes) (words_of out)) out

-- as many words as an answer says are there, and their bytes fit the output
abbrev pub FitsOutput : Answer → ℕ → ℕ → Type 0
FitsOutput (Ok g) words bytes = (g.value ≤ words) × (4 * g.value ≤ bytes)
FitsOutput (Err r) words bytes = Unit {0}
