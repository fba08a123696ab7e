-- What the first demand says of refusals: "each operation .. refuses by document 01's numbers alone, and a refusal changes no lent word."
-- It holds of every operation: `every_question` and `every_writing` (RefusingLaws).
use Rattle.std.specs.Prelude.{Err}
use Rattle.std.specs.Prelude.{ℕ, ◌≡◌, true, List, [], ◌∷◌, ◌++◌, ◌⊎◌, length}
use Rattle.definitions.specs.declared.answer.Refusal.{Refusal}
use Rattle.definitions.specs.Form.{among}
use Rattle.definitions.specs.Bytes.{encode, number_field, over_bytes, in_room, Gives}
use Rattle.definitions.specs.declared.operation.Question.{Question}
use Rattle.definitions.specs.declared.operation.Question.TheVariants.{Check, KindsOf, Lean}
use Rattle.definitions.specs.declared.operation.Writing.{Writing}
use Rattle.definitions.specs.declared.operation.Writing.TheVariants.{Rewrite, AllKinds, Filtered, Resolve}
use Rattle.definitions.specs.Operations.{answer_to, answer_of, buffer_of}

-- ---- the numbers of 01, operation by operation

-- "Check answers yes or the first of: 1 .. 3 .. 2 .. 5 .. 4 .. 6 .. 7 .. 8"
abbrev pub check_numbers : List ℕ
check_numbers = 1 ∷ 2 ∷ 3 ∷ 4 ∷ 5 ∷ 6 ∷ 7 ∷ 8 ∷ []

-- "Kinds of one name .. and Lean .. give Check's refusals, then 17"
abbrev pub numbers_to : Question → List ℕ
numbers_to Check = check_numbers
numbers_to (KindsOf name) = check_numbers ++ (17 ∷ [])
numbers_to (Lean a b) = check_numbers ++ (17 ∷ [])

-- Rewrite, All kinds and the filtered tables "give Check's refusals, then 16"; "Resolve gives Check's refusals, then 9 ..; 10 ..; .. 11 .., 12 .., 13 .., 14 .., 15 .. Then 16"
abbrev pub numbers_of : Writing → List ℕ
numbers_of Rewrite = check_numbers ++ (16 ∷ [])
numbers_of AllKinds = check_numbers ++ (16 ∷ [])
numbers_of (Filtered f) = check_numbers ++ (16 ∷ [])
numbers_of Resolve = check_numbers ++ (9 ∷ 10 ∷ 11 ∷ 12 ∷ 13 ∷ 14 ∷ 15 ∷ 16 ∷ [])

abbrev pub Among : ℕ → List ℕ → Type 0
Among number numbers = among number numbers ≡ true

abbrev pub NoneOrAmong : ℕ → List ℕ → Type 0
NoneOrAmong number numbers = (number ≡ 0) ⊎ Among number numbers

-- ---- the operations that only answer: on any words, over any bytes, and as the number that the host's function answers

pub record QuestionRefuses (q : Question) : Type 0 where
  -- "refuses by document 01's numbers alone"
  pub words_numbers : (ws : List ℕ) (r : Refusal) → answer_to q ws ≡ Err r → Among r.number (numbers_to q)
  pub bytes_numbers : (bytes : List ℕ) (r : Refusal) → over_bytes (answer_to q) bytes ≡ Err r → Among r.number (numbers_to q)
  pub host_numbers : (bytes : List ℕ) (n : ℕ) → n ≡ encode (over_bytes (answer_to q) bytes) → NoneOrAmong (number_field n) (numbers_to q)
  -- and that number is the refusal's
  pub host_tells : (bytes : List ℕ) (n : ℕ) → n ≡ encode (over_bytes (answer_to q) bytes) → (r : Refusal) → over_bytes (answer_to q) bytes ≡ Err r → number_field n ≡ r.number

-- ---- the operations that write: with any lent words, any output, and by what the host's function promises of its number and the output after it

abbrev pub Promised : Writing → List ℕ → List ℕ → ℕ → List ℕ → Type 0
Promised w bytes out n after = Gives (answer_of w) (buffer_of w) bytes out n after

pub record WritingRefuses (w : Writing) : Type 0 where
  -- "refuses by document 01's numbers alone"
  pub words_numbers : (ws : List ℕ) (room : ℕ) (r : Refusal) → answer_of w ws room ≡ Err r → Among r.number (numbers_of w)
  pub bytes_numbers : (bytes out : List ℕ) (r : Refusal) → in_room (answer_of w) (length out) bytes ≡ Err r → Among r.number (numbers_of w)
  pub host_numbers : (bytes out : List ℕ) (n : ℕ) (after : List ℕ) → Promised w bytes out n after → NoneOrAmong (number_field n) (numbers_of w)
  -- and that number is the refusal's
  pub host_tells : (bytes out : List ℕ) (n : ℕ) (after : List ℕ) → Promised w bytes out n after → (r : Refusal) → in_room (answer_of w) (length out) bytes ≡ Err r → number_field n ≡ r.number
  -- "a refusal changes no lent word": on words; on bytes, where the answer is a refusal; and where the number that is answered says so
  pub words_kept : (ws lent : List ℕ) (r : Refusal) → answer_of w ws (length lent) ≡ Err r → buffer_of w ws lent ≡ lent
  pub bytes_kept : (bytes out : List ℕ) (n : ℕ) (after : List ℕ) → Promised w bytes out n after → (r : Refusal) → in_room (answer_of w) (length out) bytes ≡ Err r → after ≡ out
  pub host_kept : (bytes out : List ℕ) (n : ℕ) (after : List ℕ) → Promised w bytes out n after → (number_field n ≡ 0 → ⊥) → after ≡ out
