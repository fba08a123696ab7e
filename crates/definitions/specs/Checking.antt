-- Check and Rewrite: what they answer, how Check refuses, and what Rewrite leaves in the lent slice.
use Rattle.std.specs.Prelude.{ℕ, ◌<◌, ◌≤◌, ◌≡◌, List, length}
use Rattle.definitions.specs.declared.answer.Refusal.{Refusal}
use Rattle.definitions.specs.Pack.{read, words}
use Rattle.definitions.specs.Answers.{Answer, answer, says_yes, done, all_of, Operation, answer_by, buffer_by}

-- "Check answers yes or the first of"
unfoldable pub check_answer : List ℕ → Answer
check_answer ws = answer (read ws) (λ p. says_yes)

-- A refusal by one of the numbers from 1 to 8, of words that end before the place `end`. By 1 its place is 0, by 3 that end, by 2 and 4 to 8 a word's.
pub record Within (end : ℕ) (r : Refusal) : Type 0 where
  pub least : 1 ≤ r.number
  pub most : r.number ≤ 8
  pub place : r.place ≤ end
  pub size : r.number ≡ 1 → r.place ≡ 0
  pub ended : r.number ≡ 3 → r.place ≡ end
  pub word : 2 ≤ r.number → (r.number ≡ 3 → ⊥) → r.place < end
  pub name : r.name < 16777216
  pub other : r.other ≡ 0

-- One of Check's refusals of a slice: its place is within the slice, or the slice's length for 3. A slice of over 8,192 words is refused by 1, at 0.
pub record CheckRefuses (ws : List ℕ) (r : Refusal) : Type 0 where
  pub within : Within (length ws) r
  pub few : r.place ≤ 8192
  pub many : 8192 < length ws → (r.number ≡ 1) × (r.place ≡ 0)

-- "Rewrite gives Check's refusals, then 16 if the slice has fewer words than the pack. It reads the records, writes them again and answers the length."
abbrev pub rewriting : Operation
rewriting = record { makes = λ p. done (all_of (words p)); steps = λ p. 0 }

unfoldable pub rewrite_answer : List ℕ → ℕ → Answer
rewrite_answer ws room = answer_by rewriting ws room

unfoldable pub rewrite_buffer : List ℕ → List ℕ → List ℕ
rewrite_buffer ws lent = buffer_by rewriting ws lent
