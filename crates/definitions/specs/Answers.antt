-- What operations answer, and what they leave in a lent slice.
use Rattle.std.specs.Prelude.{ℕ, zero, suc, ◌≡◌, Bool, true, false, ◌&&◌, List, [], ◌∷◌, ◌++◌, length, drop, leb, Result, Ok, Err}
use Rattle.std.proofs.Math.Option.{Option, none, some}
use Rattle.definitions.specs.declared.answer.Refusal.{Refusal}
use Rattle.definitions.specs.declared.answer.Given.{Given}
use Rattle.definitions.specs.declared.answer.Number.{Number}
use Rattle.definitions.specs.declared.answer.Number.TheVariants.{WrongLength, WrongKind, Ended, WrongValue, TooDeep, NotRising, NameUsed, LeftOver, EqualKinds, DirectionOpen, DerivedInput, NoSequence, NotDeclaredOnce, NotBoolean, WrongOwner, NoRoom, NotAName}
use Rattle.definitions.specs.Table.{pick}
use Rattle.definitions.specs.Records.{Pack}
use Rattle.definitions.specs.Pack.{Reading, yes, refuse, read}

-- the number of each refusal
abbrev pub number_of : Number → ℕ
number_of WrongLength = 1
number_of WrongKind = 2
number_of Ended = 3
number_of WrongValue = 4
number_of TooDeep = 5
number_of NotRising = 6
number_of NameUsed = 7
number_of LeftOver = 8
number_of EqualKinds = 9
number_of DirectionOpen = 10
number_of DerivedInput = 11
number_of NoSequence = 12
number_of NotDeclaredOnce = 13
number_of NotBoolean = 14
number_of WrongOwner = 15
number_of NoRoom = 16
number_of NotAName = 17

-- a value and steps, or a refusal
abbrev pub Answer : Type 0
Answer = Result Given Refusal

-- the answer with this value and these steps
abbrev pub gives : ℕ → ℕ → Answer
gives value steps = Ok (record { value = value; steps = steps })

-- the refusals of reading come first
abbrev pub answer : Reading → (Pack → Answer) → Answer
answer (yes p) f = f p
answer (refuse r) f = Err r

-- what a slice holds after an operation that reads first: unchanged where reading refuses
abbrev pub buffer : Reading → (Pack → List ℕ) → List ℕ → List ℕ
buffer (yes p) f lent = f p
buffer (refuse r) f lent = lent

-- What an answer says that is no refusal: its two numbers, a value and steps, under the names of what they mean.
-- Check: yes
abbrev pub says_yes : Answer
says_yes = gives 1 0

-- Rewrite and the filtered tables: so many words are written
abbrev pub words_written : ℕ → Answer
words_written n = gives n 0

-- All kinds and Resolve: so many words are written, so many declarations were read
abbrev pub words_and_steps : ℕ → ℕ → Answer
words_and_steps n steps = gives n steps

-- Kinds of one name: the place of the settled list's count word, or 0 for none
abbrev pub place_found : ℕ → Answer
place_found place = gives place 0

-- "16 if the slice has fewer words than the pack"; it has no place and no names
abbrev pub out_of_room : Answer
out_of_room = Err (record { number = 16; place = 0; name = 0; other = 0 })

-- how many words an answer says are written
abbrev pub written_of : Answer → ℕ
written_of (Ok g) = g.value
written_of (Err r) = 0

-- ---- operations that write

-- what making something of a pack comes to
pub data Outcome (A : Type 0) : Type 0 where
  done : A → Outcome A
  refused : Refusal → Outcome A

abbrev pub and_then : {A B : Type 0} → Outcome A → (A → Outcome B) → Outcome B
and_then (done a) f = f a
and_then (refused r) f = refused r

abbrev pub map_done : {A B : Type 0} → (A → B) → Outcome A → Outcome B
map_done f (done a) = done (f a)
map_done f (refused r) = refused r

-- what is made, if it is
abbrev pub result : {A : Type 0} → Outcome A → Option A
result (done a) = some a
result (refused r) = none

-- words to write: how many they are, and whether a pack may have so many
pub record Output : Type 0 where
  pub words : List ℕ
  pub count : ℕ
  pub allowed : Bool

-- words that are no pack, or one that was read: there are never too many
abbrev pub all_of : List ℕ → Output
all_of out = record { words = out; count = length out; allowed = true }

-- "Then 16: the result needs over 8,192 words or more than the output slice has."
abbrev pub given : ℕ → ℕ → Outcome Output → Answer
given steps room (refused r) = Err r
given steps room (done o) = pick (o.allowed && leb o.count room) (words_and_steps o.count steps) out_of_room

-- "A refusal changes no lent buffer. Words and bytes past those that an operation writes are kept."
abbrev pub written : List ℕ → Outcome Output → List ℕ
written lent (refused r) = lent
written lent (done o) = pick (o.allowed && leb o.count (length lent)) (o.words ++ drop o.count lent) lent

-- An operation that writes: what it makes of a pack, and the number of steps that its answer carries. From these follow, for any words,
-- its answer in a slice of so many words, and what it leaves in the lent slice.
pub record Operation : Type 0 where
  pub makes : Pack → Outcome Output
  pub steps : Pack → ℕ

abbrev pub answer_by : Operation → List ℕ → ℕ → Answer
answer_by o ws room = answer (read ws) (λ p. given (o.steps p) room (o.makes p))

abbrev pub buffer_by : Operation → List ℕ → List ℕ → List ℕ
buffer_by o ws lent = buffer (read ws) (λ p. written lent (o.makes p)) lent

-- the same of words that are no refusal
abbrev pub write_answer : List ℕ → ℕ → ℕ → Answer
write_answer out steps room = given steps room (done (all_of out))

abbrev pub write_buffer : List ℕ → List ℕ → List ℕ
write_buffer out lent = written lent (done (all_of out))

-- what holds of the answer of an operation that writes, and of the lent slice after it
pub record Answered (answer : List ℕ → ℕ → Answer) (buffer : List ℕ → List ℕ → List ℕ) (ws lent : List ℕ) (a : Answer) (left : List ℕ) : Type 0 where
  pub answers : a ≡ answer ws (length lent)
  pub leaves : left ≡ buffer ws lent

-- "17 for a name not below N (name = it ..)"
abbrev pub unknown : ℕ → Answer
unknown name = Err (record { number = 17; place = 0; name = name; other = 0 })

abbrev pub yes_no : Bool → ℕ
yes_no true = 1
yes_no false = 0

-- Lean: yes or no
abbrev pub yes_or_no : Bool → Answer
yes_or_no b = gives (yes_no b) 0

-- one word for each name from 0 on
abbrev pub table_from : (ℕ → ℕ) → ℕ → ℕ → List ℕ
table_from f n zero = []
table_from f n (suc k) = f n ∷ table_from f (suc n) k
