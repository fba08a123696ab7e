-- What the operations answer and leave, in each of their ways out.
use Rattle.std.specs.Prelude.{Err}
use Prim.Native.Nat.{ℕ, ◌-◌, ◌<◌, ◌≤◌}
use mathlib.Core.Path.{◌≡◌, refl, sym, ◌∙◌}
use mathlib.Core.List.{List, []}
use mathlib.Core.Bool.{Bool, true, false}
use mir.Val.{bool_byte}
use lib.ListN.{length}
use lib.Dec.{ltb}
use borrow.Author.Tests.{le-ltb, lt-ltb}
use borrow.Rule.Slice.PartMut.{put_mid}
use Rattle.definitions.specs.declared.answer.Refusal.{Refusal}
use Rattle.definitions.specs.Answers.{Answer, gives, out_of_room, Answered, unknown, yes_no}
use Rattle.definitions.specs.Table.{pick}
use Rattle.definitions.specs.Records.{Pack}
use Rattle.definitions.specs.Checking.{check_answer}
use Rattle.checking.proofs.OperationLaws.{turned_away}
use Rattle.definitions.specs.Kinds.{all_kinds, own_answer}
use Rattle.definitions.specs.Lean.{leans}
use Rattle.definitions.specs.Places.{place_of, all_kinds_words}
use Rattle.chains.specs.PackDirectory.{IsPack, RelationsCounted, Named}
use Rattle.definitions.specs.Operations.{kinds_of_answer, lean_answer, all_kinds_answer, all_kinds_buffer}
use Rattle.kinds.specs.KindsPromises.{OwnPlace, Leaning, KindsLeft}
use Rattle.chains.proofs.KindLaws.{words_count}
use Rattle.chains.proofs.AnswerLaws.{made_refused, made_room, made_done}

-- ---- All kinds

abbrev kind_steps : Pack → ℕ
kind_steps p = (all_kinds p.relations).steps

pub kinds-refused : (ws lent : List ℕ) {a : Answer} {r : Refusal} → a ≡ check_answer ws → a ≡ Err r → Answered all_kinds_answer all_kinds_buffer ws lent a lent
unfolding all_kinds_answer all_kinds_buffer
kinds-refused ws lent e o = made_refused all_kinds_words kind_steps ws lent e o

module _ (ws lent : List ℕ) (c : IsPack ws) {count : ℕ} (k : RelationsCounted ws count) where
  one_each : length (all_kinds_words c.pack) ≡ count
  one_each = words_count c.pack ∙ sym (k c.pack c.reads)

  pub kinds-room : length lent < count → {a : Answer} → a ≡ out_of_room → Answered all_kinds_answer all_kinds_buffer ws lent a lent
  unfolding all_kinds_answer all_kinds_buffer
  kinds-room h e = made_room all_kinds_words kind_steps ws lent c one_each h e

  pub kinds-done : count ≤ length lent → {steps : ℕ} {out : List ℕ} → KindsLeft ws steps out → Answered all_kinds_answer all_kinds_buffer ws lent (gives count steps) (put_mid 0 (count - 0) lent out)
  unfolding all_kinds_answer all_kinds_buffer
  kinds-done h l = made_done all_kinds_words kind_steps ws lent c one_each h (l.counts c.pack c.reads) (l.holds c.pack c.reads)

-- ---- Kinds of one name

module _ (ws : List ℕ) (name : ℕ) where
  pub name-refused : {a : Answer} {r : Refusal} → a ≡ check_answer ws → a ≡ Err r → a ≡ kinds_of_answer ws name
  unfolding kinds_of_answer
  name-refused e o = (turned_away ws [] e o (λ p. pick (ltb name p.names) (gives (place_of p (own_answer p.relations name)) 0) (unknown name)) (λ p. [])).0

  module _ (c : IsPack ws) {n : ℕ} (k : Named ws n) where
    pub name-unknown : n ≤ name → unknown name ≡ kinds_of_answer ws name
    unfolding kinds_of_answer
    name-unknown h = sym (simp (c.reads, ← k c.pack c.reads, le-ltb name n h))

    pub name-place : name < n → {place : ℕ} → OwnPlace ws name place → gives place 0 ≡ kinds_of_answer ws name
    unfolding kinds_of_answer
    name-place h o = sym (simp (c.reads, ← k c.pack c.reads, lt-ltb name n h, ← o c.pack c.reads))

-- ---- Lean

-- a yes as a number
pub as_number : (b : Bool) → bool_byte b ≡ yes_no b
as_number true = refl
as_number false = refl

module _ (ws : List ℕ) (a b : ℕ) where
  abbrev leaning_in : Pack → Answer
  leaning_in p = pick (ltb a p.names) (pick (ltb b p.names) (gives (yes_no (leans p.relations a b)) 0) (unknown b)) (unknown a)

  pub lean-refused : {c : Answer} {r : Refusal} → c ≡ check_answer ws → c ≡ Err r → c ≡ lean_answer ws a b
  unfolding lean_answer
  lean-refused e o = (turned_away ws [] e o leaning_in (λ p. [])).0

  module _ (c : IsPack ws) {n : ℕ} (k : Named ws n) where
    pub first-unknown : n ≤ a → unknown a ≡ lean_answer ws a b
    unfolding lean_answer
    first-unknown h = sym (simp (c.reads, ← k c.pack c.reads, le-ltb a n h))

    pub second_unknown : a < n → n ≤ b → unknown b ≡ lean_answer ws a b
    unfolding lean_answer
    second_unknown h l = sym (simp (c.reads, ← k c.pack c.reads, lt-ltb a n h, le-ltb b n l))

    pub leans-or_not : a < n → b < n → {r : Bool} → Leaning ws a b r → gives (yes_no r) 0 ≡ lean_answer ws a b
    unfolding lean_answer
    leans-or_not h l o = sym (simp (c.reads, ← k c.pack c.reads, lt-ltb a n h, lt-ltb b n l, ← o c.pack c.reads))
