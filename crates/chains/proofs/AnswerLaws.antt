-- What operations that write answer and leave, in each of their ways out.
use Rattle.std.specs.Prelude.{Err}
use Prim.Native.Nat.{ℕ, ◌-◌, ◌<◌, ◌≤◌}
use native.Mathlib.Omega.{arith}
use mathlib.Core.Path.{◌≡◌, sym, ◌∙◌}
use mathlib.Core.List.{List}
use lib.ListN.{length}
use lib.Seq.{length-take-le}
use borrow.Author.Tests.{le-leb, lt-leb}
use borrow.Rule.Slice.PartMut.{mid_of, put_mid}
use Rattle.definitions.specs.declared.answer.Refusal.{Refusal}
use Rattle.definitions.specs.Answers.{Answer, gives, answer, buffer, out_of_room, write_answer, write_buffer, Answered}
use Rattle.definitions.specs.Records.{Pack}
use Rattle.definitions.specs.Pack.{read}
use Rattle.definitions.specs.Checking.{check_answer}
use Rattle.checking.proofs.OperationLaws.{accepted, turned_away}
use Rattle.chains.specs.PackDirectory.{IsPack}

-- an answer of Check's
pub checked : (ws : List ℕ) {a : Answer} {v s : ℕ} → a ≡ check_answer ws → a ≡ gives v s → IsPack ws
checked ws e o = let c = accepted ws e o in record { pack = c.pack; reads = c.reads }

-- ---- operations that write

-- the words that an operation makes of a pack, and its steps
module _ (make : Pack → List ℕ) (steps : Pack → ℕ) where
  abbrev pub made_answer : List ℕ → ℕ → Answer
  made_answer ws room = answer (read ws) (λ p. write_answer (make p) (steps p) room)

  abbrev pub made_buffer : List ℕ → List ℕ → List ℕ
  made_buffer ws lent = buffer (read ws) (λ p. write_buffer (make p) lent) lent

  pub made_refused : (ws lent : List ℕ) {a : Answer} {r : Refusal} → a ≡ check_answer ws → a ≡ Err r → Answered made_answer made_buffer ws lent a lent
  made_refused ws lent e o =
      let t = turned_away ws lent e o (λ p. write_answer (make p) (steps p) (length lent)) (λ p. write_buffer (make p) lent) in
      record { answers = t.0; leaves = t.1 }

  module _ (ws lent : List ℕ) (c : IsPack ws) {count : ℕ} (k : length (make c.pack) ≡ count) where
    pub made_room : length lent < count → {a : Answer} → a ≡ out_of_room → Answered made_answer made_buffer ws lent a lent
    made_room h e = record { answers = e ∙ sym (simp (c.reads, k, lt-leb count (length lent) h)); leaves = sym (simp (c.reads, k, lt-leb count (length lent) h)) }

    pub made_done : count ≤ length lent → {s : ℕ} {out : List ℕ} → s ≡ steps c.pack → out ≡ make c.pack → Answered made_answer made_buffer ws lent (gives count s) (put_mid 0 (count - 0) lent out)
    made_done h e m =
        let whole : count - 0 ≡ count = omega arith in
        rw whole (record { answers = sym (simp (c.reads, k, le-leb count (length lent) h, e)); leaves = sym (simp (c.reads, k, le-leb count (length lent) h, m)) })

-- a slice of so many words at the front of the lent one
pub front_length : (lent : List ℕ) (count : ℕ) → count ≤ length lent → length (mid_of 0 (count - 0) lent) ≡ count
front_length lent count h = let whole : count - 0 ≡ count = omega arith in rw whole (length-take-le count lent h)
