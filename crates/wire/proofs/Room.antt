-- Operations that write: what each writes fits its room and depends neither on what the slice held nor on room past 8,192 words.
-- With any answer but 16, more room would change nothing.
use Prim.Native.Nat.{ℕ, ◌≤◌, min}
use native.Mathlib.Omega.{arith}
use mathlib.Core.Path.{◌≡◌, refl, sym, ◌∙◌}
use mathlib.Core.Bool.{Bool, true, false}
use mathlib.Core.List.{List, [], ◌++◌}
use lib.ListN.{length, take, drop}
use lib.Seq.{take-append_seam}
use lib.Dec.{leb}
use borrow.Author.Tests.{leb-true, leb-false, le-leb, lt-leb}
use Rattle.definitions.specs.declared.answer.Refusal.{Refusal}
use Rattle.definitions.specs.Table.{pick}
use Rattle.std.specs.Prelude.{Ok, Err}
use Rattle.definitions.specs.Answers.{Answer, gives, out_of_room}
use Rattle.definitions.specs.Bytes.{not_words, out_after}

-- an answer that says no more words than so many
abbrev pub Within : Answer → ℕ → Type 0
Within (Ok g) m = g.value ≤ m
Within (Err r) m = Unit {0}

-- an operation that writes no more than 8,192 words, however much room there is
pub record Writes (answer : List ℕ → ℕ → Answer) (buffer : List ℕ → List ℕ → List ℕ) : Type 0 where
  pub none : (room : ℕ) → answer [] room ≡ not_words
  pub fits : (ws : List ℕ) (room : ℕ) → Within (answer ws room) room
  pub enough : (ws : List ℕ) (room : ℕ) → answer ws (min room 8192) ≡ answer ws room
  pub more : (ws : List ℕ) (few room : ℕ) → few ≤ room → (answer ws few ≡ out_of_room → ⊥) → answer ws few ≡ answer ws room
  pub own : (ws lent other out : List ℕ) → length lent ≤ length other
      → out_after (answer ws (length lent)) (buffer ws lent) out ≡ out_after (answer ws (length lent)) (buffer ws other) out

pub leb_min : (n room : ℕ) → n ≤ 8192 → leb n (min room 8192) ≡ leb n room
leb_min n room h = go (leb n room) refl
  where
    go : (b : Bool) → leb n room ≡ b → leb n (min room 8192) ≡ leb n room
    go true e = let k = leb-true n room e in le-leb n (min room 8192) (omega arith) ∙ sym e
    go false e = let k = leb-false n room e in lt-leb n (min room 8192) (omega arith) ∙ sym e

pub leb_more : (n few room : ℕ) → few ≤ room → leb n few ≡ true → leb n room ≡ true
leb_more n few room h e = le-leb n room (omega (arith, leb-true n few e))

-- n words are written where the room passes a test, which more room passes too
module _ (n steps : ℕ) (test : ℕ → Bool) (eases : (few room : ℕ) → few ≤ room → test few ≡ true → test room ≡ true) where
  abbrev tested : ℕ → Answer
  tested room = pick (test room) (gives n steps) out_of_room

  pub tested-more : (few room : ℕ) → few ≤ room → (tested few ≡ out_of_room → ⊥) → tested few ≡ tested room
  tested-more few room h other = go (test few) refl other
    where
      go : (b : Bool) → test few ≡ b → (pick b (gives n steps) out_of_room ≡ out_of_room → ⊥) → pick b (gives n steps) out_of_room ≡ tested room
      go true e other = rw (eases few room h e)
      go false e other = absurd (other refl)

  pub tested-own : (made lent other out : List ℕ) → length made ≡ n → length lent ≤ length other
      → out_after (tested (length lent)) (pick (test (length lent)) (made ++ drop n lent) lent) out ≡ out_after (tested (length lent)) (pick (test (length other)) (made ++ drop n other) other) out
  unfolding out_after
  tested-own made lent other out l h = go (test (length lent)) refl
    where
      front : (rest : List ℕ) → take n (made ++ rest) ≡ made
      front rest = rw (← l) (take-append_seam made rest)

      go : (b : Bool) → test (length lent) ≡ b
          → out_after (pick b (gives n steps) out_of_room) (pick b (made ++ drop n lent) lent) out ≡ out_after (pick b (gives n steps) out_of_room) (pick (test (length other)) (made ++ drop n other) other) out
      go true e = rw (eases (length lent) (length other) h e, front (drop n lent), front (drop n other))
      go false e = refl

-- a refusal leaves all as it is
pub after-refusal : (r : Refusal) (lent other out : List ℕ) → out_after (Err r) lent out ≡ out_after (Err r) other out
unfolding out_after
after-refusal r lent other out = refl
