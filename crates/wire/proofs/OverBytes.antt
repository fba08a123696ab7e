-- Operations over bytes: what a function that loads, runs the operation and gives its words answers and leaves, from what each step ensures.
use Prim.Native.Nat.{ℕ, ◌/◌, ◌%◌, ◌≤◌, min}
use native.Mathlib.Omega.{arith}
use mathlib.Core.Path.{◌≡◌, refl, ap, sym, ◌∙◌, subst}
use mathlib.Core.Bool.{Bool, true, false, not}
use mathlib.Core.List.{List, [], ◌++◌}
use lib.ListN.{length, take, drop, length-append}
use lib.Seq.{take-append-le, length-take-le}
use lib.Dec.{eqb, leb}
use borrow.Author.Tests.{leb-true, not-true, not-false}
use Rattle.std.specs.Prelude.{Ok, Err}
use Rattle.std.proofs.lemmas.Bool.{and_parts}
use Rattle.definitions.specs.Answers.{Answer, out_of_room}
use Rattle.definitions.specs.Table.{pick}
use Rattle.definitions.specs.Bytes.{words_of, encode, are_words, not_words, over_bytes, out_after, out_bytes, Gives}
use Rattle.wire.specs.Loading.{loaded_of, lacks_room, Loaded, Fronted, Holds, Tried, FitsOutput}
use Rattle.wire.proofs.ByteLaws.{words-length}
use Rattle.wire.proofs.Room.{Within, Writes}

-- what the test of the byte count tells
yes-words : (count : ℕ) {t : Bool} → t ≡ are_words count → not t ≡ false → are_words count ≡ true
yes-words count e f = sym e ∙ not-false _ f

no_words : (count : ℕ) {t : Bool} → t ≡ are_words count → not t ≡ true → are_words count ≡ false
no_words count e f = sym e ∙ not-true _ f

-- bytes that are words are not too many
pub few : (count : ℕ) {t : Bool} → t ≡ are_words count → not t ≡ false → count ≤ 32768
few count e f = leb-true count 32768 (and_parts (eqb (count % 4) 0) (leb count 32768) (yes-words count e f)).1

-- what is loaded of bytes that are no words, and of bytes that are
pub none_loaded : (bytes : List ℕ) (room : ℕ) {t : Bool} → t ≡ are_words (length bytes) → not t ≡ true → Loaded bytes room []
unfolding loaded_of
none_loaded bytes room e f = record { are = rw (no_words (length bytes) e f); fits = omega arith }

pub all_loaded : (bytes words : List ℕ) {room : ℕ} {t : Bool} → t ≡ are_words (length bytes) → not t ≡ false → length words ≡ length bytes / 4 → Holds (length bytes) room → words ≡ words_of bytes → Loaded bytes room words
unfolding loaded_of
all_loaded bytes words e f l r h = record { are = rw (yes-words (length bytes) e f) h; fits = omega (arith, few (length bytes) e f) }

-- what is loaded, at the front of a slice
pub at_front : {bytes words : List ℕ} {room n : ℕ} → n ≤ length words → Loaded bytes room (take n words) → Fronted bytes n words
at_front h l = record { front = l.are; fits = h }

pub of_front : {bytes words : List ℕ} {room n : ℕ} → length words ≡ room → Fronted bytes n words → Loaded bytes room (take n words)
of_front {words = words} {n = n} e f = record { are = f.front; fits = omega (arith, length-take-le n words f.fits, f.fits) }

-- an operation that refuses no words as the host does bytes that are none
overs : (answer : List ℕ → Answer) → answer [] ≡ not_words → (bytes : List ℕ) → answer (loaded_of bytes) ≡ over_bytes answer bytes
unfolding over_bytes loaded_of
overs answer none bytes = go (are_words (length bytes))
  where
    go : (b : Bool) → answer (pick b (words_of bytes) []) ≡ pick b (answer (words_of bytes)) not_words
    go true = refl
    go false = none

pub answered : (answer : List ℕ → Answer) → answer [] ≡ not_words → {bytes words : List ℕ} {room : ℕ} {a : Answer} {r : ℕ}
    → Loaded bytes room words → a ≡ answer words → r ≡ encode a → r ≡ encode (over_bytes answer bytes)
answered answer none {bytes} l e h = h ∙ ap encode (e ∙ ap answer l.are ∙ overs answer none bytes)

-- an answer that says no more words than a part has, for which an output has room: they fit it, and what stands past the part is not given
fits : (a : Answer) (part rest : List ℕ) (b : ℕ) → Within a (length part) → length part ≤ b / 4 → FitsOutput a (length (part ++ rest)) b
fits (Ok g) part rest b h e = (omega (arith, length-append part rest), omega arith)
fits (Err r) part rest b h e = tt

of_part : (a : Answer) (part rest out : List ℕ) → Within a (length part) → out_after a (part ++ rest) out ≡ out_after a part out
unfolding out_after
of_part (Ok g) part rest out h = rw (take-append-le g.value part rest h)
of_part (Err r) part rest out h = refl

-- an answer that is not for want of room, and an output that one that is leaves as it is
has-room : (a : Answer) → lacks_room a ≡ false → a ≡ out_of_room → ⊥
has-room a e f = let z : true ≡ false = ap lacks_room (sym f) ∙ e in cc

unchanged : (a : Answer) (written out : List ℕ) → lacks_room a ≡ true → out_after a written out ≡ out
unfolding out_after
unchanged (Ok g) written out e = cc
unchanged (Err r) written out e = refl

-- an operation that writes works in the front of a blank slice, with as many words as the output has room for
module _ {answer : List ℕ → ℕ → Answer} {buffer : List ℕ → List ℕ → List ℕ} (W : Writes answer buffer) where
  -- what it writes fits the output
  pub fits_out : (ws blank part : List ℕ) (m b : ℕ) {a : Answer} → m ≡ min (b / 4) (length blank) → a ≡ answer ws (length (take m blank)) → length part ≡ length (take m blank)
      → FitsOutput a (length (part ++ drop m blank)) b
  fits_out ws blank part m b {a} l e s =
      let t : length part ≡ m = s ∙ length-take-le m blank (omega arith) in
      fits a part (drop m blank) b (rw (e, ← s) (W.fits ws (length part))) (omega arith)

  -- and the output is given as many words as it answers
  pub tried : (out blank : List ℕ) {bytes words part after : List ℕ} {room m : ℕ} {a : Answer}
      → Loaded bytes room words → m ≡ min (length out / 4) (length blank)
      → a ≡ answer words (length (take m blank)) → part ≡ buffer words (take m blank) → length part ≡ length (take m blank)
      → after ≡ out_after a (part ++ drop m blank) out
      → Tried answer buffer bytes (length blank) out a after
  tried out blank {bytes} {words} {part} {after} {m = m} {a} l e f g s h =
      let ws = loaded_of bytes in
      let t : length (take m blank) ≡ min (length out / 4) (length blank) = length-take-le m blank (omega arith) ∙ e in
      let here : a ≡ answer ws (length (take m blank)) = rw (← l.are) f in
      let its_part : part ≡ buffer ws (take m blank) = rw (← l.are) g in
      let wide : length (take m blank) ≤ length (words_of out) = omega (arith, words-length out) in
      record {
        answers = here ∙ ap (answer ws) t;
        leaves = h ∙ of_part a part (drop m blank) out (rw (here, s) (W.fits ws (length (take m blank)))) ∙ rw (here, its_part) (W.own ws (take m blank) (words_of out) out wide);
      }

  outs : (bytes out : List ℕ) → out_after (answer (loaded_of bytes) (length out / 4)) (buffer (loaded_of bytes) (words_of out)) out ≡ out_bytes answer buffer bytes out
  unfolding over_bytes loaded_of out_after
  outs bytes out = go (are_words (length bytes))
    where
      go : (b : Bool)
          → out_after (answer (pick b (words_of bytes) []) (length out / 4)) (buffer (pick b (words_of bytes) []) (words_of out)) out
          ≡ out_after (pick b (answer (words_of bytes) (length out / 4)) not_words) (buffer (words_of bytes) (words_of out)) out
      go true = refl
      go false = rw (W.none (length out / 4))

  module _ {bytes out after : List ℕ} {most : ℕ} {a : Answer} (t : Tried answer buffer bytes most out a after) where
    -- an answer that is the same with all the room that the output has
    settled : answer (loaded_of bytes) (min (length out / 4) most) ≡ answer (loaded_of bytes) (length out / 4) → Gives answer buffer bytes out (encode a) after
    settled e =
        record {
          answers = ap encode (t.answers ∙ e ∙ overs (λ vs. answer vs (length out / 4)) (W.none (length out / 4)) bytes);
          leaves = t.leaves ∙ rw (t.answers ∙ e) (outs bytes out);
        }

    -- any but 16
    pub given-short : {r : ℕ} → lacks_room a ≡ false → r ≡ encode a → Gives answer buffer bytes out r after
    given-short other n = rw n (settled (W.more (loaded_of bytes) (min (length out / 4) most) (length out / 4) (omega arith) (λ e. has-room a other (t.answers ∙ e))))

    -- and any, in 8,192 words
    pub given-long : {r : ℕ} (before : List ℕ) → out ≡ before → most ≡ 8192 → r ≡ encode a → Gives answer buffer bytes before r after
    given-long before same e n = rw (n, ← same) (settled (rw e (W.enough (loaded_of bytes) (length out / 4))))

    -- with 16 the output is as it was
    pub kept_out : lacks_room a ≡ true → after ≡ out
    kept_out e = t.leaves ∙ unchanged a (buffer (loaded_of bytes) (words_of out)) out e

-- in as many words
pub tried_as : {answer : List ℕ → ℕ → Answer} {buffer : List ℕ → List ℕ → List ℕ} {bytes out after : List ℕ} {n m : ℕ} {a : Answer} → n ≡ m → Tried answer buffer bytes n out a after → Tried answer buffer bytes m out a after
tried_as {answer} {buffer} {bytes} {out} {after} {a = a} e t = subst (λ (k : ℕ). Tried answer buffer bytes k out a after) e t
