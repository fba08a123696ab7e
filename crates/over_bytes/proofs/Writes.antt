-- No words are refused by 1, as bytes that are no words are; and the operations that write do so as wire's `Room` says.
use Prim.Native.Nat.{ℕ, ◌≤◌, min}
use native.Mathlib.Omega.{arith}
use mathlib.Core.Path.{◌≡◌, refl}
use mathlib.Core.Bool.{Bool, true, false, ◌&&◌}
use mathlib.Core.List.{List, []}
use lib.ListN.{length, length-map}
use lib.Dec.{leb}
use borrow.Author.Tests.{leb-true}
use Rattle.definitions.specs.Table.{pick}
use Rattle.definitions.specs.Records.{Pack}
use Rattle.definitions.specs.Pack.{Reading, yes, refuse, read, total, words}
use Rattle.definitions.specs.Answers.{Answer, gives, answer, buffer, out_of_room, write_answer, write_buffer, Outcome, done, refused}
use Rattle.definitions.specs.Checking.{check_answer, rewrite_answer, rewrite_buffer}
use Rattle.pack.proofs.PackLaws.{words-length, words-read}
use Rattle.definitions.specs.Kinds.{all_kinds}
use Rattle.definitions.specs.Places.{all_kinds_words}
use Rattle.definitions.specs.Operations.{all_kinds_answer, all_kinds_buffer, kinds_of_answer, lean_answer, filter_answer, filter_buffer, resolve_answer, resolve_buffer, answer_to, answer_of, buffer_of}
use Rattle.definitions.specs.Filtered.{filter_says, filter_words}
use Rattle.definitions.specs.declared.operation.Filter.{Filter}
use Rattle.chains.proofs.PackParts.{parts}
use Rattle.chains.proofs.FillLaws.{table-length}
use Rattle.definitions.specs.Resolving.{resolved}
use Rattle.resolve.specs.Finish.{given_out, written_out}
use Rattle.resolve.proofs.ResolveLaws.{given_enough}
use Rattle.definitions.specs.Bytes.{not_words, out_after}
use Rattle.wire.proofs.Room.{Within, Writes, leb_min, leb_more, tested-more, tested-own, after-refusal}
use Rattle.definitions.specs.declared.operation.Question.{Question}
use Rattle.definitions.specs.declared.operation.Question.TheVariants.{Check, KindsOf, Lean}
use Rattle.definitions.specs.declared.operation.Writing.{Writing}
use Rattle.definitions.specs.declared.operation.Writing.TheVariants.{Rewrite, AllKinds, Filtered, Resolve}

-- every operation reads the pack first
pub none-refused : (f : Pack → Answer) → answer (read []) f ≡ not_words
unfolding read
none-refused f = refl

pub asks_none : (q : Question) → answer_to q [] ≡ not_words
unfolding check_answer kinds_of_answer lean_answer
asks_none Check = none-refused _
asks_none (KindsOf name) = none-refused _
asks_none (Lean a b) = none-refused _

-- an operation that makes words of a pack and writes them if there is room, with a number of steps
module _ (make : Pack → List ℕ) (steps : Pack → ℕ) where
  abbrev made : ℕ → Pack → Answer
  made room p = write_answer (make p) (steps p) room

  abbrev after : List ℕ → Pack → List ℕ
  after lent p = write_buffer (make p) lent

  -- what is read makes no more words than that
  abbrev Short : Reading → Type 0
  Short r = (p : Pack) → r ≡ yes p → length (make p) ≤ 8192

  made_fits : (r : Reading) (room : ℕ) → Within (answer r (made room)) room
  made_fits (yes p) room = go (leb (length (make p)) room) refl
    where
      go : (b : Bool) → leb (length (make p)) room ≡ b → Within (pick b (gives (length (make p)) (steps p)) out_of_room) room
      go true e = leb-true (length (make p)) room e
      go false e = tt
  made_fits (refuse r) room = tt

  made_enough : (r : Reading) → Short r → (room : ℕ) → answer r (made (min room 8192)) ≡ answer r (made room)
  made_enough (yes p) h room = rw (leb_min (length (make p)) room (h p refl))
  made_enough (refuse r) h room = refl

  made_more : (r : Reading) (few room : ℕ) → few ≤ room → (answer r (made few) ≡ out_of_room → ⊥) → answer r (made few) ≡ answer r (made room)
  made_more (yes p) few room h other = tested-more (length (make p)) (steps p) (leb (length (make p))) (leb_more (length (make p))) few room h other
  made_more (refuse r) few room h other = refl

  made_own : (r : Reading) (lent other out : List ℕ) → length lent ≤ length other
      → out_after (answer r (made (length lent))) (buffer r (after lent) lent) out ≡ out_after (answer r (made (length lent))) (buffer r (after other) other) out
  made_own (yes p) lent other out h = tested-own (length (make p)) (steps p) (leb (length (make p))) (leb_more (length (make p))) (make p) lent other out refl h
  made_own (refuse r) lent other out h = after-refusal r lent other out

  pub writes_made : ((ws : List ℕ) → Short (read ws)) → Writes (λ ws room. answer (read ws) (made room)) (λ ws lent. buffer (read ws) (after lent) lent)
  writes_made h =
      record {
        none = λ room. none-refused (made room);
        fits = λ ws. made_fits (read ws);
        enough = λ ws. made_enough (read ws) (h ws);
        more = λ ws. made_more (read ws);
        own = λ ws. made_own (read ws);
      }

pub few_words : (ws : List ℕ) (p : Pack) → read ws ≡ yes p → length (words p) ≤ 8192
few_words ws p e = omega (arith, words-length p, (words-read ws p e).fine.most)

pub few_places : (ws : List ℕ) (p : Pack) → read ws ≡ yes p → length (all_kinds_words p) ≤ 8192
unfolding all_kinds_words
few_places ws p e = simp length-map (omega (arith, (parts p (words-read ws p e).fine).few-relations))

pub few-names : (f : Filter) (ws : List ℕ) (p : Pack) → read ws ≡ yes p → length (filter_words f p) ≤ 8192
few-names f ws p e = omega (arith, table-length (filter_says f p) 0 p.names, (parts p (words-read ws p e).fine).most)

rewrite_writes : Writes rewrite_answer rewrite_buffer
unfolding rewrite_answer rewrite_buffer
rewrite_writes = writes_made words (λ p. 0) few_words

all_kinds-writes : Writes all_kinds_answer all_kinds_buffer
unfolding all_kinds_answer all_kinds_buffer
all_kinds-writes = writes_made all_kinds_words (λ p. (all_kinds p.relations).steps) few_places

filtered_writes : (f : Filter) → Writes (filter_answer f) (filter_buffer f)
unfolding filter_answer filter_buffer
filtered_writes f = writes_made (filter_words f) (λ p. 0) (few-names f)

-- Resolve, by what resolving comes to: refused, or a pack, whose words are written if they are no more than 8,192
module _ (steps : ℕ) where
  outcome_fits : (o : Outcome Pack) (room : ℕ) → Within (given_out steps room o) room
  outcome_fits (refused r) room = tt
  outcome_fits (done q) room = go (leb (total q) 8192) (leb (total q) room) refl
    where
      go : (a b : Bool) → leb (total q) room ≡ b → Within (pick (a && b) (gives (total q) steps) out_of_room) room
      go true true e = leb-true (total q) room e
      go true false e = tt
      go false b e = tt

  both_more : (n few room : ℕ) → few ≤ room → (leb n 8192 && leb n few) ≡ true → (leb n 8192 && leb n room) ≡ true
  both_more n few room h = go (leb n 8192)
    where
      go : (b : Bool) → (b && leb n few) ≡ true → (b && leb n room) ≡ true
      go true e = leb_more n few room h e
      go false e = e

  outcome_more : (o : Outcome Pack) (few room : ℕ) → few ≤ room → (given_out steps few o ≡ out_of_room → ⊥) → given_out steps few o ≡ given_out steps room o
  outcome_more (refused r) few room h other = refl
  outcome_more (done q) few room h other = tested-more (total q) steps (λ room. leb (total q) 8192 && leb (total q) room) (both_more (total q)) few room h other

  outcome_own : (o : Outcome Pack) (lent other out : List ℕ) → length lent ≤ length other
      → out_after (given_out steps (length lent) o) (written_out lent o) out ≡ out_after (given_out steps (length lent) o) (written_out other o) out
  outcome_own (refused r) lent other out h = after-refusal r lent other out
  outcome_own (done q) lent other out h = tested-own (total q) steps (λ room. leb (total q) 8192 && leb (total q) room) (both_more (total q)) (words q) lent other out (words-length q) h

abbrev resolving : ℕ → Pack → Answer
resolving room p = given_out (all_kinds p.relations).steps room (resolved p)

resolve-writes : Writes resolve_answer resolve_buffer
unfolding resolve_answer resolve_buffer
resolve-writes =
    record {
      none = λ room. none-refused _;
      fits = λ ws. fits (read ws);
      enough = λ ws. enough (read ws);
      more = λ ws. more (read ws);
      own = λ ws. own (read ws);
    }
  where
    fits : (r : Reading) (room : ℕ) → Within (answer r (resolving room)) room
    fits (yes p) room = outcome_fits (all_kinds p.relations).steps (resolved p) room
    fits (refuse r) room = tt

    enough : (r : Reading) (room : ℕ) → answer r (resolving (min room 8192)) ≡ answer r (resolving room)
    enough (yes p) room = given_enough (all_kinds p.relations).steps (resolved p) room
    enough (refuse r) room = refl

    more : (r : Reading) (few room : ℕ) → few ≤ room → (answer r (resolving few) ≡ out_of_room → ⊥) → answer r (resolving few) ≡ answer r (resolving room)
    more (yes p) few room h other = outcome_more (all_kinds p.relations).steps (resolved p) few room h other
    more (refuse r) few room h other = refl

    own : (r : Reading) (lent other out : List ℕ) → length lent ≤ length other
        → out_after (answer r (resolving (length lent))) (buffer r (λ p. written_out lent (resolved p)) lent) out ≡ out_after (answer r (resolving (length lent))) (buffer r (λ p. written_out other (resolved p)) other) out
    own (yes p) lent other out h = outcome_own (all_kinds p.relations).steps (resolved p) lent other out h
    own (refuse r) lent other out h = after-refusal r lent other out

pub writes : (w : Writing) → Writes (answer_of w) (buffer_of w)
writes Rewrite = rewrite_writes
writes AllKinds = all_kinds-writes
writes (Filtered f) = filtered_writes f
writes Resolve = resolve-writes
