-- Every operation refuses by 01's numbers alone, and a refusal changes nothing that is lent: on words, over bytes, and in the number that the host's function answers.
use Rattle.std.specs.Prelude.{Ok, Err}
use Prim.Native.Nat.{ℕ, zero, suc, ◌+◌, ◌/◌, ◌<◌, ◌≤◌}
use native.Mathlib.Omega.{arith}
use mathlib.Core.Path.{◌≡◌, refl, ap, sym, ◌∙◌}
use mathlib.Core.Bool.{Bool, true, false, ◌||◌, ◌&&◌}
use mathlib.Core.List.{List, [], ◌∷◌, ◌++◌}
use mathlib.Core.Logic.{◌⊎◌, inl, inr}
use lib.ListN.{length, drop}
use lib.Dec.{eqb, leb, ltb}
use borrow.Author.Tests.{eqb-true, eqb-false, ltb-true}
use Rattle.definitions.specs.declared.answer.Refusal.{Refusal}
use Rattle.definitions.specs.Answers.{Answer}
use Rattle.definitions.specs.Answers.{gives}
use Rattle.definitions.specs.Table.{pick}
use Rattle.definitions.specs.Form.{among}
use Rattle.definitions.specs.Records.{Pack}
use Rattle.definitions.specs.Pack.{Reading, yes, refuse, read, total, words}
use Rattle.definitions.specs.Answers.{answer, buffer, out_of_room, write_answer, write_buffer, unknown, Outcome, done, refused}
use Rattle.definitions.specs.Checking.{rewrite_answer, rewrite_buffer, CheckRefuses}
use Rattle.pack.proofs.Refusals.{check-numbers, rewrite_numbers}
use Rattle.definitions.specs.Kinds.{all_kinds}
use Rattle.definitions.specs.Places.{all_kinds_words}
use Rattle.chains.proofs.RefusalNumbers.{no_given, NoRoom}
use Rattle.definitions.specs.Operations.{all_kinds_answer, all_kinds_buffer, filter_answer, filter_buffer, resolve_answer, resolve_buffer, answer_to, answer_of, buffer_of}
use Rattle.resolve.specs.Finish.{given_out, written_out}
use Rattle.theorems.proofs.KindsNumbers.{all_kinds_numbers, kinds_of_numbers, lean_numbers}
use Rattle.definitions.specs.Filtered.{filter_words}
use Rattle.filtered.proofs.FilterLaws.{filter_numbers}
use Rattle.definitions.specs.Resolving.{resolved}
use Rattle.theorems.specs.ResolveRefusing.{ResolveRefuses, checks, equal-kinds, open_direction, no_room}
use Rattle.theorems.proofs.ResolveNumbers.{resolve_numbers}
use Rattle.definitions.specs.Bytes.{words_of, encode, number_field, are_words, not_words, over_bytes, out_after, in_room}
use Rattle.definitions.specs.declared.operation.Question.{Question}
use Rattle.definitions.specs.declared.operation.Question.TheVariants.{Check, KindsOf, Lean}
use Rattle.definitions.specs.declared.operation.Writing.{Writing}
use Rattle.definitions.specs.declared.operation.Writing.TheVariants.{Rewrite, AllKinds, Filtered, Resolve}
use Rattle.theorems.specs.Refusing.{check_numbers, numbers_to, numbers_of, Among, NoneOrAmong, QuestionRefuses, WritingRefuses}

-- ---- numbers among numbers

among_left : (v : ℕ) (xs ys : List ℕ) → Among v xs → Among v (xs ++ ys)
among_left v [] ys h = let z : ◌≡◌ {A = ℕ} 0 1 = cc in absurd (omega arith)
among_left v (x ∷ xs) ys h = go (eqb v x) h (among_left v xs ys)
  where
    go : (b : Bool) → (b || among v xs) ≡ true → (among v xs ≡ true → among v (xs ++ ys) ≡ true) → (b || among v (xs ++ ys)) ≡ true
    go true h rest = refl
    go false h rest = rest h

-- the numbers from one on, so many
abbrev up_from : ℕ → ℕ → List ℕ
up_from low zero = []
up_from low (suc count) = low ∷ up_from (low + 1) count

among_up : (low count v : ℕ) → low ≤ v → v < low + count → Among v (up_from low count)
among_up low zero v h k = absurd (omega arith)
among_up low (suc count) v h k = go (eqb v low) refl (λ d. among_up (low + 1) count v d (omega arith))
  where
    go : (b : Bool) → eqb v low ≡ b → (low + 1 ≤ v → Among v (up_from (low + 1) count)) → (b || among v (up_from (low + 1) count)) ≡ true
    go true e rest = refl
    go false e rest = let z = eqb-false v low e in rest (omega arith)

-- numbers that are all below a limit
abbrev all_below : ℕ → List ℕ → Bool
all_below most [] = true
all_below most (x ∷ xs) = ltb x most && all_below most xs

among_below : (most : ℕ) (xs : List ℕ) → all_below most xs ≡ true → (v : ℕ) → Among v xs → v < most
among_below most [] h v a = let z : ◌≡◌ {A = ℕ} 0 1 = cc in absurd (omega arith)
among_below most (x ∷ xs) h v a = go (ltb x most) refl h (eqb v x) refl a (λ h. among_below most xs h v)
  where
    go : (c : Bool) → ltb x most ≡ c → (c && all_below most xs) ≡ true → (b : Bool) → eqb v x ≡ b → (b || among v xs) ≡ true → (all_below most xs ≡ true → Among v xs → v < most) → v < most
    go true l h true e a rest = rw (eqb-true v x e) (ltb-true x most l)
    go true l h false e a rest = rest h a
    go false l h b e a rest = let z : ◌≡◌ {A = ℕ} 0 1 = cc in absurd (omega arith)

-- ---- the numbers on words

of_check : (more ws : List ℕ) (r : Refusal) → CheckRefuses ws r → Among r.number (check_numbers ++ more)
of_check more ws r h = among_left r.number check_numbers more (among_up 1 8 r.number h.within.least (omega (arith, h.within.most)))

number_of : (r s : Refusal) → ◌≡◌ {A = Answer} (Err r) (Err s) → r.number ≡ s.number
number_of r s e = cc

-- Check's, or those that come after
checks_or : (more ws : List ℕ) (r : Refusal) {P : Type 0} → (P → Among r.number (check_numbers ++ more)) → CheckRefuses ws r ⊎ P → Among r.number (check_numbers ++ more)
checks_or more ws r f (inl h) = of_check more ws r h
checks_or more ws r f (inr h) = f h

of_room : (r : Refusal) → NoRoom r → Among r.number (check_numbers ++ (16 ∷ []))
of_room r h = rw (number_of r _ h) refl

of_name : (name : ℕ) (r : Refusal) → Err r ≡ unknown name → Among r.number (check_numbers ++ (17 ∷ []))
of_name name r h = rw (number_of r _ h) refl

of_names : (a b : ℕ) (r : Refusal) → (Err r ≡ unknown a) ⊎ (Err r ≡ unknown b) → Among r.number (check_numbers ++ (17 ∷ []))
of_names a b r (inl h) = of_name a r h
of_names a b r (inr h) = of_name b r h

resolves : (ws : List ℕ) (r : Refusal) → ResolveRefuses ws r → Among r.number (numbers_of Resolve)
resolves ws r (checks h) = of_check (9 ∷ 10 ∷ 11 ∷ 12 ∷ 13 ∷ 14 ∷ 15 ∷ 16 ∷ []) ws r h
resolves ws r (equal-kinds e o) = rw e refl
resolves ws r (open_direction h o) = among_up 1 16 r.number (omega (arith, h.0)) (omega (arith, h.1))
resolves ws r (no_room h) = rw (number_of r _ h) refl

to_numbers : (q : Question) (ws : List ℕ) (r : Refusal) → answer_to q ws ≡ Err r → Among r.number (numbers_to q)
to_numbers Check ws r e = of_check [] ws r (check-numbers ws r e)
to_numbers (KindsOf name) ws r e = checks_or (17 ∷ []) ws r (of_name name r) (kinds_of_numbers ws name r e)
to_numbers (Lean a b) ws r e = checks_or (17 ∷ []) ws r (of_names a b r) (lean_numbers ws a b r e)

of_numbers : (w : Writing) (ws : List ℕ) (room : ℕ) (r : Refusal) → answer_of w ws room ≡ Err r → Among r.number (numbers_of w)
of_numbers Rewrite ws room r e = checks_or (16 ∷ []) ws r (of_room r) (rewrite_numbers ws room r e)
of_numbers AllKinds ws room r e = checks_or (16 ∷ []) ws r (of_room r) (all_kinds_numbers ws room r e)
of_numbers (Filtered f) ws room r e = checks_or (16 ∷ []) ws r (of_room r) (filter_numbers f ws room r e)
of_numbers Resolve ws room r e = resolves ws r (resolve_numbers ws room r e)

-- ---- over bytes: bytes that are no words are refused by 1, which is a number of every operation

over_numbers : (numbers : List ℕ) (f : List ℕ → Answer) → ((ws : List ℕ) (r : Refusal) → f ws ≡ Err r → Among r.number numbers) → Among 1 numbers
    → (bytes : List ℕ) (r : Refusal) → over_bytes f bytes ≡ Err r → Among r.number numbers
unfolding over_bytes
over_numbers numbers f h one bytes r e = go (are_words (length bytes)) e
  where
    go : (b : Bool) → pick b (f (words_of bytes)) not_words ≡ Err r → Among r.number numbers
    go true e = h (words_of bytes) r e
    go false e = rw (number_of r _ (sym e)) one

-- ---- in the number that the host's function answers

given_number : (v s : ℕ) → number_field (encode (gives v s)) ≡ 0
given_number v s = omega arith

refused_number : (r : Refusal) → r.number < 64 → number_field (encode (Err r)) ≡ r.number
refused_number r h = omega arith

-- an answer that refuses by some numbers
module _ (numbers : List ℕ) (low : all_below 64 numbers ≡ true) (a : Answer) (h : (r : Refusal) → a ≡ Err r → Among r.number numbers) where
  host_tells : (r : Refusal) → a ≡ Err r → number_field (encode a) ≡ r.number
  host_tells r e = ap (λ (b : Answer). number_field (encode b)) e ∙ refused_number r (among_below 64 numbers low r.number (h r e))

  host_number : NoneOrAmong (number_field (encode a)) numbers
  host_number = go a refl
    where
      go : (b : Answer) → a ≡ b → NoneOrAmong (number_field (encode a)) numbers
      go (Ok g) e = inl (ap (λ (b : Answer). number_field (encode b)) e ∙ given_number g.value g.steps)
      go (Err r) e = inr (rw (host_tells r e) (h r e))

to_low : (q : Question) → (all_below 64 (numbers_to q) ≡ true) × Among 1 (numbers_to q)
to_low Check = (refl, refl)
to_low (KindsOf name) = (refl, refl)
to_low (Lean a b) = (refl, refl)

of_low : (w : Writing) → (all_below 64 (numbers_of w) ≡ true) × Among 1 (numbers_of w)
of_low Rewrite = (refl, refl)
of_low AllKinds = (refl, refl)
of_low (Filtered f) = (refl, refl)
of_low Resolve = (refl, refl)

-- ---- what is lent

-- words that are written if there is room
write_kept : (out : List ℕ) (steps : ℕ) (lent : List ℕ) (r : Refusal) → write_answer out steps (length lent) ≡ Err r → write_buffer out lent ≡ lent
write_kept out steps lent r e = go (leb (length out) (length lent)) e
  where
    go : (b : Bool) → pick b (gives (length out) steps) out_of_room ≡ Err r → pick b (out ++ drop (length out) lent) lent ≡ lent
    go true e = absurd (no_given e)
    go false e = refl

outcome_kept : (steps : ℕ) (o : Outcome Pack) (lent : List ℕ) (r : Refusal) → given_out steps (length lent) o ≡ Err r → written_out lent o ≡ lent
outcome_kept steps (refused s) lent r e = refl
outcome_kept steps (done q) lent r e = go (leb (total q) 8192 && leb (total q) (length lent)) e
  where
    go : (b : Bool) → pick b (gives (total q) steps) out_of_room ≡ Err r → pick b (words q ++ drop (total q) lent) lent ≡ lent
    go true e = absurd (no_given e)
    go false e = refl

-- an operation that reads a pack first
reads_kept : (f : Pack → Answer) (g : Pack → List ℕ) (lent : List ℕ) (r : Refusal) → ((p : Pack) → f p ≡ Err r → g p ≡ lent) → (m : Reading) → answer m f ≡ Err r → buffer m g lent ≡ lent
reads_kept f g lent r h (yes p) e = h p e
reads_kept f g lent r h (refuse s) e = refl

-- "a refusal changes no lent word"
pub refusal_keeps : (w : Writing) (ws lent : List ℕ) (r : Refusal) → answer_of w ws (length lent) ≡ Err r → buffer_of w ws lent ≡ lent
unfolding rewrite_answer rewrite_buffer all_kinds_answer all_kinds_buffer filter_answer filter_buffer resolve_answer resolve_buffer
refusal_keeps Rewrite ws lent r e = reads_kept _ _ lent r (λ p q. write_kept (words p) 0 lent r q) (read ws) e
refusal_keeps AllKinds ws lent r e = reads_kept _ _ lent r (λ p q. write_kept (all_kinds_words p) (all_kinds p.relations).steps lent r q) (read ws) e
refusal_keeps (Filtered f) ws lent r e = reads_kept _ _ lent r (λ p q. write_kept (filter_words f p) 0 lent r q) (read ws) e
refusal_keeps Resolve ws lent r e = reads_kept _ _ lent r (λ p q. outcome_kept (all_kinds p.relations).steps (resolved p) lent r q) (read ws) e

-- an output after an answer that is a refusal, and after one whose number has a refusal's bits
after-refused : (a : Answer) (written out : List ℕ) (r : Refusal) → a ≡ Err r → out_after a written out ≡ out
unfolding out_after
after-refused (Ok g) written out r e = absurd (no_given e)
after-refused (Err s) written out r e = refl

after_number : (a : Answer) (written out : List ℕ) → (number_field (encode a) ≡ 0 → ⊥) → out_after a written out ≡ out
unfolding out_after
after_number (Ok g) written out h = absurd (h (given_number g.value g.steps))
after_number (Err s) written out h = refl

-- ---- the theorems

pub every_question : (q : Question) → QuestionRefuses q
every_question q =
    record {
      words_numbers = to_numbers q;
      bytes_numbers = over;
      host_numbers = λ bytes n e. rw e (host_number (numbers_to q) (to_low q).0 (over_bytes (answer_to q) bytes) (over bytes));
      host_tells = λ bytes n e. rw e (host_tells (numbers_to q) (to_low q).0 (over_bytes (answer_to q) bytes) (over bytes));
    }
  where
    over : (bytes : List ℕ) (r : Refusal) → over_bytes (answer_to q) bytes ≡ Err r → Among r.number (numbers_to q)
    over = over_numbers (numbers_to q) (answer_to q) (to_numbers q) (to_low q).1

pub every_writing : (w : Writing) → WritingRefuses w
every_writing w =
    record {
      words_numbers = of_numbers w;
      bytes_numbers = over;
      host_numbers = λ bytes out n after g. rw g.answers (host_number (numbers_of w) (of_low w).0 (answered bytes out) (over bytes out));
      host_tells = λ bytes out n after g. rw g.answers (host_tells (numbers_of w) (of_low w).0 (answered bytes out) (over bytes out));
      words_kept = refusal_keeps w;
      bytes_kept = λ bytes out n after g r e. g.leaves ∙ after-refused (answered bytes out) (written bytes out) out r e;
      host_kept = λ bytes out n after g h. g.leaves ∙ after_number (answered bytes out) (written bytes out) out (λ z. h (ap number_field g.answers ∙ z));
    }
  where
    answered : List ℕ → List ℕ → Answer
    answered bytes out = in_room (answer_of w) (length out) bytes

    written : List ℕ → List ℕ → List ℕ
    written bytes out = buffer_of w (words_of bytes) (words_of out)

    over : (bytes out : List ℕ) (r : Refusal) → answered bytes out ≡ Err r → Among r.number (numbers_of w)
    over bytes out = over_numbers (numbers_of w) (λ ws. answer_of w ws (length out / 4)) (λ ws. of_numbers w ws (length out / 4)) (of_low w).1 bytes
