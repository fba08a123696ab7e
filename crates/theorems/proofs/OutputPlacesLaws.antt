-- The place given to each record that Resolve writes, and the one handed on.
use Prim.Native.Nat.{ℕ, ◌+◌}
use native.Mathlib.Omega.{arith}
use mathlib.Core.Path.{◌≡◌, refl, ap, sym, ◌∙◌, subst}
use mathlib.Core.List.{List, [], ◌∷◌, ◌++◌, append_assoc, append-nil}
use mathlib.Core.Bool.{Bool, true, false, ◌&&◌}
use lib.ListN.{length, get_or, take, drop, length-append, length-map, get_or-eq_default}
use lib.Seq.{get_or_at, drop_at, take_at}
use lib.Dec.{leb}
use Rattle.definitions.specs.Records.{Pack}
use Rattle.definitions.specs.Pack.{yes, read, words, total}
use Rattle.definitions.specs.Answers.{done, out_of_room, words_and_steps}
use Rattle.definitions.specs.Resolving.{resolved}
use Rattle.definitions.specs.Operations.{resolve_answer, resolve_buffer}
use Rattle.definitions.specs.WrittenRecords.{front_piece, pieces_of, joined, sums, lengths, beginnings}
use Rattle.pack.proofs.PackLaws.{words-length}
use Rattle.directions.proofs.TurnedPack.{pack-words}
use Rattle.resolve.proofs.WriteLaws.{joined-append}
use Rattle.resolve.proofs.WrittenPack.{pieces_joined}
use Rattle.resolve.proofs.OrderLaws.{sums-many, begin_append}
use Rattle.theorems.specs.OutputPlaces.{place_of_record, PlacesCarried, OutputPlaces}

-- ---- of lists of words

begin_many : (at : ℕ) (l : List (List ℕ)) → length (beginnings at l) ≡ length l
begin_many at l = sums-many at (lengths l) ∙ length-map l (λ (w : List ℕ). length w)

-- the one after those before it
place-there : (before after : List (List ℕ)) (r : List ℕ) (end : ℕ) → get_or (beginnings 0 (before ++ (r ∷ after))) (length before) end ≡ length (joined before)
unfolding sums
place-there before after r end =
    ap (λ (l : List ℕ). get_or l (length before) end) (begin_append 0 before (r ∷ after))
    ∙ get_or_at (beginnings 0 before) (0 + length (joined before)) (sums (0 + length (joined before) + length r) (lengths after)) end (length before) (begin_many 0 before) ∙ omega arith

one_more : (before : List (List ℕ)) (r : List ℕ) → (length (before ++ (r ∷ [])) ≡ length before + 1) × (length (joined (before ++ (r ∷ []))) ≡ length (joined before) + length r)
one_more before r =
    (length-append before (r ∷ []), ap length (joined-append before (r ∷ []) ∙ ap (λ (l : List ℕ). joined before ++ l) (append-nil r)) ∙ length-append (joined before) r)

-- and the next, or the end
next-there : (before after : List (List ℕ)) (r : List ℕ) (end : ℕ) → end ≡ length (joined (before ++ (r ∷ after))) → get_or (beginnings 0 (before ++ (r ∷ after))) (length before + 1) end ≡ length (joined before) + length r
next-there before [] r end e =
    let m = one_more before r in
    get_or-eq_default (beginnings 0 (before ++ (r ∷ []))) end (omega (arith, begin_many 0 (before ++ (r ∷ [])), m.0)) ∙ e ∙ m.1
next-there before (s ∷ after) r end e =
    let m = one_more before r in
    ap (λ (l : List (List ℕ)). get_or (beginnings 0 l) (length before + 1) end) (sym (append_assoc before (r ∷ []) (s ∷ after)))
    ∙ ap (λ (i : ℕ). get_or (beginnings 0 ((before ++ (r ∷ [])) ++ (s ∷ after))) i end) (sym m.0) ∙ place-there (before ++ (r ∷ [])) after s end ∙ m.1

-- there its words stand
words-there : (before after : List (List ℕ)) (r rest : List ℕ) (place : ℕ) → place ≡ length (joined before) → take (length r) (drop place (joined (before ++ (r ∷ after)) ++ rest)) ≡ r
words-there before after r rest place e =
    let all : joined (before ++ (r ∷ after)) ++ rest ≡ joined before ++ (r ++ (joined after ++ rest)) =
    ap (λ (l : List ℕ). l ++ rest) (joined-append before (r ∷ after)) ∙ append_assoc (joined before) (r ++ joined after) rest ∙ ap (λ (l : List ℕ). joined before ++ l) (append_assoc r (joined after) rest) in
    ap (λ (l : List ℕ). take (length r) (drop place l)) all ∙ ap (take (length r)) (drop_at (joined before) (r ++ (joined after ++ rest)) place (sym e)) ∙ take_at r (joined after ++ rest) (length r) refl

-- ---- of a pack

whole_words : (q : Pack) → words q ≡ joined (pieces_of q)
whole_words q = pack-words q ∙ ap (λ (x : List ℕ). front_piece q ++ x) (sym (pieces_joined q q.relations))

pub carried_in : (q : Pack) (rest : List ℕ) → PlacesCarried q (words q ++ rest)
carried_in q rest =
    record {
      carried = λ before after r e. record {
        given = ap (λ (l : List (List ℕ)). get_or (beginnings 0 l) (length before) (total q)) e ∙ place-there before after r (total q);
        handed_on = ap (λ (l : List (List ℕ)). get_or (beginnings 0 l) (length before + 1) (total q)) e ∙ next-there before after r (total q) (sym (words-length q) ∙ ap length (whole_words q) ∙ ap (λ (l : List (List ℕ)). length (joined l)) e)
            ∙ ap (λ (i : ℕ). i + length r) (sym (ap (λ (l : List (List ℕ)). get_or (beginnings 0 l) (length before) (total q)) e ∙ place-there before after r (total q)));
      };
      stands = λ before after r e.
          ap (λ (l : List ℕ). take (length r) (drop (place_of_record q (length before)) (l ++ rest))) (whole_words q ∙ ap joined e)
          ∙ words-there before after r rest (place_of_record q (length before)) (ap (λ (l : List (List ℕ)). get_or (beginnings 0 l) (length before) (total q)) e ∙ place-there before after r (total q));
    }

no : {A : Type 0} {n steps : ℕ} → out_of_room ≡ words_and_steps n steps → A
no e = let z : ◌≡◌ {A = ℕ} 0 1 = cc in absurd (omega arith)

left_by : (ws lent : List ℕ) (p q : Pack) (n steps : ℕ) → read ws ≡ yes p → resolved p ≡ done q → resolve_answer ws (length lent) ≡ words_and_steps n steps → resolve_buffer ws lent ≡ words q ++ drop (total q) lent
unfolding resolve_answer resolve_buffer
left_by ws lent p q n steps r o a = go (leb (total q) 8192 && leb (total q) (length lent)) refl
  where
    go : (b : Bool) → (leb (total q) 8192 && leb (total q) (length lent)) ≡ b → resolve_buffer ws lent ≡ words q ++ drop (total q) lent
    go true e = rw (r, o, e) refl
    go false e = no (rw (r, o, e) at a)

pub output_places : OutputPlaces
output_places ws lent p q n steps r o a = subst (λ (l : List ℕ). PlacesCarried q l) (sym (left_by ws lent p q n steps r o a)) (carried_in q (drop (total q) lent))
