-- Lists of names: what stands in them, none twice, and in any order.
use Prim.Native.Nat.{ℕ, suc, ◌≤◌}
use native.Mathlib.Omega.{arith}
use mathlib.Core.Path.{◌≡◌, refl, sym, ap, ◌∙◌, subst}
use mathlib.Core.Logic.{◌⊎◌, inl, inr}
use mathlib.Core.List.{map, List, [], ◌∷◌, ◌++◌}
use mathlib.Core.Bool.{Bool, true, false, ◌||◌, or_assoc}
use lib.ListN.{length}
use lib.Dec.{eqb}
use borrow.Author.Tests.{eqb-true, eq-eqb, ne_eqb}
use Rattle.std.proofs.lemmas.Bool.{false_from_ne_true, or_cases, or_left, or_parts, or_right}
use Rattle.definitions.specs.Table.{pick}
use Rattle.definitions.specs.Form.{among}
use Rattle.definitions.specs.Dealt.{nil, cons, swap, trans, InAnyOrder}
use Rattle.definitions.specs.Chain.{Distinct}
use Rattle.definitions.specs.Lean.{any}

-- tests
pub apart : {A : Type 0} {b : Bool} → b ≡ true → b ≡ false → A
apart e f = let z : ◌≡◌ {A = ℕ} 0 1 = cc in absurd (omega arith)

pub or_swap : (a b c : Bool) → (a || (b || c)) ≡ (b || (a || c))
or_swap true true c = refl
or_swap true false c = refl
or_swap false b c = refl

pub both_ways : (a b : Bool) → (a ≡ true → b ≡ true) → (b ≡ true → a ≡ true) → a ≡ b
both_ways true b f g = sym (f refl)
both_ways false b f g = sym (false_from_ne_true b (λ e. apart (g e) refl))

-- what stands in a list
pub among-append : (n : ℕ) (ns ms : List ℕ) → among n (ns ++ ms) ≡ (among n ns || among n ms)
among-append n [] ms = refl
among-append n (x ∷ ns) ms = ap (λ b. eqb n x || b) (among-append n ns ms) ∙ sym (or_assoc (eqb n x) (among n ns) (among n ms))

pub distinct_append : (ns ms : List ℕ) → Distinct ns → Distinct ms → ((n : ℕ) → among n ns ≡ true → among n ms ≡ false) → Distinct (ns ++ ms)
distinct_append [] ms d e h = e
distinct_append (n ∷ ns) ms d e h = (
  among-append n ns ms ∙ ap (λ b. b || among n ms) d.0 ∙ h n (or_left _ (among n ns) (eq-eqb n n refl)),
  distinct_append ns ms d.1 e (λ m i. h m (or_right (eqb m n) _ i)),
)

-- some name of a list passes a test
pub any_of : (f : ℕ → Bool) (n : ℕ) (ns : List ℕ) → among n ns ≡ true → f n ≡ true → any f ns ≡ true
any_of f n [] i h = i
any_of f n (x ∷ ns) i h = go (or_cases (eqb n x) (among n ns) i) (any_of f n ns)
  where
    go : (eqb n x ≡ true) ⊎ (among n ns ≡ true) → (among n ns ≡ true → f n ≡ true → any f ns ≡ true) → (f x || any f ns) ≡ true
    go (inl e) rest = or_left _ (any f ns) (subst (λ y. f y ≡ true) (eqb-true n x e) h)
    go (inr j) rest = or_right (f x) _ (rest j h)

pub of_any : (f : ℕ → Bool) (ns : List ℕ) → any f ns ≡ true → (n : ℕ) × (among n ns ≡ true) × (f n ≡ true)
of_any f [] h = apart h refl
of_any f (x ∷ ns) h = go (or_cases (f x) (any f ns) h) (of_any f ns)
  where
    go : (f x ≡ true) ⊎ (any f ns ≡ true) → (any f ns ≡ true → (n : ℕ) × (among n ns ≡ true) × (f n ≡ true)) → (n : ℕ) × (among n (x ∷ ns) ≡ true) × (f n ≡ true)
    go (inl e) rest = (x, or_left _ (among x ns) (eq-eqb x x refl), e)
    go (inr e) rest = let r = rest e in (r.0, or_right (eqb r.0 x) _ r.1, r.2)

-- a list without the first of a name
without : ℕ → List ℕ → List ℕ
without n [] = []
without n (m ∷ ms) = pick (eqb n m) ms (m ∷ without n ms)

without_length : (n : ℕ) (ms : List ℕ) → among n ms ≡ true → length ms ≡ suc (length (without n ms))
unfolding without
without_length n [] i = apart i refl
without_length n (m ∷ ms) i = go (eqb n m) i (without_length n ms)
  where
    go : (b : Bool) → (b || among n ms) ≡ true → (among n ms ≡ true → length ms ≡ suc (length (without n ms))) → suc (length ms) ≡ suc (length (pick b ms (m ∷ without n ms)))
    go true i rest = refl
    go false i rest = ap suc (rest i)

without_keeps : (n k : ℕ) (ms : List ℕ) → eqb k n ≡ false → among k ms ≡ true → among k (without n ms) ≡ true
unfolding without
without_keeps n k [] u i = i
without_keeps n k (m ∷ ms) u i = go (eqb n m) refl (or_cases (eqb k m) (among k ms) i) (without_keeps n k ms u)
  where
    go : (b : Bool) → eqb n m ≡ b → (eqb k m ≡ true) ⊎ (among k ms ≡ true) → (among k ms ≡ true → among k (without n ms) ≡ true) → among k (pick b ms (m ∷ without n ms)) ≡ true
    go true e (inl h) rest = apart (eq-eqb k n (eqb-true k m h ∙ sym (eqb-true n m e))) u
    go true e (inr h) rest = h
    go false e (inl h) rest = or_left _ (among k (without n ms)) h
    go false e (inr h) rest = or_right (eqb k m) _ (rest h)

-- distinct names that all stand in a list are no more than it has
pub no_more : (ns ms : List ℕ) → Distinct ns → ((n : ℕ) → among n ns ≡ true → among n ms ≡ true) → length ns ≤ length ms
no_more [] ms d h = omega arith
no_more (n ∷ ns) ms d h =
    let i : among n ms ≡ true = h n (or_left _ (among n ns) (eq-eqb n n refl)) in
    omega (arith, without_length n ms i, no_more ns (without n ms) d.1 (λ k j. without_keeps n k ms (other k j) (h k (or_right (eqb k n) _ j))))
  where
    other : (k : ℕ) → among k ns ≡ true → eqb k n ≡ false
    other k j = ne_eqb k n (λ e. apart (subst (λ x. among x ns ≡ true) e j) d.0)

pub same_number : (ns ms : List ℕ) → Distinct ns → Distinct ms → ((n : ℕ) → among n ns ≡ among n ms) → length ns ≡ length ms
same_number ns ms d e h = omega (arith, no_more ns ms d (λ n i. sym (h n) ∙ i), no_more ms ns e (λ n i. h n ∙ i))

-- in any order
pub shuffled_same : {A : Type 0} (l : List A) → InAnyOrder l l
shuffled_same [] = nil
shuffled_same (a ∷ l) = cons refl (shuffled_same l)

pub shuffled_after : {A : Type 0} (k : List A) {l m : List A} → InAnyOrder l m → InAnyOrder (k ++ l) (k ++ m)
shuffled_after [] p = p
shuffled_after (a ∷ k) p = cons refl (shuffled_after k p)

shuffled_between : {A : Type 0} (a : A) (k l : List A) → InAnyOrder (a ∷ k ++ l) (k ++ (a ∷ l))
shuffled_between a [] l = shuffled_same (a ∷ l)
shuffled_between a (b ∷ k) l = trans swap (cons refl (shuffled_between a k l))

-- two lists in a row change places
pub shuffled_rows : {A : Type 0} (k l m : List A) → InAnyOrder (k ++ (l ++ m)) (l ++ (k ++ m))
shuffled_rows [] l m = shuffled_same (l ++ m)
shuffled_rows (a ∷ k) l m = trans (cons refl (shuffled_rows k l m)) (shuffled_between a l (k ++ m))

pub shuffled_any : {A : Type 0} (f : A → Bool) {l m : List A} → InAnyOrder l m → any f l ≡ any f m
shuffled_any f nil = refl
shuffled_any f (cons {a = a} {m = m} e p) = ap (λ b. f a || b) (shuffled_any f p) ∙ ap (λ x. f x || any f m) e
shuffled_any f (swap {a = a} {b = b} {l = l}) = or_swap (f a) (f b) (any f l)
shuffled_any f (trans p q) = shuffled_any f p ∙ shuffled_any f q

pub shuffled_among : {ns ms : List ℕ} → InAnyOrder ns ms → (n : ℕ) → among n ns ≡ among n ms
shuffled_among nil n = refl
shuffled_among (cons e p) n = cc (e, shuffled_among p n)
shuffled_among (swap {a = a} {b = b} {l = l}) n = or_swap (eqb n a) (eqb n b) (among n l)
shuffled_among (trans p q) n = shuffled_among p n ∙ shuffled_among q n

pub shuffled_map : {A B : Type 0} (f : A → B) {l m : List A} → InAnyOrder l m → InAnyOrder (map f l) (map f m)
shuffled_map f nil = nil
shuffled_map f (cons e p) = cons (ap f e) (shuffled_map f p)
shuffled_map f swap = swap
shuffled_map f (trans p q) = trans (shuffled_map f p) (shuffled_map f q)

pub shuffled_distinct : {ns ms : List ℕ} → InAnyOrder ns ms → Distinct ns → Distinct ms
shuffled_distinct nil d = tt
shuffled_distinct (cons {a = a} {b = b} {l = l} e p) d = (sym (shuffled_among p b) ∙ ap (λ x. among x l) (sym e) ∙ d.0, shuffled_distinct p d.1)
shuffled_distinct (swap {a = a} {b = b} {l = l}) d = (unlike (eqb b a) refl, ((or_parts (eqb a b) (among a l) d.0).1, d.1.1))
  where
    unlike : (t : Bool) → eqb b a ≡ t → (eqb b a || among b l) ≡ false
    unlike true e = apart (eq-eqb a b (sym (eqb-true b a e))) (or_parts (eqb a b) (among a l) d.0).0
    unlike false e = rw e d.1.0
shuffled_distinct (trans p q) d = shuffled_distinct q (shuffled_distinct p d)
