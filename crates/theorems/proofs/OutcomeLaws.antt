-- What resolving comes to, whatever a refusal reports: a result or none. For lists, and for lists in any order.
use mathlib.Core.Path.{◌≡◌, refl, subst}
use mathlib.Core.List.{List, [], ◌∷◌}
use mathlib.Core.Option.{Option, none, some, map}
use Rattle.definitions.specs.Dealt.{nil, cons, swap, trans, InAnyOrder}
use Rattle.chains.proofs.Names.{shuffled_same}
use Rattle.definitions.specs.Answers.{Outcome, done, refused, and_then, map_done, result}

abbrev pub bound : {A B : Type 0} → Option A → (A → Option B) → Option B
bound none f = none
bound (some a) f = f a

pub result-map : {A B : Type 0} (f : A → B) (o : Outcome A) → result (map_done f o) ≡ map f (result o)
result-map f (done a) = refl
result-map f (refused r) = refl

pub result_then : {A B : Type 0} (o : Outcome A) (f : A → Outcome B) (g : A → Option B) → ((a : A) → result (f a) ≡ g a) → result (and_then o f) ≡ bound (result o) g
result_then (done a) f g h = h a
result_then (refused r) f g h = refl

-- one after the other
unfoldable pub all_done : {A B : Type 0} → (A → Option B) → List A → Option (List B)
all_done f [] = some []
all_done f (a ∷ l) = bound (f a) (λ b. map (λ m. b ∷ m) (all_done f l))

-- two lists that both come out, in any order, or neither
abbrev pub Alike : {B : Type 0} → Option (List B) → Option (List B) → Type 0
Alike none none = Unit {0}
Alike none (some m) = ⊥
Alike (some l) none = ⊥
Alike (some l) (some m) = InAnyOrder l m

alike_same : {B : Type 0} (o : Option (List B)) → Alike o o
alike_same none = tt
alike_same (some l) = shuffled_same l

alike_trans : {B : Type 0} (a b c : Option (List B)) → Alike a b → Alike b c → Alike a c
alike_trans none none none h k = tt
alike_trans none none (some n) h k = k
alike_trans none (some m) c h k = absurd h
alike_trans (some l) none c h k = absurd h
alike_trans (some l) (some m) none h k = k
alike_trans (some l) (some m) (some n) h k = trans h k

alike_cons : {B : Type 0} (b : B) (x y : Option (List B)) → Alike x y → Alike (map (λ m. b ∷ m) x) (map (λ m. b ∷ m) y)
alike_cons b none none h = tt
alike_cons b none (some m) h = h
alike_cons b (some l) none h = h
alike_cons b (some l) (some m) h = cons refl h

alike_swap : {B : Type 0} (o q : Option B) (x : Option (List B))
    → Alike (bound o (λ a. map (λ m. a ∷ m) (bound q (λ b. map (λ m. b ∷ m) x)))) (bound q (λ b. map (λ m. b ∷ m) (bound o (λ a. map (λ m. a ∷ m) x))))
alike_swap none none x = tt
alike_swap none (some b) x = tt
alike_swap (some a) none x = tt
alike_swap (some a) (some b) none = tt
alike_swap (some a) (some b) (some l) = swap

pub all_dealt : {A B : Type 0} (f : A → Option B) {l m : List A} → InAnyOrder l m → Alike (all_done f l) (all_done f m)
unfolding all_done
all_dealt f nil = nil
all_dealt f (cons {a = a} {b = b} {l = l} {m = m} e p) =
    subst (λ c. Alike (all_done f (a ∷ l)) (all_done f (c ∷ m))) e (go (f a) (all_dealt f p))
  where
    go : (o : Option _) → Alike (all_done f l) (all_done f m) → Alike (bound o (λ b. map (λ k. b ∷ k) (all_done f l))) (bound o (λ b. map (λ k. b ∷ k) (all_done f m)))
    go none h = tt
    go (some b) h = alike_cons b (all_done f l) (all_done f m) h
all_dealt f (swap {a = a} {b = b} {l = l}) = alike_swap (f a) (f b) (all_done f l)
all_dealt f (trans {l = l} {m = m} {n = n} p q) = alike_trans (all_done f l) (all_done f m) (all_done f n) (all_dealt f p) (all_dealt f q)
