-- Answers may be mapped before the walks or after them: a place is found for the answer of an owner, and counts go along.
use Prim.Native.Nat.{ℕ, zero, suc, ◌+◌}
use mathlib.Core.Path.{◌≡◌, refl, ap, subst, fun_ext}
use mathlib.Core.List.{List, [], ◌∷◌}
use mathlib.Core.Bool.{Bool, true, false}
use mathlib.Core.Option.{Option, none, some, map}
use lib.ListN.{length}
use lib.Dec.{eqb}
use Rattle.definitions.specs.Table.{pick}
use Rattle.definitions.specs.Form.{among}
use Rattle.definitions.specs.Chain.{Link, end, next, mapped, Settled, nothing, put, Walked, walk, own, AllWalked, walk_all, walks_from}

module _ {R S : Type 0} (g : R → S) where
  abbrev mapped_settled : Settled R → Settled S
  mapped_settled t n = map g (t n)

  abbrev mapped_walk : Walked R → Walked S
  mapped_walk w = record { answer = g w.answer; settled = mapped_settled w.settled; steps = w.steps }

  abbrev mapped_all : AllWalked R → AllWalked S
  mapped_all a = record { settled = mapped_settled a.settled; steps = a.steps }

  put-mapped : (n : ℕ) (r : R) (t : Settled R) → put n (g r) (mapped_settled t) ≡ mapped_settled (put n r t)
  put-mapped n r t = fun_ext (λ m. go (t m) (eqb m n))
    where
      go : (o : Option R) (b : Bool) → pick b (some (g r)) (map g o) ≡ map g (pick b (some r) o)
      go o true = refl
      go o false = refl

  module _ (stuck : R) (along : R → R) (along' : S → S) (links : (r : R) → g (along r) ≡ along' (g r)) (step : ℕ → Link R) where
    abbrev step' : ℕ → Link S
    step' n = mapped g (step n)

    walk-mapped : (fuel : ℕ) (t : Settled R) (p : List ℕ) (n : ℕ) → walk (g stuck) along' step' fuel (mapped_settled t) p n ≡ mapped_walk (walk stuck along step fuel t p n)
    unfolding walk
    walk-mapped zero t p n = refl
    walk-mapped (suc fuel) t p n = at_settled (t n) refl (walk-mapped fuel t (n ∷ p))
      where
        Goal : Type 0
        Goal = walk (g stuck) along' step' (suc fuel) (mapped_settled t) p n ≡ mapped_walk (walk stuck along step (suc fuel) t p n)

        Rest : Type 0
        Rest = (m : ℕ) → walk (g stuck) along' step' fuel (mapped_settled t) (n ∷ p) m ≡ mapped_walk (walk stuck along step fuel t (n ∷ p) m)

        at_step : t n ≡ none → among n p ≡ false → (s : Link R) → step n ≡ s → Rest → Goal
        at_step e o (end r) f rest = rw (e, o, f, walk) (λ i. record { answer = g r; settled = put-mapped n r t i; steps = 1 })
        at_step e o (next m) f rest =
            let w : Walked R = walk stuck along step fuel t (n ∷ p) m in
            rw (e, o, f, walk, rest m, ← links w.answer) (λ i. record { answer = g (along w.answer); settled = put-mapped n (along w.answer) w.settled i; steps = suc w.steps })

        at_path : t n ≡ none → (b : Bool) → among n p ≡ b → Rest → Goal
        at_path e true o rest = rw (e, o, walk)
        at_path e false o rest = at_step e o (step n) refl rest

        at_settled : (o : Option R) → t n ≡ o → Rest → Goal
        at_settled (some r) e rest = rw (e, walk)
        at_settled none e rest = at_path e (among n p) refl rest

    all-mapped : (declared starts : List ℕ) (t : Settled R) (k : ℕ)
        → walk_all (g stuck) along' step' declared starts (mapped_settled t) k ≡ mapped_all (walk_all stuck along step declared starts t k)
    unfolding walks_from
    all-mapped declared [] t k = refl
    all-mapped declared (s ∷ starts) t k =
        let w : Walked R = walk stuck along step (suc (length declared)) t [] s in
        rw (walk-mapped (suc (length declared)) t [] s) (all-mapped declared starts w.settled (k + w.steps))

-- the walks of the mapped steps give the mapped answers, and read as many names
pub record AnswersMapped {R S : Type 0} (g : R → S) (stuck : R) (along : R → R) (step : ℕ → Link R) (stuck' : S) (along' : S → S) (step' : ℕ → Link S) (declared starts : List ℕ) : Type 0 where
  pub own_walks : (n : ℕ) → own stuck' along' step' declared n ≡ g (own stuck along step declared n)
  pub settled : (n : ℕ) → (walk_all stuck' along' step' declared starts nothing 0).settled n ≡ map g ((walk_all stuck along step declared starts nothing 0).settled n)
  pub steps : (walk_all stuck' along' step' declared starts nothing 0).steps ≡ (walk_all stuck along step declared starts nothing 0).steps

pub answers-mapped : {R S : Type 0} (g : R → S) (stuck : R) (stuck' : S) → g stuck ≡ stuck' → (along : R → R) (along' : S → S) → ((r : R) → g (along r) ≡ along' (g r))
    → (step : ℕ → Link R) (step' : ℕ → Link S) → ((n : ℕ) → mapped g (step n) ≡ step' n) → (declared starts : List ℕ) → AnswersMapped g stuck along step stuck' along' step' declared starts
unfolding own
answers-mapped {S = S} g stuck stuck' e along along' links step step' h declared starts =
    let all = all-mapped g stuck along along' links step declared starts nothing 0 in
    subst (λ u. AnswersMapped g stuck along step u along' step' declared starts) e
    (subst (λ u. AnswersMapped g stuck along step (g stuck) along' u declared starts) (fun_ext h)
    (record {
      own_walks = λ n. ap (λ (w : Walked S). w.answer) (walk-mapped g stuck along along' links step (suc (length declared)) nothing [] n);
      settled = λ n. ap (λ (a : AllWalked S). a.settled n) all;
      steps = ap (λ (a : AllWalked S). a.steps) all;
    }))
