-- `outside` lists the undeclared names to which names of a list lead.
use Prim.Native.Nat.{ℕ}
use native.Mathlib.Omega.{arith}
use mathlib.Core.Path.{◌≡◌, refl, sym, ap, ◌∙◌, subst}
use mathlib.Core.List.{List, [], ◌∷◌}
use mathlib.Core.Bool.{Bool, true, false, ◌||◌, ◌&&◌, not}
use lib.Dec.{eqb}
use borrow.Author.Tests.{eqb-true, eq-eqb}
use Rattle.std.proofs.lemmas.Bool.{or_parts}
use Rattle.definitions.specs.Table.{pick}
use Rattle.definitions.specs.Form.{among}
use Rattle.definitions.specs.Chain.{Link, end, next, Distinct, with_next, outside}
use Rattle.definitions.specs.Lean.{any}
use Rattle.chains.proofs.Names.{apart, any_of, of_any}

module _ {R : Type 0} (step : ℕ → Link R) (declared : List ℕ) where
  abbrev leads_out : ℕ → Link R → Bool
  leads_out m (end r) = false
  leads_out m (next k) = eqb m k && not (among k declared)

  leads-out : (m : ℕ) (s : Link R) → s ≡ next m → among m declared ≡ false → leads_out m s ≡ true
  leads-out m (end r) e o = let z : ◌≡◌ {A = ℕ} 0 1 = cc in absurd (omega arith)
  leads-out m (next k) e o = let i : k ≡ m = cc in rw (i, eq-eqb m m refl, o)

  out-leads : (m : ℕ) (s : Link R) → leads_out m s ≡ true → (s ≡ next m) × (among m declared ≡ false)
  out-leads m (end r) h = apart h refl
  out-leads m (next k) h = go (eqb m k) (among k declared) refl refl h
    where
      go : (a b : Bool) → eqb m k ≡ a → among k declared ≡ b → (a && not b) ≡ true → (◌≡◌ {A = Link R} (next k) (next m)) × (among m declared ≡ false)
      go true true e f i = apart i refl
      go true false e f i = (ap next (sym (eqb-true m k e)), subst (λ x. among x declared ≡ false) (sym (eqb-true m k e)) f)
      go false b e f i = apart i refl

  with_distinct : (s : Link R) (ms : List ℕ) → Distinct ms → Distinct (with_next declared s ms)
  with_distinct (end r) ms d = d
  with_distinct (next m) ms d = go (among m declared || among m ms) refl
    where
      go : (b : Bool) → (among m declared || among m ms) ≡ b → Distinct (pick b ms (m ∷ ms))
      go true e = d
      go false e = ((or_parts (among m declared) (among m ms) e).1, d)

  with_among : (m : ℕ) (s : Link R) (ms : List ℕ) → among m (with_next declared s ms) ≡ (leads_out m s || among m ms)
  with_among m (end r) ms = refl
  with_among m (next k) ms = go (eqb m k) (among k declared) (among k ms) refl refl refl
    where
      go : (a b c : Bool) → eqb m k ≡ a → among k declared ≡ b → among k ms ≡ c → among m (pick (b || c) ms (k ∷ ms)) ≡ ((a && not b) || among m ms)
      go true true c e f g = refl
      go false true c e f g = refl
      go true false true e f g = subst (λ x. among x ms ≡ true) (sym (eqb-true m k e)) g
      go false false true e f g = refl
      go true false false e f g = rw e
      go false false false e f g = rw e

  outside_distinct : (ns : List ℕ) → Distinct (outside step declared ns)
  unfolding outside
  outside_distinct [] = tt
  outside_distinct (n ∷ ns) = with_distinct (step n) (outside step declared ns) (outside_distinct ns)

  outside-among : (m : ℕ) (ns : List ℕ) → among m (outside step declared ns) ≡ any (λ n. leads_out m (step n)) ns
  unfolding outside
  outside-among m [] = refl
  outside-among m (n ∷ ns) = with_among m (step n) (outside step declared ns) ∙ ap (λ b. leads_out m (step n) || b) (outside-among m ns)

  -- each once, and just those to which one leads that are undeclared
  pub record Outside (ns : List ℕ) : Type 0 where
    pub distinct : Distinct (outside step declared ns)
    pub led : (m : ℕ) → among m (outside step declared ns) ≡ true → (n : ℕ) × (among n ns ≡ true) × (step n ≡ next m) × (among m declared ≡ false)
    pub has : (n m : ℕ) → among n ns ≡ true → step n ≡ next m → among m declared ≡ false → among m (outside step declared ns) ≡ true

  pub outside-is : (ns : List ℕ) → Outside ns
  outside-is ns =
      record {
        distinct = outside_distinct ns;
        led = λ m i.
            (let a = of_any (λ k. leads_out m (step k)) ns (sym (outside-among m ns) ∙ i) in
            let o = out-leads m (step a.0) a.2 in
            (a.0, a.1, o.0, o.1));
        has = λ n m i e o. outside-among m ns ∙ any_of (λ k. leads_out m (step k)) n ns i (leads-out m (step n) e o);
      }
