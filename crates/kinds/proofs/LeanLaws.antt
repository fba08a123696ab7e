-- Lean is found by computation: more edges than names that have any lead to no further name.
use Prim.Native.Nat.{ℕ, zero, suc, ◌≤◌}
use native.Mathlib.Omega.{arith}
use mathlib.Core.Path.{◌≡◌, refl, sym, subst, ◌∙◌}
use mathlib.Core.Logic.{◌⊎◌, inl, inr}
use mathlib.Core.List.{List, [], ◌∷◌}
use mathlib.Core.Bool.{Bool, true, false, ◌||◌, or-false}
use mathlib.Core.Option.{some}
use lib.ListN.{length, length-map}
use lib.Dec.{eqb}
use borrow.Author.Tests.{eqb-true, eq-eqb}
use Rattle.std.proofs.lemmas.Bool.{or_cases, or_left, or_right}
use Rattle.definitions.specs.Table.{pick}
use Rattle.definitions.specs.Form.{among}
use Rattle.definitions.specs.Records.{Relation}
use Rattle.definitions.specs.Chain.{Distinct}
use Rattle.definitions.specs.Kinds.{find, declared}
use Rattle.definitions.specs.Lean.{Leads, straight, onward, leads_within, edges_at, edges, leans}
use Rattle.chains.proofs.Names.{apart, any_of, of_any, no_more}
use Rattle.kinds.specs.Search.{Computes}

module _ (edges : ℕ → List ℕ) where
  abbrev passes : ℕ → ℕ → ℕ → Bool
  passes k b m = eqb m b || leads_within edges k m b

  within-leads : (k a b : ℕ) → leads_within edges k a b ≡ true → Leads edges a b
  unfolding leads_within
  within-leads zero a b h = apart h refl
  within-leads (suc k) a b h =
      let m = of_any (passes k b) (edges a) h in go m.0 m.1 (or_cases (eqb m.0 b) (leads_within edges k m.0 b) m.2) (within-leads k m.0 b)
    where
      go : (m : ℕ) → among m (edges a) ≡ true → (eqb m b ≡ true) ⊎ (leads_within edges k m b ≡ true) → (leads_within edges k m b ≡ true → Leads edges m b) → Leads edges a b
      go m i (inl e) rest = straight (subst (λ x. among x (edges a) ≡ true) (eqb-true m b e) i)
      go m i (inr j) rest = onward i (rest j)

  -- the names by which a name leads to b, itself the first
  data Route (b : ℕ) : ℕ → List ℕ → Type 0 where
    last : {a : ℕ} → among b (edges a) ≡ true → Route b a (a ∷ [])
    then : {a m : ℕ} {ns : List ℕ} → among m (edges a) ≡ true → Route b m ns → Route b a (a ∷ ns)

  abbrev Straightest : ℕ → ℕ → Type 0
  Straightest b a = (ns : List ℕ) × Route b a ns × Distinct ns

  -- a route from the place on where it meets a name
  cut : {b m : ℕ} {ns : List ℕ} (a : ℕ) → Route b m ns → Distinct ns → among a ns ≡ true → Straightest b a
  cut {b} {m} a (last e) d i = (m ∷ [], subst (λ x. Route b x (m ∷ [])) (sym (eqb-true a m (sym (or-false (eqb a m)) ∙ i))) (last e), d)
  cut {b} {m} a (then {ns = ns} e r) d i = go (eqb a m) refl i (cut a r d.1)
    where
      go : (t : Bool) → eqb a m ≡ t → (t || among a ns) ≡ true → (among a ns ≡ true → Straightest b a) → Straightest b a
      go true q j rest = (m ∷ ns, subst (λ x. Route b x (m ∷ ns)) (sym (eqb-true a m q)) (then e r), d)
      go false q j rest = rest j

  -- what leads to b does so by distinct names
  route : {a b : ℕ} → Leads edges a b → Straightest b a
  route {a} (straight e) = (a ∷ [], last e, (refl, tt))
  route {a} {b} (onward {m = m} e l) = let r = route l in go r.0 r.1 r.2 (among a r.0) refl
    where
      go : (ns : List ℕ) → Route b m ns → Distinct ns → (t : Bool) → among a ns ≡ t → Straightest b a
      go ns r d true i = cut a r d i
      go ns r d false o = (a ∷ ns, then e r, (o, d))

  route_within : {b a : ℕ} {ns : List ℕ} → Route b a ns → (k : ℕ) → length ns ≤ k → leads_within edges k a b ≡ true
  unfolding leads_within
  route_within (last e) zero h = absurd (omega arith)
  route_within {b} {a} (last e) (suc k) h = any_of (passes k b) b (edges a) e (or_left _ (leads_within edges k b b) (eq-eqb b b refl))
  route_within (then e r) zero h = absurd (omega arith)
  route_within {b} {a} (then {m = m} e r) (suc k) h = any_of (passes k b) m (edges a) e (or_right (eqb m b) _ (route_within r k (omega arith)))

  module _ (ds : List ℕ) (only : (a m : ℕ) → among m (edges a) ≡ true → among a ds ≡ true) where
    route_in : {b a : ℕ} {ns : List ℕ} → Route b a ns → (n : ℕ) → among n ns ≡ true → among n ds ≡ true
    route_in {b} {a} (last e) n i = subst (λ x. among x ds ≡ true) (sym (eqb-true n a (sym (or-false (eqb n a)) ∙ i))) (only a b e)
    route_in {a = a} (then {m = m} {ns = ns} e r) n i = go (eqb n a) refl i (route_in r n)
      where
        go : (t : Bool) → eqb n a ≡ t → (t || among n ns) ≡ true → (among n ns ≡ true → among n ds ≡ true) → among n ds ≡ true
        go true q j rest = subst (λ x. among x ds ≡ true) (sym (eqb-true n a q)) (only a m e)
        go false q j rest = rest j

    leads-found : (a b : ℕ) → Leads edges a b → leads_within edges (length ds) a b ≡ true
    leads-found a b l = let r = route l in route_within r.1 (length ds) (no_more r.0 ds r.2 (route_in r.1))

-- where only names of a list have edges
pub within_computes : (edges : ℕ → List ℕ) (ds : List ℕ) → ((a m : ℕ) → among m (edges a) ≡ true → among a ds ≡ true) → (a b : ℕ) → Computes (leads_within edges (length ds) a b) edges a b
within_computes edges ds only a b = record { sound = within-leads edges (length ds) a b; complete = leads-found edges ds only a b }

pub edges-only : (rs : List Relation) (a m : ℕ) → among m (edges rs a) ≡ true → among a (declared rs) ≡ true
unfolding edges find
edges-only [] a m i = apart i refl
edges-only (r ∷ rs) a m i = go (eqb a r.name) i (edges-only rs a m)
  where
    go : (t : Bool) → among m (edges_at (pick t (some r) (find a rs))) ≡ true → (among m (edges rs a) ≡ true → among a (declared rs) ≡ true) → (t || among a (declared rs)) ≡ true
    go true j rest = refl
    go false j rest = rest j

-- "Lean now follows field 12 and every step's 14, to any depth."
pub leans_computes : (rs : List Relation) (a b : ℕ) → Computes (leans rs a b) (edges rs) a b
unfolding leans
leans_computes rs a b =
    subst (λ k. Computes (leads_within (edges rs) k a b) (edges rs) a b) (length-map rs (λ (r : Relation). r.name))
    (within_computes (edges rs) (declared rs) (edges-only rs) a b)
