-- What a relation that keeps to its form has, and relations in a row.
use Prim.Native.Nat.{ℕ, ◌<◌, ◌≤◌}
use native.Mathlib.Omega.{arith}
use mathlib.Core.Path.{◌≡◌, refl, sym, subst}
use mathlib.Core.List.{List, [], ◌∷◌, map}
use mathlib.Core.Bool.{Bool, true, false, ◌||◌}
use mathlib.Core.Option.{Option, none, some}
use lib.ListN.{length}
use lib.Dec.{eqb}
use borrow.Author.Tests.{eqb-true, not-true}
use Rattle.pack.proofs.StepLaws.{name_below}
use Rattle.records.proofs.DirectoryLaws.{few-hops}
use Rattle.definitions.specs.Table.{entry_of, table}
use Rattle.definitions.specs.Form.{among, words_all, FineAll, count, items, list_or_none, words_by, Fine}
use Rattle.definitions.specs.Records.{Hop, Derivation, Relation}
use Rattle.definitions.specs.Lean.{step_names}
use Rattle.definitions.specs.Pack.{new_name, name_list, hop, path, chain, member, derivation, optional_derivation, relation_tail, relation, next_used}

-- what a derivation's values keep to
pub record Fitting (n : ℕ) (d : Derivation) : Type 0 where
  pub source : d.source < 16777216
  pub path : count list_or_none d.path < 16777216
  pub steps : (l : List Hop) → d.path ≡ some l → length l < 16777215
  pub current : d.current < 16777216
  pub related : d.related < 16777216
  pub entity : d.entity < 16777216
  pub entities : length d.slot_entities < 16777216
  pub hops : (m : ℕ) → among m (step_names d.path) ≡ true → m < n

-- what a relation that keeps to its form has
pub record Kept (n : ℕ) (used : ℕ → Bool) (r : Relation) : Type 0 where
  pub below : r.name < n
  pub fresh : used r.name ≡ false
  pub tail : Fine (relation_tail n) (r.origin, (r.arity, (r.slot_kinds, r.derivation)))
  pub kinds : length r.slot_kinds < 16777216
  pub derived : (d : Derivation) → r.derivation ≡ some d → Fitting n d

-- a path's length is no none
pub short-path : (n : ℕ) (p : Option (List Hop)) → Fine (path n) p → (l : List Hop) → p ≡ some l → length l < 16777215
short-path n p f l e = let few : length l ≤ 8 = rw e at (few-hops n p f) in omega arith

path-counts : (n : ℕ) (p : Option (List Hop)) → Fine (path n) p → count list_or_none p < 16777216
unfolding path Fine
path-counts n p f = f.0.0

-- each relation that a step names is below N
hops-below : (n : ℕ) (l : List Hop) → FineAll {S = Unit {0}} (λ s a. s) (λ s a. Fine (hop n) a) tt l → (m : ℕ) → among m (map (λ (h : Hop). h.relation) l) ≡ true → m < n
unfolding hop Fine entry_of table
hops-below n [] f m i = let z : ◌≡◌ {A = ℕ} 0 1 = cc in absurd (omega arith)
hops-below n (h ∷ l) f m i = go (eqb m h.relation) refl i (hops-below n l f.1 m)
  where
    go : (b : Bool) → eqb m h.relation ≡ b → (b || among m (map (λ (h : Hop). h.relation) l)) ≡ true → (among m (map (λ (h : Hop). h.relation) l) ≡ true → m < n) → m < n
    go true e j rest = subst (λ (v : ℕ). v < n) (sym (eqb-true m h.relation e)) (name_below n 14 refl h.relation f.0.0.1)
    go false e j rest = rest j

path-below : (n : ℕ) (p : Option (List Hop)) → Fine (path n) p → (m : ℕ) → among m (step_names p) ≡ true → m < n
unfolding path Fine items
path-below n none f m i = let z : ◌≡◌ {A = ℕ} 0 1 = cc in absurd (omega arith)
path-below n (some l) f m i = hops-below n l f.2 m i

fitting : (n : ℕ) (d : Derivation) → Fine (derivation n) d → Fitting n d
unfolding derivation chain member name_list Fine count
fitting n d f =
    record {
      source = f.0.0.0;
      path = path-counts n d.path f.0.1.0;
      steps = short-path n d.path f.0.1.0;
      current = f.0.1.1.0.0;
      related = f.0.1.1.1.0;
      entity = f.1.0.0;
      entities = f.1.1.1.0.0.0;
      hops = path-below n d.path f.0.1.0;
    }

option-fits : (n : ℕ) (o : Option Derivation) → Fine (optional_derivation n) o → (d : Derivation) → o ≡ some d → Fitting n d
unfolding optional_derivation Fine items
option-fits n none f d e = let z : ◌≡◌ {A = ℕ} 0 1 = cc in absurd (omega arith)
option-fits n (some b) f d e = let s : b ≡ d = cc in rw (← s) (fitting n b f.2.0)

tail_fits : (n : ℕ) (r : Relation) → Fine (relation_tail n) (r.origin, (r.arity, (r.slot_kinds, r.derivation)))
    → (length r.slot_kinds < 16777216) × ((d : Derivation) → r.derivation ≡ some d → Fitting n d)
unfolding relation_tail name_list Fine count
tail_fits n r f = (f.1.1.0.0.0, option-fits n r.derivation f.1.1.1)

pub kept : (n : ℕ) (used : ℕ → Bool) (r : Relation) → Fine (relation n used) r → Kept n used r
unfolding relation new_name Fine entry_of table
kept n used r f =
    let g = tail_fits n r f.1 in
    record { below = name_below n 6 refl r.name f.0.0.1; fresh = not-true (used r.name) f.0.1; tail = f.1; kinds = g.0; derived = g.1 }

-- ---- relations in a row

abbrev pub relations_words : ℕ → List ℕ → List Relation → List ℕ
relations_words n used rs = words_all next_used (λ used r. words_by (relation n (λ v. among v used)) r) used rs

abbrev pub RelationsFine : ℕ → List ℕ → List Relation → Type 0
RelationsFine n used rs = FineAll next_used (λ used r. Fine (relation n (λ v. among v used)) r) used rs
