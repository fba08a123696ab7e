-- Kinds are names of the pack.
use Prim.Native.Nat.{ℕ, zero, suc, ◌<◌}
use native.Mathlib.Omega.{arith}
use mathlib.Core.Path.{◌≡◌, refl}
use mathlib.Core.List.{List, [], ◌∷◌, ◌++◌}
use mathlib.Core.Bool.{Bool, true, false, not}
use mathlib.Core.Option.{Option, none, some}
use lib.ListN.{length, get_or}
use lib.Dec.{eqb, ltb}
use borrow.Author.Tests.{ltb-true}
use Rattle.pack.proofs.StepLaws.{name_below}
use Rattle.definitions.specs.Table.{pick, entry_of, table}
use Rattle.definitions.specs.Form.{FineAll, field, Fine, items}
use Rattle.definitions.specs.Records.{Derivation, Relation, Pack}
use Rattle.definitions.specs.Pack.{WellFormed, name_list, member, derivation, optional_derivation, relation_tail}
use Rattle.definitions.specs.Kinds.{Which, list9, list21, KindsFound, find, list_of, list_in, names_of, kinds_of, own_answer}
use Rattle.definitions.specs.Lean.{any}
use Rattle.definitions.specs.Filtered.{kind_at, listed, entity_is, takes, taken_from, taken, single, direct}
use Rattle.chains.proofs.PackParts.{parts, find_kept}

abbrev pub Below : ℕ → List ℕ → Type 0
Below n [] = Unit {0}
Below n (k ∷ ks) = (k < n) × Below n ks

below-append : (n : ℕ) (ks js : List ℕ) → Below n ks → Below n js → Below n (ks ++ js)
below-append n [] js h k = k
below-append n (x ∷ ks) js h k = (h.0, below-append n ks js h.1 k)

below_at : (n : ℕ) (ks : List ℕ) (i : ℕ) → Below n ks → i < length ks → get_or ks i 0 < n
below_at n [] i h l = absurd (omega arith)
below_at n (k ∷ ks) zero h l = h.0
below_at n (k ∷ ks) (suc i) h l = below_at n ks i h.1 (omega arith)

-- ---- the lists of a relation

names-below : (n kind : ℕ) (ks : List ℕ) → Fine (name_list n kind) ks → Below n ks
unfolding name_list Fine items entry_of table
names-below n kind ks f = go ks f.2
  where
    go : (l : List ℕ) → FineAll {S = Unit {0}} (λ u a. u) (λ u a. Fine (field n 10) a) tt l → Below n l
    go [] h = tt
    go (a ∷ l) h = (name_below n 10 refl a h.0.1, go l h.1)

entities-below : (n : ℕ) (d : Derivation) → Fine (derivation n) d → Below n d.slot_entities
unfolding derivation member Fine
entities-below n d f = names-below n 21 d.slot_entities f.1.1.1.0

option-below : (n : ℕ) (o : Option Derivation) → Fine (optional_derivation n) o → Below n (elim o [ none ↦ [] | some d ↦ d.slot_entities ])
unfolding optional_derivation Fine items
option-below n none f = tt
option-below n (some d) f = entities-below n d f.2.0

pub tail_below : (n : ℕ) (r : Relation) → Fine (relation_tail n) (r.origin, (r.arity, (r.slot_kinds, r.derivation))) → (w : Which) → Below n (list_of w r)
unfolding relation_tail Fine
tail_below n r f list9 = names-below n 9 r.slot_kinds f.1.1.0
tail_below n r f list21 = option-below n r.derivation f.1.1.1

-- ---- the kinds of a name

abbrev pub BelowAll : ℕ → Option (List ℕ) → Type 0
BelowAll n none = Unit {0}
BelowAll n (some ks) = Below n ks

module _ (p : Pack) (w : WellFormed p) where
  list-below : (n : ℕ) (c : Which) (o : Option Relation) → find n p.relations ≡ o → Below p.names (list_in o c)
  list-below n c none e = tt
  list-below n c (some r) e = tail_below p.names r (find_kept p.names n [] p.relations r (parts p w).relations-fine e).1.tail c

  answer-below : (a : KindsFound) → BelowAll p.names (names_of p.relations a)
  answer-below none = tt
  answer-below (some s) = list-below s.owner s.which (find s.owner p.relations) refl

  pub kinds-below : (n : ℕ) → BelowAll p.names (kinds_of p.relations n)
  unfolding kinds_of
  kinds-below n = answer-below (own_answer p.relations n)

  slot_below : (o : Option (List ℕ)) (slot : ℕ) → BelowAll p.names o → Below p.names (listed (kind_at o slot))
  slot_below none slot h = tt
  slot_below (some ks) slot h = go (ltb slot (length ks)) refl
    where
      go : (b : Bool) → ltb slot (length ks) ≡ b → Below p.names (listed (pick b (some (get_or ks slot 0)) none))
      go true e = (below_at p.names ks slot h (ltb-true slot (length ks) e), tt)
      go false e = tt

  takes-below : (e n : ℕ) (o : Option Derivation) → Below p.names (takes p.relations e n o)
  takes-below e n none = tt
  takes-below e n (some d) = go (entity_is d.entity e)
    where
      go : (b : Bool) → Below p.names (pick b (listed (kind_at (kinds_of p.relations n) d.current)) [])
      go true = slot_below (kinds_of p.relations n) d.current (kinds-below n)
      go false = tt

  from-below : (e : ℕ) (l : List Relation) → Below p.names (taken_from p.relations e l)
  from-below e [] = tt
  from-below e (r ∷ l) = below-append p.names (takes p.relations e r.name r.derivation) (taken_from p.relations e l) (takes-below e r.name r.derivation) (from-below e l)

  pub taken-below : (e : ℕ) → Below p.names (taken p.relations e)
  unfolding taken
  taken-below e = from-below e p.relations

  pub direct-below : (e k : ℕ) → direct p.relations e ≡ some k → k < p.names
  unfolding direct
  direct-below e k q = go (taken p.relations e) (taken-below e) q
    where
      go : (ks : List ℕ) → Below p.names ks → single ks ≡ some k → k < p.names
      go [] h q = let z : ◌≡◌ {A = ℕ} 0 1 = cc in absurd (omega arith)
      go (j ∷ js) h q = one (any (λ x. not (eqb x j)) js) q
        where
          one : (b : Bool) → pick b none (some j) ≡ some k → k < p.names
          one true q = let z : ◌≡◌ {A = ℕ} 0 1 = cc in absurd (omega arith)
          one false q = let s : j ≡ k = cc in rw (← s) h.0
