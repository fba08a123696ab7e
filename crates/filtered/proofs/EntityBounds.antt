-- The entities of a checked pack are its names: past them no derivation names one, and none takes a kind.
use Prim.Native.Nat.{ℕ, ◌≤◌}
use native.Mathlib.Omega.{arith}
use mathlib.Core.Path.{◌≡◌, refl}
use mathlib.Core.List.{List, [], ◌∷◌}
use mathlib.Core.Bool.{Bool, true, false, ◌||◌}
use mathlib.Core.Option.{Option, none, some}
use lib.Dec.{eqb, ltb}
use borrow.Author.Tests.{ne_eqb, ltb-true}
use Rattle.definitions.specs.Table.{pick, table, entry_of}
use Rattle.definitions.specs.Table as table
use Rattle.definitions.specs.Form.{among, allowed_here, items, Fine}
use Rattle.definitions.specs.Records.{Derivation, Relation, Pack}
use Rattle.definitions.specs.Pack.{WellFormed, derivation, member, optional_derivation, relation_tail}
use Rattle.definitions.specs.Lean.{any}
use Rattle.definitions.specs.Filtered.{entity_is, takes, taken_from, taken, names_entity}
use Rattle.chains.proofs.RelationForm.{RelationsFine, kept}
use Rattle.chains.proofs.PackParts.{parts}

entity-allowed : (n v e : ℕ) → allowed_here n 19 v ≡ true → n ≤ e → entity_is v e ≡ false
unfolding allowed_here entry_of table
entity-allowed n v e a l = go (eqb v table.none) refl
  where
    below : (b : Bool) → eqb v table.none ≡ false → ltb v n ≡ b → (b || eqb v table.none) ≡ true → eqb v e ≡ false
    below true q h a = ne_eqb v e (λ z. (let u = ltb-true v n h in omega arith))
    below false q h a = let z : ◌≡◌ {A = ℕ} 0 1 = cc in absurd (omega arith)

    go : (b : Bool) → eqb v table.none ≡ b → pick b false (eqb v e) ≡ false
    go true q = refl
    go false q = below (ltb v n) q refl a

option-entity : (n : ℕ) (o : Option Derivation) → Fine (optional_derivation n) o → (d : Derivation) → o ≡ some d → allowed_here n 19 d.entity ≡ true
unfolding optional_derivation derivation member Fine items
option-entity n none f d e = let z : ◌≡◌ {A = ℕ} 0 1 = cc in absurd (omega arith)
option-entity n (some b) f d e = let s : b ≡ d = cc in rw (← s) f.2.0.1.0.1

tail_entity : (n : ℕ) (r : Relation) → Fine (relation_tail n) (r.origin, (r.arity, (r.slot_kinds, r.derivation))) → (d : Derivation) → r.derivation ≡ some d → allowed_here n 19 d.entity ≡ true
unfolding relation_tail Fine
tail_entity n r f = option-entity n r.derivation f.1.1.1

module _ (n e : ℕ) (past : n ≤ e) where
  abbrev Allowed : Option Derivation → Type 0
  Allowed o = (d : Derivation) → o ≡ some d → allowed_here n 19 d.entity ≡ true

  not_taken : (all : List Relation) (name : ℕ) (o : Option Derivation) → Allowed o → takes all e name o ≡ []
  not_taken all name none q = refl
  not_taken all name (some d) q = rw (entity-allowed n d.entity e (q d refl) past) refl

  not_named : (o : Option Derivation) → Allowed o → names_entity e o ≡ false
  not_named none q = refl
  not_named (some d) q = entity-allowed n d.entity e (q d refl) past

  allowed : (used : List ℕ) (r : Relation) (l : List Relation) → RelationsFine n used (r ∷ l) → Allowed r.derivation
  allowed used r l f = tail_entity n r (kept n (λ v. among v used) r f.0).tail

  none-taken : (all : List Relation) (used : List ℕ) (l : List Relation) → RelationsFine n used l → taken_from all e l ≡ []
  none-taken all used [] f = refl
  none-taken all used (r ∷ l) f = rw (not_taken all r.name r.derivation (allowed used r l f), none-taken all (r.name ∷ used) l f.1) refl

  none_named : (used : List ℕ) (l : List Relation) → RelationsFine n used l → any (λ (r : Relation). names_entity e r.derivation) l ≡ false
  none_named used [] f = refl
  none_named used (r ∷ l) f = rw (not_named r.derivation (allowed used r l f), none_named (r.name ∷ used) l f.1) refl

module _ (p : Pack) (w : WellFormed p) (e : ℕ) (past : p.names ≤ e) where
  pub takes-nothing : taken p.relations e ≡ []
  unfolding taken
  takes-nothing = none-taken p.names e past p.relations [] p.relations (parts p w).relations-fine

  pub nobody_names : any (λ (r : Relation). names_entity e r.derivation) p.relations ≡ false
  nobody_names = none_named p.names e past [] p.relations (parts p w).relations-fine
