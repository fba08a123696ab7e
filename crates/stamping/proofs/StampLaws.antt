-- The list that the code finds for a relation is the one that stamping puts there.
use Prim.Native.Nat.{ℕ, zero, suc, ◌+◌, ◌*◌, ◌<◌, ◌≤◌}
use native.Mathlib.Omega.{arith}
use mathlib.Core.Path.{◌≡◌, refl, sym, ◌∙◌}
use mathlib.Core.List.{List, [], ◌∷◌}
use mathlib.Core.Bool.{Bool, true, false, ◌||◌, ◌&&◌}
use mathlib.Core.Option.{Option, none, some}
use lib.ListN.{length, get_or}
use lib.Dec.{eqb}
use borrow.Author.Tests.{ne_eqb, lt-ltb, le-ltb}
use Rattle.definitions.specs.Table.{pick}
use Rattle.definitions.specs.Form.{words_by}
use Rattle.definitions.specs.Records.{Derivation, Relation, Pack}
use Rattle.definitions.specs.Pack.{new_name, relation}
use Rattle.definitions.specs.Kinds.{kinds_of}
use Rattle.definitions.specs.Filtered.{kind_at}
use Rattle.definitions.specs.Places.{names_at, hops}
use Rattle.chains.proofs.RelationForm.{kept}
use Rattle.chains.proofs.ListAt.{InWords}
use Rattle.definitions.specs.Resolving.{holds, role_judgment, in_derivation, atom_names, is_empty, unlike, stamped_with, stamp_by, stamp_derived, stamp}
use Rattle.stamping.specs.Stamping.{StampedBy, as_it_is, with_kinds, unstamped, passed_in, unlike_in, list_by, list_for}
use Rattle.chains.specs.Record.{value_at, slots_place, entity_count}
use Rattle.filtered.specs.Acts.{act_part, act_list, part_at}
use Rattle.chains.proofs.RecordLaws.{value_there, counted, slots_at, current-there, related-there, entities-there}

-- ---- the list

no_names : (l : List ℕ) → eqb (length l) 0 ≡ is_empty l
no_names [] = refl
no_names (k ∷ l) = ne_eqb (length (k ∷ l)) 0 (λ e. omega arith)

is-empty : (l : List ℕ) → is_empty l ≡ true → l ≡ []
is-empty [] e = refl
is-empty (k ∷ l) e = let z : ◌≡◌ {A = ℕ} 0 1 = cc in absurd (omega arith)

some_place : (ws : List ℕ) (list : ℕ) (ks : List ℕ) → names_at ws list ≡ some ks → 0 < list
unfolding names_at
some_place ws zero ks q = let z : ◌≡◌ {A = ℕ} 0 1 = cc in absurd (omega arith)
some_place ws (suc list) ks q = omega arith

module _ (ws : List ℕ) (list : ℕ) (r : Relation) (d : Derivation) (e : r.derivation ≡ some d) where
  abbrev differ : Option (List ℕ) → Bool
  differ kinds = unlike (kind_at kinds d.current) (kind_at kinds d.related)

  abbrev stamped_by : Bool → Option (List ℕ) → Relation
  stamped_by none_21 none = r
  stamped_by none_21 (some ks) = pick (none_21 && differ (some ks)) (stamped_with r d ks) r

  by-kinds : (kinds : Option (List ℕ)) → stamped_by (is_empty d.slot_entities) kinds ≡ stamp_by kinds r d
  by-kinds none = refl
  by-kinds (some ks) = refl

  kinds_decide : (kinds : Option (List ℕ)) → names_at ws list ≡ kinds → d.slot_entities ≡ [] → StampedBy ws (pick (differ kinds) list 0) r (stamped_by true kinds)
  kinds_decide none q z = as_it_is refl
  kinds_decide (some ks) q z = go (differ (some ks))
    where
      go : (b : Bool) → StampedBy ws (pick b list 0) r (pick b (stamped_with r d ks) r)
      go true = with_kinds d ks (some_place ws list ks q) q e z
      go false = as_it_is refl

  -- by whether list 9 and list 21 are empty, and whether the relation is named or its predicate holds a judgment of roles
  decided : (none-9 none_21 spoken : Bool) (kinds : Option (List ℕ)) → names_at ws list ≡ kinds → (none_21 ≡ true → d.slot_entities ≡ [])
      → StampedBy ws (pick none_21 (pick (differ kinds) (pick (none-9 && spoken) 0 list) 0) 0) r (pick ((none-9 && none_21) && spoken) r (stamped_by none_21 kinds))
  decided true true true kinds q z = go (differ kinds)
    where
      go : (b : Bool) → StampedBy ws (pick b 0 0) r r
      go true = as_it_is refl
      go false = as_it_is refl
  decided true true false kinds q z = kinds_decide kinds q (z refl)
  decided false true spoken kinds q z = kinds_decide kinds q (z refl)
  decided true false spoken none q z = as_it_is refl
  decided true false spoken (some ks) q z = as_it_is refl
  decided false false spoken none q z = as_it_is refl
  decided false false spoken (some ks) q z = as_it_is refl

-- a relation of the words in which trees may have been resolved comes out as stamping says, from the list that the code finds for it
module _ (ws work acts : List ℕ) (asked : List Bool) (p : Pack) (start : ℕ) (r : Relation) (i : InWords work start p.names r) (most : p.names ≤ 4096) (part : act_part (get_or acts r.name 0) ≡ part_at start (some r))
    (kinds : names_at ws (act_list (get_or acts r.name 0)) ≡ kinds_of p.relations r.name) (named : get_or asked r.name false ≡ (atom_names p r.name || in_derivation role_judgment r.derivation)) where
  abbrev x : ℕ
  x = get_or acts r.name 0

  abbrev K : Option (List ℕ)
  K = kinds_of p.relations r.name

  named-there : value_at work start ≡ r.name
  unfolding relation new_name words_by
  named-there =
      let b = (kept p.names i.used r i.fine).below in
      value_there work i.before _ 6 r.name start i.same-words i.long (omega arith)

  by_name : list_for ws work acts asked start ≡ list_by ws work asked r.name start x
  unfolding list_for
  by_name = rw named-there refl

  one_or_none : (b : Bool) → pick b 1 0 < 2
  one_or_none true = omega arith
  one_or_none false = omega arith

  not_derived : r.derivation ≡ none → list_for ws work acts asked start ≡ 0
  unfolding list_by unstamped
  not_derived e =
      let low : act_part x < 2 = rw (part, e) (one_or_none (eqb (length r.slot_kinds) 2)) in
      by_name ∙ rw (lt-ltb (act_part x) 2 low) refl

  module _ (d : Derivation) (e : r.derivation ≡ some d) where
    slots : act_part x ≡ slots_place work start
    slots =
        let far : start + 7 + length r.slot_kinds + 3 * hops d.path ≡ 0 → ⊥ = λ z. omega arith in
        part ∙ rw (e, ne_eqb (start + 7 + length r.slot_kinds + 3 * hops d.path) 0 far) refl ∙ sym (slots_at work start p.names r i most d e)

    none_21 : unstamped work (act_part x) ≡ is_empty d.slot_entities
    unfolding unstamped entity_count
    none_21 =
        let far : 2 ≤ slots_place work start = omega (arith, slots_at work start p.names r i most d e) in
        rw (slots, le-ltb (slots_place work start) 2 far, entities-there work start p.names r i most d e) (no_names d.slot_entities)

    list_read : list_for ws work acts asked start
        ≡ pick (is_empty d.slot_entities) (pick (unlike (kind_at K d.current) (kind_at K d.related)) (pick (is_empty r.slot_kinds && (atom_names p r.name || holds role_judgment d.predicate)) 0 (act_list x)) 0) 0
    unfolding list_by passed_in unlike_in
    list_read =
        by_name
        ∙ rw (none_21, slots, counted work start p.names r i most)
        (rw (current-there work start p.names r i most d e, related-there work start p.names r i most d e, kinds, named, e)
        (rw (no_names r.slot_kinds) refl))

  pub stamped-by : StampedBy ws (list_for ws work acts asked start) r (stamp p r)
  unfolding stamp
  stamped-by = go r.derivation refl
    where
      go : (o : Option Derivation) → r.derivation ≡ o → StampedBy ws (list_for ws work acts asked start) r (stamp_derived p r o)
      go none e = as_it_is (not_derived e)
      go (some d) e =
          let spoken : Bool = atom_names p r.name || holds role_judgment d.predicate in
          rw (list_read d e, ← by-kinds ws (act_list x) r d e K) (decided ws (act_list x) r d e (is_empty r.slot_kinds) (is_empty d.slot_entities) spoken K kinds (is-empty d.slot_entities))
