-- Of a checked pack, the tables that the code reads are those that resolving uses.
use Prim.Native.Nat.{ℕ, ◌+◌, ◌*◌, ◌<◌, ◌≤◌}
use native.Mathlib.Omega.{arith}
use mathlib.Core.Path.{◌≡◌, refl, ap, sym, ◌∙◌, subst, fun_ext}
use mathlib.Core.List.{List, [], ◌∷◌}
use mathlib.Core.Bool.{Bool, true, false}
use mathlib.Core.Option.{Option, none, some}
use lib.ListN.{length, get_or}
use lib.Dec.{eqb}
use borrow.Author.Tests.{ne_eqb, lt-ltb, le-ltb}
use Rattle.definitions.specs.Table.{pick}
use Rattle.definitions.specs.Records.{Derivation, Relation, Pack}
use Rattle.definitions.specs.Pack.{WellFormed, yes, read, words}
use Rattle.pack.proofs.PackLaws.{words-read}
use Rattle.definitions.specs.Chain.{own, walk}
use Rattle.definitions.specs.Kinds.{list9, KindsFound, from, find, kind_step, kinds_of, own_answer}
use Rattle.definitions.specs.Places.{start_of, first_relation, hops, place_of, names_at}
use Rattle.chains.specs.PackDirectory.{slots_of}
use Rattle.filtered.specs.Acts.{act_part, act_list, part_of, ActsOf}
use Rattle.filtered.specs.Taking.{KnowsEntities}
use Rattle.chains.proofs.PackParts.{parts, find-name}
use Rattle.chains.proofs.ListAt.{InWords, in_pack, place-holds}
use Rattle.filtered.proofs.ActLaws.{found_among}
use Rattle.filtered.proofs.SaysLaws.{direct-in}
use Rattle.definitions.specs.Tables.{derived_by, derived_at, typed_by, typed_at, Tables, tables}
use Rattle.directions.specs.Words.{typed_in, derived_in, tables_in}
use Rattle.directions.specs.RecordRuns.{KindsReady, TablesFilled}
use Rattle.directions.proofs.TablesLaws.{two_kinds, derived-there}

one_or_none : (b : Bool) → pick b 1 0 < 2
one_or_none true = omega arith
one_or_none false = omega arith

-- a relation without derivation and with kinds is settled by its list 9
module _ (p : Pack) (m : ℕ) (r : Relation) (e : find m p.relations ≡ some r) (plain : r.derivation ≡ none) (k : ℕ) (ks : List ℕ) (has : r.slot_kinds ≡ k ∷ ks) where
  abbrev its : KindsFound
  its = some (record { owner = r.name; which = list9 })

  step_is : kind_step p.relations m ≡ from r.name list9
  unfolding kind_step
  step_is = rw (e, plain, has) refl

  own_is : own_answer p.relations m ≡ its
  unfolding own walk
  own_is = rw (step_is, own, walk) refl

  pub own-list : place_of p (own_answer p.relations m) ≡ start_of p.names m (first_relation p) p.relations + 3
  unfolding place_of
  own-list = ap (place_of p) own_is ∙ rw (← find-name p.relations m r e, e) refl

module _ (ws acts taken₀ : List ℕ) (p : Pack) (h : read ws ≡ yes p) (says : ActsOf ws acts) (knows : KnowsEntities ws taken₀) where
  abbrev rs : List Relation
  rs = p.relations

  abbrev n : ℕ
  n = p.names

  w : WellFormed p
  w = (words-read ws p h).fine

  same : words p ≡ ws
  same = (words-read ws p h).same

  abbrev T : Tables
  T = tables_in ws acts taken₀

  abbrev U : Tables
  U = tables rs

  module _ (m : ℕ) where
    abbrev x : ℕ
    x = get_or acts m 0

    abbrev start : ℕ
    start = start_of n m (first_relation p) rs

    part_is : act_part x ≡ part_of p m
    part_is = says.parts p h m

    no_part : find m rs ≡ none → act_part x ≡ 0
    unfolding part_of slots_of
    no_part e = part_is ∙ rw e refl

    module _ (r : Relation) (e : find m rs ≡ some r) where
      stands : InWords ws start n r
      stands =
          let q : m ≡ r.name = find-name rs m r e in
          let f : find r.name rs ≡ some r = ap (λ (v : ℕ). find v rs) (sym q) ∙ e in
          subst (λ (v : ℕ). InWords ws (start_of n v (first_relation p) rs) n r) (sym q) (subst (λ (v : List ℕ). InWords v (start_of n r.name (first_relation p) rs) n r) same (in_pack p w r f))

      plain_part : r.derivation ≡ none → act_part x ≡ pick (eqb (length r.slot_kinds) 2) 1 0
      unfolding part_of slots_of
      plain_part d = part_is ∙ rw (e, d) refl

      slots_part : (d : Derivation) → r.derivation ≡ some d → act_part x ≡ start + 7 + length r.slot_kinds + 3 * hops d.path
      unfolding part_of slots_of
      slots_part d q = part_is ∙ rw (e, q, ne_eqb (start + 7 + length r.slot_kinds + 3 * hops d.path) 0 (λ z. omega arith)) refl

      kinds-are : names_at ws (act_list x) ≡ kinds_of rs m
      kinds-are = ap (names_at ws) (says.lists p h m (found_among m rs r e)) ∙ ap (λ (v : List ℕ). names_at v (place_of p (own_answer rs m))) (sym same) ∙ place-holds p w m

      typed-plain : r.derivation ≡ none → (ks : List ℕ) → r.slot_kinds ≡ ks → typed_in ws x ≡ typed_by ks none
      unfolding typed_in
      typed-plain d [] k = rw (plain_part d, k) refl
      typed-plain d (a ∷ []) k = rw (plain_part d, k) refl
      typed-plain d (a ∷ b ∷ []) k =
          let two = two_kinds ws start n r stands (parts p w).most a b k in
          let list : act_list x ≡ start + 3 = says.lists p h m (found_among m rs r e) ∙ own-list p m r e d a (b ∷ []) k in
          let one : start + 3 + 1 ≡ start + 4 = omega arith in
          let next : start + 3 + 2 ≡ start + 5 = omega arith in
          rw (plain_part d, k, list, one, next, two.0, two.1) refl
      typed-plain d (a ∷ b ∷ c ∷ ks) k = rw (plain_part d, k, ne_eqb (length (a ∷ b ∷ c ∷ ks)) 2 (λ z. omega arith)) refl

      typed_some : (o : Option Derivation) → r.derivation ≡ o → typed_in ws x ≡ typed_by r.slot_kinds o
      unfolding typed_in
      typed_some none d = typed-plain d r.slot_kinds refl
      typed_some (some d) q = rw (slots_part d q, ne_eqb (start + 7 + length r.slot_kinds + 3 * hops d.path) 1 (λ z. omega arith)) refl

      derived_some : (o : Option Derivation) → r.derivation ≡ o → derived_in ws x ≡ derived_by (kinds_of rs m) o
      unfolding derived_in
      derived_some none d = rw (lt-ltb (act_part x) 2 (rw (plain_part d) (one_or_none (eqb (length r.slot_kinds) 2)))) refl
      derived_some (some d) q =
          let there = derived-there ws start n r stands (parts p w).most d q (slots_part d q) in
          let far : 2 ≤ act_part x = omega (arith, slots_part d q) in
          rw (le-ltb (act_part x) 2 far, there.0, there.1, kinds-are) refl

    typed_alike : T.typed m ≡ U.typed m
    unfolding tables_in tables typed_in
    typed_alike = go (find m rs) refl
      where
        go : (o : Option Relation) → find m rs ≡ o → typed_in ws x ≡ typed_at o
        go none e = rw (no_part e) refl
        go (some r) e = typed_some r e r.derivation refl

    pub derived_alike : T.derived m ≡ U.derived m
    unfolding tables_in tables derived_in
    derived_alike = go (find m rs) refl
      where
        go : (o : Option Relation) → find m rs ≡ o → derived_in ws x ≡ derived_at (kinds_of rs m) o
        go none e = rw (no_part e) refl
        go (some r) e = derived_some r e r.derivation refl

  pub tables-are : tables_in ws acts taken₀ ≡ tables rs
  unfolding tables_in tables
  tables-are =
      let typed : T.typed ≡ U.typed = fun_ext typed_alike in
      let derived : T.derived ≡ U.derived = fun_ext derived_alike in
      let directs : T.direct ≡ U.direct = fun_ext (λ e. direct-in ws taken₀ p h knows e) in
      λ i. record { typed = typed i; derived = derived i; direct = directs i }

-- the lists lead to the kinds of each declared name
pub settled : {ws records acts taken : List ℕ} {steps : ℕ} → TablesFilled ws records acts taken steps → KindsReady ws acts
settled {ws} {acts = acts} a = λ q e m i.
    let v = words-read ws q e in
    ap (names_at ws) (a.filled.says.lists q e m i) ∙ ap (λ (x : List ℕ). names_at x (place_of q (own_answer q.relations m))) (sym v.same) ∙ place-holds q v.fine m
