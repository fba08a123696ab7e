-- Whatever in Resolve looks at kinds looks at those of the own walk.
use Rattle.std.specs.Prelude.{Err}
use Prim.Native.Nat.{ℕ, ◌<◌}
use native.Mathlib.Omega.{arith}
use mathlib.Core.Path.{◌≡◌, refl, ap, sym, ◌∙◌, subst}
use mathlib.Core.List.{List, [], ◌∷◌}
use mathlib.Core.Bool.{Bool, true, false, not, ◌||◌, ◌&&◌}
use mathlib.Core.Logic.{◌⊎◌, inl, inr}
use mathlib.Core.Option.{Option, none, some, map}
use lib.Dec.{eqb, leb}
use borrow.Author.Tests.{eq-eqb, ne_eqb, eqb-true, not-true}
use Rattle.std.proofs.lemmas.Bool.{or_cases, or_left, or_right}
use Rattle.definitions.specs.declared.answer.Refusal.{Refusal}
use Rattle.definitions.specs.Answers.{gives}
use Rattle.definitions.specs.Table.{pick}
use Rattle.definitions.specs.Table as table
use Rattle.definitions.specs.Form.{among}
use Rattle.definitions.specs.Records.{Derivation, Relation, Rule, Pack}
use Rattle.definitions.specs.Pack.{WellFormed, yes, read, total}
use Rattle.definitions.specs.Tree.{Tree}
use Rattle.definitions.specs.Answers.{out_of_room, Outcome, done, refused, and_then, map_done, result}
use Rattle.pack.proofs.PackLaws.{words-read}
use Rattle.definitions.specs.Chain.{end, same}
use Rattle.definitions.specs.Kinds.{list9, declares, find, kind_step, declared, all_kinds, own_answer, names_of, kinds_of}
use Rattle.definitions.specs.Lean.{any}
use Rattle.definitions.specs.Places.{first_relation}
use Rattle.chains.proofs.Names.{apart, among-append, any_of, of_any}
use Rattle.chains.proofs.ChainLaws.{own-end}
use Rattle.chains.proofs.KindLaws.{kind-leads}
use Rattle.chains.proofs.PackParts.{parts, find-name, EachFound, all_found}
use Rattle.definitions.specs.Filtered.{kind_at, listed, entity_is, takes, taken_from, taken, single, direct}
use Rattle.definitions.specs.Tables.{Derived, Tables, derived_by, derived_at, pair, typed_by, typed_at, tables}
use Rattle.definitions.specs.Resolving.{same_kind, equal_kinds, defaulted_equal, equal_refusal, resolve_rules, predicate_by, resolve_predicate, resolve_derivation, resolve_relation, with_predicate, resolve_relations, is_empty, unlike, passed_over, stamped_with, stamp_by, stamp_derived, stamp, first_rule, resolve_records, resolved}
use Rattle.directions.proofs.Numbers.{Numbered, rules_numbered, relations_numbered}
use Rattle.definitions.specs.Operations.{resolve_answer}
use Rattle.resolve.specs.Finish.{given_out}
use Rattle.theorems.specs.Demand3.{relation_out, DerivedRelation, TakesOne, EqualKinds, ListsLeft, as_they_stood, stamped, KindsUsed}
use Rattle.resolve.proofs.ResolveLaws.{equal_named}

-- ---- the table of typed relations

typed-kinds : (rs : List Relation) (n : ℕ) (ks : List ℕ) → typed_at (find n rs) ≡ some ks → kinds_of rs n ≡ some ks
unfolding kinds_of kind_step
typed-kinds rs n ks e = found (find n rs) refl e
  where
    -- two slot kinds and no derivation settle the name at list 9
    settled : (r : Relation) → find n rs ≡ some r → r.derivation ≡ none → declares r.name r.slot_kinds none ≡ end (some (record { owner = r.name; which = list9 })) → r.slot_kinds ≡ ks
        → names_of rs (own_answer rs n) ≡ some ks
    settled r f d s k =
        let a : own_answer rs n ≡ some (record { owner = r.name; which = list9 }) = own-end none same refl (kind_step rs) (declared rs) (kind-leads rs) n _ (rw (f, d) s) in
        let g : find r.name rs ≡ some r = subst (λ (m : ℕ). find m rs ≡ some r) (find-name rs n r f) f in
        rw (a, g) (ap some k)

    pairs : (r : Relation) → find n rs ≡ some r → r.derivation ≡ none → (l : List ℕ) → r.slot_kinds ≡ l → pair l ≡ some ks → names_of rs (own_answer rs n) ≡ some ks
    pairs r f d [] l e = let z : ◌≡◌ {A = ℕ} 0 1 = cc in absurd (omega arith)
    pairs r f d (a ∷ []) l e = let z : ◌≡◌ {A = ℕ} 0 1 = cc in absurd (omega arith)
    pairs r f d (a ∷ b ∷ []) l e = settled r f d (rw l refl) (let k : a ∷ b ∷ [] ≡ ks = cc in l ∙ k)
    pairs r f d (a ∷ b ∷ c ∷ m) l e = let z : ◌≡◌ {A = ℕ} 0 1 = cc in absurd (omega arith)

    underived : (r : Relation) → find n rs ≡ some r → (o : Option Derivation) → r.derivation ≡ o → typed_by r.slot_kinds o ≡ some ks → names_of rs (own_answer rs n) ≡ some ks
    underived r f none d e = pairs r f d r.slot_kinds refl e
    underived r f (some b) d e = let z : ◌≡◌ {A = ℕ} 0 1 = cc in absurd (omega arith)

    found : (o : Option Relation) → find n rs ≡ o → typed_at o ≡ some ks → names_of rs (own_answer rs n) ≡ some ks
    found none f e = let z : ◌≡◌ {A = ℕ} 0 1 = cc in absurd (omega arith)
    found (some r) f e = underived r f r.derivation refl e

typed_two : (rs : List Relation) (n a b : ℕ) (r : Relation) → find n rs ≡ some r → r.derivation ≡ none → r.slot_kinds ≡ a ∷ b ∷ [] → typed_at (find n rs) ≡ some (a ∷ b ∷ [])
typed_two rs n a b r f d k = rw (f, d, k) refl

-- ---- the table of derived relations

derived-kinds : (ks : Option (List ℕ)) (o : Option Relation) (d : Derived) → derived_at ks o ≡ some d → d.kinds ≡ ks
derived-kinds ks none d e = let z : ◌≡◌ {A = ℕ} 0 1 = cc in absurd (omega arith)
derived-kinds ks (some r) d e = go r.derivation e
  where
    go : (o : Option Derivation) → derived_by ks o ≡ some d → d.kinds ≡ ks
    go none e = let z : ◌≡◌ {A = ℕ} 0 1 = cc in absurd (omega arith)
    go (some b) e = let u : record { current = b.current; related = b.related; kinds = ks } ≡ d = cc in ap (λ (x : Derived). x.kinds) (sym u)

derived-back : (p : Pack) (n : ℕ) (b : DerivedRelation p n)
    → derived_at (kinds_of p.relations n) (find n p.relations) ≡ some (record { current = b.derivation.current; related = b.derivation.related; kinds = kinds_of p.relations n })
derived-back p n b = rw (b.declared, b.derived) refl

-- ---- the kinds that entities take

-- the one distinct element of a list is the only one in it
single-only : (l : List ℕ) (k : ℕ) → single l ≡ some k → (among k l ≡ true) × ((j : ℕ) → among j l ≡ true → j ≡ k)
single-only [] k e = let z : ◌≡◌ {A = ℕ} 0 1 = cc in absurd (omega arith)
single-only (x ∷ l) k e = go (any (λ y. not (eqb y x)) l) refl e
  where
    first : (j : ℕ) → any (λ y. not (eqb y x)) l ≡ false → (eqb j x ≡ true) ⊎ (among j l ≡ true) → j ≡ x
    first j a (inl h) = eqb-true j x h
    first j a (inr h) = alike (eqb j x) refl
      where
        alike : (c : Bool) → eqb j x ≡ c → j ≡ x
        alike true q = eqb-true j x q
        alike false q = apart (any_of (λ y. not (eqb y x)) j l h (ap not q)) a

    go : (b : Bool) → any (λ y. not (eqb y x)) l ≡ b → pick b none (some x) ≡ some k → (among k (x ∷ l) ≡ true) × ((j : ℕ) → among j (x ∷ l) ≡ true → j ≡ k)
    go true a q = let z : ◌≡◌ {A = ℕ} 0 1 = cc in absurd (omega arith)
    go false a q =
        let s : x ≡ k = cc in
        (or_left _ (among k l) (eq-eqb k x (sym s)), λ j h. first j a (or_cases (eqb j x) (among j l) h) ∙ s)

-- and a list with no other element has it as its one
single-is : (l : List ℕ) (k : ℕ) → among k l ≡ true → ((j : ℕ) → among j l ≡ true → j ≡ k) → single l ≡ some k
single-is [] k h only = let z : ◌≡◌ {A = ℕ} 0 1 = cc in absurd (omega arith)
single-is (x ∷ l) k h only = go (any (λ y. not (eqb y x)) l) refl
  where
    first : x ≡ k
    first = only x (or_left _ (among x l) (eq-eqb x x refl))

    go : (b : Bool) → any (λ y. not (eqb y x)) l ≡ b → pick b none (some x) ≡ some k
    go true a =
        let o = of_any (λ y. not (eqb y x)) l a in
        let s : o.0 ≡ x = only o.0 (or_right (eqb o.0 x) _ o.1) ∙ sym first in
        apart (eq-eqb o.0 x s) (not-true (eqb o.0 x) o.2)
    go false a = ap some first

-- a field that names an entity is a name, and the entity
names_it : (field e : ℕ) → entity_is field e ≡ true → (field ≡ e) × (eqb field table.none ≡ false)
names_it field e q = go (eqb field table.none) refl q
  where
    go : (b : Bool) → eqb field table.none ≡ b → pick b false (eqb field e) ≡ true → (field ≡ e) × (eqb field table.none ≡ false)
    go true n q = let z : ◌≡◌ {A = ℕ} 0 1 = cc in absurd (omega arith)
    go false n q = (eqb-true field e q, n)

module _ (p : Pack) (e : ℕ) where
  abbrev rs : List Relation
  rs = p.relations

  -- the relation and derivation by which an entity takes a kind
  record By (k : ℕ) : Type 0 where
    name : ℕ
    bears : DerivedRelation p name
    entity : entity_is bears.derivation.entity e ≡ true
    kind : kind_at (kinds_of rs name) bears.derivation.current ≡ some k

  from_one : (k : ℕ) (r : Relation) → find r.name rs ≡ some r → (o : Option Derivation) → r.derivation ≡ o → among k (takes rs e r.name o) ≡ true → By k
  from_one k r f none d h = let z : ◌≡◌ {A = ℕ} 0 1 = cc in absurd (omega arith)
  from_one k r f (some b) d h = go (entity_is b.entity e) refl (kind_at (kinds_of rs r.name) b.current) refl h
    where
      go : (c : Bool) → entity_is b.entity e ≡ c → (o : Option ℕ) → kind_at (kinds_of rs r.name) b.current ≡ o → among k (pick c (listed o) []) ≡ true → By k
      go true a none q h = let z : ◌≡◌ {A = ℕ} 0 1 = cc in absurd (omega arith)
      go true a (some j) q h = record { name = r.name; bears = record { relation = r; declared = f; derivation = b; derived = d }; entity = a; kind = q ∙ ap some (same (or_cases (eqb k j) false h)) }
        where
          same : (eqb k j ≡ true) ⊎ (◌≡◌ {A = Bool} false true) → j ≡ k
          same (inl h) = sym (eqb-true k j h)
          same (inr h) = let z : ◌≡◌ {A = ℕ} 0 1 = cc in absurd (omega arith)
      go false a o q h = let z : ◌≡◌ {A = ℕ} 0 1 = cc in absurd (omega arith)

  -- a kind that is taken is taken by a derivation
  from_some : (k : ℕ) (l : List Relation) → EachFound rs l → among k (taken_from rs e l) ≡ true → By k
  from_some k [] f h = let z : ◌≡◌ {A = ℕ} 0 1 = cc in absurd (omega arith)
  from_some k (r ∷ l) f h = go (or_cases _ _ (rw (among-append k (takes rs e r.name r.derivation) (taken_from rs e l)) at h)) (from_some k l f.1)
    where
      go : (among k (takes rs e r.name r.derivation) ≡ true) ⊎ (among k (taken_from rs e l) ≡ true) → (among k (taken_from rs e l) ≡ true → By k) → By k
      go (inl h) rest = from_one k r f.0 r.derivation refl h
      go (inr h) rest = rest h

  -- and each derivation's kind is taken
  to-taken : (k : ℕ) (b : By k) (l : List Relation) → find b.name l ≡ some b.bears.relation → among k (taken_from rs e l) ≡ true
  unfolding find
  to-taken k b [] f = let z : ◌≡◌ {A = ℕ} 0 1 = cc in absurd (omega arith)
  to-taken k b (r ∷ l) f = rw (among-append k (takes rs e r.name r.derivation) (taken_from rs e l)) (go (eqb b.name r.name) refl f (to-taken k b l))
    where
      its : Derivation
      its = b.bears.derivation

      here : r ≡ b.bears.relation → eqb b.name r.name ≡ true → takes rs e r.name r.derivation ≡ k ∷ []
      here s n =
          let o : r.derivation ≡ some its = ap (λ (x : Relation). x.derivation) s ∙ b.bears.derived in
          let m : r.name ≡ b.name = sym (eqb-true b.name r.name n) in
          rw (o, m, b.entity, b.kind) refl

      go : (c : Bool) → eqb b.name r.name ≡ c → pick c (some r) (find b.name l) ≡ some b.bears.relation → (find b.name l ≡ some b.bears.relation → among k (taken_from rs e l) ≡ true)
          → (among k (takes rs e r.name r.derivation) || among k (taken_from rs e l)) ≡ true
      go true n f rest = let s : r ≡ b.bears.relation = cc in or_left (among k (takes rs e r.name r.derivation)) (among k (taken_from rs e l)) (rw (here s n) (or_left _ false (eq-eqb k k refl)))
      go false n f rest = or_right (among k (takes rs e r.name r.derivation)) _ (rest f)

  takes_one : WellFormed p → (k : ℕ) → direct rs e ≡ some k → TakesOne p e k
  unfolding direct taken
  takes_one w k h =
      let only = single-only (taken_from rs e rs) k h in
      let b = from_some k rs (all_found p w) only.0 in
      let named = names_it b.bears.derivation.entity e b.entity in
      record {
        name = b.name;
        by = b.bears;
        with_entity = named.0;
        takes = b.kind;
        only = λ n j c i q. only.1 j (to-taken j (record { name = n; bears = c; entity = again c.derivation.entity i named.0 named.1; kind = q }) rs c.declared);
      }
    where
      again : {field : ℕ} (other : ℕ) → other ≡ e → field ≡ e → eqb field table.none ≡ false → entity_is other e ≡ true
      again {field} other i f n = let m : field ≡ other = f ∙ sym i in let z : eqb other table.none ≡ false = subst (λ (x : ℕ). eqb x table.none ≡ false) m n in rw z (eq-eqb other e i)

  takes_back : (k : ℕ) → WellFormed p → e < p.names → TakesOne p e k → direct rs e ≡ some k
  unfolding direct taken
  takes_back k w low t =
      let name : eqb e table.none ≡ false = ne_eqb e table.none (λ z. (let m = (parts p w).most in omega arith)) in
      let its : (j n : ℕ) (b : DerivedRelation p n) → b.derivation.entity ≡ e → kind_at (kinds_of rs n) b.derivation.current ≡ some j → By j = λ j n b i q.
      record { name = n; bears = b; entity = rw (i, name) (eq-eqb e e refl); kind = q } in
      single-is (taken_from rs e rs) k (to-taken k (its k t.name t.by t.with_entity t.takes) rs t.by.declared)
      (λ j h. (let b = from_some j rs (all_found p w) h in t.only b.name j b.bears (names_it b.bears.derivation.entity e b.entity).0 b.kind))

-- ---- 9

equal-kinds : (p : Pack) (n : ℕ) → equal_kinds (derived_at (kinds_of p.relations n) (find n p.relations)) ≡ true → EqualKinds p n
equal-kinds p n = go (find n p.relations) refl
  where
    both : (c r : Option ℕ) → same_kind c r ≡ true → (k : ℕ) × (c ≡ some k) × (r ≡ some k)
    both none r h = let z : ◌≡◌ {A = ℕ} 0 1 = cc in absurd (omega arith)
    both (some c) none h = let z : ◌≡◌ {A = ℕ} 0 1 = cc in absurd (omega arith)
    both (some c) (some r) h = (c, refl, ap some (sym (eqb-true c r h)))

    of : (x : Relation) → find n p.relations ≡ some x → (o : Option Derivation) → x.derivation ≡ o → equal_kinds (derived_by (kinds_of p.relations n) o) ≡ true → EqualKinds p n
    of x f none d h = let z : ◌≡◌ {A = ℕ} 0 1 = cc in absurd (omega arith)
    of x f (some b) d h =
        let s = both (kind_at (kinds_of p.relations n) b.current) (kind_at (kinds_of p.relations n) b.related) h in
        record { by = record { relation = x; declared = f; derivation = b; derived = d }; kind = s.0; current = s.1; related = s.2 }

    go : (o : Option Relation) → find n p.relations ≡ o → equal_kinds (derived_at (kinds_of p.relations n) o) ≡ true → EqualKinds p n
    go none f h = let z : ◌≡◌ {A = ℕ} 0 1 = cc in absurd (omega arith)
    go (some x) f h = of x f x.derivation refl h

equal_back : (p : Pack) (n : ℕ) → EqualKinds p n → equal_kinds (derived_at (kinds_of p.relations n) (find n p.relations)) ≡ true
equal_back p n e = rw (derived-back p n e.by, e.current, e.related) (eq-eqb e.kind e.kind refl)

equal_among : (T : Tables) (ds : List ℕ) (n : ℕ) → defaulted_equal T ds ≡ some n → among n ds ≡ true
unfolding defaulted_equal
equal_among T [] n e = let z : ◌≡◌ {A = ℕ} 0 1 = cc in absurd (omega arith)
equal_among T (d ∷ ds) n e = go (equal_kinds (T.derived d)) e (equal_among T ds n)
  where
    go : (b : Bool) → pick b (some d) (defaulted_equal T ds) ≡ some n → (defaulted_equal T ds ≡ some n → among n ds ≡ true) → among n (d ∷ ds) ≡ true
    go true e ih = let z : n ≡ d = cc in or_left _ (among n ds) (eq-eqb n d z)
    go false e ih = or_right (eqb n d) _ (ih e)

some_equal : (T : Tables) (ds : List ℕ) (n : ℕ) → among n ds ≡ true → equal_kinds (T.derived n) ≡ true → (m : ℕ) × (defaulted_equal T ds ≡ some m)
unfolding defaulted_equal
some_equal T [] n i h = let z : ◌≡◌ {A = ℕ} 0 1 = cc in absurd (omega arith)
some_equal T (d ∷ ds) n i h = go (equal_kinds (T.derived d)) refl (or_cases (eqb n d) (among n ds) i) (λ j. some_equal T ds n j h)
  where
    go : (b : Bool) → equal_kinds (T.derived d) ≡ b → (eqb n d ≡ true) ⊎ (among n ds ≡ true) → (among n ds ≡ true → (m : ℕ) × (defaulted_equal T ds ≡ some m)) → (m : ℕ) × (pick b (some d) (defaulted_equal T ds) ≡ some m)
    go true q i ih = (d, refl)
    go false q (inl i) ih = apart (subst (λ (x : ℕ). equal_kinds (T.derived x) ≡ true) (eqb-true n d i) h) q
    go false q (inr i) ih = ih i

-- trees are refused by other numbers, and so is a result for which there is no room
no_9 : (o : Outcome (List Rule)) (e : Outcome (List Relation)) (f : List Rule → List Relation → Pack) (steps room : ℕ) (r : Refusal) → Numbered o → Numbered e
    → given_out steps room (and_then o (λ rl. map_done (f rl) e)) ≡ Err r → r.number ≡ 9 → ⊥
no_9 (refused s) e f steps room r h k q n = let u : s.number ≡ 9 = (let v : s ≡ r = cc in ap (λ (x : Refusal). x.number) v ∙ n) in omega (arith, h.0)
no_9 (done rl) (refused s) f steps room r h k q n = let u : s.number ≡ 9 = (let v : s ≡ r = cc in ap (λ (x : Refusal). x.number) v ∙ n) in omega (arith, k.0)
no_9 (done rl) (done rs) f steps room r h k q n = go (leb (total (f rl rs)) 8192 && leb (total (f rl rs)) room) q
  where
    go : (b : Bool) → pick b (gives (total (f rl rs)) steps) out_of_room ≡ Err r → ⊥
    go true q = let z : ◌≡◌ {A = ℕ} 0 1 = cc in omega arith
    go false q = let v : record { number = 16; place = 0; name = 0; other = 0 } ≡ r = cc in let u = ap (λ (x : Refusal). x.number) v in omega arith

refused_9 : (ws : List ℕ) (p : Pack) → read ws ≡ yes p → (room : ℕ) (r : Refusal) → resolve_answer ws room ≡ Err r → r.number ≡ 9 → (among r.name p.defaulted ≡ true) × EqualKinds p r.name
unfolding resolve_answer resolved tables
refused_9 ws p h room r e n = go (defaulted_equal (tables p.relations) p.defaulted) refl (rw h at e)
  where
    go : (o : Option ℕ) → defaulted_equal (tables p.relations) p.defaulted ≡ o
        → given_out (all_kinds p.relations).steps room (elim o [ some m ↦ refused (equal_refusal p m) | none ↦ resolve_records p ]) ≡ Err r → (among r.name p.defaulted ≡ true) × EqualKinds p r.name
    go (some m) d q =
        let u : equal_refusal p m ≡ r = cc in
        subst (λ (n : ℕ). (among n p.defaulted ≡ true) × EqualKinds p n) (ap (λ (x : Refusal). x.name) u)
        (equal_among (tables p.relations) p.defaulted m d, equal-kinds p m (equal_named (tables p.relations) p.defaulted m d))
    go none d q =
        absurd (no_9 (resolve_rules p (first_rule p) p.rules) (resolve_relations p (first_relation p) p.relations) _ (all_kinds p.relations).steps room r
        (rules_numbered p (first_rule p) p.rules) (relations_numbered p (first_relation p) p.relations) q n)

refused_9_back : (ws : List ℕ) (p : Pack) → read ws ≡ yes p → (room n : ℕ) → among n p.defaulted ≡ true → EqualKinds p n → (r : Refusal) × (resolve_answer ws room ≡ Err r) × (r.number ≡ 9)
unfolding resolve_answer resolved tables
refused_9_back ws p h room n i e =
    let m = some_equal (tables p.relations) p.defaulted n i (equal_back p n e) in
    let first = ap (λ (o : Option ℕ). given_out (all_kinds p.relations).steps room (elim o [ some m ↦ refused (equal_refusal p m) | none ↦ resolve_records p ])) m.1 in
    (equal_refusal p m.0, rw h first, refl)

-- ---- the lists that are left

lists_left : (p : Pack) (r out : Relation) → relation_out p r ≡ some out → ListsLeft p r out
unfolding resolve_relation stamp
lists_left p r out = go r.derivation refl
  where
    again : Option Derivation → Relation
    again o = record { name = r.name; origin = r.origin; arity = r.arity; slot_kinds = r.slot_kinds; derivation = o }

    -- with the predicate resolved, and then stamped
    turned : (d : Derivation) → r.derivation ≡ some d → (t : Tree) → stamp_derived p (again (some (with_predicate d t))) (some (with_predicate d t)) ≡ out → ListsLeft p r out
    turned d e t = over (passed_over p x b)
      where
        b : Derivation
        b = with_predicate d t

        x : Relation
        x = again (some b)

        stood : x ≡ out → ListsLeft p r out
        stood s = subst (ListsLeft p r) s (as_they_stood refl (rw e refl))

        by : (ks : Option (List ℕ)) → kinds_of p.relations r.name ≡ ks → stamp_by ks x b ≡ out → ListsLeft p r out
        by none k s = stood s
        by (some ks) k s = kinds (is_empty d.slot_entities && unlike (kind_at (some ks) d.current) (kind_at (some ks) d.related)) s
          where
            kinds : (c : Bool) → pick c (stamped_with x b ks) x ≡ out → ListsLeft p r out
            kinds true s = subst (ListsLeft p r) s (stamped k refl)
            kinds false s = stood s

        over : (c : Bool) → pick c x (stamp_by (kinds_of p.relations r.name) x b) ≡ out → ListsLeft p r out
        over true s = stood s
        over false s = by (kinds_of p.relations r.name) refl s

    go : (o : Option Derivation) → r.derivation ≡ o → map (λ (x : Relation). stamp_derived p x x.derivation) (result (map_done again (resolve_derivation p 0 r o))) ≡ some out → ListsLeft p r out
    go none e h = let s : again none ≡ out = cc in subst (ListsLeft p r) s (as_they_stood refl (rw e refl))
    go (some d) e h = predicate (resolve_predicate p 0 r d) h
      where
        predicate : (t : Outcome Tree) → map (λ (x : Relation). stamp_derived p x x.derivation) (result (map_done again (map_done (λ t. some (with_predicate d t)) t))) ≡ some out → ListsLeft p r out
        predicate (refused x) h = let z : ◌≡◌ {A = ℕ} 0 1 = cc in absurd (omega arith)
        predicate (done t) h = turned d e t (let s : stamp_derived p (again (some (with_predicate d t))) (some (with_predicate d t)) ≡ out = cc in s)

-- ---- all of them

pub kinds-used : (ws : List ℕ) (p : Pack) → read ws ≡ yes p → KindsUsed p (resolve_answer ws)
unfolding tables predicate_by
kinds-used ws p h =
    record {
      typed = typed-kinds p.relations;
      typed-back = typed_two p.relations;
      derived = λ n d e. derived-kinds (kinds_of p.relations n) (find n p.relations) d e;
      derived-back = derived-back p;
      direct = λ e. takes_one p e (words-read ws p h).fine;
      direct-back = λ e k. takes_back p e k (words-read ws p h).fine;
      predicate = λ at r d. refl;
      refused_by_9 = refused_9 ws p h;
      refused_by_9_back = refused_9_back ws p h;
      lists = lists_left p;
    }
