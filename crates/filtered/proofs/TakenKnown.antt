-- After all relations of a checked pack the table says of every entity what is known of it: whether a derivation names it, and the kinds that it takes.
use Prim.Native.Nat.{ℕ, suc, ◌+◌, ◌*◌, ◌<◌, ◌≤◌}
use native.Mathlib.Omega.{arith}
use mathlib.Core.Path.{◌≡◌, refl, ap, sym, ◌∙◌, subst}
use mathlib.Core.List.{List, [], ◌∷◌, ◌++◌, map, append-nil, append_assoc}
use mathlib.Core.Bool.{Bool, true, false, ◌||◌, not, or_assoc, or-false, or-true}
use mathlib.Core.Option.{Option, none, some}
use lib.ListN.{length, get_or, take, drop, set, length-set, get_or-map, get_or-eq_default}
use lib.Seq.{get_or-set_same, get_or-set_other}
use lib.Dec.{eqb, ltb}
use borrow.Author.Tests.{eq-eqb, ne_eqb, eqb-true, eqb-false, lt-ltb, le-ltb, ltb-true, ltb-false}
use Rattle.std.proofs.lemmas.Bool.{or_left, or_right}
use Rattle.definitions.specs.Table.{pick, value_of}
use Rattle.definitions.specs.Table as table
use Rattle.definitions.specs.Form.{among}
use Rattle.definitions.specs.Records.{Derivation, Relation, Pack}
use Rattle.definitions.specs.Pack.{WellFormed, yes, read, words}
use Rattle.definitions.specs.Kinds.{find, declared, own_answer, kinds_of}
use Rattle.definitions.specs.Lean.{any}
use Rattle.definitions.specs.Filtered as filtered
use Rattle.definitions.specs.Filtered.{kind_at, listed, entity_is, taken_from, taken, names_entity}
use Rattle.definitions.specs.Places.{start_of, first_relation, hops, place_of, names_at}
use Rattle.chains.specs.Record.{slots_place}
use Rattle.records.specs.declared.directory.Layout.{Layout}
use Rattle.chains.specs.DirectoryWord.{starts_in, slots_in, names_in}
use Rattle.chains.specs.PackDirectory.{slots_of, RelationsNoted, ClearTable, IsDirectory, KindsMarked}
use Rattle.chains.specs.Settle.{Marked}
use Rattle.filtered.specs.Acts.{act_part, act_list, acts_from}
use Rattle.filtered.specs.Taking.{several, known, named_after, taken_after, take_at, taken_by, kind_marked, taken_in, RelationsRead, NamesLow, Filled}
use Rattle.filtered.proofs.ActLaws.{part_is, list-is}
use Rattle.pack.proofs.PackLaws.{words-read}
use Rattle.chains.proofs.PackParts.{parts, EachFound, all_found}
use Rattle.chains.proofs.ListAt.{InWords, place-holds}
use Rattle.chains.proofs.RecordLaws.{slots_at, current-there, entity-there}
use Rattle.chains.proofs.DeclarationLaws.{a_record, standing}
use Rattle.chains.proofs.CheckedLaws.{its-low}
use Rattle.filtered.proofs.EntityBounds.{takes-nothing, nobody_names}

-- ---- what is known, after one more derivation

named-known : (b : Bool) (ks : List ℕ) → named_after (known b ks) ≡ known true ks
unfolding named_after
named-known true [] = refl
named-known false [] = refl
named-known b (k ∷ ks) = go (any (λ x. not (eqb x k)) ks)
  where
    go : (c : Bool) → pick (eqb (pick c several (2 + k)) 0) 1 (pick c several (2 + k)) ≡ pick c several (2 + k)
    go true = refl
    go false = rw (ne_eqb (2 + k) 0 (λ e. omega arith)) refl

any_last : (f : ℕ → Bool) (ks : List ℕ) (k : ℕ) → any f (ks ++ (k ∷ [])) ≡ (any f ks || f k)
any_last f [] k = or-false (f k)
any_last f (j ∷ ks) k = ap (λ (b : Bool). f j || b) (any_last f ks k) ∙ sym (or_assoc (f j) (any f ks) (f k))

kind-known : (ks : List ℕ) (k : ℕ) → k < 16777216 → taken_after (known true ks) (some k) ≡ known true (ks ++ (k ∷ []))
unfolding taken_after
kind-known [] k h = refl
kind-known (j ∷ js) k h = go (any (λ x. not (eqb x j)) js) refl
  where
    last : any (λ x. not (eqb x j)) (js ++ (k ∷ [])) ≡ (any (λ x. not (eqb x j)) js || not (eqb k j))
    last = any_last (λ x. not (eqb x j)) js k

    alike : (e : Bool) → eqb k j ≡ e → pick (ltb (2 + j) 2) (2 + k) (pick (eqb (2 + j) (2 + k)) (2 + j) several) ≡ pick (not e) several (2 + j)
    alike true q = let s : 2 + j ≡ 2 + k = ap (λ (x : ℕ). 2 + x) (sym (eqb-true k j q)) in rw (le-ltb (2 + j) 2 (omega arith), eq-eqb (2 + j) (2 + k) s) refl
    alike false q = rw (le-ltb (2 + j) 2 (omega arith), ne_eqb (2 + j) (2 + k) (λ s. eqb-false k j q (omega arith))) refl

    go : (b : Bool) → any (λ x. not (eqb x j)) js ≡ b
        → pick (ltb (pick b several (2 + j)) 2) (2 + k) (pick (eqb (pick b several (2 + j)) (2 + k)) (pick b several (2 + j)) several)
        ≡ pick (any (λ x. not (eqb x j)) (js ++ (k ∷ []))) several (2 + j)
    go true e = rw (last, e, ne_eqb several (2 + k) (λ s. omega arith)) refl
    go false e = rw (last, e) (alike (eqb k j) refl)

-- a kind that is a value
abbrev Fits : Option ℕ → Type 0
Fits none = Unit {0}
Fits (some k) = k < 16777216

more-known : (b : Bool) (ks : List ℕ) (o : Option ℕ) → Fits o → taken_after (named_after (known b ks)) o ≡ known true (ks ++ listed o)
unfolding taken_after
more-known b ks none h = named-known b ks ∙ ap (known true) (sym (append-nil ks))
more-known b ks (some k) h = ap (λ (x : ℕ). taken_after x (some k)) (named-known b ks) ∙ kind-known ks k h

-- the field of a derivation that names an entity is it, and one that does not name a name is not
entity-is : (field e : ℕ) → entity_is field e ≡ true → field ≡ e
entity-is field e q = go (eqb field table.none) q
  where
    go : (b : Bool) → pick b false (eqb field e) ≡ true → field ≡ e
    go true q = let z : ◌≡◌ {A = ℕ} 0 1 = cc in absurd (omega arith)
    go false q = eqb-true field e q

entity_not : (field e : ℕ) → e < 4096 → entity_is field e ≡ false → e ≡ field → ⊥
entity_not field e h q z = go (eqb field table.none) refl q
  where
    go : (b : Bool) → eqb field table.none ≡ b → pick b false (eqb field e) ≡ false → ⊥
    go true n q = let m = eqb-true field table.none n in omega arith
    go false n q = eqb-false field e q (sym z)

-- ---- the relations

module _ (kind : ℕ → ℕ → Option ℕ) where
  -- the table after a relation
  abbrev table_after : ℕ → Option Derivation → List ℕ → List ℕ
  table_after n none t = t
  table_after n (some d) t = take_at t d.entity (kind n d.current)

  -- and after a list of relations
  abbrev after_all : List Relation → List ℕ → List ℕ
  after_all [] t = t
  after_all (r ∷ rs) t = after_all rs (table_after r.name r.derivation t)

  -- ---- an entity

  abbrev takes_by : ℕ → ℕ → Option Derivation → List ℕ
  takes_by e n none = []
  takes_by e n (some d) = pick (entity_is d.entity e) (listed (kind n d.current)) []

  abbrev taken_of : ℕ → List Relation → List ℕ
  taken_of e [] = []
  taken_of e (r ∷ rs) = takes_by e r.name r.derivation ++ taken_of e rs

  take_long : (t : List ℕ) (n : ℕ) (o : Option Derivation) → length (table_after n o t) ≡ length t
  unfolding take_at
  take_long t n none = refl
  take_long t n (some d) = go (ltb d.entity (length t))
    where
      go : (c : Bool) → length (pick c (set t d.entity (taken_after (named_after (get_or t d.entity 0)) (kind n d.current))) t) ≡ length t
      go true = simp length-set
      go false = refl

  all-long : (l : List Relation) (t : List ℕ) → length (after_all l t) ≡ length t
  all-long [] t = refl
  all-long (r ∷ l) t = all-long l (table_after r.name r.derivation t) ∙ take_long t r.name r.derivation

  module _ (fits : (n slot : ℕ) → Fits (kind n slot)) (e : ℕ) (small : e < 4096) where
    take-known : (t : List ℕ) (n : ℕ) (o : Option Derivation) (b : Bool) (ks : List ℕ) → e < length t → get_or t e 0 ≡ known b ks
        → get_or (table_after n o t) e 0 ≡ known (b || names_entity e o) (ks ++ takes_by e n o)
    unfolding take_at
    take-known t n none b ks l h = h ∙ rw (append-nil ks, or-false b) refl
    take-known t n (some d) b ks l h = go (entity_is d.entity e) refl
      where
        k : Option ℕ
        k = kind n d.current

        kept_or : (c : Bool) → ltb d.entity (length t) ≡ c → (e ≡ d.entity → ⊥) → get_or (pick c (set t d.entity (taken_after (named_after (get_or t d.entity 0)) k)) t) e 0 ≡ get_or t e 0
        kept_or true q z = get_or-set_other t d.entity e _ 0 z
        kept_or false q z = refl

        go : (c : Bool) → entity_is d.entity e ≡ c
            → get_or (pick (ltb d.entity (length t)) (set t d.entity (taken_after (named_after (get_or t d.entity 0)) k)) t) e 0 ≡ known (b || c) (ks ++ pick c (listed k) [])
        go true q =
            let m : d.entity ≡ e = entity-is d.entity e q in
            rw (m, lt-ltb e (length t) l, or-true b)
            (get_or-set_same t e (taken_after (named_after (get_or t e 0)) k) 0 l ∙ ap (λ (x : ℕ). taken_after (named_after x) k) h ∙ more-known b ks k (fits n d.current))
        go false q =
            kept_or (ltb d.entity (length t)) refl (entity_not d.entity e small q) ∙ h ∙ rw (or-false b, append-nil ks) refl

    relations-known : (l : List Relation) (t : List ℕ) (b : Bool) (ks : List ℕ) → e < length t → get_or t e 0 ≡ known b ks
        → get_or (after_all l t) e 0 ≡ known (b || any (λ (r : Relation). names_entity e r.derivation) l) (ks ++ taken_of e l)
    relations-known [] t b ks l h = h ∙ rw (append-nil ks, or-false b) refl
    relations-known (r ∷ rs) t b ks l h =
        let c : Bool = names_entity e r.derivation in
        let js : List ℕ = takes_by e r.name r.derivation in
        relations-known rs (table_after r.name r.derivation t) (b || c) (ks ++ js) (omega (arith, take_long t r.name r.derivation)) (take-known t r.name r.derivation b ks l h)
        ∙ rw (or_assoc b c (any (λ (r : Relation). names_entity e r.derivation) rs), append_assoc ks js (taken_of e rs)) refl

-- ---- a checked pack

taken_alike : (kind : ℕ → ℕ → Option ℕ) (all : List Relation) (e : ℕ) (l : List Relation) → ((n : ℕ) → among n (declared l) ≡ true → (slot : ℕ) → kind n slot ≡ kind_at (kinds_of all n) slot)
    → taken_of kind e l ≡ taken_from all e l
taken_alike kind all e [] h = refl
taken_alike kind all e (r ∷ l) h =
    rw (go r.derivation, taken_alike kind all e l (λ n i slot. h n (or_right (eqb n r.name) _ i) slot)) refl
  where
    go : (o : Option Derivation) → takes_by kind e r.name o ≡ filtered.takes all e r.name o
    go none = refl
    go (some d) = ap (λ (k : Option ℕ). pick (entity_is d.entity e) (listed k) []) (h r.name (or_left _ (among r.name (declared l)) (eq-eqb r.name r.name refl)) d.current)

value-fits : (l : List ℕ) (slot : ℕ) → get_or (map value_of l) slot 0 < 16777216
value-fits l slot = rw (get_or-map value_of l slot 0) (omega arith)

marked-fits : (ws marks : List ℕ) (n slot : ℕ) → Fits (kind_marked ws marks n slot)
unfolding kind_marked names_at
marked-fits ws marks n slot = go (eqb (act_list (get_or marks n 0)) 0)
  where
    l : List ℕ
    l = take (value_of (get_or ws (act_list (get_or marks n 0)) 0)) (drop (suc (act_list (get_or marks n 0))) ws)

    at : (c : Bool) → Fits (pick c (some (get_or (map value_of l) slot 0)) none)
    at true = value-fits l slot
    at false = tt

    go : (b : Bool) → Fits (kind_at (pick b none (some (map value_of l))) slot)
    go true = tt
    go false = at (ltb slot (length (map value_of l)))

pub kind_of : {ws names marks : List ℕ} {steps : ℕ} → KindsMarked ws steps names marks → Marked marks → (p : Pack) → read ws ≡ yes p → words p ≡ ws → WellFormed p
    → (n : ℕ) → among n (declared p.relations) ≡ true → (slot : ℕ) → kind_marked ws marks n slot ≡ kind_at (kinds_of p.relations n) slot
unfolding kind_marked Marked
kind_of {ws} {marks = marks} m low p h same fine n i slot =
    let q : act_list (get_or marks n 0) ≡ place_of p (own_answer p.relations n) = (let k = m.marked p h n i in omega (arith, low n)) in
    ap (λ (o : Option (List ℕ)). kind_at o slot) (ap (names_at ws) q ∙ ap (λ (v : List ℕ). names_at v (place_of p (own_answer p.relations n))) (sym same) ∙ place-holds p fine n)

module _ {ws names records : List ℕ} (slots : List ℕ) {marks : List ℕ} {steps : ℕ} (noted : RelationsNoted ws names records) (slotted : (p : Pack) → read ws ≡ yes p → (m : ℕ) → get_or slots m 0 ≡ slots_of p m) (m : KindsMarked ws steps names marks)
    (low : Marked marks) (p : Pack) (h : read ws ≡ yes p) where
  abbrev kind : ℕ → ℕ → Option ℕ
  kind = kind_marked ws marks

  same : words p ≡ ws
  same = (words-read ws p h).same

  fine : WellFormed p
  fine = (words-read ws p h).fine

  -- what the code reads at a relation's slots
  slots-take : (r : Relation) → find r.name p.relations ≡ some r → (t : List ℕ) → taken_by ws marks t r.name (get_or slots r.name 0) ≡ table_after kind r.name r.derivation t
  unfolding taken_by slots_of
  slots-take r e t = rw (slotted p h r.name, e) (go r.derivation refl)
    where
      start : ℕ
      start = get_or records r.name 0

      starts : start_of p.names r.name (first_relation p) p.relations ≡ start
      starts = sym (a_record p fine records (noted.placed p h) r.name r e)

      i : InWords ws start p.names r
      i = subst (λ (v : List ℕ). InWords v start p.names r) same (standing p fine records (noted.placed p h) r.name r e).stands

      most : p.names ≤ 4096
      most = (parts p fine).most

      go : (o : Option Derivation) → r.derivation ≡ o
          → taken_by ws marks t r.name (elim o [ none ↦ 0 | some d ↦ start_of p.names r.name (first_relation p) p.relations + 7 + length r.slot_kinds + 3 * hops d.path ]) ≡ table_after kind r.name o t
      go none q = refl
      go (some d) q =
          let s : start_of p.names r.name (first_relation p) p.relations + 7 + length r.slot_kinds + 3 * hops d.path ≡ slots_place ws start =
          omega (arith, starts, slots_at ws start p.names r i most d q) in
          rw (s, ne_eqb (slots_place ws start) 0 (λ z. omega (arith, slots_at ws start p.names r i most d q)), entity-there ws start p.names r i most d q, current-there ws start p.names r i most d q) refl

  all_take : (l : List Relation) → EachFound p.relations l → (t : List ℕ) → taken_in ws slots marks (declared l) t ≡ after_all kind l t
  unfolding taken_in
  all_take [] f t = refl
  all_take (r ∷ l) f t = ap (taken_in ws slots marks (declared l)) (slots-take r f.0 t) ∙ all_take l f.1 (table_after kind r.name r.derivation t)

  module _ {t t₀ : List ℕ} (lent : ClearTable p.names t₀) (q : t ≡ taken_in ws slots marks names t₀) where
    is-after : t ≡ after_all kind p.relations t₀
    is-after = q ∙ ap (λ (l : List ℕ). taken_in ws slots marks l t₀) (noted.named p h) ∙ all_take p.relations (all_found p fine) t₀

    entity-known : (e : ℕ) → get_or t e 0 ≡ known (any (λ r. names_entity e r.derivation) p.relations) (taken p.relations e)
    unfolding taken
    entity-known e = go (ltb e (length t₀)) refl
      where
        go : (b : Bool) → ltb e (length t₀) ≡ b → get_or t e 0 ≡ known (any (λ r. names_entity e r.derivation) p.relations) (taken p.relations e)
        go true y =
            ap (λ (u : List ℕ). get_or u e 0) is-after
            ∙ relations-known kind (marked-fits ws marks) e (omega (arith, lent.short, ltb-true e (length t₀) y)) p.relations t₀ false [] (ltb-true e (length t₀) y) (lent.clear e)
            ∙ ap (known (any (λ (r : Relation). names_entity e r.derivation) p.relations)) (taken_alike kind p.relations e p.relations (kind_of m low p h same fine))
        go false y =
            let past : length t₀ ≤ e = ltb-false e (length t₀) y in
            let beyond : p.names ≤ e = omega (arith, lent.long) in
            get_or-eq_default t 0 (omega (arith, ap length is-after, all-long kind p.relations t₀))
            ∙ sym (rw (nobody_names p fine e beyond, takes-nothing p fine e beyond) refl)

module _ {ws : List ℕ} {l : Layout} {dir marks : List ℕ} {steps : ℕ} (d : IsDirectory ws l dir) (m : KindsMarked ws steps (names_in dir l.relations) marks) (low : Marked marks) where
  pub takeable : {most : ℕ} → l.names ≤ most → NamesLow most (names_in dir l.relations)
  unfolding NamesLow
  takeable h j = omega (arith, its-low d j)

  pub filled : {acts t t₀ : List ℕ} → l.names ≤ length marks → ClearTable l.names t₀ → RelationsRead ws (starts_in dir) (slots_in dir) (names_in dir l.relations) marks t₀ acts t → Filled ws (names_in dir l.relations) (starts_in dir) acts t steps
  filled {acts} {t₀ = t₀} long lent q =
      let names : List ℕ = names_in dir l.relations in
      let few : (j : ℕ) → get_or names j 0 < length marks = λ j. omega (arith, its-low d j) in
      let same : (f : ℕ → ℕ) (n : ℕ) → f (get_or acts n 0) ≡ f (get_or (acts_from ws (starts_in dir) (slots_in dir) names marks) n 0) = λ f n. ap (λ (u : List ℕ). f (get_or u n 0)) q.tells in
      record {
        noted = d.noted;
        counts = m.counts;
        says =
            record {
              parts = λ p h n. same act_part n ∙ part_is (slots_in dir) d.noted d.slotted m low few p h n;
              lists = λ p h n i. same act_list n ∙ list-is (slots_in dir) d.noted d.slotted m low few p h n i;
            };
        knows = λ p h. entity-known (slots_in dir) d.noted d.slotted m low p h (subst (λ (n : ℕ). ClearTable n t₀) (d.named p h) lent) q.takes;
      }
