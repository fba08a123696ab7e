-- The laws of the chain walk, cited for the kinds of relations.
use Prim.Native.Nat.{ℕ, ◌+◌}
use native.Mathlib.Omega.{arith}
use mathlib.Core.Path.{◌≡◌, refl, sym, ap, ◌∙◌, subst}
use mathlib.Core.List.{List, [], ◌∷◌, map}
use mathlib.Core.Bool.{Bool, true, false, ◌||◌}
use mathlib.Core.Option.{none, some}
use lib.ListN.{length, length-map}
use lib.Dec.{eqb}
use borrow.Author.Tests.{eqb-true, eq-eqb, not-true}
use Rattle.std.proofs.lemmas.Bool.{or_left, or_right}
use Rattle.definitions.specs.Table.{pick}
use Rattle.definitions.specs.Form.{among, items, Fine, FineAll}
use Rattle.definitions.specs.Records.{Relation, Pack}
use Rattle.definitions.specs.Pack.{WellFormed, new_name, relation, next_used, relations, records, inner}
use Rattle.definitions.specs.Dealt.{nil, cons, swap, trans, InAnyOrder}
use Rattle.definitions.specs.Chain.{next, Distinct, OnlyDeclaredLead, same}
use Rattle.definitions.specs.Kinds.{find, read_at, kind_step, declared, KindsFound, all_kinds, own_answer, undeclared_sources, list_in, names_of, kinds_of}
use Rattle.chains.proofs.Names.{apart, shuffled_map, shuffled_distinct}
use Rattle.definitions.specs.Places.{place_of, settled_of, all_kinds_words}
use Rattle.chains.proofs.ChainLaws.{settled-own, steps-sum, walks_shuffled}

-- only relations lead on
pub kind-leads : (rs : List Relation) → OnlyDeclaredLead (kind_step rs) (declared rs)
unfolding kind_step find
kind-leads [] n m e = let z : ◌≡◌ {A = ℕ} 0 1 = cc in absurd (omega arith)
kind-leads (r ∷ rs) n m e = go (eqb n r.name) e (kind-leads rs n m)
  where
    go : (b : Bool) → read_at (pick b (some r) (find n rs)) ≡ next m → (kind_step rs n ≡ next m → among n (declared rs) ≡ true) → (b || among n (declared rs)) ≡ true
    go true e rest = refl
    go false e rest = rest e

-- every relation is settled with the answer of its own walk, and so is whatever else is settled
pub record KindsOwn (rs : List Relation) : Type 0 where
  pub each : (n : ℕ) → among n (declared rs) ≡ true → (all_kinds rs).settled n ≡ some (own_answer rs n)
  pub in_order : map (λ (r : Relation). (all_kinds rs).settled r.name) rs ≡ map (λ (r : Relation). some (own_answer rs r.name)) rs
  pub whatever : (n : ℕ) (a : KindsFound) → (all_kinds rs).settled n ≡ some a → a ≡ own_answer rs n

-- what is alike for the names of all relations is alike in a row
pub in_row : {B : Type 0} (f g : ℕ → B) (rs : List Relation) → ((n : ℕ) → among n (declared rs) ≡ true → f n ≡ g n)
    → map (λ (r : Relation). f r.name) rs ≡ map (λ (r : Relation). g r.name) rs
in_row f g [] h = refl
in_row f g (r ∷ rs) h =
    cc (h r.name (or_left _ (among r.name (declared rs)) (eq-eqb r.name r.name refl)), in_row f g rs (λ n i. h n (or_right (eqb n r.name) _ i)))

pub kinds-own : (rs : List Relation) → KindsOwn rs
kinds-own rs =
    let s = settled-own none same refl (kind_step rs) (declared rs) (kind-leads rs) (declared rs) in
    record { each = s.each; in_order = in_row (all_kinds rs).settled (λ n. some (own_answer rs n)) rs s.each; whatever = s.whatever }

-- so All kinds writes the places of the own walks' lists
pub words-own : (p : Pack) → all_kinds_words p ≡ map (λ (r : Relation). place_of p (own_answer p.relations r.name)) p.relations
unfolding all_kinds_words
words-own p =
    let rs : List Relation = p.relations in
    in_row (λ n. place_of p (settled_of ((all_kinds rs).settled n))) (λ n. place_of p (own_answer rs n)) rs (λ n i. ap (λ o. place_of p (settled_of o)) ((kinds-own rs).each n i))

-- one for each relation
pub words_count : (p : Pack) → length (all_kinds_words p) ≡ length p.relations
unfolding all_kinds_words
words_count p = length-map p.relations _

-- "relations + distinct undeclared sources that inheriting relations name"
pub kinds-steps : (rs : List Relation) → Distinct (declared rs) → (all_kinds rs).steps ≡ length rs + length (undeclared_sources rs)
kinds-steps rs d =
    steps-sum none same refl (kind_step rs) (declared rs) (kind-leads rs) d
    ∙ ap (λ k. k + length (undeclared_sources rs)) (length-map rs (λ (r : Relation). r.name))

-- relations in any other order
pub record KindsAlike (rs rs' : List Relation) : Type 0 where
  pub finds : (n : ℕ) → find n rs ≡ find n rs'
  pub steps_at : (n : ℕ) → kind_step rs n ≡ kind_step rs' n
  pub own-answers : (n : ℕ) → own_answer rs n ≡ own_answer rs' n
  pub kinds : (n : ℕ) → kinds_of rs n ≡ kinds_of rs' n
  pub settled : (n : ℕ) → (all_kinds rs).settled n ≡ (all_kinds rs').settled n
  pub steps : (all_kinds rs).steps ≡ (all_kinds rs').steps

pub find_dealt : {rs rs' : List Relation} → InAnyOrder rs rs' → Distinct (declared rs) → (n : ℕ) → find n rs ≡ find n rs'
unfolding find
find_dealt nil d n = refl
find_dealt (cons {a = a} {b = b} {l = l} {m = m} e p) d n = cc (find_dealt p d.1 n)
find_dealt (swap {a = a} {b = b} {l = l}) d n = go (eqb n a.name) (eqb n b.name) refl refl
  where
    go : (s t : Bool) → eqb n a.name ≡ s → eqb n b.name ≡ t → pick s (some a) (pick t (some b) (find n l)) ≡ pick t (some b) (pick s (some a) (find n l))
    go true true e f = apart (or_left _ (among a.name (declared l)) (eq-eqb a.name b.name (sym (eqb-true n a.name e) ∙ eqb-true n b.name f))) d.0
    go true false e f = refl
    go false true e f = refl
    go false false e f = refl
find_dealt (trans p q) d n = find_dealt p d n ∙ find_dealt q (shuffled_distinct (shuffled_map (λ (r : Relation). r.name) p) d) n

pub kinds_dealt : {rs rs' : List Relation} → InAnyOrder rs rs' → Distinct (declared rs) → KindsAlike rs rs'
unfolding kinds_of kind_step
kinds_dealt {rs} {rs'} p d =
    let f = find_dealt p d in
    let q = shuffled_map (λ (r : Relation). r.name) p in
    let w = walks_shuffled none same refl (kind_step rs) (kind_step rs') (λ n. ap read_at (f n)) (declared rs) (declared rs') (kind-leads rs) q (declared rs) (declared rs') q in
    record {
      finds = f;
      steps_at = λ n. ap read_at (f n);
      own-answers = w.own_walks;
      kinds = λ n. names_alike f (own_answer rs n) ∙ ap (names_of rs') (w.own_walks n);
      settled = w.settled;
      steps = w.steps;
    }
  where
    names_alike : ((n : ℕ) → find n rs ≡ find n rs') → (a : KindsFound) → names_of rs a ≡ names_of rs' a
    names_alike f none = refl
    names_alike f (some s) = ap (λ o. some (list_in o s.which)) (f s.owner)

-- a relation's name is none of those used before it, nor of those after it
module _ (n : ℕ) where
  abbrev FineFrom : List ℕ → List Relation → Type 0
  FineFrom = FineAll next_used (λ used r. Fine (relation n (λ v. among v used)) r)

  used-before : (rs : List Relation) (used : List ℕ) → FineFrom used rs → (v : ℕ) → among v used ≡ true → among v (declared rs) ≡ false
  unfolding relation new_name Fine
  used-before [] used h v i = refl
  used-before (r ∷ rs) used h v i = go (eqb v r.name) refl (used-before rs (next_used used r) h.1 v (or_right (eqb v r.name) _ i))
    where
      go : (b : Bool) → eqb v r.name ≡ b → among v (declared rs) ≡ false → (b || among v (declared rs)) ≡ false
      go true e o = apart (subst (λ x. among x used ≡ true) (eqb-true v r.name e) i) (not-true (among r.name used) h.0.0.1)
      go false e o = o

  fine_distinct : (rs : List Relation) (used : List ℕ) → FineFrom used rs → Distinct (declared rs)
  fine_distinct [] used h = tt
  fine_distinct (r ∷ rs) used h =
      (used-before rs (next_used used r) h.1 r.name (or_left _ (among r.name used) (eq-eqb r.name r.name refl)), fine_distinct rs (next_used used r) h.1)

-- in a checked pack no two relations have one name
pub distinct_names : (p : Pack) → WellFormed p → Distinct (declared p.relations)
unfolding Fine items inner records relations
distinct_names p h = fine_distinct p.names p.relations [] h.parts.1.1.0.2
