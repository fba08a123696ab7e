-- What comes out of a pack that resolves, record by record: it is one pack, and of a pack dealt out again the same records come out.
use Prim.Native.Nat.{ℕ}
use native.Mathlib.Omega.{arith}
use mathlib.Core.Path.{◌≡◌, refl, ap, sym, ◌∙◌, subst}
use mathlib.Core.List.{List, [], ◌∷◌, map}
use mathlib.Core.Option
use mathlib.Core.Option.{Option, none, some}
use Rattle.definitions.specs.Records.{Relation, Rule, Block, Pack}
use Rattle.definitions.specs.Pack.{WellFormed}
use Rattle.definitions.specs.Dealt.{Shuffled, nil, cons, swap, trans, InAnyOrder, SameBlock, Dealt}
use Rattle.definitions.specs.Places.{first_relation}
use Rattle.definitions.specs.Tables.{tables}
use Rattle.definitions.specs.Answers.{Outcome, done, refused, and_then, map_done, result}
use Rattle.definitions.specs.Resolving.{defaulted_equal, equal_refusal, resolve_rules, resolve_relation, resolve_relations, stamp, first_rule, resolve_records, resolved}
use Rattle.theorems.specs.Demand3.{relation_out, rule_out, Each, ComesOut, beside, SameBlocks, SameOut}
use Rattle.theorems.specs.Demand3 as demand
use Rattle.theorems.proofs.OutcomeLaws.{bound, all_done, Alike, all_dealt}
use Rattle.theorems.proofs.PlaceFree.{rules-each, relations-each}
use Rattle.theorems.proofs.DealtResolving.{relation_alike, rule_alike, stamp_alike}

-- ---- each of a list

all-each : {A B : Type 0} (f : A → Option B) (l : List A) (m : List B) → all_done f l ≡ some m → Each f l m
unfolding all_done
all-each f [] m e = let q : [] ≡ m = cc in subst (λ x. Each f [] x) q demand.nil
all-each f (a ∷ l) m e = go (f a) refl (all_done f l) refl (all-each f l) e
  where
    go : (o : Option _) → f a ≡ o → (r : Option (List _)) → all_done f l ≡ r → ((n : List _) → all_done f l ≡ some n → Each f l n) → bound o (λ b. Option.map (λ k. b ∷ k) r) ≡ some m → Each f (a ∷ l) m
    go none h r k ih e = let z : ◌≡◌ {A = ℕ} 0 1 = cc in absurd (omega arith)
    go (some b) h none k ih e = let z : ◌≡◌ {A = ℕ} 0 1 = cc in absurd (omega arith)
    go (some b) h (some n) k ih e = let q : b ∷ n ≡ m = cc in subst (λ x. Each f (a ∷ l) x) q (demand.cons h (ih n k))

each_map : {A B C : Type 0} (f : A → Option B) (g : B → C) {l : List A} {m : List B} → Each f l m → Each (λ a. Option.map g (f a)) l (map g m)
each_map f g demand.nil = demand.nil
each_map f g (demand.cons e h) = demand.cons (ap (Option.map g) e) (each_map f g h)

-- no two lists come out
each_one : {A B : Type 0} {f : A → Option B} {l : List A} {m n : List B} → Each f l m → Each f l n → m ≡ n
each_one demand.nil demand.nil = refl
each_one (demand.cons e h) (demand.cons d k) = cc (each_one h k)

-- ---- a pack

pub comes-out : (p r : Pack) → resolved p ≡ done r → ComesOut p r
unfolding resolved
comes-out p r e = go (defaulted_equal (tables p.relations) p.defaulted) e
  where
    whole : List Rule → List Relation → Pack
    whole rl rs = record { edition = p.edition; names = p.names; defaulted = p.defaulted; relations = map (stamp p) rs; rules = rl; blocks = p.blocks }

    records-out : (o : Outcome (List Rule)) → resolve_rules p (first_rule p) p.rules ≡ o → (e : Outcome (List Relation)) → resolve_relations p (first_relation p) p.relations ≡ e
        → and_then o (λ rl. map_done (whole rl) e) ≡ done r → ComesOut p r
    records-out (done rl) h (done rs) k e =
        let q : whole rl rs ≡ r = cc in
        let a : all_done (rule_out p) p.rules ≡ some rl = sym (rules-each p (first_rule p) p.rules) ∙ ap result h in
        let b : all_done (λ s. result (resolve_relation p 0 s)) p.relations ≡ some rs = sym (relations-each p (first_relation p) p.relations) ∙ ap result k in
        subst (ComesOut p) q
        (record {
          edition = refl;
          names = refl;
          defaulted = refl;
          relations = each_map (λ s. result (resolve_relation p 0 s)) (stamp p) (all-each (λ s. result (resolve_relation p 0 s)) p.relations rs b);
          rules = all-each (rule_out p) p.rules rl a;
          blocks = refl;
        })
    records-out (done rl) h (refused x) k e = let z : ◌≡◌ {A = ℕ} 0 1 = cc in absurd (omega arith)
    records-out (refused x) h o k e = let z : ◌≡◌ {A = ℕ} 0 1 = cc in absurd (omega arith)

    go : (o : Option ℕ) → elim o [ some n ↦ refused (equal_refusal p n) | none ↦ resolve_records p ] ≡ done r → ComesOut p r
    go (some n) e = let z : ◌≡◌ {A = ℕ} 0 1 = cc in absurd (omega arith)
    go none e = records-out (resolve_rules p (first_rule p) p.rules) refl (resolve_relations p (first_relation p) p.relations) refl e

-- no two packs come out
pub comes_one : (p r s : Pack) → ComesOut p r → ComesOut p s → r ≡ s
comes_one p r s a b =
    let edition : r.edition ≡ s.edition = cc in
    let names : r.names ≡ s.names = cc in
    let defaulted : r.defaulted ≡ s.defaulted = cc in
    let relations : r.relations ≡ s.relations = each_one a.relations b.relations in
    let rules : r.rules ≡ s.rules = each_one a.rules b.rules in
    let blocks : r.blocks ≡ s.blocks = cc in
    λ i. record { edition = edition i; names = names i; defaulted = defaulted i; relations = relations i; rules = rules i; blocks = blocks i }

-- ---- dealt out again

-- a record beside what comes out of it
abbrev paired : {A : Type 0} → (A → Option A) → A → Option (A × A)
paired out a = Option.map (λ b. (a, b)) (out a)

each-beside : {A : Type 0} {out : A → Option A} {l m : List A} → Each out l m → all_done (paired out) l ≡ some (beside l m)
unfolding all_done
each-beside demand.nil = refl
each-beside (demand.cons e h) = rw (e, each-beside h) refl

beside_dealt : {A : Type 0} (out : A → Option A) {l l' m m' : List A} → InAnyOrder l l' → Each out l m → Each out l' m' → InAnyOrder (beside l m) (beside l' m')
beside_dealt out {l} {l'} {m} {m'} p h k =
    subst (λ o. Alike o (some (beside l' m'))) (each-beside h) (subst (λ o. Alike (all_done (paired out) l) o) (each-beside k) (all_dealt (paired out) p))

blocks-beside : {l m : List Block} → Shuffled SameBlock l m → Shuffled SameBlocks (beside l l) (beside m m)
blocks-beside nil = nil
blocks-beside (cons e p) = cons (record { goes_in = e; comes-out = e }) (blocks-beside p)
blocks-beside swap = swap
blocks-beside (trans p q) = trans (blocks-beside p) (blocks-beside q)

-- what comes out is said in both packs by one function
each_as : {A B : Type 0} {f g : A → Option B} → ((a : A) → g a ≡ f a) → {l : List A} {m : List B} → Each g l m → Each f l m
each_as h demand.nil = demand.nil
each_as h (demand.cons {a = a} e k) = demand.cons (sym (h a) ∙ e) (each_as h k)

module _ (p q : Pack) (w : WellFormed p) (d : Dealt p q) where
  same_relation : (r : Relation) → relation_out q r ≡ relation_out p r
  same_relation r = sym (ap (Option.map (stamp p)) (relation_alike p q w d r) ∙ stamped (result (resolve_relation q 0 r)))
    where
      stamped : (o : Option Relation) → Option.map (stamp p) o ≡ Option.map (stamp q) o
      stamped none = refl
      stamped (some s) = ap some (stamp_alike p q w d s)

  pub same_out : (r s : Pack) → ComesOut p r → ComesOut q s → SameOut p q r s
  same_out r s a b =
      record {
        relations = beside_dealt (relation_out p) d.relations a.relations (each_as same_relation b.relations);
        rules = beside_dealt (rule_out p) d.rules a.rules (each_as (λ x. sym (rule_alike p q w d x)) b.rules);
        blocks = subst (λ x. Shuffled SameBlocks (beside p.blocks x) (beside q.blocks s.blocks)) (sym a.blocks) (subst (λ x. Shuffled SameBlocks (beside p.blocks p.blocks) (beside q.blocks x)) (sym b.blocks) (blocks-beside d.blocks));
      }
