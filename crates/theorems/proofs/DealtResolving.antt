-- Order never matters: a pack and one dealt out of it resolve alike. Both come out, as packs that are dealt out of each other, or both are refused in one class.
use Prim.Native.Nat.{ℕ}
use native.Mathlib.Omega.{arith}
use mathlib.Core.Path.{◌≡◌, refl, ap, sym, ◌∙◌, subst, fun_ext}
use mathlib.Core.List.{List, map}
use mathlib.Core.Bool.{Bool, ◌||◌, ◌&&◌}
use mathlib.Core.Option
use mathlib.Core.Option.{Option, none, some}
use Rattle.definitions.specs.declared.answer.Refusal.{Refusal}
use Rattle.definitions.specs.Table.{pick}
use Rattle.definitions.specs.Records.{Derivation, Relation, Rule, Pack}
use Rattle.definitions.specs.Pack.{WellFormed}
use Rattle.definitions.specs.Dealt.{InAnyOrder, Dealt}
use Rattle.definitions.specs.Chain.{Distinct}
use Rattle.definitions.specs.Kinds.{find, declared, kinds_of}
use Rattle.definitions.specs.Lean.{any}
use Rattle.definitions.specs.Places.{first_relation}
use Rattle.chains.proofs.Names.{shuffled_any, shuffled_map}
use Rattle.chains.proofs.KindLaws.{kinds_dealt, distinct_names}
use Rattle.filtered.proofs.FilteredLaws.{filtered_dealt}
use Rattle.definitions.specs.Tables.{derived_at, typed_at, Tables, tables}
use Rattle.definitions.specs.Answers.{Outcome, done, refused, and_then, map_done, result}
use Rattle.definitions.specs.ResolvingTrees.{Citing, InRange}
use Rattle.definitions.specs.Resolving.{cites, defaulted_equal, equal_refusal, rule_by, resolve_rule, resolve_rules, predicate_by, with_predicate, resolve_derivation, resolve_relation, resolve_relations, holds, role_judgment, atom_of, in_derivation, in_rule, atom_names, is_empty, stamp_by, stamp_derived, stamp, first_rule, resolve_records, resolved}
use Rattle.theorems.proofs.OutcomeLaws.{result-map, all_done, Alike, all_dealt}
use Rattle.theorems.proofs.PlaceFree.{rules-each, relations-each}
use Rattle.directions.proofs.Numbers.{Numbered, rules_numbered, relations_numbered}
use Rattle.theorems.proofs.InputsDealt.{input_dealt}

tables_dealt : {rs rs' : List Relation} → InAnyOrder rs rs' → Distinct (declared rs) → tables rs ≡ tables rs'
unfolding tables
tables_dealt {rs} {rs'} p u =
    let k = kinds_dealt p u in
    let T : Tables = tables rs in
    let U : Tables = tables rs' in
    let typed : T.typed ≡ U.typed = fun_ext (λ n. ap typed_at (k.finds n)) in
    let derived : T.derived ≡ U.derived = fun_ext (λ n. ap (λ o. derived_at o (find n rs)) (k.kinds n) ∙ ap (derived_at (kinds_of rs' n)) (k.finds n)) in
    let directs : T.direct ≡ U.direct = fun_ext (filtered_dealt p u).directs in
    λ i. record { typed = typed i; derived = derived i; direct = directs i }

-- what a pack and one dealt out of it resolve their trees by
module _ (p q : Pack) (w : WellFormed p) (d : Dealt p q) where
  distinct : Distinct (declared p.relations)
  distinct = distinct_names p w

  same_tables : tables p.relations ≡ tables q.relations
  same_tables = tables_dealt d.relations distinct

  same-cites : (n o : ℕ) → cites p n o ≡ cites q n o
  same-cites n o = let inputs : (cites p n o).input ≡ (cites q n o).input = fun_ext (λ owner. fun_ext (λ v. input_dealt d.blocks o owner v)) in λ i. record { tables = same_tables i; name = n; input = inputs i }

  pub same-kinds : (n : ℕ) → kinds_of p.relations n ≡ kinds_of q.relations n
  same-kinds = (kinds_dealt d.relations distinct).kinds

  pub rule_alike : (r : Rule) → result (resolve_rule p 0 r) ≡ result (resolve_rule q 0 r)
  rule_alike r = ap (λ (C : Citing). result (rule_by C 0 r)) (same-cites r.citing r.origin)

  derivation_alike : (r : Relation) (o : Option Derivation) → result (resolve_derivation p 0 r o) ≡ result (resolve_derivation q 0 r o)
  derivation_alike r none = refl
  derivation_alike r (some e) =
      ap (λ (C : Citing). result (map_done (λ t. some (with_predicate e t)) (predicate_by C (kinds_of p.relations r.name) 0 r e))) (same-cites r.name r.origin)
      ∙ ap (λ (ks : Option (List ℕ)). result (map_done (λ t. some (with_predicate e t)) (predicate_by (cites q r.name r.origin) ks 0 r e))) (same-kinds r.name)

  pub relation_alike : (r : Relation) → result (resolve_relation p 0 r) ≡ result (resolve_relation q 0 r)
  unfolding resolve_relation
  relation_alike r =
      result-map _ (resolve_derivation p 0 r r.derivation) ∙ ap (Option.map _) (derivation_alike r r.derivation) ∙ sym (result-map _ (resolve_derivation q 0 r r.derivation))

  -- ---- the lists

  rules_alike : (at at' : ℕ) → Alike (result (resolve_rules p at p.rules)) (result (resolve_rules q at' q.rules))
  rules_alike at at' =
      let f : Rule → Option Rule = λ r. result (resolve_rule p 0 r) in
      let e : result (resolve_rules q at' q.rules) ≡ all_done f q.rules = rules-each q at' q.rules ∙ ap (λ g. all_done g q.rules) (fun_ext (λ (r : Rule). sym (rule_alike r))) in
      subst (λ o. Alike o (result (resolve_rules q at' q.rules))) (sym (rules-each p at p.rules)) (subst (λ o. Alike (all_done f p.rules) o) (sym e) (all_dealt f d.rules))

  relations_alike : (at at' : ℕ) → Alike (result (resolve_relations p at p.relations)) (result (resolve_relations q at' q.relations))
  relations_alike at at' =
      let f : Relation → Option Relation = λ r. result (resolve_relation p 0 r) in
      let e : result (resolve_relations q at' q.relations) ≡ all_done f q.relations =
      relations-each q at' q.relations ∙ ap (λ g. all_done g q.relations) (fun_ext (λ (r : Relation). sym (relation_alike r))) in
      subst (λ o. Alike o (result (resolve_relations q at' q.relations))) (sym (relations-each p at p.relations)) (subst (λ o. Alike (all_done f p.relations) o) (sym e) (all_dealt f d.relations))

  -- ---- stamping

  atoms_alike : (n : ℕ) → atom_names p n ≡ atom_names q n
  unfolding atom_names
  atoms_alike n =
      ap (λ (b : Bool). b || any (λ (r : Relation). in_derivation (atom_of n) r.derivation) p.relations) (shuffled_any (in_rule (atom_of n)) d.rules)
      ∙ ap (λ (b : Bool). any (in_rule (atom_of n)) q.rules || b) (shuffled_any (λ (r : Relation). in_derivation (atom_of n) r.derivation) d.relations)

  stamp-derived : (r : Relation) (o : Option Derivation) → stamp_derived p r o ≡ stamp_derived q r o
  stamp-derived r none = refl
  stamp-derived r (some e) =
      ap (λ (b : Bool). pick ((is_empty r.slot_kinds && is_empty e.slot_entities) && (b || holds role_judgment e.predicate)) r (stamp_by (kinds_of p.relations r.name) r e)) (atoms_alike r.name)
      ∙ ap (λ (ks : Option (List ℕ)). pick ((is_empty r.slot_kinds && is_empty e.slot_entities) && (atom_names q r.name || holds role_judgment e.predicate)) r (stamp_by ks r e)) (same-kinds r.name)

  pub stamp_alike : (r : Relation) → stamp p r ≡ stamp q r
  unfolding stamp
  stamp_alike r = stamp-derived r r.derivation

-- ---- the whole

-- two outcomes of resolving: both come out, as packs dealt out of each other; both are refused by 9 with the same name; or each by one of 10 to 15
pub data ResolvedAlike : Outcome Pack → Outcome Pack → Type 0 where
  both_done : {p q : Pack} → Dealt p q → ResolvedAlike (done p) (done q)
  both_equal : {r s : Refusal} → r.number ≡ 9 → s.number ≡ 9 → r.name ≡ s.name → ResolvedAlike (refused r) (refused s)
  both_refused : {r s : Refusal} → InRange r.number → InRange s.number → ResolvedAlike (refused r) (refused s)

module _ (p q : Pack) (w : WellFormed p) (d : Dealt p q) where
  abbrev whole : Pack → List Rule → List Relation → Pack
  whole s rules relations = record { edition = s.edition; names = s.names; defaulted = s.defaulted; relations = map (stamp s) relations; rules = rules; blocks = s.blocks }

  abbrev finish : Pack → Outcome (List Rule) → Outcome (List Relation) → Outcome Pack
  finish s o e = and_then o (λ rules. map_done (whole s rules) e)

  done_alike : (ru ru' : List Rule) (re re' : List Relation) → InAnyOrder ru ru' → InAnyOrder re re' → Dealt (whole p ru re) (whole q ru' re')
  done_alike ru ru' re re' a b =
      record {
        edition = d.edition;
        names = d.names;
        defaulted = d.defaulted;
        relations = subst (λ f. InAnyOrder (map (stamp p) re) (map f re')) (fun_ext (stamp_alike p q w d)) (shuffled_map (stamp p) b);
        rules = a;
        blocks = d.blocks;
      }

  records_alike : (o o' : Outcome (List Rule)) (e e' : Outcome (List Relation)) → Alike (result o) (result o') → Alike (result e) (result e')
      → Numbered o → Numbered o' → Numbered e → Numbered e' → ResolvedAlike (finish p o e) (finish q o' e')
  records_alike (done a) (done b) (done x) (done y) h k m n s t = both_done (done_alike a b x y h k)
  records_alike (done a) (done b) (done x) (refused y) h k m n s t = absurd k
  records_alike (done a) (done b) (refused x) (done y) h k m n s t = absurd k
  records_alike (done a) (done b) (refused x) (refused y) h k m n s t = both_refused s t
  records_alike (done a) (refused b) e e' h k m n s t = absurd h
  records_alike (refused a) (done b) e e' h k m n s t = absurd h
  records_alike (refused a) (refused b) e e' h k m n s t = both_refused m n

  pub resolve_dealt : ResolvedAlike (resolved p) (resolved q)
  unfolding resolved
  resolve_dealt = go (defaulted_equal (tables p.relations) p.defaulted) (defaulted_equal (tables q.relations) q.defaulted) same
    where
      same : defaulted_equal (tables p.relations) p.defaulted ≡ defaulted_equal (tables q.relations) q.defaulted
      same = ap (λ (T : Tables). defaulted_equal T p.defaulted) (same_tables p q w d) ∙ ap (defaulted_equal (tables q.relations)) d.defaulted

      go : (x y : Option ℕ) → x ≡ y
          → ResolvedAlike (elim x [ some n ↦ refused (equal_refusal p n) | none ↦ resolve_records p ]) (elim y [ some n ↦ refused (equal_refusal q n) | none ↦ resolve_records q ])
      go none none e =
          records_alike (resolve_rules p (first_rule p) p.rules) (resolve_rules q (first_rule q) q.rules) (resolve_relations p (first_relation p) p.relations)
          (resolve_relations q (first_relation q) q.relations)
          (rules_alike p q w d (first_rule p) (first_rule q))
          (relations_alike p q w d (first_relation p) (first_relation q))
          (rules_numbered p (first_rule p) p.rules)
          (rules_numbered q (first_rule q) q.rules)
          (relations_numbered p (first_relation p) p.relations)
          (relations_numbered q (first_relation q) q.relations)
      go none (some m) e = let z : ◌≡◌ {A = ℕ} 0 1 = cc in absurd (omega arith)
      go (some n) none e = let z : ◌≡◌ {A = ℕ} 0 1 = cc in absurd (omega arith)
      go (some n) (some m) e = let q : n ≡ m = cc in both_equal refl refl q
