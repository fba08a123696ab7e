-- A resolved pack keeps to the description, so that it reads back.
use Prim.Native.Nat.{ℕ, suc, ◌+◌, ◌<◌, ◌≤◌}
use native.Mathlib.Omega.{arith}
use mathlib.Core.Path.{◌≡◌, refl, ap, sym, ◌∙◌, subst}
use mathlib.Core.List.{List, [], ◌∷◌, map}
use mathlib.Core.Bool.{Bool, true, false, ◌&&◌}
use mathlib.Core.Option.{Option, none, some}
use lib.ListN.{length}
use Rattle.definitions.specs.Table.{pick, judgment, table, entry_of}
use Rattle.definitions.specs.Form.{among, allowed_here, FineAll, says, count, items, Fine}
use Rattle.definitions.specs.Tree.{root, tree}
use Rattle.definitions.specs.Records.{Derivation, Relation, Body, Rule, Pack}
use Rattle.definitions.specs.Pack.{WellFormed, name_list, chain, member, derivation, optional_derivation, relation_tail, new_name, relation, body, bodies, rule}
use Rattle.definitions.specs.Kinds.{find, kinds_of, own_answer, names_of, list_in, Which, list9, list21}
use Rattle.definitions.specs.Filtered.{kind_at}
use Rattle.definitions.specs.Places.{relation_words}
use Rattle.chains.proofs.RelationForm.{RelationsFine}
use Rattle.chains.proofs.PackParts.{parts, find_kept}
use Rattle.definitions.specs.Tables.{Derived, derived_by, derived_at, pair, typed_by, typed_at, tables}
use Rattle.definitions.specs.ResolvingTrees.{Citing, resolve_tree}
use Rattle.definitions.specs.Resolving.{cites, resolve_body, resolve_bodies, body_size, rule_by, resolve_rule, rule_words, resolve_rules, predicate_place, with_predicate, predicate_by, resolve_predicate, resolve_derivation, resolve_relation, resolve_relations, is_empty, passed_over, unlike, or_kinds, with_entities, stamped_with, stamp_by, stamp_derived, stamp}
use Rattle.directions.proofs.KeepsForm.{Good, good_imp, map_good, then_good, TablesFit, tree_good}
use Rattle.definitions.specs.Kinds as kinds

-- ---- the tables of a checked pack

derivation-slots : (n : ℕ) (d : Derivation) → Fine (derivation n) d → (d.current < 16777216) × (d.related < 16777216)
unfolding derivation chain Fine
derivation-slots n d f = (f.0.1.1.0.0, f.0.1.1.1.0)

option-slots : (n : ℕ) (o : Option Derivation) → Fine (optional_derivation n) o → (d : Derivation) → o ≡ some d → (d.current < 16777216) × (d.related < 16777216)
unfolding optional_derivation Fine items
option-slots n none f d e = let z : ◌≡◌ {A = ℕ} 0 1 = cc in absurd (omega arith)
option-slots n (some b) f d e = let s : b ≡ d = cc in rw (← s) (derivation-slots n b f.2.0)

pub tail_derivation : (n : ℕ) (r : Relation) → Fine (relation_tail n) (r.origin, (r.arity, (r.slot_kinds, r.derivation))) → Fine (optional_derivation n) r.derivation
unfolding relation_tail Fine
tail_derivation n r f = f.1.1.1

pair-short : (ks js : List ℕ) → pair ks ≡ some js → length js ≤ 8
pair-short [] js e = let z : ◌≡◌ {A = ℕ} 0 1 = cc in absurd (omega arith)
pair-short (a ∷ []) js e = let z : ◌≡◌ {A = ℕ} 0 1 = cc in absurd (omega arith)
pair-short (a ∷ b ∷ []) js e = let q : a ∷ b ∷ [] ≡ js = cc in rw (← q) (omega arith)
pair-short (a ∷ b ∷ c ∷ ks) js e = let z : ◌≡◌ {A = ℕ} 0 1 = cc in absurd (omega arith)

module _ (p : Pack) (w : WellFormed p) where
  abbrev rs : List Relation
  rs = p.relations

  abbrev n : ℕ
  n = p.names

  derived_fit : (m : ℕ) (o : Option Relation) → find m rs ≡ o → (k : Option (List ℕ)) (d : Derived) → derived_at k o ≡ some d → (d.current < 16777216) × (d.related < 16777216)
  derived_fit m none q k d e = let z : ◌≡◌ {A = ℕ} 0 1 = cc in absurd (omega arith)
  derived_fit m (some r) q k d e = go r.derivation refl e
    where
      fine : Fine (optional_derivation n) r.derivation
      fine = tail_derivation n r (find_kept n m [] rs r (parts p w).relations-fine q).1.tail

      go : (o : Option Derivation) → r.derivation ≡ o → derived_by k o ≡ some d → (d.current < 16777216) × (d.related < 16777216)
      go none g e = let z : ◌≡◌ {A = ℕ} 0 1 = cc in absurd (omega arith)
      go (some b) g e =
          let s : record { current = b.current; related = b.related; kinds = k } ≡ d = cc in
          rw (← s) (option-slots n r.derivation fine b g)

  typed_fit : (o : Option Relation) (ks : List ℕ) → typed_at o ≡ some ks → length ks ≤ 8
  typed_fit none ks e = let z : ◌≡◌ {A = ℕ} 0 1 = cc in absurd (omega arith)
  typed_fit (some r) ks e = go r.derivation e
    where
      go : (o : Option Derivation) → typed_by r.slot_kinds o ≡ some ks → length ks ≤ 8
      go none e = pair-short r.slot_kinds ks e
      go (some d) e = let z : ◌≡◌ {A = ℕ} 0 1 = cc in absurd (omega arith)

  pub tables_fit : TablesFit (tables rs)
  unfolding tables
  tables_fit = record { slots = λ m d e. derived_fit m (find m rs) refl (kinds_of rs m) d e; few = λ m ks e. typed_fit (find m rs) ks e }

  -- ---- rules

  abbrev BodiesFine : List Body → Type 0
  BodiesFine bs = FineAll {S = Unit {0}} (λ u b. u) (λ u b. Fine (body n) b) tt bs

  body_good : (C : Citing) → TablesFit C.tables → (entity at : ℕ) (b : Body) → Fine (body n) b → Good (Fine (body n)) (resolve_body C entity at b)
  unfolding body root Fine
  body_good C fit entity at b h =
      map_good (Fine (tree n 32 b.sort)) _ _ (resolve_tree C entity none (at + 1) b.tree) (tree_good C fit n b.tree 32 b.sort entity none (at + 1) h.1) (λ t q. (h.0, q))

  bodies_good : (C : Citing) → TablesFit C.tables → (entity at : ℕ) (bs : List Body) → BodiesFine bs → Good (λ l. BodiesFine l × (length l ≡ length bs)) (resolve_bodies C entity at bs)
  unfolding resolve_bodies
  bodies_good C fit entity at [] h = (tt, refl)
  bodies_good C fit entity at (b ∷ bs) h =
      then_good (Fine (body n)) _ (resolve_body C entity at b) _ (body_good C fit entity at b h.0)
      (λ b' q. map_good (λ l. BodiesFine l × (length l ≡ length bs)) _ (λ l. b' ∷ l) (resolve_bodies C entity (at + body_size b) bs) (bodies_good C fit entity (at + body_size b) bs h.1)
      (λ l g. ((q, g.0), ap suc g.1)))

  pub rule_good : (at : ℕ) (r : Rule) → Fine (rule n) r → Good (Fine (rule n)) (resolve_rule p at r)
  unfolding rule bodies rule_by Fine
  rule_good at r h =
      let C : Citing = cites p r.citing r.origin in
      then_good (Fine (body n)) _ (resolve_body C r.entity (at + 4) r.semantics) _ (body_good C tables_fit r.entity (at + 4) r.semantics h.1.1.1.1)
      (λ b q. map_good (λ l. BodiesFine l × (length l ≡ length r.versions)) _ _ (resolve_bodies C r.entity (at + 4 + body_size r.semantics) r.versions)
      (bodies_good C tables_fit r.entity (at + 4 + body_size r.semantics) r.versions h.1.1.1.2)
      (λ l g. (h.0, (h.1.0, (h.1.1.0, (rw g.1 h.1.1.1.0, q, g.0))))))

  abbrev pub RulesFine : List Rule → Type 0
  RulesFine l = FineAll {S = Unit {0}} (λ u r. u) (λ u r. Fine (rule n) r) tt l

  pub rules_good : (at : ℕ) (l : List Rule) → RulesFine l → Good (λ m. RulesFine m × (length m ≡ length l)) (resolve_rules p at l)
  unfolding resolve_rules
  rules_good at [] h = (tt, refl)
  rules_good at (r ∷ l) h =
      then_good (Fine (rule n)) _ (resolve_rule p at r) _ (rule_good at r h.0)
      (λ r' q. map_good (λ m. RulesFine m × (length m ≡ length l)) _ (λ m. r' ∷ m) (resolve_rules p (at + length (rule_words n r)) l) (rules_good (at + length (rule_words n r)) l h.1)
      (λ m g. ((q, g.0), ap suc g.1)))

  -- ---- relations

  abbrev pub TailFine : Relation → Type 0
  TailFine r = Fine (relation_tail n) (r.origin, (r.arity, (r.slot_kinds, r.derivation)))

  predicate_good : (at : ℕ) (r : Relation) (d : Derivation) → Fine (derivation n) d → Good (λ t. Fine (derivation n) (with_predicate d t)) (resolve_predicate p at r d)
  unfolding predicate_by derivation member root Fine
  predicate_good at r d h =
      let C : Citing = cites p r.name r.origin in
      good_imp (Fine (tree n 32 judgment)) _ (resolve_tree C _ _ (at + predicate_place r d) d.predicate) (tree_good C tables_fit n d.predicate 32 judgment _ _ (at + predicate_place r d) h.1.1.1.1) (λ t q. (h.0, (h.1.0, (h.1.1.0, (h.1.1.1.0, q)))))

  derivation_good : (at : ℕ) (r : Relation) (o : Option Derivation) → Fine (optional_derivation n) o → Good (Fine (optional_derivation n)) (resolve_derivation p at r o)
  unfolding optional_derivation Fine items count
  derivation_good at r none h = h
  derivation_good at r (some d) h = map_good (λ t. Fine (derivation n) (with_predicate d t)) _ _ (resolve_predicate p at r d) (predicate_good at r d h.2.0) (λ t q. (h.0, h.1, (q, tt)))

  -- a relation of the same name whose tail keeps to its form
  abbrev pub Same : Relation → Relation → Type 0
  Same r s = (s.name ≡ r.name) × TailFine s

  pub relation_good : (at : ℕ) (r : Relation) → TailFine r → Good (Same r) (resolve_relation p at r)
  unfolding resolve_relation relation_tail Fine
  relation_good at r h = map_good (Fine (optional_derivation n)) _ _ (resolve_derivation p at r r.derivation) (derivation_good at r r.derivation h.1.1.1) (λ o q. (refl, (h.0, (h.1.0, (h.1.1.0, q)))))

  -- ---- stamping

  -- lists 9 and 21 take the same
  lists_alike : (ks : List ℕ) → (Fine (name_list n 9) ks → Fine (name_list n 21) ks) × (Fine (name_list n 21) ks → Fine (name_list n 9) ks)
  unfolding name_list Fine allowed_here entry_of table
  lists_alike ks = (λ h. h, λ h. h)

  no_names : Fine (name_list n 9) []
  unfolding name_list Fine allowed_here entry_of table count says items
  no_names = ((omega arith, refl), refl, tt)

  entities-fine : (o : Option Derivation) → Fine (optional_derivation n) o → Fine (name_list n 9) (elim o [ none ↦ [] | some d ↦ d.slot_entities ])
  unfolding optional_derivation derivation member Fine items
  entities-fine none h = no_names
  entities-fine (some d) h = (lists_alike d.slot_entities).1 h.2.0.1.1.1.0

  list-fine : (m : ℕ) (o : Option Relation) → find m rs ≡ o → (c : Which) → Fine (name_list n 9) (list_in o c)
  unfolding relation_tail Fine
  list-fine m none q c = no_names
  list-fine m (some r) q list9 = (find_kept n m [] rs r (parts p w).relations-fine q).1.tail.1.1.0
  list-fine m (some r) q list21 = entities-fine r.derivation (find_kept n m [] rs r (parts p w).relations-fine q).1.tail.1.1.1

  answer-fine : (a : kinds.KindsFound) (ks : List ℕ) → names_of rs a ≡ some ks → Fine (name_list n 9) ks
  answer-fine none ks e = let z : ◌≡◌ {A = ℕ} 0 1 = cc in absurd (omega arith)
  answer-fine (some s) ks e =
      let q : list_in (find s.owner rs) s.which ≡ ks = cc in
      subst (λ (l : List ℕ). Fine (name_list n 9) l) q (list-fine s.owner (find s.owner rs) refl s.which)

  kinds-fine : (m : ℕ) (ks : List ℕ) → kinds_of rs m ≡ some ks → Fine (name_list n 9) ks
  unfolding kinds_of
  kinds-fine m ks e = answer-fine (own_answer rs m) ks e

  or_fine : (js ks : List ℕ) → Fine (name_list n 9) js → Fine (name_list n 9) ks → Fine (name_list n 9) (or_kinds js ks)
  or_fine [] ks h k = k
  or_fine (j ∷ js) ks h k = h

  entities-set : (d : Derivation) (ks : List ℕ) → Fine (derivation n) d → Fine (name_list n 9) ks → Fine (derivation n) (with_entities d ks)
  unfolding derivation member Fine
  entities-set d ks h k = (h.0, (h.1.0, (h.1.1.0, ((lists_alike ks).0 k, h.1.1.1.1))))

  option-set : (d : Derivation) (ks : List ℕ) → Fine (optional_derivation n) (some d) → Fine (name_list n 9) ks → Fine (optional_derivation n) (some (with_entities d ks))
  unfolding optional_derivation Fine items count
  option-set d ks h k = (h.0, h.1, (entities-set d ks h.2.0 k, tt))

  stamped-fine : (r : Relation) (d : Derivation) (ks : List ℕ) → TailFine r → Fine (optional_derivation n) (some d) → Fine (name_list n 9) ks → TailFine (stamped_with r d ks)
  unfolding relation_tail Fine
  stamped-fine r d ks h o k = (h.0, (h.1.0, (or_fine r.slot_kinds ks h.1.1.0 k, option-set d ks o k)))

  stamp-by : (r : Relation) (d : Derivation) (o : Option (List ℕ)) → kinds_of rs r.name ≡ o → TailFine r → Fine (optional_derivation n) (some d) → Same r (stamp_by o r d)
  stamp-by r d none q h e = (refl, h)
  stamp-by r d (some ks) q h e = go (is_empty d.slot_entities && unlike (kind_at (some ks) d.current) (kind_at (some ks) d.related))
    where
      go : (b : Bool) → Same r (pick b (stamped_with r d ks) r)
      go true = (refl, stamped-fine r d ks h e (kinds-fine r.name ks q))
      go false = (refl, h)

  stamp-fine : (r : Relation) → TailFine r → Same r (stamp p r)
  unfolding stamp
  stamp-fine r h = go r.derivation (tail_derivation n r h)
    where
      go : (o : Option Derivation) → Fine (optional_derivation n) o → Same r (stamp_derived p r o)
      go none e = (refl, h)
      go (some d) e = over (passed_over p r d)
        where
          over : (b : Bool) → Same r (pick b r (stamp_by (kinds_of rs r.name) r d))
          over true = (refl, h)
          over false = stamp-by r d (kinds_of rs r.name) refl h e

  -- ---- all relations

  pub tail_of : (used : ℕ → Bool) (r : Relation) → Fine (relation n used) r → TailFine r
  unfolding relation Fine
  tail_of used r h = h.1

  pub with_tail : (used : ℕ → Bool) (r s : Relation) → Fine (relation n used) r → Same r s → Fine (relation n used) s
  unfolding relation Fine
  with_tail used r s h q = (subst (λ (v : ℕ). Fine (new_name n used) v) (sym q.0) h.0, q.1)

  pub relations_good : (at : ℕ) (l : List Relation) (used : List ℕ) → RelationsFine n used l → Good (λ m. RelationsFine n used (map (stamp p) m) × (length m ≡ length l)) (resolve_relations p at l)
  unfolding resolve_relations
  relations_good at [] used h = (tt, refl)
  relations_good at (r ∷ l) used h =
      then_good (Same r) _ (resolve_relation p at r) _ (relation_good at r (tail_of (λ v. among v used) r h.0))
      (λ r' q. map_good (λ m. RelationsFine n (r.name ∷ used) (map (stamp p) m) × (length m ≡ length l)) _ (λ m. r' ∷ m) (resolve_relations p (at + length (relation_words n r)) l)
      (relations_good (at + length (relation_words n r)) l (r.name ∷ used) h.1)
      (λ m g.
      (let s = stamp-fine r' q.1 in
      let e : (stamp p r').name ≡ r.name = s.0 ∙ q.0 in
      ((with_tail (λ v. among v used) r (stamp p r') h.0 (e, s.1), subst (λ (v : ℕ). RelationsFine n (v ∷ used) (map (stamp p) m)) (sym e) g.0), ap suc g.1))))
