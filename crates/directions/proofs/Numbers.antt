-- Refusals of trees, rules and predicates bear 10 to 15.
use Prim.Native.Nat.{ℕ, ◌+◌, ◌≤◌}
use native.Mathlib.Omega.{arith}
use mathlib.Core.Path.{◌≡◌, subst}
use mathlib.Core.List.{List, [], ◌∷◌}
use mathlib.Core.Bool.{Bool, true, false, ◌||◌, not}
use mathlib.Core.Option.{Option, none, some}
use lib.ListN.{length}
use lib.Dec.{eqb}
use Rattle.definitions.specs.declared.table.Follows.{Follows}
use Rattle.definitions.specs.declared.answer.Refusal.{Refusal}
use Rattle.definitions.specs.Table.{pick, entry_of}
use Rattle.definitions.specs.Tree.{Tree, Forest, node, more, Fields, size}
use Rattle.definitions.specs.Records.{Item, Block, Derivation, Relation, Body, Rule, Pack}
use Rattle.definitions.specs.Lean.{any}
use Rattle.definitions.specs.Places.{relation_words, first_relation}
use Rattle.definitions.specs.Direction.{Membership}
use Rattle.definitions.specs.Inputs.{of_origin, no_sequence, declarations, owned, input}
use Rattle.definitions.specs.Answers.{Outcome, done, refused, and_then, map_done}
use Rattle.definitions.specs.ResolvingTrees.{Citing, value_of_node, NodeStep, goes, stops, node_step, at_node, resolve_tree, resolve_forest, InRange}
use Rattle.definitions.specs.Tables.{tables}
use Rattle.definitions.specs.Resolving.{cites, predicate_place, with_predicate, resolve_body, resolve_bodies, body_size, rule_by, resolve_rule, rule_words, resolve_rules, predicate_by, resolve_predicate, resolve_derivation, resolve_relation, resolve_relations, defaulted_equal, equal_refusal, first_rule, resolve_records, resolved}
use Rattle.directions.proofs.StepWays.{Way, slotless, aggregates, relates, tests, undirected, test_undirected, derived, no_input, way}
use Rattle.definitions.specs.Tree as trees

abbrev pub Numbered : {A : Type 0} → Outcome A → Type 0
Numbered (done a) = Unit {0}
Numbered (refused r) = InRange r.number

map_numbered : {A B : Type 0} (f : A → B) (o : Outcome A) → Numbered o → Numbered (map_done f o)
map_numbered f (done a) h = tt
map_numbered f (refused r) h = h

then_numbered : {A B : Type 0} (o : Outcome A) (f : A → Outcome B) → Numbered o → ((a : A) → Numbered (f a)) → Numbered (and_then o f)
then_numbered (done a) f h k = k a
then_numbered (refused r) f h k = h

-- ---- a node

abbrev pub OfInput : Option ℕ → Type 0
OfInput none = Unit {0}
OfInput (some n) = InRange n

abbrev StepNumbered : NodeStep → Type 0
StepNumbered (goes fs entity first rest) = Unit {0}
StepNumbered (stops number other) = InRange number

module _ (C : Citing) (h : (owner n : ℕ) → OfInput (C.input owner n)) where
  step_numbered : {entity : ℕ} {m : Membership} {v : ℕ} {fs : Fields} {w : Follows} {s : NodeStep} → Way C entity m v fs w s → StepNumbered s
  step_numbered (slotless w e) = tt
  step_numbered (aggregates c r kind e) = tt
  step_numbered (relates c r owner e) = tt
  step_numbered (tests c r kind e) = tt
  step_numbered (undirected w kind e) = (omega arith, omega arith)
  step_numbered (test_undirected kind e) = (omega arith, omega arith)
  step_numbered derived = (omega arith, omega arith)
  step_numbered {entity} {m} {v} {fs} (no_input owner number e) = subst (λ (o : Option ℕ). OfInput o) e (h owner (value_of_node fs).1)

  node_numbered : (at : ℕ) (s : NodeStep) → StepNumbered s → (on : Fields → ℕ → Membership → Membership → Outcome Tree)
      → ((fs : Fields) (entity : ℕ) (first rest : Membership) → Numbered (on fs entity first rest)) → Numbered (at_node C at s on)
  node_numbered at (goes fs entity first rest) q on k = k fs entity first rest
  node_numbered at (stops number other) q on k = q

  mutual
    unfolding resolve_tree

    tree_numbered : (entity : ℕ) (m : Membership) (at : ℕ) (t : Tree) → Numbered (resolve_tree C entity m at t)
    tree_numbered entity m at (node k v fs f) =
        node_numbered at (node_step C entity m (entry_of k).follows v fs) (step_numbered (way C entity m v fs (entry_of k).follows)) _
        (λ fs' e first rest. map_numbered (node k v fs') (resolve_forest C e first rest (at + 1 + length fs) f) (forest_numbered e first rest (at + 1 + length fs) f))

    forest_numbered : (entity : ℕ) (first rest : Membership) (at : ℕ) (f : Forest) → Numbered (resolve_forest C entity first rest at f)
    forest_numbered entity first rest at trees.none = tt
    forest_numbered entity first rest at (more t f) =
        then_numbered (resolve_tree C entity first at t) _ (tree_numbered entity first at t)
        (λ t'. map_numbered (more t') (resolve_forest C entity rest rest (at + size t) f) (forest_numbered entity rest rest (at + size t) f))

  body_numbered : (entity at : ℕ) (b : Body) → Numbered (resolve_body C entity at b)
  body_numbered entity at b = map_numbered _ (resolve_tree C entity none (at + 1) b.tree) (tree_numbered entity none (at + 1) b.tree)

  bodies_numbered : (entity at : ℕ) (bs : List Body) → Numbered (resolve_bodies C entity at bs)
  unfolding resolve_bodies
  bodies_numbered entity at [] = tt
  bodies_numbered entity at (b ∷ bs) =
      then_numbered (resolve_body C entity at b) _ (body_numbered entity at b) (λ b'. map_numbered (λ l. b' ∷ l) (resolve_bodies C entity (at + body_size b) bs) (bodies_numbered entity (at + body_size b) bs))

-- ---- inputs

owned_numbered : (owner : ℕ) (l : List Item) → OfInput (owned owner l)
owned_numbered owner [] = (omega arith, omega arith)
owned_numbered owner (i ∷ j ∷ l) = (omega arith, omega arith)
owned_numbered owner (i ∷ []) = go (eqb i.boolean 1) (eqb owner 0 || not (eqb i.entity owner))
  where
    go : (b c : Bool) → OfInput (pick b (pick c (some 15) none) (some 14))
    go true true = (omega arith, omega arith)
    go true false = tt
    go false c = (omega arith, omega arith)

pub input_numbered : (blocks : List Block) (origin owner n : ℕ) → OfInput (input blocks origin owner n)
unfolding input
input_numbered blocks origin owner n = go (any (λ (b : Block). no_sequence b.items) (of_origin origin blocks))
  where
    go : (c : Bool) → OfInput (pick c (some 12) (owned owner (declarations n (of_origin origin blocks))))
    go true = (omega arith, omega arith)
    go false = owned_numbered owner (declarations n (of_origin origin blocks))

-- ---- rules and relations

module _ (p : Pack) where
  rule_numbered : (at : ℕ) (r : Rule) → Numbered (resolve_rule p at r)
  unfolding rule_by
  rule_numbered at r =
      let C : Citing = cites p r.citing r.origin in
      let h = input_numbered p.blocks r.origin in
      then_numbered (resolve_body C r.entity (at + 4) r.semantics) _ (body_numbered C h r.entity (at + 4) r.semantics)
      (λ b. map_numbered _ (resolve_bodies C r.entity (at + 4 + body_size r.semantics) r.versions) (bodies_numbered C h r.entity (at + 4 + body_size r.semantics) r.versions))

  pub rules_numbered : (at : ℕ) (rs : List Rule) → Numbered (resolve_rules p at rs)
  unfolding resolve_rules
  rules_numbered at [] = tt
  rules_numbered at (r ∷ rs) =
      then_numbered (resolve_rule p at r) _ (rule_numbered at r)
      (λ r'. map_numbered (λ l. r' ∷ l) (resolve_rules p (at + length (rule_words p.names r)) rs) (rules_numbered (at + length (rule_words p.names r)) rs))

  predicate_numbered : (at : ℕ) (r : Relation) (d : Derivation) → Numbered (resolve_predicate p at r d)
  unfolding predicate_by
  predicate_numbered at r d = tree_numbered (cites p r.name r.origin) (input_numbered p.blocks r.origin) _ _ (at + predicate_place r d) d.predicate

  derivation_numbered : (at : ℕ) (r : Relation) (o : Option Derivation) → Numbered (resolve_derivation p at r o)
  derivation_numbered at r none = tt
  derivation_numbered at r (some d) = map_numbered (λ t. some (with_predicate d t)) (resolve_predicate p at r d) (predicate_numbered at r d)

  relation_numbered : (at : ℕ) (r : Relation) → Numbered (resolve_relation p at r)
  unfolding resolve_relation
  relation_numbered at r = map_numbered _ (resolve_derivation p at r r.derivation) (derivation_numbered at r r.derivation)

  pub relations_numbered : (at : ℕ) (rs : List Relation) → Numbered (resolve_relations p at rs)
  unfolding resolve_relations
  relations_numbered at [] = tt
  relations_numbered at (r ∷ rs) =
      then_numbered (resolve_relation p at r) _ (relation_numbered at r)
      (λ r'. map_numbered (λ l. r' ∷ l) (resolve_relations p (at + length (relation_words p.names r)) rs) (relations_numbered (at + length (relation_words p.names r)) rs))

-- ---- a pack

pub refused_number : (p : Pack) (r : Refusal) → resolved p ≡ refused r → (9 ≤ r.number) × (r.number ≤ 15)
unfolding resolved
refused_number p r e = go (defaulted_equal (tables p.relations) p.defaulted) e
  where
    records : Numbered (resolve_records p)
    records =
        then_numbered (resolve_rules p (first_rule p) p.rules) _ (rules_numbered p (first_rule p) p.rules)
        (λ rules. map_numbered _ (resolve_relations p (first_relation p) p.relations) (relations_numbered p (first_relation p) p.relations))

    of_records : (o : Outcome Pack) → Numbered o → o ≡ refused r → (9 ≤ r.number) × (r.number ≤ 15)
    of_records (done q) h e = let z : ◌≡◌ {A = ℕ} 0 1 = cc in absurd (omega arith)
    of_records (refused s) h e = let u : s ≡ r = cc in rw (← u) (omega (arith, h.0), h.1)

    go : (o : Option ℕ) → ◌≡◌ {A = Outcome Pack} (elim o [ some n ↦ refused (equal_refusal p n) | none ↦ resolve_records p ]) (refused r) → (9 ≤ r.number) × (r.number ≤ 15)
    go (some n) e = let u : equal_refusal p n ≡ r = cc in rw (← u) (omega arith, omega arith)
    go none e = of_records (resolve_records p) records e
