-- Places are only reported: what resolving comes to does not depend on them.
use Prim.Native.Nat.{ℕ, ◌+◌}
use mathlib.Core.Path.{◌≡◌, refl, ap, sym, ◌∙◌}
use mathlib.Core.List.{List, [], ◌∷◌}
use mathlib.Core.Option.{Option, none, some, map}
use lib.ListN.{length}
use Rattle.definitions.specs.Table.{entry_of}
use Rattle.definitions.specs.Tree.{Tree, Forest, node, more, size}
use Rattle.definitions.specs.Tree as trees
use Rattle.definitions.specs.Records.{Derivation, Relation, Body, Rule, Pack}
use Rattle.definitions.specs.Kinds.{kinds_of}
use Rattle.definitions.specs.Places.{relation_words}
use Rattle.definitions.specs.Direction.{Membership}
use Rattle.definitions.specs.Answers.{Outcome, and_then, map_done, result}
use Rattle.definitions.specs.ResolvingTrees.{Citing, NodeStep, goes, stops, node_step, at_node, resolve_tree, resolve_forest}
use Rattle.definitions.specs.Resolving.{cites, predicate_place, with_predicate, resolve_body, resolve_bodies, body_size, rule_by, resolve_rule, rule_words, resolve_rules, predicate_by, resolve_predicate, resolve_derivation, resolve_relation, resolve_relations}
use Rattle.theorems.proofs.OutcomeLaws.{bound, result-map, result_then, all_done}

-- mapped and bound results of outcomes that have the same result
map_free : {A B : Type 0} (f : A → B) (o o' : Outcome A) → result o ≡ result o' → result (map_done f o) ≡ result (map_done f o')
map_free f o o' e = result-map f o ∙ ap (map f) e ∙ sym (result-map f o')

then_free : {A B : Type 0} (o o' : Outcome A) (f f' : A → Outcome B) → result o ≡ result o' → ((a : A) → result (f a) ≡ result (f' a)) → result (and_then o f) ≡ result (and_then o' f')
then_free o o' f f' e h = result_then o f (λ a. result (f' a)) h ∙ ap (λ r. bound r (λ a. result (f' a))) e ∙ sym (result_then o' f' (λ a. result (f' a)) (λ a. refl))

-- the children of a node, wherever they stand
abbrev Free : Citing → Forest → Type 0
Free C f = (entity : ℕ) (first rest : Membership) (at at' : ℕ) → result (resolve_forest C entity first rest at f) ≡ result (resolve_forest C entity first rest at' f)

node_free : (C : Citing) (at at' k v b b' : ℕ) (f : Forest) → Free C f → (s : NodeStep)
    → result (at_node C at s (λ fs entity first rest. map_done (node k v fs) (resolve_forest C entity first rest b f)))
    ≡ result (at_node C at' s (λ fs entity first rest. map_done (node k v fs) (resolve_forest C entity first rest b' f)))
node_free C at at' k v b b' f h (goes fs entity first rest) = map_free (node k v fs) (resolve_forest C entity first rest b f) (resolve_forest C entity first rest b' f) (h entity first rest b b')
node_free C at at' k v b b' f h (stops number other) = refl

mutual
  unfolding resolve_tree

  pub tree_free : (C : Citing) (entity : ℕ) (m : Membership) (at at' : ℕ) (t : Tree) → result (resolve_tree C entity m at t) ≡ result (resolve_tree C entity m at' t)
  tree_free C entity m at at' (node k v fs f) =
      node_free C at at' k v (at + 1 + length fs) (at' + 1 + length fs) f (λ e first rest b b'. forest_free C e first rest b b' f) (node_step C entity m (entry_of k).follows v fs)

  forest_free : (C : Citing) (entity : ℕ) (first rest : Membership) (at at' : ℕ) (f : Forest) → result (resolve_forest C entity first rest at f) ≡ result (resolve_forest C entity first rest at' f)
  forest_free C entity first rest at at' trees.none = refl
  forest_free C entity first rest at at' (more t f) =
      then_free (resolve_tree C entity first at t) (resolve_tree C entity first at' t) (λ t'. map_done (more t') (resolve_forest C entity rest rest (at + size t) f))
      (λ t'. map_done (more t') (resolve_forest C entity rest rest (at' + size t) f)) (tree_free C entity first at at' t)
      (λ t'. map_free (more t') (resolve_forest C entity rest rest (at + size t) f) (resolve_forest C entity rest rest (at' + size t) f) (forest_free C entity rest rest (at + size t) (at' + size t) f))

-- ---- rules

body_free : (C : Citing) (entity at at' : ℕ) (b : Body) → result (resolve_body C entity at b) ≡ result (resolve_body C entity at' b)
body_free C entity at at' b =
    map_free (λ t. record { sort = b.sort; tree = t }) (resolve_tree C entity none (at + 1) b.tree) (resolve_tree C entity none (at' + 1) b.tree) (tree_free C entity none (at + 1) (at' + 1) b.tree)

bodies_free : (C : Citing) (entity at at' : ℕ) (bs : List Body) → result (resolve_bodies C entity at bs) ≡ result (resolve_bodies C entity at' bs)
unfolding resolve_bodies
bodies_free C entity at at' [] = refl
bodies_free C entity at at' (b ∷ bs) =
    then_free (resolve_body C entity at b) (resolve_body C entity at' b) (λ b'. map_done (λ l. b' ∷ l) (resolve_bodies C entity (at + body_size b) bs)) (λ b'. map_done (λ l. b' ∷ l) (resolve_bodies C entity (at' + body_size b) bs))
    (body_free C entity at at' b)
    (λ b'. map_free (λ l. b' ∷ l) (resolve_bodies C entity (at + body_size b) bs) (resolve_bodies C entity (at' + body_size b) bs) (bodies_free C entity (at + body_size b) (at' + body_size b) bs))

rule_free : (C : Citing) (at at' : ℕ) (r : Rule) → result (rule_by C at r) ≡ result (rule_by C at' r)
unfolding rule_by
rule_free C at at' r =
    then_free (resolve_body C r.entity (at + 4) r.semantics) (resolve_body C r.entity (at' + 4) r.semantics) _ _ (body_free C r.entity (at + 4) (at' + 4) r.semantics)
    (λ b. map_free _ (resolve_bodies C r.entity (at + 4 + body_size r.semantics) r.versions) (resolve_bodies C r.entity (at' + 4 + body_size r.semantics) r.versions)
    (bodies_free C r.entity (at + 4 + body_size r.semantics) (at' + 4 + body_size r.semantics) r.versions))

-- all rules: each by itself
pub rules-each : (p : Pack) (at : ℕ) (rs : List Rule) → result (resolve_rules p at rs) ≡ all_done (λ r. result (resolve_rule p 0 r)) rs
unfolding resolve_rules all_done
rules-each p at [] = refl
rules-each p at (r ∷ rs) =
    result_then (resolve_rule p at r) _ (λ r'. map (λ l. r' ∷ l) (all_done (λ s. result (resolve_rule p 0 s)) rs))
    (λ r'. result-map (λ l. r' ∷ l) (resolve_rules p (at + length (rule_words p.names r)) rs) ∙ ap (map (λ l. r' ∷ l)) (rules-each p (at + length (rule_words p.names r)) rs))
    ∙ ap (λ o. bound o (λ r'. map (λ l. r' ∷ l) (all_done (λ s. result (resolve_rule p 0 s)) rs))) (rule_free (cites p r.citing r.origin) at 0 r)

-- ---- relations

predicate_free : (C : Citing) (kinds : Option (List ℕ)) (at at' : ℕ) (r : Relation) (d : Derivation) → result (predicate_by C kinds at r d) ≡ result (predicate_by C kinds at' r d)
unfolding predicate_by
predicate_free C kinds at at' r d = tree_free C _ _ (at + predicate_place r d) (at' + predicate_place r d) d.predicate

derivation_free : (p : Pack) (at at' : ℕ) (r : Relation) (o : Option Derivation) → result (resolve_derivation p at r o) ≡ result (resolve_derivation p at' r o)
derivation_free p at at' r none = refl
derivation_free p at at' r (some d) = map_free (λ t. some (with_predicate d t)) (resolve_predicate p at r d) (resolve_predicate p at' r d) (predicate_free (cites p r.name r.origin) (kinds_of p.relations r.name) at at' r d)

relation_free : (p : Pack) (at at' : ℕ) (r : Relation) → result (resolve_relation p at r) ≡ result (resolve_relation p at' r)
unfolding resolve_relation
relation_free p at at' r = map_free _ (resolve_derivation p at r r.derivation) (resolve_derivation p at' r r.derivation) (derivation_free p at at' r r.derivation)

pub relations-each : (p : Pack) (at : ℕ) (rs : List Relation) → result (resolve_relations p at rs) ≡ all_done (λ r. result (resolve_relation p 0 r)) rs
unfolding resolve_relations all_done
relations-each p at [] = refl
relations-each p at (r ∷ rs) =
    result_then (resolve_relation p at r) _ (λ r'. map (λ l. r' ∷ l) (all_done (λ s. result (resolve_relation p 0 s)) rs))
    (λ r'. result-map (λ l. r' ∷ l) (resolve_relations p (at + length (relation_words p.names r)) rs) ∙ ap (map (λ l. r' ∷ l)) (relations-each p (at + length (relation_words p.names r)) rs))
    ∙ ap (λ o. bound o (λ r'. map (λ l. r' ∷ l) (all_done (λ s. result (resolve_relation p 0 s)) rs))) (relation_free p at 0 r)
