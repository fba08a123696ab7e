-- Resolving keeps what sorts of nodes a tree holds, and where slots stand: it sets fields alone.
use Prim.Native.Nat.{ℕ, ◌+◌}
use mathlib.Core.Path.{◌≡◌, refl, ap, ◌∙◌, subst}
use mathlib.Core.Bool.{Bool, false, ◌||◌}
use mathlib.Core.Option.{Option, none, some}
use lib.ListN.{length}
use Rattle.definitions.specs.Table.{entry_of}
use Rattle.definitions.specs.Tree.{Tree, Forest, node, more, size}
use Rattle.definitions.specs.Tree as trees
use Rattle.definitions.specs.Records.{Derivation, Relation, Pack}
use Rattle.definitions.specs.Direction.{Membership}
use Rattle.definitions.specs.Answers.{done, map_done}
use Rattle.definitions.specs.ResolvingTrees.{Citing, NodeStep, goes, stops, node_step, at_node, resolve_tree, resolve_forest}
use Rattle.definitions.specs.Resolving.{holds, held, in_derivation, with_predicate, predicate_by, resolve_predicate, resolve_derivation, resolve_relation}
use Rattle.filtered.specs.Acts.{part_at}
use Rattle.directions.proofs.KeepsForm.{Good, map_good, then_good}

module _ (is : ℕ → ℕ → Bool) where
  module _ (C : Citing) where
    node-held : (at k v : ℕ) (f : Forest) (b : ℕ) (s : NodeStep) → ((entity : ℕ) (first rest : Membership) → Good (λ f'. held is f' ≡ held is f) (resolve_forest C entity first rest b f))
        → Good (λ t. holds is t ≡ (is k v || held is f)) (at_node C at s (λ fs' entity first rest. map_done (node k v fs') (resolve_forest C entity first rest b f)))
    unfolding holds
    node-held at k v f b (stops number other) g = tt
    node-held at k v f b (goes fs' entity first rest) g =
        map_good (λ f'. held is f' ≡ held is f) _ (node k v fs') (resolve_forest C entity first rest b f) (g entity first rest) (λ f' e. ap (λ (x : Bool). is k v || x) e)

    mutual
      unfolding resolve_tree holds

      pub holds_kept : (t : Tree) (entity : ℕ) (m : Membership) (at : ℕ) → Good (λ t'. holds is t' ≡ holds is t) (resolve_tree C entity m at t)
      holds_kept (node k v fs f) entity m at = node-held at k v f (at + 1 + length fs) (node_step C entity m (entry_of k).follows v fs) (λ e first rest. held_kept f e first rest (at + 1 + length fs))

      held_kept : (f : Forest) (entity : ℕ) (first rest : Membership) (at : ℕ) → Good (λ f'. held is f' ≡ held is f) (resolve_forest C entity first rest at f)
      held_kept trees.none entity first rest at = refl
      held_kept (more t f) entity first rest at =
          then_good (λ t'. holds is t' ≡ holds is t) _ (resolve_tree C entity first at t) _ (holds_kept t entity first at)
          (λ t' q. map_good (λ f'. held is f' ≡ held is f) _ (more t') (resolve_forest C entity rest rest (at + size t) f) (held_kept f entity rest rest (at + size t)) (λ f' e. ap (λ (x : Bool). x || held is f') q ∙ ap (λ (x : Bool). holds is t || x) e))

  derivation-held : (p : Pack) (at : ℕ) (r : Relation) (o : Option Derivation) → Good (λ o'. in_derivation is o' ≡ in_derivation is o) (resolve_derivation p at r o)
  unfolding predicate_by
  derivation-held p at r none = refl
  derivation-held p at r (some d) = map_good (λ t. holds is t ≡ holds is d.predicate) _ (λ t. some (with_predicate d t)) (resolve_predicate p at r d) (holds_kept _ d.predicate _ _ _) (λ t e. e)

  pub relation-held : (p : Pack) (at : ℕ) (r s : Relation) → resolve_relation p at r ≡ done s → in_derivation is s.derivation ≡ in_derivation is r.derivation
  unfolding resolve_relation
  relation-held p at r s e =
      subst (Good (λ x. in_derivation is x.derivation ≡ in_derivation is r.derivation)) e
      (map_good (λ o. in_derivation is o ≡ in_derivation is r.derivation) _ (λ o. record { name = r.name; origin = r.origin; arity = r.arity; slot_kinds = r.slot_kinds; derivation = o }) (resolve_derivation p at r r.derivation) (derivation-held p at r r.derivation) (λ o q. q))

-- nor do its slots move
pub part_kept : (p : Pack) (at start : ℕ) (r s : Relation) → resolve_relation p at r ≡ done s → part_at start (some s) ≡ part_at start (some r)
unfolding resolve_relation predicate_by
part_kept p at start r s e =
    subst (Good (λ x. part_at start (some x) ≡ part_at start (some r))) e
    (map_good (λ o. part_at start (some (with_derivation o)) ≡ part_at start (some r)) _ with_derivation (resolve_derivation p at r r.derivation) (go r.derivation) (λ o q. q))
  where
    with_derivation : Option Derivation → Relation
    with_derivation o = record { name = r.name; origin = r.origin; arity = r.arity; slot_kinds = r.slot_kinds; derivation = o }

    go : (o : Option Derivation) → Good (λ o'. part_at start (some (with_derivation o')) ≡ part_at start (some (with_derivation o))) (resolve_derivation p at r o)
    go none = refl
    go (some d) = map_good (λ t. holds (λ k v. false) t ≡ holds (λ k v. false) d.predicate) _ (λ t. some (with_predicate d t)) (resolve_predicate p at r d) (holds_kept (λ k v. false) _ d.predicate _ _ _) (λ t e. refl)
