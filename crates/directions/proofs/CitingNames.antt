-- A refusal of a tree bears the name of the citing rule or relation.
use Prim.Native.Nat.{ℕ, ◌+◌}
use mathlib.Core.Path.{refl}
use lib.ListN.{length}
use Rattle.definitions.specs.Table.{entry_of}
use Rattle.definitions.specs.Tree.{Tree, Forest, node, more, Fields, size}
use Rattle.definitions.specs.Direction.{Membership}
use Rattle.definitions.specs.Answers.{Outcome, done, refused, and_then, map_done}
use Rattle.definitions.specs.ResolvingTrees.{Citing, NodeStep, goes, stops, node_step, at_node, resolve_tree, resolve_forest}
use Rattle.definitions.specs.Tree as trees
use Rattle.directions.specs.RecordRuns.{NamedBy}

pub map-named : {A B : Type 0} (n : ℕ) (f : A → B) (o : Outcome A) → NamedBy n o → NamedBy n (map_done f o)
map-named n f (done a) h = tt
map-named n f (refused r) h = h

then_named : {A B : Type 0} (n : ℕ) (o : Outcome A) (f : A → Outcome B) → NamedBy n o → ((a : A) → NamedBy n (f a)) → NamedBy n (and_then o f)
then_named n (done a) f h k = k a
then_named n (refused r) f h k = h

module _ (C : Citing) where
  node-named : (at : ℕ) (s : NodeStep) (on : Fields → ℕ → Membership → Membership → Outcome Tree) → ((fs : Fields) (entity : ℕ) (first rest : Membership) → NamedBy C.name (on fs entity first rest)) → NamedBy C.name (at_node C at s on)
  node-named at (goes fs entity first rest) on k = k fs entity first rest
  node-named at (stops number other) on k = refl

  mutual
    unfolding resolve_tree

    pub tree-named : (t : Tree) (entity : ℕ) (m : Membership) (at : ℕ) → NamedBy C.name (resolve_tree C entity m at t)
    tree-named (node k v fs f) entity m at =
        node-named at (node_step C entity m (entry_of k).follows v fs) _ (λ fs' e first rest. map-named C.name (node k v fs') (resolve_forest C e first rest (at + 1 + length fs) f) (forest_named f e first rest (at + 1 + length fs)))

    forest_named : (f : Forest) (entity : ℕ) (first rest : Membership) (at : ℕ) → NamedBy C.name (resolve_forest C entity first rest at f)
    forest_named trees.none entity first rest at = tt
    forest_named (more t f) entity first rest at =
        then_named C.name (resolve_tree C entity first at t) _ (tree-named t entity first at)
        (λ t'. map-named C.name (more t') (resolve_forest C entity rest rest (at + size t) f) (forest_named f entity rest rest (at + size t)))
