-- The ways in which a node's step goes. Laws of steps go by these, and not by what follows the node's head word.
use Prim.Native.Nat.{ℕ}
use mathlib.Core.Path.{◌≡◌, refl, sym, ◌∙◌, subst}
use mathlib.Core.Bool.{Bool, true, false}
use mathlib.Core.Option.{Option, none, some}
use lib.Dec.{eqb}
use Rattle.definitions.specs.declared.table.Follows.{Follows}
use Rattle.definitions.specs.declared.table.Follows.TheVariants.{Aggregate, OnlyRelated, Slots}
use Rattle.definitions.specs.Table.{pick}
use Rattle.definitions.specs.Tree.{Fields}
use Rattle.definitions.specs.declared.direction.Direction.{Direction}
use Rattle.definitions.specs.declared.direction.Direction.TheVariants.{Directed, Open}
use Rattle.definitions.specs.Direction.{turn, Membership, member_direction}
use Rattle.definitions.specs.ResolvingTrees.{Citing, current_of, related_of, with_slots, value_of_node, NodeStep, goes, stops, aggregate, allowed_input, only_related, membership_test, node_step}
use Rattle.pack.proofs.EachFollows.{alike, where_true}
use Rattle.reading.specs.Notes.{look_by}

module _ (C : Citing) (entity : ℕ) (m : Membership) (v : ℕ) (fs : Fields) where
  abbrev turned : Direction
  turned = turn C.tables v entity (current_of fs) (related_of fs)

  abbrev tested : Direction
  tested = member_direction C.tables v m (current_of fs) (related_of fs)

  -- a node without slots goes on as it is, and its children keep the membership or lose it
  abbrev onward : Follows → NodeStep
  onward w = goes fs entity (pick (look_by w).first none m) (pick (look_by w).rest none m)

  pub slotless_step : (w : Follows) → (look_by w).slots ≡ false → node_step C entity m w v fs ≡ onward w
  unfolding node_step look_by
  slotless_step w e = alike (λ w. node_step C entity m w v fs) (λ w. pick (look_by w).slots (node_step C entity m w v fs) (onward w)) refl w ∙ rw e refl

  -- One with slots goes on with those of its direction. It stops where that is open; an OnlyRelated stops also at a derived name, and at
  -- an input that is not allowed.
  pub data Way : Follows → NodeStep → Type 0 where
    slotless : (w : Follows) → (look_by w).slots ≡ false → Way w (onward w)
    aggregates : (c r kind : ℕ) → turned ≡ Directed c r kind → Way Aggregate (goes (with_slots c r fs) kind none none)
    relates : (c r owner : ℕ) → turned ≡ Directed c r owner → Way OnlyRelated (goes (with_slots c r fs) 0 none none)
    tests : (c r kind : ℕ) → tested ≡ Directed c r kind → Way Slots (goes (with_slots c r fs) entity m m)
    undirected : (w : Follows) (kind : ℕ) → turned ≡ Open kind → Way w (stops 10 kind)
    test_undirected : (kind : ℕ) → tested ≡ Open kind → Way Slots (stops 10 kind)
    derived : Way OnlyRelated (stops 11 (value_of_node fs).1)
    no_input : (owner number : ℕ) → C.input owner (value_of_node fs).1 ≡ some number → Way OnlyRelated (stops number (value_of_node fs).1)

  aggregate_way : (d : Direction) → turned ≡ d → Way Aggregate (aggregate fs d)
  aggregate_way (Directed c r kind) e = aggregates c r kind e
  aggregate_way (Open kind) e = undirected Aggregate kind e

  only_way : (d : Direction) → turned ≡ d → Way OnlyRelated (only_related C.input fs d)
  only_way (Open kind) e = undirected OnlyRelated kind e
  only_way (Directed c r owner) e = go (eqb (value_of_node fs).0 84) (C.input owner (value_of_node fs).1) refl
    where
      go : (b : Bool) (o : Option ℕ) → C.input owner (value_of_node fs).1 ≡ o
          → Way OnlyRelated (pick b (stops 11 (value_of_node fs).1) (allowed_input (with_slots c r fs) (value_of_node fs).1 o))
      go true o q = derived
      go false none q = relates c r owner e
      go false (some number) q = no_input owner number q

  test_way : (d : Direction) → tested ≡ d → Way Slots (membership_test fs entity m d)
  test_way (Directed c r kind) e = tests c r kind e
  test_way (Open kind) e = test_undirected kind e

  pub way : (w : Follows) → Way w (node_step C entity m w v fs)
  unfolding node_step look_by
  way w = go (look_by w).slots refl
    where
      go : (b : Bool) → (look_by w).slots ≡ b → Way w (node_step C entity m w v fs)
      go true e = where_true (λ w. (look_by w).slots) (λ w. Way w (node_step C entity m w v fs)) (aggregate_way turned refl, (only_way turned refl, (test_way tested refl, tt))) w e
      go false e = subst (λ (s : NodeStep). Way w s) (sym (slotless_step w e)) (slotless w e)
