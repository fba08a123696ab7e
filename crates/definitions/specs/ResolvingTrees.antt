-- Resolving a tree: its slots are set from the kinds of relations, or it is refused at a node. 01, "Resolving".
use Rattle.std.specs.Prelude.{ℕ, ◌+◌, ◌≤◌, [], ◌∷◌, length, eqb}
use Rattle.std.proofs.Math.Option.{Option, none, some}
use Rattle.definitions.specs.declared.table.Follows.{Follows}
use Rattle.definitions.specs.declared.table.Follows.TheVariants.{Nothing, Counted, OneScalar, TwoScalars, Scalars, Patterns, Periods, OneJudgment, Judgments, Choice, Aggregate, OnlyRelated, Slots, Atom, Exists}
use Rattle.definitions.specs.Table.{pick, entry_of}
use Rattle.definitions.specs.Tree.{Tree, Forest, node, more, Fields, size}
use Rattle.definitions.specs.Tree as trees
use Rattle.definitions.specs.declared.direction.Direction.{Direction}
use Rattle.definitions.specs.declared.direction.Direction.TheVariants.{Directed, Open}
use Rattle.definitions.specs.Answers.{Outcome, done, refused, and_then, map_done}
use Rattle.definitions.specs.Tables.{Tables}
use Rattle.definitions.specs.Direction.{turn, Membership, member_direction}

-- the numbers by which trees are refused: 10 to 15
abbrev pub InRange : ℕ → Type 0
InRange n = (10 ≤ n) × (n ≤ 15)

-- what a tree is resolved by: the tables, the citing rule or relation, and the test of an input name with its owner
pub record Citing : Type 0 where
  pub tables : Tables
  pub name : ℕ
  pub input : ℕ → ℕ → Option ℕ

-- the slots of a node are its first two fields
abbrev pub current_of : Fields → ℕ
current_of [] = 0
current_of (c ∷ fs) = c.1

abbrev pub related_of : Fields → ℕ
related_of [] = 0
related_of (c ∷ []) = 0
related_of (c ∷ r ∷ fs) = r.1

abbrev pub with_slots : ℕ → ℕ → Fields → Fields
with_slots current related [] = []
with_slots current related (c ∷ []) = c ∷ []
with_slots current related (c ∷ r ∷ fs) = (c.0, current) ∷ (r.0, related) ∷ fs

-- the value of an OnlyRelated node is its third field: 82 an input name, 84 a derived one
abbrev pub value_of_node : Fields → ℕ × ℕ
value_of_node [] = (0, 0)
value_of_node (c ∷ []) = (0, 0)
value_of_node (c ∷ r ∷ []) = (0, 0)
value_of_node (c ∷ r ∷ v ∷ fs) = v

-- what a node does: it goes on with these fields, the entity of its children, and the memberships of its first child and of the others; or it stops
pub data NodeStep : Type 0 where
  goes : Fields → ℕ → Membership → Membership → NodeStep
  stops : ℕ → ℕ → NodeStep

-- "A where tree is handed on .., with the resulting kind as entity"; "Membership is lost in where trees"
abbrev pub aggregate : Fields → Direction → NodeStep
aggregate fs (Directed c r kind) = goes (with_slots c r fs) kind none none
aggregate fs (Open entity) = stops 10 entity

-- "OnlyRelated after its aggregate step: 11, 12, 13, 14, 15 in this order"
abbrev pub allowed_input : Fields → ℕ → Option ℕ → NodeStep
allowed_input fs n none = goes fs 0 none none
allowed_input fs n (some number) = stops number n

abbrev pub only_related : (ℕ → ℕ → Option ℕ) → Fields → Direction → NodeStep
only_related input fs (Open entity) = stops 10 entity
only_related input fs (Directed c r owner) =
    pick (eqb (value_of_node fs).0 84) (stops 11 (value_of_node fs).1) (allowed_input (with_slots c r fs) (value_of_node fs).1 (input owner (value_of_node fs).1))

abbrev pub membership_test : Fields → ℕ → Membership → Direction → NodeStep
membership_test fs entity m (Directed c r kind) = goes (with_slots c r fs) entity m m
membership_test fs entity m (Open kind) = stops 10 kind

-- "Membership is lost in where trees, NoMatch patterns and both parts of OverPeriods."
unfoldable pub node_step : Citing → ℕ → Membership → Follows → ℕ → Fields → NodeStep
node_step C entity m Nothing v fs = goes fs entity m m
node_step C entity m Counted v fs = goes fs entity m m
node_step C entity m OneScalar v fs = goes fs entity m m
node_step C entity m TwoScalars v fs = goes fs entity m m
node_step C entity m Scalars v fs = goes fs entity m m
node_step C entity m Patterns v fs = goes fs entity m none
node_step C entity m Periods v fs = goes fs entity none none
node_step C entity m OneJudgment v fs = goes fs entity m m
node_step C entity m Judgments v fs = goes fs entity m m
node_step C entity m Choice v fs = goes fs entity m m
node_step C entity m Aggregate v fs = aggregate fs (turn C.tables v entity (current_of fs) (related_of fs))
node_step C entity m OnlyRelated v fs = only_related C.input fs (turn C.tables v entity (current_of fs) (related_of fs))
node_step C entity m Slots v fs = membership_test fs entity m (member_direction C.tables v m (current_of fs) (related_of fs))
node_step C entity m Atom v fs = goes fs entity m m
node_step C entity m Exists v fs = goes fs entity m m

-- a node at a place that goes on, or that stops there: "place the node, name the citing rule or relation, other the entity", or "the input or derived name"
abbrev pub at_node : Citing → ℕ → NodeStep → (Fields → ℕ → Membership → Membership → Outcome Tree) → Outcome Tree
at_node C at (goes fs entity first rest) on = on fs entity first rest
at_node C at (stops number other) on = refused (record { number = number; place = at; name = C.name; other = other })

-- A tree whose root stands at a place, and the children of a node from a place on. The place is carried only to be reported.
unfoldable mutual
  pub resolve_tree : Citing → ℕ → Membership → ℕ → Tree → Outcome Tree
  resolve_tree C entity m at (node k v fs f) =
      at_node C at (node_step C entity m (entry_of k).follows v fs)
      (λ fs' entity' first rest. map_done (node k v fs') (resolve_forest C entity' first rest (at + 1 + length fs) f))

  pub resolve_forest : Citing → ℕ → Membership → Membership → ℕ → Forest → Outcome Forest
  resolve_forest C entity first rest at trees.none = done trees.none
  resolve_forest C entity first rest at (more t f) =
      and_then (resolve_tree C entity first at t) (λ t'. map_done (more t') (resolve_forest C entity rest rest (at + size t) f))
