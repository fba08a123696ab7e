-- The records of a pack. 01, "Pack words".
use Rattle.std.specs.Prelude.{ℕ, List}
use Rattle.std.proofs.Math.Option.{Option}
use Rattle.definitions.specs.Tree.{Tree}

-- "each step 14 relation, 15 and 16 slots"
pub record Hop : Type 0 where
  pub relation : ℕ
  pub current : ℕ
  pub related : ℕ

pub record Derivation : Type 0 where
  pub source : ℕ
  pub path : Option (List Hop)
  pub current : ℕ
  pub related : ℕ
  pub entity : ℕ
  pub member : ℕ
  pub slot_entities : List ℕ
  pub predicate : Tree

pub record Relation : Type 0 where
  pub name : ℕ
  pub origin : ℕ
  pub arity : ℕ
  pub slot_kinds : List ℕ
  pub derivation : Option Derivation

-- the sort of a body's tree, 0 scalar or 1 judgment, and the tree
pub record Body : Type 0 where
  pub sort : ℕ
  pub tree : Tree

-- "The first body is `semantics`, the others the versions."
pub record Rule : Type 0 where
  pub citing : ℕ
  pub origin : ℕ
  pub entity : ℕ
  pub semantics : Body
  pub versions : List Body

pub record Item : Type 0 where
  pub name : ℕ
  pub boolean : ℕ
  pub entity : ℕ

pub record Block : Type 0 where
  pub origin : ℕ
  pub items : Option (List Item)

-- the layouts, one for each kind of first word
pub data Edition : Type 0 where
  undated : Edition

pub record Pack : Type 0 where
  pub edition : Edition
  pub names : ℕ
  pub defaulted : List ℕ
  pub relations : List Relation
  pub rules : List Rule
  pub blocks : List Block
