-- What a tree is: a node with its kind, value, fields and children.
use Rattle.std.specs.Prelude.{ℕ, List}

-- a node: its kind and value, its fields (kind and value of each), its children
mutual
  pub data Tree : Type 0 where
    node : ℕ → ℕ → List (ℕ × ℕ) → Forest → Tree

  pub data Forest : Type 0 where
    none : Forest
    more : Tree → Forest → Forest

-- the fields of a node: kind and value of each
abbrev pub Fields : Type 0
Fields = List (ℕ × ℕ)
