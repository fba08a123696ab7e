-- Trees. 01: "Trees are in prefix order; each node's kind decides what follows it, and a scalar tree may hold judgments and a judgment tree scalars."
use Rattle.std.specs.Prelude.{ℕ, zero, suc, ◌+◌, List, [], ◌∷◌, ◌++◌, eqb, length}
use Rattle.definitions.specs.declared.table.Follows.{Follows}
use Rattle.definitions.specs.Table.{pick, word_of, entry_of, fields_of, children_of}
pub use Rattle.definitions.specs.Trees.{Tree, Forest, node, none, more, Fields}
use Rattle.definitions.specs.TreeRows.{to_tree, of_tree, to_of, of_to}
use Rattle.definitions.specs.Form.{Form, word, empty, each, ◌▹◌, via, only}

-- the words of a tree: its head, its fields, its children
abbrev pub field_words : Fields → List ℕ
field_words [] = []
field_words (f ∷ fs) = word_of f.0 f.1 ∷ field_words fs

unfoldable mutual
  pub tree_words : Tree → List ℕ
  tree_words (node k v fs f) = word_of k v ∷ (field_words fs ++ forest_words f)

  pub forest_words : Forest → List ℕ
  forest_words none = []
  forest_words (more t f) = tree_words t ++ forest_words f

-- how many there are
unfoldable mutual
  pub size : Tree → ℕ
  size (node k v fs f) = 1 + length fs + sizes f

  pub sizes : Forest → ℕ
  sizes none = 0
  sizes (more t f) = size t + sizes f

-- the kinds that begin no tree of the sort are rejected by 2; with no level left, the others by 5
unfoldable pub heads : ℕ → ℕ → ℕ → ℕ
heads sort zero kind = pick (eqb (entry_of kind).sort sort) 5 2
heads sort (suc d) kind = pick (eqb (entry_of kind).sort sort) 0 2

-- the value of the last field, 0 without fields
abbrev pub last_field : List (ℕ × ℕ) → ℕ
last_field [] = 0
last_field (f ∷ []) = f.1
last_field (f ∷ g ∷ fs) = last_field (g ∷ fs)

-- the fields of a node: a word for each list of kinds
unfoldable pub fields : ℕ → List (List ℕ) → Form (List (ℕ × ℕ))
fields n = each (λ kinds. word (only kinds) n)

-- what follows a head word of the value v, with the form of a child of a sort
unfoldable pub follow : ℕ → (ℕ → Form Tree) → Follows → ℕ → Form (List (ℕ × ℕ) × List Tree)
follow n child f v = fields n (fields_of f) ▹ λ fs. each child (children_of f v (last_field fs))

-- a tree of a sort in whose place so many levels are left
unfoldable pub tree : ℕ → ℕ → ℕ → Form Tree
tree n zero sort = via to_tree of_tree to_of of_to (word (heads sort zero) n ▹ λ h. empty {A = List (ℕ × ℕ) × List Tree} ([], []))
tree n (suc d) sort = via to_tree of_tree to_of of_to (word (heads sort (suc d)) n ▹ λ h. follow n (tree n d) (entry_of h.0).follows h.1)

-- "the root of a body or predicate is at 1, every child, where trees too, one deeper", and depth 33 is refused
unfoldable pub root : ℕ → ℕ → Form Tree
root n sort = tree n 32 sort
