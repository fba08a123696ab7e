-- Trees as rows: the pairs that forms read, as trees and back.
use Rattle.std.specs.Prelude.{ℕ, ◌≡◌, refl, List, [], ◌∷◌}
use Rattle.std.proofs.Common.{ap}
use Rattle.definitions.specs.Trees.{Tree, Forest, node, none, more}

-- the children of a node as a list
abbrev pub to_forest : List Tree → Forest
to_forest [] = none
to_forest (t ∷ l) = more t (to_forest l)

abbrev pub of_forest : Forest → List Tree
of_forest none = []
of_forest (more t f) = t ∷ of_forest f

to-of_forest : (f : Forest) → to_forest (of_forest f) ≡ f
to-of_forest none = refl
to-of_forest (more t f) = ap (more t) (to-of_forest f)

of_to_forest : (l : List Tree) → of_forest (to_forest l) ≡ l
of_to_forest [] = refl
of_to_forest (t ∷ l) = ap (λ m. t ∷ m) (of_to_forest l)

-- a tree as a row: its head word, the fields, the children
abbrev pub Parts : Type 0
Parts = (ℕ × ℕ) × (List (ℕ × ℕ) × List Tree)

abbrev pub to_tree : Parts → Tree
to_tree t = node t.0.0 t.0.1 t.1.0 (to_forest t.1.1)

abbrev pub of_tree : Tree → Parts
of_tree (node k v fs f) = ((k, v), (fs, of_forest f))

pub to_of : (t : Tree) → to_tree (of_tree t) ≡ t
to_of (node k v fs f) = ap (node k v fs) (to-of_forest f)

pub of_to : (t : Parts) → of_tree (to_tree t) ≡ t
of_to t = ap (λ (l : List Tree). ((t.0.0, t.0.1), (t.1.0, l))) (of_to_forest t.1.1)
