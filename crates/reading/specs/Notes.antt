-- The notes of a tree as a list, in word order: the nodes that resolving looks at.
use Rattle.std.specs.Prelude.{ℕ, suc, ◌+◌, ◌*◌, List, [], ◌∷◌, ◌++◌, Bool, true, false, ◌||◌, length, eqb}
use Rattle.definitions.specs.declared.table.Follows.{Follows}
use Rattle.definitions.specs.declared.table.Follows.TheVariants.{Nothing, Counted, OneScalar, TwoScalars, Scalars, Patterns, Periods, OneJudgment, Judgments, Choice, Aggregate, OnlyRelated, Slots, Atom, Exists}
use Rattle.definitions.specs.Table.{pick, entry_of}
use Rattle.definitions.specs.Tree.{Tree, Forest, node, more, size}
use Rattle.definitions.specs.Tree as trees

-- ---- which nodes are noted

-- Of a node: whether it is noted, whether it has slots, whether its children stand inside it, and whether its first child and its
-- others lose the membership.
pub record Look : Type 0 where
  pub noted : Bool
  pub slots : Bool
  pub opens : Bool
  pub first : Bool
  pub rest : Bool

abbrev look : Bool → Bool → Bool → Bool → Bool → Look
look noted slots opens first rest = record { noted = noted; slots = slots; opens = opens; first = first; rest = rest }

-- "Aggregates 74 to 78", "RelationMember" and what stamping asks for: "atom or Exists".
-- "Membership is lost in where trees, NoMatch patterns and both parts of OverPeriods."
unfoldable pub look_by : Follows → Look
look_by Nothing = look false false false false false
look_by Counted = look false false false false false
look_by OneScalar = look false false false false false
look_by TwoScalars = look false false false false false
look_by Scalars = look false false false false false
look_by Patterns = look false false false false true
look_by Periods = look false false false true true
look_by OneJudgment = look false false false false false
look_by Judgments = look false false false false false
look_by Choice = look false false false false false
look_by Aggregate = look true true true true true
look_by OnlyRelated = look true true true true true
look_by Slots = look true true false false false
look_by Atom = look true false false false false
look_by Exists = look true false false false false

abbrev pub look_of : ℕ → Look
look_of k = look_by (entry_of k).follows

-- "whose predicate holds kinds 102 to 104": SameEntity is a leaf like others, and told by its kind
unfoldable pub noted : ℕ → Bool
noted k = (look_of k).noted || eqb k 104

-- ---- notes

-- Where the word stands; the number of the note inside which it stands, that of an aggregate in whose where tree it is, or of its rule
-- or relation, and 0 for a rule or relation itself; and whether membership is lost there.
pub record Note : Type 0 where
  pub place : ℕ
  pub inside : ℕ
  pub lost : Bool

abbrev pub note : ℕ → ℕ → Bool → Note
note at inside lost = record { place = at; inside = inside; lost = lost }

-- inside which note the children of a node stand that is the i-th
abbrev pub within : ℕ → ℕ → ℕ → ℕ
within k i inside = pick (look_of k).opens i inside

-- The notes of a tree whose root stands at a place, and of the children of a node from a place on: the next note is the i-th.
unfoldable mutual
  pub notes_of : ℕ → ℕ → Bool → ℕ → Tree → List Note
  notes_of i inside lost at (node k v fs f) =
      pick (noted k)
      (note at inside lost ∷ notes_in (suc i) (within k i inside) (lost || (look_of k).first) (lost || (look_of k).rest) (at + 1 + length fs) f)
      (notes_in i inside (lost || (look_of k).first) (lost || (look_of k).rest) (at + 1 + length fs) f)

  pub notes_in : ℕ → ℕ → Bool → Bool → ℕ → Forest → List Note
  notes_in i inside first rest at trees.none = []
  notes_in i inside first rest at (more t f) =
      notes_of i inside first at t ++ notes_in (i + length (notes_of i inside first at t)) inside rest rest (at + size t) f

-- ---- a note in one number

-- the place after its word, 8192 where membership is lost, and 16384 times what it stands inside
abbrev pub context_of : ℕ → Bool → ℕ
context_of inside lost = 16384 * inside + pick lost 8192 0

abbrev pub note_code : Note → ℕ
note_code n = n.place + 1 + context_of n.inside n.lost
