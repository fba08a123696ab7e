-- What the table says of words that begin trees.
use Rattle.std.specs.Prelude.{ℕ, ◌+◌, ◌<◌, ◌≤◌, ◌≡◌, Bool, true, false, ◌&&◌, List, length, get_or, eqb, leb, ltb}
use Rattle.definitions.specs.declared.table.Values.{Values}
use Rattle.definitions.specs.declared.table.Values.TheVariants.{Unused, Any, AtMost, FromOne, AtMostOrNone, Total, Name, NameOrNone}
use Rattle.definitions.specs.Table.{kind_of, value_of, word_of, entry_of}
use Rattle.definitions.specs.Form.{allowed_here}

-- the rule by which the table allows a word of this kind its values
abbrev pub Ruled : ℕ → Values → Type 0
Ruled kind rule = (entry_of kind).values ≡ rule

-- "each node's kind decides": whether a word may begin a tree of a sort
unfoldable pub may_begin : ℕ → ℕ → ℕ → Bool
may_begin n sort w = eqb (entry_of (kind_of w)).sort sort && allowed_here n (kind_of w) (value_of w)

-- the three rules of words that begin trees
abbrev pub head_rule : Values → Bool
head_rule Unused = false
head_rule Any = true
head_rule (AtMost m) = true
head_rule (FromOne m) = false
head_rule (AtMostOrNone m) = false
head_rule Total = false
head_rule Name = true
head_rule NameOrNone = false

-- one more than the last word of a kind that may begin a tree, in a pack of so many names
abbrev pub EndsAt : ℕ → ℕ → ℕ → Type 0
EndsAt n kind end = (v : ℕ) → v < 16777216 → ltb (word_of kind v) end ≡ (ltb (entry_of kind).sort 2 && allowed_here n kind v)

-- of each of the kinds from 64 to 127, in a list
abbrev pub Ended : ℕ → List ℕ → Type 0
Ended n ends = (i : ℕ) → i < 64 → EndsAt n (64 + i) (get_or ends i 0)

-- a word of this kind may have any value up to a most
unfoldable pub UpTo : ℕ → ℕ → Type 0
UpTo kind most = (n v : ℕ) → v < 16777216 → allowed_here n kind v ≡ leb v most

-- a Comparison stands at a place, with a level left
pub record Compares (ws : List ℕ) (at left : ℕ) : Type 0 where
  pub inside : at < length ws
  pub level : 1 ≤ left
  pub kind : kind_of (get_or ws at 0) ≡ 96
