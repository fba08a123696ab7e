-- The table of kinds. 01: "One table of 256 entries says, for each kind, what its value may be and which children follow; unused kinds are marked so."
use Rattle.std.specs.Prelude.{ℕ, ◌+◌, ◌*◌, ◌/◌, ◌%◌, List, [], ◌∷◌, Bool, true, false, ◌&&◌, ◌||◌, ltb, leb, eqb, replicate}
use Rattle.definitions.specs.declared.table.Entry.{Entry}
use Rattle.definitions.specs.declared.table.Values.{Values}
use Rattle.definitions.specs.declared.table.Values.TheVariants.{Unused, Any, AtMost, FromOne, AtMostOrNone, Total, Name, NameOrNone}
use Rattle.definitions.specs.declared.table.Follows.{Follows}
use Rattle.definitions.specs.declared.table.Follows.TheVariants.{Nothing, Counted, OneScalar, TwoScalars, Scalars, Patterns, Periods, OneJudgment, Judgments, Choice, Aggregate, OnlyRelated, Slots, Atom, Exists}

abbrev pub pick {ℓ} : {A : Type ℓ} → Bool → A → A → A
pick true a b = a
pick false a b = b

-- "A word has 32 bits: kind = word div 2^24, value = word mod 2^24."
abbrev pub kind_of : ℕ → ℕ
kind_of w = w / 16777216

abbrev pub value_of : ℕ → ℕ
value_of w = w % 16777216

abbrev pub word_of : ℕ → ℕ → ℕ
word_of kind value = kind * 16777216 + value

-- "'None' is 16777215."
abbrev pub none : ℕ
none = 16777215

-- the two sorts of trees, by the number that a body's 27 holds, and the mark of words that begin no tree
abbrev pub scalar : ℕ
scalar = 0

abbrev pub judgment : ℕ
judgment = 1

abbrev pub no_tree : ℕ
no_tree = 2

-- what a value may be; n is what it is held to: for the total the slice's length, for a name N
abbrev pub allowed : Values → ℕ → ℕ → Bool
allowed Unused n v = false
allowed Any n v = true
allowed (AtMost m) n v = leb v m
allowed (FromOne m) n v = leb 1 v && leb v m
allowed (AtMostOrNone m) n v = leb v m || eqb v none
allowed Total n v = eqb v (n)
allowed Name n v = ltb v (n)
allowed NameOrNone n v = ltb v (n) || eqb v none

-- the kinds from `first` to `last`, and what holds of each
pub record Row : Type 0 where
  pub first : ℕ
  pub last : ℕ
  pub entry : Entry

abbrev entry_by : ℕ → Values → Follows → Entry
entry_by s r f = record { sort = s; values = r; follows = f }

abbrev rows : ℕ → ℕ → ℕ → Values → Follows → Row
rows s a b r f = record { first = a; last = b; entry = entry_by s r f }

-- a word of a record or of a node; the same where it counts what follows it
abbrev word_row : ℕ → Values → Row
word_row k r = rows no_tree k k r Nothing

abbrev word_rows : ℕ → ℕ → Values → Row
word_rows a b r = rows no_tree a b r Nothing

abbrev count_row : ℕ → Values → Row
count_row k r = rows no_tree k k r Counted

abbrev flag : Values
flag = AtMost 1

unfoldable pub table : List Row
table =
    -- "1 total words (= slice length, else 4); 2 N, 1 to 4,096; 3 count to 512 of defaulted names, each a 4, rising."
    word_row 1 Total
    ∷ word_row 2 (FromOne 4096)
    ∷ count_row 3 (AtMost 512)
    ∷ word_row 4 Name
    -- "5 count to 512 of relations, each: 6 name; 7 origin°; 8 arity; 9 count to 8 of slot kinds, each a 10 (name); 11 flag 0 or 1 for a derivation"
    ∷ count_row 5 (AtMost 512)
    ∷ word_row 6 Name
    ∷ word_row 7 NameOrNone
    ∷ word_row 8 Any
    ∷ count_row 9 (AtMost 8)
    ∷ word_row 10 Name
    ∷ count_row 11 flag
    -- "which is: 12 source°; 13 path count 0 to 8 or none, each step 14 relation, 15 and 16 slots; 17 current slot; 18 related slot; 19 entity°;
    -- 20 member relation°; 21 count to 8, each a 10; a judgment tree."
    ∷ word_row 12 NameOrNone
    ∷ count_row 13 (AtMostOrNone 8)
    ∷ word_row 14 Name
    ∷ word_rows 15 18 Any
    ∷ word_rows 19 20 NameOrNone
    ∷ count_row 21 (AtMost 8)
    -- "22 count to 1,024 of rules: 23 citing name; 24 origin°; 25 entity; 26 bodies, 1 to 64, each 27 (0 scalar, 1 judgment) and a tree."
    ∷ count_row 22 (AtMost 1024)
    ∷ word_row 23 Name
    ∷ word_row 24 NameOrNone
    ∷ word_row 25 Name
    ∷ count_row 26 (FromOne 64)
    ∷ word_row 27 flag
    -- "28 count to 64 of blocks: 29 origin°; 30 count to 1,024, or none for "no sequence"; items 31 name°, 32 flag (1 = Boolean), 33 entity°."
    ∷ count_row 28 (AtMost 64)
    ∷ word_row 29 NameOrNone
    ∷ count_row 30 (AtMostOrNone 1024)
    ∷ word_row 31 NameOrNone
    ∷ word_row 32 flag
    ∷ word_row 33 NameOrNone
    -- "Scalars: 64 opaque leaf; 65 Derived name; 66 one child and 67 two children (opaque value); 68 Add, 69 Min, 70 Max (child count);"
    ∷ rows scalar 64 64 Any Nothing
    ∷ rows scalar 65 65 Name Nothing
    ∷ rows scalar 66 66 Any OneScalar
    ∷ rows scalar 67 67 Any TwoScalars
    ∷ rows scalar 68 70 Any Scalars
    -- "71 If (0; judgment, scalar, scalar); 72 NoMatch (pattern count; subject, patterns); 73 OverPeriods (0 to 7; value, and n when odd);"
    ∷ rows scalar 71 71 (AtMost 0) Choice
    ∷ rows scalar 72 72 Any Patterns
    ∷ rows scalar 73 73 (AtMost 7) Periods
    -- "74 Count, 75 Sum, 76 Extreme, 77 Single (relation; 80 current; 81 related; 86 opaque; 83 flag; judgment if 1); 78 OnlyRelated (relation; 80; 81; 82 input name or 84 derived name)."
    ∷ rows scalar 74 77 Name Aggregate
    ∷ rows scalar 78 78 Name OnlyRelated
    ∷ word_rows 80 81 Any
    ∷ word_row 82 Name
    ∷ word_row 83 flag
    ∷ word_row 84 Name
    ∷ word_rows 85 86 Any
    -- "Judgments: 96 Comparison (opaque; two scalars); 97 And, 98 Or, 99 ExactlyOne (count); 100 Not (0);"
    ∷ rows judgment 96 96 Any TwoScalars
    ∷ rows judgment 97 99 Any Judgments
    ∷ rows judgment 100 100 (AtMost 0) OneJudgment
    -- "101 RelationMember (relation; 80; 81); 102 RelationAtom (relation; 85 opaque); 103 Exists (the same; body);
    -- 104 SameEntity, 106 RoleDerived (opaque); 105 Derived name."
    ∷ rows judgment 101 101 Name Slots
    ∷ rows judgment 102 102 Name Atom
    ∷ rows judgment 103 103 Name Exists
    ∷ rows judgment 104 104 Any Nothing
    ∷ rows judgment 105 105 Name Nothing
    ∷ rows judgment 106 106 Any Nothing
    ∷ []

abbrev entry_in : ℕ → List Row → Entry
entry_in k [] = entry_by no_tree Unused Nothing
entry_in k (r ∷ rs) = pick (leb r.first k && leb k r.last) r.entry (entry_in k rs)

-- the entry of a kind; a kind that no row has is unused
unfoldable pub entry_of : ℕ → Entry
unfolding table
entry_of k = entry_in k table

-- how many follow a word of the value v, where they are of one sort
abbrev pub how_many : Follows → ℕ → ℕ
how_many Nothing v = 0
how_many Counted v = 0
how_many OneScalar v = 1
how_many TwoScalars v = 2
how_many Scalars v = v
how_many Patterns v = v + 1
how_many Periods v = 1 + v % 2
how_many OneJudgment v = 1
how_many Judgments v = v
how_many Choice v = 0
how_many Aggregate v = 0
how_many OnlyRelated v = 0
how_many Slots v = 0
how_many Atom v = 0
how_many Exists v = 0

-- the kinds that the fields of a node may have, one after the other
unfoldable pub fields_of : Follows → List (List ℕ)
fields_of Nothing = []
fields_of Counted = []
fields_of OneScalar = []
fields_of TwoScalars = []
fields_of Scalars = []
fields_of Patterns = []
fields_of Periods = []
fields_of OneJudgment = []
fields_of Judgments = []
fields_of Choice = []
fields_of Aggregate = (80 ∷ []) ∷ (81 ∷ []) ∷ (86 ∷ []) ∷ (83 ∷ []) ∷ []
fields_of OnlyRelated = (80 ∷ []) ∷ (81 ∷ []) ∷ (82 ∷ 84 ∷ []) ∷ []
fields_of Slots = (80 ∷ []) ∷ (81 ∷ []) ∷ []
fields_of Atom = (85 ∷ []) ∷ []
fields_of Exists = (85 ∷ []) ∷ []

-- the sorts of the children of a node of the value v whose last field is `last`
unfoldable pub children_of : Follows → ℕ → ℕ → List ℕ
children_of Nothing v last = []
children_of Counted v last = []
children_of OneScalar v last = replicate 1 scalar
children_of TwoScalars v last = replicate 2 scalar
children_of Scalars v last = replicate v scalar
children_of Patterns v last = replicate (v + 1) scalar
children_of Periods v last = replicate (1 + v % 2) scalar
children_of OneJudgment v last = replicate 1 judgment
children_of Judgments v last = replicate v judgment
children_of Choice v last = judgment ∷ scalar ∷ scalar ∷ []
children_of Aggregate v last = replicate last judgment
children_of OnlyRelated v last = []
children_of Slots v last = []
children_of Atom v last = []
children_of Exists v last = judgment ∷ []
