-- Worked cases of Check: packs to which it answers yes, and one for each refusal.
use Rattle.std.specs.Prelude.{Err}
use Rattle.std.specs.Prelude.{ℕ, ◌≡◌, List, [], ◌∷◌, ◌++◌, replicate}
use Rattle.definitions.specs.Answers.{Answer}
use Rattle.definitions.specs.Answers.{gives}
use Rattle.definitions.specs.Table.{word_of, none}
use Rattle.definitions.specs.Records.{undated}
use Rattle.definitions.specs.Pack.{yes, read}
use Rattle.definitions.specs.Checking.{check_answer}

abbrev pub w : ℕ → ℕ → ℕ
w kind value = word_of kind value

-- 01: "For 01000006 02000001 03000000 05000000 16000000 1C000000 (hexadecimal)"
abbrev pub smallest : List ℕ
smallest = 0x01000006 ∷ 0x02000001 ∷ 0x03000000 ∷ 0x05000000 ∷ 0x16000000 ∷ 0x1C000000 ∷ []

-- a pack with a word of each kind
abbrev pub full : List ℕ
full =
    -- ten names, of which 1 and 3 are defaulted
    w 1 125 ∷ w 2 10 ∷ w 3 2 ∷ w 4 1 ∷ w 4 3
    ∷ w 5 3
    -- relation 5 of the kinds 1 and 2, without a derivation
    ∷ w 6 5 ∷ w 7 9 ∷ w 8 2 ∷ w 9 2 ∷ w 10 1 ∷ w 10 2 ∷ w 11 0
    -- relation 6, with source 5, path none and a list 21: RelationMember
    ∷ w 6 6 ∷ w 7 none ∷ w 8 2 ∷ w 9 0 ∷ w 11 1
    ∷ w 12 5 ∷ w 13 none ∷ w 17 0 ∷ w 18 1 ∷ w 19 2 ∷ w 20 none ∷ w 21 2 ∷ w 10 2 ∷ w 10 1
    ∷ w 101 5 ∷ w 80 0 ∷ w 81 1
    -- relation 7, with a path of two steps: Not, of Exists, of RelationAtom
    ∷ w 6 7 ∷ w 7 9 ∷ w 8 0 ∷ w 9 0 ∷ w 11 1
    ∷ w 12 none ∷ w 13 2 ∷ w 14 5 ∷ w 15 0 ∷ w 16 1 ∷ w 14 6 ∷ w 15 1 ∷ w 16 0 ∷ w 17 1 ∷ w 18 0 ∷ w 19 none ∷ w 20 5 ∷ w 21 0
    ∷ w 100 0 ∷ w 103 6 ∷ w 85 4 ∷ w 102 5 ∷ w 85 3
    ∷ w 22 2
    -- a rule with two bodies
    ∷ w 23 8 ∷ w 24 9 ∷ w 25 1 ∷ w 26 2
    -- Add, of a leaf, an If (Derived, a leaf, NoMatch of a Derived and one pattern) and an OverPeriods (Count where one of two, and n)
    ∷ w 27 0 ∷ w 68 3
    ∷ w 64 123
    ∷ w 71 0 ∷ w 105 3 ∷ w 64 1 ∷ w 72 1 ∷ w 65 2 ∷ w 64 2
    ∷ w 73 1 ∷ w 74 6 ∷ w 80 0 ∷ w 81 1 ∷ w 86 7 ∷ w 83 1 ∷ w 98 2 ∷ w 104 0 ∷ w 106 1 ∷ w 64 12
    -- And, of a Comparison of two OnlyRelated (of an input and of a derived name) and an ExactlyOne
    ∷ w 27 1 ∷ w 97 2
    ∷ w 96 0 ∷ w 78 5 ∷ w 80 0 ∷ w 81 1 ∷ w 82 3 ∷ w 78 6 ∷ w 80 1 ∷ w 81 0 ∷ w 84 4
    ∷ w 99 1 ∷ w 105 2
    -- a rule without origin: two children, of which the first has one, a Min of nothing, and the second is a Max, of Sum, Extreme and Single without where
    ∷ w 23 9 ∷ w 24 none ∷ w 25 0 ∷ w 26 1
    ∷ w 27 0 ∷ w 67 0 ∷ w 66 0 ∷ w 69 0 ∷ w 70 3
    ∷ w 75 5 ∷ w 80 0 ∷ w 81 1 ∷ w 86 0 ∷ w 83 0
    ∷ w 76 6 ∷ w 80 0 ∷ w 81 0 ∷ w 86 0 ∷ w 83 0
    ∷ w 77 7 ∷ w 80 1 ∷ w 81 0 ∷ w 86 0 ∷ w 83 0
    ∷ w 28 2
    -- a block of two items, and one with no sequence
    ∷ w 29 9 ∷ w 30 2 ∷ w 31 3 ∷ w 32 1 ∷ w 33 none ∷ w 31 none ∷ w 32 0 ∷ w 33 1
    ∷ w 29 none ∷ w 30 none
    ∷ []

-- a pack of one rule whose body nests so many Not around a Derived
abbrev pub nested : ℕ → ℕ → List ℕ
nested total depth =
    w 1 total ∷ w 2 1 ∷ w 3 0 ∷ w 5 0 ∷ w 22 1 ∷ w 23 0 ∷ w 24 none ∷ w 25 0 ∷ w 26 1 ∷ w 27 1
    ∷ replicate depth (w 100 0) ++ (w 105 0 ∷ w 28 0 ∷ [])

abbrev pub refused_by : ℕ → ℕ → ℕ → ℕ → Answer
refused_by number place name other = Err (record { number = number; place = place; name = name; other = other })

pub record ChecksWorked : Type 0 where
  pub smallest-yes : read smallest ≡ yes (record { edition = undated; names = 1; defaulted = []; relations = []; rules = []; blocks = [] })
  pub full-yes : check_answer full ≡ gives 1 0
  -- "Depth 32 passes."
  pub depth_32_yes : check_answer (nested 43 31) ≡ gives 1 0
  -- "1 the slice has under 6 or over 8,192 words."
  pub too_short : check_answer (w 1 5 ∷ w 2 1 ∷ w 3 0 ∷ w 5 0 ∷ w 22 0 ∷ []) ≡ refused_by 1 0 0 0
  -- "2 wrong kind": a count of defaulted names where N must stand
  pub wrong_kind : check_answer (w 1 6 ∷ w 3 0 ∷ w 3 0 ∷ w 5 0 ∷ w 22 0 ∷ w 28 0 ∷ []) ≡ refused_by 2 1 0 0
  -- "3 the pack has ended (place = its length)": behind a rule's citing name
  pub ended : check_answer (w 1 6 ∷ w 2 1 ∷ w 3 0 ∷ w 5 0 ∷ w 22 1 ∷ w 23 0 ∷ []) ≡ refused_by 3 6 0 0
  -- "4 value not allowed": a total that is not the slice's length
  pub not_allowed : check_answer (w 1 7 ∷ w 2 1 ∷ w 3 0 ∷ w 5 0 ∷ w 22 0 ∷ w 28 0 ∷ []) ≡ refused_by 4 0 0 0
  -- "5 a tree node at depth 33"
  pub too_deep : check_answer (nested 44 32) ≡ refused_by 5 42 0 0
  -- "6 a defaulted name not above the one before": 1 twice
  pub not_rising : check_answer (w 1 8 ∷ w 2 2 ∷ w 3 2 ∷ w 4 1 ∷ w 4 1 ∷ w 5 0 ∷ w 22 0 ∷ w 28 0 ∷ []) ≡ refused_by 6 4 0 0
  -- "7 a relation name used before (name = it)": 1 twice
  pub used-before : check_answer (w 1 16 ∷ w 2 2 ∷ w 3 0 ∷ w 5 2 ∷ w 6 1 ∷ w 7 0 ∷ w 8 0 ∷ w 9 0 ∷ w 11 0 ∷ w 6 1 ∷ w 7 0 ∷ w 8 0 ∷ w 9 0 ∷ w 11 0 ∷ w 22 0 ∷ w 28 0 ∷ []) ≡ refused_by 7 9 1 0
  -- "8 words left over (place the first)"
  pub left_over : check_answer (w 1 7 ∷ w 2 1 ∷ w 3 0 ∷ w 5 0 ∷ w 22 0 ∷ w 28 0 ∷ w 28 0 ∷ []) ≡ refused_by 8 6 0 0
