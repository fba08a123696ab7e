-- A pack as it is written, record by record, and the place of each.
-- 02, Job 2: "keep a running place and add each length as it is written".
use Rattle.std.specs.Prelude.{ℕ, ◌+◌, ◌≡◌, List, [], ◌∷◌, ◌++◌, map, length}
use Rattle.definitions.specs.Table.{word_of}
use Rattle.definitions.specs.Form.{words_by}
use Rattle.definitions.specs.Records.{Block, Pack}
use Rattle.definitions.specs.Pack.{defaulted, block, total}
use Rattle.definitions.specs.Places.{relation_words}
use Rattle.definitions.specs.Resolving.{rule_words}

-- ---- the records

-- what stands before the relations: total, N, defaulted names, and the count of relations
abbrev pub front_piece : Pack → List ℕ
front_piece p = word_of 1 (total p) ∷ word_of 2 p.names ∷ (words_by (defaulted p.names) p.defaulted ++ (word_of 5 (length p.relations) ∷ []))

abbrev pub block_piece : ℕ → Block → List ℕ
block_piece n b = words_by (block n) b

-- the count of rules, each rule, the count of blocks, each block
unfoldable pub other_pieces : Pack → List (List ℕ)
other_pieces p =
    (word_of 22 (length p.rules) ∷ []) ∷ (map (rule_words p.names) p.rules ++ ((word_of 28 (length p.blocks) ∷ []) ∷ map (block_piece p.names) p.blocks))

-- the words of each, in the order in which they are written
abbrev pub pieces_of : Pack → List (List ℕ)
pieces_of p = front_piece p ∷ (map (relation_words p.names) p.relations ++ other_pieces p)

-- ---- their places

-- one after the other
abbrev pub joined : List (List ℕ) → List ℕ
joined [] = []
joined (w ∷ l) = w ++ joined l

-- where each begins, from a place on: the place handed on from each is its own plus its length
unfoldable pub sums : ℕ → List ℕ → List ℕ
sums at [] = []
sums at (n ∷ l) = at ∷ sums (at + n) l

abbrev pub lengths : List (List ℕ) → List ℕ
lengths l = map (λ (w : List ℕ). length w) l

abbrev pub beginnings : ℕ → List (List ℕ) → List ℕ
beginnings at l = sums at (lengths l)

-- a record after those that are written before it, the place that it is given and the one that is handed on
pub record Carried (before : List (List ℕ)) (r : List ℕ) (place next : ℕ) : Type 0 where
  -- "the place given to each record equals the number of words written before it"
  pub given : place ≡ length (joined before)
  -- "the place handed on is that plus its length"
  pub handed_on : next ≡ place + length r
