-- Worked cases of document 02, Job 2: where the records of small packs begin, and where they come out.
use Rattle.std.specs.Prelude.{◌≡◌, [], ◌∷◌}
use Rattle.std.proofs.Math.Option.{none, some}
use Rattle.definitions.specs.Table as table
use Rattle.definitions.specs.Records.{Pack, undated}
use Rattle.definitions.specs.Answers.{done, map_done}
use Rattle.definitions.specs.Resolving.{resolved}
use Rattle.definitions.specs.WrittenRecords.{pieces_of, beginnings}
use Rattle.theorems.specs.Starred.{without_derivation, with_source, counting, ruled, packed}

-- no record: four words in front, and the two counts
abbrev pub no_records : Pack
no_records = packed [] [] []

-- 5[1,2] of 7 words, 6<5 of 13, and a rule of 10
abbrev pub chained : Pack
chained = packed [] (without_derivation 5 (1 ∷ 2 ∷ []) ∷ with_source 6 5 none [] [] ∷ []) (ruled 2 (counting 0 1))

-- a defaulted name in front, 5[1,2], and two blocks: one with an item, of five words, and one that is no sequence, of two
abbrev pub two_blocks : Pack
two_blocks =
    record {
      edition = undated;
      names = 10;
      defaulted = 5 ∷ [];
      relations = without_derivation 5 (1 ∷ 2 ∷ []) ∷ [];
      rules = [];
      blocks = record { origin = table.none; items = some (record { name = 3; boolean = 1; entity = 2 } ∷ []) } ∷ record { origin = table.none; items = none } ∷ [];
    }

-- a derived relation of 15 words that has list 9 alone
abbrev pub list_alone : Pack
list_alone = packed [] (with_source 6 table.none none (1 ∷ 2 ∷ []) [] ∷ []) []

pub record PlacesWorked : Type 0 where
  pub empty : beginnings 0 (pieces_of no_records) ≡ 0 ∷ 4 ∷ 5 ∷ []
  pub before : beginnings 0 (pieces_of chained) ≡ 0 ∷ 4 ∷ 11 ∷ 24 ∷ 25 ∷ 35 ∷ []
  pub with_blocks : beginnings 0 (pieces_of two_blocks) ≡ 0 ∷ 5 ∷ 12 ∷ 13 ∷ 14 ∷ 19 ∷ []
  -- list 21 is stamped alone: two words more
  pub one_list : map_done (λ q. beginnings 0 (pieces_of q)) (resolved list_alone) ≡ done (0 ∷ 4 ∷ 21 ∷ 22 ∷ [])
  -- 6 comes out with both lists, four words longer: what stands behind it moves on by four
  pub after : map_done (λ q. beginnings 0 (pieces_of q)) (resolved chained) ≡ done (0 ∷ 4 ∷ 11 ∷ 28 ∷ 29 ∷ 39 ∷ [])
