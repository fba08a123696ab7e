-- What walks mean. The definitions compute with fuel; here stands that they answer what chains say without, and nothing else.
use Rattle.std.specs.Prelude.{ℕ, ◌≡◌, List}
use Rattle.std.proofs.Math.Option.{Option, none}
use Rattle.definitions.specs.Records.{Relation}
use Rattle.definitions.specs.Chain.{same, ChainAnswer, own}
use Rattle.definitions.specs.Kinds.{KindsFound, kind_step, own_answer}
use Rattle.definitions.specs.Filtered.{up_to, inner_step}

-- "A relation's own walk starts at it with nothing settled before": it ends with the list that its chain of declarations comes to, and gives none
-- just where that chain has no end or ends without a list.
pub record KindsMean (rs : List Relation) (n : ℕ) : Type 0 where
  pub means : (a : KindsFound) → own_answer rs n ≡ a → ChainAnswer same (kind_step rs) none n a
  pub only : (a : KindsFound) → ChainAnswer same (kind_step rs) none n a → own_answer rs n ≡ a

-- the same of the walk along direct kinds, for innermost
pub record InnermostMeans (direct : ℕ → Option ℕ) (names n : ℕ) : Type 0 where
  pub means : (a : Option ℕ) → own none same (inner_step names direct) (up_to names) n ≡ a → ChainAnswer same (inner_step names direct) none n a
  pub only : (a : Option ℕ) → ChainAnswer same (inner_step names direct) none n a → own none same (inner_step names direct) (up_to names) n ≡ a
