-- Walks answer what chains say.
use Prim.Native.Nat.{ℕ}
use mathlib.Core.Path.{refl}
use mathlib.Core.List.{List}
use mathlib.Core.Option.{Option, none}
use Rattle.definitions.specs.Records.{Relation}
use Rattle.definitions.specs.Chain.{same}
use Rattle.definitions.specs.Kinds.{kind_step, declared}
use Rattle.definitions.specs.Filtered.{up_to, inner_step}
use Rattle.chains.proofs.ChainLaws.{own-means, own-only}
use Rattle.chains.proofs.KindLaws.{kind-leads}
use Rattle.filtered.proofs.FilteredLaws.{inner-leads}
use Rattle.theorems.specs.Walks.{KindsMean, InnermostMeans}

pub kinds_mean : (rs : List Relation) (n : ℕ) → KindsMean rs n
kinds_mean rs n =
    record {
      means = own-means none same refl (kind_step rs) (declared rs) (kind-leads rs) n;
      only = own-only none same refl (kind_step rs) (declared rs) (kind-leads rs) n;
    }

pub innermost-means : (direct : ℕ → Option ℕ) (names n : ℕ) → InnermostMeans direct names n
innermost-means direct names n =
    record {
      means = own-means none same refl (inner_step names direct) (up_to names) (inner-leads direct names) n;
      only = own-only none same refl (inner_step names direct) (up_to names) (inner-leads direct names) n;
    }
