-- `turning::step::Known::aggregate` meets its contract.
use Rattle.std.proofs.Common.{sym, ◌∙◌}
use Rattle.turning.proofs.StepLaws.{only-kind}
use Rattle.turning.proofs.known.Known.aggregate.Goals as goal

pub allowed-requires : goal.allowed-requires
allowed-requires c = (c.requires.0.0, only-kind _ (sym c.requires.1 ∙ c.if-kind-ne-ONLY_RELATED.false))
