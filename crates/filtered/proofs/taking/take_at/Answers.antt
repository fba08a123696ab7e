-- `filtered::taking::take_at` meets its contract.
use native.Mathlib.Omega.{arith}
use mathlib.Core.Path.{◌∙◌, ap}
use Rattle.filtered.specs.Taking.{named_after}
use Rattle.filtered.proofs.TakingLaws.{no_entity, an_entity, taken_fits}
use Rattle.filtered.proofs.taking.take_at.Goals as goal

pub returns-then-table-e : goal.returns-then-table-e
returns-then-table-e c = no_entity _ _ _ (omega arith)

pub number-requires : goal.number-requires
number-requires c =
    let x = c.type_inv.table c.args.entity in
    rw (c.with.ensures, c.named.ensures, c.from.ensures.0) (taken_fits _ _ (omega arith) c.requires)

pub returns : goal.returns
returns c =
    an_entity _ _ _ (omega arith) (c.named.ensures ∙ ap named_after c.from.ensures.0) (c.number.ensures ∙ c.with.ensures)
