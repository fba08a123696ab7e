-- `filtered::inner::settle_all` meets its contract.
use native.Mathlib.Omega.{arith}
use lib.ListN.{length}
use Rattle.filtered.specs.Said.{plainly}
use Rattle.chains.proofs.FillLaws.{table-length}
use Rattle.chains.proofs.SettleLaws.{all_settled}
use Rattle.filtered.proofs.InnerLaws.{name-walked}
use Rattle.filtered.proofs.inner.settle_all.Goals as goal

pub loop-name-preserved : goal.loop-name-preserved
loop-name-preserved c =
    name-walked c.requires c.loop-name.invariant (omega arith) c.walk.ensures

pub returns : goal.returns
returns c = all_settled _ _ _ _ _ c.requires.settleable c.loop-name.invariant (omega (arith, table-length plainly 0 (length c.args.marks.now)))
