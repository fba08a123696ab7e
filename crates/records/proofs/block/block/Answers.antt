-- `records::block::block` meets its contract.
use Rattle.definitions.specs.Pack.{block}
use Rattle.pack.proofs.StepLaws.{walks, handed}
use Rattle.records.proofs.block.block.Goals as goal

pub returns-in_err-c1 : goal.returns-in_err-c1
unfolding block
returns-in_err-c1 c = handed c.from_residual.ensures.1 (search (walks, c.in_err-c1.ensures) depth 12)

pub returns : goal.returns
unfolding block
returns c = search (walks, c.in_ok-c1.ensures, c.items.ensures) depth 16
