-- `records::block::item` meets its contract.
use Rattle.definitions.specs.Pack.{item}
use Rattle.pack.proofs.StepLaws.{walks, handed}
use Rattle.records.proofs.block.item.Goals as goal

pub returns-in_err-c1 : goal.returns-in_err-c1
unfolding item
returns-in_err-c1 c = handed c.from_residual.ensures.1 (search (walks, c.in_err-c1.ensures) depth 12)

pub returns-in_err-c2 : goal.returns-in_err-c2
unfolding item
returns-in_err-c2 c = handed c.from_residual-in_err-c2.ensures.1 (search (walks, c.in_ok-c1.ensures, c.in_err-c2.ensures) depth 12)

pub returns : goal.returns
unfolding item
returns c = search (walks, c.in_ok-c1.ensures, c.in_ok-c2.ensures, c.skip-3.ensures) depth 12
