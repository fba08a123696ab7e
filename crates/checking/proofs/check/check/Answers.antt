-- `checking::check::check` meets its contract.
use Rattle.std.proofs.Common.{arith}
use Rattle.checking.proofs.CheckLaws.{said-most}
use Rattle.checking.proofs.check.check.Goals as goal

pub check_sized-requires-2 : goal.check_sized-requires-2
check_sized-requires-2 c = (omega (arith, said-most c.args.pack.now), omega arith)
