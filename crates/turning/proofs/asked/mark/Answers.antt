-- `turning::asked::mark` meets its contract.
use Rattle.std.proofs.Common.{sym, true, arith}
use lib.Seq.{set_out}
use Rattle.turning.proofs.asked.mark.Goals as goal

pub returns-else-i-table : goal.returns-else-i-table
returns-else-i-table c = sym (set_out c.args.table.now c.args.name true (omega arith))
