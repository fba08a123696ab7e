-- `directions::equal::Tables::first_equal` meets its contract.
use Rattle.directions.proofs.EqualLaws.{Looking}
use Rattle.directions.proofs.tables.Tables.first_equal.Given as goal

abbrev pub invariant-loop-i : goal.invariant-loop-i
invariant-loop-i l = Looking l.self.pack.now l.self.acts.now l.count l.i
