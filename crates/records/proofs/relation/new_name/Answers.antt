-- `records::relation::new_name` meets its contract.
use Rattle.std.proofs.Common.{ap, arith}
use mathlib.Core.Bool.{not}
use borrow.Author.Tests.{lt-ltb, le-ltb}
use Rattle.definitions.specs.Pack.{new_name}
use Rattle.pack.proofs.StepLaws.{handed, guarded_err, guarded_no, guarded_on}
use Rattle.records.specs.Directory.{entered}
use Rattle.records.proofs.RecordLaws.{name_below}
use Rattle.records.proofs.relation.new_name.Goals as goal

pub returns-in_err-v : goal.returns-in_err-v
unfolding new_name
returns-in_err-v c = handed c.from_residual.ensures.1 (guarded_err _ _ _ _ _ _ c.in_err-v.ensures)

pub bounds-dir-v : goal.bounds-dir-v
bounds-dir-v c = omega (arith, name_below _ _ _ c.field.ensures c.in_ok-v.was)

pub returns-then-dir-v-gt0 : goal.returns-then-dir-v-gt0
unfolding new_name entered
returns-then-dir-v-gt0 c = rw c.refused.ensures (guarded_no _ _ _ _ _ _ c.field.ensures c.in_ok-v.was (ap not (lt-ltb _ _ c.if-dir-v-gt0.true)))

pub returns : goal.returns
unfolding new_name entered
returns c = guarded_on _ _ _ _ _ _ c.field.ensures c.in_ok-v.was (ap not (le-ltb _ _ c.if-dir-v-gt0.false))
