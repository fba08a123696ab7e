-- `records::defaulted::defaulted_name` meets its contract.
use Rattle.std.proofs.Common.{◌∙◌, ap}
use Rattle.std.specs.Prelude.{Err}
use borrow.Author.Tests.{lt-leb, le-leb}
use Rattle.definitions.specs.Pack.{defaulted_name}
use Rattle.pack.proofs.StepLaws.{handed, guarded_err, guarded_no, guarded_on}
use Rattle.records.proofs.defaulted.defaulted_name.Goals as goal

pub returns-in_err-v : goal.returns-in_err-v
unfolding defaulted_name
returns-in_err-v c = handed c.from_residual.ensures.1 (guarded_err _ _ _ _ _ _ c.in_err-v.ensures)

pub returns-then-v-low : goal.returns-then-v-low
unfolding defaulted_name
returns-then-v-low c = ap Err c.refused.ensures ∙ guarded_no _ _ _ _ _ _ c.field.ensures c.in_ok-v.was (lt-leb _ _ c.if-v-low.true)

pub returns : goal.returns
unfolding defaulted_name
returns c = guarded_on _ _ _ _ _ _ c.field.ensures c.in_ok-v.was (le-leb _ _ c.if-v-low.false)
