-- `kinds::all_kinds::places` meets its contract.
use native.Mathlib.Omega.{arith}
use mathlib.Core.Path.{refl, ap, ◌∙◌}
use Rattle.definitions.specs.Answers.{table_from}
use Rattle.kinds.specs.KindsPromises.{place_by}
use Rattle.chains.proofs.FillLaws.{next, done, held-mapped}
use Rattle.kinds.proofs.all_kinds.places.Goals as goal

pub bounds-marks-names : goal.bounds-marks-names
bounds-marks-names c = c.requires.1.names-below c.loop-j.j

pub loop-j-preserved : goal.loop-j-preserved
unfolding place_by
loop-j-preserved c = next _ _ c.loop-j.invariant (omega (arith, c.loop-j.invariant.long)) (rw (c.answer.ensures, c.from.ensures) refl)

pub returns : goal.returns
returns c = done _ _ c.loop-j.invariant (omega (arith, c.loop-j.invariant.long)) ∙ ap (table_from _ 0) c.requires.0 ∙ held-mapped c.args.names.now (place_by c.args.marks.now)
