-- `filtered::filtered::filtered_in` meets its contract.
use native.Mathlib.Omega.{arith}
use mathlib.Core.Path.{◌∙◌, ap}
use Rattle.std.specs.Prelude.{Err}
use Rattle.pack.proofs.StepLaws.{exit}
use Rattle.chains.proofs.AnswerLaws.{front_length}
use Rattle.chains.proofs.EntryLaws.{directed, lent-said, reaches_kept}
use Rattle.filtered.proofs.FilterLaws.{filter-refused, filter-room, filter-done}
use Rattle.filtered.proofs.filtered.filtered_in.Goals as goal

pub returns-in_err-l : goal.returns-in_err-l
returns-in_err-l c = filter-refused _ _ _ (exit c.from_residual.ensures.1 ∙ c.in_err-l.ensures.answers) (exit c.from_residual.ensures.1)

pub returns-then-out-count : goal.returns-then-out-count
returns-then-out-count c =
    let d = directed c.requires.0.clear c.check_directory.ensures c.in_ok-l.was in filter-room _ _ _ d.checked d.named (omega arith) (ap Err c.refused.ensures)

pub fill-requires : goal.fill-requires
fill-requires c =
    let d = directed c.requires.0.clear c.check_directory.ensures c.in_ok-l.was in (
      d,
      lent-said d c.requires.0.lent,
      reaches_kept c.check_directory.auto.dir c.requires.0.reaches,
      lent-said d c.requires.1,
      front_length
          c.args.out.now _ (omega arith),
    )

pub returns : goal.returns
returns c =
    let d = directed c.requires.0.clear c.check_directory.ensures c.in_ok-l.was in
    filter-done _ _ _ d.checked d.named c.if-out-count.false c.fill.ensures
