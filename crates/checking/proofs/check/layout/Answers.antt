-- `checking::check::layout` meets its contract.
use Rattle.std.proofs.Common.{arith}
use Rattle.definitions.specs.Pack.{layout, inner}
use Rattle.pack.proofs.StepLaws.{walks, exit}
use Rattle.checking.proofs.CheckLaws.{from_start, names-most, clear-read, whole_no, whole_on}
use Rattle.checking.proofs.check.layout.Goals as goal

pub returns-in_err-c1 : goal.returns-in_err-c1
unfolding layout inner
returns-in_err-c1 c = whole_no _ _ _ _ (from_start _ _ c.start-c.ensures (search (walks, c.in_err-c1.ensures) depth 12)) (exit c.from_residual.ensures.1)

pub returns-in_err-n : goal.returns-in_err-n
unfolding layout inner
returns-in_err-n c = whole_no _ _ _ _ (from_start _ _ c.start-c.ensures (search (walks, c.in_ok-c1.ensures, c.in_err-n.ensures) depth 12)) (exit c.from_residual-in_err-n.ensures.1)

pub new-heads-requires : goal.new-heads-requires
new-heads-requires c = omega (arith, names-most _ _ _ c.field.ensures c.in_ok-n.was)

pub invariant_of-pack : goal.invariant_of-pack
invariant_of-pack c = record { few = rw c.new-heads.ensures (names-most _ _ _ c.field.ensures c.in_ok-n.was) }

pub records-requires : goal.records-requires
records-requires c =
    rw c.new-heads.ensures (
      names-most _ _ _ c.field.ensures c.in_ok-n.was,
      clear-read _ _ c.start-c.ensures c.skip.ensures c.in_ok-c1.was c.field.ensures c.in_ok-n.was c.requires.1,
    )

pub returns : goal.returns
returns c =
    whole_on _ _ _ _ c.start-c.ensures c.skip.ensures c.in_ok-c1.was c.field.ensures c.in_ok-n.was (rw c.new-heads.ensures at c.records.ensures)
