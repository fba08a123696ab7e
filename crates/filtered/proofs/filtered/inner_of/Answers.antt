-- `filtered::filtered::inner_of` meets its contract.
use native.Mathlib.Omega.{arith}
use Rattle.filtered.proofs.SaidLaws.{inner-none, inner_some}
use Rattle.filtered.proofs.filtered.inner_of.Goals as goal

pub returns-in_err-direct : goal.returns-in_err-direct
returns-in_err-direct c = rw c.from_residual.ensures (inner-none _ _ c.in_err-direct.ensures)

pub returns : goal.returns
returns c = inner_some _ _ c.in_ok-direct.ensures (omega (arith, c.from.ensures)) _ c.checked_sub.ensures
