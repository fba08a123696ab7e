-- `checking::check::names_said` meets its contract.
use Prim.Native.Nat.{◌≤◌}
use mathlib.Core.Path.{refl, sym}
use native.Mathlib.Omega.{arith}
use borrow.Author.Tests.{le-leb, lt-leb}
use lib.ListN.{length, get_or-eq_default}
use Rattle.checking.specs.CheckPromises.{names_said}
use Rattle.checking.proofs.check.names_said.Goals as goal

pub returns-then-pack-lt2 : goal.returns-then-pack-lt2
unfolding names_said
returns-then-pack-lt2 c = let h : length c.args.pack.now ≤ 1 = omega arith in sym (rw (get_or-eq_default c.args.pack.now 0 h) refl)

pub returns-then-n-gt-MOST_NAMES : goal.returns-then-n-gt-MOST_NAMES
unfolding names_said
returns-then-n-gt-MOST_NAMES c = sym (simp (lt-leb _ _ c.if-n-gt-MOST_NAMES.true))

pub returns : goal.returns
unfolding names_said
returns c = sym (simp (le-leb _ _ c.if-n-gt-MOST_NAMES.false))
