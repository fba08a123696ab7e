-- `checking::rewrite::write_again` meets its contract.
use mathlib.Core.Path.{◌≡◌}
use lib.ListN.{take}
use Rattle.checking.proofs.rewrite.write_again.Given as goal

-- the words so far are the pack's
abbrev pub invariant-loop-i : goal.invariant-loop-i
invariant-loop-i l = take l.i l.out ≡ take l.i l.pack
