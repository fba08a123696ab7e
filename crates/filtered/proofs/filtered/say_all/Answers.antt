-- `filtered::filtered::say_all` meets its contract.
use native.Mathlib.Omega.{arith}
use mathlib.Core.Path.{◌∙◌, ap}
use lib.ListN.{get_or}
use Rattle.filtered.specs.Said.{said, said_in}
use Rattle.chains.proofs.FillLaws.{next, left_there}
use Rattle.filtered.proofs.filtered.say_all.Goals as goal

pub loop-j-preserved : goal.loop-j-preserved
unfolding said_in
loop-j-preserved c =
    next _ _ c.loop-j.invariant (omega (arith, c.loop-j.invariant.long))
    (c.say.ensures ∙ ap (λ m. said c.args.filter (get_or c.args.taken.now c.loop-j.j 0) m c.loop-j.j) (left_there _ _ c.loop-j.invariant))
