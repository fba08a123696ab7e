-- What falls at each call is the number of levels left, and at the same level the rank of the walker; in a row, the number of words left.
use Prim.Native.Nat.{◌+◌, ◌-◌, ◌*◌}
use mathlib.Core.Path.{◌≡◌}
use lib.ListN.{length}
use Rattle.definitions.specs.Table.{scalar as scalar-sort, judgment as judgment-sort}
use Rattle.reading.proofs.RowLaws.{Walking}
use Rattle.reading.proofs.tree.+walkers.Given as goal

abbrev pub decreases-after_judgment : goal.decreases-after_judgment
decreases-after_judgment l = l.left * 8 + 3

abbrev pub decreases-after_other : goal.decreases-after_other
decreases-after_other l = l.left * 8 + 3

abbrev pub decreases-after_scalar : goal.decreases-after_scalar
decreases-after_scalar l = l.left * 8 + 4

abbrev pub decreases-aggregate : goal.decreases-aggregate
decreases-aggregate l = l.left * 8 + 2

abbrev pub decreases-choice : goal.decreases-choice
decreases-choice l = l.left * 8 + 2

abbrev pub decreases-exists : goal.decreases-exists
decreases-exists l = l.left * 8 + 2

abbrev pub decreases-judgments : goal.decreases-judgments
decreases-judgments l = l.levels * 8 + 1

abbrev pub decreases-patterns : goal.decreases-patterns
decreases-patterns l = l.left * 8 + 2

abbrev pub decreases-scalars : goal.decreases-scalars
decreases-scalars l = l.levels * 8 + 1

abbrev pub invariant-judgments-loop-k : goal.invariant-judgments-loop-k
invariant-judgments-loop-k l =
    Walking l.part.heads.now.names judgment-sort l.context l.part.words.now l.levels l.count l.start l.initial.notes l.left l.k l.at l.notes × (length l.notes ≡ length l.initial.notes)

abbrev pub decreases-judgments-loop-k : goal.decreases-judgments-loop-k
decreases-judgments-loop-k l = length l.part.words.now - l.at

abbrev pub invariant-scalars-loop-k : goal.invariant-scalars-loop-k
invariant-scalars-loop-k l =
    Walking l.part.heads.now.names scalar-sort l.context l.part.words.now l.levels l.count l.start l.initial.notes l.left l.k l.at l.notes × (length l.notes ≡ length l.initial.notes)

abbrev pub decreases-scalars-loop-k : goal.decreases-scalars-loop-k
decreases-scalars-loop-k l = length l.part.words.now - l.at
