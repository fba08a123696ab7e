-- What a mark says, as a number of a table of marks.
use Rattle.std.specs.Prelude.{ℕ, ◌+◌}
use Rattle.chains.specs.declared.settle.Mark.{Mark}
use Rattle.chains.specs.declared.settle.Mark.TheVariants.{Unseen, OnPath, Settled}

abbrev pub number_of_mark : Mark → ℕ
number_of_mark Unseen = 0
number_of_mark OnPath = 1
number_of_mark (Settled answer) = 2 + answer
