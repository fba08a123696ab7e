-- `filtered::filtered::inner_words` meets its contract.
use Rattle.filtered.specs.Said.{InnerWords}
use Rattle.filtered.proofs.filtered.inner_words.Given as goal

abbrev pub invariant-loop-j : goal.invariant-loop-j
invariant-loop-j l = InnerWords l.taken l.j l.words
