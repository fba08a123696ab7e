-- `filtered::filtered::inner_words` meets its contract.
use native.Mathlib.Omega.{arith}
use Rattle.filtered.proofs.InnerLaws.{words-next}
use Rattle.filtered.proofs.filtered.inner_words.Goals as goal

pub loop-j-preserved : goal.loop-j-preserved
loop-j-preserved c = words-next c.loop-j.invariant (omega arith) _ c.inner_word.ensures
