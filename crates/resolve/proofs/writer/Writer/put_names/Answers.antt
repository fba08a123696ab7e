-- `resolve::writer::Writer::put_names` meets its contract.
use Rattle.resolve.proofs.WriteLaws.{name_word, mapped_next}
use Rattle.resolve.proofs.writer.Writer.put_names.Goals as goal

pub loop-name-preserved : goal.loop-name-preserved
loop-name-preserved c = mapped_next name_word _ c.loop-name-test.true c.loop-name.invariant c.put_word.ensures
