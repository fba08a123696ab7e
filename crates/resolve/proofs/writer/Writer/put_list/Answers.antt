-- `resolve::writer::Writer::put_list` meets its contract.
use Rattle.resolve.proofs.WriteLaws.{list_put, writes_then}
use Rattle.resolve.proofs.writer.Writer.put_list.Goals as goal

pub returns : goal.returns
returns c = rw (list_put c.args.kind c.args.names.now) (writes_then c.put_word.ensures c.put_names.ensures)
