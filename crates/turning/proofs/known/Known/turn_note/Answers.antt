-- `turning::turns::Known::turn_note` meets its contract.
use Rattle.turning.proofs.NoteLaws.{opens-root}
use Rattle.turning.proofs.known.Known.turn_note.Goals as goal

pub returns : goal.returns
returns c = opens-root _ _ _ _ _ c.read-note.ensures c.if-note-ne0.false c.opened-root.ensures
