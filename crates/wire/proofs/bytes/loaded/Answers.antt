-- `wire::bytes::loaded` meets its contract: the words stand at the front of the slice.
use Rattle.wire.proofs.OverBytes.{of_front}
use Rattle.wire.proofs.bytes.loaded.Goals as goal

pub returns : goal.returns
returns c = of_front c.load-n.auto.words c.load-n.ensures
