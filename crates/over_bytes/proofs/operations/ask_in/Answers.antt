-- `over_bytes::operations::ask_in` meets its contract: the words loaded are answered for.
use Rattle.definitions.specs.Operations.{answer_to}
use Rattle.over_bytes.proofs.Writes.{asks_none}
use Rattle.wire.proofs.OverBytes.{answered}
use Rattle.over_bytes.proofs.operations.ask_in.Goals as goal

pub returns : goal.returns
returns g c =
    let q = c.args.q in
    answered (answer_to q) (asks_none q) c.loaded-words.ensures c.answer_to.ensures c.encode.ensures
