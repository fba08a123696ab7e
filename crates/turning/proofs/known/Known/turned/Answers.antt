-- `turning::step::Known::turned` meets its contract.
use Rattle.turning.proofs.StepLaws.{turned-out}
use Rattle.turning.proofs.known.Known.turned.Goals as goal

pub returns : goal.returns
returns c = turned-out c.args.self.now c.args.node c.slots-relation.ensures c.turn.ensures
