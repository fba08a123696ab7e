-- `turning::step::Known::allowed` meets its contract.
use Rattle.turning.proofs.StepLaws.{four_words}
use Rattle.turning.proofs.known.Known.allowed.Goals as goal

pub bounds-self-node : goal.bounds-self-node
bounds-self-node c = four_words c.requires.0 c.requires.1
