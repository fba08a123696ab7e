-- `checking::check::check_directory` meets its contract.
use Rattle.checking.proofs.CheckLaws.{without_notes}
use Rattle.checking.proofs.check.check_directory.Goals as goal

pub returns : goal.returns
returns c = without_notes c.check_notes.ensures
