-- `pack::cursor::Cursor::skip` meets its contract.
use Rattle.pack.proofs.StepLaws.{walks, handed}
use Rattle.pack.proofs.cursor.Cursor.skip.Goals as goal

pub returns-in_err-c : goal.returns-in_err-c
returns-in_err-c c = handed c.from_residual.ensures.1 (search (walks, c.in_err-c.ensures) depth 12)

pub returns : goal.returns
returns c = search (walks, c.in_ok-c.ensures) depth 12
