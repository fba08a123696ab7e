-- `resolve::finish::finish` meets its contract.
use mathlib.Core.Path.{refl}
use Rattle.resolve.proofs.finish.finish.Goals as goal

pub finish_in-requires : goal.finish_in-requires
finish_in-requires g c = (c.requires.0, record { most = g.row.MOST; zeros = refl; room = c.requires.1 })
