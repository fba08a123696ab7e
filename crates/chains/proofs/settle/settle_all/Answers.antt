-- `chains::settle::settle_all` meets its contract.
use native.Mathlib.Omega.{arith}
use mathlib.Core.Path.{sym, subst}
use Rattle.chains.specs.DirectoryWord.{Reaches}
use Rattle.chains.proofs.SettleLaws.{walkable, walk_on, all_settled}
use Rattle.chains.proofs.settle.settle_all.Goals as goal

pub walk-requires : goal.walk-requires
walk-requires c = (walkable _ _ _ _ _ c.requires.1 c.loop-name.invariant (omega arith), subst (Reaches c.args.dir.now) (sym c.loop-name.invariant.long) c.requires.2)

pub loop-name-preserved : goal.loop-name-preserved
loop-name-preserved c = walk_on _ _ _ _ _ c.requires.1 c.loop-name.invariant (omega arith) c.walk.ensures

pub returns : goal.returns
returns c = all_settled _ _ _ _ _ c.requires.1 c.loop-name.invariant (omega arith)
