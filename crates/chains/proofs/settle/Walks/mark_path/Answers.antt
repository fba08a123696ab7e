-- `chains::settle::Walks::mark_path` meets its contract.
use native.Mathlib.Omega.{arith}
use mathlib.Core.Path.{◌∙◌, sym}
use Rattle.chains.proofs.ByName.{declarations_by}
use Rattle.chains.proofs.AheadLaws.{path-next, path-end}
use Rattle.chains.proofs.settle.Walks.mark_path.Goals as goal

pub loop-preserved : goal.loop-preserved
loop-preserved c =
    let m = c.loop.invariant.marking in record {
      marking = path-next _ _ _ _ _ m c.requires.1 (omega arith) (rw c.loop.invariant.keeps.dir at c.declared.ensures.says ∙ sym (declarations_by _ _ (omega (arith, m.low, m.long, c.args.self.now.reaches.most)))) c.next_name-n.ensures;
      steps = c.loop.invariant.steps;
      keeps = record { dir = c.loop.invariant.keeps.dir; lent = c.loop.invariant.keeps.lent };
    }

pub returns-clause-marks : goal.returns-clause-marks
returns-clause-marks c = record { marks = path-end _ _ _ _ _ c.loop.invariant.marking (omega arith); steps = c.loop.invariant.steps }
