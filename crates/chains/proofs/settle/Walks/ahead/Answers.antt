-- `chains::settle::Walks::ahead` meets its contract.
use native.Mathlib.Omega.{arith}
use mathlib.Core.Path.{refl, ◌∙◌}
use Rattle.chains.proofs.AheadLaws.{ahead_begin, stops_settled, stops-ring, stops-empty, stops_end, goes_on}
use Rattle.chains.proofs.settle.Walks.ahead.Goals as goal

pub loop-init : goal.loop-init
loop-init c = record { going = ahead_begin _ _ _ _ _ c.requires (omega arith); keeps = record { dir = refl; lent = refl } }

pub returns-in-Settled-clause-goes : goal.returns-in-Settled-clause-goes
returns-in-Settled-clause-goes c = stops_settled _ _ _ _ _ c.loop.invariant.going (omega arith) c.in-Settled.ensures

pub returns-in-OnPath-clause-goes : goal.returns-in-OnPath-clause-goes
returns-in-OnPath-clause-goes c = stops-ring _ _ _ _ _ c.loop.invariant.going (omega arith) c.in-OnPath.ensures

pub returns-in-NoKinds-clause-goes : goal.returns-in-NoKinds-clause-goes
returns-in-NoKinds-clause-goes c =
    let r = c.in-NoKinds.ensures.reads in
    rw r.marks (stops_end _ _ _ _ _ c.loop.invariant.going (omega arith) c.in-Unseen.ensures (rw c.loop.invariant.keeps.dir at r.reads) (omega arith))

pub returns-in-At-clause-goes : goal.returns-in-At-clause-goes
returns-in-At-clause-goes c =
    let r = c.in-At.ensures.reads in
    rw r.marks (stops_end _ _ _ _ _ c.loop.invariant.going (omega arith) c.in-Unseen.ensures (rw c.loop.invariant.keeps.dir at r.reads) (omega (arith, r.ends)))

pub loop-preserved : goal.loop-preserved
loop-preserved c =
    let r = c.in-Leads.ensures.reads in record {
      going = rw r.marks (goes_on _ _ _ _ _ c.loop.invariant.going (omega arith) c.in-Unseen.ensures (rw c.loop.invariant.keeps.dir at r.reads) (omega arith) (omega arith) (omega arith));
      keeps = record { dir = c.read_name.ensures.keeps.dir ∙ c.loop.invariant.keeps.dir; lent = c.read_name.ensures.keeps.lent ∙ c.loop.invariant.keeps.lent };
    }

pub returns-clause-goes : goal.returns-clause-goes
returns-clause-goes c = stops-empty _ _ _ _ _ c.loop.invariant.going (omega arith)
