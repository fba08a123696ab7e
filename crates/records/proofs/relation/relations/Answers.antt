-- `records::relation::relations` meets its contract.
use Rattle.std.proofs.Common.{arith}
use Rattle.definitions.specs.Pack.{relations}
use Rattle.definitions.specs.Form.{says}
use Rattle.records.proofs.KeptLaws.{noted_err}
use Rattle.records.proofs.DirectoryLaws.{count-read, relating, its-turn, relating_on}
use Rattle.records.proofs.LoopLaws.{count_err, turn_err, noted-all}
use Rattle.records.proofs.relation.relations.Goals as goal

pub returns-in_err-count : goal.returns-in_err-count
unfolding relations
returns-in_err-count c = noted_err (search (count_err, c.in_err-count.ensures)) c.from_residual.ensures.1

pub loop-i-init : goal.loop-i-init
loop-i-init c = let r = count-read _ _ _ c.field.ensures c.in_ok-count.was in relating _ _ c.requires.1 r.few r.late

pub returns-in_err-next : goal.returns-in_err-next
unfolding relations says
returns-in_err-next c =
    let g = c.loop-i.invariant in
    let answers = (its-turn _ _ g c.in_err-next.ensures).answers in
    noted_err (search (turn_err, g.work, c.in_ok-count.ensures, answers, arith)) c.from_residual-in_err-next.ensures.1

pub loop-i-preserved : goal.loop-i-preserved
loop-i-preserved c = relating_on _ _ c.loop-i.invariant (omega arith) c.in_ok-next.ensures (omega arith)

pub returns : goal.returns
unfolding relations
returns c = noted-all c.field.ensures c.in_ok-count.was c.loop-i.invariant.work (omega arith)
