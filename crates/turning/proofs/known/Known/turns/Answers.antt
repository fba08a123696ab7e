-- `turning::turns::Known::turns` meets its contract.
use Rattle.std.proofs.lemmas.Result.{err_from_is_err_and}
use Rattle.turning.proofs.TurnsLaws.{turns_begin, turns-asked, turns_next, turns-stop, turns-end}
use Rattle.turning.proofs.known.Known.turns.Goals as goal

pub loop-i-init : goal.loop-i-init
loop-i-init c = let e = c.default-root.ensures in turns_begin _ _ _ _ _ _ e.0 e.1.0 e.1.1.1

pub turn_note-requires : goal.turn_note-requires
turn_note-requires c = turns-asked _ _ _ _ _ c.loop-i.invariant c.loop-i-test.true c.requires

pub returns-in_err-root : goal.returns-in_err-root
returns-in_err-root c =
    let p = err_from_is_err_and c.from_residual.result c.from_residual.ensures.1 in
    rw (p.1, p.2) (turns-stop _ _ _ _ _ c.loop-i.invariant c.loop-i-test.true c.turn_note.ensures c.in_err-root.was)

pub loop-i-preserved : goal.loop-i-preserved
loop-i-preserved c = turns_next _ _ _ _ _ c.loop-i.invariant c.loop-i-test.true c.turn_note.ensures c.in_ok-root.was

pub returns : goal.returns
returns c = turns-end _ _ _ _ _ c.loop-i.invariant c.loop-i-test.false
