-- `turning::asked::ask_notes` meets its contract.
use Rattle.std.proofs.Common.{◌<◌, arith}
use Rattle.turning.proofs.MarkLaws.{its-code, long_enough, mark_asked, marks-next, marks-end}
use Rattle.turning.proofs.asked.ask_notes.Goals as goal

pub ask_note-current-requires : goal.ask_note-current-requires
ask_note-current-requires c = let e = long_enough c.args.notes.now c.args.all c.requires.room in let h = c.loop-code-test.true in let more : c.loop-code.code-index < c.args.all = omega arith in
    mark_asked _ _ _ _ c.loop-code.invariant (omega arith) c.requires (its-code _ _ _ more)

pub loop-code-preserved : goal.loop-code-preserved
loop-code-preserved c = let e = long_enough c.args.notes.now c.args.all c.requires.room in let h = c.loop-code-test.true in let more : c.loop-code.code-index < c.args.all = omega arith in
    marks-next _ _ _ _ c.loop-code.invariant (omega arith) (its-code _ _ _ more) c.ask_note-current.ensures

pub returns : goal.returns
returns c = let e = long_enough c.args.notes.now c.args.all c.requires.room in let h = c.loop-code-test.false in marks-end _ _ _ _ c.loop-code.invariant (omega arith)
