-- `resolve::order::order_rules` meets its contract.
use Rattle.resolve.proofs.PlacesLaws.{roots_pass, some_root, root-room, roots_next, roots_end}
use Rattle.resolve.proofs.order.order_rules.Goals.{then-note-eq0, else-note-eq0}
use Rattle.resolve.proofs.order.order_rules.Goals as goal

pub overflow_sub-note : goal.overflow_sub-note
overflow_sub-note c = some_root c.requires (c.loop-note.invariant c.requires) c.loop-note-test.true

pub put_word-requires : goal.put_word-requires
put_word-requires c = root-room c.requires (c.loop-note.invariant c.requires) c.loop-note-test.true c.if-note-eq0.true

pub loop-note-preserved : goal.loop-note-preserved
loop-note-preserved c =
    λ a. elim c.if-note-eq0.branch [
      | then-note-eq0 w ↦ rw w.places-is (roots_next a (c.loop-note.invariant a) c.loop-note-test.true w.if-note-eq0.true w.put_word.ensures)
      | else-note-eq0 w ↦ rw w.places-is (roots_pass a (c.loop-note.invariant a) c.loop-note-test.true w.if-note-eq0.false)
    ]

pub returns : goal.returns
returns c a = roots_end a (c.loop-note.invariant a) c.loop-note-test.false
