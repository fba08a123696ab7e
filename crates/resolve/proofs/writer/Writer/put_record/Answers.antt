-- `resolve::writer::Writer::put_record` meets its contract.
use native.Mathlib.Omega.{arith}
use Prim.Native.Nat.{ℕ, ◌+◌}
use mathlib.Core.Path.{ap}
use Rattle.resolve.proofs.WriteLaws.{piece_stays, piece_found, list_inside, room-first, room_then, writes_then, writer-put}
use Rattle.resolve.proofs.writer.Writer.put_record.Goals as goal

pub put_words-requires : goal.put_words-requires
put_words-requires c = rw (piece_stays _ _ c.if-list-eq0.true) at c.requires.1

pub returns-then-list-eq0 : goal.returns-then-list-eq0
returns-then-list-eq0 c = rw (piece_stays _ _ c.if-list-eq0.true) (record { written = c.put_words.ensures; carried = writer-put c.put_words.ensures })

pub put_lists-requires : goal.put_lists-requires
put_lists-requires c =
    let place = ap (λ (x : ℕ). x + 4) c.slots_place-place.ensures.0 in
    (c.list_at.ensures.few, omega arith, omega (arith, list_inside _ _ c.requires.0 c.if-list-eq0.false place), room-first c.args.self.now _ _ (rw (piece_found _ c.list_at.ensures c.if-list-eq0.false place) at c.requires.1))

pub slice_bounds-put_words-count : goal.slice_bounds-put_words-count
slice_bounds-put_words-count c =
    omega (arith, list_inside _ _ c.requires.0 c.if-list-eq0.false (ap (λ (x : ℕ). x + 4) c.slots_place-place.ensures.0))

pub slice_bounds-put_words-start : goal.slice_bounds-put_words-start
slice_bounds-put_words-start c =
    omega (arith, list_inside _ _ c.requires.0 c.if-list-eq0.false (ap (λ (x : ℕ). x + 4) c.slots_place-place.ensures.0))

pub put_words-requires-2 : goal.put_words-requires-2
put_words-requires-2 c =
    room_then _ (rw (piece_found _ c.list_at.ensures c.if-list-eq0.false (ap (λ (x : ℕ). x + 4) c.slots_place-place.ensures.0)) at c.requires.1) c.put_lists.ensures

pub returns : goal.returns
returns c =
    let p = writes_then c.put_lists.ensures c.put_words-2.ensures in
    rw (piece_found _ c.list_at.ensures c.if-list-eq0.false (ap (λ (x : ℕ). x + 4) c.slots_place-place.ensures.0)) (record { written = p; carried = writer-put p })
