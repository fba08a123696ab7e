-- `over_bytes::operations::written` meets its contract: a refusal for want of room in the short slice leaves the output as it was, and any other answer is the same with more room.
use mathlib.Core.Path.{refl, sym, ◌∙◌}
use Rattle.over_bytes.proofs.Writes.{writes}
use Rattle.wire.proofs.OverBytes.{given-short, given-long, kept_out}
use Rattle.over_bytes.proofs.operations.written.Goals as goal
use Rattle.over_bytes.proofs.operations.written.Goals.{then-pack-le-BYTES+else-not-lacks_room, else-pack-le-BYTES}

pub returns-then-not-lacks_room : goal.returns-then-not-lacks_room
returns-then-not-lacks_room g c w r =
    given-short (writes w) (c.write_in-a.ensures w r) (sym c.lacks_room.ensures ∙ c.if-not-lacks_room.true) c.encode.ensures

pub returns : goal.returns
returns g c w r =
    given-long (writes w) (c.write_in-a-2.ensures w r) _
    (elim c.if-pack-le-BYTES.branch [
      | then-pack-le-BYTES+else-not-lacks_room b ↦ b.out-is ∙ kept_out (writes w) (b.write_in-a.ensures w r) (sym b.lacks_room.ensures ∙ b.if-not-lacks_room.false)
      | else-pack-le-BYTES b ↦ b.out-is
    ]) refl c.encode-2.ensures
