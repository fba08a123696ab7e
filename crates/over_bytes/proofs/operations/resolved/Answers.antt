-- `over_bytes::operations::resolved` meets its contract.
use mathlib.Core.Path.{refl, sym, ◌∙◌}
use Rattle.definitions.specs.declared.operation.Writing.TheVariants.{Resolve}
use Rattle.over_bytes.proofs.Writes.{writes}
use Rattle.wire.proofs.OverBytes.{given-short, given-long, kept_out}
use Rattle.over_bytes.proofs.operations.resolved.Goals as goal
use Rattle.over_bytes.proofs.operations.resolved.Goals.{then-pack-le-BYTES+else-not-lacks_room, else-pack-le-BYTES}

pub returns-then-not-lacks_room : goal.returns-then-not-lacks_room
returns-then-not-lacks_room c =
    given-short (writes Resolve) c.resolve_in-given.ensures (sym c.lacks_room.ensures ∙ c.if-not-lacks_room.true) c.encode.ensures

pub returns : goal.returns
returns c =
    given-long (writes Resolve) c.resolve_in-a.ensures _
    (elim c.if-pack-le-BYTES.branch [
      | then-pack-le-BYTES+else-not-lacks_room b ↦ b.out-is ∙ kept_out (writes Resolve) b.resolve_in-given.ensures (sym b.lacks_room.ensures ∙ b.if-not-lacks_room.false)
      | else-pack-le-BYTES b ↦ b.out-is
    ]) refl c.encode-2.ensures
