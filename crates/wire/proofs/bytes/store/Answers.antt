-- `wire::bytes::store` meets its contract: the bytes of the words stored, and then the bytes as they were.
use native.Mathlib.Omega.{arith}
use mathlib.Core.Path.{refl, ◌∙◌}
use Rattle.definitions.specs.Bytes.{bytes_of}
use Rattle.wire.proofs.ByteLaws.{store_turn}
use Rattle.wire.proofs.bytes.store.Goals as goal

pub loop-i-init : goal.loop-i-init
unfolding bytes_of
loop-i-init c = refl

pub loop-i-preserved : goal.loop-i-preserved
loop-i-preserved c = store_turn _ _ c.loop-i-test.true (omega arith) c.loop-i.invariant (c.copy_from_slice.ensures.after ∙ c.to_le_bytes.ensures)
