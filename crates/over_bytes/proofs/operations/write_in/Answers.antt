-- `over_bytes::operations::write_in` meets its contract: the output is given what the operation writes.
use Prim.Native.Nat.{ℕ}
use lib.ListN.{length-replicate}
use Rattle.over_bytes.proofs.Writes.{writes}
use Rattle.wire.proofs.OverBytes.{fits_out, tried, tried_as}
use Rattle.over_bytes.proofs.operations.write_in.Goals as goal

pub put-requires : goal.put-requires
put-requires g c =
    let a = c.requires.4.1 _ _ _ _ c.run-a.ensures in
    fits_out (writes c.requires.4.0) _ _ c.run-a.new.arg3 _ _ c.room-m.ensures a.answers c.run-a.auto.arg3

pub returns : goal.returns
returns g c w r =
    let a = r _ _ _ _ c.run-a.ensures in
    tried_as (length-replicate {A = ℕ} g.row.ROOM 0) (tried (writes w) _ _ c.loaded-words.ensures c.room-m.ensures a.answers a.leaves c.run-a.auto.arg3 c.put.ensures)
