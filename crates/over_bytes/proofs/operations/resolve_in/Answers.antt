-- `over_bytes::operations::resolve_in` meets its contract.
use Prim.Native.Nat.{ℕ}
use native.Mathlib.Omega.{arith}
use lib.ListN.{length, replicate, length-replicate}
use borrow.Author.Rules.{rules}
use Rattle.over_bytes.proofs.IntoBytes.{made_room, room_into, fits_into, tried_into}
use Rattle.over_bytes.proofs.operations.resolve_in.Goals as goal

pub resolve_into-a-requires : goal.resolve_into-a-requires
resolve_into-a-requires g c =
    let made = made_room (length (replicate {A = ℕ} g.row.WORDS 0)) g.row.ROOM c.requires.3 (omega (arith, length-replicate {A = ℕ} g.row.WORDS 0, c.requires.1)) in
    room_into c.loaded-words.ensures made c.args.out.now c.room-m.ensures

pub put-requires : goal.put-requires
put-requires g c =
    let made = made_room (length (replicate {A = ℕ} g.row.WORDS 0)) g.row.ROOM c.requires.3 (omega (arith, length-replicate {A = ℕ} g.row.WORDS 0, c.requires.1)) in
    fits_into c.loaded-words.ensures made c.args.out.now c.room-m.ensures c.resolve_into-a.ensures (search rules)

pub returns : goal.returns
returns g c =
    let made = made_room (length (replicate {A = ℕ} g.row.WORDS 0)) g.row.ROOM c.requires.3 (omega (arith, length-replicate {A = ℕ} g.row.WORDS 0, c.requires.1)) in
    tried_into c.loaded-words.ensures made c.args.out.now c.room-m.ensures c.resolve_into-a.ensures c.put.ensures
