-- Of a checked pack, what the functions that turn notes ask for.
use Prim.Native.Nat.{ℕ, suc, ◌+◌, ◌<◌}
use native.Mathlib.Omega.{arith}
use mathlib.Core.Path.{◌≡◌, refl, fun_ext}
use mathlib.Core.List.{List, [], ◌∷◌}
use mathlib.Core.Bool.{Bool, true, false}
use lib.ListN.{length}
use lib.Dec.{eqb}
use borrow.Author.Tests.{eqb-true, eqb-false}
use Rattle.definitions.specs.Records.{Pack}
use Rattle.definitions.specs.Pack.{WellFormed, yes, read, words}
use Rattle.chains.specs.PackDirectory.{BlocksAt}
use Rattle.filtered.specs.Acts.{ActsOf}
use Rattle.chains.specs.Record.{value_at}
use Rattle.filtered.specs.Taking as taking
use Rattle.definitions.specs.Tables.{tables}
use Rattle.directions.specs.Words.{tables_in}
use Rattle.definitions.specs.Inputs.{input}
use Rattle.inputs.specs.Blocks.{input_in, refuses_by}
use Rattle.inputs.proofs.BlocksStand.{reads_inputs}
use Rattle.directions.proofs.CheckedTables.{tables-are}
use Rattle.turning.specs.Notes.{Note, notes_of_pack}
use Rattle.turning.specs.Turns.{known_of}
use Rattle.turning.specs.TurnPromises.{known_in, Stands, Placed}
use Rattle.turning.specs.Asked.{InWords}
use Rattle.turning.proofs.PlacedLaws.{all_placed}

inside-words : (ws : List ℕ) (i : ℕ) (n : Note) → Stands ws i n → n.place < length ws
inside-words ws i n s = go (eqb n.inside 0) refl
  where
    go : (b : Bool) → eqb n.inside 0 ≡ b → n.place < length ws
    go true e = let f = s.root (eqb-true n.inside 0 e) in omega arith
    go false e = let f = (s.node (eqb-false n.inside 0 e)).fields in omega arith

placed_in : (ws : List ℕ) (i : ℕ) (ns : List Note) → Placed ws i ns → InWords ws ns
placed_in ws i [] h = tt
placed_in ws i (n ∷ ns) h = (h.0.near, inside-words ws i n h.0, placed_in ws (suc i) ns h.1)

-- the notes of a pack may be marked
pub notes-inside : (p : Pack) → WellFormed p → InWords (words p) (notes_of_pack p)
notes-inside p w = placed_in (words p) 1 (notes_of_pack p) (all_placed p w)

-- the tables and the inputs are what is known of the pack
pub known_is : (ws acts taken : List ℕ) (p : Pack) → read ws ≡ yes p → ActsOf ws acts → taking.KnowsEntities ws taken → {at : ℕ} → BlocksAt ws at → known_in ws acts taken (at + 1) (value_at ws at) ≡ known_of p
known_is ws acts taken p h says knows {at} e =
    let t : tables_in ws acts taken ≡ tables p.relations = tables-are ws acts taken p h says knows in
    let r = reads_inputs ws p h e in
    let i : (λ (origin owner n : ℕ). refuses_by (input_in ws (at + 1) (value_at ws at) origin owner n)) ≡ input p.blocks =
    fun_ext (λ origin. fun_ext (λ owner. fun_ext (λ n. r.inputs origin owner n))) in
    λ j. record { tables = t j; input = i j }
