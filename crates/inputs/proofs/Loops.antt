-- One turn of the loops over items and over blocks.
use Rattle.std.proofs.Common.{◌≡◌, ℕ, suc, ◌+◌, ◌-◌, ◌*◌, ◌<◌, ◌≤◌, List, eqb, Ok, ap, arith}
use Rattle.definitions.specs.Table.{pick}
use Rattle.definitions.specs.Form.{repeats}
use Rattle.chains.specs.Record.{value_at}
use Rattle.inputs.specs.declared.inputs.Seen.{Seen}
use Rattle.inputs.specs.Blocks.{item_declaration, seen_after, seen_items, seen_block, then_so, seen_blocks}

pub items_turn : (ws : List ℕ) (name at count i : ℕ) (seen : Seen) → i < count
    → seen_items ws name at (count - i) seen ≡ seen_items ws name (at + 3) (count - (i + 1)) (pick (eqb (value_at ws at) name) (seen_after seen (item_declaration ws at)) seen)
unfolding seen_items
items_turn ws name at count i seen h = let k : count - i ≡ suc (count - (i + 1)) = omega arith in ap (λ (m : ℕ). seen_items ws name at m seen) k

pub items_end : (ws : List ℕ) (name at count i : ℕ) (seen : Seen) → count ≤ i → seen_items ws name at (count - i) seen ≡ seen
unfolding seen_items
items_end ws name at count i seen h = let k : count - i ≡ 0 = omega arith in ap (λ (m : ℕ). seen_items ws name at m seen) k

pub blocks_turn : (ws : List ℕ) (origin name at count i : ℕ) (seen : Seen) → i < count
    → seen_blocks ws origin name at (count - i) seen ≡ then_so (seen_block ws origin name at seen) (seen_blocks ws origin name (at + 2 + 3 * repeats (value_at ws (at + 1))) (count - (i + 1)))
unfolding seen_blocks
blocks_turn ws origin name at count i seen h = let k : count - i ≡ suc (count - (i + 1)) = omega arith in ap (λ (m : ℕ). seen_blocks ws origin name at m seen) k

pub blocks_end : (ws : List ℕ) (origin name at count i : ℕ) (seen : Seen) → count ≤ i → seen_blocks ws origin name at (count - i) seen ≡ Ok seen
unfolding seen_blocks
blocks_end ws origin name at count i seen h = let k : count - i ≡ 0 = omega arith in ap (λ (m : ℕ). seen_blocks ws origin name at m seen) k
