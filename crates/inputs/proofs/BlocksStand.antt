-- Where the blocks of a checked pack stand: after their count.
use Prim.Native.Nat.{ℕ, suc, ◌+◌, ◌<◌, ◌≤◌}
use native.Mathlib.Omega.{arith}
use mathlib.Core.Path.{◌≡◌, refl, ap, sym, ◌∙◌}
use mathlib.Core.List.{List, [], ◌∷◌, ◌++◌, append_assoc, append-nil}
use mathlib.Core.Bool.{Bool, true, false}
use mathlib.Core.Option.{Option, none, some}
use lib.ListN.{length, length-append}
use lib.Dec.{eqb}
use borrow.Author.Tests.{eqb-true, eqb-false}
use Rattle.pack.proofs.StepLaws.{at_most}
use Rattle.chains.proofs.PackParts.{first_kind_lem}
use Rattle.definitions.specs.Table.{pick, word_of, table, entry_of}
use Rattle.definitions.specs.Form.{words_all, FineAll, says, count, items, list_or_none, words_by, Fine}
use Rattle.definitions.specs.Records.{Item, Block, Pack}
use Rattle.definitions.specs.FieldRows.{to_row}
use Rattle.definitions.specs.Pack.{WellFormed, yes, read, item, block_items, block, blocks, defaulted, relations, rules, records, inner, layout, total, words}
use Rattle.pack.proofs.PackLaws.{words-read}
use Rattle.records.specs.Directory.{relations_at, rules_at, blocks_at}
use Rattle.chains.specs.PackDirectory.{BlocksAt}
use Rattle.definitions.specs.Inputs.{sequence, input}
use Rattle.chains.specs.Record.{value_at}
use Rattle.inputs.specs.Blocks.{input_in, refuses_by}
use Rattle.chains.proofs.RecordLaws.{value_there}
use Rattle.inputs.proofs.InputRead.{input-read, items_words, block_words, blocks_words, ItemsFit, BlockFits, BlocksFit}

-- ---- the blocks themselves

module _ (n : ℕ) where
  items-words : (l : List Item) → words_all {S = Unit {0}} (λ u a. u) (λ u a. words_by (item n) a) tt l ≡ items_words l
  unfolding item words_by
  items-words [] = refl
  items-words (i ∷ l) = ap (λ (x : List ℕ). word_of 31 i.name ∷ word_of 32 i.boolean ∷ word_of 33 i.entity ∷ x) (items-words l)

  pub block_words_lem : (b : Block) → words_by (block n) b ≡ block_words b
  unfolding block block_items words_by items
  block_words_lem b = ap (λ (x : List ℕ). word_of 29 b.origin ∷ word_of 30 (count list_or_none b.items) ∷ x) (go b.items)
    where
      go : (o : Option (List Item)) → words_all {S = Unit {0}} (λ u a. u) (λ u a. words_by (item n) a) tt (items list_or_none o) ≡ items_words (sequence o)
      go none = refl
      go (some l) = items-words l

  all_words : (bs : List Block) → words_all {S = Unit {0}} (λ u a. u) (λ u a. words_by (block n) a) tt bs ≡ blocks_words bs
  all_words [] = refl
  all_words (b ∷ bs) = ap (λ (x : List ℕ). x ++ words_all {S = Unit {0}} (λ u a. u) (λ u a. words_by (block n) a) tt bs) (block_words_lem b) ∙ ap (λ (x : List ℕ). block_words b ++ x) (all_words bs)

  pub blocks-words : (bs : List Block) → words_by (blocks n) bs ≡ word_of 28 (length bs) ∷ blocks_words bs
  unfolding blocks words_by count items
  blocks-words bs = ap (λ (x : List ℕ). word_of 28 (length bs) ∷ x) (all_words bs)

  items_fit : (l : List Item) → FineAll {S = Unit {0}} (λ u a. u) (λ u a. Fine (item n) a) tt l → ItemsFit l
  unfolding item Fine
  items_fit [] h = tt
  items_fit (i ∷ l) h = (h.0.0.0, h.0.1.0.0, h.0.1.1.0, items_fit l h.1)

  sequence-short : (o : Option (List Item)) → Fine (block_items n) o → (l : List Item) → o ≡ some l → length l < 16777215
  unfolding block_items Fine count says items
  sequence-short none f l e = let z : ◌≡◌ {A = ℕ} 0 1 = cc in absurd (omega arith)
  sequence-short (some m) f l e = go (eqb (length m) 16777215) refl f.1
    where
      same : m ≡ l
      same = cc

      go : (b : Bool) → eqb (length m) 16777215 ≡ b → pick b 0 (length m) ≡ length m → length l < 16777215
      go true h q = let z = eqb-true (length m) 16777215 h in absurd (omega arith)
      go false h q = let z = eqb-false (length m) 16777215 h in rw (← same) (omega (arith, f.0.0))

  sequence_fit : (o : Option (List Item)) → Fine (block_items n) o → (count list_or_none o < 16777216) × ItemsFit (sequence o)
  unfolding block_items Fine items
  sequence_fit none f = (f.0.0, tt)
  sequence_fit (some l) f = (f.0.0, items_fit l f.2)

  block-fits : (b : Block) → Fine (block n) b → BlockFits b
  unfolding block Fine
  block-fits b f = let s = sequence_fit b.items f.1 in record { origin = f.0.0; counts = s.0; short = sequence-short b.items f.1; items = s.1 }

  blocks_fit : (bs : List Block) → FineAll {S = Unit {0}} (λ u a. u) (λ u a. Fine (block n) a) tt bs → BlocksFit bs
  blocks_fit [] h = tt
  blocks_fit (b ∷ bs) h = (block-fits b h.0, blocks_fit bs h.1)

-- ---- a pack

-- the words before the blocks
pub record Stands (p : Pack) : Type 0 where
  pub before : List ℕ
  pub same : words p ≡ before ++ (word_of 28 (length p.blocks) ∷ blocks_words p.blocks)
  pub long : length before ≡ blocks_at p.names 2 (to_row p).1
  pub fits : BlocksFit p.blocks
  pub few : length p.blocks ≤ 64

pub blocks_stand : (p : Pack) → WellFormed p → Stands p
unfolding words layout inner records blocks Fine words_by items count blocks_at rules_at relations_at entry_of table
blocks_stand p w =
    let n : ℕ = p.names in
    let f = w.parts in
    let a : List ℕ = words_by (defaulted n) p.defaulted in
    let b : List ℕ = words_by (relations n) p.relations in
    let c : List ℕ = words_by (rules n) p.rules in
    let d : List ℕ = words_by (blocks n) p.blocks in
    record {
      before = word_of 1 (total p) ∷ word_of 2 n ∷ (a ++ (b ++ c));
      same =
          rw (first_kind_lem p.edition)
          (ap (λ (l : List ℕ). word_of 1 (total p) ∷ word_of 2 n ∷ l)
          (ap (λ (l : List ℕ). a ++ l) (sym (append_assoc b c d)) ∙ sym (append_assoc a (b ++ c) d) ∙ ap (λ (l : List ℕ). (a ++ (b ++ c)) ++ l) (blocks-words n p.blocks)));
      long = omega (arith, length-append a (b ++ c), length-append b c);
      fits = blocks_fit n p.blocks f.1.1.1.1.2;
      few = at_most n 28 64 refl (length p.blocks) f.1.1.1.1.0.1;
    }

-- of the words of a pack: the place of its count of blocks, and what an input is there
pub record ReadsInputs (ws : List ℕ) (p : Pack) (at : ℕ) : Type 0 where
  pub counts : value_at ws at ≡ length p.blocks
  pub few : length p.blocks ≤ 64
  pub near : at < length ws
  pub inputs : (origin owner name : ℕ) → refuses_by (input_in ws (at + 1) (value_at ws at) origin owner name) ≡ input p.blocks origin owner name

pub reads_inputs : (ws : List ℕ) (p : Pack) → read ws ≡ yes p → {at : ℕ} → BlocksAt ws at → ReadsInputs ws p at
reads_inputs ws p h {at} e =
    let r = words-read ws p h in
    let s = blocks_stand p r.fine in
    let bs : List Block = p.blocks in
    let same : ws ≡ s.before ++ (word_of 28 (length bs) ∷ blocks_words bs) = sym r.same ∙ s.same in
    let v : length bs < 16777216 = omega (arith, s.few) in
    let l : at ≡ length s.before = e p h ∙ sym s.long in
    let c : value_at ws at ≡ length bs = value_there ws s.before (blocks_words bs) 28 (length bs) at same (sym l) v in
    let one : List ℕ = word_of 28 (length bs) ∷ [] in
    let opened : ws ≡ (s.before ++ one) ++ (blocks_words bs ++ []) = same ∙ sym (append_assoc s.before one (blocks_words bs)) ∙ ap (λ (x : List ℕ). (s.before ++ one) ++ x) (sym (append-nil (blocks_words bs))) in
    let long : length ws ≡ length s.before + suc (length (blocks_words bs)) = ap length same ∙ length-append s.before (word_of 28 (length bs) ∷ blocks_words bs) in
    record {
      counts = c;
      few = s.few;
      near = omega arith;
      inputs = λ origin owner name. ap (λ (k : ℕ). refuses_by (input_in ws (at + 1) k origin owner name)) c ∙ input-read ws (s.before ++ one) [] bs (at + 1) origin owner name opened (length-append s.before one ∙ omega arith) s.fits;
    }
