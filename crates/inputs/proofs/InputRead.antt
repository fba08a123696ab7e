-- The test of an input that the code reads from the words of blocks is that of the blocks.
use Prim.Native.Nat.{ℕ, ◌+◌, ◌*◌, ◌<◌}
use native.Mathlib.Omega.{arith}
use mathlib.Core.Path.{◌≡◌, refl, ap, sym, ◌∙◌, subst}
use mathlib.Core.List.{List, [], ◌∷◌, ◌++◌, append_assoc, append-nil}
use mathlib.Core.Bool.{Bool, true, false, ◌||◌, not}
use mathlib.Core.Option.{Option, none, some}
use lib.ListN.{length, length-append}
use lib.Dec.{eqb}
use borrow.Author.Tests.{ne_eqb}
use Rattle.definitions.specs.Table.{pick, word_of}
use Rattle.definitions.specs.Table as table
use Rattle.definitions.specs.Form.{list_or_none, count, repeats}
use Rattle.definitions.specs.Records.{Item, Block}
use Rattle.definitions.specs.Lean.{any}
use Rattle.definitions.specs.Inputs.{of_origin, no_sequence, named, sequence, declarations, owned, input}
use Rattle.chains.specs.Record.{value_at}
use Rattle.std.specs.Prelude.{Result, Ok, Err}
use Rattle.inputs.specs.declared.inputs.Declaration.{Declaration}
use Rattle.inputs.specs.declared.inputs.Seen.{Seen}
use Rattle.inputs.specs.declared.inputs.Seen.TheVariants.{Never, Once, Several}
use Rattle.definitions.specs.declared.answer.Number.{Number}
use Rattle.definitions.specs.declared.answer.Number.TheVariants.{NoSequence, NotBoolean, WrongOwner}
use Rattle.inputs.specs.Blocks.{item_declaration, seen_after, seen_items, seen_block, then_so, seen_blocks, allowed_as, input_in, refuses_by}
use Rattle.chains.proofs.RecordLaws.{value_there}

-- the words of items and of blocks
abbrev pub items_words : List Item → List ℕ
items_words [] = []
items_words (i ∷ l) = word_of 31 i.name ∷ word_of 32 i.boolean ∷ word_of 33 i.entity ∷ items_words l

abbrev pub block_words : Block → List ℕ
block_words b = word_of 29 b.origin ∷ word_of 30 (count list_or_none b.items) ∷ items_words (sequence b.items)

abbrev pub blocks_words : List Block → List ℕ
blocks_words [] = []
blocks_words (b ∷ bs) = block_words b ++ blocks_words bs

-- values that fit into words
abbrev pub ItemsFit : List Item → Type 0
ItemsFit [] = Unit {0}
ItemsFit (i ∷ l) = (i.name < 16777216) × (i.boolean < 16777216) × (i.entity < 16777216) × ItemsFit l

pub record BlockFits (b : Block) : Type 0 where
  pub origin : b.origin < 16777216
  pub counts : count list_or_none b.items < 16777216
  pub short : (l : List Item) → b.items ≡ some l → length l < 16777215
  pub items : ItemsFit (sequence b.items)

abbrev pub BlocksFit : List Block → Type 0
BlocksFit [] = Unit {0}
BlocksFit (b ∷ bs) = BlockFits b × BlocksFit bs

-- declarations, as the code sees them
abbrev declaration : Item → Declaration
declaration i = record { boolean = eqb i.boolean 1; entity = i.entity }

abbrev seen_of : List Item → Seen
seen_of [] = Never
seen_of (i ∷ []) = Once (declaration i)
seen_of (i ∷ j ∷ l) = Several

one_more : (l : List Item) (i : Item) → seen_after (seen_of l) (declaration i) ≡ seen_of (l ++ (i ∷ []))
one_more [] i = refl
one_more (j ∷ []) i = refl
one_more (j ∷ k ∷ l) i = refl

module _ (ws : List ℕ) (name : ℕ) where
  items_seen : (l found : List Item) (pre rest : List ℕ) (at : ℕ) → ws ≡ pre ++ (items_words l ++ rest) → length pre ≡ at → ItemsFit l
      → seen_items ws name at (length l) (seen_of found) ≡ seen_of (found ++ named name l)
  unfolding seen_items
  items_seen [] found pre rest at e k f = ap seen_of (sym (append-nil found))
  items_seen (i ∷ l) found pre rest at e k f =
      let p1 : List ℕ = word_of 31 i.name ∷ [] in
      let p2 : List ℕ = word_of 31 i.name ∷ word_of 32 i.boolean ∷ [] in
      let p3 : List ℕ = word_of 31 i.name ∷ word_of 32 i.boolean ∷ word_of 33 i.entity ∷ [] in
      let more : List ℕ = items_words l ++ rest in
      let nm : value_at ws at ≡ i.name = value_there ws pre (word_of 32 i.boolean ∷ word_of 33 i.entity ∷ more) 31 i.name at e k f.0 in
      let bl : value_at ws (at + 1) ≡ i.boolean = value_there ws (pre ++ p1) (word_of 33 i.entity ∷ more) 32 i.boolean (at + 1) (e ∙ sym (append_assoc pre p1 (word_of 32 i.boolean ∷ word_of 33 i.entity ∷ more))) (length-append pre p1 ∙ omega arith) f.1 in
      let en : value_at ws (at + 2) ≡ i.entity = value_there ws (pre ++ p2) more 33 i.entity (at + 2) (e ∙ sym (append_assoc pre p2 (word_of 33 i.entity ∷ more))) (length-append pre p2 ∙ omega arith) f.2 in
      let rest_seen : (found : List Item) → seen_items ws name (at + 3) (length l) (seen_of found) ≡ seen_of (found ++ named name l) =
      λ found. items_seen l found (pre ++ p3) rest (at + 3) (e ∙ sym (append_assoc pre p3 more)) (length-append pre p3 ∙ omega arith) f.3 in
      let step : pick (eqb (value_at ws at) name) (seen_after (seen_of found) (item_declaration ws at)) (seen_of found) ≡ pick (eqb i.name name) (seen_after (seen_of found) (declaration i)) (seen_of found) =
      rw (nm, bl, en) refl in
      ap (seen_items ws name (at + 3) (length l)) step ∙ go (eqb i.name name) rest_seen
    where
      go : (b : Bool) → ((found : List Item) → seen_items ws name (at + 3) (length l) (seen_of found) ≡ seen_of (found ++ named name l))
          → seen_items ws name (at + 3) (length l) (pick b (seen_after (seen_of found) (declaration i)) (seen_of found)) ≡ seen_of (found ++ pick b (i ∷ named name l) (named name l))
      go true h = ap (seen_items ws name (at + 3) (length l)) (one_more found i) ∙ h (found ++ (i ∷ [])) ∙ ap seen_of (append_assoc found (i ∷ []) (named name l))
      go false h = h found

pub items_again : (o : Option (List Item)) → ((l : List Item) → o ≡ some l → length l < 16777215) → repeats (count list_or_none o) ≡ length (sequence o)
unfolding count
items_again none h = refl
items_again (some l) h = rw (ne_eqb (length l) 16777215 (λ e. omega (arith, h l refl))) refl

pub items-long : (l : List Item) → length (items_words l) ≡ 3 * length l
items-long [] = refl
items-long (i ∷ l) = omega (arith, items-long l)

-- what comes of blocks, if one lacks a sequence or not
abbrev came : Bool → List Item → Result Seen Number
came true l = Err NoSequence
came false l = Ok (seen_of l)

module _ (ws : List ℕ) (o name : ℕ) where
  abbrev lacks : Block → Bool
  lacks b = pick (eqb b.origin o) (no_sequence b.items) false

  abbrev mine : Block → List Item
  mine b = pick (eqb b.origin o) (named name (sequence b.items)) []

  block_seen : (b : Block) (found : List Item) (pre rest : List ℕ) (at : ℕ) → ws ≡ pre ++ (block_words b ++ rest) → length pre ≡ at → BlockFits b
      → seen_block ws o name at (seen_of found) ≡ came (lacks b) (found ++ mine b)
  unfolding count
  block_seen b found pre rest at e k f =
      let p1 : List ℕ = word_of 29 b.origin ∷ [] in
      let p2 : List ℕ = word_of 29 b.origin ∷ word_of 30 (count list_or_none b.items) ∷ [] in
      let more : List ℕ = items_words (sequence b.items) ++ rest in
      let og : value_at ws at ≡ b.origin = value_there ws pre (word_of 30 (count list_or_none b.items) ∷ more) 29 b.origin at e k f.origin in
      let ct : value_at ws (at + 1) ≡ count list_or_none b.items =
      value_there ws (pre ++ p1) more 30 (count list_or_none b.items) (at + 1) (e ∙ sym (append_assoc pre p1 (word_of 30 (count list_or_none b.items) ∷ more))) (length-append pre p1 ∙ omega arith) f.counts in
      let it : (l : List Item) → b.items ≡ some l → seen_items ws name (at + 2) (length l) (seen_of found) ≡ seen_of (found ++ named name l) =
      λ l q. items_seen ws name l found (pre ++ p2) rest (at + 2) (e ∙ sym (append_assoc pre p2 more) ∙ ap (λ x. (pre ++ p2) ++ (items_words (sequence x) ++ rest)) q) (length-append pre p2 ∙ omega arith)
      (subst (λ x. ItemsFit (sequence x)) q f.items) in
      rw (og, ct) (go (eqb b.origin o) b.items refl f.short it)
    where
      go : (c : Bool) (x : Option (List Item)) → b.items ≡ x → ((l : List Item) → b.items ≡ some l → length l < 16777215)
          → ((l : List Item) → b.items ≡ some l → seen_items ws name (at + 2) (length l) (seen_of found) ≡ seen_of (found ++ named name l))
          → pick c (pick (eqb (count list_or_none x) table.none) (Err NoSequence) (Ok (seen_items ws name (at + 2) (count list_or_none x) (seen_of found)))) (Ok (seen_of found))
          ≡ came (pick c (no_sequence x) false) (found ++ pick c (named name (sequence x)) [])
      go false x q s it = ap (λ (l : List Item). Ok (seen_of l)) (sym (append-nil found))
      go true none q s it = refl
      go true (some l) q s it = rw (ne_eqb (length l) table.none (λ z. omega (arith, s l q))) (ap Ok (it l q))

  abbrev lacking : List Block → Bool
  lacking bs = any (λ (b : Block). no_sequence b.items) (of_origin o bs)

  lacking_cons : (b : Block) (bs : List Block) → lacking (b ∷ bs) ≡ (lacks b || lacking bs)
  lacking_cons b bs = go (eqb b.origin o)
    where
      go : (c : Bool) → any (λ (b : Block). no_sequence b.items) (pick c (b ∷ of_origin o bs) (of_origin o bs)) ≡ (pick c (no_sequence b.items) false || lacking bs)
      go true = refl
      go false = refl

  found-cons : (b : Block) (bs : List Block) → declarations name (of_origin o (b ∷ bs)) ≡ mine b ++ declarations name (of_origin o bs)
  found-cons b bs = go (eqb b.origin o)
    where
      go : (c : Bool) → declarations name (pick c (b ∷ of_origin o bs) (of_origin o bs)) ≡ pick c (named name (sequence b.items)) [] ++ declarations name (of_origin o bs)
      go true = refl
      go false = refl

  blocks_seen : (bs : List Block) (found : List Item) (pre rest : List ℕ) (at : ℕ) → ws ≡ pre ++ (blocks_words bs ++ rest) → length pre ≡ at → BlocksFit bs
      → seen_blocks ws o name at (length bs) (seen_of found) ≡ came (lacking bs) (found ++ declarations name (of_origin o bs))
  unfolding seen_blocks
  blocks_seen [] found pre rest at e k f = ap (λ (l : List Item). Ok (seen_of l)) (sym (append-nil found))
  blocks_seen (b ∷ bs) found pre rest at e k f =
      let e' : ws ≡ pre ++ (block_words b ++ (blocks_words bs ++ rest)) = e ∙ ap (λ (l : List ℕ). pre ++ l) (append_assoc (block_words b) (blocks_words bs) rest) in
      let p1 : List ℕ = word_of 29 b.origin ∷ [] in
      let ct : value_at ws (at + 1) ≡ count list_or_none b.items =
      value_there ws (pre ++ p1) (items_words (sequence b.items) ++ (blocks_words bs ++ rest)) 30 (count list_or_none b.items) (at + 1)
      (e' ∙ sym (append_assoc pre p1 (word_of 30 (count list_or_none b.items) ∷ (items_words (sequence b.items) ++ (blocks_words bs ++ rest))))) (length-append pre p1 ∙ omega arith) f.0.counts in
      let next : ℕ = at + 2 + 3 * repeats (value_at ws (at + 1)) in
      let there : length (pre ++ block_words b) ≡ next =
      length-append pre (block_words b) ∙ omega (arith, items-long (sequence b.items), ap repeats ct ∙ items_again b.items f.0.short) in
      let rest_seen : (found : List Item) → seen_blocks ws o name next (length bs) (seen_of found) ≡ came (lacking bs) (found ++ declarations name (of_origin o bs)) =
      λ found. blocks_seen bs found (pre ++ block_words b) rest next (e' ∙ sym (append_assoc pre (block_words b) (blocks_words bs ++ rest))) there f.1 in
      ap (λ (r : Result Seen Number). then_so r (seen_blocks ws o name next (length bs))) (block_seen b found pre (blocks_words bs ++ rest) at e' k f.0) ∙ go (lacks b) next rest_seen
      ∙ sym (ap (λ (c : Bool). came c (found ++ declarations name (of_origin o (b ∷ bs)))) (lacking_cons b bs))
    where
      go : (c : Bool) (next : ℕ) → ((found : List Item) → seen_blocks ws o name next (length bs) (seen_of found) ≡ came (lacking bs) (found ++ declarations name (of_origin o bs)))
          → then_so (came c (found ++ mine b)) (seen_blocks ws o name next (length bs)) ≡ came (c || lacking bs) (found ++ declarations name (of_origin o (b ∷ bs)))
      go true next h = refl
      go false next h = h (found ++ mine b) ∙ ap (λ (l : List Item). came (lacking bs) l) (append_assoc found (mine b) (declarations name (of_origin o bs)) ∙ ap (λ (l : List Item). found ++ l) (sym (found-cons b bs)))

-- the only declaration, and the owner
owned_number : (owner : ℕ) (l : List Item) → refuses_by (allowed_as (seen_of l) owner) ≡ owned owner l
owned_number owner [] = refl
owned_number owner (i ∷ j ∷ l) = refl
owned_number owner (i ∷ []) = go (eqb i.boolean 1) (eqb owner 0 || not (eqb i.entity owner))
  where
    go : (a b : Bool) → refuses_by (pick a (pick b (Err WrongOwner) (Ok tt)) (Err NotBoolean)) ≡ pick a (pick b (some 15) none) (some 14)
    go true true = refl
    go true false = refl
    go false b = refl

pub input-read : (ws pre rest : List ℕ) (bs : List Block) (at origin owner name : ℕ) → ws ≡ pre ++ (blocks_words bs ++ rest) → length pre ≡ at → BlocksFit bs
    → refuses_by (input_in ws at (length bs) origin owner name) ≡ input bs origin owner name
unfolding input_in input
input-read ws pre rest bs at origin owner name e k f = rw (blocks_seen ws origin name bs [] pre rest at e k f) (go (lacking ws origin name bs) (declarations name (of_origin origin bs)))
  where
    go : (c : Bool) (l : List Item) → refuses_by (then_so (came c l) (λ (s : Seen). allowed_as s owner)) ≡ pick c (some 12) (owned owner l)
    go true l = refl
    go false l = owned_number owner l
