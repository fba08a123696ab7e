-- The pack as words: 01's "Pack words" as one description, and the reading of a slice.
use Rattle.std.specs.Prelude.{ℕ, suc, ◌+◌, ◌≤◌, refl, List, [], ◌∷◌, Bool, ◌&&◌, not, length, leb}
use Rattle.std.proofs.Math.Option.{Option}
use Rattle.definitions.specs.declared.answer.Refusal.{Refusal}
use Rattle.definitions.specs.Table.{pick, judgment, table, entry_of}
use Rattle.definitions.specs.Form.{Read, got, refused, Form, field, guarded, ◌▹◌, via, list, list_or_none, option, counted_from, counted, one_and_more, among, read_by, words_by, Fine}
use Rattle.definitions.specs.Tree.{root}
use Rattle.definitions.specs.Records.{Hop, Derivation, Relation, Body, Rule, Item, Block, Edition, undated, Pack}
use Rattle.definitions.specs.FieldRows.{to_hop, of_hop, ChainRow, MemberRow, to_derivation, of_derivation, RelationTail, to_relation, of_relation, to_body, of_body, to_rule, of_rule, to_item, of_item, to_block, of_block, RecordsRow, of_row, to_row}

-- the layouts, one for each kind of first word
abbrev pub first_kind : Edition → ℕ
first_kind undated = 1

abbrev pub edition_of : List ℕ → Edition
edition_of ws = undated

-- "3 count to 512 of defaulted names, each a 4, rising": `low` is one more than the name before; else 6
unfoldable pub defaulted_name : ℕ → ℕ → Form ℕ
defaulted_name n low = guarded (field n 4) (λ v. leb low v) (λ at v. record { number = 6; place = at; name = 0; other = 0 })

abbrev pub above : ℕ → ℕ → ℕ
above low v = v + 1

unfoldable pub defaulted : ℕ → Form (List ℕ)
unfolding entry_of table
defaulted n = counted_from list n 3 tt above (defaulted_name n) 0

-- "9 count to 8 of slot kinds, each a 10 (name)"; "21 count to 8, each a 10"
unfoldable pub name_list : ℕ → ℕ → Form (List ℕ)
name_list n kind = counted list n kind tt (field n 10)

unfoldable pub hop : ℕ → Form Hop
hop n = via to_hop of_hop (λ _. refl) (λ _. refl) (field n 14 ▹ λ _. field n 15 ▹ λ _. field n 16)

-- "13 path count 0 to 8 or none, each step 14 relation, 15 and 16 slots"
unfoldable pub path : ℕ → Form (Option (List Hop))
path n = counted list_or_none n 13 tt (hop n)

-- "12 source°; 13 path ..; 17 current slot; 18 related slot"
unfoldable pub chain : ℕ → Form ChainRow
chain n = field n 12 ▹ λ _. path n ▹ λ _. field n 17 ▹ λ _. field n 18

-- "19 entity°; 20 member relation°; 21 count to 8, each a 10; a judgment tree"
unfoldable pub member : ℕ → Form MemberRow
member n = field n 19 ▹ λ _. field n 20 ▹ λ _. name_list n 21 ▹ λ _. root n judgment

unfoldable pub derivation : ℕ → Form Derivation
derivation n = via to_derivation of_derivation (λ _. refl) (λ _. refl) (chain n ▹ λ _. member n)

-- "11 flag 0 or 1 for a derivation"
unfoldable pub optional_derivation : ℕ → Form (Option Derivation)
unfolding entry_of table
optional_derivation n = counted option n 11 refl (derivation n)

-- "7 origin°; 8 arity; 9 ..; 11 .."
unfoldable pub relation_tail : ℕ → Form RelationTail
relation_tail n = field n 7 ▹ λ _. field n 8 ▹ λ _. name_list n 9 ▹ λ _. optional_derivation n

-- "6 name", which no relation before it has: "7 a relation name used before (name = it)"
unfoldable pub new_name : ℕ → (ℕ → Bool) → Form ℕ
new_name n used = guarded (field n 6) (λ v. not (used v)) (λ at v. record { number = 7; place = at; name = v; other = 0 })

unfoldable pub relation : ℕ → (ℕ → Bool) → Form Relation
relation n used = via to_relation of_relation (λ _. refl) (λ _. refl) (new_name n used ▹ λ _. relation_tail n)

-- the names used before the next relation
abbrev pub next_used : List ℕ → Relation → List ℕ
next_used used r = r.name ∷ used

-- "5 count to 512 of relations"
unfoldable pub relations : ℕ → Form (List Relation)
relations n = counted_from list n 5 tt next_used (λ used. relation n (λ v. among v used)) []

-- "each 27 (0 scalar, 1 judgment) and a tree"
unfoldable pub body : ℕ → Form Body
body n = via to_body of_body (λ _. refl) (λ _. refl) (field n 27 ▹ λ sort. root n sort)

-- "26 bodies, 1 to 64"
unfoldable pub bodies : ℕ → Form (Body × List Body)
unfolding entry_of table
bodies n = one_and_more n 26 64 refl (body n) (body n)

-- "23 citing name; 24 origin°; 25 entity; 26 bodies"
unfoldable pub rule : ℕ → Form Rule
rule n = via to_rule of_rule (λ _. refl) (λ _. refl) (field n 23 ▹ λ _. field n 24 ▹ λ _. field n 25 ▹ λ _. bodies n)

-- "22 count to 1,024 of rules"
unfoldable pub rules : ℕ → Form (List Rule)
rules n = counted list n 22 tt (rule n)

-- "items 31 name°, 32 flag (1 = Boolean), 33 entity°"
unfoldable pub item : ℕ → Form Item
item n = via to_item of_item (λ _. refl) (λ _. refl) (field n 31 ▹ λ _. field n 32 ▹ λ _. field n 33)

-- "30 count to 1,024, or none for "no sequence""
unfoldable pub block_items : ℕ → Form (Option (List Item))
block_items n = counted list_or_none n 30 tt (item n)

-- "29 origin°; 30 .."
unfoldable pub block : ℕ → Form Block
block n = via to_block of_block (λ _. refl) (λ _. refl) (field n 29 ▹ λ _. block_items n)

-- "28 count to 64 of blocks"
unfoldable pub blocks : ℕ → Form (List Block)
blocks n = counted list n 28 tt (block n)

unfoldable pub records : Edition → ℕ → Form RecordsRow
records e n = defaulted n ▹ λ _. relations n ▹ λ _. rules n ▹ λ _. blocks n

-- "2 N, 1 to 4,096"; names are held to it from there on
unfoldable pub inner : Edition → Form (ℕ × RecordsRow)
inner e = field 0 2 ▹ λ n. records e n

-- "1 total words (= slice length, else 4)"
unfoldable pub layout : Edition → ℕ → Form (ℕ × (ℕ × RecordsRow))
layout e len = field len (first_kind e) ▹ λ _. inner e

-- what reading a whole slice finds
pub data Reading : Type 0 where
  yes : Pack → Reading
  refuse : Refusal → Reading

-- "After the last block: 8 words left over (place the first)."
abbrev pub complete : Edition → Read (ℕ × (ℕ × RecordsRow)) → Reading
complete e (got t at []) = yes (of_row e t.1)
complete e (got t at (w ∷ ws)) = refuse (record { number = 8; place = at; name = 0; other = 0 })
complete e (refused r) = refuse r

-- "1 the slice has under 6 or over 8,192 words. Then left to right, at each word"
unfoldable pub read : List ℕ → Reading
read ws =
    pick (leb 6 (length ws) && leb (length ws) 8192)
    (complete (edition_of ws) (read_by (layout (edition_of ws) (length ws)) 0 ws))
    (refuse (record { number = 1; place = 0; name = 0; other = 0 }))

-- a pack's number of words: the total, and the rest
unfoldable pub total : Pack → ℕ
total p = suc (length (words_by (inner p.edition) (to_row p)))

unfoldable pub words : Pack → List ℕ
words p = words_by (layout p.edition (total p)) (total p, to_row p)

-- a pack that keeps to the description
pub record WellFormed (p : Pack) : Type 0 where
  pub least : 6 ≤ total p
  pub most : total p ≤ 8192
  pub parts : Fine (inner p.edition) (to_row p)
