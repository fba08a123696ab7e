-- The table of places: its parts filled one after the other, and the loops that fill those of rules and of blocks.
use Prim.Native.Nat.{ℕ, zero, suc, ◌+◌, ◌-◌, ◌*◌, ◌/◌, ◌%◌, ◌<◌, ◌≤◌}
use native.Mathlib.Omega.{arith}
use native.Mathlib.Numerals.{add-one}
use mathlib.Core.Path.{◌≡◌, refl, ap, sym, ◌∙◌, subst}
use mathlib.Core.List.{List, [], ◌∷◌, ◌++◌, map, append_assoc, append-nil}
use mathlib.Core.Bool.{Bool}
use lib.ListN.{length, get_or, replicate, length-append, length-map, length-replicate}
use borrow.Author.Tests.{ne_eqb}
use borrow.Rule.Slice.PartMut.{mid_of, mid_len}
use Rattle.std.specs.List.{between}
use Rattle.std.proofs.lemmas.List.Edits.{length-between, get_or-between}
use Rattle.definitions.specs.Records.{Pack}
use Rattle.definitions.specs.Pack.{WellFormed, yes, read, words}
use Rattle.definitions.specs.Table.{word_of}
use Rattle.pack.proofs.PackLaws.{words-read, words-length}
use Rattle.definitions.specs.Places.{relation_words}
use Rattle.chains.specs.DirectoryWord.{starts_in, names_in}
use Rattle.chains.specs.Record.{value_at}
use Rattle.definitions.specs.Form.{repeats}
use Rattle.chains.proofs.EntryLaws.{reaches_one}
use Rattle.chains.proofs.CheckedLaws.{names-many, its-low}
use Rattle.chains.proofs.PackParts.{parts}
use Rattle.chains.proofs.RecordLaws.{value_there}
use Rattle.inputs.specs.Blocks.{AfterBlock}
use Rattle.inputs.proofs.BlocksStand.{ReadsInputs, reads_inputs}
use Rattle.directions.specs.RecordRuns.{run_words, TablesFilled}
use Rattle.directions.proofs.TurnedPack.{front, pack-words, front22, front22_long, pack_words_22, rules_on}
use Rattle.turning.specs.Notes.{Note, note_code, Held, relations_noted, rules_noted}
use Rattle.turning.specs.Asked.{InWords}
use Rattle.turning.proofs.MarkLaws.{mark_place, mark_inside, some_place}
use Rattle.turning.proofs.KnownLaws.{notes-inside}
use Rattle.turning.proofs.PackLaws.{held-parts}
use Rattle.resolve.specs.declared.checked.Figures.{Figures}
use Rattle.definitions.specs.WrittenRecords.{beginnings, other_pieces, pieces_of}
use Rattle.resolve.specs.declared.writer.Writer.{Writer}
use Rattle.resolve.specs.Writing.{HasRoom, Begins, Writes}
use Rattle.resolve.specs.Finish.{HaveWords, order_in, roots_of, block_places, RulesAsked, RulesCame, ResolveAsked, OrderAsked}
use Rattle.resolve.proofs.WriteLaws.{writes_then, all_written}
use Rattle.resolve.proofs.OrderLaws.{others-many, others-few, roots_many, all_begin}

-- ---- rules

module _ {notes : List ℕ} {from all : ℕ} {w : Writer} (a : RulesAsked notes from all w) where
  -- the roots found among the notes up to one are written
  pub record Rooting (i : ℕ) (w' : Writer) : Type 0 where
    pub rest : List Note
    pub are : Held notes i rest
    pub many : all + 1 ≡ i + length rest
    pub there : InWords a.ws rest
    pub found : List ℕ
    pub writes : Writes w found w'
    pub todo : found ++ roots_of rest ≡ roots_of a.ns

  -- a note of the part that is gone over
  pub note-there : {j : ℕ} → j < length (between from (all + 1) notes) → (from + j ≤ all) × (get_or (between from (all + 1) notes) j 0 ≡ get_or notes (from + j) 0)
  note-there {j} h =
      let l = length-between notes from (all + 1) (omega (arith, a.within)) in
      (omega (arith, l), get_or-between notes from (all + 1) j 0 (omega (arith, l)))

  module _ {j : ℕ} {w' : Writer} (s : Rooting (from + j) w') (k : j < length (between from (all + 1) notes)) where
    abbrev here : ℕ
    here = from + j

    before-end : here ≤ all
    before-end = (note-there k).0

    abbrev v : ℕ
    v = get_or (between from (all + 1) notes) j 0

    v-is : v ≡ get_or notes here 0
    v-is = (note-there k).1

    one_more : from + (j + 1) ≡ here + 1
    one_more = omega arith

    record Next : Type 0 where
      n : Note
      rest : List Note
      is : get_or notes here 0 ≡ note_code n
      near : n.place + 1 < 8192
      inside : n.place < length a.ws
      are : Held notes (here + 1) rest
      many : all + 1 ≡ here + 1 + length rest
      there : InWords a.ws rest
      todo : s.found ++ roots_of (n ∷ rest) ≡ roots_of a.ns

    next : Next
    next = go s.rest s.are s.many s.there s.todo
      where
        go : (l : List Note) → Held notes here l → all + 1 ≡ here + length l → InWords a.ws l → s.found ++ roots_of l ≡ roots_of a.ns → Next
        go [] are many there todo = absurd (omega (arith, before-end))
        go (n ∷ rest) are many there todo =
            record { n = n; rest = rest; is = are.0; near = there.0; inside = there.1; are = rw add-one are.1; many = omega arith; there = there.2; todo = todo }

    -- a note inside another
    pub roots_pass : (v / 16384 ≡ 0 → ⊥) → Rooting (from + (j + 1)) w'
    roots_pass z =
        let x = next in
        let e = ne_eqb x.n.inside 0 (λ q. z (ap (λ (y : ℕ). y / 16384) v-is ∙ mark_inside x.n x.is x.near ∙ q)) in
        rw one_more (record { rest = x.rest; are = x.are; many = x.many; there = x.there; found = s.found; writes = s.writes; todo = rw e at x.todo })

    -- or a root
    pub some_root : 1 ≤ v % 8192
    some_root = let x = next in rw v-is (some_place {ws = a.ws} (record { n = x.n; is = x.is; near = x.near; there = x.inside }))

    module _ (z : v / 16384 ≡ 0) where
      root_left : s.found ++ (next.n.place ∷ roots_of next.rest) ≡ roots_of a.ns
      root_left = let e : next.n.inside ≡ 0 = sym (mark_inside next.n next.is next.near) ∙ sym (ap (λ (y : ℕ). y / 16384) v-is) ∙ z in rw e at next.todo

      pub root-room : w'.to + 1 ≤ length w'.out.now
      root-room = omega (arith, ap length root_left, length-append s.found (next.n.place ∷ roots_of next.rest), a.room, s.writes.after, s.writes.long)

      pub roots_next : {w'' : Writer} → Writes w' ((v % 8192 - 1) ∷ []) w'' → Rooting (from + (j + 1)) w''
      roots_next p =
          let x = next in
          let y : ℕ = v % 8192 - 1 in
          let place : y ≡ x.n.place = ap (λ (y : ℕ). y % 8192 - 1) v-is ∙ mark_place x.n x.is x.near in
          rw one_more (record {
            rest = x.rest;
            are = x.are;
            many = x.many;
            there = x.there;
            found = s.found ++ (y ∷ []);
            writes = writes_then s.writes p;
            todo = append_assoc s.found (y ∷ []) (roots_of x.rest) ∙ ap (λ (y : ℕ). s.found ++ (y ∷ roots_of x.rest)) place ∙ root_left;
          })

  pub roots_end : {j : ℕ} {w' : Writer} → Rooting (from + j) w' → length (between from (all + 1) notes) ≤ j → Writes w (roots_of a.ns) w'
  roots_end {j} {w'} s h = go s.rest s.many s.todo
    where
      long : length (between from (all + 1) notes) ≡ all + 1 - from
      long = length-between notes from (all + 1) (omega (arith, a.within))

      go : (l : List Note) → all + 1 ≡ from + j + length l → s.found ++ roots_of l ≡ roots_of a.ns → Writes w (roots_of a.ns) w'
      go [] many todo = subst (λ (l : List ℕ). Writes w l w') (sym (append-nil s.found) ∙ todo) s.writes
      go (n ∷ l) many todo = absurd (omega (arith, long))

-- ---- blocks

pub blocks-long : (ws : List ℕ) (at k : ℕ) → length (block_places ws at k) ≡ k
unfolding block_places
blocks-long ws at zero = refl
blocks-long ws at (suc k) = ap suc (blocks-long ws (at + 2 + 3 * repeats (value_at ws (at + 1))) k)

module _ (ws : List ℕ) (first count : ℕ) (w : Writer) where
  -- the places of so many are written
  pub record Walking (i at : ℕ) (w' : Writer) : Type 0 where
    pub within : i ≤ count
    pub near : at ≤ first + i * 50331650
    pub found : List ℕ
    pub many : length found ≡ i
    pub writes : Writes w found w'
    pub todo : found ++ block_places ws at (count - i) ≡ block_places ws first count

  module _ {i at : ℕ} {w' : Writer} (s : Walking i at w') where
    pub walk-room : HasRoom w (block_places ws first count) → i < count → w'.to + 1 ≤ length w'.out.now
    walk-room r h = omega (arith, r, blocks-long ws first count, s.writes.after, s.writes.long, s.many)

    pub walk-next : {next : ℕ} {w'' : Writer} → i < count → AfterBlock ws at next → Writes w' (at ∷ []) w'' → Walking (i + 1) next w''
    unfolding block_places
    walk-next {next} h e p =
        let one : count - i ≡ suc (count - (i + 1)) = omega arith in
        let more : List ℕ = block_places ws next (count - (i + 1)) in
        record {
          within = omega arith;
          near = omega (arith, s.near, e.near);
          found = s.found ++ (at ∷ []);
          many = length-append s.found (at ∷ []) ∙ omega (arith, s.many);
          writes = writes_then s.writes p;
          todo = append_assoc s.found (at ∷ []) more ∙ ap (λ (x : ℕ). s.found ++ (at ∷ block_places ws x (count - (i + 1)))) e.is ∙ sym (ap (λ (x : ℕ). s.found ++ block_places ws at x) one) ∙ s.todo;
        }

    pub walk_end : count ≤ i → Writes w (block_places ws first count) w'
    unfolding block_places
    walk_end h =
        let z : count - i ≡ 0 = omega arith in
        subst (λ (l : List ℕ). Writes w l w') (sym (append-nil s.found) ∙ sym (ap (λ (x : ℕ). s.found ++ block_places ws at x) z) ∙ s.todo) s.writes

glue : (a b c d e g : List ℕ) → ((((a ++ b) ++ c) ++ d) ++ e) ++ g ≡ a ++ (b ++ (c ++ (d ++ (e ++ g))))
glue a b c d e g = simp append_assoc

-- ---- for the code

module _ {ws dir notes : List ℕ} {f : Figures} {room : ℕ} (o : OrderAsked ws dir notes f room) where
  abbrev a : ResolveAsked ws dir o.acts o.taken o.marks notes f o.work
  a = o.asked

  abbrev p : Pack
  p = a.directory.checked.pack

  abbrev h : read ws ≡ yes p
  h = a.directory.checked.reads

  w : WellFormed p
  w = (words-read ws p h).fine

  abbrev tabled : TablesFilled ws (starts_in dir) o.acts o.taken f.steps
  tabled = record { checked = a.directory.checked; declares = names_in dir f.layout.relations; filled = a.filled }

  abbrev blocks : ℕ
  blocks = f.layout.blocks

  abbrev count : ℕ
  count = f.blocks.count

  i : ReadsInputs ws p blocks
  i = reads_inputs ws p h a.directory.blocked

  many : f.layout.relations ≡ length p.relations
  many = a.directory.counted p h

  blocks-many : count ≡ length p.blocks
  blocks-many = a.many ∙ i.counts

  near : (f.layout.rules + 1 ≡ length (front22 p)) × (length (front22 p) ≤ 8192)
  near =
      let m = w.most in
      (omega (arith, a.directory.ruled p h, front22_long p), omega (arith, ap length (pack_words_22 p), length-append (front22 p) (rules_on p), words-length p))

  rules-many : value_at ws f.layout.rules ≡ length p.rules
  rules-many =
      let R : List ℕ = run_words (relation_words p.names) p.relations in
      let one : List ℕ = word_of 22 (length p.rules) ∷ [] in
      value_there ws (front p ++ R) (rules_on p) 22 (length p.rules) f.layout.rules (sym (words-read ws p h).same ∙ pack-words p ∙ sym (append_assoc (front p) R (word_of 22 (length p.rules) ∷ rules_on p)))
      (omega (arith, near.0, length-append (front p) R, length-append (front p) (R ++ one), length-append R one)) (parts p w).rule-count

  pub numbers : (f.layout.relations ≤ 512) × (count ≤ 64) × (f.layout.rules < 8192) × (room ≡ f.layout.relations + value_at ws f.layout.rules + count + 3) × (room ≤ 1603)
  numbers =
      let W : List (List ℕ) = map (relation_words p.names) p.relations in (
        omega (arith, many, (parts p w).few-relations),
        omega (arith, blocks-many, i.few),
        omega (arith, near.0, near.1),
        o.size ∙ omega (arith, length-append W (other_pieces p), length-map p.relations (relation_words p.names), others-many p, many, rules-many, blocks-many),
        omega (arith, o.size, length-append W (other_pieces p), length-map p.relations (relation_words p.names), others-few p w, many, (parts p w).few-relations),
      )

  pub first-near : (1 ≤ f.blocks.at) × (f.blocks.at ≤ 65536)
  first-near = (omega (arith, a.blocks), (let m = w.most in omega (arith, a.blocks, i.near, ap length (words-read ws p h).same, words-length p)))

  later_in : (l : List ℕ) (ns ms : List Note) → InWords l (ns ++ ms) → InWords l ms
  later_in l [] ms g = g
  later_in l (n ∷ ns) ms g = later_in l ns ms g.2

  -- the names of the relations stand at the front of the directory
  abbrev names : List ℕ
  names = names_in dir f.layout.relations

  pub as-many-names : f.layout.relations ≡ length names
  as-many-names = sym (names-many a.directory)

  pub relations-asked : HaveWords dir names
  relations-asked j h = reaches_one a.directory.reaches (its-low a.directory j)

  -- the rules
  abbrev Q : List ℕ
  Q = roots_of (rules_noted p)

  pub rules-long : length Q ≡ value_at ws f.layout.rules
  rules-long = omega (arith, roots_many p, rules-many)

  pub rules-asked : (v : Writer) → HasRoom v Q → RulesAsked notes (f.layout.noted + 1) f.layout.all v
  rules-asked v r =
      let n = a.noted in
      record {
        ws = words p;
        ns = rules_noted p;
        are = (held-parts notes 1 (f.layout.noted + 1) (relations_noted p) (rules_noted p) (omega (arith, n.first)) n.held).1;
        many = omega (arith, n.many, n.first, length-append (relations_noted p) (rules_noted p));
        within = n.room;
        there = later_in (words p) (relations_noted p) (rules_noted p) (notes-inside p w);
        room = r;
      }

  pub rules-written : {v v' : Writer} → RulesCame notes (f.layout.noted + 1) f.layout.all v v' → HasRoom v Q → Writes v Q v'
  unfolding rules-asked
  rules-written t r = t (rules-asked _ r)

  -- all places, one after the other
  abbrev O : List ℕ
  O = order_in dir names

  pub order_long : length O ≡ f.layout.relations
  order_long = length-map names (λ name. get_or (starts_in dir) name 0) ∙ sym as-many-names

  abbrev B : List ℕ
  B = block_places ws f.blocks.at count

  pub B-long : length B ≡ count
  B-long = blocks-long ws f.blocks.at count

  pub all_ordered : {w₀ w₁ w₂ w₃ w₄ w₅ w₆ : Writer} {places : List ℕ} {first : ℕ} → length places ≡ room → Begins w₀ places → Writes w₀ (0 ∷ []) w₁ → Writes w₁ O w₂ → Writes w₂ (f.layout.rules ∷ []) w₃ → Writes w₃ Q w₄ → first ≡ f.blocks.at - 1 → Writes w₄ (first ∷ []) w₅ → Writes w₅ B w₆
      → w₆.out.now ≡ beginnings 0 (pieces_of p)
  all_ordered {first = first} l b p₁ p₂ p₃ p₄ e p₅ p₆ =
      let v : first ≡ blocks = omega (arith, a.blocks) in
      all_written b (writes_then (writes_then (writes_then (writes_then (writes_then p₁ p₂) p₃) p₄) p₅) p₆) (simp length-append (omega (arith, l, numbers.3, order_long, rules-long, blocks-long ws f.blocks.at count)))
      ∙ glue (0 ∷ []) O (f.layout.rules ∷ []) Q (first ∷ []) B
      ∙ ap (λ (x : ℕ). 0 ∷ (O ++ (f.layout.rules ∷ (Q ++ (x ∷ B))))) v
      ∙ ap (λ (x : ℕ). 0 ∷ (O ++ (f.layout.rules ∷ (Q ++ (blocks ∷ block_places ws f.blocks.at x))))) blocks-many
      ∙ ap (λ (x : ℕ). 0 ∷ (O ++ (f.layout.rules ∷ (Q ++ (blocks ∷ block_places ws x (length p.blocks)))))) a.blocks
      ∙ all_begin dir tabled a.directory.ruled a.directory.blocked (a.filled.noted.named p h)

-- room for the places of a pack
abbrev pub order_of : {ws dir acts taken : List ℕ} {marks : List Bool} {notes : List ℕ} {f : Figures} {work : List ℕ} (a : ResolveAsked ws dir acts taken marks notes f work) {room : ℕ} → room ≡ length (pieces_of a.directory.checked.pack) → OrderAsked ws dir notes f room
order_of {acts = acts} {taken} {marks} {work = work} a e = record { acts = acts; taken = taken; marks = marks; work = work; asked = a; size = e }

module _ {ws dir acts taken : List ℕ} {marks : List Bool} {notes : List ℕ} {f : Figures} {work : List ℕ} (a : ResolveAsked ws dir acts taken marks notes f work) where
  pub relations_few : f.layout.relations ≤ 512
  relations_few = (numbers (order_of a refl)).0

  module _ {r : ℕ} (e : r ≡ f.layout.relations + value_at ws f.layout.rules + f.blocks.count + 3) where
    pub pieces_few : r ≤ 1603
    pieces_few = let n = numbers (order_of a refl) in omega (arith, n.3, n.4)

    pub pieces_room : (most : ℕ) → r ≤ most → length {A = ℕ} (mid_of 0 (r - 0) (replicate most 0)) ≡ length (pieces_of a.directory.checked.pack)
    pieces_room most h = mid_len 0 r (replicate {A = ℕ} most 0) (omega (arith, length-replicate {A = ℕ} most 0)) ∙ omega (arith, (numbers (order_of a refl)).3)

    pub pieces_long : {most : ℕ} (places : List ℕ) → r ≤ most → length places ≡ length {A = ℕ} (mid_of 0 (r - 0) (replicate most 0)) → length places ≤ most
    pieces_long {most} places k l = omega (arith, l, mid_len 0 r (replicate {A = ℕ} most 0) (omega (arith, length-replicate {A = ℕ} most 0)))
