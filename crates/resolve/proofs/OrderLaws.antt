-- Where the pieces of a pack begin, as its directory, its notes and its blocks say, is where they stand one after the other.
use Prim.Native.Nat.{ℕ, suc, ◌+◌, ◌*◌, ◌≤◌}
use native.Mathlib.Omega.{arith}
use mathlib.Core.Path.{◌≡◌, refl, ap, sym, ◌∙◌}
use mathlib.Core.List.{List, [], ◌∷◌, ◌++◌, map, append_assoc, append-nil}
use mathlib.Core.Bool.{Bool, true, false, ◌||◌}
use lib.ListN.{length, get_or, length-append, length-map}
use lib.Dec.{eqb}
use borrow.Author.Tests.{eq-eqb, ne_eqb}
use Rattle.std.proofs.lemmas.Bool.{or_parts}
use Rattle.pack.proofs.StepLaws.{at_most}
use Rattle.definitions.specs.Table.{pick, word_of, table, entry_of}
use Rattle.definitions.specs.Form.{among, list_or_none, count, repeats, words_by, Fine}
use Rattle.definitions.specs.Records.{Relation, Rule, Block, Pack}
use Rattle.definitions.specs.Pack.{WellFormed, yes, read, inner, records, rules}
use Rattle.definitions.specs.Pack as forms
use Rattle.pack.proofs.PackLaws.{words-read}
use Rattle.definitions.specs.Kinds.{declared}
use Rattle.definitions.specs.Places.{relation_words, start_of, first_relation, relations_end}
use Rattle.chains.specs.PackDirectory.{RulesAt, BlocksAt}
use Rattle.chains.specs.DirectoryWord.{starts_in}
use Rattle.chains.specs.Record.{value_at}
use Rattle.chains.proofs.RelationForm.{RelationsFine, kept}
use Rattle.chains.proofs.PackParts.{EachFound, all_found, parts}
use Rattle.chains.proofs.RecordLaws.{value_there}
use Rattle.definitions.specs.Inputs.{sequence}
use Rattle.inputs.proofs.InputRead.{items_words, blocks_words, BlockFits, BlocksFit, items_again, items-long}
use Rattle.inputs.proofs.BlocksStand.{Stands, blocks_stand, block_words_lem, blocks-words}
use Rattle.kinds.proofs.PartLaws.{map-names}
use Rattle.definitions.specs.Resolving.{rule_words, first_rule}
use Rattle.directions.specs.RecordRuns.{places_from, places_in, run_words, body_words, TablesFilled}
use Rattle.chains.proofs.DeclarationLaws.{a_record}
use Rattle.directions.proofs.TurnedPack.{front, front_long, front22, front22_long, pack_words_22, rules_on}
use Rattle.turning.specs.Notes.{Note, notes_run, body_notes, rule_notes, relations_noted, rules_noted}
use Rattle.turning.proofs.MarkedLaws.{AllInside, run_inside}
use Rattle.definitions.specs.WrittenRecords.{joined, sums, lengths, beginnings, block_piece, other_pieces, pieces_of}
use Rattle.resolve.specs.Finish.{order_in, roots_of, block_places}
use Rattle.resolve.proofs.WrittenPack.{joined-map, blocks-joined}

-- ---- relations of which no name comes twice

starts_run : (n : ℕ) (f : ℕ → ℕ) (used : List ℕ) (rs : List Relation) → RelationsFine n used rs → (at : ℕ) → ((m : ℕ) → among m used ≡ false → f m ≡ start_of n m at rs) → map (λ (r : Relation). f r.name) rs ≡ places_from n at rs
unfolding places_from start_of
starts_run n f used [] fine at h = refl
starts_run n f used (r ∷ rs) fine at h =
    let here : f r.name ≡ at = h r.name (kept n (λ v. among v used) r fine.0).fresh ∙ rw (eq-eqb r.name r.name refl) refl in
    let later : (m : ℕ) → (eqb m r.name || among m used) ≡ false → f m ≡ start_of n m (at + length (relation_words n r)) rs =
    λ m e. (let q = or_parts (eqb m r.name) (among m used) e in h m q.1 ∙ rw q.0 refl) in
    ap (λ (x : ℕ). x ∷ map (λ (s : Relation). f s.name) rs) here ∙ ap (λ (l : List ℕ). at ∷ l) (starts_run n f (r.name ∷ used) rs fine.1 (at + length (relation_words n r)) later)

-- ---- pieces

pub sums-many : (at : ℕ) (l : List ℕ) → length (sums at l) ≡ length l
unfolding sums
sums-many at [] = refl
sums-many at (n ∷ l) = ap suc (sums-many (at + n) l)

pub begin_append : (at : ℕ) (a b : List (List ℕ)) → beginnings at (a ++ b) ≡ beginnings at a ++ beginnings (at + length (joined a)) b
unfolding sums
begin_append at [] b = let e : at ≡ at + 0 = omega arith in ap (λ (x : ℕ). beginnings x b) e
begin_append at (w ∷ a) b =
    let e : at + length w + length (joined a) ≡ at + length (w ++ joined a) = omega (arith, length-append w (joined a)) in
    ap (λ (l : List ℕ). at ∷ l) (begin_append (at + length w) a b ∙ ap (λ (x : ℕ). beginnings (at + length w) a ++ beginnings x b) e)

pub begin_relations : (n at : ℕ) (rs : List Relation) → beginnings at (map (relation_words n) rs) ≡ places_from n at rs
unfolding sums places_from
begin_relations n at [] = refl
begin_relations n at (r ∷ rs) = ap (λ (l : List ℕ). at ∷ l) (begin_relations n (at + length (relation_words n r)) rs)

rules_at : (p : Pack) → first_relation p + length (joined (map (relation_words p.names) p.relations)) ≡ relations_end p.names (first_relation p) p.relations
rules_at p =
    let R : List ℕ = run_words (relation_words p.names) p.relations in
    let one : List ℕ = word_of 22 (length p.rules) ∷ [] in
    omega (arith, ap length (joined-map (relation_words p.names) p.relations), front22_long p, front_long p, length-append (front p) (R ++ one), length-append R one)

pub begin_pieces : (p : Pack) → beginnings 0 (pieces_of p) ≡ 0 ∷ (places_in p ++ beginnings (relations_end p.names (first_relation p) p.relations) (other_pieces p))
unfolding sums
begin_pieces p =
    let M : List (List ℕ) = map (relation_words p.names) p.relations in
    let e : 0 + length (front p) ≡ first_relation p = omega (arith, front_long p) in
    ap (λ (l : List ℕ). 0 ∷ l)
    (ap (λ (x : ℕ). beginnings x (M ++ other_pieces p)) e ∙ begin_append (first_relation p) M (other_pieces p) ∙ ap (λ (l : List ℕ). l ++ beginnings (first_relation p + length (joined M)) (other_pieces p)) (begin_relations p.names (first_relation p) p.relations)
    ∙ ap (λ (x : ℕ). places_in p ++ beginnings x (other_pieces p)) (rules_at p))

begin_others : (p : Pack) (at : ℕ) → beginnings at (other_pieces p)
    ≡ at ∷ (beginnings (at + 1) (map (rule_words p.names) p.rules) ++ ((at + 1 + length (joined (map (rule_words p.names) p.rules))) ∷ beginnings (at + 1 + length (joined (map (rule_words p.names) p.rules)) + 1) (map (block_piece p.names) p.blocks)))
unfolding other_pieces sums
begin_others p at = ap (λ (l : List ℕ). at ∷ l) (begin_append (at + 1) (map (rule_words p.names) p.rules) _)

pub others-many : (p : Pack) → length (other_pieces p) ≡ 2 + length p.rules + length p.blocks
unfolding other_pieces
others-many p =
    let R : List (List ℕ) = map (rule_words p.names) p.rules in
    let B : List (List ℕ) = map (block_piece p.names) p.blocks in
    omega (arith, length-append R ((word_of 28 (length p.blocks) ∷ []) ∷ B), length-map p.rules (rule_words p.names), length-map p.blocks (block_piece p.names))

pub others-few : (p : Pack) → WellFormed p → length (other_pieces p) ≤ 1090
unfolding inner records rules Fine count entry_of table
others-few p w = omega (arith, others-many p, at_most p.names 22 1024 refl (length p.rules) w.parts.1.1.1.0.0.1, (blocks_stand p w).few)

-- ---- rules, by their notes

roots_append : (ns ms : List Note) → roots_of (ns ++ ms) ≡ roots_of ns ++ roots_of ms
roots_append [] ms = refl
roots_append (n ∷ ns) ms = go (eqb n.inside 0) (roots_append ns ms)
  where
    go : (b : Bool) → roots_of (ns ++ ms) ≡ roots_of ns ++ roots_of ms → pick b (n.place ∷ roots_of (ns ++ ms)) (roots_of (ns ++ ms)) ≡ pick b (n.place ∷ roots_of ns) (roots_of ns) ++ roots_of ms
    go true e = ap (λ (l : List ℕ). n.place ∷ l) e
    go false e = e

roots_none : (ns : List Note) → AllInside ns → roots_of ns ≡ []
roots_none [] h = refl
roots_none (n ∷ ns) h = rw (ne_eqb n.inside 0 (λ z. omega (arith, h.0))) (roots_none ns h.1)

run_roots : (n i at : ℕ) (l : List Rule) → 1 ≤ i → roots_of (notes_run (rule_words n) rule_notes i at l) ≡ beginnings at (map (rule_words n) l)
unfolding notes_run rule_notes sums
run_roots n i at [] h = refl
run_roots n i at (r ∷ l) h =
    let inner : List Note = notes_run body_words (body_notes i) (suc i) (at + 4) (r.semantics ∷ r.versions) in
    let later : List Note = notes_run (rule_words n) rule_notes (i + length (rule_notes i at r)) (at + length (rule_words n r)) l in
    ap (λ (x : List ℕ). at ∷ x)
    (roots_append inner later ∙ ap (λ (x : List ℕ). x ++ roots_of later) (roots_none inner (run_inside i (suc i) (at + 4) (omega arith) h (r.semantics ∷ r.versions))) ∙ run_roots n (i + length (rule_notes i at r)) (at + length (rule_words n r)) l (omega arith))

pub roots_many : (p : Pack) → length (roots_of (rules_noted p)) ≡ length p.rules
unfolding rules_noted
roots_many p =
    let R : List (List ℕ) = map (rule_words p.names) p.rules in
    ap length (run_roots p.names (1 + length (relations_noted p)) (first_rule p) p.rules (omega arith)) ∙ sums-many (first_rule p) (lengths R) ∙ length-map R (λ (x : List ℕ). length x) ∙ length-map p.rules (rule_words p.names)

-- ---- blocks, by their counts

block-next : (ws : List ℕ) (n : ℕ) (pre rest : List ℕ) (b : Block) → ws ≡ pre ++ (block_piece n b ++ rest) → BlockFits b → length pre + 2 + 3 * repeats (value_at ws (length pre + 1)) ≡ length (pre ++ block_piece n b)
block-next ws n pre rest b e f =
    let one : List ℕ = word_of 29 b.origin ∷ [] in
    let more : List ℕ = word_of 30 (count list_or_none b.items) ∷ (items_words (sequence b.items) ++ rest) in
    let there : ws ≡ (pre ++ one) ++ more = e ∙ ap (λ (l : List ℕ). pre ++ (l ++ rest)) (block_words_lem n b) ∙ sym (append_assoc pre one more) in
    rw (value_there ws (pre ++ one) (items_words (sequence b.items) ++ rest) 30 (count list_or_none b.items) (length pre + 1) there (length-append pre one) f.counts, items_again b.items f.short)
    (omega (arith, length-append pre (block_piece n b), ap length (block_words_lem n b), items-long (sequence b.items)))

run_blocks : (ws : List ℕ) (n : ℕ) (pre : List ℕ) (bs : List Block) (rest : List ℕ) → ws ≡ pre ++ (joined (map (block_piece n) bs) ++ rest) → BlocksFit bs → block_places ws (length pre) (length bs) ≡ beginnings (length pre) (map (block_piece n) bs)
unfolding block_places sums
run_blocks ws n pre [] rest e f = refl
run_blocks ws n pre (b ∷ bs) rest e f =
    let later : List ℕ = joined (map (block_piece n) bs) ++ rest in
    let here : ws ≡ pre ++ (block_piece n b ++ later) = e ∙ ap (λ (l : List ℕ). pre ++ l) (append_assoc (block_piece n b) (joined (map (block_piece n) bs)) rest) in
    ap (λ (l : List ℕ). length pre ∷ l)
    (ap (λ (x : ℕ). block_places ws x (length bs)) (block-next ws n pre later b here f.0) ∙ run_blocks ws n (pre ++ block_piece n b) bs rest (here ∙ sym (append_assoc pre (block_piece n b) later)) f.1
    ∙ ap (λ (x : ℕ). beginnings x (map (block_piece n) bs)) (length-append pre (block_piece n b)))

-- ---- of a checked pack

module _ {ws : List ℕ} (dir : List ℕ) {acts taken : List ℕ} {steps : ℕ} (a : TablesFilled ws (starts_in dir) acts taken steps) where
  abbrev p : Pack
  p = a.checked.pack

  abbrev h : read ws ≡ yes p
  h = a.checked.reads

  w : WellFormed p
  w = (words-read ws p h).fine

  abbrev begins : ℕ → ℕ
  begins m = start_of p.names m (first_relation p) p.relations

  each_start : (l : List Relation) → EachFound p.relations l → map (λ (r : Relation). get_or (starts_in dir) r.name 0) l ≡ map (λ (r : Relation). begins r.name) l
  each_start [] f = refl
  each_start (r ∷ l) f =
      ap (λ (x : ℕ). x ∷ map (λ (s : Relation). get_or (starts_in dir) s.name 0) l) (a_record p w (starts_in dir) (a.filled.noted.placed p h) r.name r f.0)
      ∙ ap (λ (x : List ℕ). begins r.name ∷ x) (each_start l f.1)

  order_is : {names : List ℕ} → names ≡ declared p.relations → order_in dir names ≡ places_in p
  order_is named =
      ap (map (λ m. get_or (starts_in dir) m 0)) named ∙ map-names (λ m. get_or (starts_in dir) m 0) p.relations
      ∙ each_start p.relations (all_found p w) ∙ starts_run p.names begins [] p.relations (parts p w).relations-fine (first_relation p) (λ m e. refl)

  -- where the rules and the blocks start
  module _ {rules blocks : ℕ} (ruled : RulesAt ws rules) (blocked : BlocksAt ws blocks) where
    abbrev n : ℕ
    n = p.names

    abbrev rules_pieces : List (List ℕ)
    rules_pieces = map (rule_words n) p.rules

    S : Stands p
    S = blocks_stand p w

    abbrev before : List ℕ
    before = S.before ++ (word_of 28 (length p.blocks) ∷ [])

    blocks_at : blocks ≡ rules + 1 + length (joined rules_pieces)
    blocks_at =
        let R : List ℕ = run_words (rule_words n) p.rules in
        let B : List ℕ = blocks_words p.blocks in
        omega (
          arith,
          ruled p h,
          blocked p h,
          S.long,
          ap length S.same,
          length-append S.before (word_of 28 (length p.blocks) ∷ B),
          ap length (pack_words_22 p),
          length-append (front22 p) (rules_on p),
          length-append R (words_by (forms.blocks n) p.blocks),
          ap length (blocks-words n p.blocks),
          front22_long p,
          ap length (joined-map (rule_words n) p.rules),
        )

    rules_begin : roots_of (rules_noted p) ≡ beginnings (rules + 1) rules_pieces
    unfolding rules_noted
    rules_begin = run_roots n (1 + length (relations_noted p)) (first_rule p) p.rules (omega arith) ∙ ap (λ (x : ℕ). beginnings (x + 1) rules_pieces) (sym (ruled p h))

    before-long : length before ≡ blocks + 1
    before-long = length-append S.before (word_of 28 (length p.blocks) ∷ []) ∙ omega (arith, S.long, blocked p h)

    blocks_begin : block_places ws (blocks + 1) (length p.blocks) ≡ beginnings (blocks + 1) (map (block_piece n) p.blocks)
    blocks_begin =
        let P : List ℕ = joined (map (block_piece n) p.blocks) in
        ap (λ (x : ℕ). block_places ws x (length p.blocks)) (sym before-long)
        ∙ run_blocks ws n before p.blocks [] (sym (words-read ws p h).same ∙ S.same ∙ ap (λ (l : List ℕ). S.before ++ l) (sym (blocks-words n p.blocks) ∙ sym (blocks-joined n p.blocks)) ∙ sym (append_assoc S.before (word_of 28 (length p.blocks) ∷ []) P) ∙ ap (λ (l : List ℕ). before ++ l) (sym (append-nil P))) S.fits
        ∙ ap (λ (x : ℕ). beginnings x (map (block_piece n) p.blocks)) before-long

    pub all_begin : {names : List ℕ} → names ≡ declared p.relations
        → 0 ∷ (order_in dir names ++ (rules ∷ (roots_of (rules_noted p) ++ (blocks ∷ block_places ws (blocks + 1) (length p.blocks))))) ≡ beginnings 0 (pieces_of p)
    all_begin {names} named =
        ap (λ (l : List ℕ). 0 ∷ (order_in dir names ++ (rules ∷ (l ++ (blocks ∷ block_places ws (blocks + 1) (length p.blocks)))))) rules_begin
        ∙ ap (λ (l : List ℕ). 0 ∷ (order_in dir names ++ (rules ∷ (beginnings (rules + 1) rules_pieces ++ (blocks ∷ l))))) blocks_begin
        ∙ ap (λ (x : ℕ). 0 ∷ (order_in dir names ++ (rules ∷ (beginnings (rules + 1) rules_pieces ++ (x ∷ beginnings (x + 1) (map (block_piece n) p.blocks)))))) blocks_at
        ∙ ap (λ (l : List ℕ). 0 ∷ (order_in dir names ++ l)) (sym (begin_others p rules)) ∙ ap (λ (l : List ℕ). 0 ∷ (l ++ beginnings rules (other_pieces p))) (order_is named)
        ∙ ap (λ (x : ℕ). 0 ∷ (places_in p ++ beginnings x (other_pieces p))) (ruled p h) ∙ sym (begin_pieces p)
