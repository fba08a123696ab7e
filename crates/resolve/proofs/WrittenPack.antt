-- What is written of a pack's words are the words of the pack with its relations stamped.
use Prim.Native.Nat.{ℕ, suc, ◌+◌, ◌-◌, ◌*◌, ◌<◌, ◌≤◌}
use native.Mathlib.Omega.{arith}
use mathlib.Core.Path.{◌≡◌, refl, ap, sym, ◌∙◌, subst}
use mathlib.Core.List.{List, [], ◌∷◌, ◌++◌, map, append_assoc, append-nil}
use mathlib.Core.Bool.{Bool}
use mathlib.Core.Option.{some}
use lib.ListN.{length, take, drop, set, replicate, length-append, length-map, length-drop, length-set}
use lib.Seq.{take_at, drop_at, drop-append-le}
use lib.Dec.{eqb}
use borrow.Author.Tests.{ne_eqb}
use Rattle.definitions.specs.Table.{pick, word_of}
use Rattle.definitions.specs.Form.{among, count, items, words_all, words_by, Fine}
use Rattle.definitions.specs.Records.{Derivation, Relation, Block, Pack}
use Rattle.definitions.specs.Pack.{new_name, name_list, relation_tail, relation, defaulted, block, blocks, total, words}
use Rattle.pack.proofs.PackLaws.{words-length}
use Rattle.definitions.specs.Places.{names_at, relation_words}
use Rattle.chains.proofs.ListAt.{name_words, list-words, early, late, option-words, InWords}
use Rattle.chains.proofs.RelationForm.{RelationsFine}
use Rattle.chains.proofs.PackParts.{parts}
use Rattle.definitions.specs.Resolving.{rule_words, or_kinds, with_entities, stamped_with}
use Rattle.chains.specs.Record.{kind_count, slots_place}
use Rattle.stamping.specs.Stamping.{StampedBy, as_it_is, with_kinds, added_for, added_by}
use Rattle.definitions.specs.WrittenRecords.{joined, front_piece, block_piece, other_pieces, pieces_of}
use Rattle.resolve.specs.Pieces.{Stamped, no_more, one_more, with_relations, from_to, list_words, put_for, Stampable, Written, WriteAsked, come_out, RecordsPut}
use Rattle.directions.specs.RecordRuns.{places_from, run_words}
use Rattle.chains.proofs.RecordLaws.{counted, before-slots, four, four_length}
use Rattle.resolve.proofs.WriteLaws.{joined-append, piece_stays, piece_stamped, Pieces, no_piece, piece, Writing, all-filled}
use Rattle.directions.proofs.TurnedPack.{opened, pack-words, rules_on}

-- ---- a derived relation: the words up to list 21, by its list 9

abbrev three : Relation → List ℕ
three r = word_of 6 r.name ∷ word_of 7 r.origin ∷ word_of 8 r.arity ∷ []

abbrev lead : ℕ → Relation → Derivation → List ℕ → List ℕ
lead n r d ks = three r ++ (list_words 9 ks ++ (word_of 11 1 ∷ early n d))

derived-words : (n : ℕ) (r : Relation) (d : Derivation) → r.derivation ≡ some d → relation_words n r ≡ lead n r d r.slot_kinds ++ (list_words 21 d.slot_entities ++ late n d)
unfolding relation relation_tail new_name name_list words_by count items
derived-words n r d e = rw (list-words n r.slot_kinds, option-words n r.derivation d e) (simp append_assoc)

-- ---- with a list stamped on it

-- the words from a place on up to another
up_to : (work P Q : List ℕ) (from to : ℕ) → work ≡ P ++ Q → length P ≡ to → from ≤ to → from_to from to work ≡ drop from P
up_to work P Q from to e l h = ap (from_to from to) e ∙ ap (take (to - from)) (drop-append-le from P Q (omega arith)) ∙ take_at (drop from P) Q (to - from) (length-drop from P ∙ omega arith)

glue : (a b c d e : List ℕ) → (a ++ (b ++ c)) ++ (d ++ e) ≡ ((a ++ b) ++ (c ++ d)) ++ e
glue a b c d e = simp append_assoc

module _ (n : ℕ) (r : Relation) (used : ℕ → Bool) (fine : Fine (relation n used) r) (most : n ≤ 4096) (d : Derivation) (e : r.derivation ≡ some d) (z : d.slot_entities ≡ []) (ks : List ℕ) where
  W : List ℕ
  W = relation_words n r

  i : InWords W 0 n r
  unfolding W
  i = record { before = []; after = []; long = refl; same-words = sym (append-nil W); used = used; fine = fine }

  abbrev L : List ℕ
  L = lead n r d r.slot_kinds

  its-words : W ≡ L ++ (word_of 21 0 ∷ late n d)
  unfolding W
  its-words = derived-words n r d e ∙ ap (λ (l : List ℕ). L ++ (list_words 21 l ++ late n d)) z

  its-stamped : relation_words n (stamped_with r d ks) ≡ lead n r d (or_kinds r.slot_kinds ks) ++ (list_words 21 ks ++ late n d)
  its-stamped = derived-words n (stamped_with r d ks) (with_entities d ks) refl

  abbrev place : ℕ
  place = slots_place W 0 + 4

  place_is : length L ≡ place
  unfolding i
  place_is = ap length same ∙ four_length W 0 n r i most d e
    where
      same : L ≡ before-slots W 0 n r i most d e ++ four W 0 n r i most d e
      same = sym (simp append_assoc)

  long : length W ≡ place + 1 + length (late n d)
  long = ap length its-words ∙ length-append L (word_of 21 0 ∷ late n d) ∙ omega (arith, place_is)

  up_to-place : (from : ℕ) → from ≤ place → from_to from place W ≡ drop from L
  up_to-place from h = up_to W L (word_of 21 0 ∷ late n d) from place its-words place_is h

  from_place : from_to (place + 1) (length W) W ≡ late n d
  from_place =
      let one : List ℕ = word_of 21 0 ∷ [] in
      up_to W W [] (place + 1) (length W) (sym (append-nil W)) refl (omega (arith, long)) ∙ ap (drop (place + 1)) (its-words ∙ sym (append_assoc L one (late n d)))
      ∙ drop_at (L ++ one) (late n d) (place + 1) (length-append L one ∙ omega (arith, place_is))

  piece_is : relation_words n (stamped_with r d ks) ≡ put_for ks W place ++ from_to (place + 1) (length W) W
  piece_is = its-stamped ∙ go r.slot_kinds refl
    where
      kinds-are : kind_count W 0 ≡ length r.slot_kinds
      kinds-are = counted W 0 n r i most

      go : (l : List ℕ) → r.slot_kinds ≡ l → lead n r d (or_kinds r.slot_kinds ks) ++ (list_words 21 ks ++ late n d) ≡ put_for ks W place ++ from_to (place + 1) (length W) W
      go [] k =
          let Y : List ℕ = word_of 11 1 ∷ early n d in
          let a : from_to 0 3 W ≡ three r = ap (from_to 0 3) its-words in
          let b : from_to 4 place W ≡ Y = up_to-place 4 (omega arith) ∙ ap (λ (l : List ℕ). drop 4 (lead n r d l)) k in
          let none : kind_count W 0 ≡ 0 = kinds-are ∙ ap length k in
          ap (λ (v : List ℕ). lead n r d (or_kinds v ks) ++ (list_words 21 ks ++ late n d)) k ∙ rw (none, a, b, from_place) (glue (three r) (list_words 9 ks) Y (list_words 21 ks) (late n d))
      go (x ∷ l) k =
          rw (kinds-are, ne_eqb (length r.slot_kinds) 0 (λ q. omega (arith, ap length k)), up_to-place 0 (omega arith), from_place)
          (ap (λ (v : List ℕ). lead n r d (or_kinds v ks) ++ (list_words 21 ks ++ late n d)) k ∙ ap (λ (v : List ℕ). lead n r d v ++ (list_words 21 ks ++ late n d)) (sym k) ∙ sym (append_assoc L (list_words 21 ks) (late n d)))

  piece_fits : place < length W
  piece_fits = omega (arith, long)

  -- how many words more
  stamped-long : {count : ℕ} → count ≡ length r.slot_kinds → length (relation_words n (stamped_with r d ks)) ≡ length (relation_words n r) + length ks * pick (eqb count 0) 2 1
  unfolding W
  stamped-long {count} c =
      let b = ap length its-stamped ∙ length-append (lead n r d (or_kinds r.slot_kinds ks)) (list_words 21 ks ++ late n d) in
      let m = length-append (list_words 21 ks) (late n d) in
      go r.slot_kinds refl b
    where
      size : (l : List ℕ) → length (lead n r d l) ≡ 5 + length l + length (early n d)
      size l = omega (arith, length-append (name_words l) (word_of 11 1 ∷ early n d), length-map l (word_of 10))

      go : (l : List ℕ) → r.slot_kinds ≡ l → length (relation_words n (stamped_with r d ks)) ≡ length (lead n r d (or_kinds r.slot_kinds ks)) + length (list_words 21 ks ++ late n d)
          → length (relation_words n (stamped_with r d ks)) ≡ length W + length ks * pick (eqb count 0) 2 1
      go [] k b =
          let x : length (lead n r d (or_kinds r.slot_kinds ks)) ≡ 5 + length ks + length (early n d) = ap (λ (l : List ℕ). length (lead n r d (or_kinds l ks))) k ∙ size ks in
          let y : length L ≡ 5 + 0 + length (early n d) = ap (λ (l : List ℕ). length (lead n r d l)) k ∙ size [] in
          let zero_is : count ≡ 0 = c ∙ ap length k in
          rw zero_is (omega (arith, long, place_is, length-append (list_words 21 ks) (late n d), length-map ks (word_of 10)))
      go (j ∷ l) k b =
          let x : length (lead n r d (or_kinds r.slot_kinds ks)) ≡ length L = ap (λ (v : List ℕ). length (lead n r d (or_kinds v ks))) k ∙ ap (λ (v : List ℕ). length (lead n r d v)) (sym k) in
          rw (ne_eqb count 0 (λ q. omega (arith, c, ap length k))) (omega (arith, long, place_is, length-append (list_words 21 ks) (late n d), length-map ks (word_of 10)))

-- ---- how many words more all relations have

module _ (ws work : List ℕ) (n : ℕ) (most : n ≤ 4096) (after : List ℕ) where
  one_longer : (B T : List ℕ) (r r' : Relation) (used : ℕ → Bool) → Fine (relation n used) r → work ≡ B ++ (relation_words n r ++ T) → {list : ℕ} → StampedBy ws list r r'
      → length (relation_words n r') ≡ length (relation_words n r) + added_for ws work list (length B)
  unfolding added_for names_at
  one_longer B T r r' used fine stands (as_it_is e) = rw e (omega arith)
  one_longer B T r r' used fine stands {list} (with_kinds d ks pos q o z) =
      rw q (stamped-long n r used fine most d o z ks (counted work (length B) n r (record { before = B; after = T; long = refl; same-words = stands; used = used; fine = fine }) most))

  pub longer : (B : List ℕ) (used : List ℕ) {lists : List ℕ} {rs rs' : List Relation} → RelationsFine n used rs → Stamped ws lists rs rs' → work ≡ B ++ (run_words (relation_words n) rs ++ after)
      → length (run_words (relation_words n) rs') ≡ length (run_words (relation_words n) rs) + added_by ws work (places_from n (length B) rs) lists
  unfolding added_by places_from
  longer B used f no_more stands = refl
  longer B used {rs = r ∷ rs} {rs' = r' ∷ rs'} f (one_more {list = list} {lists = lists} s more) stands =
      let opened : work ≡ B ++ (relation_words n r ++ (run_words (relation_words n) rs ++ after)) = stands ∙ ap (λ (x : List ℕ). B ++ x) (append_assoc (relation_words n r) (run_words (relation_words n) rs) after) in
      let here = one_longer B (run_words (relation_words n) rs ++ after) r r' (λ v. among v used) f.0 opened s in
      let long = length-append B (relation_words n r) in
      let later : length (run_words (relation_words n) rs') ≡ length (run_words (relation_words n) rs) + added_by ws work (places_from n (length B + length (relation_words n r)) rs) lists =
      longer (B ++ relation_words n r) (r.name ∷ used) f.1 more (opened ∙ sym (append_assoc B (relation_words n r) (run_words (relation_words n) rs ++ after)))
      ∙ ap (λ (x : ℕ). length (run_words (relation_words n) rs) + added_by ws work (places_from n x rs) lists) long in
      length-append (relation_words n r') (run_words (relation_words n) rs') ∙ omega (arith, here, later, length-append (relation_words n r) (run_words (relation_words n) rs))

-- ---- pieces

pub joined-map : {A : Type 0} (W : A → List ℕ) (l : List A) → joined (map W l) ≡ run_words W l
joined-map W [] = refl
joined-map W (a ∷ l) = ap (λ (x : List ℕ). W a ++ x) (joined-map W l)

-- with no lists they stay
stays : (ws w : List ℕ) {lists : List ℕ} {l l' : List (List ℕ)} → Pieces ws lists l l' → Pieces ws (0 ∷ lists) (w ∷ l) (w ∷ l')
unfolding Stampable
stays ws w more = piece (λ z. absurd (z refl)) (sym (piece_stays ws w refl)) more

all_stay : (ws : List ℕ) (l : List (List ℕ)) → Pieces ws (replicate (length l) 0) l l
all_stay ws [] = no_piece
all_stay ws (w ∷ l) = stays ws w (all_stay ws l)

module _ (ws : List ℕ) (n : ℕ) (most : n ≤ 4096) where
  relation_piece : (r r' : Relation) (used : ℕ → Bool) → Fine (relation n used) r → {list : ℕ} → StampedBy ws list r r' → {lists : List ℕ} {l l' : List (List ℕ)} → Pieces ws lists l l' → Pieces ws (list ∷ lists) (relation_words n r ∷ l) (relation_words n r' ∷ l')
  unfolding Stampable W
  relation_piece r r' used fine (as_it_is e) more = piece (λ z. absurd (z e)) (sym (piece_stays ws (relation_words n r) e)) more
  relation_piece r r' used fine {list} (with_kinds d ks pos q o z) more =
      let on : list ≡ 0 → ⊥ = λ y. omega arith in
      piece (λ y. piece_fits n r used fine most d o z ks) (piece_is n r used fine most d o z ks ∙ sym (piece_stamped ws (relation_words n r) on refl ∙ rw q refl)) more

  relation_pieces : (used : List ℕ) {its : List ℕ} {rs rs' : List Relation} → RelationsFine n used rs → Stamped ws its rs rs' → {lists : List ℕ} {l l' : List (List ℕ)} → Pieces ws lists l l'
      → Pieces ws (its ++ lists) (map (relation_words n) rs ++ l) (map (relation_words n) rs' ++ l')
  relation_pieces used f no_more rest = rest
  relation_pieces used {rs = r ∷ rs} {rs' = r' ∷ rs'} f (one_more s more) rest = relation_piece r r' (λ v. among v used) f.0 s (relation_pieces (r.name ∷ used) f.1 more rest)

-- of a pack
pub blocks-joined : (n : ℕ) (bs : List Block) → word_of 28 (length bs) ∷ joined (map (block_piece n) bs) ≡ words_by (blocks n) bs
unfolding blocks words_by count items
blocks-joined n bs = ap (λ (l : List ℕ). word_of 28 (length bs) ∷ l) (go bs)
  where
    go : (bs : List Block) → joined (map (block_piece n) bs) ≡ words_all {S = Unit {0}} (λ u a. u) (λ u a. words_by (block n) a) tt bs
    go [] = refl
    go (b ∷ bs) = ap (λ (l : List ℕ). block_piece n b ++ l) (go bs)

others-joined : (p : Pack) → joined (other_pieces p) ≡ word_of 22 (length p.rules) ∷ rules_on p
unfolding other_pieces
others-joined p =
    let n : ℕ = p.names in
    let B : List ℕ = word_of 28 (length p.blocks) ∷ joined (map (block_piece n) p.blocks) in
    ap (λ (l : List ℕ). word_of 22 (length p.rules) ∷ l)
    (joined-append (map (rule_words n) p.rules) _ ∙ ap (λ (l : List ℕ). l ++ B) (joined-map (rule_words n) p.rules) ∙ ap (λ (l : List ℕ). run_words (rule_words n) p.rules ++ l) (blocks-joined n p.blocks))

pub pieces_joined : (p : Pack) (rs : List Relation) → joined (map (relation_words p.names) rs ++ other_pieces p) ≡ run_words (relation_words p.names) rs ++ (word_of 22 (length p.rules) ∷ rules_on p)
pieces_joined p rs =
    joined-append (map (relation_words p.names) rs) (other_pieces p) ∙ ap (λ (x : List ℕ). x ++ joined (other_pieces p)) (joined-map (relation_words p.names) rs)
    ∙ ap (λ (x : List ℕ). run_words (relation_words p.names) rs ++ x) (others-joined p)

-- ---- for the code

module _ {ws places lists work : List ℕ} {room : ℕ} (a : WriteAsked ws places lists work room) where
  abbrev q : Pack
  q = a.whole

  abbrev q' : Pack
  q' = with_relations q a.stamped

  abbrev after : List ℕ
  after = word_of 22 (length q.rules) ∷ rules_on q

  -- the pieces come out as those of the pack with its relations stamped, but for the total
  abbrev pub come : List (List ℕ)
  come = come_out a

  same-many : {ls : List ℕ} {rs rs' : List Relation} → Stamped ws ls rs rs' → length rs ≡ length rs'
  same-many no_more = refl
  same-many (one_more s more) = ap suc (same-many more)

  total-set : {v : ℕ} → v ≡ word_of 1 room → set (joined come) 0 v ≡ words q'
  total-set {v} e =
      let rest : List ℕ = run_words (relation_words q.names) a.stamped ++ after in
      ap (λ (x : List ℕ). v ∷ (opened q ++ x)) (pieces_joined q a.stamped) ∙ ap (λ (x : ℕ). x ∷ (opened q ++ rest)) (e ∙ ap (word_of 1) (a.size ∙ words-length q'))
      ∙ ap (λ (k : ℕ). word_of 1 (total q') ∷ ((word_of 2 q.names ∷ (words_by (defaulted q.names) q.defaulted ++ (word_of 5 k ∷ []))) ++ rest)) (same-many a.stamps) ∙ sym (pack-words q')

  pub come_long : length (joined come) ≡ room
  come_long = sym (length-set (joined come) 0 (word_of 1 room)) ∙ ap length (total-set refl) ∙ sym a.size

  pub writing_begin : (out : List ℕ) → length out ≡ room → Writing ws work places lists come 0 0 0 out
  writing_begin out l =
      record {
        B = [];
        l = pieces_of q;
        l' = come;
        its = lists;
        stands = a.stands ∙ pack-words q ∙ ap (λ (x : List ℕ). front_piece q ++ x) (sym (pieces_joined q q.relations));
        starts = refl;
        begins = a.begins;
        listed = refl;
        comes = subst (λ (x : List ℕ). Pieces ws x (pieces_of q) come) (sym a.listed) (stays ws (front_piece q) (relation_pieces ws q.names (parts q a.fine).most [] (parts q a.fine).relations-fine a.stamps (all_stay ws (other_pieces q))));
        done = [];
        written = record { counts = refl; holds = refl };
        all = refl;
        size = l ∙ sym come_long;
      }

  -- all are written, up to the end
  pub all-counted : {out : List ℕ} {to : ℕ} → Written come out to → to ≡ room
  all-counted w = w.counts ∙ come_long

  pub not_empty : {long : ℕ} → long ≡ room → 0 < long
  not_empty e = omega (arith, come_long)

  pub writing_end : {out : List ℕ} {end : ℕ} → Written come out end → end ≡ room → length out ≡ room → set out 0 (word_of 1 end) ≡ words q'
  writing_end {out} {end} w e l = ap (λ (x : List ℕ). set x 0 (word_of 1 end)) (all-filled w (l ∙ sym come_long)) ∙ total-set (ap (word_of 1) e)

-- records put in a slice of another length, which is the same
pub records_as : {ws places lists work : List ℕ} {room room' : ℕ} {left : List ℕ} {end : ℕ} → room ≡ room' → RecordsPut ws places lists work room left end → RecordsPut ws places lists work room' left end
records_as {ws} {places} {lists} {work} {left = left} {end} e r = subst (λ (n : ℕ). RecordsPut ws places lists work n left end) e r
