-- The directory that Check writes says of every name what its record says.
use Rattle.std.specs.Prelude.{Ok}
use Prim.Native.Nat.{ℕ, zero, suc, ◌+◌, ◌-◌, ◌*◌, ◌/◌, ◌%◌, ◌<◌, ◌≤◌}
use native.Mathlib.Omega.{arith}
use native.Mathlib.Numerals.{add-one}
use mathlib.Core.Path.{◌≡◌, refl, ap, sym, ◌∙◌, subst}
use mathlib.Core.List.{List, [], ◌∷◌, ◌++◌, append_assoc, append-nil}
use mathlib.Core.Bool.{Bool, true, false}
use mathlib.Core.Option.{Option, none, some}
use lib.ListN.{length, get_or, set, take, replicate, length-replicate, length-set, length-append}
use lib.Seq.{get_or-set_same, get_or-set_other, take-set-le, take-suc-set}
use lib.Dec.{eqb, ltb}
use borrow.Author.Tests.{eq-eqb, ne_eqb, eqb-true, eqb-false, lt-ltb, le-ltb, ltb-true, ltb-false}
use Rattle.definitions.specs.Table.{pick}
use Rattle.definitions.specs.Table as tables
use Rattle.definitions.specs.Form.{among, words_by, count, items}
use Rattle.definitions.specs.Records.{Hop, Derivation, Relation, Pack}
use Rattle.definitions.specs.FieldRows.{to_row}
use Rattle.definitions.specs.Pack.{WellFormed, yes, read, new_name, relation, relations, defaulted}
use Rattle.records.specs.declared.directory.Layout.{Layout}
use Rattle.records.specs.Directory.{Laid, notes_all, note_relation, directory_of, layout_of, relations_at, rules_at, blocks_at, entry, derived_note, note_in, lead_of, Clear}
use Rattle.checking.specs.CheckPromises.{names_said, DirectoryChecked, answer_in}
use Rattle.definitions.specs.Chain.{mapped, end, next}
use Rattle.definitions.specs.Kinds.{list21, inherits, plain, derived, declares, declared, find, read_at, kind_step}
use Rattle.definitions.specs.Places.{start_of, first_relation, relations_end, count_place, place_of, relation_words, hops}
use Rattle.definitions.specs.Places as places
use Rattle.chains.specs.Declaration.{coded_link, placed, declaration_at}
use Rattle.definitions.specs.Answers.{table_from}
use Rattle.chains.specs.DirectoryWord.{Reaches, word_in, start_by, slots_by, declared_by, start_in, slot_in, declared_in, starts_in, slots_in, declarations_in, names_in}
use Rattle.chains.specs.PackDirectory.{place_in, record_of, slots_for, slots_of, IsPack, ClearTable, DirectoryRoom, IsDirectory, Sized}
use Rattle.pack.proofs.PackLaws.{words-read}
use Rattle.checking.proofs.CheckLaws.{clear-zeros, said-most, zero_at}
use Rattle.chains.proofs.FillLaws.{whole_at, whole-past}
use Rattle.chains.proofs.RelationForm.{RelationsFine, relations_words, kept}
use Rattle.chains.proofs.PackParts.{parts, opening_length, mapped_alike, find-name, find_kept, not_again, start_within, relations-room}
use Rattle.chains.proofs.PlaceBounds.{found-small}
use Rattle.chains.proofs.CheckedLaws.{same-pack, said-names}
use Rattle.chains.proofs.AnswerLaws.{checked}

-- ---- relations noted in a row

module _ (n : ℕ) where
  -- the word of a name, which had another before
  abbrev said : ℕ → ℕ → Option Relation → ℕ
  said here start none = here
  said here start (some r) = entry start r

  long_after : (i at : ℕ) (r : Relation) (d : List ℕ) → 512 + n ≤ length d → 512 + n ≤ length (note_relation i at r d)
  unfolding note_relation
  long_after i at r d w = let e : length (set (set d i r.name) (512 + r.name) (entry at r)) ≡ length d = simp length-set in omega arith

  words_at : (m i at : ℕ) (used : List ℕ) (rs : List Relation) (d : List ℕ) → i + length rs ≤ 512 → 512 + n ≤ length d → RelationsFine n used rs
      → get_or (notes_all (relation_words n) note_relation i at rs d) (512 + m) 0 ≡ said (get_or d (512 + m) 0) (start_of n m at rs) (find m rs)
  unfolding notes_all note_relation start_of find
  words_at m i at used [] d l w f = refl
  words_at m i at used (r ∷ rs) d l w f =
      words_at m (i + 1) next (r.name ∷ used) rs (note_relation i at r d) (omega arith) (long_after i at r d w) f.1 ∙ go (eqb m r.name) refl
    where
      next : ℕ
      next = at + length (relation_words n r)

      d1 : List ℕ
      d1 = set d i r.name

      go : (b : Bool) → eqb m r.name ≡ b
          → said (get_or (set d1 (512 + r.name) (entry at r)) (512 + m) 0) (start_of n m next rs) (find m rs) ≡ said (get_or d (512 + m) 0) (pick b at (start_of n m next rs)) (pick b (some r) (find m rs))
      go true e =
          let q : m ≡ r.name = eqb-true m r.name e in
          let k = kept n (λ v. among v used) r f.0 in
          let o : find m rs ≡ none = not_again n m (r.name ∷ used) rs f.1 (rw e refl) in
          rw (o, q) (get_or-set_same d1 (512 + r.name) (entry at r) 0 (omega (arith, length-set d i r.name, k.below)))
      go false e =
          ap (λ (x : ℕ). said x (start_of n m next rs) (find m rs))
          (get_or-set_other d1 (512 + r.name) (512 + m) (entry at r) 0 (λ z. eqb-false m r.name e (omega arith)) ∙ get_or-set_other d i (512 + m) r.name 0 (λ z. omega arith))

  -- the names in record order
  order_of : (i at : ℕ) (rs : List Relation) (d : List ℕ) → i + length rs ≤ 512 → 512 ≤ length d → take (i + length rs) (notes_all (relation_words n) note_relation i at rs d) ≡ take i d ++ declared rs
  unfolding notes_all note_relation
  order_of i at [] d l w = let z : i + 0 ≡ i = omega arith in rw z (sym (append-nil (take i d)))
  order_of i at (r ∷ rs) d l w =
      let z : i + suc (length rs) ≡ i + 1 + length rs = omega arith in
      let d1 : List ℕ = set d i r.name in
      let long : length d1 ≡ length d = length-set d i r.name in
      let one : take (i + 1) (set d1 (512 + r.name) (entry at r)) ≡ take i d ++ (r.name ∷ []) =
      take-set-le (i + 1) d1 (512 + r.name) (entry at r) (omega arith) ∙ ap (λ (k : ℕ). take k d1) (add-one i) ∙ take-suc-set d i r.name (omega arith) in
      ap (λ (k : ℕ). take k (notes_all (relation_words n) note_relation i at (r ∷ rs) d)) z
      ∙ order_of (i + 1) (at + length (relation_words n r)) rs (note_relation i at r d) (omega arith) (omega (arith, length-set d1 (512 + r.name) (entry at r)))
      ∙ ap (λ (l : List ℕ). l ++ declared rs) one
      ∙ append_assoc (take i d) (r.name ∷ []) (declared rs)

  -- where they end
  pub end_of : (at : ℕ) (used : List ℕ) (rs : List Relation) → relations_end n at rs ≡ at + length (relations_words n used rs)
  unfolding relation new_name words_by
  end_of at used [] = omega arith
  end_of at used (r ∷ rs) =
      let e = end_of (at + length (relation_words n r)) (r.name ∷ used) rs in
      let l = length-append (relation_words n r) (relations_words n (r.name ∷ used) rs) in
      omega arith

  long-all : (i at : ℕ) (rs : List Relation) (d : List ℕ) → 512 + n ≤ length d → 512 + n ≤ length (notes_all (relation_words n) note_relation i at rs d)
  unfolding notes_all
  long-all i at [] d w = w
  long-all i at (r ∷ rs) d w = long-all (i + 1) (at + length (relation_words n r)) rs (note_relation i at r d) (long_after i at r d w)

-- ---- what a word says

filled : (k : ℕ) (ks : List ℕ) (a b : ℕ) → pick (eqb (length (k ∷ ks)) 0) a b ≡ b
filled k ks a b = rw (ne_eqb (length (k ∷ ks)) 0 (λ e. omega arith)) refl

pub start_said : (start : ℕ) (r : Relation) → start < 8192 → start_by (entry start r) ≡ start
start_said start r h = omega arith

module _ (start : ℕ) (low : start < 8192) where
  -- a word with a list
  listed : (list link : ℕ) → 0 < list → list < 64 → declared_by (start + 8192 * (list + 64 * link)) ≡ start + list
  listed list link p h =
      let w : ℕ = start + 8192 * (list + 64 * link) in
      let a : w / 8192 % 64 ≡ list = omega arith in
      let b : w % 8192 ≡ start = omega arith in
      rw (a, b, ne_eqb list 0 (λ z. omega arith)) refl

  -- and one without
  unlisted : (link : ℕ) → declared_by (start + 8192 * (64 * link)) ≡ pick (ltb link 64) 0 (65536 + (link - 64))
  unlisted link =
      let w : ℕ = start + 8192 * (64 * link) in
      let a : w / 8192 % 64 ≡ 0 = omega arith in
      let b : w / 8192 / 64 ≡ link = omega arith in
      rw (a, b) refl

  slots-listed : (list link : ℕ) → list < 64 → slots_by (start + 8192 * (list + 64 * link)) ≡ pick (eqb link 0) 0 (start + pick (ltb link 64) link 7)
  slots-listed list link h =
      let w : ℕ = start + 8192 * (list + 64 * link) in
      let a : w / 8192 / 64 ≡ link = omega arith in
      let b : w % 8192 ≡ start = omega arith in
      rw (a, b) refl

  -- slots that stand so far behind
  slots_behind : (list link : ℕ) → list < 64 → 0 < link → link < 64 → slots_by (start + 8192 * (list + 64 * link)) ≡ start + link
  slots_behind list link h p l = slots-listed list link h ∙ rw (ne_eqb link 0 (λ z. omega arith), lt-ltb link 64 l) refl

  unlisted_slots : (link : ℕ) → slots_by (start + 8192 * (64 * link)) ≡ pick (eqb link 0) 0 (start + pick (ltb link 64) link 7)
  unlisted_slots link = let e : start + 8192 * (64 * link) ≡ start + 8192 * (0 + 64 * link) = omega arith in ap slots_by e ∙ slots-listed 0 link (omega arith)

  unlisted_behind : (link : ℕ) → 0 < link → link < 64 → slots_by (start + 8192 * (64 * link)) ≡ start + link
  unlisted_behind link p l = unlisted_slots link ∙ rw (ne_eqb link 0 (λ z. omega arith), lt-ltb link 64 l) refl

  hops-same : (p : Option (List Hop)) → hops p ≡ places.hops p
  hops-same none = refl
  hops-same (some l) = refl

  pub declared-said : (r : Relation) → length r.slot_kinds ≤ 8 → ((d : Derivation) → r.derivation ≡ some d → places.hops d.path ≤ 8) → declared_by (entry start r) ≡ coded_link (declaration_at start r)
  unfolding declaration_at note_in lead_of
  declared-said r few short = go r.derivation refl
    where
      plainly : (ks : List ℕ) → declared_by (start + 8192 * pick (eqb (length ks) 0) 0 3) ≡ coded_link (mapped (placed start r) (plain r.name ks))
      plainly [] = unlisted 0
      plainly (k ∷ ks) = rw (filled k ks 0 3) (listed 3 0 (omega arith) (omega arith))

      leading : (slots s : ℕ) (b : Bool) → slots < 64
          → declared_by (start + 8192 * pick (eqb (pick b 0 (s + 1)) 0) (64 * slots) (64 * (63 + pick b 0 (s + 1)))) ≡ coded_link (mapped (placed start r) (pick b (end none) (next s)))
      leading slots s true h = unlisted slots ∙ rw (lt-ltb slots 64 h) refl
      leading slots s false h =
          let q : 63 + (s + 1) - 64 ≡ s = omega arith in
          rw (ne_eqb (s + 1) 0 (λ z. omega arith)) (unlisted (63 + (s + 1)) ∙ rw (le-ltb (63 + (s + 1)) 64 (omega arith), q) refl)

      pathed : (slots s : ℕ) (q : Option (List Hop)) → slots < 64
          → declared_by (start + 8192 * pick (eqb (lead_of s q) 0) (64 * slots) (64 * (63 + lead_of s q))) ≡ coded_link (mapped (placed start r) (inherits s q))
      pathed slots s none h = leading slots s (eqb s tables.none) h
      pathed slots s (some l) h = unlisted slots ∙ rw (lt-ltb slots 64 h) refl

      go : (o : Option Derivation) → r.derivation ≡ o → declared_by (start + 8192 * note_in (length r.slot_kinds) o) ≡ coded_link (mapped (placed start r) (declares r.name r.slot_kinds o))
      go none e = plainly r.slot_kinds
      go (some d) e = by-lists d.slot_entities r.slot_kinds
        where
          slots : ℕ
          slots = 7 + length r.slot_kinds + 3 * hops d.path

          small : slots ≤ 39
          small = omega (arith, short d e, hops-same d.path)

          at_21 : start + (slots + 4) ≡ start + count_place list21 r
          at_21 = rw e (omega (arith, hops-same d.path))

          by-lists : (es ks : List ℕ) → declared_by (start + 8192 * derived_note (length ks) slots (length es) (lead_of d.source d.path)) ≡ coded_link (mapped (placed start r) (derived r.name d es ks))
          by-lists (x ∷ es) ks = rw (filled x es (pick (eqb (length ks) 0) (pick (eqb (lead_of d.source d.path) 0) (64 * slots) (64 * (63 + lead_of d.source d.path))) (3 + 64 * slots)) (slots + 4 + 64 * slots)) (listed (slots + 4) slots (omega arith) (omega (arith, small)) ∙ at_21)
          by-lists [] (x ∷ ks) = rw (filled x ks (pick (eqb (lead_of d.source d.path) 0) (64 * slots) (64 * (63 + lead_of d.source d.path))) (3 + 64 * slots)) (listed 3 slots (omega arith) (omega arith))
          by-lists [] [] = pathed slots d.source d.path (omega (arith, small))

  pub slots-said : (r : Relation) → length r.slot_kinds ≤ 8 → ((d : Derivation) → r.derivation ≡ some d → places.hops d.path ≤ 8) → slots_by (entry start r) ≡ slots_for start (some r)
  unfolding note_in lead_of
  slots-said r few short = go r.derivation refl
    where
      plainly : (b : Bool) → slots_by (start + 8192 * pick b 0 3) ≡ 0
      plainly true = slots-listed 0 0 (omega arith)
      plainly false = slots-listed 3 0 (omega arith)

      leading : (k : ℕ) (q : Option (List Hop)) (s : ℕ) (b : Bool) → k ≡ 0 → q ≡ none
          → slots_by (start + 8192 * pick (eqb (pick b 0 (s + 1)) 0) (64 * (7 + k + 3 * hops q)) (64 * (63 + pick b 0 (s + 1)))) ≡ start + 7 + k + 3 * places.hops q
      leading k q s true z y = rw (z, y) (unlisted_behind 7 (omega arith) (omega arith) ∙ omega arith)
      leading k q s false z y =
          rw (z, y, ne_eqb (s + 1) 0 (λ z. omega arith))
          (unlisted_slots (63 + (s + 1)) ∙ rw (ne_eqb (63 + (s + 1)) 0 (λ z. omega arith), le-ltb (63 + (s + 1)) 64 (omega arith)) (omega arith))

      go : (o : Option Derivation) → r.derivation ≡ o
          → slots_by (start + 8192 * note_in (length r.slot_kinds) o) ≡ elim o [ none ↦ 0 | some d ↦ start + 7 + length r.slot_kinds + 3 * places.hops d.path ]
      go none e = plainly (eqb (length r.slot_kinds) 0)
      go (some d) e = by-lists (length d.slot_entities) (length r.slot_kinds) refl d.path refl
        where
          slots : ℕ
          slots = 7 + length r.slot_kinds + 3 * hops d.path

          small : slots ≤ 39
          small = omega (arith, short d e, hops-same d.path)

          ends : start + slots ≡ start + 7 + length r.slot_kinds + 3 * places.hops d.path
          ends = omega (arith, hops-same d.path)

          by-lists : (es k : ℕ) → length r.slot_kinds ≡ k → (q : Option (List Hop)) → d.path ≡ q
              → slots_by (start + 8192 * derived_note (length r.slot_kinds) slots es (lead_of d.source d.path)) ≡ start + 7 + length r.slot_kinds + 3 * places.hops d.path
          by-lists (suc es) k g q y = rw (ne_eqb (suc es) 0 (λ z. omega arith)) (slots_behind (slots + 4) slots (omega (arith, small)) (omega arith) (omega (arith, small)) ∙ ends)
          by-lists zero (suc k) g q y = rw (ne_eqb (length r.slot_kinds) 0 (λ z. omega arith)) (slots_behind 3 slots (omega arith) (omega arith) (omega (arith, small)) ∙ ends)
          by-lists zero zero g (some l) y =
              let z : lead_of d.source d.path ≡ 0 = ap (lead_of d.source) y in
              rw (eq-eqb (length r.slot_kinds) 0 g, z) (unlisted_behind slots (omega arith) (omega (arith, small)) ∙ ends)
          by-lists zero zero g none y = rw (eq-eqb (length r.slot_kinds) 0 g, y) (leading (length r.slot_kinds) none d.source (eqb d.source tables.none) g refl)

-- ---- the directory of a pack

module _ (p : Pack) (w : WellFormed p) (d : List ℕ) (clear : Clear p.names d) where
  abbrev n : ℕ
  n = p.names

  abbrev rs : List Relation
  rs = p.relations

  abbrev the_directory : List ℕ
  the_directory = directory_of n 2 (to_row p).1 d

  first-there : relations_at n 2 (to_row p).1 + 1 ≡ first_relation p
  unfolding relations_at defaulted words_by count items
  first-there = omega (arith, opening_length p)

  pub rules-there : rules_at n 2 (to_row p).1 ≡ relations_end n (first_relation p) rs
  unfolding rules_at relations words_by count items
  rules-there = omega (arith, first-there, end_of n (first_relation p) [] rs)

  abbrev starts_at : ℕ → ℕ
  starts_at m = start_of n m (first_relation p) rs

  -- the word of each name
  word_of : (m : ℕ) → word_in the_directory m ≡ said n 0 (starts_at m) (find m rs)
  unfolding directory_of
  word_of m =
      words_at n m 0 (relations_at n 2 (to_row p).1 + 1) [] rs d (omega (arith, (parts p w).few-relations)) clear.long (parts p w).relations-fine
      ∙ rw (clear.clear m, first-there) refl

  pub as_long : 512 + n ≤ length the_directory
  unfolding directory_of
  as_long = long-all n 0 (relations_at n 2 (to_row p).1 + 1) rs d clear.long

  pub names-there : names_in the_directory (length rs) ≡ declared rs
  unfolding directory_of
  names-there =
      let z : 0 + length rs ≡ length rs = omega arith in
      ap (λ (k : ℕ). take k the_directory) (sym z)
      ∙ order_of n 0 (relations_at n 2 (to_row p).1 + 1) rs d (omega (arith, (parts p w).few-relations)) (omega (arith, clear.long))

  start_low : (m : ℕ) → starts_at m < 8192
  start_low m = omega (arith, start_within n m (first_relation p) [] rs, relations-room p w)

  -- a name of its own relation is below N
  far : (m : ℕ) (r : Relation) → find m rs ≡ some r → m < 4096
  far m r e = let k = (find_kept n m [] rs r (parts p w).relations-fine e).1 in omega (arith, k.below, find-name rs m r e, (parts p w).most)

  by_name : (f : ℕ → ℕ) (g : ℕ → Option Relation → ℕ) → ((m : ℕ) → f m ≡ g m (find m rs)) → ((m : ℕ) → g m none ≡ 0) → (m : ℕ) → get_or (table_from f 0 4096) m 0 ≡ g m (find m rs)
  by_name f g same nothing m = go (ltb m 4096) refl (find m rs) refl
    where
      go : (b : Bool) → ltb m 4096 ≡ b → (o : Option Relation) → find m rs ≡ o → get_or (table_from f 0 4096) m 0 ≡ g m o
      go true h o e = whole_at f 4096 m (ltb-true m 4096 h) ∙ same m ∙ ap (g m) e
      go false h none e = whole-past f 4096 m (ltb-false m 4096 h) ∙ sym (nothing m)
      go false h (some r) e = absurd (omega (arith, far m r e, ltb-false m 4096 h))

  pub starts_there : (m : ℕ) → get_or (starts_in the_directory) m 0 ≡ record_of p m
  unfolding starts_in start_in record_of
  starts_there m = by_name (start_in the_directory) (λ m o. place_in (starts_at m) o) (λ m. ap start_by (word_of m) ∙ go m (find m rs)) (λ m. refl) m
    where
      go : (m : ℕ) (o : Option Relation) → start_by (said n 0 (starts_at m) o) ≡ place_in (starts_at m) o
      go m none = refl
      go m (some r) = start_said (starts_at m) r (start_low m)

  pub slots-there : (m : ℕ) → get_or (slots_in the_directory) m 0 ≡ slots_of p m
  unfolding slots_in slot_in slots_of
  slots-there m = by_name (slot_in the_directory) (λ m o. slots_for (starts_at m) o) (λ m. ap slots_by (word_of m) ∙ go m (find m rs) refl) (λ m. refl) m
    where
      go : (m : ℕ) (o : Option Relation) → find m rs ≡ o → slots_by (said n 0 (starts_at m) o) ≡ slots_for (starts_at m) o
      go m none e = refl
      go m (some r) e = let b = found-small n m [] rs r (parts p w).relations-fine e in slots-said (starts_at m) (start_low m) r b.few b.short

  pub says_there : (m : ℕ) → get_or (declarations_in the_directory) m 0 ≡ coded_link (mapped (place_of p) (kind_step rs m))
  unfolding declarations_in declared_in kind_step place_of declaration_at
  says_there m = by_name (declared_in the_directory) (λ m o. coded_link (mapped (place_of p) (read_at o))) (λ m. ap declared_by (word_of m) ∙ go m (find m rs) refl) (λ m. refl) m
    where
      go : (m : ℕ) (o : Option Relation) → find m rs ≡ o → declared_by (said n 0 (starts_at m) o) ≡ coded_link (mapped (place_of p) (read_at o))
      go m none e = refl
      go m (some r) e =
          let q : m ≡ r.name = find-name rs m r e in
          let f : find r.name rs ≡ some r = ap (λ (v : ℕ). find v rs) (sym q) ∙ e in
          let s : starts_at m ≡ starts_at r.name = ap starts_at q in
          let b = found-small n m [] rs r (parts p w).relations-fine e in
          declared-said (starts_at m) (start_low m) r b.few b.short
          ∙ ap coded_link (mapped_alike (placed (starts_at m) r) (place_of p) r.name refl (λ c. rw (f, s) refl) r.slot_kinds r.derivation)

-- what reaches so many names reaches each
pub reaches_one : {dir : List ℕ} {names n : ℕ} → Reaches dir names → n < names → Reaches dir (n + 1)
reaches_one r h = record { most = omega (arith, r.most); long = omega (arith, r.long) }

-- ---- what Check gives

module _ {ws d : List ℕ} (clear : Clear (names_said ws) d) {r : Laid} {d' : List ℕ} (c : DirectoryChecked ws d r d') {l : Layout} (o : r ≡ Ok l) where
  it : IsPack ws
  it = checked ws c.answers (ap answer_in o)

  abbrev p : Pack
  p = it.pack

  fine : WellFormed p
  fine = (words-read ws p it.reads).fine

  clear-names : Clear p.names d
  clear-names = subst (λ (m : ℕ). Clear m d) (said-names ws it) clear

  abbrev first : ℕ
  first = (c.lays p it.reads).0

  abbrev all : ℕ
  all = (c.lays p it.reads).1

  laid : l ≡ layout_of p.names 2 (length ws) (to_row p).1 first all
  laid = let e : Ok l ≡ Ok (layout_of p.names 2 (length ws) (to_row p).1 first all) = sym o ∙ (c.lays p it.reads).2 in cc

  same-directory : d' ≡ directory_of p.names 2 (to_row p).1 d
  same-directory = c.enters p it.reads

  -- what is shown of this pack holds of any that the words are
  of_any : (P : Pack → Type 0) → P p → (q : Pack) → read ws ≡ yes q → P q
  of_any P h q e = subst P (same-pack ws it.reads e) h

  pub directed : IsDirectory ws l d'
  unfolding layout_of
  directed =
      record {
        checked = it;
        named = of_any (λ q. l.names ≡ q.names) (ap (λ (x : Layout). x.names) laid);
        reaches =
            record {
              most = omega (arith, ap (λ (x : Layout). x.names) laid, (parts p fine).most);
              long = omega (arith, ap (λ (x : Layout). x.names) laid, ap length same-directory, as_long p fine d clear-names);
            };
        counted = of_any (λ q. l.relations ≡ length q.relations) (ap (λ (x : Layout). x.relations) laid);
        ruled = of_any (λ q. l.rules ≡ relations_end q.names (first_relation q) q.relations) (ap (λ (x : Layout). x.rules) laid ∙ rules-there p fine d clear-names);
        blocked = of_any (λ q. l.blocks ≡ blocks_at q.names 2 (to_row q).1) (ap (λ (x : Layout). x.blocks) laid);
        noted =
            record {
              named = of_any (λ q. names_in d' l.relations ≡ declared q.relations)
                  (ap (λ (x : List ℕ). names_in x l.relations) same-directory ∙ ap (λ (x : Layout). names_in (directory_of p.names 2 (to_row p).1 d) x.relations) laid ∙ names-there p fine d clear-names);
              placed = of_any (λ q. (m : ℕ) → get_or (starts_in d') m 0 ≡ record_of q m)
                  (λ m. ap (λ (x : List ℕ). get_or (starts_in x) m 0) same-directory ∙ starts_there p fine d clear-names m);
            };
        slotted = of_any (λ q. (m : ℕ) → get_or (slots_in d') m 0 ≡ slots_of q m)
            (λ m. ap (λ (x : List ℕ). get_or (slots_in x) m 0) same-directory ∙ slots-there p fine d clear-names m);
        says = of_any (λ q. (m : ℕ) → get_or (declarations_in d') m 0 ≡ coded_link (mapped (place_of q) (kind_step q.relations m)))
            (λ m. ap (λ (x : List ℕ). get_or (declarations_in x) m 0) same-directory ∙ says_there p fine d clear-names m);
      }

-- ---- tables as long as the words ask

pub room_for : {ws : List ℕ} {n : ℕ} (k : ℕ) → n ≡ names_said ws → n ≤ k → k ≤ 4096 → DirectoryRoom ws (replicate (512 + k) 0) (replicate k 0)
room_for {ws} k e h m =
    record {
      clear = clear-zeros (names_said ws) (512 + k) (omega arith);
      lent = record { long = omega (arith, length-replicate {A = ℕ} k 0); short = omega (arith, length-replicate {A = ℕ} k 0); clear = zero_at k };
      reaches = record { most = omega (arith, length-replicate {A = ℕ} k 0); long = omega (arith, length-replicate {A = ℕ} k 0, length-replicate {A = ℕ} (512 + k) 0) };
    }

pub room_sized : {ws : List ℕ} {words names : ℕ} → Sized ws words names → DirectoryRoom ws (replicate words 0) (replicate names 0)
room_sized {ws} {names = k} s = rw s.both (room_for {n = names_said ws} k refl s.enough s.most)

pub sized_all : (ws : List ℕ) → Sized ws 4608 4096
sized_all ws = record { enough = said-most ws; most = omega arith; both = omega arith }

-- of a checked pack they are as long as N asks
pub lent-said : {ws dir t : List ℕ} {l : Layout} → IsDirectory ws l dir → ClearTable (names_said ws) t → ClearTable l.names t
lent-said {ws} {t = t} d lent = subst (λ (n : ℕ). ClearTable n t) (said-names ws d.checked ∙ sym (d.named d.checked.pack d.checked.reads)) lent

pub reaches_kept : {d d' : List ℕ} {n : ℕ} → length d' ≡ length d → Reaches d n → Reaches d' n
reaches_kept e r = record { most = r.most; long = omega (arith, r.long) }
