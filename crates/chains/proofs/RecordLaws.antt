-- A relation that stands at a place of the words: what the code reads there is what its record says.
use Prim.Native.Nat.{ℕ, ◌+◌, ◌*◌, ◌<◌, ◌≤◌}
use native.Mathlib.Omega.{arith}
use mathlib.Core.Path.{◌≡◌, refl, ap, sym, ◌∙◌}
use mathlib.Core.List.{List, [], ◌∷◌, ◌++◌, map, append_assoc}
use mathlib.Core.Bool.{true}
use mathlib.Core.Option.{Option, none, some}
use lib.ListN.{length, get_or, length-append, length-map}
use lib.Seq.{get_or_at}
use lib.Dec.{eqb}
use borrow.Author.Tests.{eq-eqb, ne_eqb}
use Rattle.std.proofs.lemmas.Bool.{or_left, or_right}
use Rattle.records.proofs.DirectoryLaws.{path-words}
use Rattle.definitions.specs.Table.{word_of, value_of}
use Rattle.definitions.specs.Form.{among, list_or_none, count, items, repeats, words_all, words_by}
use Rattle.definitions.specs.Records.{Hop, Derivation, Relation}
use Rattle.definitions.specs.Pack.{relation, new_name, relation_tail, name_list, optional_derivation, hop, path}
use Rattle.definitions.specs.Places.{hops}
use Rattle.definitions.specs.Lean.{step_names}
use Rattle.chains.specs.Record.{value_at, kind_count, flag_at, slots_place, steps_in, path_in, entity_count}
use Rattle.chains.proofs.RelationForm.{Fitting, Kept, kept}
use Rattle.chains.proofs.ListAt.{name_words, list-words, early, late, option-words, InWords}

-- ---- a relation that stands there

-- the value of a word that stands at a place
pub value_there : (ws pre rest : List ℕ) (k v at : ℕ) → ws ≡ pre ++ (word_of k v ∷ rest) → length pre ≡ at → v < 16777216 → value_at ws at ≡ v
unfolding value_at
value_there ws pre rest k v at e l f =
    ap (λ (u : List ℕ). value_of (get_or u at 0)) e ∙ ap value_of (get_or_at pre (word_of k v) rest 0 at l) ∙ omega arith

-- the words of a path begin with its count
path-first : (n : ℕ) (p : Option (List Hop)) → (more : List ℕ) × (words_by (path n) p ≡ word_of 13 (count list_or_none p) ∷ more)
unfolding path words_by
path-first n p = (_, refl)

steps_again : (p : Option (List Hop)) → ((l : List Hop) → p ≡ some l → length l < 16777215) → repeats (count list_or_none p) ≡ hops p
unfolding count
steps_again none h = refl
steps_again (some l) h = rw (ne_eqb (length l) 16777215 (λ e. omega (arith, h l refl))) refl

-- the steps of a path, each in three words
abbrev hop_words : ℕ → List Hop → List ℕ
hop_words n l = words_all {S = Unit {0}} (λ s a. s) (λ s a. words_by (hop n) a) tt l

steps-read : (n : ℕ) (ws pre : List ℕ) (l : List Hop) (rest : List ℕ) (at : ℕ) → ws ≡ pre ++ (hop_words n l ++ rest) → length pre ≡ at
    → ((m : ℕ) → among m (map (λ (h : Hop). h.relation) l) ≡ true → m < 16777216) → steps_in ws at (length l) ≡ map (λ (h : Hop). h.relation) l
unfolding steps_in hop words_by
steps-read n ws pre [] rest at e long low = refl
steps-read n ws pre (h ∷ l) rest at e long low =
    let three : List ℕ = word_of 14 h.relation ∷ word_of 15 h.current ∷ word_of 16 h.related ∷ [] in
    let here : value_at ws at ≡ h.relation = value_there ws pre (word_of 15 h.current ∷ word_of 16 h.related ∷ (hop_words n l ++ rest)) 14 h.relation at e long (low h.relation (or_left _ (among h.relation (map (λ (h : Hop). h.relation) l)) (eq-eqb h.relation h.relation refl))) in
    let more : steps_in ws (at + 3) (length l) ≡ map (λ (h : Hop). h.relation) l =
    steps-read n ws (pre ++ three) l rest (at + 3) (e ∙ sym (append_assoc pre three (hop_words n l ++ rest))) (length-append pre three ∙ omega arith) (λ m i. low m (or_right (eqb m h.relation) _ i)) in
    rw (here, more) refl

module _ (ws : List ℕ) (start n : ℕ) (r : Relation) (i : InWords ws start n r) (most : n ≤ 4096) where
  k : Kept n i.used r
  k = kept n i.used r i.fine

  abbrev ks : List ℕ
  ks = r.slot_kinds

  abbrev pub option_words : List ℕ
  option_words = words_by (optional_derivation n) r.derivation

  abbrev pub three : List ℕ
  three = word_of 6 r.name ∷ word_of 7 r.origin ∷ word_of 8 r.arity ∷ []

  its-words : ws ≡ (i.before ++ three) ++ (word_of 9 (length ks) ∷ (name_words ks ++ (option_words ++ i.after)))
  unfolding relation relation_tail new_name name_list words_by count items
  its-words =
      i.same-words
      ∙ rw (list-words n ks, append_assoc (name_words ks) option_words i.after) (sym (append_assoc i.before three (word_of 9 (length ks) ∷ (name_words ks ++ (option_words ++ i.after)))))

  pub counted : kind_count ws start ≡ length ks
  unfolding kind_count
  counted = value_there ws (i.before ++ three) _ 9 (length ks) (start + 3) its-words (length-append i.before three ∙ omega (arith, i.long)) k.kinds

  -- what stands before the flag
  abbrev front : List ℕ
  front = (i.before ++ three) ++ (word_of 9 (length ks) ∷ name_words ks)

  front_length : length front ≡ start + 4 + length ks
  front_length =
      length-append (i.before ++ three) (word_of 9 (length ks) ∷ name_words ks)
      ∙ omega (arith, length-append i.before three, i.long, length-map ks (word_of 10))

  front-words : ws ≡ front ++ (option_words ++ i.after)
  front-words = its-words ∙ sym (append_assoc (i.before ++ three) (word_of 9 (length ks) ∷ name_words ks) (option_words ++ i.after))

  flag-place : length front ≡ start + 4 + kind_count ws start
  flag-place = front_length ∙ ap (λ (c : ℕ). start + 4 + c) (sym counted)

  pub no_flag : r.derivation ≡ none → flag_at ws start ≡ 0
  unfolding flag_at optional_derivation words_by count items
  no_flag e = value_there ws front i.after 11 0 (start + 4 + kind_count ws start) (front-words ∙ rw e refl) flag-place (omega arith)

  module _ (d : Derivation) (e : r.derivation ≡ some d) where
    g : Fitting n d
    g = k.derived d e

    abbrev tail : List ℕ
    tail = word_of 21 (length d.slot_entities) ∷ (name_words d.slot_entities ++ late n d)

    derived-words : ws ≡ front ++ (word_of 11 1 ∷ ((early n d ++ tail) ++ i.after))
    derived-words = front-words ∙ rw (option-words n r.derivation d e) refl

    pub a_flag : flag_at ws start ≡ 1
    unfolding flag_at
    a_flag = value_there ws front ((early n d ++ tail) ++ i.after) 11 1 (start + 4 + kind_count ws start) derived-words flag-place (omega arith)

    -- the path, and the slots after it
    abbrev path_words : List ℕ
    path_words = words_by (path n) d.path

    abbrev rest : List ℕ
    rest = word_of 18 d.related ∷ word_of 19 d.entity ∷ word_of 20 d.member ∷ (tail ++ i.after)

    opened : ws ≡ front ++ (word_of 11 1 ∷ word_of 12 d.source ∷ (path_words ++ (word_of 17 d.current ∷ rest)))
    opened =
        let S : List ℕ = word_of 17 d.current ∷ word_of 18 d.related ∷ word_of 19 d.entity ∷ word_of 20 d.member ∷ [] in
        derived-words
        ∙ ap (λ (l : List ℕ). front ++ (word_of 11 1 ∷ word_of 12 d.source ∷ l))
        (ap (λ (l : List ℕ). l ++ i.after) (append_assoc path_words S tail) ∙ append_assoc path_words (S ++ tail) i.after)

    path-place : length (front ++ (word_of 11 1 ∷ word_of 12 d.source ∷ [])) ≡ start + 4 + kind_count ws start + 2
    path-place = length-append front (word_of 11 1 ∷ word_of 12 d.source ∷ []) ∙ omega (arith, flag-place)

    pub path-count : value_at ws (start + 4 + kind_count ws start + 2) ≡ count list_or_none d.path
    path-count =
        let f = path-first n d.path in
        let two : List ℕ = word_of 11 1 ∷ word_of 12 d.source ∷ [] in
        value_there ws (front ++ two) (f.0 ++ (word_of 17 d.current ∷ rest)) 13 (count list_or_none d.path) (start + 4 + kind_count ws start + 2)
        (opened ∙ ap (λ (l : List ℕ). front ++ (word_of 11 1 ∷ word_of 12 d.source ∷ (l ++ (word_of 17 d.current ∷ rest)))) f.1
        ∙ sym (append_assoc front two (word_of 13 (count list_or_none d.path) ∷ (f.0 ++ (word_of 17 d.current ∷ rest)))))
        path-place g.path

    pub place_of-slots : slots_place ws start ≡ start + 4 + kind_count ws start + 3 + 3 * hops d.path
    unfolding slots_place
    place_of-slots = ap (λ (s : ℕ). start + 4 + kind_count ws start + 3 + 3 * s) (ap repeats path-count ∙ steps_again d.path g.steps)

    -- the relations that its steps name
    steps_of : (p : Option (List Hop)) → d.path ≡ p → steps_in ws (start + 4 + kind_count ws start + 2 + 1) (hops p) ≡ step_names p
    unfolding steps_in path words_by count items
    steps_of none e = refl
    steps_of (some l) e =
        let first : List ℕ = word_of 11 1 ∷ word_of 12 d.source ∷ word_of 13 (length l) ∷ [] in
        let after : List ℕ = word_of 17 d.current ∷ rest in
        steps-read n ws (front ++ first) l after (start + 4 + kind_count ws start + 2 + 1)
        (opened ∙ ap (λ (p : Option (List Hop)). front ++ (word_of 11 1 ∷ word_of 12 d.source ∷ (words_by (path n) p ++ after))) e ∙ sym (append_assoc front first (hop_words n l ++ after)))
        (length-append front first ∙ omega (arith, flag-place))
        (λ m i. omega (arith, most, g.hops m (ap (λ (p : Option (List Hop)). among m (step_names p)) e ∙ i)))

    pub steps-there : path_in ws (start + 4 + kind_count ws start + 2) ≡ step_names d.path
    unfolding path_in
    steps-there = ap (steps_in ws (start + 4 + kind_count ws start + 2 + 1)) (ap repeats path-count ∙ steps_again d.path g.steps) ∙ steps_of d.path refl

    -- by its kinds and its path
    pub slots_at : slots_place ws start ≡ start + 7 + length ks + 3 * hops d.path
    slots_at = omega (arith, place_of-slots, counted)

    abbrev pub before-slots : List ℕ
    before-slots = front ++ (word_of 11 1 ∷ word_of 12 d.source ∷ path_words)

    pub before-length : length before-slots ≡ slots_place ws start
    before-length = length-append front (word_of 11 1 ∷ word_of 12 d.source ∷ path_words) ∙ omega (arith, flag-place, path-words n d.path, place_of-slots)

    pub slots_open : ws ≡ before-slots ++ (word_of 17 d.current ∷ rest)
    slots_open = opened ∙ sym (append_assoc front (word_of 11 1 ∷ word_of 12 d.source ∷ path_words) (word_of 17 d.current ∷ rest))

    pub current-there : value_at ws (slots_place ws start) ≡ d.current
    current-there = value_there ws before-slots rest 17 d.current (slots_place ws start) slots_open before-length g.current

    pub related-there : value_at ws (slots_place ws start + 1) ≡ d.related
    related-there =
        let one : List ℕ = word_of 17 d.current ∷ [] in
        value_there ws (before-slots ++ one) (word_of 19 d.entity ∷ word_of 20 d.member ∷ (tail ++ i.after)) 18 d.related (slots_place ws start + 1) (slots_open ∙ sym (append_assoc before-slots one rest))
        (length-append before-slots one ∙ omega (arith, before-length)) g.related

    pub source-there : value_at ws (start + 4 + kind_count ws start + 1) ≡ d.source
    source-there =
        let one : List ℕ = word_of 11 1 ∷ [] in
        let more : List ℕ = path_words ++ (word_of 17 d.current ∷ rest) in
        value_there ws (front ++ one) more 12 d.source (start + 4 + kind_count ws start + 1) (opened ∙ sym (append_assoc front one (word_of 12 d.source ∷ more)))
        (length-append front one ∙ omega (arith, flag-place)) g.source

    pub entity-there : value_at ws (slots_place ws start + 2) ≡ d.entity
    entity-there =
        let two : List ℕ = word_of 17 d.current ∷ word_of 18 d.related ∷ [] in
        value_there ws (before-slots ++ two) (word_of 20 d.member ∷ (tail ++ i.after)) 19 d.entity (slots_place ws start + 2)
        (slots_open ∙ sym (append_assoc before-slots two (word_of 19 d.entity ∷ word_of 20 d.member ∷ (tail ++ i.after)))) (length-append before-slots two ∙ omega (arith, before-length)) g.entity

    -- list 21
    abbrev es : List ℕ
    es = d.slot_entities

    abbrev pub four : List ℕ
    four = word_of 17 d.current ∷ word_of 18 d.related ∷ word_of 19 d.entity ∷ word_of 20 d.member ∷ []

    four_open : ws ≡ (before-slots ++ four) ++ (word_of 21 (length es) ∷ ((name_words es ++ late n d) ++ i.after))
    four_open = slots_open ∙ sym (append_assoc before-slots four (word_of 21 (length es) ∷ ((name_words es ++ late n d) ++ i.after)))

    pub four_length : length (before-slots ++ four) ≡ slots_place ws start + 4
    four_length = length-append before-slots four ∙ omega (arith, before-length)

    pub entities-there : entity_count ws start ≡ length es
    unfolding entity_count
    entities-there = value_there ws (before-slots ++ four) ((name_words es ++ late n d) ++ i.after) 21 (length es) (slots_place ws start + 4) four_open four_length g.entities

  -- the kinds of list 9
  abbrev pub after_nine : List ℕ
  after_nine = (i.before ++ three) ++ (word_of 9 (length ks) ∷ [])

  pub nine_words : ws ≡ after_nine ++ (name_words ks ++ (option_words ++ i.after))
  nine_words = its-words ∙ sym (append_assoc (i.before ++ three) (word_of 9 (length ks) ∷ []) (name_words ks ++ (option_words ++ i.after)))

  pub nine_length : length after_nine ≡ start + 4
  nine_length = length-append (i.before ++ three) (word_of 9 (length ks) ∷ []) ∙ omega (arith, length-append i.before three, i.long)
