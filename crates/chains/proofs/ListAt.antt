-- At the place that All kinds writes for a relation stands its owner's own list, whose names are the kinds of the relation's own walk.
use Prim.Native.Nat.{ℕ, zero, suc, ◌+◌, ◌*◌, ◌<◌}
use native.Mathlib.Omega.{arith}
use mathlib.Core.Path.{◌≡◌, refl, ap, sym, ◌∙◌, subst}
use mathlib.Core.List.{List, [], ◌∷◌, ◌++◌, map, append_assoc}
use mathlib.Core.Bool.{Bool, true, false}
use mathlib.Core.Option.{Option, none, some}
use lib.ListN.{length, take, drop, length-append, length-map}
use lib.Dec.{eqb}
use borrow.Author.Tests.{ne_eqb}
use Rattle.std.proofs.lemmas.List.{get_or_at}
use Rattle.records.proofs.DirectoryLaws.{path-words}
use Rattle.definitions.specs.Table.{pick, word_of, value_of, judgment}
use Rattle.definitions.specs.Form.{among, words_all, FineAll, Fits, words_by, Fine, count, items}
use Rattle.definitions.specs.Records.{Derivation, Relation, Pack}
use Rattle.definitions.specs.Pack.{WellFormed, new_name, name_list, path, chain, member, derivation, optional_derivation, relation_tail, relation, words}
use Rattle.definitions.specs.Tree.{root}
use Rattle.definitions.specs.Chain.{Link, end, next, nothing, walk, own, same}
use Rattle.definitions.specs.Kinds.{Which, list9, list21, count_kind, SettledBy, KindsFound, find, read_at, kind_step, declared, own_answer, list_of, names_of, kinds_of}
use Rattle.definitions.specs.Places.{relation_words, start_of, first_relation, hops, count_place, place_of, names_at, OwnersList, all_kinds_words, SettledAt, AllSettledAt}
use Rattle.chains.proofs.KindLaws.{words-own}
use Rattle.chains.proofs.RelationForm.{relations_words, RelationsFine}
use Rattle.chains.proofs.PackParts.{parts, split, opening, opening_length, relations_part, find-name, each_way_listed}

-- ---- what holds of every end holds of every own walk

module _ {R : Type 0} (P : R → Type 0) (stuck : R) (p-stuck : P stuck) (along : R → R) (p-along : (r : R) → P r → P (along r)) (step : ℕ → Link R) (p-end : (n : ℕ) (r : R) → step n ≡ end r → P r) where
  walk-holds : (fuel : ℕ) (path : List ℕ) (n : ℕ) → P (walk stuck along step fuel nothing path n).answer
  unfolding walk
  walk-holds zero path n = p-stuck
  walk-holds (suc fuel) path n = at_path (among n path) refl (walk-holds fuel (n ∷ path))
    where
      Rest : Type 0
      Rest = (m : ℕ) → P (walk stuck along step fuel nothing (n ∷ path) m).answer

      at_step : among n path ≡ false → (s : Link R) → step n ≡ s → Rest → P (walk stuck along step (suc fuel) nothing path n).answer
      at_step o (end r) e rest = rw (o, e, walk) (p-end n r e)
      at_step o (next m) e rest = rw (o, e, walk) (p-along _ (rest m))

      at_path : (b : Bool) → among n path ≡ b → Rest → P (walk stuck along step (suc fuel) nothing path n).answer
      at_path true o rest = rw (o, walk) p-stuck
      at_path false o rest = at_step o (step n) refl rest

  pub own-holds : (declared : List ℕ) (n : ℕ) → P (own stuck along step declared n)
  unfolding own
  own-holds declared n = walk-holds (suc (length declared)) [] n

-- ---- a list of names among other words

-- the words of a list of names
abbrev pub name_words : List ℕ → List ℕ
name_words ks = map (word_of 10) ks

abbrev Short : List ℕ → Type 0
Short [] = Unit {0}
Short (k ∷ ks) = (k < 16777216) × Short ks

values_back : (ks : List ℕ) (more : List ℕ) → Short ks → map value_of (take (length ks) (name_words ks ++ more)) ≡ ks
values_back [] more h = refl
values_back (k ∷ ks) more h = let v : value_of (word_of 10 k) ≡ k = omega (arith, h.0) in rw (v, values_back ks more h.1) refl

-- a list counted by a word of any kind, after a first word at least
listed_at : (pre : List ℕ) (kind : ℕ) (ks more : List ℕ) → 0 < length pre → length ks < 16777216 → Short ks
    → names_at (pre ++ (word_of kind (length ks) ∷ (name_words ks ++ more))) (length pre) ≡ some ks
unfolding names_at
listed_at pre kind ks more h l s =
    let w : ℕ = word_of kind (length ks) in
    let v : value_of w ≡ length ks = omega (arith, l) in
    let z : eqb (length pre) 0 ≡ false = ne_eqb (length pre) 0 (λ e. absurd (omega arith)) in
    let d : drop (suc (length pre)) (pre ++ (w ∷ (name_words ks ++ more))) ≡ name_words ks ++ more = drop-next pre w (name_words ks ++ more) in
    rw (z, get_or_at pre w (name_words ks ++ more) 0 (length pre) refl, v, d, values_back ks more s) refl
  where
    drop-next : (pre : List ℕ) (w : ℕ) (ws : List ℕ) → drop (suc (length pre)) (pre ++ (w ∷ ws)) ≡ ws
    drop-next [] w ws = refl
    drop-next (x ∷ pre) w ws = drop-next pre w ws

-- ---- the words of a relation, before and after each of its lists

pub list-words : (n : ℕ) (ks : List ℕ) → words_all {S = Unit {0}} (λ s a. s) (λ s a. word_of 10 a ∷ []) tt ks ≡ name_words ks
list-words n [] = refl
list-words n (k ∷ ks) = ap (λ (l : List ℕ). word_of 10 k ∷ l) (list-words n ks)

short-names : (n : ℕ) (ks : List ℕ) → FineAll {S = Unit {0}} (λ s a. s) (λ s a. Fits n 10 a) tt ks → Short ks
short-names n [] f = tt
short-names n (k ∷ ks) f = (f.0.0, short-names n ks f.1)

-- a list of names in the words of a relation, and what stands before it
record InRelation (n : ℕ) (r : Relation) (w : Which) (ks : List ℕ) : Type 0 where
  before : List ℕ
  long : length before ≡ count_place w r
  after : List ℕ
  same-words : relation_words n r ≡ before ++ (word_of (count_kind w) (length ks) ∷ (name_words ks ++ after))
  few : length ks < 16777216
  short : Short ks

nine_in : (n : ℕ) (used : ℕ → Bool) (r : Relation) → Fine (relation n used) r → InRelation n r list9 r.slot_kinds
unfolding relation relation_tail new_name name_list words_by count items Fine
nine_in n used r f =
    record {
      before = word_of 6 r.name ∷ word_of 7 r.origin ∷ word_of 8 r.arity ∷ [];
      long = refl;
      after = words_by (optional_derivation n) r.derivation;
      same-words = rw (list-words n r.slot_kinds) refl;
      few = f.1.1.1.0.0.0;
      short = short-names n r.slot_kinds f.1.1.1.0.2;
    }

glue : (A E T : List ℕ) (a b c d w : ℕ) → ((A ++ (a ∷ b ∷ [])) ++ (c ∷ d ∷ w ∷ (E ++ T))) ++ [] ≡ (A ++ (a ∷ b ∷ c ∷ d ∷ [])) ++ (w ∷ (E ++ (T ++ [])))
glue A E T a b c d w = simp append_assoc

-- the words of a derivation, taken apart at list 21
module _ (n : ℕ) (d : Derivation) where
  abbrev pub early : List ℕ
  early = word_of 12 d.source ∷ (words_by (path n) d.path ++ (word_of 17 d.current ∷ word_of 18 d.related ∷ word_of 19 d.entity ∷ word_of 20 d.member ∷ []))

  abbrev pub late : List ℕ
  late = words_by (root n judgment) d.predicate ++ []

  derivation-words : words_by (derivation n) d ++ [] ≡ early ++ (word_of 21 (length d.slot_entities) ∷ (name_words d.slot_entities ++ late))
  unfolding derivation chain member name_list words_by count items
  derivation-words =
      rw (list-words n d.slot_entities)
      (ap (λ (l : List ℕ). word_of 12 d.source ∷ l)
      (glue (words_by (path n) d.path) (name_words d.slot_entities) (words_by (root n judgment) d.predicate) (word_of 17 d.current) (word_of 18 d.related) (word_of 19 d.entity) (word_of 20 d.member) (word_of 21 (length d.slot_entities))))

  early_length : length early ≡ 6 + 3 * hops d.path
  early_length =
      let e = length-append (words_by (path n) d.path) (word_of 17 d.current ∷ word_of 18 d.related ∷ word_of 19 d.entity ∷ word_of 20 d.member ∷ []) in
      let m = path-words n d.path in
      omega arith

pub derived-fine : (n : ℕ) (o : Option Derivation) (d : Derivation) → o ≡ some d → Fine (optional_derivation n) o → Fine (derivation n) d
unfolding optional_derivation Fine items
derived-fine n none d e f = let z : ◌≡◌ {A = ℕ} 0 1 = cc in absurd (omega arith)
derived-fine n (some b) d e f = let s : b ≡ d = cc in rw (← s) f.2.0

pub option-words : (n : ℕ) (o : Option Derivation) (d : Derivation) → o ≡ some d
    → words_by (optional_derivation n) o ≡ word_of 11 1 ∷ (early n d ++ (word_of 21 (length d.slot_entities) ∷ (name_words d.slot_entities ++ late n d)))
unfolding optional_derivation words_by count items
option-words n none d e = let z : ◌≡◌ {A = ℕ} 0 1 = cc in absurd (omega arith)
option-words n (some b) d e = let s : b ≡ d = cc in rw s (ap (λ (l : List ℕ). word_of 11 1 ∷ l) (derivation-words n d))

entities-few : (n : ℕ) (d : Derivation) → Fine (derivation n) d → (length d.slot_entities < 16777216) × Short d.slot_entities
unfolding derivation chain member name_list Fine count items
entities-few n d f = (f.1.1.1.0.0.0, short-names n d.slot_entities f.1.1.1.0.2)

place_21 : (n : ℕ) (r : Relation) (d : Derivation) → r.derivation ≡ some d → 5 + (length (name_words r.slot_kinds) + length (early n d)) ≡ count_place list21 r
place_21 n r d e = rw e (let l : length (name_words r.slot_kinds) ≡ length r.slot_kinds = length-map r.slot_kinds (word_of 10) in let m = early_length n d in omega arith)

twenty_one_in : (n : ℕ) (used : ℕ → Bool) (r : Relation) (d : Derivation) → r.derivation ≡ some d → Fine (relation n used) r → InRelation n r list21 d.slot_entities
unfolding relation relation_tail new_name name_list words_by count items Fine
twenty_one_in n used r d e f =
    let g = derived-fine n r.derivation d e f.1.1.1.1 in
    let o : words_by (optional_derivation n) r.derivation ≡ word_of 11 1 ∷ (early n d ++ (word_of 21 (length d.slot_entities) ∷ (name_words d.slot_entities ++ late n d))) = option-words n r.derivation d e in
    record {
      before = word_of 6 r.name ∷ word_of 7 r.origin ∷ word_of 8 r.arity ∷ word_of 9 (length r.slot_kinds) ∷ (name_words r.slot_kinds ++ (word_of 11 1 ∷ early n d));
      long = let l = length-append (name_words r.slot_kinds) (word_of 11 1 ∷ early n d) in let m = place_21 n r d e in omega arith;
      after = late n d;
      same-words =
          rw (list-words n r.slot_kinds, o)
          (ap (λ (l : List ℕ). word_of 6 r.name ∷ word_of 7 r.origin ∷ word_of 8 r.arity ∷ word_of 9 (length r.slot_kinds) ∷ l) (sym (append_assoc (name_words r.slot_kinds) (word_of 11 1 ∷ early n d) (word_of 21 (length d.slot_entities) ∷ (name_words d.slot_entities ++ late n d)))));
      few = (entities-few n d g).0;
      short = (entities-few n d g).1;
    }

-- ---- a relation in the words of a pack

pub record InWords (ws : List ℕ) (start n : ℕ) (r : Relation) : Type 0 where
  pub before : List ℕ
  pub after : List ℕ
  pub long : length before ≡ start
  pub same-words : ws ≡ before ++ (relation_words n r ++ after)
  pub used : ℕ → Bool
  pub fine : Fine (relation n used) r

in_words : (n name : ℕ) (pre rest used : List ℕ) (rs : List Relation) (r : Relation) → RelationsFine n used rs → find name rs ≡ some r
    → InWords (pre ++ (relations_words n used rs ++ rest)) (start_of n name (length pre) rs) n r
unfolding find start_of relation new_name words_by
in_words n name pre rest used [] r f e = let z : ◌≡◌ {A = ℕ} 0 1 = cc in absurd (omega arith)
in_words n name pre rest used (s ∷ rs) r f e =
    go (eqb name s.name) e (λ q. in_words n name (pre ++ relation_words n s) rest (s.name ∷ used) rs r f.1 q)
  where
    more : List ℕ
    more = relations_words n (s.name ∷ used) rs

    whole : List ℕ
    whole = pre ++ ((relation_words n s ++ more) ++ rest)

    onward : (pre ++ relation_words n s) ++ (more ++ rest) ≡ whole
    onward = append_assoc pre (relation_words n s) (more ++ rest) ∙ ap (λ (l : List ℕ). pre ++ l) (sym (append_assoc (relation_words n s) more rest))

    go : (b : Bool) → pick b (some s) (find name rs) ≡ some r
        → (find name rs ≡ some r → InWords ((pre ++ relation_words n s) ++ (more ++ rest)) (start_of n name (length (pre ++ relation_words n s)) rs) n r)
        → InWords whole (pick b (length pre) (start_of n name (length pre + length (relation_words n s)) rs)) n r
    go true e ih =
        let q : s ≡ r = cc in
        subst (InWords whole (length pre) n) q
        (record { before = pre; after = more ++ rest; long = refl; same-words = ap (λ (l : List ℕ). pre ++ l) (append_assoc (relation_words n s) more rest); used = λ v. among v used; fine = f.0 })
    go false e ih =
        subst (λ (k : ℕ). InWords whole (start_of n name k rs) n r) (length-append pre (relation_words n s))
        (subst (λ (l : List ℕ). InWords l (start_of n name (length (pre ++ relation_words n s)) rs) n r) onward (ih e))

-- the owner's list there
owners-list : (rs : List Relation) (s : SettledBy) (r : Relation) {ws : List ℕ} {start n : ℕ} → find s.owner rs ≡ some r → InWords ws start n r → InRelation n r s.which (list_of s.which r)
    → 0 < count_place s.which r → 0 < length (list_of s.which r) → OwnersList ws rs (start + count_place s.which r) s
owners-list rs s r {ws} {start} {n} found i j h full =
    let ks : List ℕ = list_of s.which r in
    let kind : ℕ = count_kind s.which in
    let w : ℕ = word_of kind (length ks) in
    let more : List ℕ = name_words ks ++ (j.after ++ i.after) in
    let front : List ℕ = i.before ++ j.before in
    let l : length front ≡ start + count_place s.which r = length-append i.before j.before ∙ rw (i.long, j.long) refl in
    let e : ws ≡ front ++ (w ∷ more) =
    i.same-words
    ∙ rw (j.same-words, append_assoc j.before (w ∷ (name_words ks ++ j.after)) i.after, append_assoc (name_words ks) j.after i.after) (sym (append_assoc i.before j.before (w ∷ more))) in
    record {
      owner = r;
      found = found;
      inside = rw (e, ← l) (omega (arith, length-append front (w ∷ more)));
      count_word = rw (e, ← l) (get_or_at front w more 0 (length front) refl);
      names = rw (e, ← l) (listed_at front kind ks (j.after ++ i.after) (omega (arith, l)) j.few j.short);
      not_empty = full;
    }

-- ---- the theorem

module _ (p : Pack) (w : WellFormed p) where
  abbrev rs : List Relation
  rs = p.relations

  abbrev Holds : KindsFound → Type 0
  Holds a = SettledAt (words p) rs a (place_of p a)

  none-holds : Holds none
  unfolding place_of
  none-holds = refl

  none-there : names_at (words p) (place_of p none) ≡ none
  unfolding names_at
  none-there = rw none-holds refl

  pub in_pack : (r : Relation) → find r.name rs ≡ some r → InWords (words p) (start_of p.names r.name (first_relation p) rs) p.names r
  in_pack r e =
      let five : ℕ = word_of 5 (length rs) in
      let rest : List ℕ = word_of 22 (length p.rules) ∷ (split p).more in
      let pre : List ℕ = opening p ++ (five ∷ []) in
      let l : length pre ≡ first_relation p = length-append (opening p) (five ∷ []) ∙ omega (arith, opening_length p) in
      let s : pre ++ (relations_part p ++ rest) ≡ words p = append_assoc (opening p) (five ∷ []) (relations_part p ++ rest) ∙ sym (split p).same in
      subst (λ (v : List ℕ). InWords v (start_of p.names r.name (first_relation p) rs) p.names r) s
      (subst (λ (k : ℕ). InWords (pre ++ (relations_part p ++ rest)) (start_of p.names r.name k rs) p.names r) l
      (in_words p.names r.name pre rest [] rs r (parts p w).relations-fine e))

  nine_holds : (r : Relation) → find r.name rs ≡ some r → 0 < length r.slot_kinds → Holds (some (record { owner = r.name; which = list9 }))
  unfolding place_of
  nine_holds r e full = let i = in_pack r e in rw e (owners-list rs (record { owner = r.name; which = list9 }) r e i (nine_in p.names i.used r i.fine) (omega arith) full)

  twenty_one_holds : (r : Relation) → find r.name rs ≡ some r → (d : Derivation) → r.derivation ≡ some d → 0 < length d.slot_entities → Holds (some (record { owner = r.name; which = list21 }))
  unfolding place_of
  twenty_one_holds r e d g full =
      let i = in_pack r e in
      let l : d.slot_entities ≡ list_of list21 r = rw g refl in
      let k : 0 < count_place list21 r = rw g (omega arith) in
      rw e (owners-list rs (record { owner = r.name; which = list21 }) r e i (subst (InRelation p.names r list21) l (twenty_one_in p.names i.used r d g i.fine)) k (rw (← l) full))

  abbrev EndHolds : Link KindsFound → Type 0
  EndHolds (end a) = Holds a
  EndHolds (next n) = Unit {0}

  step_holds : (n : ℕ) → EndHolds (kind_step rs n)
  unfolding kind_step
  step_holds n = go (find n rs) refl
    where
      go : (o : Option Relation) → find n rs ≡ o → EndHolds (read_at o)
      go none e = none-holds
      go (some r) e =
          let f : find r.name rs ≡ some r = ap (λ (v : ℕ). find v rs) (sym (find-name rs n r e)) ∙ e in
          each_way_listed EndHolds r.name none-holds r.slot_kinds r.derivation (nine_holds r f) (twenty_one_holds r f) (λ d g z. tt)

  end-holds : (n : ℕ) (a : KindsFound) → kind_step rs n ≡ end a → Holds a
  end-holds n a e = subst EndHolds e (step_holds n)

  -- so it is where any name's own walk ends
  pub walk_end : (n : ℕ) → Holds (own_answer rs n)
  walk_end n = own-holds Holds none none-holds same (λ a h. h) (kind_step rs) end-holds (declared rs) n

  -- at the place of a name's kinds stands the owner's own list
  pub settled-place : (n : ℕ) (s : SettledBy) → own_answer rs n ≡ some s → OwnersList (words p) rs (place_of p (some s)) s
  settled-place n s e = subst Holds e (walk_end n)

  -- in record order: so it is at each place that All kinds writes
  pub all_settled : AllSettledAt (words p) rs rs (all_kinds_words p)
  all_settled = rw (words-own p) (each rs)
    where
      each : (l : List Relation) → AllSettledAt (words p) rs l (map (λ (r : Relation). place_of p (own_answer rs r.name)) l)
      each [] = refl
      each (r ∷ l) = (walk_end r.name, each l)

  -- the names at the place of a name's own walk are its kinds, and at 0 it has none
  pub place-holds : (n : ℕ) → names_at (words p) (place_of p (own_answer rs n)) ≡ kinds_of rs n
  unfolding kinds_of
  place-holds n = go (own_answer rs n) (walk_end n)
    where
      go : (a : KindsFound) → Holds a → names_at (words p) (place_of p a) ≡ names_of rs a
      go none h = none-there
      go (some s) h = h.names ∙ rw h.found refl
