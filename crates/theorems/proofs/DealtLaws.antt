-- A pack dealt out again is as long as it was, and Check answers yes to it again.
use Prim.Native.Nat.{ℕ, suc}
use native.Mathlib.Omega.{arith}
use mathlib.Core.Path.{◌≡◌, refl, ap, sym, ◌∙◌, subst}
use mathlib.Core.List.{List, [], ◌∷◌}
use mathlib.Core.Bool.{Bool, true, false, ◌||◌, not}
use mathlib.Core.Option.{Option, none, some}
use lib.ListN.{length, length-append, get_or}
use lib.Dec.{eqb}
use borrow.Author.Tests.{ne_eqb, eqb-false, not-true}
use Rattle.definitions.specs.Answers.{gives}
use Rattle.definitions.specs.Table.{word_of, entry_of}
use Rattle.definitions.specs.Form.{Form, field, ◌▹◌, counted_from, counted, Holder, list, list_or_none, Suits, count, items, says, among, words_all, FineAll, words_by, Fine}
use Rattle.definitions.specs.Records.{Item, Block, Relation, Rule, Edition, Pack}
use Rattle.definitions.specs.FieldRows.{to_row}
use Rattle.definitions.specs.Pack.{first_kind, new_name, relation, next_used, relations, rule, rules, item, block_items, block, blocks, defaulted, records, inner, layout, Reading, yes, refuse, read, total, words, WellFormed}
use Rattle.definitions.specs.Answers.{answer}
use Rattle.definitions.specs.Checking.{check_answer}
use Rattle.definitions.specs.Dealt.{Checked, Shuffled, nil, cons, swap, trans, InAnyOrder, SameItems, both_none, both_some, SameBlock, Dealt}
use Rattle.pack.proofs.PackLaws.{Rewrites, words-length, read-words, words-read}

-- the counts stay
pub shuffled_length : {A : Type 0} {Same : A → A → Type 0} {l m : List A} → Shuffled Same l m → length l ≡ length m
shuffled_length nil = refl
shuffled_length (cons e p) = ap suc (shuffled_length p)
shuffled_length swap = refl
shuffled_length (trans p q) = shuffled_length p ∙ shuffled_length q

-- `b` keeps to the form where `a` does, and has as many words
record Alike {A : Type 0} (F : Form A) (a b : A) : Type 0 where
  fine : Fine F a → Fine F b
  long : length (words_by F a) ≡ length (words_by F b)

equal_alike : {A : Type 0} (F : Form A) (a b : A) → a ≡ b → Alike F a b
equal_alike F a b e = record { fine = λ h. subst (Fine F) e h; long = ap (λ x. length (words_by F x)) e }

-- What lets the elements of a list change places, where `Equal` says which states before an element count as the same.
record Orderless {S A : Type 0} (step : S → A → S) (F : S → Form A) (Same : A → A → Type 0) (Equal : S → S → Type 0) : Type 0 where
  -- the same elements, and then equal states
  alike : (s : S) (a b : A) → Same a b → Alike (F s) a b
  moved : (s : S) (a b : A) → Same a b → Equal (step s a) (step s b)
  -- one element after equal states
  kept : (s t : S) (a : A) → Equal s t → Fine (F s) a → Fine (F t) a
  onward : (s t : S) (a : A) → Equal s t → Equal (step s a) (step t a)
  -- two that change places
  changed : (s : S) (a b : A) → Fine (F s) a → Fine (F (step s a)) b → Fine (F s) b × Fine (F (step s b)) a
  crossed : (s : S) (a b : A) → Equal (step (step s a) b) (step (step s b) a)
  -- after any state an element has as many words
  long : (s t : S) (a : A) → length (words_by (F s) a) ≡ length (words_by (F t) a)

-- elements without a state
stateless : {A : Type 0} (F : Form A) (Same : A → A → Type 0) → ((a b : A) → Same a b → Alike F a b) → Orderless {S = Unit {0}} (λ s a. s) (λ s. F) Same (λ s t. Unit {0})
stateless F Same alike =
    record {
      alike = λ s. alike;
      moved = λ s a b e. tt;
      kept = λ s t a e h. h;
      onward = λ s t a e. tt;
      changed = λ s a b h k. (k, h);
      crossed = λ s a b. tt;
      long = λ s t a. refl;
    }

module _ {S A : Type 0} (step : S → A → S) (F : S → Form A) (Same : A → A → Type 0) (Equal : S → S → Type 0) (O : Orderless step F Same Equal) where
  abbrev FineFrom : S → List A → Type 0
  FineFrom = FineAll step (λ u a. Fine (F u) a)

  abbrev words_from : S → List A → List ℕ
  words_from = words_all step (λ u a. words_by (F u) a)

  -- one list after two states
  fine-after : (l : List A) (s t : S) → Equal s t → FineFrom s l → FineFrom t l
  fine-after [] s t e h = tt
  fine-after (a ∷ l) s t e h = (O.kept s t a e h.0, fine-after l (step s a) (step t a) (O.onward s t a e) h.1)

  long_after : (l : List A) (s t : S) → length (words_from s l) ≡ length (words_from t l)
  long_after [] s t = refl
  long_after (a ∷ l) s t = simp length-append (omega (arith, O.long s t a, long_after l (step s a) (step t a)))

  shuffled_fine : {l m : List A} → Shuffled Same l m → (s : S) → FineFrom s l → FineFrom s m
  shuffled_fine nil s h = tt
  shuffled_fine (cons {a = a} {b = b} {m = m} e p) s h =
      ((O.alike s a b e).fine h.0, fine-after m (step s a) (step s b) (O.moved s a b e) (shuffled_fine p (step s a) h.1))
  shuffled_fine (swap {a = a} {b = b} {l = l}) s h =
      let c = O.changed s a b h.0 h.1.0 in
      (c.0, (c.1, fine-after l (step (step s a) b) (step (step s b) a) (O.crossed s a b) h.1.1))
  shuffled_fine (trans p q) s h = shuffled_fine q s (shuffled_fine p s h)

  shuffled_long : {l m : List A} → Shuffled Same l m → (s : S) → length (words_from s l) ≡ length (words_from s m)
  shuffled_long nil s = refl
  shuffled_long (cons {a = a} {b = b} {m = m} e p) s =
      simp length-append (omega (arith, (O.alike s a b e).long, shuffled_long p (step s a), long_after m (step s a) (step s b)))
  shuffled_long (swap {a = a} {b = b} {l = l}) s =
      simp length-append (omega (arith, O.long s (step s b) a, O.long (step s a) s b, long_after l (step (step s a) b) (step (step s b) a)))
  shuffled_long (trans p q) s = shuffled_long p s ∙ shuffled_long q s

  -- a count word and what it counts
  counted_alike : {C : Type 0} (H : Holder A C) (n kind : ℕ) (suits : Suits H (entry_of kind).values) (s : S) (c d : C) → count H c ≡ count H d → Shuffled Same (items H c) (items H d) → Alike (counted_from H n kind suits step F s) c d
  unfolding Fine words_by
  counted_alike H n kind suits s c d e p =
      record {
        fine = λ h. (rw e at h.0, sym (ap (says H) e) ∙ h.1 ∙ shuffled_length p, shuffled_fine p s h.2);
        long = ap suc (shuffled_long p s);
      }

  list_alike : (n kind : ℕ) (s : S) {l m : List A} → Shuffled Same l m → Alike (counted_from list n kind tt step F s) l m
  unfolding count items
  list_alike n kind s {l} {m} p = counted_alike list n kind tt s l m (shuffled_length p) p

-- one and then another
module _ {A B : Type 0} (F : Form A) where
  then_alike : (G : Form B) {a c : A} {b d : B} → Alike F a c → Alike G b d → Alike (F ▹ λ _. G) (a, b) (c, d)
  unfolding Fine words_by
  then_alike G x y = record { fine = λ h. (x.fine h.0, y.fine h.1); long = simp length-append (omega (arith, x.long, y.long)) }

  after_alike : (G : A → Form B) (a : A) {b d : B} → Alike (G a) b d → Alike (F ▹ G) (a, b) (a, d)
  unfolding Fine words_by
  after_alike G a y = record { fine = λ h. (h.0, y.fine h.1); long = simp length-append (omega (arith, y.long)) }

module _ (n : ℕ) where
  abbrev items_form : Form (Option (List Item))
  items_form = counted list_or_none n 30 tt (item n)

  items_alike : {a b : Option (List Item)} → SameItems a b → Alike items_form a b
  unfolding count items
  items_alike both_none = equal_alike items_form none none refl
  items_alike (both_some {l = l} {m = m} p) =
      counted_alike _ _ _ _ (stateless (item n) _ (equal_alike (item n))) list_or_none n 30 tt tt (some l) (some m) (shuffled_length p) p

  block_alike : (a b : Block) → SameBlock a b → Alike (block n) a b
  unfolding block block_items Fine words_by
  block_alike a b e =
      let t = then_alike (field n 29) items_form (equal_alike (field n 29) a.origin b.origin e.origin) (items_alike e.items) in
      record { fine = t.fine; long = t.long }

-- Relations carry the names used before them, of which counts whether they hold a name.
abbrev SameNames : List ℕ → List ℕ → Type 0
SameNames u v = (k : ℕ) → among k u ≡ among k v

nor : (x y : Bool) → not (x || y) ≡ true → (not x ≡ true) × (not y ≡ true)
nor true y e = (e, cc)
nor false y e = (refl, e)

nor_of : (x y : Bool) → not x ≡ true → not y ≡ true → not (x || y) ≡ true
nor_of true y e f = e
nor_of false y e f = f

or_left_comm : (x y z : Bool) → (x || (y || z)) ≡ (y || (x || z))
or_left_comm true true z = refl
or_left_comm true false z = refl
or_left_comm false true z = refl
or_left_comm false false z = refl

unlike : (a b : ℕ) → not (eqb a b) ≡ true → not (eqb b a) ≡ true
unlike a b e = ap not (ne_eqb b a (λ h. eqb-false a b (not-true _ e) (sym h)))

module _ (n : ℕ) where
  abbrev after : List ℕ → Form Relation
  after used = relation n (λ v. among v used)

  relation_kept : (u v : List ℕ) (r : Relation) → SameNames u v → Fine (after u) r → Fine (after v) r
  unfolding relation new_name Fine
  relation_kept u v r e h = ((h.0.0, subst (λ b. not b ≡ true) (e r.name) h.0.1), h.1)

  -- of two relations neither has the other's name
  relation_changed : (u : List ℕ) (a b : Relation) → Fine (after u) a → Fine (after (next_used u a)) b → Fine (after u) b × Fine (after (next_used u b)) a
  unfolding relation new_name Fine
  relation_changed u a b h k =
      let d = nor (eqb b.name a.name) (among b.name u) k.0.1 in
      (((k.0.0, d.1), k.1), ((h.0.0, nor_of (eqb a.name b.name) (among a.name u) (unlike b.name a.name d.0) h.0.1), h.1))

  relation-long : (u v : List ℕ) (r : Relation) → length (words_by (after u) r) ≡ length (words_by (after v) r)
  unfolding relation new_name words_by
  relation-long u v r = refl

  relations_orderless : Orderless next_used after (λ a b. a ≡ b) SameNames
  relations_orderless =
      record {
        alike = λ u. equal_alike (after u);
        moved = λ u a b e k i. eqb k (e i).name || among k u;
        kept = relation_kept;
        onward = λ u v r e k i. eqb k r.name || e k i;
        changed = relation_changed;
        crossed = λ u a b k. or_left_comm (eqb k b.name) (eqb k a.name) (among k u);
        long = relation-long;
      }

  relations_alike : {l m : List Relation} → InAnyOrder l m → Alike (relations n) l m
  unfolding relations
  relations_alike p = list_alike _ _ _ _ relations_orderless n 5 [] p

  rules_alike : {l m : List Rule} → InAnyOrder l m → Alike (rules n) l m
  unfolding rules
  rules_alike p = list_alike _ _ _ _ (stateless (rule n) _ (equal_alike (rule n))) n 22 tt p

  blocks_alike : {l m : List Block} → Shuffled SameBlock l m → Alike (blocks n) l m
  unfolding blocks
  blocks_alike p = list_alike _ _ _ _ (stateless (block n) SameBlock (block_alike n)) n 28 tt p

inner_alike : (e : Edition) (n : ℕ) (ds : List ℕ) {l m : List Relation} {us vs : List Rule} {bs cs : List Block}
    → InAnyOrder l m → InAnyOrder us vs → Shuffled SameBlock bs cs → Alike (inner e) (n, (ds, (l, (us, bs)))) (n, (ds, (m, (vs, cs))))
unfolding inner records
inner_alike e n ds p q r =
    after_alike (field 0 2) (records e) n
    (after_alike (defaulted n) _ ds
    (then_alike (relations n) _ (relations_alike n p)
    (then_alike (rules n) _ (rules_alike n q) (blocks_alike n r))))

-- the records of `q` in a pack that begins as `p` does: this is `q`, where `q` is dealt out of `p`
abbrev again : Pack → Pack → Pack
again p q = record { edition = p.edition; names = p.names; defaulted = p.defaulted; relations = q.relations; rules = q.rules; blocks = q.blocks }

again_is : (p q : Pack) → Dealt p q → again p q ≡ q
again_is p q d = λ i. record { edition = d.edition i; names = d.names i; defaulted = d.defaulted i; relations = q.relations; rules = q.rules; blocks = q.blocks }

again_alike : (p q : Pack) → Dealt p q → Alike (inner p.edition) (to_row p) (to_row (again p q))
again_alike p q d = inner_alike p.edition p.names p.defaulted d.relations d.rules d.blocks

again_total : (p q : Pack) → Dealt p q → total p ≡ total (again p q)
unfolding total
again_total p q d = ap suc (again_alike p q d).long

pub dealt_total : (p q : Pack) → Dealt p q → total p ≡ total q
dealt_total p q d = again_total p q d ∙ ap total (again_is p q d)

-- "the same first word"
pub dealt_first : (p q : Pack) → Dealt p q → get_or (words p) 0 0 ≡ get_or (words q) 0 0
unfolding words layout words_by
dealt_first p q d = λ i. word_of (first_kind (d.edition i)) (dealt_total p q d i)

pub dealt_fine : (p q : Pack) → Dealt p q → WellFormed p → WellFormed q
dealt_fine p q d h =
    let e = again_total p q d in
    subst WellFormed (again_is p q d)
    (record { least = omega (arith, h.least); most = omega (arith, h.most); parts = (again_alike p q d).fine h.parts })

-- what holds of a pack dealt out of another
pub record Redealt (p q : Pack) : Type 0 where
  pub reads : read (words q) ≡ yes q
  pub checked : Checked (words q)
  pub long : length (words q) ≡ length (words p)

pub dealt_again : (p q : Pack) → Dealt p q → WellFormed p → Redealt p q
unfolding check_answer
dealt_again p q d h =
    let r = read-words q (dealt_fine p q d h) in
    record { reads = r; checked = ap (λ x. answer x (λ _. gives 1 0)) r; long = words-length q ∙ sym (dealt_total p q d) ∙ sym (words-length p) }

-- what holds of the words to which Check answers yes: a pack was read, and each that is dealt out of it reads back as it is and is as long
pub record CheckedPack (ws : List ℕ) : Type 0 where
  pub pack : Pack
  pub reads : read ws ≡ yes pack
  pub rewrites : Rewrites ws pack
  pub dealt : (q : Pack) → Dealt pack q → Redealt pack q

pub dealt_checked : (ws : List ℕ) → Checked ws → CheckedPack ws
unfolding check_answer
dealt_checked ws c = go (read ws) refl c
  where
    go : (r : Reading) → read ws ≡ r → answer r (λ _. gives 1 0) ≡ gives 1 0 → CheckedPack ws
    go (yes p) e h =
        let w = words-read ws p e in
        record { pack = p; reads = e; rewrites = w; dealt = λ q d. dealt_again p q d w.fine }
    go (refuse r) e h = let z : ◌≡◌ {A = ℕ} 0 1 = cc in absurd (omega arith)
