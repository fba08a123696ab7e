-- Every form reads back the words that it writes (`there`), and what it reads are the words of a value that keeps to it (`back`).
use Prim.Native.Nat.{ℕ, zero, suc, ◌+◌, ◌-◌, ◌*◌, ◌/◌, ◌%◌, ◌≤◌}
use native.Mathlib.Omega.{arith}
use native.Mathlib.Nat.{add_assoc, add-zero}
use mathlib.Core.Path.{◌≡◌, refl, ap, sym, ◌∙◌, subst}
use mathlib.Core.List.{List, [], ◌∷◌, ◌++◌, append_assoc}
use mathlib.Core.Bool.{Bool, true, false, ◌&&◌, ◌||◌}
use mathlib.Core.Option.{none, some}
use lib.ListN.{length, length-append}
use lib.Dec.{leb, eqb}
use borrow.Author.Tests.{eq-eqb, ne_eqb, eqb-true, leb-true}
use Rattle.std.proofs.lemmas.List.{nil_from_length}
use Rattle.definitions.specs.declared.answer.Refusal.{Refusal}
use Rattle.definitions.specs.declared.table.Values.{Values}
use Rattle.definitions.specs.declared.table.Values.TheVariants.{FromOne}
use Rattle.definitions.specs.Table.{pick, kind_of, value_of, word_of, allowed, entry_of}
use Rattle.definitions.specs.Form.{Read, got, refused, bind, map_read, allowed_here, read_word, only, read_field, read_all, words_all, FineAll, read_each, words_each, FineEach, Holder, list, list_or_none, option, count, items, says, first, whole, Suits, Form, field, word, empty, each, guarded, ◌▹◌, counted_from, one_and_more, via, words_by, Fits, Fine, read_by}

-- a value that was read: it keeps to the form, its words stood there, and the place moved past them
pub record Took {A : Type 0} (W : A → List ℕ) (P : A → Type 0) (at : ℕ) (ws : List ℕ) (a : A) (at' : ℕ) (rest : List ℕ) : Type 0 where
  pub fine : P a
  pub same : ws ≡ W a ++ rest
  pub on : at' ≡ at + length (W a)

-- the two laws, of words, a property of values and a reader
pub record Lawful {A : Type 0} (W : A → List ℕ) (P : A → Type 0) (R : ℕ → List ℕ → Read A) : Type 0 where
  pub there : (a : A) (at : ℕ) (rest : List ℕ) → P a → R at (W a ++ rest) ≡ got a (at + length (W a)) rest
  pub back : (at : ℕ) (ws : List ℕ) (a : A) (at' : ℕ) (rest : List ℕ) → R at ws ≡ got a at' rest → Took W P at ws a at' rest

-- a refusal is no value
pub clash : {A : Type 0} {r : Refusal} {a : A} {at : ℕ} {ws : List ℕ} → ◌≡◌ {A = Read A} (refused r) (got a at ws) → ⊥
clash e = let z : ◌≡◌ {A = ℕ} 0 1 = cc in omega arith

-- a pick that gives a value went by true
pick_got : {A : Type 0} (b : Bool) (m : Read A) (r : Refusal) {a : A} {at : ℕ} {ws : List ℕ} → pick b m (refused r) ≡ got a at ws → (b ≡ true) × (m ≡ got a at ws)
pick_got true m r e = (refl, e)
pick_got false m r e = absurd (clash e)

pub record Bound {A B : Type 0} (m : Read A) (k : A → ℕ → List ℕ → Read B) (b : B) (at : ℕ) (ws : List ℕ) : Type 0 where
  pub a : A
  pub at₁ : ℕ
  pub ws₁ : List ℕ
  pub first : m ≡ got a at₁ ws₁
  pub then : k a at₁ ws₁ ≡ got b at ws

pub bind-got : {A B : Type 0} (m : Read A) (k : A → ℕ → List ℕ → Read B) {b : B} {at : ℕ} {ws : List ℕ} → bind m k ≡ got b at ws → Bound m k b at ws
bind-got (got a at₁ ws₁) k e = record { a = a; at₁ = at₁; ws₁ = ws₁; first = refl; then = e }
bind-got (refused r) k e = absurd (clash e)

pub map-got : {A B : Type 0} (f : A → B) (m : Read A) {b : B} {at : ℕ} {ws : List ℕ} → map_read f m ≡ got b at ws → (a : A) × (m ≡ got a at ws) × (f a ≡ b)
map-got f (got a at₁ ws₁) e = (a, cc, cc)
map-got f (refused r) e = absurd (clash e)

word_lawful : (rejects : ℕ → ℕ) (n : ℕ) → Lawful (words_by (word rejects n)) (Fine (word rejects n)) (read_word rejects n)
unfolding words_by Fine
word_lawful rejects n = record { there = there; back = back }
  where
    there : (t : ℕ × ℕ) (at : ℕ) (rest : List ℕ) → (rejects t.0 ≡ 0) × Fits n t.0 t.1 → read_word rejects n at (word_of t.0 t.1 ∷ rest) ≡ got t (at + 1) rest
    there t at rest h =
        let q : (t.0 * 16777216 + t.1) / 16777216 ≡ t.0 = omega (arith, h.1.0) in
        let m : (t.0 * 16777216 + t.1) % 16777216 ≡ t.1 = omega (arith, h.1.0) in
        simp (q, m, eq-eqb (rejects t.0) 0 h.0, h.1.1)

    back : (at : ℕ) (ws : List ℕ) (t : ℕ × ℕ) (at' : ℕ) (rest : List ℕ) → read_word rejects n at ws ≡ got t at' rest → Took (words_by (word rejects n)) (Fine (word rejects n)) at ws t at' rest
    back at [] t at' rest e = absurd (clash e)
    back at (w ∷ ws) t at' rest e =
        let p = pick_got (eqb (rejects (kind_of w)) 0) _ _ e in
        let q = pick_got (allowed_here n (kind_of w) (value_of w)) _ _ p.1 in
        let z : rejects (kind_of w) ≡ 0 = eqb-true _ _ p.0 in
        let u : (kind_of w, value_of w) ≡ t = cc in
        let k : w / 16777216 ≡ t.0 = ap (λ (x : ℕ × ℕ). x.0) u in
        let v : w % 16777216 ≡ t.1 = ap (λ (x : ℕ × ℕ). x.1) u in
        let r : ws ≡ rest = cc in
        let s : w ≡ t.0 * 16777216 + t.1 = omega arith in
        record { fine = (rw k at z, (omega arith, rw (k, v) at q.0)); same = cc; on = cc }

empty_lawful : {A : Type 0} (a : A) → Lawful (words_by (empty a)) (Fine (empty a)) (read_by (empty a))
unfolding words_by Fine read_by
empty_lawful a =
    record {
      there = λ b at rest h. simp (h, add-zero);
      back = λ at ws b at' rest e.
          let p : at ≡ at' = cc in
          record { fine = cc; same = cc; on = omega arith };
    }

-- two pieces read one after the other
module _ {A B : Type 0} (W : A → List ℕ) (P : A → Type 0) (R : ℕ → List ℕ → Read A) (W₂ : A → B → List ℕ) (P₂ : A → B → Type 0) (R₂ : A → ℕ → List ℕ → Read B) where
  W× : A × B → List ℕ
  W× t = W t.0 ++ W₂ t.0 t.1

  P× : A × B → Type 0
  P× t = P t.0 × P₂ t.0 t.1

  R× : ℕ → List ℕ → Read (A × B)
  R× at ws = bind (R at ws) (λ a at' ws'. map_read (λ b. (a, b)) (R₂ a at' ws'))

  join : {at : ℕ} {ws : List ℕ} {a : A} {at₁ : ℕ} {ws₁ : List ℕ} {b : B} {at' : ℕ} {rest : List ℕ}
      → Took W P at ws a at₁ ws₁ → Took (W₂ a) (P₂ a) at₁ ws₁ b at' rest → Took W× P× at ws (a, b) at' rest
  unfolding W× P×
  join {a = a} x y =
      record {
        fine = (x.fine, y.fine);
        same = simp append_assoc (x.same ∙ ap (λ l. W a ++ l) y.same);
        on = simp length-append (omega (arith, x.on, y.on));
      }

  then_lawful : Lawful W P R → ((a : A) → Lawful (W₂ a) (P₂ a) (R₂ a)) → Lawful W× P× R×
  unfolding W× P× R×
  then_lawful L M =
      record {
        there = λ t at rest h.
            simp (append_assoc, L.there t.0 at (W₂ t.0 t.1 ++ rest) h.0, (M t.0).there t.1 (at + length (W t.0)) rest h.1, length-append, add_assoc);
        back = λ at ws t at' rest e.
            let b = bind-got (R at ws) _ e in
            let m = map-got _ (R₂ b.a b.at₁ b.ws₁) b.then in
            subst (λ u. Took W× P× at ws u at' rest) m.2
            (join (L.back at ws b.a b.at₁ b.ws₁ b.first) ((M b.a).back b.at₁ b.ws₁ m.0 at' rest m.1));
      }

via_lawful : {A B : Type 0} (W : A → List ℕ) (P : A → Type 0) (R : ℕ → List ℕ → Read A) (to : A → B) (from : B → A) → ((b : B) → P (from b) → to (from b) ≡ b)
    → ((a : A) → P a → from (to a) ≡ a) → Lawful W P R → Lawful (λ b. W (from b)) (λ b. P (from b)) (λ at ws. map_read to (R at ws))
via_lawful W P R to from tf ft L =
    record {
      there = λ b at rest h. simp (L.there (from b) at rest h, tf b h);
      back = λ at ws b at' rest e.
          let m = map-got to (R at ws) e in
          let x = L.back at ws m.0 at' rest m.1 in
          let u : from b ≡ m.0 = ap from (sym m.2) ∙ ft m.0 x.fine in
          let y : Took W P at ws (from b) at' rest = rw u x in
          record { fine = y.fine; same = y.same; on = y.on };
    }

-- the same laws for a reader that does the same, and for an equal claim
relaw : {A : Type 0} {W : A → List ℕ} (P P' : A → Type 0) (R R' : ℕ → List ℕ → Read A)
    → ((a : A) → P a → P' a) → ((a : A) → P' a → P a) → ((at : ℕ) (ws : List ℕ) → R at ws ≡ R' at ws) → Lawful W P R → Lawful W P' R'
relaw P P' R R' p q e L =
    record {
      there = λ a at rest h. sym (e at _) ∙ L.there a at rest (q a h);
      back = λ at ws a at' rest h.
          let t = L.back at ws a at' rest (e at ws ∙ h) in
          record { fine = p a t.fine; same = t.same; on = t.on };
    }

pub only-kind : (k kind : ℕ) → only (kind ∷ []) k ≡ 0 → k ≡ kind
only-kind k kind e = go (eqb k kind) refl e
  where
    go : (b : Bool) → eqb k kind ≡ b → ◌≡◌ {A = ℕ} (pick (b || false) 0 2) 0 → k ≡ kind
    go true h e = eqb-true k kind h
    go false h e = absurd (omega arith)

pub only_one : (kind : ℕ) → only (kind ∷ []) kind ≡ 0
only_one kind = simp (eq-eqb kind kind refl)

pub only_same : (k kind : ℕ) → k ≡ kind → only (kind ∷ []) k ≡ 0
only_same k kind e = simp (eq-eqb k kind e)

pub only-other : (k kind : ℕ) → (k ≡ kind → ⊥) → only (kind ∷ []) k ≡ 2
only-other k kind z = simp (ne_eqb k kind z)

pub either_first : (k a b : ℕ) → k ≡ a → only (a ∷ b ∷ []) k ≡ 0
either_first k a b e = simp (eq-eqb k a e)

pub either_second : (k a b : ℕ) → k ≡ b → only (a ∷ b ∷ []) k ≡ 0
either_second k a b e = go (eqb k a)
  where
    go : (t : Bool) → ◌≡◌ {A = ℕ} (pick (t || (eqb k b || false)) 0 2) 0
    go true = refl
    go false = simp (eq-eqb k b e)

pub either_other : (k a b : ℕ) → (k ≡ a → ⊥) → (k ≡ b → ⊥) → only (a ∷ b ∷ []) k ≡ 2
either_other k a b y z = simp (ne_eqb k a y, ne_eqb k b z)

field_lawful : (n kind : ℕ) → Lawful (words_by (field n kind)) (Fine (field n kind)) (read_field n kind)
unfolding words_by Fine
field_lawful n kind =
    relaw _ _ _ _ (λ v h. h.1) (λ v h. (only_one kind, h)) (λ at ws. refl)
    (via_lawful _ _ _ (λ t. t.1) (λ v. (kind, v)) (λ v h. refl) (λ t h. λ i. (sym (only-kind t.0 kind h.0) i, t.1)) (word_lawful (only (kind ∷ [])) n))

-- one for each entry of a list
module _ {X A : Type 0} (W : X → A → List ℕ) (P : X → A → Type 0) (R : X → ℕ → List ℕ → Read A) (L : (x : X) → Lawful (W x) (P x) (R x)) where
  there-each : (xs : List X) (l : List A) (at : ℕ) (rest : List ℕ) → FineEach P xs l → read_each R xs at (words_each W xs l ++ rest) ≡ got l (at + length (words_each W xs l)) rest
  there-each [] [] at rest h = simp add-zero
  there-each [] (a ∷ l) at rest h = absurd h
  there-each (x ∷ xs) [] at rest h = absurd h
  there-each (x ∷ xs) (a ∷ l) at rest h =
      simp (append_assoc, (L x).there a at (words_each W xs l ++ rest) h.0, there-each xs l (at + length (W x a)) rest h.1, length-append, add_assoc)

  back-each : (xs : List X) (at : ℕ) (ws : List ℕ) (l : List A) (at' : ℕ) (rest : List ℕ) → read_each R xs at ws ≡ got l at' rest → Took (words_each W xs) (FineEach P xs) at ws l at' rest
  unfolding W× P×
  back-each [] at ws l at' rest e =
      let n : [] ≡ l = cc in
      subst (λ u. Took (words_each W []) (FineEach P []) at ws u at' rest) n
      (record { fine = tt; same = cc; on = let z : at ≡ at' = cc in omega arith })
  back-each (x ∷ xs) at ws l at' rest e =
      let b = bind-got (R x at ws) _ e in
      let m = map-got _ (read_each R xs b.at₁ b.ws₁) b.then in
      let p = (L x).back at ws b.a b.at₁ b.ws₁ b.first in
      let q = back-each xs b.at₁ b.ws₁ m.0 at' rest m.1 in
      let j = join (W x) (P x) (R x) (λ a. words_each W xs) (λ a. FineEach P xs) (λ a. read_each R xs) p q in
      subst (λ u. Took (words_each W (x ∷ xs)) (FineEach P (x ∷ xs)) at ws u at' rest) m.2
      (record { fine = (j.fine.0, j.fine.1); same = j.same; on = j.on })

  each_lawful : (xs : List X) → Lawful (words_each W xs) (FineEach P xs) (read_each R xs)
  each_lawful xs = record { there = λ l at rest h. there-each xs l at rest h; back = λ at ws l at' rest e. back-each xs at ws l at' rest e }

-- a number that was read for those that follow it
map_then : {A B C : Type 0} (f : A → B → C) (m : Read A) (k : A → ℕ → List ℕ → Read B)
    → map_read (λ (t : A × B). f t.0 t.1) (bind m (λ a at ws. map_read (λ b. (a, b)) (k a at ws))) ≡ bind m (λ a at ws. map_read (f a) (k a at ws))
map_then {A} {B} {C} f (got a at ws) k = go (k a at ws)
  where
    go : (r : Read B) → map_read (λ (t : A × B). f t.0 t.1) (map_read (λ b. (a, b)) r) ≡ map_read (f a) r
    go (got b at ws) = refl
    go (refused r) = refl
map_then f (refused r) k = refl

map_same : {A B : Type 0} (m : Read A) (k : A → ℕ → List ℕ → Read B) → bind m (λ a at ws. map_read (λ b. b) (k a at ws)) ≡ bind m k
map_same {A} {B} (got a at ws) k = go (k a at ws)
  where
    go : (r : Read B) → map_read (λ b. b) r ≡ r
    go (got b at ws) = refl
    go (refused r) = refl
map_same (refused r) k = refl

module _ {S A : Type 0} (step : S → A → S) (W : S → A → List ℕ) (P : S → A → Type 0) (R : S → ℕ → List ℕ → Read A) where
  PN : S → ℕ → List A → Type 0
  PN s n l = (length l ≡ n) × FineAll step P s l

  module _ (L : (s : S) → Lawful (W s) (P s) (R s)) where
    there-all : (l : List A) (s : S) (at : ℕ) (rest : List ℕ) → FineAll step P s l
        → read_all step R (length l) s at (words_all step W s l ++ rest) ≡ got l (at + length (words_all step W s l)) rest
    there-all [] s at rest h = simp add-zero
    there-all (a ∷ l) s at rest h =
        simp (append_assoc, (L s).there a at (words_all step W (step s a) l ++ rest) h.0, there-all l (step s a) (at + length (W s a)) rest h.1, length-append, add_assoc)

    back-all : (n : ℕ) (s : S) (at : ℕ) (ws : List ℕ) (l : List A) (at' : ℕ) (rest : List ℕ) → read_all step R n s at ws ≡ got l at' rest
        → Took (words_all step W s) (PN s n) at ws l at' rest
    unfolding PN W× P×
    back-all zero s at ws l at' rest e =
        let n : [] ≡ l = cc in
        subst (λ u. Took (words_all step W s) (PN s 0) at ws u at' rest) n
        (record { fine = (refl, tt); same = cc; on = let z : at ≡ at' = cc in omega arith })
    back-all (suc n) s at ws l at' rest e =
        let b = bind-got (R s at ws) _ e in
        let m = map-got _ (read_all step R n (step s b.a) b.at₁ b.ws₁) b.then in
        let x = (L s).back at ws b.a b.at₁ b.ws₁ b.first in
        let y = back-all n (step s b.a) b.at₁ b.ws₁ m.0 at' rest m.1 in
        let j = join (W s) (P s) (R s) (λ a. words_all step W (step s a)) (λ a. PN (step s a) n) (λ a. read_all step R n (step s a)) x y in
        subst (λ u. Took (words_all step W s) (PN s (suc n)) at ws u at' rest) m.2
        (record { fine = (ap suc j.fine.1.0, (j.fine.0, j.fine.1.1)); same = j.same; on = j.on })

    all_lawful : (s : S) (n : ℕ) → Lawful (words_all step W s) (PN s n) (read_all step R n s)
    unfolding PN
    all_lawful s n =
        record {
          there = λ l at rest h. rw (← h.0) (there-all l s at rest h.1);
          back = λ at ws l at' rest e. back-all n s at ws l at' rest e;
        }

-- a holder's whole has the count and the elements that it was made of, and is made of its count and elements
whole_of : {A C : Type 0} (H : Holder A C) (c : C) → says H (count H c) ≡ length (items H c) → whole H (count H c) (items H c) ≡ c
unfolding count items says whole
whole_of list c h = refl
whole_of list_or_none none h = refl
whole_of {A} list_or_none (some l) h = go (eqb (length l) 16777215) refl h
  where
    go : (b : Bool) → eqb (length l) 16777215 ≡ b → pick b 0 (length l) ≡ length l → pick b none (some l) ≡ some l
    go true e h = let z : length l ≡ 16777215 = eqb-true _ _ e in absurd (omega arith)
    go false e h = refl
whole_of option none h = refl
whole_of option (some a) h = refl

parts_of : {A C : Type 0} (H : Holder A C) (r : Values) (n v : ℕ) (l : List A) → Suits H r → allowed r n v ≡ true → length l ≡ says H v
    → (count H (whole H v l) ≡ v) × (items H (whole H v l) ≡ l)
unfolding count items says whole
parts_of list r n v l s a h = (h, refl)
parts_of {A} list_or_none r n v l s a h = go (eqb v 16777215) refl h
  where
    go : (b : Bool) → eqb v 16777215 ≡ b → length l ≡ pick b 0 v → (count list_or_none (pick b none (some l)) ≡ v) × (items list_or_none (pick b none (some l)) ≡ l)
    go true e h = (sym (eqb-true v 16777215 e), sym (nil_from_length l h))
    go false e h = (h, refl)
parts_of {A} option r n v l s a h = go l h
  where
    most : v ≤ 1
    most = leb-true v 1 (rw s at a)

    go : (m : List A) → length m ≡ v → (count option (first m) ≡ v) × (items option (first m) ≡ m)
    go [] h = (h, refl)
    go (x ∷ []) h = (h, refl)
    go (x ∷ y ∷ m) h = absurd (omega (arith, most))

-- a count word and what it counts
module _ {S A C : Type 0} (H : Holder A C) (n kind : ℕ) (suits : Suits H (entry_of kind).values) (step : S → A → S) (W : S → A → List ℕ) (P : S → A → Type 0) (R : S → ℕ → List ℕ → Read A) (L : (s : S) → Lawful (W s) (P s) (R s)) where
  counted_lawful : (s : S)
      → Lawful (λ c. word_of kind (count H c) ∷ words_all step W s (items H c)) (λ c. Fits n kind (count H c) × (says H (count H c) ≡ length (items H c)) × FineAll step P s (items H c))
      (λ at ws. bind (read_field n kind at ws) (λ v at' ws'. map_read (whole H v) (read_all step R (says H v) s at' ws')))
  unfolding PN W× P× R× words_by Fine allowed_here
  counted_lawful s =
      relaw _ _ _ _ (λ c h. (h.0, sym h.1.0, h.1.1)) (λ c h. (h.0, (sym h.1, h.2))) (λ at ws. map_then (whole H) (read_field n kind at ws) (λ v at' ws'. read_all step R (says H v) s at' ws'))
      (via_lawful _ _ _ (λ t. whole H t.0 t.1) (λ c. (count H c, items H c)) (λ c h. whole_of H c (sym h.1.0))
      (λ t h. let p = parts_of H (entry_of kind).values n t.0 t.1 suits h.0.1 h.1.0 in λ i. (p.0 i, p.1 i))
      (then_lawful _ _ (read_field n kind) (λ v. words_all step W s) (λ v. PN step W P R s (says H v)) (λ v. read_all step R (says H v) s) (field_lawful n kind) (λ v. all_lawful step W P R L s (says H v))))

one_of : (most v n : ℕ) → allowed (FromOne most) n v ≡ true → 1 ≤ v
one_of most v n e = go (leb 1 v) refl e
  where
    go : (b : Bool) → leb 1 v ≡ b → (b && leb v most) ≡ true → 1 ≤ v
    go true h e = leb-true 1 v h
    go false h e = let z : ◌≡◌ {A = ℕ} 0 1 = cc in absurd (omega arith)

-- a count word, one, and as many more as it says
module _ {A B : Type 0} (n kind most : ℕ) (rule : (entry_of kind).values ≡ FromOne most) (W : A → List ℕ) (P : A → Type 0) (R : ℕ → List ℕ → Read A) (L : Lawful W P R) (W₂ : B → List ℕ) (P₂ : B → Type 0) (R₂ : ℕ → List ℕ → Read B) (M : Lawful W₂ P₂ R₂) where
  abbrev stay : Unit {0} → B → Unit {0}
  stay u b = u

  abbrev after : ℕ → ℕ → List ℕ → Read (A × List B)
  after v at ws = bind (R at ws) (λ a at' ws'. map_read (λ l. (a, l)) (read_all stay (λ u b vs. R₂ b vs) (v - 1) tt at' ws'))

  more_lawful : Lawful (λ (t : A × List B). word_of kind (suc (length t.1)) ∷ W t.0 ++ words_all stay (λ u b. W₂ b) tt t.1)
      (λ t. Fits n kind (suc (length t.1)) × P t.0 × FineAll stay (λ u b. P₂ b) tt t.1)
      (λ at ws. bind (read_field n kind at ws) after)
  unfolding PN W× P× R× words_by Fine allowed_here
  more_lawful =
      relaw _ _ _ _ (λ t h. (h.0, h.1.0, h.1.1.1)) (λ t h. (h.0, (h.1, (omega arith, h.2))))
      (λ at ws. map_then (λ v t. t) (read_field n kind at ws) after ∙ map_same (read_field n kind at ws) after)
      (via_lawful _ _ _ (λ t. t.1) (λ t. (suc (length t.1), t)) (λ t h. refl)
      (λ t h. let z : 1 ≤ t.0 = one_of most t.0 n (rw rule at h.0.1) in let e : suc (length t.1.1) ≡ t.0 = omega (arith, h.1.1.0) in λ i. (e i, t.1))
      (then_lawful _ _ (read_field n kind) _ _ _ (field_lawful n kind)
      (λ v. then_lawful W P R (λ a. words_all stay (λ u b. W₂ b) tt) (λ a. PN stay (λ u b. W₂ b) (λ u b. P₂ b) (λ u b vs. R₂ b vs) tt (v - 1)) (λ a. read_all stay (λ u b vs. R₂ b vs) (v - 1) tt) L
      (λ a. all_lawful stay _ _ _ (λ u. M) tt (v - 1)))))

guarded_lawful : {A : Type 0} (W : A → List ℕ) (P : A → Type 0) (R : ℕ → List ℕ → Read A) (test : A → Bool) (why : ℕ → A → Refusal) → Lawful W P R
    → Lawful W (λ a. P a × (test a ≡ true)) (λ at ws. bind (R at ws) (λ a at' ws'. pick (test a) (got a at' ws') (refused (why at a))))
guarded_lawful W P R test why L =
    record {
      there = λ a at rest h. simp (L.there a at rest h.0, h.1);
      back = λ at ws a at' rest e.
          let b = bind-got (R at ws) _ e in
          let p = pick_got (test b.a) _ _ b.then in
          let s : b.a ≡ a = cc in
          let y : Took W P at ws a at' rest = L.back at ws a at' rest (cc) in
          record { fine = (y.fine, cc); same = y.same; on = y.on };
    }

pub lawful : {A : Type 0} (F : Form A) → Lawful (words_by F) (Fine F) (read_by F)
unfolding W× P× R× PN words_by Fine read_by
lawful (field n kind) = field_lawful n kind
lawful (word rejects n) = word_lawful rejects n
lawful (empty a) = empty_lawful a
lawful (each F xs) = each_lawful _ _ _ (λ x. lawful (F x)) xs
lawful (guarded F test why) = guarded_lawful _ _ _ test why (lawful F)
lawful (F ▹ G) = then_lawful (words_by F) (Fine F) (read_by F) (λ a. words_by (G a)) (λ a. Fine (G a)) (λ a. read_by (G a)) (lawful F) (λ a. lawful (G a))
lawful (counted_from H n kind suits step F s) = counted_lawful H n kind suits step _ _ _ (λ u. lawful (F u)) s
lawful (one_and_more n kind most rule F G) = more_lawful n kind most rule _ _ _ (lawful F) _ _ _ (lawful G)
lawful (via to from tf ft F) = via_lawful _ _ _ to from (λ b h. tf b) (λ a h. ft a) (lawful F)
