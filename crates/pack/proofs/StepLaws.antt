-- Laws of reading steps. They are stated backwards, for `search`: what answers the rest of a form answers the whole.
use Rattle.std.specs.Prelude.{Result, Ok, Err}
use Rattle.std.specs.Result.{IsErrAnd}
use Rattle.std.proofs.lemmas.Result.{err_from_is_err_and}
use Prim.Native.Nat.{ℕ, suc, ◌+◌, ◌-◌, ◌≤◌, ◌<◌}
use native.Mathlib.Omega.{arith}
use mathlib.Core.Path.{◌≡◌, refl, ap, sym, ◌∙◌}
use mathlib.Core.List.{List, [], ◌∷◌}
use mathlib.Core.Bool.{Bool, true, false}
use lib.ListN.{length, drop, get_or, drop_of_length-le, replicate}
use lib.Seq.{drop-cons, drop-drop, drop-append_seam}
use lib.Dec.{leb}
use borrow.Author.Tests.{ne_eqb, leb-true, ltb-true}
use Rattle.std.proofs.lemmas.Bool.{and_parts}
use Rattle.definitions.specs.declared.answer.Refusal.{Refusal}
use Rattle.pack.specs.declared.cursor.Cursor.{Cursor}
use Rattle.pack.specs.Readers.{Step}
use Rattle.pack.specs.Readers.{on}
use Rattle.definitions.specs.declared.table.Values.TheVariants.{AtMost, FromOne, Name}
use Rattle.definitions.specs.Table.{kind_of, value_of, entry_of}
use Rattle.definitions.specs.Form.{Read, got, refused, bind, map_read, allowed_here, read_word, only, read_field, read_all, read_each, Holder, says, whole, Suits, Form, field, word, each, guarded, ◌▹◌, counted_from, one_and_more, via, words_by, Fine, read_by}
use Rattle.pack.specs.Readers.{step_by, step_of, skip_over, itself, field_step, next_word, word_step, skip_all}
use Rattle.pack.proofs.FormLaws.{lawful}

-- a word at a place
module _ (ws : List ℕ) (at : ℕ) where
  pub word-ended : length ws ≤ at → Err (record { number = 3; place = at; name = 0; other = 0 }) ≡ word_step ws at
  unfolding word_step
  word-ended h = sym (rw (drop_of_length-le ws h))

  pub word-there : at < length ws → on (get_or ws at 0) (record { at = at + 1 }) ≡ word_step ws at
  unfolding word_step
  word-there h = sym (rw (drop-cons ws at 0 h))

-- a step that was refused did not go on
pub no_on : {r : Refusal} {v : ℕ} {k : Cursor} → Err r ≡ on v k → ⊥
no_on e = let z : ◌≡◌ {A = ℕ} 0 1 = cc in omega arith

no_refused : {r : Refusal} {v : ℕ} {k : Cursor} → on v k ≡ Err r → ⊥
no_refused e = let z : ◌≡◌ {A = ℕ} 0 1 = cc in omega arith

-- a step that went on tells its value and its place
abbrev value_in : Step → ℕ
value_in (Ok (v, k)) = v
value_in (Err r) = 0

abbrev place_in : Cursor → Step → Cursor
place_in j (Ok (v, k)) = k
place_in j (Err r) = j

pub on_value : {v w : ℕ} {j k : Cursor} → on v j ≡ on w k → v ≡ w
on_value e = ap value_in e

pub on_place : {v w : ℕ} {j k : Cursor} → on v j ≡ on w k → j ≡ k
on_place {v} {w} {j} {k} e = ap (place_in j) e

-- what `?` hands on where a call is refused: the call's refusal
pub exit : {T E : Type 0} {r : Result T E} {e : E} → IsErrAnd r (λ x. x ≡ e) → r ≡ Err e
exit {T} {E} {r} h = let p = err_from_is_err_and r h in p.1 ∙ ap Err p.2

-- and where the call answers what the caller does, its answer
pub exit_same : {T E : Type 0} {r y : Result T E} {e : E} → IsErrAnd r (λ x. x ≡ e) → y ≡ Err e → r ≡ y
exit_same h o = exit h ∙ sym o

-- a step that was refused
pub step_no : {A : Type 0} (f : A → ℕ) (m : Read A) {r : Refusal} → step_by f m ≡ Err r → m ≡ refused r
step_no f (got a at ws) e = absurd (no_refused e)
step_no f (refused r) e = cc

pub step_map : {A B : Type 0} (g : B → ℕ) (h : A → B) (m : Read A) → step_by g (map_read h m) ≡ step_by (λ a. g (h a)) m
step_map g h (got a at ws) = refl
step_map g h (refused r) = refl

-- a word of which the kind is not rejected: what the code's word, tests on it and answer come to
module _ (rejects : ℕ → ℕ) (n : ℕ) (f : ℕ × ℕ → ℕ) (ws : List ℕ) (at : ℕ) {y : Step} (e : y ≡ word_step ws at) where
  -- the word that stands there, if any
  stood : (l : List ℕ) → drop at ws ≡ l → y ≡ next_word at l
  unfolding word_step
  stood l h = e ∙ ap (λ (m : List ℕ). next_word at m) h

  pub word-stop : {r : Refusal} → y ≡ Err r → y ≡ step_of f (word rejects n) ws at
  unfolding step_of read_by
  word-stop {r} o = go (drop at ws) refl
    where
      go : (l : List ℕ) → drop at ws ≡ l → y ≡ step_by f (read_word rejects n at l)
      go [] h = stood [] h
      go (w ∷ l) h = absurd (no_refused (sym (stood (w ∷ l) h) ∙ o))

  module _ {w : ℕ} {k : Cursor} (o : y ≡ on w k) where
    stands : drop at ws ≡ w ∷ drop k.at ws
    stands = go (drop at ws) refl
      where
        go : (l : List ℕ) → drop at ws ≡ l → l ≡ w ∷ drop k.at ws
        go [] h = absurd (no_on (sym (stood [] h) ∙ o))
        go (x ∷ l) h =
            let u : on x (record { at = at + 1 }) ≡ on w k = sym (stood (x ∷ l) h) ∙ o in
            let v : x ≡ w = on_value u in
            let q : at + 1 ≡ k.at = ap (λ (c : Cursor). c.at) (on_place u) in
            let d : drop (at + 1) ws ≡ l = sym (drop-drop 1 at ws) ∙ ap (λ (m : List ℕ). drop 1 m) h in
            rw v (ap (λ (m : List ℕ). w ∷ m) (sym d ∙ ap (λ (m : ℕ). drop m ws) q))

    after : k ≡ record { at = at + 1 }
    after = go (drop at ws) refl
      where
        go : (l : List ℕ) → drop at ws ≡ l → k ≡ record { at = at + 1 }
        go [] h = absurd (no_on (sym (stood [] h) ∙ o))
        go (x ∷ l) h = let u : on x (record { at = at + 1 }) ≡ on w k = sym (stood (x ∷ l) h) ∙ o in sym (on_place u)

    pub word_rejected : {x : ℕ} → rejects (kind_of w) ≡ x → (x ≡ 0 → ⊥) → Err (record { number = x; place = at; name = 0; other = 0 }) ≡ step_of f (word rejects n) ws at
    unfolding step_of read_by
    word_rejected {x} t z = sym (simp (stands, t, ne_eqb x 0 z))

    pub word_value : rejects (kind_of w) ≡ 0 → allowed_here n (kind_of w) (value_of w) ≡ false
        → Err (record { number = 4; place = at; name = 0; other = 0 }) ≡ step_of f (word rejects n) ws at
    unfolding step_of read_by
    word_value t v = sym (simp (stands, t, v))

    pub word_on : {x : ℕ} → rejects (kind_of w) ≡ 0 → allowed_here n (kind_of w) (value_of w) ≡ true → f (kind_of w, value_of w) ≡ x → on x k ≡ step_of f (word rejects n) ws at
    unfolding step_of read_by
    word_on t v q = sym (simp (stands, t, v, q, after))

-- a word of one kind, by its value
pub field-word : (n kind : ℕ) (f : ℕ → ℕ) (ws : List ℕ) (at : ℕ) → step_of (λ t. f t.1) (word (only (kind ∷ [])) n) ws at ≡ step_of f (field n kind) ws at
unfolding step_of read_by
field-word n kind f ws at = sym (step_map f (λ t. t.1) (read_word (only (kind ∷ [])) n at (drop at ws)))

-- what is left after a form is the list from the place after it
rest-drop : {A : Type 0} (F : Form A) (ws : List ℕ) (at : ℕ) {a : A} {at' : ℕ} {rest : List ℕ} → read_by F at (drop at ws) ≡ got a at' rest → rest ≡ drop at' ws
rest-drop F ws at {a} {at'} {rest} e =
    let t = (lawful F).back at (drop at ws) a at' rest e in
    sym (rw t.on (sym (drop-drop (length (words_by F a)) at ws) ∙ rw t.same (drop-append_seam (words_by F a) rest)))

-- a step that went on read a value, and goes on at the place after it
pub record Went {A : Type 0} (f : A → ℕ) (F : Form A) (ws : List ℕ) (at v : ℕ) (k : Cursor) : Type 0 where
  pub value : A
  pub found : read_by F at (drop at ws) ≡ got value k.at (drop k.at ws)
  pub kept : f value ≡ v
  pub fine : Fine F value

pub went : {A : Type 0} (f : A → ℕ) (F : Form A) (ws : List ℕ) (at : ℕ) {x : Step} {v : ℕ} {k : Cursor} → x ≡ step_of f F ws at → x ≡ on v k → Went f F ws at v k
unfolding step_of
went {A} f F ws at {x} {v} {k} e o = go (read_by F at (drop at ws)) refl (sym e ∙ o)
  where
    go : (m : Read A) → read_by F at (drop at ws) ≡ m → step_by f m ≡ on v k → Went f F ws at v k
    go (got a at' rest) h e =
        let r : rest ≡ drop at' ws = rest-drop F ws at h in
        let p : at' ≡ k.at = ap (λ (c : Cursor). c.at) (on_place e) in
        let g : read_by F at (drop at ws) ≡ got a k.at (drop k.at ws) = h ∙ rw r (rw p refl) in
        record { value = a; found = g; kept = on_value e; fine = ((lawful F).back at (drop at ws) a k.at (drop k.at ws) g).fine }
    go (refused r) h e = absurd (no_on e)

-- of a form whose number is its value
pub went_same : (F : Form ℕ) (ws : List ℕ) (at : ℕ) {x : Step} {v : ℕ} {k : Cursor} → x ≡ step_of itself F ws at → x ≡ on v k
    → (read_by F at (drop at ws) ≡ got v k.at (drop k.at ws)) × Fine F v
went_same F ws at e o = let t = went itself F ws at e o in (rw (← t.kept) t.found, rw (← t.kept) t.fine)

pub by-via : {A B : Type 0} (to : A → B) (from : B → A) (tf : (b : B) → to (from b) ≡ b) (ft : (a : A) → from (to a) ≡ a) (g : B → ℕ) (F : Form A) (ws : List ℕ) (at : ℕ) {x : Step}
    → x ≡ step_of (λ a. g (to a)) F ws at → x ≡ step_of g (via to from tf ft F) ws at
unfolding step_of read_by
by-via to from tf ft g F ws at h = h ∙ sym (step_map g to (read_by F at (drop at ws)))

module _ {A : Type 0} (f : A → ℕ) (F : Form A) (ws : List ℕ) (at : ℕ) {y : Step} (e : y ≡ step_of f F ws at) where
  -- refused, whatever number is kept
  pub last-stop : (g : A → ℕ) {r : Refusal} → y ≡ Err r → y ≡ step_of g F ws at
  unfolding step_of
  last-stop g o = o ∙ sym (rw (step_no f (read_by F at (drop at ws)) (sym e ∙ o)))

  -- read, where a number is kept that does not depend on it
  pub last_on : (c : ℕ) {v : ℕ} {k : Cursor} → y ≡ on v k → on c k ≡ step_of (λ a. c) F ws at
  unfolding step_of
  last_on c o = let s = went f F ws at e o in sym (rw s.found)

  module _ {B : Type 0} (G : A → Form B) (g : A × B → ℕ) where
    pub then_stop : {r : Refusal} → y ≡ Err r → y ≡ step_of g (F ▹ G) ws at
    unfolding step_of read_by
    then_stop o = o ∙ sym (rw (step_no f (read_by F at (drop at ws)) (sym e ∙ o)))

    past : (a : A) (at' : ℕ) → read_by F at (drop at ws) ≡ got a at' (drop at' ws) → step_of g (F ▹ G) ws at ≡ step_of (λ b. g (a, b)) (G a) ws at'
    unfolding step_of read_by
    past a at' h = rw h (step_map g (λ b. (a, b)) (read_by (G a) at' (drop at' ws)))

    pub by_then : {x : Step} {v : ℕ} {k : Cursor} → y ≡ on v k → ((a : A) → x ≡ step_of (λ b. g (a, b)) (G a) ws k.at) → x ≡ step_of g (F ▹ G) ws at
    by_then {k = k} o h = let s = went f F ws at e o in h s.value ∙ sym (past s.value k.at s.found)

    -- where what follows goes by the number that is kept
    pub by_kept : {x : Step} {v : ℕ} {k : Cursor} → y ≡ on v k → ((a : A) → f a ≡ v → Fine F a → x ≡ step_of (λ b. g (a, b)) (G a) ws k.at) → x ≡ step_of g (F ▹ G) ws at
    by_kept {k = k} o h = let s = went f F ws at e o in h s.value s.kept s.fine ∙ sym (past s.value k.at s.found)

-- and then none of a list
pub then_none : {A B X : Type 0} (f : A → ℕ) (F : Form A) (G : X → Form B) (ws : List ℕ) (at : ℕ) → step_of (λ t. f t.0) (F ▹ λ _. each G []) ws at ≡ step_of f F ws at
unfolding step_of read_by
then_none {A} {B} f F G ws at = go (read_by F at (drop at ws))
  where
    go : (m : Read A) → step_by (λ (t : A × List B). f t.0) (bind m (λ a at' ws'. map_read (λ b. (a, b)) (got [] at' ws'))) ≡ step_by f m
    go (got a at' ws') = refl
    go (refused r) = refl

-- where what follows goes by the value
pub by_value : {B : Type 0} (F : Form ℕ) (G : ℕ → Form B) (g : ℕ × B → ℕ) (ws : List ℕ) (at : ℕ) {x y : Step} {v : ℕ} {k : Cursor}
    → y ≡ step_of itself F ws at → y ≡ on v k → x ≡ step_of (λ b. g (v, b)) (G v) ws k.at → x ≡ step_of g (F ▹ G) ws at
by_value F G g ws at {v = v} {k = k} e o h = h ∙ sym (past itself F ws at e G g v k.at (went_same F ws at e o).0)

-- one for each entry of a list
module _ {X A : Type 0} (F : X → Form A) (ws : List ℕ) (at : ℕ) where
  pub each-done : (c : ℕ) → on c (record { at = at }) ≡ step_of (λ l. c) (each F []) ws at
  unfolding step_of read_by
  each-done c = refl

  pub none_then : {B : Type 0} (G : List A → Form B) (g : List A × B → ℕ) → step_of g (each F [] ▹ G) ws at ≡ step_of (λ b. g ([], b)) (G []) ws at
  unfolding step_of read_by
  none_then G g = step_map g (λ b. ([], b)) (read_by (G []) at (drop at ws))

  module _ (x : X) (xs : List X) (f : A → ℕ) (g : List A → ℕ) {y : Step} (e : y ≡ step_of f (F x) ws at) where
    pub each-stop : {r : Refusal} → y ≡ Err r → y ≡ step_of g (each F (x ∷ xs)) ws at
    unfolding step_of read_by
    each-stop o = o ∙ sym (rw (step_no f (read_by (F x) at (drop at ws)) (sym e ∙ o)))

    each-past : (a : A) (at' : ℕ) → read_by (F x) at (drop at ws) ≡ got a at' (drop at' ws) → step_of g (each F (x ∷ xs)) ws at ≡ step_of (λ l. g (a ∷ l)) (each F xs) ws at'
    unfolding step_of read_by
    each-past a at' h = rw h (step_map g (λ l. a ∷ l) (read_each (λ z b vs. read_by (F z) b vs) xs at' (drop at' ws)))

    pub by-each : {z : Step} {v : ℕ} {k : Cursor} → y ≡ on v k → ((a : A) → z ≡ step_of (λ l. g (a ∷ l)) (each F xs) ws k.at) → z ≡ step_of g (each F (x ∷ xs)) ws at
    by-each {k = k} o h = let s = went f (F x) ws at e o in h s.value ∙ sym (each-past s.value k.at s.found)

  -- the last one, with the number that is kept of it
  pub each_last : (x : X) (f : A → ℕ) (g : List A → ℕ) {y : Step} → ((a : A) → g (a ∷ []) ≡ f a) → y ≡ step_of f (F x) ws at → y ≡ step_of g (each F (x ∷ [])) ws at
  unfolding step_of read_by
  each_last x f g {y} q e = e ∙ go (read_by (F x) at (drop at ws))
    where
      go : (m : Read A) → step_by f m ≡ step_by g (bind m (λ a at' ws'. map_read (λ l. a ∷ l) (got [] at' ws')))
      go (got a at' ws') = rw (q a) refl
      go (refused r) = refl

pub pred_of : (m : ℕ) → 0 < m → m ≡ suc (m - 1)
pred_of m h = omega arith

-- as many of one entry
module _ {X A : Type 0} (F : X → Form A) (x : X) (ws : List ℕ) (at m : ℕ) where
  pub many-done : m ≤ 0 → on 0 (record { at = at }) ≡ skip_over (each F (replicate m x)) ws at
  many-done h = let z : m ≡ 0 = omega arith in rw z (each-done F ws at 0)

  module _ (h : 0 < m) (f : A → ℕ) {y : Step} (e : y ≡ step_of f (F x) ws at) where
    pub many-stop : {r : Refusal} → y ≡ Err r → y ≡ skip_over (each F (replicate m x)) ws at
    many-stop o = each-stop F ws at x (replicate (m - 1) x) f (λ l. 0) e o ∙ ap (λ (n : ℕ). skip_over (each F (replicate n x)) ws at) (sym (pred_of m h))

    pub many-next : {v : ℕ} {k : Cursor} → y ≡ on v k → skip_over (each F (replicate m x)) ws at ≡ skip_over (each F (replicate (m - 1) x)) ws k.at
    many-next o = ap (λ (n : ℕ). skip_over (each F (replicate n x)) ws at) (pred_of m h) ∙ sym (by-each F ws at x (replicate (m - 1) x) f (λ l. 0) e o (λ a. refl))

-- so many with a state
module _ {S A : Type 0} (step : S → A → S) (F : S → Form A) (s : S) (ws : List ℕ) (at : ℕ) (m : ℕ) where
  pub all_done : m ≤ 0 → on 0 (record { at = at }) ≡ skip_all step F m s ws at
  unfolding skip_all
  all_done h = let z : m ≡ 0 = omega arith in rw z refl

  module _ (h : 0 < m) (f : A → ℕ) {y : Step} (e : y ≡ step_of f (F s) ws at) where
    pub all-stop : {r : Refusal} → y ≡ Err r → y ≡ skip_all step F m s ws at
    unfolding skip_all step_of
    all-stop {r} o = o ∙ sym (ap (λ (n : ℕ). skip_all step F n s ws at) (pred_of m h) ∙ rw (step_no f (read_by (F s) at (drop at ws)) (sym e ∙ o)))

-- a count and what it counts
module _ {S A C : Type 0} (H : Holder A C) (n kind : ℕ) (suits : Suits H (entry_of kind).values) (step : S → A → S) (F : S → Form A) (s : S) (ws : List ℕ) (at : ℕ) {y : Step} (e : y ≡ field_step n kind ws at) where
  pub counted_stop : {r : Refusal} → y ≡ Err r → y ≡ skip_over (counted_from H n kind suits step F s) ws at
  unfolding step_of read_by
  counted_stop {r} o = o ∙ sym (rw (step_no itself (read_field n kind at (drop at ws)) (sym e ∙ o)))

  pub by-counted : {x : Step} {v : ℕ} {k : Cursor} → y ≡ on v k → x ≡ skip_all step F (says H v) s ws k.at → x ≡ skip_over (counted_from H n kind suits step F s) ws at
  unfolding step_of skip_all read_by
  by-counted {v = v} {k = k} o h =
      let z : read_field n kind at (drop at ws) ≡ got v k.at (drop k.at ws) = (went_same (field n kind) ws at e o).0 in
      h ∙ sym (rw z (step_map (λ c. 0) (whole H v) (read_all step (λ u b vs. read_by (F u) b vs) (says H v) s k.at (drop k.at ws))))

  -- the same with a loop's own count
  pub by_left : {x : Step} {v : ℕ} {k : Cursor} → y ≡ on v k → {m : ℕ} → m ≡ says H v → x ≡ skip_all step F m s ws k.at → x ≡ skip_over (counted_from H n kind suits step F s) ws at
  by_left {k = k} o q h = by-counted o (h ∙ ap (λ (m : ℕ). skip_all step F m s ws k.at) q)

-- a word that was read has an allowed value
pub field-fine : (n kind : ℕ) (ws : List ℕ) (at : ℕ) {x : Step} {v : ℕ} {k : Cursor} → x ≡ field_step n kind ws at → x ≡ on v k → (v < 16777216) × (allowed_here n kind v ≡ true)
unfolding Fine
field-fine n kind ws at e o = (went_same (field n kind) ws at e o).1

-- what the rules say
pub at_most : (n kind m : ℕ) → (entry_of kind).values ≡ AtMost m → (v : ℕ) → allowed_here n kind v ≡ true → v ≤ m
unfolding allowed_here
at_most n kind m r v e = leb-true v m (rw r at e)

pub name_below : (n kind : ℕ) → (entry_of kind).values ≡ Name → (v : ℕ) → allowed_here n kind v ≡ true → v < n
unfolding allowed_here
name_below n kind r v e = ltb-true v n (rw r at e)

pub from_one : (n kind m : ℕ) → (entry_of kind).values ≡ FromOne m → (v : ℕ) → allowed_here n kind v ≡ true → (1 ≤ v) × (v ≤ m)
unfolding allowed_here
from_one n kind m r v e = let b = and_parts (leb 1 v) (leb v m) (rw r at e) in (leb-true 1 v b.0, leb-true v m b.1)

-- a count, one, and more
module _ {A B : Type 0} (n kind most : ℕ) (rule : (entry_of kind).values ≡ FromOne most) (F : Form A) (G : Form B) (ws : List ℕ) (at : ℕ) {y : Step} (e : y ≡ field_step n kind ws at) where
  abbrev bodies : Form (A × List B)
  bodies = one_and_more n kind most rule F G

  pub more-stop : {r : Refusal} → y ≡ Err r → y ≡ skip_over bodies ws at
  unfolding step_of read_by
  more-stop {r} o = o ∙ sym (rw (step_no itself (read_field n kind at (drop at ws)) (sym e ∙ o)))

  module _ {v : ℕ} {k : Cursor} (o : y ≡ on v k) (f : A → ℕ) {x : Step} (d : x ≡ step_of f F ws k.at) where
    count-there : read_field n kind at (drop at ws) ≡ got v k.at (drop k.at ws)
    unfolding read_by
    count-there = (went_same (field n kind) ws at e o).0

    pub first-stop : {r : Refusal} → x ≡ Err r → x ≡ skip_over bodies ws at
    unfolding step_of read_by
    first-stop {r} p = p ∙ sym (rw count-there (rw (step_no f (read_by F k.at (drop k.at ws)) (sym d ∙ p))))

    pub by-more : {z : Step} {u : ℕ} {j : Cursor} → x ≡ on u j → z ≡ skip_all {S = Unit {0}} (λ u b. u) (λ u. G) (v - 1) tt ws j.at → z ≡ skip_over bodies ws at
    unfolding step_of skip_all read_by
    by-more {j = j} p h =
        let t = went f F ws k.at d p in
        h ∙ sym (rw count-there (rw t.found (step_map (λ c. 0) (λ l. (t.value, l)) (read_all {S = Unit {0}} (λ u b. u) (λ u b vs. read_by G b vs) (v - 1) tt j.at (drop j.at ws)))))

-- a word with a later test
module _ (n kind : ℕ) (test : ℕ → Bool) (why : ℕ → ℕ → Refusal) (ws : List ℕ) (at : ℕ) {x : Step} (e : x ≡ field_step n kind ws at) where
  pub guarded-stop : {r : Refusal} → x ≡ Err r → x ≡ step_of itself (guarded (field n kind) test why) ws at
  unfolding step_of read_by
  guarded-stop o = o ∙ sym (rw (step_no itself (read_field n kind at (drop at ws)) (sym e ∙ o)))

  module _ {v : ℕ} {k : Cursor} (o : x ≡ on v k) where
    value_there : read_field n kind at (drop at ws) ≡ got v k.at (drop k.at ws)
    unfolding read_by
    value_there = (went_same (field n kind) ws at e o).0

    pub guarded_no : test v ≡ false → Err (why at v) ≡ step_of itself (guarded (field n kind) test why) ws at
    unfolding read_by step_of
    guarded_no z = sym (simp (value_there, z))

    pub guarded_on : test v ≡ true → on v k ≡ step_of itself (guarded (field n kind) test why) ws at
    unfolding read_by step_of
    guarded_on z = sym (simp (value_there, z))

-- ---- the same after a `?`, where what a call answered stands in what it promised

-- what is handed on is the call's refusal
pub handed : {T E : Type 0} {r z : Result T E} {e : E} → IsErrAnd r (λ x. x ≡ e) → Err e ≡ z → r ≡ z
handed h p = exit h ∙ p

module _ {A : Type 0} (f : A → ℕ) (F : Form A) (ws : List ℕ) (at : ℕ) where
  pub last_err : (g : A → ℕ) {r : Refusal} → Err r ≡ step_of f F ws at → Err r ≡ step_of g F ws at
  last_err g e = last-stop f F ws at e g refl

  pub last_ok : (c : ℕ) {v : ℕ} {k : Cursor} → on v k ≡ step_of f F ws at → on c k ≡ step_of (λ a. c) F ws at
  last_ok c e = last_on f F ws at e c refl

  module _ {B : Type 0} (G : A → Form B) (g : A × B → ℕ) where
    pub then_err : {r : Refusal} → Err r ≡ step_of f F ws at → Err r ≡ step_of g (F ▹ G) ws at
    then_err e = then_stop f F ws at e G g refl

    pub then_ok : {x : Step} {v : ℕ} {k : Cursor} → on v k ≡ step_of f F ws at → ((a : A) → x ≡ step_of (λ b. g (a, b)) (G a) ws k.at) → x ≡ step_of g (F ▹ G) ws at
    then_ok e h = by_then f F ws at e G g refl h

pub value_ok : {B : Type 0} (F : Form ℕ) (G : ℕ → Form B) (g : ℕ × B → ℕ) (ws : List ℕ) (at : ℕ) {x : Step} {v : ℕ} {k : Cursor}
    → on v k ≡ step_of itself F ws at → x ≡ step_of (λ b. g (v, b)) (G v) ws k.at → x ≡ step_of g (F ▹ G) ws at
value_ok F G g ws at e h = by_value F G g ws at e refl h

pub counted_err : {S A C : Type 0} (H : Holder A C) (n kind : ℕ) (suits : Suits H (entry_of kind).values) (step : S → A → S) (F : S → Form A) (s : S) (ws : List ℕ) (at : ℕ) {r : Refusal}
    → Err r ≡ field_step n kind ws at → Err r ≡ skip_over (counted_from H n kind suits step F s) ws at
counted_err H n kind suits step F s ws at e = counted_stop H n kind suits step F s ws at e refl

pub guarded_err : (n kind : ℕ) (test : ℕ → Bool) (why : ℕ → ℕ → Refusal) (ws : List ℕ) (at : ℕ) {r : Refusal} → Err r ≡ field_step n kind ws at → Err r ≡ step_of itself (guarded (field n kind) test why) ws at
guarded_err n kind test why ws at e = guarded-stop n kind test why ws at e refl

-- what a `return` and a `?` of a reading function want
pub ruleset walks = (by-via, then_ok, value_ok, then_err, last_ok, last_err, counted_err, guarded_err)
