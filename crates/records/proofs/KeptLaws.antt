-- Laws of readers that keep a number of what they read, and of readers that note.
use Rattle.std.specs.Result.{IsErrAnd}
use Rattle.std.specs.Prelude.{Err}
use Prim.Native.Nat.{ℕ, ◌+◌, ◌≤◌, ◌<◌}
use native.Mathlib.Omega.{arith}
use mathlib.Core.Path.{◌≡◌, refl, ap, sym, ◌∙◌}
use mathlib.Core.List.{List, [], ◌∷◌, ◌++◌}
use mathlib.Core.Option.{Option, none, some}
use lib.ListN.{length, drop, length-append, length-drop}
use Rattle.definitions.specs.declared.answer.Refusal.{Refusal}
use Rattle.pack.specs.declared.cursor.Cursor.{Cursor}
use Rattle.pack.specs.Readers.{Step}
use Rattle.pack.specs.Readers.{on}
use Rattle.definitions.specs.declared.table.Values.TheVariants.{AtMost}
use Rattle.definitions.specs.Table.{entry_of}
use Rattle.definitions.specs.Form.{Read, got, refused, bind, map_read, read_field, option, says, whole, Form, field, ◌▹◌, via, counted_from, words_by, Fine, read_by}
use Rattle.pack.specs.Readers.{step_by, step_of, field_step}
use Rattle.pack.proofs.FormLaws.{lawful, clash, map-got}
use Rattle.pack.proofs.StepLaws.{exit, went, went_same, step_no, by-via, field-fine, at_most, step_map}
use Rattle.reading.specs.Noting.{State, NotedStep}
use Rattle.records.specs.Directory.{Noted}

-- ---- what was read, and where it stood

pub record There {A : Type 0} (f : A → ℕ) (F : Form A) (ws : List ℕ) (at v : ℕ) (k : Cursor) : Type 0 where
  pub value : A
  pub found : read_by F at (drop at ws) ≡ got value k.at (drop k.at ws)
  pub kept : f value ≡ v
  pub fine : Fine F value
  pub on : k.at ≡ at + length (words_by F value)
  pub stood : drop at ws ≡ words_by F value ++ drop k.at ws

module _ {A : Type 0} (f : A → ℕ) (F : Form A) (ws : List ℕ) (at : ℕ) {y : Step} (e : y ≡ step_of f F ws at) {v : ℕ} {k : Cursor} (o : y ≡ on v k) where
  pub there : There f F ws at v k
  there =
      let t = went f F ws at e o in
      let b = (lawful F).back at (drop at ws) t.value k.at (drop k.at ws) t.found in
      record { value = t.value; found = t.found; kept = t.kept; fine = t.fine; on = b.on; stood = b.same }

  -- a form of a word at least ends within the words
  pub within : ((a : A) → 0 < length (words_by F a)) → k.at ≤ length ws
  within h =
      let t = there in
      let l = ap length t.stood ∙ length-append (words_by F t.value) (drop k.at ws) in
      omega (arith, h t.value, t.on, length-drop at ws, length-drop k.at ws)

  -- what follows goes by what was read
  pub kept_then : {B : Type 0} (G : A → Form B) (g : A × B → ℕ) {x : Step}
      → ((t : There f F ws at v k) → x ≡ step_of (λ b. g (t.value, b)) (G t.value) ws k.at) → x ≡ step_of g (F ▹ G) ws at
  unfolding step_of read_by
  kept_then G g h = let t = there in h t ∙ sym (rw t.found (step_map g (λ b. (t.value, b)) (read_by (G t.value) k.at (drop k.at ws))))

  -- likewise of a reader that notes
  pub noted_then : {B D : Type 0} (G : A → Form B) (g : A × B → ℕ) (note : A × B → D → D) (d : D) {x : Step} {d' : D}
      → ((t : There f F ws at v k) → Noted (λ b. g (t.value, b)) (G t.value) (λ b. note (t.value, b)) ws k.at d x d') → Noted g (F ▹ G) note ws at d x d'
  unfolding read_by
  noted_then {B} {D} G g note d h =
      let t = there in
      record {
        answers = kept_then G g (λ u. (h u).answers);
        notes = λ ab next rest r.
            (let m = map-got (λ (b : B). (t.value, b)) (read_by (G t.value) k.at (drop k.at ws)) (rw t.found at r) in
            (h t).notes m.0 next rest m.1 ∙ ap (λ (y : A × B). note y d) m.2);
      }

  -- another number of the same value
  pub kept_last : (g : A → ℕ) {c : ℕ} → ((t : There f F ws at v k) → g t.value ≡ c) → on c k ≡ step_of g F ws at
  unfolding step_of
  kept_last g h = let t = there in sym (rw t.found (rw (h t) refl))

-- a flag and what it says
module _ {A : Type 0} (n kind : ℕ) (flag : (entry_of kind).values ≡ AtMost 1) (F : Form A) (ws : List ℕ) (at : ℕ) {y : Step} (e : y ≡ field_step n kind ws at) {v : ℕ} {k : Cursor} (o : y ≡ on v k) (g : Option A → ℕ) where
  abbrev optional : Form (Option A)
  optional = counted_from {S = Unit {0}} option n kind flag (λ u a. u) (λ u. F) tt

  flag-there : read_field n kind at (drop at ws) ≡ got v k.at (drop k.at ws)
  unfolding read_by
  flag-there = (went_same (field n kind) ws at e o).0

  pub flag-none : v ≡ 0 → {c : ℕ} → g none ≡ c → on c k ≡ step_of g optional ws at
  unfolding step_of read_by says whole
  flag-none z q = sym (rw flag-there (rw z (rw q refl)))

  pub flag_some : {x : Step} → (v ≡ 0 → ⊥) → x ≡ step_of (λ a. g (some a)) F ws k.at → x ≡ step_of g optional ws at
  unfolding step_of read_by says whole
  flag_some {x} z h =
      let l : v ≤ 1 = at_most n kind 1 flag v (field-fine n kind ws at e o).1 in
      let one : v ≡ 1 = omega arith in
      sym (rw flag-there (rw one (sym (go (read_by F k.at (drop k.at ws)) h))))
    where
      go : (m : Read A) → x ≡ step_by (λ a. g (some a)) m → x ≡ step_by g (map_read (whole option 1) (bind m (λ a at' ws'. map_read (λ l. a ∷ l) (got [] at' ws'))))
      go (got a at' ws') h = h
      go (refused r) h = h

  -- likewise of readers that note
  module _ {D : Type 0} (note : Option A → D → D) (d : D) {d' : D} where
    pub noted-none : v ≡ 0 → {c : ℕ} → g none ≡ c → d' ≡ note none d → Noted g optional note ws at d (on c k) d'
    unfolding read_by says whole
    noted-none z q n =
        record {
          answers = flag-none z q;
          notes = λ a next rest r.
              (let m : got none k.at (drop k.at ws) ≡ got a next rest = sym (rw flag-there (rw z refl)) ∙ r in
              let y : none ≡ a = cc in
              n ∙ ap (λ (x : Option A). note x d) y);
        }

    pub noted_some : {x : Step} → (v ≡ 0 → ⊥) → Noted (λ a. g (some a)) F (λ a. note (some a)) ws k.at d x d' → Noted g optional note ws at d x d'
    unfolding read_by says whole
    noted_some {x} z h =
        record {
          answers = flag_some z h.answers;
          notes = λ a next rest r.
              (let l : v ≤ 1 = at_most n kind 1 flag v (field-fine n kind ws at e o).1 in
              let one : v ≡ 1 = omega arith in
              go (read_by F k.at (drop k.at ws)) refl a next rest (sym (rw flag-there (rw one refl)) ∙ r));
        }
      where
        go : (m : Read A) → read_by F k.at (drop k.at ws) ≡ m → (a : Option A) (next : ℕ) (rest : List ℕ)
            → map_read (whole option 1) (bind m (λ a at' ws'. map_read (λ l. a ∷ l) (got [] at' ws'))) ≡ got a next rest → d' ≡ note a d
        go (got b at' ws') q a next rest r = let y : some b ≡ a = cc (r) in h.notes b at' ws' q ∙ ap (λ (x : Option A). note x d) y
        go (refused w) q a next rest r = absurd (clash r)

-- ---- noting

-- the same words as another type
pub noted-via : {A B D : Type 0} (to : A → B) (from : B → A) (tf : (b : B) → to (from b) ≡ b) (ft : (a : A) → from (to a) ≡ a) (g : B → ℕ) (F : Form A) (note : B → D → D) (ws : List ℕ) (at : ℕ) (d : D) {x : Step} {d' : D}
    → Noted (λ a. g (to a)) F (λ a. note (to a)) ws at d x d' → Noted g (via to from tf ft F) note ws at d x d'
unfolding read_by
noted-via {B = B} to from tf ft g F note ws at d h =
    record {
      answers = by-via to from tf ft g F ws at h.answers;
      notes = λ b next rest r. (let m = map-got to (read_by F at (drop at ws)) r in h.notes m.0 next rest m.1 ∙ ap (λ (y : B). note y d) m.2);
    }

-- what is noted in another way comes to the same
pub noted_as : {A D : Type 0} {f : A → ℕ} {F : Form A} {note note₂ : A → D → D} {ws : List ℕ} {at : ℕ} {d d₂ : D} {x : Step} {d' : D}
    → Noted f F note ws at d x d' → ((a : A) → note a d ≡ note₂ a d₂) → Noted f F note₂ ws at d₂ x d'
noted_as h q = record { answers = h.answers; notes = λ a next rest r. h.notes a next rest r ∙ q a }

-- a tree that was noted
pub tree-noted : {A : Type 0} (F : Form A) (note : A → State → State) (ws : List ℕ) (at : ℕ) (d : List ℕ) {r : Step} {e : List ℕ}
    → NotedStep F note ws at d r e → Noted (λ a. 0) F (λ a d. (note a (at, d)).1) ws at d r e
unfolding step_of
tree-noted {A} F note ws at d {r} {e} h =
    record {
      answers = h.answers;
      notes = λ a next rest q.
          (let o : r ≡ on 0 (record { at = next }) = h.answers ∙ rw q refl in
          let c = h.notes o in
          let z : c.value ≡ a = cc (c.found, q) in
          sym (ap (λ (s : State). s.1) c.noted) ∙ ap (λ (a : A). (note a (at, d)).1) z);
    }

module _ {A D : Type 0} {f : A → ℕ} {F : Form A} {note : A → D → D} {ws : List ℕ} {at : ℕ} {d : D} {y : Step} {d' : D} where
  -- of a refusal nothing is to be shown but the answer
  pub noted_no : y ≡ step_of f F ws at → {r : Refusal} → y ≡ Err r → Noted f F note ws at d y d'
  unfolding step_of
  noted_no e {r} o = record { answers = e; notes = λ a next rest h. absurd (clash (sym (step_no f (read_by F at (drop at ws)) (sym e ∙ o)) ∙ h)) }

  -- after a `?`
  pub noted_err : {r : Refusal} → Err r ≡ step_of f F ws at → IsErrAnd y (λ x. x ≡ r) → Noted f F note ws at d y d'
  noted_err e h = noted_no (exit h ∙ e) (exit h)

  pub noted-there : Noted f F note ws at d y d' → {v : ℕ} {k : Cursor} → y ≡ on v k → (t : There f F ws at v k) × (d' ≡ note t.value d)
  noted-there n {v} {k} o = let t = there f F ws at n.answers o in (t, n.notes t.value k.at (drop k.at ws) t.found)

  -- another number of the same value
  pub noted-last : Noted f F note ws at d y d' → {v : ℕ} {k : Cursor} → y ≡ on v k → (g : A → ℕ) {c : ℕ} → ((t : There f F ws at v k) → g t.value ≡ c) → Noted g F note ws at d (on c k) d'
  noted-last n o g h = record { answers = kept_last f F ws at n.answers o g h; notes = n.notes }

-- one form and then another, as one type: noted once both are read
module _ {A B C D : Type 0} (to : A × B → C) (from : C → A × B) (tf : (c : C) → to (from c) ≡ c) (ft : (t : A × B) → from (to t) ≡ t) (f : A → ℕ) (F : Form A) (f₂ : B → ℕ) (G : A → Form B) (g : C → ℕ) (note : C → D → D) (ws : List ℕ) (at : ℕ) (d : D) where
  pub noted-pair : {y z : Step} {v u : ℕ} {k j : Cursor} {d' : D} {c : ℕ} → y ≡ step_of f F ws at → y ≡ on v k → ((a : A) → z ≡ step_of f₂ (G a) ws k.at) → z ≡ on u j
      → ((t : There f F ws at v k) (s : There f₂ (G t.value) ws k.at u j) → (g (to (t.value, s.value)) ≡ c) × (d' ≡ note (to (t.value, s.value)) d))
      → Noted g (via to from tf ft (F ▹ G)) note ws at d (on c j) d'
  unfolding step_of read_by
  noted-pair {k = k} {j = j} {d' = d'} e o e₂ o₂ h =
      let t = there f F ws at e o in
      let s = there f₂ (G t.value) ws k.at (e₂ t.value) o₂ in
      let q : read_by (via to from tf ft (F ▹ G)) at (drop at ws) ≡ got (to (t.value, s.value)) j.at (drop j.at ws) = rw t.found (rw s.found refl) in
      record {
        answers = sym (rw t.found (rw s.found (rw (h t s).0 refl)));
        notes = λ a next rest r. (let z : to (t.value, s.value) ≡ a = cc (q, r) in (h t s).1 ∙ ap (λ (b : C). note b d) z);
      }
