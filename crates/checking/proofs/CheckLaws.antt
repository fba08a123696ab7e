-- Laws of Check: what its tests and its reading come to.
use Rattle.std.specs.Prelude.{Ok, Err}
use Prim.Native.Nat.{ℕ, ◌+◌, ◌≤◌, ◌<◌, zero, suc}
use mathlib.Core.Path.{◌≡◌, refl, ap, sym, ◌∙◌, subst}
use mathlib.Core.List.{List}
use native.Mathlib.Omega.{arith}
use mathlib.Core.Bool.{Bool, true, false}
use lib.ListN.{length, drop, get_or, drop_of_length-le, replicate, length-replicate}
use lib.Seq.{drop-cons, get_or-drop}
use lib.Dec.{leb}
use borrow.Author.Tests.{le-leb, lt-leb, leb-true}
use Rattle.definitions.specs.declared.answer.Refusal.{Refusal}
use Rattle.definitions.specs.Answers.{gives}
use Rattle.pack.specs.declared.cursor.Cursor.{Cursor}
use Rattle.pack.specs.Readers.{Step}
use Rattle.pack.specs.Readers.{on}
use Rattle.definitions.specs.Table.{pick, value_of, word_of, entry_of, table}
use Rattle.definitions.specs.Form.{Form, Read, map_read, field, got, read_by, words_by}
use Rattle.definitions.specs.Records.{undated, Pack}
use Rattle.definitions.specs.FieldRows.{RecordsRow, of_row, to_row}
use Rattle.definitions.specs.Pack.{Reading, yes, layout, inner, records, complete, read}
use Rattle.pack.specs.Readers.{step_of, skip_over, itself, field_step}
use Rattle.definitions.specs.Answers.{answer}
use Rattle.definitions.specs.Checking.{check_answer}
use Rattle.pack.proofs.FormLaws.{clash, map-got}
use Rattle.records.specs.declared.directory.Layout.{Layout}
use Rattle.records.specs.Directory.{Laid}
use Rattle.records.specs.Directory.{Clear, step_in, layout_of, directory_of}
use Rattle.records.specs.Notes.{relations_left, notes_left, LaidOut}
use Rattle.records.proofs.KeptLaws.{There, there, within}
use Rattle.checking.specs.CheckPromises.{names_said, LaidWhole, answer_in, CheckedNotes, DirectoryChecked}
use Rattle.pack.proofs.StepLaws.{went, went_same, by_then, by_value, step_no, field-fine, from_one}

-- reading that starts at word 0
pub from_start : {A : Type 0} (F : Form A) (ws : List ℕ) {at : ℕ} {x : Step} → at ≡ 0 → x ≡ skip_over F ws at → x ≡ skip_over F ws 0
from_start F ws z h = h ∙ ap (λ (a : ℕ). skip_over F ws a) z

-- the number of names that was read
pub names-most : (n : ℕ) (ws : List ℕ) (at : ℕ) {x : Step} {v : ℕ} {k : Cursor} → x ≡ field_step n 2 ws at → x ≡ on v k → v ≤ 4096
unfolding entry_of table
names-most n ws at {v = v} e o = (from_one n 2 4096 refl v (field-fine n 2 ws at e o).1).1

module _ (ws : List ℕ) where
  pub check_short : length ws < 6 → Err (record { number = 1; place = 0; name = 0; other = 0 }) ≡ check_answer ws
  unfolding check_answer read
  check_short h = sym (simp (lt-leb 6 (length ws) h))

  module _ (lo : 6 ≤ length ws) where
    pub check_long : 8192 < length ws → Err (record { number = 1; place = 0; name = 0; other = 0 }) ≡ check_answer ws
    unfolding check_answer read
    check_long h = sym (simp (le-leb 6 (length ws) lo, lt-leb (length ws) 8192 h))

    module _ (hi : length ws ≤ 8192) {x : Step} (e : x ≡ skip_over (layout undated (length ws)) ws 0) where
      sized : check_answer ws ≡ answer (complete undated (read_by (layout undated (length ws)) 0 ws)) (λ p. gives 1 0)
      unfolding check_answer read
      sized = simp (le-leb 6 (length ws) lo, le-leb (length ws) 8192 hi)

      pub check_refused : {r : Refusal} → x ≡ Err r → Err r ≡ check_answer ws
      unfolding step_of
      check_refused o = sym (sized ∙ rw (step_no (λ a. 0) (read_by (layout undated (length ws)) 0 ws) (sym e ∙ o)))

      pub check_left : {v : ℕ} {k : Cursor} → x ≡ on v k → k.at < length ws → Err (record { number = 8; place = k.at; name = 0; other = 0 }) ≡ check_answer ws
      check_left {k = k} o h =
          let t = went (λ a. 0) (layout undated (length ws)) ws 0 e o in
          sym (sized ∙ rw t.found (rw (drop-cons ws k.at 0 h)))

      pub check_yes : {v : ℕ} {k : Cursor} → x ≡ on v k → length ws ≤ k.at → gives 1 0 ≡ check_answer ws
      check_yes {k = k} o h =
          let t = went (λ a. 0) (layout undated (length ws)) ws 0 e o in
          sym (sized ∙ rw t.found (rw (drop_of_length-le ws h)))

-- ---- with a directory

whole_long : (len : ℕ) (a : ℕ × (ℕ × RecordsRow)) → 0 < length (words_by (layout undated len) a)
unfolding layout words_by
whole_long len a = omega arith

pub zero_at : (m v : ℕ) → ◌≡◌ {A = ℕ} (get_or (replicate m 0) v 0) 0
zero_at zero v = refl
zero_at (suc m) zero = refl
zero_at (suc m) (suc v) = zero_at m v

-- a cleared array of 512 words and one for each name
pub clear-zeros : (n k : ℕ) → 512 + n ≤ k → Clear n (replicate k 0)
clear-zeros n k h = record { long = omega (arith, length-replicate {A = ℕ} k 0); clear = λ v. zero_at k (512 + v) }

pub said-most : (ws : List ℕ) → names_said ws ≤ 4096
unfolding names_said
said-most ws = go (leb (value_of (get_or ws 1 0)) 4096) refl
  where
    go : (b : Bool) → leb (value_of (get_or ws 1 0)) 4096 ≡ b → pick b (value_of (get_or ws 1 0)) 0 ≤ 4096
    go true e = leb-true (value_of (get_or ws 1 0)) 4096 e
    go false e = omega arith

-- N that was read is as word 1 says it
names-said : (ws : List ℕ) {x : Step} {v : ℕ} {k : Cursor} → x ≡ field_step 0 2 ws 1 → x ≡ on v k → names_said ws ≡ v
unfolding names_said words_by
names-said ws {v = v} e o =
    let t = there itself (field 0 2) ws 1 e o in
    let m = names-most 0 ws 1 e o in
    let g : get_or ws 1 0 ≡ word_of 2 t.value = sym (get_or-drop 1 ws 0 0) ∙ ap (λ (l : List ℕ). get_or l 0 0) t.stood in
    let w : value_of (get_or ws 1 0) ≡ v = omega (arith, g, t.kept) in
    rw (w, le-leb v 4096 m) refl

-- so there is room for as many names
pub clear-read : (len : ℕ) (ws : List ℕ) {at : ℕ} → at ≡ 0 → {x y : Step} {u v : ℕ} {k j : Cursor} → x ≡ skip_over (field len 1) ws at → x ≡ on u k → y ≡ field_step 0 2 ws k.at → y ≡ on v j → {d : List ℕ}
    → Clear (names_said ws) d → Clear v d
unfolding words_by
clear-read len ws {at} z {y = y} {k = k} e₁ o₁ e₂ o₂ {d} c =
    let a : k.at ≡ 1 = omega (arith, z, (there (λ v. 0) (field len 1) ws at e₁ o₁).on) in
    let f : y ≡ field_step 0 2 ws 1 = e₂ ∙ ap (λ (i : ℕ). field_step 0 2 ws i) a in
    subst (λ (m : ℕ). Clear m d) (names-said ws f o₂) c

module _ {ws d e : List ℕ} {d' e' : List ℕ} where
  -- of a refusal nothing is to be shown but the answer
  pub checked_no : {w : Refusal} {r : Laid} → r ≡ Err w → Err w ≡ check_answer ws → CheckedNotes ws d e r d' e'
  unfolding check_answer
  checked_no {w} {r} q a =
      record { answers = ap answer_in q ∙ a; lays = λ p h. absurd (never p h); enters = λ p h. absurd (never p h); notes = λ p h. absurd (never p h) }
    where
      clash : answer (read ws) (λ p. gives 1 0) ≡ gives 1 0 → ◌≡◌ {A = ℕ} 0 1
      clash b = cc (a, b)

      never : (p : Pack) → read ws ≡ yes p → ⊥
      never p h = let z : ◌≡◌ {A = ℕ} 0 1 = clash (ap (λ (r : Reading). answer r (λ p. gives 1 0)) h) in omega arith

  module _ (lo : 6 ≤ length ws) (hi : length ws ≤ 8192) where
    pub checked_refused : {r : Laid} → LaidWhole (length ws) ws d e r d' e' → {w : Refusal} → r ≡ Err w → CheckedNotes ws d e r d' e'
    checked_refused l q = checked_no q (check_refused ws lo hi l.answers (ap step_in q))

    pub checked-yes : {r : Laid} → LaidWhole (length ws) ws d e r d' e' → {l : Layout} → r ≡ Ok l → length ws ≤ l.end → CheckedNotes ws d e (Ok l) d' e'
    unfolding read
    checked-yes {r} w {l} q h =
        let s : on 0 (record { at = l.end }) ≡ skip_over (layout undated (length ws)) ws 0 = sym (ap step_in q) ∙ w.answers in
        let t = there (λ a. 0) (layout undated (length ws)) ws 0 s refl in
        let n : l.end ≡ length ws = omega (arith, within (λ a. 0) (layout undated (length ws)) ws 0 s refl (whole_long (length ws))) in
        let f : read ws ≡ yes (of_row undated t.value.1) = simp (le-leb 6 (length ws) lo, le-leb (length ws) 8192 hi, t.found, drop_of_length-le ws h) in
        let itself : (p : Pack) → read ws ≡ yes p → of_row undated t.value.1 ≡ p = λ p k. cc (f, k) in
        let laid : ℕ → Laid = λ x. Ok (layout_of t.value.1.0 2 x t.value.1.1 (get_or (relations_left t.value.1.0 2 t.value.1.1 e) 0 0) (get_or (notes_left t.value.1.0 2 t.value.1.1 e) 0 0)) in
        record {
          answers = check_yes ws lo hi s refl h;
          lays = λ p k. subst (λ (p : Pack). ◌≡◌ {A = Laid} (Ok l) (Ok (layout_of p.names 2 (length ws) (to_row p).1 (get_or (relations_left p.names 2 (to_row p).1 e) 0 0) (get_or (notes_left p.names 2 (to_row p).1 e) 0 0)))) (itself p k)
              (sym q ∙ w.lays t.value l.end (drop l.end ws) t.found
              ∙ ap laid n);
          enters = λ p k. subst (λ (p : Pack). d' ≡ directory_of p.names 2 (to_row p).1 d) (itself p k) (w.enters t.value l.end (drop l.end ws) t.found);
          notes = λ p k. subst (λ (p : Pack). e' ≡ notes_left p.names 2 (to_row p).1 e) (itself p k) (w.notes t.value l.end (drop l.end ws) t.found);
        }

  pub without_notes : {r : Laid} → CheckedNotes ws d e r d' e' → DirectoryChecked ws d r d'
  without_notes c = record { answers = c.answers; lays = λ p h. (_, _, c.lays p h); enters = c.enters }

-- the total and the number of names, and then the records
module _ (len : ℕ) (ws d e : List ℕ) {d' e' : List ℕ} where
  pub whole_no : {w : Refusal} {r : Laid} → Err w ≡ skip_over (layout undated len) ws 0 → r ≡ Err w → LaidWhole len ws d e r d' e'
  unfolding step_of
  whole_no {w} {r} y q =
      let no = step_no (λ a. 0) (read_by (layout undated len) 0 ws) (sym y) in
      record { answers = ap step_in q ∙ y; lays = λ t next rest h. absurd (clash (sym no ∙ h)); enters = λ t next rest h. absurd (clash (sym no ∙ h)); notes = λ t next rest h. absurd (clash (sym no ∙ h)) }

  pub whole_on : {at : ℕ} → at ≡ 0 → {x y : Step} {v n : ℕ} {k j : Cursor} → x ≡ skip_over (field len 1) ws at → x ≡ on v k → y ≡ field_step 0 2 ws k.at → y ≡ on n j → {r : Laid}
      → LaidOut n ws j.at d e r d' e' → LaidWhole len ws d e r d' e'
  unfolding layout inner read_by step_of words_by
  whole_on {at} z {x = x} {v = v} {n = n} {k = k} {j = j} e₁ o₁ e₂ o₂ {r} l =
      record {
        answers = by_then (λ v. 0) (field len 1) ws 0 s (λ _. inner undated) (λ t. 0) o₁ (λ _. by_value (field 0 2) (λ n. records undated n) (λ t. 0) ws k.at e₂ o₂ l.answers);
        lays = λ t next rest h. (let u = apart t next rest h in rw (← m, ← u.2) (l.lays u.0 next rest u.1));
        enters = λ t next rest h. (let u = apart t next rest h in rw (← m, ← u.2) (l.enters u.0 next rest u.1));
        notes = λ t next rest h. (let u = apart t next rest h in rw (← m, ← u.2) (l.notes u.0 next rest u.1));
      }
    where
      s : x ≡ skip_over (field len 1) ws 0
      s = from_start (field len 1) ws z e₁

      a : There (λ v. 0) (field len 1) ws 0 v k
      a = there (λ v. 0) (field len 1) ws 0 s o₁

      b : There itself (field 0 2) ws k.at n j
      b = there itself (field 0 2) ws k.at e₂ o₂

      m : j.at ≡ 2
      m = omega (arith, a.on, b.on)

      apart : (t : ℕ × (ℕ × RecordsRow)) (next : ℕ) (rest : List ℕ) → read_by (layout undated len) 0 ws ≡ got t next rest
          → (c : RecordsRow) × (read_by (records undated n) j.at (drop j.at ws) ≡ got c next rest) × (◌≡◌ {A = ℕ × (ℕ × RecordsRow)} (a.value, (n, c)) t)
      apart t next rest h =
          let f : read_by (field 0 2) k.at (drop k.at ws) ≡ got n j.at (drop j.at ws) = (went_same (field 0 2) ws k.at e₂ o₂).0 in
          let R : Read RecordsRow = read_by (records undated n) j.at (drop j.at ws) in
          let g : map_read (λ (c : ℕ × RecordsRow). (a.value, c)) (map_read (λ (c : RecordsRow). (n, c)) R) ≡ got t next rest = rw f at (rw a.found at h) in
          let u = map-got (λ (c : ℕ × RecordsRow). (a.value, c)) (map_read (λ (c : RecordsRow). (n, c)) R) g in
          let w = map-got (λ (c : RecordsRow). (n, c)) R u.1 in
          (w.0, w.1, ap (λ (c : ℕ × RecordsRow). (a.value, c)) w.2 ∙ u.2)
