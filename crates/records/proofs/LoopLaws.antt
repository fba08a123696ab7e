-- The law of counted loops: a count is read, and then as many elements, of which the first refusal is handed on. Each element moves
-- a state on and may be noted; a loop without a state has the unit, and so has one that notes nothing.
use Rattle.std.specs.Result.{IsErrAnd}
use Rattle.std.specs.Prelude.{Err}
use Prim.Native.Nat.{ℕ, suc, ◌+◌, ◌-◌, ◌≤◌, ◌<◌}
use native.Mathlib.Omega.{arith}
use mathlib.Core.Path.{◌≡◌, refl, ap, sym, ◌∙◌, subst}
use mathlib.Core.List.{List, [], ◌∷◌}
use lib.ListN.{length, drop}
use Rattle.definitions.specs.declared.answer.Refusal.{Refusal}
use Rattle.pack.specs.declared.cursor.Cursor.{Cursor}
use Rattle.pack.specs.Readers.{Step}
use Rattle.pack.specs.Readers.{on}
use Rattle.definitions.specs.declared.table.Values.TheVariants.{FromOne}
use Rattle.definitions.specs.Table.{word_of, entry_of}
use Rattle.definitions.specs.Form.{Read, got, read_field, read_all, Holder, list, count, says, whole, Suits, Form, field, counted_from, one_and_more, words_by, read_by}
use Rattle.pack.specs.Readers.{step_of, itself, field_step, skip_all}
use Rattle.pack.proofs.FormLaws.{map-got}
use Rattle.pack.proofs.StepLaws.{went_same, last-stop, counted_stop, by_left, by-more, all-stop, all_done, pred_of, step_map}
use Rattle.records.specs.Directory.{Noted, notes_all}
use Rattle.records.proofs.KeptLaws.{There, there, kept_last, noted_err, noted-there}

-- nothing is noted
abbrev pub nothing : {A : Type 0} → ℕ → ℕ → A → Unit {0} → Unit {0}
nothing i at a d = tt

-- ---- the invariant

abbrev reads : {S A : Type 0} → (S → A → S) → (S → Form A) → List ℕ → ℕ → S → ℕ → Read (List A)
reads step F ws m s at = read_all step (λ u b vs. read_by (F u) b vs) m s at (drop at ws)

module _ {S A D : Type 0} (step : S → A → S) (F : S → Form A) (W : A → List ℕ) (same-words : (s : S) (a : A) → words_by (F s) a ≡ W a) (note : ℕ → ℕ → A → D → D) (ws : List ℕ) where
  -- `i` of `m₀` are read and `m` are left: whatever is read from the start on is read from here on, and its notes end alike
  pub record Left (m₀ : ℕ) (s₀ : S) (at₀ : ℕ) (d₀ : D) (m : ℕ) (s : S) (at : ℕ) (d : D) : Type 0 where
    pub i : ℕ
    pub many : i + m ≡ m₀
    pub walks : skip_all step F m₀ s₀ ws at₀ ≡ skip_all step F m s ws at
    pub notes : (L : List A) (next : ℕ) (rest : List ℕ) → reads step F ws m₀ s₀ at₀ ≡ got L next rest
        → (l : List A) × (reads step F ws m s at ≡ got l next rest) × (notes_all W note 0 at₀ L d₀ ≡ notes_all W note i at l d)

-- without a state
abbrev pub LeftOf : {A D : Type 0} → Form A → (ℕ → ℕ → A → D → D) → List ℕ → ℕ → ℕ → D → ℕ → ℕ → D → Type 0
LeftOf F note ws m₀ at₀ d₀ m at d = Left {S = Unit {0}} (λ u a. u) (λ u. F) (words_by F) (λ u a. refl) note ws m₀ tt at₀ d₀ m tt at d

module _ {S A D : Type 0} {step : S → A → S} {F : S → Form A} {W : A → List ℕ} {same-words : (s : S) (a : A) → words_by (F s) a ≡ W a} {note : ℕ → ℕ → A → D → D} {ws : List ℕ} where
  -- the start
  pub left_all : {m : ℕ} {s : S} {at : ℕ} {d : D} → Left step F W same-words note ws m s at d m s at d
  left_all = record { i = 0; many = omega arith; walks = refl; notes = λ L next rest h. (L, h, refl) }

  module _ {m₀ : ℕ} {s₀ : S} {at₀ : ℕ} {d₀ : D} {m : ℕ} {s : S} {at : ℕ} {d : D} (left : Left step F W same-words note ws m₀ s₀ at₀ d₀ m s at d) where
    -- a turn: the number that is kept tells the next state
    pub left_turn : 0 < m → {f : A → ℕ} {y : Step} {d' : D} → Noted f (F s) (note left.i at) ws at d y d' → {v : ℕ} {k : Cursor} → y ≡ on v k → {s' : S} → ((a : A) → f a ≡ v → step s a ≡ s')
        → Left step F W same-words note ws m₀ s₀ at₀ d₀ (m - 1) s' k.at d'
    unfolding notes_all skip_all
    left_turn h {f} {y} {d'} n {v} {k} o {s'} q =
        record {
          i = left.i + 1;
          many = omega (arith, left.many);
          walks = left.walks ∙ ap (λ (c : ℕ). skip_all step F c s ws at) (pred_of m h) ∙ past (noted-there n o).0;
          notes = λ L next rest e. (let b = left.notes L next rest e in go L b.0 next rest (ap (λ (c : ℕ). reads step F ws c s at) (sym (pred_of m h)) ∙ b.1) b.2);
        }
      where
        past : (t : There f (F s) ws at v k) → skip_all step F (suc (m - 1)) s ws at ≡ skip_all step F (m - 1) s' ws k.at
        past t =
            rw t.found (step_map (λ l. 0) (λ l. t.value ∷ l) (read_all step (λ u b vs. read_by (F u) b vs) (m - 1) (step s t.value) k.at (drop k.at ws)))
            ∙ ap (λ (u : S). skip_all step F (m - 1) u ws k.at) (q t.value t.kept)

        go : (L l : List A) (next : ℕ) (rest : List ℕ) → reads step F ws (suc (m - 1)) s at ≡ got l next rest → notes_all W note 0 at₀ L d₀ ≡ notes_all W note left.i at l d
            → (l' : List A) × (reads step F ws (m - 1) s' k.at ≡ got l' next rest) × (notes_all W note 0 at₀ L d₀ ≡ notes_all W note (left.i + 1) k.at l' d')
        go L l next rest r z =
            let p = noted-there n o in
            let t = p.0 in
            let u = map-got (λ (l : List A). t.value ∷ l) (read_all step (λ u b vs. read_by (F u) b vs) (m - 1) (step s t.value) k.at (drop k.at ws)) (rw t.found at r) in
            let a : k.at ≡ at + length (W t.value) = t.on ∙ ap (λ (w : List ℕ). at + length w) (same-words s t.value) in
            let c : step s t.value ≡ s' = q t.value t.kept in (
              u.0,
              subst (λ (s : S). reads step F ws (m - 1) s k.at ≡ got u.0 next rest) c u.1,
              z
                  ∙ ap (λ (x : List A). notes_all W note left.i at x d) (sym u.2)
                  ∙ ap (λ (x : ℕ). notes_all W note (left.i + 1) x u.0 (note left.i at t.value d)) (sym a)
                  ∙ ap (λ (x : D). notes_all W note (left.i + 1) k.at u.0 x) (sym p.1),
            )

    -- a refusal in a turn
    left_stop : 0 < m → (f : A → ℕ) {y : Step} → y ≡ step_of f (F s) ws at → {r : Refusal} → y ≡ Err r → y ≡ skip_all step F m₀ s₀ ws at₀
    left_stop h f e o = all-stop step F s ws at m h f e o ∙ sym left.walks

    -- the end
    left_done : m ≤ 0 → on 0 (record { at = at }) ≡ skip_all step F m₀ s₀ ws at₀
    left_done h = all_done step F s ws at m h ∙ sym left.walks

    left_none : m ≤ 0 → (L : List A) (next : ℕ) (rest : List ℕ) → reads step F ws m₀ s₀ at₀ ≡ got L next rest → d ≡ notes_all W note 0 at₀ L d₀
    unfolding notes_all
    left_none h L next rest e =
        let b = left.notes L next rest e in
        let z : m ≡ 0 = omega arith in
        let n : reads step F ws 0 s at ≡ got b.0 next rest = ap (λ (c : ℕ). reads step F ws c s at) (sym z) ∙ b.1 in
        let y : [] ≡ b.0 = cc (n) in
        sym (b.2 ∙ rw (← y) refl)

-- ---- a count, and as many of them: stated for `search`

module _ {S A C : Type 0} (H : Holder A C) (n kind : ℕ) (suits : Suits H (entry_of kind).values) (step : S → A → S) (F : S → Form A) (s : S) (g : C → ℕ) (ws : List ℕ) (at : ℕ) {y : Step} where
  -- the count refused
  pub count-refused : y ≡ field_step n kind ws at → {r : Refusal} → y ≡ Err r → y ≡ step_of g (counted_from H n kind suits step F s) ws at
  count-refused e o = last-stop (λ c. 0) (counted_from H n kind suits step F s) ws at (counted_stop H n kind suits step F s ws at e o) g o

  module _ {D : Type 0} {W : A → List ℕ} {same-words : (s : S) (a : A) → words_by (F s) a ≡ W a} {note : ℕ → ℕ → A → D → D} {v : ℕ} {k : Cursor} {m₀ m : ℕ} {u : S} {j : Cursor} {d₀ d : D} (left : Left step F W same-words note ws m₀ s k.at d₀ m u j.at d) (e : y ≡ field_step n kind ws at) (o : y ≡ on v k) (q : m₀ ≡ says H v) where
    -- an element refused
    pub turn-refused : 0 < m → (f : A → ℕ) {x : Step} → x ≡ step_of f (F u) ws j.at → {r : Refusal} → x ≡ Err r → x ≡ step_of g (counted_from H n kind suits step F s) ws at
    turn-refused h f i p = last-stop (λ c. 0) (counted_from H n kind suits step F s) ws at (by_left H n kind suits step F s ws at e o q (left_stop left h f i p)) g p

    -- all read: what is kept goes by the count
    pub all_read : m ≤ 0 → {w : ℕ} → ((c : C) → count H c ≡ v → g c ≡ w) → on w j ≡ step_of g (counted_from H n kind suits step F s) ws at
    unfolding words_by
    all_read h z =
        kept_last (λ c. 0) (counted_from H n kind suits step F s) ws at (by_left H n kind suits step F s ws at e o q (left_done left h)) refl g
        (λ t.
        let b = there itself (field n kind) ws at e o in
        let x : word_of kind (count H t.value) ≡ word_of kind b.value = cc (t.stood, b.stood) in
        z t.value (omega (arith, x, b.kept)))

-- the same of a list that is noted
module _ {S A D : Type 0} {n kind : ℕ} {suits : Suits {A = A} list (entry_of kind).values} {step : S → A → S} {F : S → Form A} {W : A → List ℕ} {same-words : (s : S) (a : A) → words_by (F s) a ≡ W a} {note : ℕ → ℕ → A → D → D} {s : S} {ws : List ℕ} {at : ℕ} {d : D} where
  pub noted-all : {y : Step} → y ≡ field_step n kind ws at → {v : ℕ} {k : Cursor} → y ≡ on v k → {m : ℕ} {u : S} {j : Cursor} {d' : D} → Left step F W same-words note ws v s k.at d m u j.at d' → m ≤ 0
      → Noted (count list) (counted_from list n kind suits step F s) (notes_all W note 0 (at + 1)) ws at d (on v j) d'
  unfolding read_by says whole words_by
  noted-all e {v} {k} o l h =
      record {
        answers = all_read list n kind suits step F s (count list) ws at l e o refl h (λ c z. z);
        notes = λ L next rest r.
            (let c : read_field n kind at (drop at ws) ≡ got v k.at (drop k.at ws) = (went_same (field n kind) ws at e o).0 in
            let w = map-got (λ (l : List A). l) (reads step F ws v s k.at) (rw c at r) in
            let a : k.at ≡ at + 1 = (there itself (field n kind) ws at e o).on in
            left_none l h w.0 next rest w.1 ∙ rw (w.2, a) refl);
      }

-- ---- a count, one, and as many more

module _ {A B D : Type 0} {n kind most : ℕ} {rule : (entry_of kind).values ≡ FromOne most} {F : Form A} {G : Form B} {note : ℕ → ℕ → B → D → D} {ws : List ℕ} {at : ℕ} {y : Step} {v : ℕ} {k : Cursor} {d : D} {x : Step} {d₁ : D} {u : ℕ} {j : Cursor} {m : ℕ} {c : Cursor} {d' : D} where
  -- all read
  pub noted_more : (first : ℕ → A → D → D) → y ≡ field_step n kind ws at → y ≡ on v k → Noted (λ a. 0) F (first k.at) ws k.at d x d₁ → x ≡ on u j → LeftOf G note ws (v - 1) j.at d₁ m c.at d' → m ≤ 0
      → Noted (λ t. 0) (one_and_more n kind most rule F G) (λ t d. notes_all (words_by G) note 0 (at + 1 + length (words_by F t.0)) t.1 (first (at + 1) t.0 d)) ws at d (on 0 c) d'
  unfolding read_by words_by
  noted_more first e o h p left z =
      let a = noted-there h p in
      let t = a.0 in
      let q : read_field n kind at (drop at ws) ≡ got v k.at (drop k.at ws) = (went_same (field n kind) ws at e o).0 in
      let on : k.at ≡ at + 1 = (there itself (field n kind) ws at e o).on in
      record {
        answers = by-more n kind most rule F G ws at e o (λ a. 0) h.answers p (left_done left z);
        notes = λ w next rest r.
            (let s = map-got (λ (l : List B). (t.value, l)) (reads {S = Unit {0}} (λ u b. u) (λ u. G) ws (v - 1) tt j.at) (rw (q, t.found) at r) in
            left_none left z s.0 next rest s.1
            ∙ alike s.0 (t.on ∙ ap (λ (x : ℕ). x + length (words_by F t.value)) on) (a.1 ∙ ap (λ (x : ℕ). first x t.value d) on)
            ∙ ap (λ (x : A × List B). notes_all (words_by G) note 0 (at + 1 + length (words_by F x.0)) x.1 (first (at + 1) x.0 d)) s.2);
      }
    where
      alike : (l : List B) {a b : ℕ} {x z : D} → a ≡ b → x ≡ z → notes_all (words_by G) note 0 a l x ≡ notes_all (words_by G) note 0 b l z
      alike l p q = λ i. notes_all (words_by G) note 0 (p i) l (q i)

-- ---- the same in a `for` whose counter goes up to an end, after a `?`

module _ {S A D : Type 0} {step : S → A → S} {F : S → Form A} {W : A → List ℕ} {same-words : (s : S) (a : A) → words_by (F s) a ≡ W a} {note : ℕ → ℕ → A → D → D} {ws : List ℕ} where
  pub left_start : {m : ℕ} {s : S} {at : ℕ} {d : D} → Left step F W same-words note ws m s at d (m - 0) s at d
  left_start {m} {s} {at} {d} = let e : m ≡ m - 0 = omega arith in subst (λ (i : ℕ). Left step F W same-words note ws m s at d i s at d) e left_all

  pub left_next : {m₀ : ℕ} {s₀ : S} {at₀ : ℕ} {d₀ : D} {end i : ℕ} {s : S} {at : ℕ} {d : D} (left : Left step F W same-words note ws m₀ s₀ at₀ d₀ (end - i) s at d) → i < end
      → {f : A → ℕ} {d' : D} {v : ℕ} {k : Cursor} → Noted f (F s) (note left.i at) ws at d (on v k) d' → {s' : S} → ((a : A) → f a ≡ v → step s a ≡ s')
      → Left step F W same-words note ws m₀ s₀ at₀ d₀ (end - (i + 1)) s' k.at d'
  left_next {m₀} {s₀} {at₀} {d₀} {end} {i} left h {f} {d'} {v} {k} n {s'} q =
      let e : end - i - 1 ≡ end - (i + 1) = omega arith in
      subst (λ (m : ℕ). Left step F W same-words note ws m₀ s₀ at₀ d₀ m s' k.at d') e (left_turn left (omega arith) n refl q)

-- of a loop that notes nothing
pub read_next : {S A : Type 0} {step : S → A → S} {F : S → Form A} {W : A → List ℕ} {same-words : (s : S) (a : A) → words_by (F s) a ≡ W a} {ws : List ℕ} {m₀ : ℕ} {s₀ : S} {at₀ end i : ℕ} {s : S} {at : ℕ}
    → Left step F W same-words nothing ws m₀ s₀ at₀ tt (end - i) s at tt → i < end → (f : A → ℕ) {v : ℕ} {k : Cursor} → on v k ≡ step_of f (F s) ws at
    → {s' : S} → ((a : A) → f a ≡ v → step s a ≡ s') → Left step F W same-words nothing ws m₀ s₀ at₀ tt (end - (i + 1)) s' k.at tt
read_next left h f e q = left_next left h (record { answers = e; notes = λ a next rest r. refl }) q

module _ {S A C : Type 0} (H : Holder A C) (n kind : ℕ) (suits : Suits H (entry_of kind).values) (step : S → A → S) (F : S → Form A) (s : S) (g : C → ℕ) (ws : List ℕ) (at : ℕ) where
  -- the count refused
  pub count_err : {r : Refusal} → Err r ≡ field_step n kind ws at → Err r ≡ step_of g (counted_from H n kind suits step F s) ws at
  count_err e = count-refused H n kind suits step F s g ws at e refl

  module _ {D : Type 0} {W : A → List ℕ} {same-words : (s : S) (a : A) → words_by (F s) a ≡ W a} {note : ℕ → ℕ → A → D → D} {v : ℕ} {k : Cursor} {m₀ end i : ℕ} {u : S} {j : Cursor} {d₀ d : D} (left : Left step F W same-words note ws m₀ s k.at d₀ (end - i) u j.at d) (e : on v k ≡ field_step n kind ws at) (q : m₀ ≡ says H v) where
    -- an element refused
    pub turn_err : i < end → (f : A → ℕ) {r : Refusal} → Err r ≡ step_of f (F u) ws j.at → Err r ≡ step_of g (counted_from H n kind suits step F s) ws at
    turn_err h f p = turn-refused H n kind suits step F s g ws at left e refl q (omega arith) f p refl

    -- all read
    pub all_ok : end ≤ i → {w : ℕ} → ((c : C) → count H c ≡ v → g c ≡ w) → on w j ≡ step_of g (counted_from H n kind suits step F s) ws at
    all_ok h z = all_read H n kind suits step F s g ws at left e refl q (omega arith) z

-- a later one of a count, one and as many more refused
pub more_err : {A B D : Type 0} {n kind most : ℕ} {rule : (entry_of kind).values ≡ FromOne most} {F : Form A} {G : Form B} {note : ℕ → ℕ → B → D → D} {ws : List ℕ} {at : ℕ} {y : Step} {v : ℕ} {k : Cursor} {d : D} {x : Step} {d₁ : D} {u : ℕ} {j : Cursor} {m : ℕ} {c : Cursor} {d' : D}
    → y ≡ field_step n kind ws at → y ≡ on v k → {f₁ : A → ℕ} {first : A → D → D} → Noted f₁ F first ws k.at d x d₁ → x ≡ on u j → LeftOf G note ws (v - 1) j.at d₁ m c.at d' → 0 < m
    → {f : B → ℕ} {here : B → D → D} {r : Refusal} {e : D} → Noted f G here ws c.at d' (Err r) e
    → {E : Type 0} {all : A × List B → E → E} {a b : E} {z : Step} → IsErrAnd z (λ w. w ≡ r) → Noted (λ t. 0) (one_and_more n kind most rule F G) all ws at a z b
more_err {n = n} {kind} {most} {rule} {F} {G} {ws = ws} {at = at} e o {f₁} h p left l {f} i q = noted_err (by-more n kind most rule F G ws at e o f₁ h.answers p (left_stop left l f i.answers refl)) q
