-- Laws of what was read and noted: a row of trees, a node, what follows a head word.
use Prim.Native.Nat.{ℕ, zero, suc, ◌+◌, ◌-◌, ◌%◌, ◌≤◌, ◌<◌}
use native.Mathlib.Omega.{arith}
use mathlib.Core.Path.{◌≡◌, refl, ap, sym, ◌∙◌, subst}
use mathlib.Core.List.{List, [], ◌∷◌}
use mathlib.Core.Bool.{Bool, true, false, ◌&&◌}
use lib.Dec.{ltb}
use lib.ListN.{length, drop, get_or, replicate}
use native.Mathlib.Nat.{add-zero}
use Rattle.definitions.specs.declared.table.Follows.{Follows}
use Rattle.definitions.specs.declared.table.Follows.TheVariants.{Aggregate, Exists}
use Rattle.pack.specs.Readers.{on}
use Rattle.definitions.specs.Table.{pick, kind_of, value_of, entry_of, table, fields_of, children_of, how_many, judgment}
use Rattle.definitions.specs.Form.{Read, got, refused, map_read, Form, word, each, ◌▹◌, via, only, words_by, Fine, read_by}
use Rattle.definitions.specs.Tree.{Tree, heads, last_field, fields, follow, tree}
use Rattle.definitions.specs.TreeRows.{to_forest, to_tree}
use Rattle.pack.specs.declared.cursor.Cursor.{Cursor}
use Rattle.pack.specs.Readers.{Step, step_of, skip_over}
use Rattle.pack.proofs.FormLaws.{lawful, clash}
use Rattle.pack.proofs.StepLaws.{went, each-done, on_place}
use Rattle.pack.proofs.Listed.{in_range}
use Rattle.pack.proofs.EachFollows.{alike}
use Rattle.reading.specs.Notes.{look_by, noted}
use Rattle.reading.specs.Noting.{losing, push, in_next, past, child_in, note_tree, note_forest, note_follow, State, Came, NotedStep, Sorted, Rows, Shape}
use Rattle.reading.proofs.TreeLaws.{no_fields, only-fields, Row, by_row, Leaf, by_leaf}
use Rattle.reading.proofs.WalkLaws.{Stands, Fielded}

-- ---- what was read

module _ (ws : List ℕ) where
  found_then : {A B : Type 0} (F : Form A) (G : A → Form B) (at k r : ℕ) {a : A} {b : B} → read_by F at (drop at ws) ≡ got a k (drop k ws)
      → read_by (G a) k (drop k ws) ≡ got b r (drop r ws) → read_by (F ▹ G) at (drop at ws) ≡ got (a, b) r (drop r ws)
  unfolding read_by
  found_then F G at k r e h = rw e (rw h refl)

  found-each : {X A : Type 0} (F : X → Form A) (x : X) (xs : List X) (at k r : ℕ) {a : A} {l : List A} → read_by (F x) at (drop at ws) ≡ got a k (drop k ws)
      → read_by (each F xs) k (drop k ws) ≡ got l r (drop r ws) → read_by (each F (x ∷ xs)) at (drop at ws) ≡ got (a ∷ l) r (drop r ws)
  unfolding read_by
  found-each F x xs at k r e h = rw e (rw h refl)

  found-via : {A B : Type 0} (to : A → B) (from : B → A) (tf : (b : B) → to (from b) ≡ b) (ft : (a : A) → from (to a) ≡ a) (F : Form A) (at r : ℕ) {a : A}
      → read_by F at (drop at ws) ≡ got a r (drop r ws) → read_by (via to from tf ft F) at (drop at ws) ≡ got (to a) r (drop r ws)
  unfolding read_by
  found-via to from tf ft F at r e = ap (map_read to) e

  found_none : {X A : Type 0} (F : X → Form A) (at : ℕ) → read_by (each F []) at (drop at ws) ≡ got [] at (drop at ws)
  unfolding read_by
  found_none F at = refl

-- ---- rows

module _ (n left : ℕ) (ws : List ℕ) where
  abbrev pub Rowed : ℕ → ℕ → List ℕ → ℕ → List ℕ → ℕ → List ℕ → Type 0
  Rowed a b sorts at d r e = Came (each (tree n left) sorts) (λ l. note_forest a b (to_forest l)) ws at d r e

  abbrev pub Treed : ℕ → ℕ → ℕ → List ℕ → ℕ → List ℕ → Type 0
  Treed a sort at d r e = Came (tree n left sort) (λ t. note_tree a t) ws at d r e

  pub rowed_none : (a b at : ℕ) (d : List ℕ) → Rowed a b [] at d at d
  unfolding note_forest
  rowed_none a b at d = record { value = []; found = found_none ws (tree n left) at; noted = refl }

  pub rowed_end : (a b sort at m : ℕ) (d : List ℕ) → m ≤ 0 → Rowed a b (replicate m sort) at d at d
  rowed_end a b sort at m d h = let z : m ≡ 0 = omega arith in rw z (rowed_none a b at d)

  pub rowed_next : (a b sort : ℕ) (sorts : List ℕ) {at k r : ℕ} {d d₁ e : List ℕ} → Treed a sort at d k d₁ → Rowed b b sorts k d₁ r e → Rowed a b (sort ∷ sorts) at d r e
  unfolding note_forest
  rowed_next a b sort sorts t c =
      record {
        value = t.value ∷ c.value;
        found = found-each ws (tree n left) sort sorts _ _ _ t.found c.found;
        noted = ap (note_forest b b (to_forest c.value)) t.noted ∙ c.noted;
      }

  pub rowed_turn : (a b sort m : ℕ) → 0 < m → {at k r : ℕ} {d d₁ e : List ℕ} → Treed a sort at d k d₁ → Rowed b b (replicate (m - 1) sort) k d₁ r e
      → Rowed a b (replicate m sort) at d r e
  rowed_turn a b sort m h {at} {k} {r} {d} {d₁} {e} t c =
      let z : m ≡ suc (m - 1) = omega arith in
      subst (λ (i : ℕ). Rowed a b (replicate i sort) at d r e) (sym z) (rowed_next a b sort (replicate (m - 1) sort) t c)

  -- a row of one
  pub rowed_one : (a b sort : ℕ) {at r : ℕ} {d e : List ℕ} → Rowed a b (replicate 1 sort) at d r e → Treed a sort at d r e
  unfolding read_by note_forest
  rowed_one a b sort {at} {r} {d} {e} c = go (read_by (tree n left sort) at (drop at ws)) refl c.value c.found c.noted
    where
      go : (m : Read Tree) → read_by (tree n left sort) at (drop at ws) ≡ m → (l : List Tree) → read_by (each (tree n left) (sort ∷ [])) at (drop at ws) ≡ got l r (drop r ws)
          → note_forest a b (to_forest l) (at, d) ≡ (r, e) → Treed a sort at d r e
      go (got t k rest) h l q z =
          let p : got (t ∷ []) k rest ≡ got l r (drop r ws) = sym (rw h refl) ∙ q in
          let u : t ∷ [] ≡ l = cc in
          let v : got t k rest ≡ got t r (drop r ws) = cc in
          record { value = t; found = h ∙ v; noted = rw (← u) at z }
      go (refused x) h l q z = let p : refused x ≡ got l r (drop r ws) = sym (rw h refl) ∙ q in absurd (clash p)

-- ---- a node

abbrev pub Followed : ℕ → List ℕ → ℕ → ℕ → ℕ → ℕ → ℕ → List ℕ → ℕ → List ℕ → Type 0
Followed n ws left c k v b d r e = Came (follow n (tree n left) (entry_of k).follows v) (λ p. note_follow c (noted k) (entry_of k).follows (to_forest p.1)) ws b d r e

module _ (n sort : ℕ) (ws : List ℕ) (at : ℕ) where
  treed_suc : (m : ℕ) {x : ℕ} → Stands (heads sort (suc m)) n ws at x → (c : ℕ) {r : ℕ} {d e : List ℕ}
      → Followed n ws m c (kind_of (get_or ws at 0)) (value_of (get_or ws at 0)) (at + 1) d r e → Treed n (suc m) ws c sort at d r e
  unfolding tree note_tree note_follow
  treed_suc m {x} s c {r} {d} {e} f =
      let w : ℕ × ℕ = (kind_of (get_or ws at 0), value_of (get_or ws at 0)) in
      let h = subst (λ (y : ℕ). read_by (word (heads sort (suc m)) n) at (drop at ws) ≡ got w y (drop y ws)) s.on s.found in
      record {
        value = to_tree (w, f.value);
        found = found-via ws to_tree _ _ _ _ at r (found_then ws (word (heads sort (suc m)) n) _ at (at + 1) r h f.found);
        noted = f.noted;
      }

  pub treed : (left : ℕ) {x : ℕ} → Stands (heads sort left) n ws at x → 1 ≤ left → (c : ℕ) {r : ℕ} {d e : List ℕ}
      → Followed n ws (left - 1) c (kind_of (get_or ws at 0)) (value_of (get_or ws at 0)) (at + 1) d r e → Treed n left ws c sort at d r e
  treed zero s h c f = absurd (omega arith)
  treed (suc m) s h c {r} {d} {e} f =
      let z : suc m - 1 ≡ m = omega arith in
      treed_suc m s c (subst (λ (i : ℕ). Followed n ws i c (kind_of (get_or ws at 0)) (value_of (get_or ws at 0)) (at + 1) d r e) z f)

-- ---- what follows a head word

-- inside a node without fields nothing stands
bare_shut : (w : Follows) → fields_of w ≡ [] → (look_by w).opens ≡ false
unfolding fields_of look_by
bare_shut w e = alike (λ w. (look_by w).opens) (λ w. ltb 0 (length (fields_of w)) && (look_by w).opens) refl w ∙ rw e refl

-- fields are as many words
long-each : (n : ℕ) (ks : List (List ℕ)) (l : List (ℕ × ℕ)) → Fine (fields n ks) l → length (words_by (fields n ks) l) ≡ length ks
unfolding fields words_by Fine
long-each n [] [] f = refl
long-each n [] (x ∷ l) f = absurd f
long-each n (k ∷ ks) [] f = absurd f
long-each n (k ∷ ks) (x ∷ l) f = ap suc (long-each n ks l f.1)

module _ (n left : ℕ) (ws : List ℕ) (b : Bool) (w : Follows) (v c at : ℕ) where
  abbrev Came-after : List ℕ → ℕ → List ℕ → Type 0
  Came-after d r e = Came (follow n (tree n left) w v) (λ p. note_follow c b w (to_forest p.1)) ws at d r e

  -- children and no fields
  pub bare_came : fields_of w ≡ [] → (sorts : List ℕ) → children_of w v 0 ≡ sorts → {r : ℕ} {d e : List ℕ}
      → Rowed n left ws (pick (look_by w).first (losing c) c) (pick (look_by w).rest (losing c) c) sorts at (pick b (push (at + c) d) d) r e → Came-after d r e
  unfolding follow fields note_follow past child_in
  bare_came f sorts q {r} {d} {e} h =
      let p = bare_shut w f in
      let g : read_by (fields n (fields_of w)) at (drop at ws) ≡ got [] at (drop at ws) = rw f (found_none ws (λ kinds. word (only kinds) n) at) in
      let k : read_by (each (tree n left) (children_of w v 0)) at (drop at ws) ≡ got h.value r (drop r ws) = rw q h.found in
      record { value = ([], h.value); found = found_then ws (fields n (fields_of w)) _ at at r g k; noted = rw (p, f, add-zero at) h.noted }

  -- fields and no children
  pub fields_came : ((last : ℕ) → children_of w v last ≡ []) → {y : Step} {u : ℕ} {k : Cursor} → y ≡ skip_over (fields n (fields_of w)) ws at → y ≡ on u k → (d : List ℕ) {e : List ℕ}
      → e ≡ pick b (push (at + c) d) d → Came-after d k.at e
  unfolding follow note_follow past note_forest
  fields_came ch {k = k} q h d {e} x =
      let t = went (λ a. 0) (fields n (fields_of w)) ws at q h in
      let o = ((lawful (fields n (fields_of w))).back at (drop at ws) t.value k.at (drop k.at ws) t.found).on in
      let z : at + length (fields_of w) ≡ k.at = omega (arith, o, long-each n (fields_of w) t.value t.fine) in
      record {
        value = (t.value, []);
        found = found_then ws (fields n (fields_of w)) _ at k.at k.at t.found (rw (ch (last_field t.value)) (found_none ws (tree n left) k.at));
        noted = λ i. (z i, sym x i);
      }

  -- fields, and then children
  pub after-fields : (d : List ℕ) {k r x : ℕ} {e : List ℕ} → on x (record { at = k }) ≡ step_of last_field (fields n (fields_of w)) ws at
      → Rowed n left ws (child_in w (look_by w).first c d) (child_in w (look_by w).rest c d) (children_of w v x) k (pick b (push (at + c) d) d) r e → Came-after d r e
  unfolding follow note_follow past
  after-fields d {k} {r} {x} {e} s h =
      let t = went last_field (fields n (fields_of w)) ws at s refl in
      let o = ((lawful (fields n (fields_of w))).back at (drop at ws) t.value k (drop k ws) t.found).on in
      let z : at + length (fields_of w) ≡ k = omega (arith, o, long-each n (fields_of w) t.value t.fine) in
      let a = child_in w (look_by w).first c d in
      let m = child_in w (look_by w).rest c d in
      record {
        value = (t.value, h.value);
        found = found_then ws (fields n (fields_of w)) _ at k r t.found (rw t.kept h.found);
        noted = (λ i. note_forest a m (to_forest h.value) (z i, pick b (push (at + c) d) d)) ∙ h.noted;
      }

module _ (n left : ℕ) (ws : List ℕ) (at : ℕ) where
  -- the fields of an aggregate, and its where tree
  pub where_came : {root : ℕ} → Fielded n ws at root → (c : ℕ) {r : ℕ} {e₀ e : List ℕ}
      → Rowed n left ws (in_next e₀ + c % 8192) (in_next e₀ + c % 8192) (replicate (value_of (get_or ws (at + 3) 0)) judgment) root (push (at + c) e₀) r e
      → Came (follow n (tree n left) Aggregate 0) (λ p. note_follow c true Aggregate (to_forest p.1)) ws at e₀ r e
  unfolding children_of child_in look_by
  where_came f c {e₀ = e₀} h = after-fields n left ws true Aggregate 0 c at e₀ f.last h

  -- the arguments of an Exists, and its body
  pub exists_came : {y : Step} {u : ℕ} {k : Cursor} → y ≡ skip_over (fields n (fields_of Exists)) ws at → y ≡ on u k → (c : ℕ) {r : ℕ} {d e : List ℕ}
      → Rowed n left ws c c (replicate 1 judgment) k.at (push (at + c) d) r e
      → Came (follow n (tree n left) Exists 0) (λ p. note_follow c true Exists (to_forest p.1)) ws at d r e
  unfolding children_of child_in look_by step_of
  exists_came {k = k} q o c {d = d} h =
      let t = went (λ a. 0) (fields n (fields_of Exists)) ws at q o in
      let s : on (last_field t.value) k ≡ step_of last_field (fields n (fields_of Exists)) ws at = sym (rw t.found refl) in
      after-fields n left ws true Exists 0 c at d s h

-- ---- by the kind

-- a kind that is not noted and hands its context on
pub record Steady (k : ℕ) : Type 0 where
  pub plain : noted k ≡ false
  pub first : (look_by (entry_of k).follows).first ≡ false
  pub rest : (look_by (entry_of k).follows).rest ≡ false

pub steady_scalar : (k : ℕ) → 66 ≤ k → k < 71 → Steady k
unfolding entry_of table look_by noted
steady_scalar k lo hi =
    record {
      plain = in_range noted false 66 5 refl k lo hi;
      first = in_range (λ k. (look_by (entry_of k).follows).first) false 66 5 refl k lo hi;
      rest = in_range (λ k. (look_by (entry_of k).follows).rest) false 66 5 refl k lo hi;
    }

pub steady_judgment : (k : ℕ) → 96 ≤ k → k < 101 → Steady k
unfolding entry_of table look_by noted
steady_judgment k lo hi =
    record {
      plain = in_range noted false 96 5 refl k lo hi;
      first = in_range (λ k. (look_by (entry_of k).follows).first) false 96 5 refl k lo hi;
      rest = in_range (λ k. (look_by (entry_of k).follows).rest) false 96 5 refl k lo hi;
    }

-- the kinds that are noted, and leaves that are not
pub noted-aggregate : (k : ℕ) → 74 ≤ k → k < 78 → noted k ≡ true
unfolding entry_of table look_by noted
noted-aggregate k lo hi = in_range noted true 74 4 refl k lo hi

pub plain-low : (k : ℕ) → k < 66 → noted k ≡ false
unfolding entry_of table look_by noted
plain-low k hi = in_range noted false 0 66 refl k (omega arith) hi

pub plain-between : (k : ℕ) → 78 < k → k < 96 → noted k ≡ false
unfolding entry_of table look_by noted
plain-between k lo hi = in_range noted false 79 17 refl k lo hi

pub plain-last : (k : ℕ) → 104 < k → k < 256 → noted k ≡ false
unfolding entry_of table look_by noted
plain-last k lo hi = in_range noted false 105 151 refl k lo hi

-- ---- what a reader of what follows promises, by what it has called

-- what was read and noted to a place
pub noted_to : {A : Type 0} (F : Form A) {note : A → State → State} {ws : List ℕ} {at : ℕ} {d : List ℕ} {p : ℕ} {e : List ℕ} → on 0 (record { at = p }) ≡ skip_over F ws at → Came F note ws at d p e
    → NotedStep F note ws at d (on 0 (record { at = p })) e
noted_to F {note} {ws} {at} {d} {p} {e} q h =
    record {
      answers = q;
      notes = λ {v} {k} o. let z : p ≡ k.at = ap (λ (j : Cursor). j.at) (on_place o) in subst (λ (j : ℕ). Came F note ws at d j e) z h;
    }

module _ (n left c : ℕ) (ws : List ℕ) (k v at : ℕ) where
  abbrev By_kind : List ℕ → Step → List ℕ → Type 0
  By_kind d r e = Shape n left (noted k) (entry_of k).follows v c ws at d r e

  pub by_shape : (b : Bool) (w : Follows) → (entry_of k).follows ≡ w → noted k ≡ b → {r : Step} {d e : List ℕ} → Shape n left b w v c ws at d r e → By_kind d r e
  by_shape b w q p {r} {d} {e} h =
      subst (λ (u : Follows). Shape n left (noted k) u v c ws at d r e) (sym q) (subst (λ (x : Bool). Shape n left x w v c ws at d r e) (sym p) h)

  -- a row of children of one sort
  pub row_followed : (sort : ℕ) {m : ℕ} → Row k v sort → m ≡ how_many (entry_of k).follows v → Steady k → {r : ℕ} {d e : List ℕ} → Rowed n left ws c c (replicate m sort) at d r e
      → Followed n ws left c k v at d r e
  row_followed sort {m} w q s {r} {d} {e} h =
      subst (λ (x : Bool). Came (follow n (tree n left) (entry_of k).follows v) (λ p. note_follow c x (entry_of k).follows (to_forest p.1)) ws at d r e) (sym s.plain)
      (bare_came n left ws false (entry_of k).follows v c at w.bare (replicate m sort) (w.children ∙ rw (← q) refl) (rw (s.first, s.rest) h))

  pub after_row : (sort : ℕ) {m : ℕ} → Row k v sort → m ≡ how_many (entry_of k).follows v → Steady k → {r : Step} {d e : List ℕ} → Rows n left sort m c ws at d r e → By_kind d r e
  after_row sort {m} w q s h = record { answers = h.answers ∙ by_row n (tree n left) v ws at k sort w q refl; notes = λ z. row_followed sort w q s (h.notes z) }

  -- children of several sorts or contexts
  pub after_bare : (w : Follows) → (entry_of k).follows ≡ w → noted k ≡ false → fields_of w ≡ [] → {r : Step} {d e : List ℕ}
      → Sorted n left (children_of w v 0) (pick (look_by w).first (losing c) c) (pick (look_by w).rest (losing c) c) ws at d r e → By_kind d r e
  after_bare w q p f h =
      by_shape false w q p
      record {
        answers = h.answers ∙ no_fields n (tree n left) v ws at w f refl;
        notes = λ z. bare_came n left ws false w v c at f (children_of w v 0) refl (h.notes z);
      }

  none_at : (a m : ℕ) {x e : List ℕ} → e ≡ x → Rowed n left ws a m [] at x at e
  none_at a m {x} {e} q = subst (λ (y : List ℕ). Rowed n left ws a m [] at y at e) q (rowed_none n left ws a m at e)

  -- nothing
  pub leaf_came : Leaf k v → (b : Bool) → noted k ≡ b → (d : List ℕ) {e : List ℕ} → e ≡ pick b (push (at + c) d) d → Followed n ws left c k v at d at e
  leaf_came f b p d {e} q =
      subst (λ (x : Bool). Came (follow n (tree n left) (entry_of k).follows v) (λ p. note_follow c x (entry_of k).follows (to_forest p.1)) ws at d at e) (sym p)
      (bare_came n left ws b (entry_of k).follows v c at f.bare [] f.children (none_at _ _ q))

  pub after_leaf : Leaf k v → (b : Bool) → noted k ≡ b → (d : List ℕ) {e : List ℕ} → e ≡ pick b (push (at + c) d) d → By_kind d (on 0 (record { at = at })) e
  after_leaf f b p d q = noted_to _ (by_leaf n (tree n left) v ws at k f (each-done (tree n left) ws at 0)) (leaf_came f b p d q)

  -- fields
  pub after-words : (w : Follows) → (entry_of k).follows ≡ w → noted k ≡ true → ((last : ℕ) → children_of w v last ≡ []) → {r : Step} {d e : List ℕ}
      → r ≡ skip_over (fields n (fields_of w)) ws at → e ≡ push (at + c) d → By_kind d r e
  after-words w q p ch {r} {d} {e} h x =
      by_shape true w q p
      record {
        answers = h ∙ only-fields n (tree n left) v ws at w ch refl;
        notes = λ z. fields_came n left ws true w v c at ch h z d x;
      }
