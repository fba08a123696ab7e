-- Laws of walks: what the step that a walker of trees answers says of the words.
use Rattle.std.specs.Prelude.{Result, Ok, Err}
use Rattle.std.specs.Result.{IsErrAnd}
use Rattle.reading.specs.declared.fault.Fault.{Fault}
use Prim.Native.Nat.{ℕ, zero, suc, ◌+◌, ◌-◌, ◌≤◌, ◌<◌}
use native.Mathlib.Omega.{arith}
use mathlib.Core.Path.{◌≡◌, refl, ap, sym, ◌∙◌, subst}
use mathlib.Core.List.{List, [], ◌∷◌, ◌++◌}
use mathlib.Core.Bool.{Bool, true, false}
use lib.ListN.{length, drop, get_or, replicate, length-drop}
use lib.Seq.{drop-cons}
use Rattle.std.proofs.lemmas.List.{get_or-drop}
use lib.Dec.{eqb}
use borrow.Author.Tests.{le-leb, lt-leb}
use Rattle.pack.proofs.Refusals.{map_bounded, ends}
use Rattle.definitions.specs.declared.answer.Refusal.{Refusal}
use Rattle.pack.specs.declared.cursor.Cursor.{Cursor}
use Rattle.pack.specs.Readers.{Step}
use Rattle.pack.specs.Readers.{on}
use Rattle.definitions.specs.declared.table.Values.TheVariants.{Any, AtMost}
use Rattle.definitions.specs.declared.table.Follows.TheVariants.{Aggregate}
use Rattle.definitions.specs.Table.{pick, kind_of, value_of, entry_of, how_many, fields_of, scalar, judgment, table}
use Rattle.reading.specs.Faults.{refusal_of, walked, Plain}
use Rattle.pack.specs.Packed.{UpTo, Compares}
use Rattle.definitions.specs.Form.{Read, got, refused, because, bind, allowed_here, read_word, among, only, Form, field, word, empty, each, ◌▹◌, via, words_by, Fine, read_by}
use Rattle.definitions.specs.Tree.{Tree, heads, last_field, fields, follow, tree}
use Rattle.pack.specs.Readers.{step_of, skip_over, whole_word}
use Rattle.pack.proofs.FormLaws.{lawful, clash}
use Rattle.pack.proofs.StepLaws.{exit, on_place, went, word-ended, word-there, word-stop, word_rejected, word_value, word_on, step_no, last-stop, each-done, each-stop, by-each, each_last, many-stop, many-next, no_on}
use Rattle.reading.proofs.TreeLaws.{whole_word_lem, heads_in, comparison_row, compared, head_sort, tree-stop, tree-rest, level_left, Row, by_row, Leaf, by_leaf}

-- what `?` hands on where a call is refused
pub handed : (r : Result ℕ Fault) (f : Fault) {z : Step} → IsErrAnd r (λ x. x ≡ f) → Err (refusal_of f) ≡ z → walked r ≡ z
handed r f h q = ap walked (exit h) ∙ q

left_of : (ws : List ℕ) (at : ℕ) → at ≤ length ws → at + length (drop at ws) ≡ length ws
left_of ws at l = let d : length (drop at ws) ≡ length ws - at = length-drop at ws in omega arith

-- a step that went on is within the words
pub field-within : (n kind : ℕ) (f : ℕ → ℕ) (ws : List ℕ) (at : ℕ) {y : Step} {v : ℕ} {k : Cursor} → y ≡ step_of f (field n kind) ws at → y ≡ on v k → k.at ≤ length ws
unfolding words_by
field-within n kind f ws at {k = k} e o =
    let t = went f (field n kind) ws at e o in
    let b = (lawful (field n kind)).back at (drop at ws) t.value k.at (drop k.at ws) t.found in
    let p : length (drop at ws) ≡ suc (length (drop k.at ws)) = ap (λ (m : List ℕ). length m) b.same in
    omega (arith, p, b.on, length-drop at ws)

pub step_within : {A : Type 0} (f : A → ℕ) (F : Form A) (ws : List ℕ) (at : ℕ) {y : Step} {v : ℕ} {k : Cursor} → at ≤ length ws → y ≡ step_of f F ws at → y ≡ on v k → k.at ≤ length ws
step_within f F ws at {k = k} l e o =
    let t = went f F ws at e o in
    omega (arith, ends F at (drop at ws) t.found, left_of ws at l)

-- a step that went on is not before its place
pub step_forward : {A : Type 0} (F : Form A) (ws : List ℕ) (at : ℕ) {y : Step} {v : ℕ} {k : Cursor} → y ≡ skip_over F ws at → y ≡ on v k → at ≤ k.at
step_forward F ws at {k = k} e o =
    let t = went (λ a. 0) F ws at e o in
    omega (arith, ((lawful F).back at (drop at ws) t.value k.at (drop k.at ws) t.found).on)

-- a word that stands there: what the code's tests on it come to
module _ (turned : ℕ → ℕ) (n : ℕ) (ws : List ℕ) (at : ℕ) where
  pub test-ended : length ws ≤ at → {r : Refusal} → r ≡ record { number = 3; place = at; name = 0; other = 0 } → Err r ≡ skip_over (word turned n) ws at
  test-ended h q = ap Err q ∙ word-stop turned n (λ a. 0) ws at (word-ended ws at h) refl

  module _ (h : at < length ws) where
    pub test_turned : {number : ℕ} {r : Refusal} → r ≡ record { number = number; place = at; name = 0; other = 0 } → turned (kind_of (get_or ws at 0)) ≡ number → (number ≡ 0 → ⊥)
        → Err r ≡ skip_over (word turned n) ws at
    test_turned q t z = ap Err q ∙ word_rejected turned n (λ a. 0) ws at (word-there ws at h) refl t z

    pub test-value : {r : Refusal} → r ≡ record { number = 4; place = at; name = 0; other = 0 } → turned (kind_of (get_or ws at 0)) ≡ 0 → allowed_here n (kind_of (get_or ws at 0)) (value_of (get_or ws at 0)) ≡ false
        → Err r ≡ skip_over (word turned n) ws at
    test-value q t v = ap Err q ∙ word_value turned n (λ a. 0) ws at (word-there ws at h) refl t v

    pub test-read : turned (kind_of (get_or ws at 0)) ≡ 0 → allowed_here n (kind_of (get_or ws at 0)) (value_of (get_or ws at 0)) ≡ true → on 0 (record { at = at + 1 }) ≡ skip_over (word turned n) ws at
    test-read t v = word_on turned n (λ a. 0) ws at (word-there ws at h) refl {x = 0} t v refl

-- what the code's tests say of values up to a most
pub up_within : (n kind most w : ℕ) → UpTo kind most → kind_of w ≡ kind → value_of w ≤ most → allowed_here n (kind_of w) (value_of w) ≡ true
unfolding UpTo
up_within n kind most w u k h = rw k (u n (value_of w) (omega arith) ∙ le-leb (value_of w) most h)

pub up_over : (n kind most w : ℕ) → UpTo kind most → kind_of w ≡ kind → most < value_of w → allowed_here n (kind_of w) (value_of w) ≡ false
unfolding UpTo
up_over n kind most w u k h = rw k (u n (value_of w) (omega arith) ∙ lt-leb (value_of w) most h)

-- a word that was read
pub record Stands (turned : ℕ → ℕ) (n : ℕ) (ws : List ℕ) (at x : ℕ) : Type 0 where
  pub inside : at < length ws
  pub on : x ≡ at + 1
  pub found : read_by (word turned n) at (drop at ws) ≡ got (kind_of (get_or ws at 0), value_of (get_or ws at 0)) x (drop x ws)

pub stands : (turned : ℕ → ℕ) (n : ℕ) (ws : List ℕ) (at : ℕ) {y : Step} {v : ℕ} {k : Cursor} → y ≡ skip_over (word turned n) ws at → at ≤ length ws → y ≡ on v k → Stands turned n ws at k.at
unfolding words_by Fine
stands turned n ws at {k = k} e l o =
    let t = went (λ a. 0) (word turned n) ws at e o in
    let b = (lawful (word turned n)).back at (drop at ws) t.value k.at (drop k.at ws) t.found in
    let p : length (drop at ws) ≡ suc (length (drop k.at ws)) = ap (λ (m : List ℕ). length m) b.same in
    let i : at < length ws = omega (arith, p, left_of ws at l) in
    let d : get_or ws at 0 ∷ drop (suc at) ws ≡ whole_word t.value ∷ drop k.at ws = sym (drop-cons ws at 0 i) ∙ b.same in
    let v : get_or ws at 0 ≡ whole_word t.value = cc in
    let f : kind_of (get_or ws at 0) ≡ t.value.0 = omega (arith, v, t.fine.1.0) in
    let g : value_of (get_or ws at 0) ≡ t.value.1 = omega (arith, v, t.fine.1.0) in
    record { inside = i; on = b.on; found = rw (f, g) t.found }

pub kept : (turned : ℕ → ℕ) (n : ℕ) (f : ℕ × ℕ → ℕ) (ws : List ℕ) (at : ℕ) {x : ℕ} → Stands turned n ws at x → step_of f (word turned n) ws at ≡ on (f (kind_of (get_or ws at 0), value_of (get_or ws at 0))) (record { at = x })
unfolding step_of
kept turned n f ws at s = rw s.found

-- a head word that was read
pub record Turn (sort left : ℕ) (ws : List ℕ) (at next : ℕ) : Type 0 where
  pub inside : at < length ws
  pub on : next ≡ at + 1
  pub past : at + 1 ≤ length ws
  pub level : 1 ≤ left
  pub kind : (entry_of (kind_of (get_or ws at 0))).sort ≡ sort

module _ (n sort left : ℕ) (ws : List ℕ) (at : ℕ) (l : at ≤ length ws) {y : Step} (e : y ≡ skip_over (word (heads sort left) n) ws at) where
  abbrev begin : Form (ℕ × ℕ)
  begin = word (heads sort left) n

  abbrev row_of : ℕ → ℕ → Form (List Tree)
  row_of d k = each (tree n d) (replicate k sort)

  -- a row of trees whose first head word is refused
  pub row_stop : (m : ℕ) → 0 < m → {r : Refusal} → y ≡ Err r → y ≡ skip_over (row_of left m) ws at
  row_stop m more o = many-stop (tree n left) sort ws at m more (λ a. 0) (tree-stop n sort ws at left (last-stop (λ a. 0) begin ws at e whole_word o) o) o

  module _ {v : ℕ} {k : Cursor} (o : y ≡ on v k) where
    whole_head : step_of whole_word begin ws at ≡ on (get_or ws at 0) (record { at = at + 1 })
    whole_head =
        let s = stands (heads sort left) n ws at e l o in
        kept (heads sort left) n whole_word ws at s ∙ rw (whole_word_lem (get_or ws at 0), s.on) refl

    pub turn : Turn sort left ws at k.at
    unfolding Fine
    turn =
        let s = stands (heads sort left) n ws at e l o in
        let b = (lawful begin).back at (drop at ws) (kind_of (get_or ws at 0), value_of (get_or ws at 0)) k.at (drop k.at ws) s.found in
        record {
          inside = s.inside;
          on = s.on;
          past = omega (arith, s.inside);
          level = level_left n sort ws at left refl whole_head;
          kind = head_sort sort left (kind_of (get_or ws at 0)) b.fine.0;
        }

    abbrev after : Form (List (ℕ × ℕ) × List Tree)
    after = follow n (tree n (left - 1)) (entry_of (kind_of (get_or ws at 0))).follows (value_of (get_or ws at 0))

    goes : {z : Step} → z ≡ skip_over after ws (at + 1) → z ≡ skip_over (tree n left sort) ws at
    goes = tree-rest n sort ws at left refl whole_head

    -- a row from its first head word on
    module _ (m : ℕ) (more : 0 < m) where
      pub row_leaf : Leaf (kind_of (get_or ws at 0)) (value_of (get_or ws at 0)) → skip_over (row_of left m) ws at ≡ skip_over (row_of left (m - 1)) ws (at + 1)
      row_leaf f =
          many-next (tree n left) sort ws at m more (λ a. 0) refl
          (sym (goes (by_leaf n (tree n (left - 1)) (value_of (get_or ws at 0)) ws (at + 1) (kind_of (get_or ws at 0)) f (each-done (tree n (left - 1)) ws (at + 1) 0))))

      pub row_last : m ≡ 1 → {j : ℕ} → Row (kind_of (get_or ws at 0)) (value_of (get_or ws at 0)) sort → j ≡ how_many (entry_of (kind_of (get_or ws at 0))).follows (value_of (get_or ws at 0))
          → skip_over (row_of left m) ws at ≡ skip_over (row_of (left - 1) j) ws (at + 1)
      row_last i r q = rw i (sym (each_last (tree n left) ws at sort (λ a. 0) (λ a. 0) (λ a. refl) (goes (by_row n (tree n (left - 1)) (value_of (get_or ws at 0)) ws (at + 1) (kind_of (get_or ws at 0)) sort r q refl))))

      module _ {z : Step} (q : z ≡ skip_over after ws (at + 1)) where
        pub node-stop : {r : Refusal} → z ≡ Err r → z ≡ skip_over (row_of left m) ws at
        node-stop p = many-stop (tree n left) sort ws at m more (λ a. 0) (goes q) p

        pub node_on : {u : ℕ} {j : Cursor} → z ≡ on u j → skip_over (row_of left m) ws at ≡ skip_over (row_of left (m - 1)) ws j.at
        node_on p = many-next (tree n left) sort ws at m more (λ a. 0) (goes q) p

-- the head word of a Comparison
pub head_compared : (n left : ℕ) (ws : List ℕ) (at : ℕ) → Compares ws at left → on 0 (record { at = at + 1 }) ≡ skip_over (word (heads judgment left) n) ws at
unfolding entry_of table allowed_here
head_compared n left ws at p =
    let k : kind_of (get_or ws at 0) ≡ 96 = p.kind in
    test-read (heads judgment left) n ws at p.inside (rw k (heads_in judgment left 96 refl refl (λ z. omega (arith, p.level)))) (rw k refl)

-- a row of one Comparison: its two scalars
pub by_compared : (n left : ℕ) (ws : List ℕ) (at m : ℕ) → Compares ws at left → m ≡ 1 → {y : Step} {next : ℕ} → next ≡ at + 1
    → y ≡ skip_over (each (tree n (left - 1)) (replicate 2 scalar)) ws next → y ≡ skip_over (each (tree n left) (replicate m judgment)) ws at
by_compared n left ws at m p o {y} {next} b q =
    let k : kind_of (get_or ws at 0) ≡ 96 = p.kind in
    let l : at ≤ length ws = omega (arith, p.inside) in
    let t : skip_over (each (tree n (left - 1)) (replicate 2 scalar)) ws (at + 1) ≡ skip_over (tree n left judgment) ws at =
    goes n judgment left ws at l (head_compared n left ws at p) refl
    (by_row n (tree n (left - 1)) (value_of (get_or ws at 0)) ws (at + 1) (kind_of (get_or ws at 0)) scalar (comparison_row (value_of (get_or ws at 0)) (kind_of (get_or ws at 0)) k) (compared (kind_of (get_or ws at 0)) (value_of (get_or ws at 0)) k) refl)
    in
    rw o (rw b at q ∙ each_last (tree n left) ws at judgment (λ a. 0) (λ a. 0) (λ a. refl) t)

-- a row of one
pub one_row : {X A : Type 0} (F : X → Form A) (x : X) (ws : List ℕ) (at : ℕ) {y : Step} → y ≡ skip_over (each F (replicate 1 x)) ws at → y ≡ skip_over (F x) ws at
one_row F x ws at e = e ∙ sym (each_last F ws at x (λ a. 0) (λ a. 0) (λ a. refl) refl)

-- the first entries of a list, and then the others
module _ {X A : Type 0} (F : X → Form A) (ws : List ℕ) (ys : List X) where
  pub by-front : (xs : List X) (at : ℕ) {y z : Step} {v : ℕ} {k : Cursor} → y ≡ skip_over (each F xs) ws at → y ≡ on v k → z ≡ skip_over (each F ys) ws k.at → z ≡ skip_over (each F (xs ++ ys)) ws at
  by-front [] at {z = z} {k = k} e o q =
      let p : at ≡ k.at = ap (λ (j : Cursor). j.at) (on_place (each-done F ws at 0 ∙ sym e ∙ o)) in
      subst (λ (i : ℕ). z ≡ skip_over (each F ys) ws i) (sym p) q
  by-front (x ∷ xs) at {y} {z} {v} {k} e o q = go (skip_over (F x) ws at) refl (λ j t. by-front xs j {y = y} (sym t) o q)
    where
      go : (s : Step) → skip_over (F x) ws at ≡ s → ((j : ℕ) → skip_over (each F xs) ws j ≡ y → z ≡ skip_over (each F (xs ++ ys)) ws j) → z ≡ skip_over (each F (x ∷ (xs ++ ys))) ws at
      go (Ok (u, j)) h rest =
          let t = by-each F ws at x xs (λ a. 0) (λ l. 0) refl h (λ a. refl) in
          by-each F ws at x (xs ++ ys) (λ a. 0) (λ l. 0) refl h (λ a. rest j.at (t ∙ sym e))
      go (Err r) h rest = absurd (no_on (sym h ∙ each-stop F ws at x xs (λ a. 0) (λ l. 0) refl h ∙ sym e ∙ o))

  pub front-stop : (xs : List X) (at : ℕ) {y : Step} {r : Refusal} → y ≡ skip_over (each F xs) ws at → y ≡ Err r → y ≡ skip_over (each F (xs ++ ys)) ws at
  front-stop [] at e o = absurd (no_on (sym o ∙ e ∙ sym (each-done F ws at 0)))
  front-stop (x ∷ xs) at {y} {r} e o = go (skip_over (F x) ws at) refl (λ j t. front-stop xs j {y = y} (sym t) o)
    where
      go : (s : Step) → skip_over (F x) ws at ≡ s → ((j : ℕ) → skip_over (each F xs) ws j ≡ y → y ≡ skip_over (each F (xs ++ ys)) ws j) → y ≡ skip_over (each F (x ∷ (xs ++ ys))) ws at
      go (Ok (u, j)) h rest =
          let t = by-each F ws at x xs (λ a. 0) (λ l. 0) refl h (λ a. refl) in
          by-each F ws at x (xs ++ ys) (λ a. 0) (λ l. 0) refl h (λ a. rest j.at (t ∙ sym e))
      go (Err q) h rest = e ∙ sym (each-stop F ws at x xs (λ a. 0) (λ l. 0) refl h) ∙ each-stop F ws at x (xs ++ ys) (λ a. 0) (λ l. 0) refl h

-- ---- the fields of an aggregate

-- Read, they are four words, of which the last one's value says whether there is a where tree.
pub record Fielded (n : ℕ) (ws : List ℕ) (at root : ℕ) : Type 0 where
  pub past : root ≡ at + 4
  pub there : root ≤ length ws
  pub last : on (value_of (get_or ws (at + 3) 0)) (record { at = root }) ≡ step_of last_field (fields n (fields_of Aggregate)) ws at

record Four (n : ℕ) (l : List (ℕ × ℕ)) (vs rest : List ℕ) : Type 0 where
  long : length (words_by (fields n (fields_of Aggregate)) l) ≡ 4
  flag : value_of (get_or vs 3 0) ≡ last_field l

four : (n : ℕ) (l : List (ℕ × ℕ)) (vs rest : List ℕ) → Fine (fields n (fields_of Aggregate)) l → vs ≡ words_by (fields n (fields_of Aggregate)) l ++ rest → Four n l vs rest
unfolding fields fields_of words_by Fine
four n [] vs rest f e = absurd f
four n (a ∷ []) vs rest f e = absurd f.1
four n (a ∷ b ∷ []) vs rest f e = absurd f.1.1
four n (a ∷ b ∷ c ∷ []) vs rest f e = absurd f.1.1.1
four n (a ∷ b ∷ c ∷ d ∷ []) vs rest f e =
    let g : get_or vs 3 0 ≡ whole_word d = ap (λ (l : List ℕ). get_or l 3 0) e in
    record { long = refl; flag = omega (arith, g, f.1.1.1.0.1.0) }
four n (a ∷ b ∷ c ∷ d ∷ x ∷ l) vs rest f e = absurd f.1.1.1.1

pub fielded : (n : ℕ) (ws : List ℕ) (at : ℕ) {y : Step} {v : ℕ} {k : Cursor} → at ≤ length ws → y ≡ skip_over (fields n (fields_of Aggregate)) ws at → y ≡ on v k → Fielded n ws at k.at
unfolding step_of
fielded n ws at {k = k} l e o =
    let F = fields n (fields_of Aggregate) in
    let t = went (λ a. 0) F ws at e o in
    let b = (lawful F).back at (drop at ws) t.value k.at (drop k.at ws) t.found in
    let u = four n t.value (drop at ws) (drop k.at ws) b.fine b.same in
    let g : value_of (get_or ws (at + 3) 0) ≡ last_field t.value = ap value_of (sym (get_or-drop at ws 3 0)) ∙ u.flag in
    record {
      past = omega (arith, b.on, u.long);
      there = step_within (λ a. 0) F ws at l e o;
      last = sym (rw t.found (ap (λ (x : ℕ). on x (record { at = k.at })) (sym g)));
    }

-- values up to a most
pub up_to-any : (kind : ℕ) → (entry_of kind).values ≡ Any → UpTo kind 16777215
unfolding UpTo allowed_here
up_to-any kind r n v h = rw r (sym (le-leb v 16777215 (omega arith)))

pub up_to-most : (kind m : ℕ) → (entry_of kind).values ≡ AtMost m → UpTo kind m
unfolding UpTo allowed_here
up_to-most kind m r n v h = rw r refl

-- a refusal is one that a fault can tell
record Tidy {A : Type 0} (F : Form A) : Type 0 where
  refuses : (at : ℕ) (ws : List ℕ) (r : Refusal) → read_by F at ws ≡ refused r → Plain (at + length ws) r

plain-because : {A : Type 0} (x p most : ℕ) → x ≤ 5 → p ≤ most → (r : Refusal) → because {A = A} x p ≡ refused r → Plain most r
plain-because x p most h l r e =
    let q : record { number = x; place = p; name = 0; other = 0 } ≡ r = cc in
    rw (← q) (record { number = h; place = l; bare = refl })

plain_word : (turned : ℕ → ℕ) (n : ℕ) → ((k : ℕ) → turned k ≤ 5) → (at : ℕ) (ws : List ℕ) (r : Refusal) → read_word turned n at ws ≡ refused r → Plain (at + length ws) r
plain_word turned n h at [] r e = plain-because 3 at _ (omega arith) (omega arith) r e
plain_word turned n h at (w ∷ ws) r e = go (eqb (turned (kind_of w)) 0) (allowed_here n (kind_of w) (value_of w)) e
  where
    go : (b d : Bool) → pick {A = Read (ℕ × ℕ)} b (pick {A = Read (ℕ × ℕ)} d (got (kind_of w, value_of w) (at + 1) ws) (because 4 at)) (because (turned (kind_of w)) at) ≡ refused r → Plain (at + length (w ∷ ws)) r
    go true true e = absurd (clash (sym e))
    go true false e = plain-because 4 at _ (omega arith) (omega arith) r e
    go false d e = plain-because (turned (kind_of w)) at _ (h (kind_of w)) (omega arith) r e

tidy_bind : {A B : Type 0} (m : Read A) (k : A → ℕ → List ℕ → Read B) (most : ℕ) (r : Refusal) → (m ≡ refused r → Plain most r)
    → ((a : A) (at : ℕ) (ws : List ℕ) → m ≡ got a at ws → k a at ws ≡ refused r → Plain most r) → bind m k ≡ refused r → Plain most r
tidy_bind (got a at ws) k most r p q e = q a at ws refl e
tidy_bind (refused s) k most r p q e = p (cc)

tidy_then : {A B : Type 0} (F : Form A) (G : A → Form B) → Tidy F → ((a : A) → Tidy (G a)) → Tidy (F ▹ G)
unfolding read_by
tidy_then F G p q =
    record {
      refuses = λ at ws r.
          tidy_bind (read_by F at ws) _ _ r (p.refuses at ws r)
          (λ a at' ws' g e. rw (ends F at ws g) at ((q a).refuses at' ws' r (map_bounded _ (read_by (G a) at' ws') r e)));
    }

tidy_each : {X A : Type 0} (F : X → Form A) → ((x : X) → Tidy (F x)) → (xs : List X) → Tidy (each F xs)
unfolding read_by
tidy_each F p [] = record { refuses = λ at ws r e. absurd (clash (sym e)) }
tidy_each F p (x ∷ xs) =
    let q = tidy_each F p xs in
    record {
      refuses = λ at ws r.
          tidy_bind (read_by (F x) at ws) _ _ r ((p x).refuses at ws r)
          (λ a at' ws' g e. rw (ends (F x) at ws g) at (q.refuses at' ws' r (map_bounded _ (read_by (each F xs) at' ws') r e)));
    }

tidy_via : {A B : Type 0} (to : A → B) (from : B → A) (tf : (b : B) → to (from b) ≡ b) (ft : (a : A) → from (to a) ≡ a) (F : Form A) → Tidy F → Tidy (via to from tf ft F)
unfolding read_by
tidy_via to from tf ft F p = record { refuses = λ at ws r e. p.refuses at ws r (map_bounded to (read_by F at ws) r e) }

tidy_empty : {A : Type 0} (a : A) → Tidy (empty a)
unfolding read_by
tidy_empty a = record { refuses = λ at ws r e. absurd (clash (sym e)) }

pick_small : (b : Bool) (x y : ℕ) → x ≤ 5 → y ≤ 5 → pick b x y ≤ 5
pick_small true x y h k = h
pick_small false x y h k = k

tidy_head : (sort left n : ℕ) → Tidy (word (heads sort left) n)
unfolding read_by heads
tidy_head sort zero n = record { refuses = plain_word (heads sort zero) n (λ k. pick_small (eqb (entry_of k).sort sort) 5 2 (omega arith) (omega arith)) }
tidy_head sort (suc d) n = record { refuses = plain_word (heads sort (suc d)) n (λ k. pick_small (eqb (entry_of k).sort sort) 0 2 (omega arith) (omega arith)) }

tidy_only : (kinds : List ℕ) (n : ℕ) → Tidy (word (only kinds) n)
unfolding read_by
tidy_only kinds n = record { refuses = plain_word (only kinds) n (λ k. pick_small (among k kinds) 0 2 (omega arith) (omega arith)) }

tidy_tree : (n left sort : ℕ) → Tidy (tree n left sort)
unfolding tree follow fields
tidy_tree n zero sort = tidy_via _ _ _ _ _ (tidy_then _ _ (tidy_head sort zero n) (λ a. tidy_empty _))
tidy_tree n (suc d) sort =
    tidy_via _ _ _ _ _ (tidy_then _ _ (tidy_head sort (suc d) n)
    (λ h. tidy_then _ _ (tidy_each _ (λ kinds. tidy_only kinds n) _) (λ fs. tidy_each _ (λ s. tidy_tree n d s) _)))

-- a row that was refused, and a word of two kinds
pub row_plain : (n left : ℕ) (sorts : List ℕ) (ws : List ℕ) (at : ℕ) {y : Step} {r : Refusal} → at ≤ length ws → y ≡ skip_over (each (tree n left) sorts) ws at → y ≡ Err r → Plain (length ws) r
unfolding step_of
row_plain n left sorts ws at {r = r} l e o =
    rw (left_of ws at l) at ((tidy_each (tree n left) (λ s. tidy_tree n left s) sorts).refuses at (drop at ws) r (step_no (λ a. 0) (read_by (each (tree n left) sorts) at (drop at ws)) (sym e ∙ o)))

pub either_plain : (kinds : List ℕ) (n : ℕ) (ws : List ℕ) (at : ℕ) {y : Step} {r : Refusal} → at ≤ length ws → y ≡ skip_over (word (only kinds) n) ws at → y ≡ Err r → Plain (length ws) r
unfolding step_of
either_plain kinds n ws at {r = r} l e o = rw (left_of ws at l) at ((tidy_only kinds n).refuses at (drop at ws) r (step_no (λ a. 0) (read_by (word (only kinds) n) at (drop at ws)) (sym e ∙ o)))
