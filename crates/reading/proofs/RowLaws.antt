-- Laws of the walkers: a row of trees word by word, an aggregate with its where tree, a tree.
use Rattle.std.specs.Prelude.{Result, Err}
use Rattle.std.specs.Result.{IsErrAnd}
use Rattle.reading.specs.declared.fault.Fault.{Fault}
use Prim.Native.Nat.{ℕ, ◌+◌, ◌-◌, ◌%◌, ◌≤◌, ◌<◌}
use native.Mathlib.Omega.{arith}
use mathlib.Core.Path.{◌≡◌, refl, sym, ◌∙◌, subst}
use mathlib.Core.List.{List, [], ◌∷◌}
use mathlib.Core.Bool.{Bool, true, false}
use lib.ListN.{length, get_or, replicate}
use Rattle.definitions.specs.declared.table.Follows.{Follows}
use Rattle.definitions.specs.declared.table.Follows.TheVariants.{Aggregate, Exists}
use Rattle.definitions.specs.declared.answer.Refusal.{Refusal}
use Rattle.pack.specs.declared.cursor.Cursor.{Cursor}
use Rattle.pack.proofs.FormLaws.{only_same}
use Rattle.pack.proofs.StepLaws.{each-stop, by-each, each_last, then_stop, by_then, by_kept, many-done, no_on}
use Rattle.pack.specs.Readers.{Step, on, skip_over}
use Rattle.definitions.specs.Table.{kind_of, value_of, entry_of, table, how_many, fields_of, children_of, scalar, judgment}
use Rattle.pack.specs.Packed.{Compares}
use Rattle.definitions.specs.Form.{Form, word, only, each, allowed_here}
use Rattle.definitions.specs.Tree.{heads, last_field, fields, follow, tree}
use Rattle.reading.specs.Notes.{noted}
use Rattle.reading.specs.Faults.{refusal_of, walked}
use Rattle.reading.specs.Noting.{State, push, in_next, note_tree, NotedStep, Sorted, Rows, Shape, After}
use Rattle.reading.proofs.TreeLaws.{comparison_row, compared, Row, Leaf}
use Rattle.reading.proofs.WalkLaws.{handed, Turn, turn, Fielded, stands, step_forward, step_within, test-read, row_stop, row_leaf, row_last, node-stop, node_on, one_row, head_compared, by_compared}
use Rattle.reading.proofs.NotingLaws.{Rowed, rowed_end, rowed_next, rowed_turn, rowed_one, Followed, treed, row_followed, noted_to, leaf_came, where_came, exists_came, Steady, steady_judgment}

-- of a refusal nothing is to be shown but the answer
pub refuses : {A : Type 0} (F : Form A) {ws : List ℕ} {at : ℕ} {d : List ℕ} {y : Step} {r : Refusal} {e : List ℕ} {note : A → State → State} → y ≡ skip_over F ws at → y ≡ Err r
    → NotedStep F note ws at d y e
refuses F q h = record { answers = q; notes = λ o. absurd (no_on (sym h ∙ o)) }

-- the context and the notes, as the code has them
pub rowed_as : (n left : ℕ) (ws sorts : List ℕ) {a b at r : ℕ} {d d₁ e : List ℕ} → a ≡ b → d ≡ d₁ → Rowed n left ws a a sorts at d r e → Rowed n left ws b b sorts at d₁ r e
rowed_as n left ws sorts {a} {b} {at} {r} {d} {d₁} {e} p q h =
    subst (λ (x : List ℕ). Rowed n left ws b b sorts at x r e) q (subst (λ (i : ℕ). Rowed n left ws i i sorts at d r e) p h)

-- ---- a row that is being walked: what is read and noted from here on is so from the start on
pub record Walking (n sort c : ℕ) (ws : List ℕ) (levels count start : ℕ) (d₀ : List ℕ) (left m at : ℕ) (d : List ℕ) : Type 0 where
  pub there : at ≤ length ws
  pub deep : left ≤ levels
  pub same : skip_over (each (tree n levels) (replicate count sort)) ws start ≡ skip_over (each (tree n left) (replicate m sort)) ws at
  pub lifts : (r : ℕ) (e : List ℕ) → Rowed n left ws c c (replicate m sort) at d r e → Rowed n levels ws c c (replicate count sort) start d₀ r e

pub walking : (n sort c : ℕ) (ws : List ℕ) (levels count start : ℕ) (d : List ℕ) → start ≤ length ws → Walking n sort c ws levels count start d levels count start d
walking n sort c ws levels count start d l = record { there = l; deep = omega arith; same = refl; lifts = λ r e x. x }

module _ {n sort c : ℕ} {ws : List ℕ} {levels count start : ℕ} {d₀ : List ℕ} {left m at : ℕ} {d : List ℕ} (g : Walking n sort c ws levels count start d₀ left m at d) where
  -- to its end
  pub row_walked : m ≤ 0 → Rows n levels sort count c ws start d₀ (on 0 (record { at = at })) d
  row_walked z = noted_to _ (many-done (tree n left) sort ws at m z ∙ sym g.same) (g.lifts at d (rowed_end n left ws c c sort at m d z))

  module _ (more : 0 < m) {y : Step} (h : y ≡ skip_over (word (heads sort left) n) ws at) where
    -- a head word that is refused
    pub head_refused : {r : Refusal} → y ≡ Err r → {e : List ℕ} → Rows n levels sort count c ws start d₀ y e
    head_refused o = refuses _ (row_stop n sort left ws at g.there h m more o ∙ sym g.same) o

    module _ {u : ℕ} {next : Cursor} (o : y ≡ on u next) where
      pub begun : Turn sort left ws at next.at
      begun = turn n sort left ws at g.there h o

      -- what was read of the node, and then of the row
      node_rowed : {k r : ℕ} {d₁ e : List ℕ} → Followed n ws (left - 1) c (kind_of (get_or ws at 0)) (value_of (get_or ws at 0)) (at + 1) d k d₁
          → Rowed n left ws c c (replicate (m - 1) sort) k d₁ r e → Rowed n left ws c c (replicate m sort) at d r e
      node_rowed x rest = rowed_turn n left ws c c sort m more (treed n sort ws at left (stands (heads sort left) n ws at h g.there o) begun.level c x) rest

      -- past a leaf
      pub past_leaf : Leaf (kind_of (get_or ws at 0)) (value_of (get_or ws at 0)) → noted (kind_of (get_or ws at 0)) ≡ false
          → Walking n sort c ws levels count start d₀ left (m - 1) next.at d
      past_leaf f p =
          subst (λ (i : ℕ). Walking n sort c ws levels count start d₀ left (m - 1) i d) (sym begun.on)
          record {
            there = begun.past;
            deep = g.deep;
            same = g.same ∙ row_leaf n sort left ws at g.there h o m more f;
            lifts = λ r e x. g.lifts r e (node_rowed (leaf_came n (left - 1) c ws (kind_of (get_or ws at 0)) (value_of (get_or ws at 0)) (at + 1) f false p d refl) x);
          }

      -- the last one's own row takes the place of the row that ends with it
      pub past-last : m ≡ 1 → {k : ℕ} → Row (kind_of (get_or ws at 0)) (value_of (get_or ws at 0)) sort → k ≡ how_many (entry_of (kind_of (get_or ws at 0))).follows (value_of (get_or ws at 0))
          → Steady (kind_of (get_or ws at 0)) → Walking n sort c ws levels count start d₀ (left - 1) k next.at d
      past-last i {k} w q s =
          let l : left - 1 ≤ levels = omega (arith, g.deep) in
          let e0 : m - 1 ≤ 0 = omega arith in
          subst (λ (i : ℕ). Walking n sort c ws levels count start d₀ (left - 1) k i d) (sym begun.on)
          record {
            there = begun.past;
            deep = l;
            same = g.same ∙ row_last n sort left ws at g.there h o m more i w q;
            lifts = λ r e x. g.lifts r e (node_rowed (row_followed n (left - 1) c ws (kind_of (get_or ws at 0)) (value_of (get_or ws at 0)) (at + 1) sort w q s x) (rowed_end n left ws c c sort r (m - 1) e e0));
          }

      -- a node and what follows it
      module _ {z : Step} {e : List ℕ} (a : After n (left - 1) c ws at d z e) where
        pub node-refused : {r : Refusal} → z ≡ Err r → Rows n levels sort count c ws start d₀ z e
        node-refused v = refuses _ (node-stop n sort left ws at g.there h o m more a.answers v ∙ sym g.same) v

        module _ {x : ℕ} {k : Cursor} (v : z ≡ on x k) where
          pub forward : (at < length ws) × (at + 1 ≤ k.at)
          forward = (begun.inside, step_forward _ ws (at + 1) a.answers v)

          pub past-node : Walking n sort c ws levels count start d₀ left (m - 1) k.at e
          past-node =
              record {
                there = step_within (λ a. 0) _ ws (at + 1) begun.past a.answers v;
                deep = g.deep;
                same = g.same ∙ node_on n sort left ws at g.there h o m more a.answers v;
                lifts = λ r e x. g.lifts r e (node_rowed (a.notes v) x);
              }

-- ---- rows one after the other

module _ (n left c : ℕ) (ws : List ℕ) (at : ℕ) (sort : ℕ) (sorts : List ℕ) {y : Step} {d d₁ : List ℕ} (first : Rows n left sort 1 c ws at d y d₁) where
  pub first-refused : {r : Refusal} → y ≡ Err r → (b : ℕ) → Sorted n left (sort ∷ sorts) c b ws at d y d₁
  first-refused o b = refuses _ (each-stop (tree n left) ws at sort sorts (λ a. 0) (λ l. 0) (one_row (tree n left) sort ws at first.answers) o) o

  pub first_then : {v : ℕ} {k : Cursor} → y ≡ on v k → (b : ℕ) {z : Step} {e : List ℕ} → Sorted n left sorts b b ws k.at d₁ z e → Sorted n left (sort ∷ sorts) c b ws at d z e
  first_then o b {e = e} x =
      record {
        answers = by-each (tree n left) ws at sort sorts (λ a. 0) (λ l. 0) (one_row (tree n left) sort ws at first.answers) o (λ a. x.answers);
        notes = λ p. rowed_next n left ws c b sort sorts (rowed_one n left ws c c sort (first.notes o)) (x.notes p);
      }

pub rows_as : (n left sort : ℕ) (ws : List ℕ) {m k a b at : ℕ} {r : Step} {d e : List ℕ} → m ≡ k → a ≡ b → Rows n left sort m a ws at d r e → Rows n left sort k b ws at d r e
rows_as n left sort ws {m} {k} {a} {b} {at} {r} {d} {e} p q h =
    subst (λ (i : ℕ). Rows n left sort k i ws at d r e) q (subst (λ (i : ℕ). Rows n left sort i a ws at d r e) p h)

-- ---- fields, and the trees behind them

-- a node whose fields are refused
pub fields-refused : (n left v c : ℕ) (b : Bool) (w : Follows) (ws : List ℕ) (at : ℕ) {y : Step} {r : Refusal} {d e : List ℕ} → y ≡ skip_over (fields n (fields_of w)) ws at → y ≡ Err r
    → Shape n left b w v c ws at d y e
unfolding follow
fields-refused n left v c b w ws at q o = refuses _ (then_stop (λ a. 0) _ ws at q _ _ o) o

-- a word of the right kind before the others
pub by_word : (n kind : ℕ) (kinds : List (List ℕ)) (ws : List ℕ) (at : ℕ) {y : Step} → at < length ws → kind_of (get_or ws at 0) ≡ kind → allowed_here n kind (value_of (get_or ws at 0)) ≡ true
    → y ≡ skip_over (fields n kinds) ws (at + 1) → y ≡ skip_over (fields n ((kind ∷ []) ∷ kinds)) ws at
unfolding fields
by_word n kind kinds ws at h k a q =
    by-each _ ws at (kind ∷ []) kinds (λ a. 0) (λ l. 0) (test-read (only (kind ∷ [])) n ws at h (only_same _ _ k) (rw k a)) refl (λ x. q)

-- fields of the right kinds leave it to the flag
pub flag_alone : (n : ℕ) (ws : List ℕ) (at : ℕ) {y : Step} → at + 3 < length ws → kind_of (get_or ws at 0) ≡ 80 → kind_of (get_or ws (at + 1) 0) ≡ 81 → kind_of (get_or ws (at + 2) 0) ≡ 86
    → y ≡ skip_over (word (only (83 ∷ [])) n) ws (at + 3) → y ≡ skip_over (fields n (fields_of Aggregate)) ws at
unfolding fields fields_of entry_of table allowed_here
flag_alone n ws at {y} h a b c q =
    let r1 : at + 1 + 1 ≡ at + 2 = omega arith in
    let r2 : at + 2 + 1 ≡ at + 3 = omega arith in
    let x4 : y ≡ skip_over (fields n ((83 ∷ []) ∷ [])) ws (at + 3) = each_last _ ws (at + 3) (83 ∷ []) (λ a. 0) (λ l. 0) (λ x. refl) q in
    let x3 = by_word n 86 _ ws (at + 2) (omega arith) c refl (subst (λ (i : ℕ). y ≡ skip_over (fields n ((83 ∷ []) ∷ [])) ws i) (sym r2) x4) in
    let x2 = by_word n 81 _ ws (at + 1) (omega arith) b refl (subst (λ (i : ℕ). y ≡ skip_over (fields n ((86 ∷ []) ∷ (83 ∷ []) ∷ [])) ws i) (sym r1) x3) in
    by_word n 80 _ ws at (omega arith) a refl x2

-- the fields of an aggregate, and its where tree
pub where_rows : (n left c : ℕ) (ws : List ℕ) (at : ℕ) {root : ℕ} → Fielded n ws at root → {inner : ℕ} {z : Step} {d d₁ e : List ℕ} → inner ≡ in_next d + c % 8192 → d₁ ≡ push (at + c) d
    → Rows n left judgment (value_of (get_or ws (at + 3) 0)) inner ws root d₁ z e → Shape n left true Aggregate 0 c ws at d z e
unfolding follow children_of
where_rows n left c ws at {root} f p q h =
    record {
      answers = by_kept last_field (fields n (fields_of Aggregate)) ws at f.last _ (λ t. 0) refl (λ fs r x. rw r h.answers);
      notes = λ o. where_came n left ws at f c (rowed_as n left ws (replicate (value_of (get_or ws (at + 3) 0)) judgment) p q (h.notes o));
    }

-- the arguments of an Exists, and its body
pub exists_rows : (n left c : ℕ) (ws : List ℕ) (at : ℕ) {y : Step} {v : ℕ} {k : Cursor} → y ≡ skip_over (fields n (fields_of Exists)) ws at → y ≡ on v k → {z : Step} {d d₁ e : List ℕ} → d₁ ≡ push (at + c) d
    → Rows n left judgment 1 c ws k.at d₁ z e → Shape n left true Exists 0 c ws at d z e
unfolding follow children_of
exists_rows n left c ws at m o q h =
    record {
      answers = by_then (λ a. 0) (fields n (fields_of Exists)) ws at m _ (λ t. 0) o (λ a. h.answers);
      notes = λ p. exists_came n left ws at m o c (rowed_as n left ws (replicate 1 judgment) refl q (h.notes p));
    }

-- a row of one Comparison: its two scalars
pub compared_rows : (n left : ℕ) (ws : List ℕ) (at m : ℕ) → Compares ws at left → m ≡ 1 → (c : ℕ) {next : ℕ} {z : Step} {d e : List ℕ} → next ≡ at + 1
    → Rows n (left - 1) scalar 2 c ws next d z e → Rows n left judgment m c ws at d z e
compared_rows n left ws at m p o c {next} {z} {d} {e} b q =
    let q0 : kind_of (get_or ws at 0) ≡ 96 = p.kind in
    let v0 = value_of (get_or ws at 0) in
    let l : at ≤ length ws = omega (arith, p.inside) in
    let st = steady_judgment (kind_of (get_or ws at 0)) (omega arith) (omega arith) in
    let w = comparison_row (value_of (get_or ws at 0)) (kind_of (get_or ws at 0)) q0 in
    let e0 : m - 1 ≤ 0 = omega arith in
    let more : 0 < m = omega arith in
    record {
      answers = by_compared n left ws at m p o b q.answers;
      notes = λ {v} {k} h. rowed_turn n left ws c c judgment m more (treed n judgment ws at left (stands (heads judgment left) n ws at (head_compared n left ws at p) l refl) p.level c
          (row_followed n (left - 1) c ws (kind_of (get_or ws at 0)) v0 (at + 1) scalar w (compared (kind_of (get_or ws at 0)) v0 q0) st (subst (λ (y : ℕ). Rowed n (left - 1) ws c c (replicate 2 scalar) y d k.at e) b (q.notes h))))
          (rowed_end n left ws c c judgment k.at (m - 1) e e0);
    }

-- ---- a tree

-- a row of one is a tree
pub tree_noted : (n left sort c : ℕ) (ws : List ℕ) (at : ℕ) {y : Step} {d e : List ℕ} → Rows n left sort 1 c ws at d y e → NotedStep (tree n left sort) (λ u. note_tree c u) ws at d y e
tree_noted n left sort c ws at h = record { answers = one_row (tree n left) sort ws at h.answers; notes = λ o. rowed_one n left ws c c sort (h.notes o) }

-- what `?` hands on where a walk is refused
pub handed_noted : {A : Type 0} (F : Form A) (note : A → State → State) (ws : List ℕ) (at : ℕ) (d : List ℕ) (r : Result ℕ Fault) (f : Fault) {e : List ℕ} → IsErrAnd r (λ x. x ≡ f)
    → NotedStep F note ws at d (Err (refusal_of f)) e → NotedStep F note ws at d (walked r) e
handed_noted F note ws at d r f {e} h x = subst (λ (y : Step). NotedStep F note ws at d y e) (sym (handed r f h refl)) x

pub noted_as : {A : Type 0} (F : Form A) (note : A → State → State) (ws : List ℕ) (at : ℕ) (d : List ℕ) {y z : Step} {e : List ℕ} → y ≡ z → NotedStep F note ws at d y e → NotedStep F note ws at d z e
noted_as F note ws at d {e = e} q x = subst (λ (y : Step). NotedStep F note ws at d y e) q x
