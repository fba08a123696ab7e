-- The notes of a tree, turned one after the other, resolve it where it stands.
use Prim.Native.Nat.{ℕ, suc, ◌+◌, ◌<◌, ◌≤◌}
use native.Mathlib.Omega.{arith}
use mathlib.Core.Path.{◌≡◌, refl, ap, sym, ◌∙◌}
use mathlib.Core.List.{List, [], ◌∷◌, ◌++◌, map, append_assoc}
use mathlib.Core.Bool.{Bool, true, false, ◌||◌, ◌&&◌}
use lib.ListN.{length, get_or, set, take, drop, length-append, length-set}
use lib.Seq.{sets, get_or_at, get_or-set_same, get_or-set_other, set_at, drop-append-add}
use borrow.Author.Tests.{ne_eqb}
use Rattle.std.proofs.lemmas.Bool.{true≢false}
use Rattle.definitions.specs.declared.table.Follows.{Follows}
use Rattle.definitions.specs.Table.{pick, kind_of, value_of, word_of, entry_of, fields_of}
use Rattle.definitions.specs.Tree.{Tree, Forest, node, more, Fields, field_words, tree_words, forest_words, size, sizes}
use Rattle.definitions.specs.Tree as trees
use Rattle.definitions.specs.Direction.{Membership}
use Rattle.definitions.specs.Answers.{Outcome, done, refused, and_then, map_done}
use Rattle.definitions.specs.ResolvingTrees.{Citing, with_slots, NodeStep, goes, stops, node_step, at_node, resolve_tree, resolve_forest}
use Rattle.pack.proofs.EachFollows.{alike, where_true}
use Rattle.directions.proofs.StepWays.{Way, slotless, aggregates, relates, tests, undirected, test_undirected, derived, no_input, slotless_step, way}
use Rattle.directions.proofs.TreeWords.{size_is, fields-length, slots_length}
use Rattle.turning.specs.Notes.{Note, look_by, look_of, noted, within, notes_of, notes_in}
use Rattle.turning.specs.Turns.{KnownTables, Root, citing, Work, work, held, fields_at, step_at, turned_by, turn_node, turn_note, turn_notes}

-- ---- what is shown

abbrev pub ValuesFit : Fields → Type 0
ValuesFit [] = Unit {0}
ValuesFit (f ∷ fs) = (f.1 < 16777216) × ValuesFit fs

-- trees that read back: each node's values fit into words, and it has as many fields as its kind says
unfoldable mutual
  pub Sound : Tree → Type 0
  Sound (node k v fs f) = (v < 16777216) × (length fs ≡ length (fields_of (entry_of k).follows)) × ValuesFit fs × Sounds f

  pub Sounds : Forest → Type 0
  Sounds trees.none = Unit {0}
  Sounds (more t f) = Sound t × Sounds f

-- what comes of notes from the i-th on: these words where the tree's were, and the results below the i-th as before
pub record Came (before words after : List ℕ) (size i : ℕ) (results : List ℕ) (root : Root) (o : Outcome Work) : Type 0 where
  pub left : List ℕ
  pub same : length left ≡ length results
  pub kept : (j : ℕ) → j < i → get_or left j 0 ≡ get_or results j 0
  pub long : length words ≡ size
  pub is : o ≡ done (work (before ++ (words ++ after)) left root)

-- or the refusal
abbrev pub Flat : {A : Type 0} → (A → List ℕ) → List ℕ → List ℕ → ℕ → ℕ → List ℕ → Root → Outcome A → Outcome Work → Type 0
Flat W before after size i results root (done a) o = Came before (W a) after size i results root o
Flat W before after size i results root (refused r) o = o ≡ refused r

-- ---- what a step leaves the children

-- the memberships that it goes on with, the slots that it sets, and the same entity where they do not stand inside it
abbrev pub Leaves : ℕ → Membership → Bool → Follows → Fields → NodeStep → Type 0
Leaves entity m lost w fs (goes fs' e first rest) =
    (first ≡ held (lost || (look_by w).first) m) × (rest ≡ held (lost || (look_by w).rest) m) × ((c : ℕ) × (r : ℕ) × (fs' ≡ with_slots c r fs)) × ((look_by w).opens ≡ false → e ≡ entity)
Leaves entity m lost w fs (stops number other) = Unit {0}

held-held : (lost by : Bool) (m : Membership) → held by (held lost m) ≡ held (lost || by) m
held-held true true m = refl
held-held true false m = refl
held-held false by m = refl

-- a node without slots goes on as it is
quiet : (C : Citing) (entity : ℕ) (m : Membership) (lost : Bool) (w : Follows) (v : ℕ) (fs : Fields) → (look_by w).slots ≡ false
    → node_step C entity (held lost m) w v fs ≡ goes fs entity (held (lost || (look_by w).first) m) (held (lost || (look_by w).rest) m)
quiet C entity m lost w v fs e = slotless_step C entity (held lost m) v fs w e ∙ (λ i. goes fs entity (held-held lost (look_by w).first m i) (held-held lost (look_by w).rest m i))

-- and its children do not stand inside it
shut : (w : Follows) → (look_by w).slots ≡ false → (look_by w).opens ≡ false
unfolding look_by
shut w e = alike (λ w. (look_by w).opens) (λ w. (look_by w).slots && (look_by w).opens) refl w ∙ rw e refl

-- one with slots is noted, and hands on no membership, or the same
step_leaves : (C : Citing) (entity : ℕ) (m : Membership) (lost : Bool) {v : ℕ} {fs : Fields} {w : Follows} {s : NodeStep} → Way C entity (held lost m) v fs w s → (look_by w).slots ≡ true → Leaves entity m lost w fs s
unfolding look_by
step_leaves C entity m lost (slotless w q) e = absurd (true≢false (sym e ∙ q))
step_leaves C entity m lost (aggregates c r kind q) e = (held-held lost true m, held-held lost true m, (c, r, refl), λ e. absurd (true≢false e))
step_leaves C entity m lost (relates c r owner q) e = (held-held lost true m, held-held lost true m, (c, r, refl), λ e. absurd (true≢false e))
step_leaves C entity m lost (tests c r kind q) e = (held-held lost false m, held-held lost false m, (c, r, refl), λ e. refl)
step_leaves C entity m lost (undirected w kind q) e = tt
step_leaves C entity m lost (test_undirected kind q) e = tt
step_leaves C entity m lost derived e = tt
step_leaves C entity m lost (no_input owner number q) e = tt

pub look-leaves : (C : Citing) (entity : ℕ) (m : Membership) (lost : Bool) (w : Follows) (v : ℕ) (fs : Fields) → (look_by w).slots ≡ true → Leaves entity m lost w fs (node_step C entity (held lost m) w v fs)
look-leaves C entity m lost w v fs = step_leaves C entity m lost (way C entity (held lost m) v fs w)

slots-noted : (w : Follows) → (look_by w).slots ≡ true → (look_by w).noted ≡ true
unfolding look_by
slots-noted = where_true (λ w. (look_by w).slots) (λ w. (look_by w).noted ≡ true) (refl, (refl, (refl, tt)))

pub slotted-noted : (k : ℕ) → (look_of k).slots ≡ true → noted k ≡ true
unfolding noted
slotted-noted k e = rw (slots-noted (entry_of k).follows e) refl

-- ---- a node read back from its words

read-fields : (fs : Fields) (after : List ℕ) → ValuesFit fs → map (λ w. (kind_of w, value_of w)) (take (length fs) (field_words fs ++ after)) ≡ fs
read-fields [] after h = refl
read-fields (f ∷ fs) after h =
    let k : kind_of (word_of f.0 f.1) ≡ f.0 = let s = h.0 in omega arith in
    let v : value_of (word_of f.0 f.1) ≡ f.1 = let s = h.0 in omega arith in
    λ i. (k i, v i) ∷ read-fields fs after h.1 i

-- its words, after others and before its children's
abbrev stands : List ℕ → ℕ → ℕ → Fields → List ℕ → List ℕ
stands before k v fs tail = before ++ (word_of k v ∷ (field_words fs ++ tail))

module _ (front tail : List ℕ) (k v : ℕ) (fs : Fields) (at : ℕ) (here : length front ≡ at) (small : v < 16777216) where
  pub kind-there : kind_of (get_or (stands front k v fs tail) at 0) ≡ k
  kind-there = ap kind_of (get_or_at front (word_of k v) (field_words fs ++ tail) 0 at here) ∙ omega arith

  pub value_there : value_of (get_or (stands front k v fs tail) at 0) ≡ v
  value_there = ap value_of (get_or_at front (word_of k v) (field_words fs ++ tail) 0 at here) ∙ omega arith

  read-node : (C : Citing) (entity : ℕ) (m : Membership) → length fs ≡ length (fields_of (entry_of k).follows) → ValuesFit fs
      → step_at C entity m (stands front k v fs tail) at ≡ node_step C entity m (entry_of k).follows v fs
  unfolding step_at
  read-node C entity m many fit =
      let rest : drop (at + 1) (stands front k v fs tail) ≡ field_words fs ++ tail = rw (← here) (drop-append-add front (word_of k v ∷ (field_words fs ++ tail)) 1) in
      let read : fields_at (stands front k v fs tail) (at + 1) (length (fields_of (entry_of k).follows)) ≡ fs = rw (rest, ← many) (read-fields fs tail fit) in
      rw (kind-there, value_there) (ap (node_step C entity m (entry_of k).follows v) read)

-- other words put in the place of some
put : (xs ys : List ℕ) (before tail : List ℕ) (at : ℕ) → length xs ≡ length ys → length before ≡ at → sets (before ++ (xs ++ tail)) at ys ≡ before ++ (ys ++ tail)
put [] [] before tail at same here = refl
put [] (y ∷ ys) before tail at same here = absurd (omega arith)
put (x ∷ xs) [] before tail at same here = absurd (omega arith)
put (x ∷ xs) (y ∷ ys) before tail at same here =
    let e : length (before ++ (y ∷ [])) ≡ suc at = length-append before (y ∷ []) ∙ omega arith in
    ap (λ (l : List ℕ). sets l (suc at) ys) (set_at before x (xs ++ tail) y at here ∙ sym (append_assoc before (y ∷ []) (xs ++ tail)))
    ∙ put xs ys (before ++ (y ∷ [])) tail (suc at) (omega arith) e ∙ append_assoc before (y ∷ []) (ys ++ tail)

-- the slots put in their place
put-slots : (c r : ℕ) (fs : Fields) (before tail : List ℕ) (at : ℕ) → length before ≡ at → sets (before ++ (field_words fs ++ tail)) at (take 2 (field_words (with_slots c r fs))) ≡ before ++ (field_words (with_slots c r fs) ++ tail)
put-slots c r [] before tail at here = refl
put-slots c r (f ∷ []) before tail at here = put (field_words (f ∷ [])) (field_words (f ∷ [])) before tail at refl here
put-slots c r (f ∷ g ∷ fs) before tail at here =
    put (word_of f.0 f.1 ∷ word_of g.0 g.1 ∷ []) (word_of f.0 c ∷ word_of g.0 r ∷ []) before (field_words fs ++ tail) at refl here

node-words : (before after : List ℕ) (k v : ℕ) (fs : Fields) (f : Forest) → before ++ (tree_words (node k v fs f) ++ after) ≡ stands before k v fs (forest_words f ++ after)
unfolding tree_words
node-words before after k v fs f = simp append_assoc

apart : (before tail : List ℕ) (k v : ℕ) (fs : Fields) → stands before k v fs tail ≡ (before ++ (word_of k v ∷ field_words fs)) ++ tail
apart before tail k v fs = sym (append_assoc before (word_of k v ∷ field_words fs) tail)

-- ---- notes one after the other

module _ (K : KnownTables) (ws : List ℕ) where
  then_others : (o : Outcome Work) (f g all : Work → Outcome Work) → ((s : Work) → all s ≡ and_then (f s) g) → and_then o all ≡ and_then (and_then o f) g
  then_others (done s) f g all h = h s
  then_others (refused r) f g all h = refl

  pub turn-append : (i j : ℕ) (ns ms : List Note) (s : Work) → j ≡ i + length ns → turn_notes K ws i (ns ++ ms) s ≡ and_then (turn_notes K ws i ns s) (turn_notes K ws j ms)
  unfolding turn_notes
  turn-append i j [] ms s e = let q : j ≡ i = omega arith in ap (λ (x : ℕ). turn_notes K ws x ms s) (sym q)
  turn-append i j (n ∷ ns) ms s e =
      then_others (turn_note K ws i n s) (turn_notes K ws (suc i) ns) (turn_notes K ws j ms) (turn_notes K ws (suc i) (ns ++ ms)) (λ s'. turn-append (suc i) j ns ms s' (omega arith))

-- what a result is set to, and read again
module _ (results : List ℕ) (i inside entity : ℕ) (room : suc i ≤ length results) (within-i : inside < i) (some-note : 1 ≤ inside) (its : get_or results inside 0 ≡ entity) where
  abbrev after_step : Bool → ℕ → List ℕ
  after_step b e = pick b (set results i e) results

  record Chosen (b : Bool) (e : ℕ) : Type 0 where
    same : length (after_step b e) ≡ length results
    kept : (j : ℕ) → j < i → get_or (after_step b e) j 0 ≡ get_or results j 0
    its-entity : get_or (after_step b e) (pick b i inside) 0 ≡ e
    below : pick b i inside < suc i
    least : 1 ≤ pick b i inside

  chosen : (b : Bool) (e : ℕ) → (b ≡ false → e ≡ entity) → Chosen b e
  chosen true e h =
      record { same = length-set results i e; kept = λ j l. get_or-set_other results i j e 0 (λ q. omega arith); its-entity = get_or-set_same results i e 0 (omega arith); below = omega arith; least = omega arith }
  chosen false e h = record { same = refl; kept = λ j l. refl; its-entity = its ∙ sym (h refl); below = omega arith; least = some-note }

-- ---- in a rule or relation

module _ (K : KnownTables) (root : Root) (ws : List ℕ) where
  abbrev C : Citing
  C = citing K root

  abbrev m : Membership
  m = root.member

  abbrev turned : ℕ → List Note → Work → Outcome Work
  turned i ns s = turn_notes K ws i ns s

  -- what comes of a node's children comes of the node
  node_flat : (k v : ℕ) (fs fs' : Fields) (before after results given : List ℕ) (i j words : ℕ) (f : Outcome Forest) (o : Outcome Work) → length fs' ≡ length fs → length given ≡ length results → ((x : ℕ) → x < i → get_or given x 0 ≡ get_or results x 0) → i ≤ j
      → Flat forest_words (before ++ (word_of k v ∷ field_words fs')) after words j given root f o → Flat tree_words before after (1 + length fs + words) i results root (map_done (node k v fs') f) o
  unfolding tree_words
  node_flat k v fs fs' before after results given i j words (refused r) o e same kept le h = h
  node_flat k v fs fs' before after results given i j words (done f) o e same kept le h =
      record {
        left = h.left;
        same = h.same ∙ same;
        kept = λ x l. h.kept x (omega arith) ∙ kept x l;
        long = let l = length-append (field_words fs') (forest_words f) in let l2 = h.long in omega (arith, fields-length fs');
        is = h.is ∙ ap (λ (l : List ℕ). done (work l h.left root)) (simp append_assoc);
      }

  -- what is shown of a tree, and of the children of a node
  abbrev FlatTree : Tree → Type 0
  FlatTree t =
      (front back before after results : List ℕ) (i inside entity at : ℕ) (lost : Bool) → ws ≡ front ++ (tree_words t ++ back) → length front ≡ at → i + length (notes_of i inside lost at t) ≤ length results → inside < i → 1 ≤ inside → get_or results inside 0 ≡ entity → length before ≡ at
      → Flat tree_words before after (size t) i results root (resolve_tree C entity (held lost m) at t) (turned i (notes_of i inside lost at t) (work (before ++ (tree_words t ++ after)) results root))

  abbrev FlatForest : Forest → Type 0
  FlatForest f =
      (front back before after results : List ℕ) (i inside entity at : ℕ) (first rest : Bool) → ws ≡ front ++ (forest_words f ++ back) → length front ≡ at → i + length (notes_in i inside first rest at f) ≤ length results → inside < i → 1 ≤ inside → get_or results inside 0 ≡ entity → length before ≡ at
      → Flat forest_words before after (sizes f) i results root (resolve_forest C entity (held first m) (held rest m) at f) (turned i (notes_in i inside first rest at f) (work (before ++ (forest_words f ++ after)) results root))

  module _ (k v : ℕ) (fs : Fields) (f : Forest) (small : v < 16777216) (many : length fs ≡ length (fields_of (entry_of k).follows)) (fit : ValuesFit fs) (children : FlatForest f)
      (front back before after results : List ℕ) (i inside entity at : ℕ) (lost : Bool) (source : ws ≡ front ++ (tree_words (node k v fs f) ++ back)) (ahead : length front ≡ at) (room : i + length (notes_of i inside lost at (node k v fs f)) ≤ length results)
      (within-i : inside < i) (some-note : 1 ≤ inside) (its : get_or results inside 0 ≡ entity) (here : length before ≡ at) where
    abbrev Shown : Type 0
    Shown = Flat tree_words before after (size (node k v fs f)) i results root (resolve_tree C entity (held lost m) at (node k v fs f)) (turned i (notes_of i inside lost at (node k v fs f)) (work (before ++ (tree_words (node k v fs f) ++ after)) results root))

    abbrev early : Bool
    early = lost || (look_of k).first

    abbrev beyond : Bool
    beyond = lost || (look_of k).rest

    abbrev under : ℕ → ℕ → List Note
    under j inside = notes_in j inside early beyond (at + 1 + length fs) f

    abbrev tail : List ℕ
    tail = forest_words f ++ after

    there : (fs' : Fields) → length fs' ≡ length fs → length (before ++ (word_of k v ∷ field_words fs')) ≡ at + 1 + length fs
    there fs' e = length-append before (word_of k v ∷ field_words fs') ∙ omega (arith, fields-length fs')

    start : length (front ++ (word_of k v ∷ field_words fs)) ≡ at + 1 + length fs
    start = length-append front (word_of k v ∷ field_words fs) ∙ omega (arith, fields-length fs)

    reads : ws ≡ stands front k v fs (forest_words f ++ back)
    reads = source ∙ node-words front back k v fs f

    from : ws ≡ (front ++ (word_of k v ∷ field_words fs)) ++ (forest_words f ++ back)
    from = reads ∙ apart front (forest_words f ++ back) k v fs

    kind-is : kind_of (get_or ws at 0) ≡ k
    kind-is = ap (λ (l : List ℕ). kind_of (get_or l at 0)) reads ∙ kind-there front (forest_words f ++ back) k v fs at ahead small

    -- its children, after its step
    below : (fs' : Fields) (given : List ℕ) (j inside' e : ℕ) → length fs' ≡ length fs → length given ≡ length results → j + length (under j inside') ≤ length results → inside' < j → 1 ≤ inside' → get_or given inside' 0 ≡ e
        → Flat forest_words (before ++ (word_of k v ∷ field_words fs')) after (sizes f) j given root (resolve_forest C e (held early m) (held beyond m) (at + 1 + length fs) f) (turned j (under j inside') (work ((before ++ (word_of k v ∷ field_words fs')) ++ tail) given root))
    below fs' given j inside' e long same free l least q =
        children (front ++ (word_of k v ∷ field_words fs)) back (before ++ (word_of k v ∷ field_words fs')) after given j inside' e (at + 1 + length fs) early beyond from start (omega arith) l least q (there fs' long)

    -- a node without slots, that is noted or not
    plain : (look_of k).slots ≡ false → (j : ℕ) → i ≤ j → j + length (under j inside) ≤ length results
        → Flat tree_words before after (1 + length fs + sizes f) i results root (resolve_tree C entity (held lost m) at (node k v fs f)) (turned j (under j inside) (work (stands before k v fs tail) results root))
    unfolding resolve_tree
    plain e j le free =
        rw (quiet C entity m lost (entry_of k).follows v fs e, apart before tail k v fs)
        (node_flat k v fs fs before after results results i j (sizes f) (resolve_forest C entity (held early m) (held beyond m) (at + 1 + length fs) f) (turned j (under j inside) (work ((before ++ (word_of k v ∷ field_words fs)) ++ tail) results root))
        refl refl (λ x l. refl) le (below fs results j inside entity refl refl free (omega arith) some-note its))

    unnoted : (look_of k).slots ≡ false → noted k ≡ false → Shown
    unfolding notes_of size
    unnoted e q =
        let free : i + length (under i inside) ≤ length results = rw q at room in
        rw (q, node-words before after k v fs f) (plain e i (omega arith) free)

    noted-plain : (look_of k).slots ≡ false → noted k ≡ true → Shown
    unfolding notes_of size turn_notes turn_note turn_node
    noted-plain e q =
        let o : (look_of k).opens ≡ false = shut (entry_of k).follows e in
        let free : i + suc (length (under (suc i) inside)) ≤ length results = rw (q, o) at room in
        rw (q, o, node-words before after k v fs f, ne_eqb inside 0 (λ z. omega arith), kind-is, e) (plain e (suc i) (omega arith) (omega arith))

    -- one with slots: by its step
    module _ (slots : (look_of k).slots ≡ true) where
      its-room : i + suc (length (under (suc i) (within k i inside))) ≤ length results
      unfolding notes_of
      its-room = rw (slotted-noted k slots) at room

      stepped : (s : NodeStep) → Leaves entity m lost (entry_of k).follows fs s
          → Flat tree_words before after (1 + length fs + sizes f) i results root (at_node C at s (λ fs' e first rest. map_done (node k v fs') (resolve_forest C e first rest (at + 1 + length fs) f)))
          (and_then (turned_by (look_of k).opens i at (work (stands before k v fs tail) results root) s) (turned (suc i) (under (suc i) (within k i inside))))
      stepped (stops number other) leaves = refl
      stepped (goes fs' e first rest) leaves =
          let c = leaves.2.0 in
          let r = leaves.2.1 in
          let long : length fs' ≡ length fs = ap length leaves.2.2 ∙ slots_length c r fs in
          let x = chosen results i inside entity (let q = its-room in omega arith) within-i some-note its (look_of k).opens e leaves.3 in
          let one : length (before ++ (word_of k v ∷ [])) ≡ at + 1 = length-append before (word_of k v ∷ []) ∙ omega arith in
          let put-there : sets (stands before k v fs tail) (at + 1) (take 2 (field_words fs')) ≡ (before ++ (word_of k v ∷ field_words fs')) ++ tail =
          rw leaves.2.2 (ap (λ (l : List ℕ). sets l (at + 1) (take 2 (field_words (with_slots c r fs)))) (sym (append_assoc before (word_of k v ∷ []) (field_words fs ++ tail)))
          ∙ put-slots c r fs (before ++ (word_of k v ∷ [])) tail (at + 1) one ∙ simp append_assoc) in
          let given : List ℕ = pick (look_of k).opens (set results i e) results in
          rw (leaves.0, leaves.1, put-there)
          (node_flat k v fs fs' before after results given i (suc i) (sizes f) (resolve_forest C e (held early m) (held beyond m) (at + 1 + length fs) f)
          (turned (suc i) (under (suc i) (within k i inside)) (work ((before ++ (word_of k v ∷ field_words fs')) ++ tail) given root)) long x.same x.kept (omega arith)
          (below fs' given (suc i) (within k i inside) e long x.same (let q = its-room in omega arith) x.below x.least x.its-entity))

      slotted : Shown
      unfolding notes_of resolve_tree size turn_notes turn_note turn_node
      slotted =
          let reading : step_at C entity (held lost m) ws at ≡ node_step C entity (held lost m) (entry_of k).follows v fs =
          ap (λ (l : List ℕ). step_at C entity (held lost m) l at) reads ∙ read-node front (forest_words f ++ back) k v fs at ahead small C entity (held lost m) many fit in
          rw (slotted-noted k slots, node-words before after k v fs f, ne_eqb inside 0 (λ z. omega arith), kind-is, slots, its, reading)
          (stepped (node_step C entity (held lost m) (entry_of k).follows v fs) (look-leaves C entity m lost (entry_of k).follows v fs slots))

    node_case : Shown
    node_case = go (look_of k).slots refl (noted k) refl
      where
        go : (a : Bool) → (look_of k).slots ≡ a → (b : Bool) → noted k ≡ b → Shown
        go true e b q = slotted e
        go false e true q = noted-plain e q
        go false e false q = unnoted e q

  -- a tree and then others
  module _ (t : Tree) (f : Forest) (others : FlatForest f) (front back before after results : List ℕ) (i inside entity at : ℕ) (first rest : Bool) (source : ws ≡ front ++ (forest_words (more t f) ++ back)) (ahead : length front ≡ at)
      (room : i + length (notes_in i inside first rest at (more t f)) ≤ length results) (within-i : inside < i) (some-note : 1 ≤ inside) (its : get_or results inside 0 ≡ entity) (here : length before ≡ at) where
    abbrev mine : List Note
    mine = notes_of i inside first at t

    abbrev theirs : List Note
    theirs = notes_in (i + length mine) inside rest rest (at + size t) f

    apiece : ws ≡ front ++ (tree_words t ++ (forest_words f ++ back))
    unfolding tree_words
    apiece = source ∙ ap (λ (l : List ℕ). front ++ l) (append_assoc (tree_words t) (forest_words f) back)

    both_rooms : i + length mine + length theirs ≤ length results
    unfolding notes_of
    both_rooms = let r = room in omega (arith, length-append mine theirs)

    joined : (t' : Tree) (given : List ℕ) (g : Outcome Forest) (o : Outcome Work) → length given ≡ length results → ((x : ℕ) → x < i → get_or given x 0 ≡ get_or results x 0) → length (tree_words t') ≡ size t
        → Flat forest_words (before ++ tree_words t') after (sizes f) (i + length mine) given root g o → Flat forest_words before after (size t + sizes f) i results root (map_done (more t') g) o
    unfolding tree_words
    joined t' given (refused r) o e kept q h = h
    joined t' given (done g) o e kept q h =
        record {
          left = h.left;
          same = h.same ∙ e;
          kept = λ x l. h.kept x (omega arith) ∙ kept x l;
          long = length-append (tree_words t') (forest_words g) ∙ (let x = h.long in omega arith);
          is = h.is ∙ ap (λ (l : List ℕ). done (work l h.left root)) (simp append_assoc);
        }

    by_first : (a : Outcome Tree) (o : Outcome Work) → Flat tree_words before (forest_words f ++ after) (size t) i results root a o
        → Flat forest_words before after (size t + sizes f) i results root (and_then a (λ t'. map_done (more t') (resolve_forest C entity (held rest m) (held rest m) (at + size t) f))) (and_then o (turned (i + length mine) theirs))
    by_first (refused r) o h = rw h refl
    by_first (done t') o h =
        let place : length (before ++ tree_words t') ≡ at + size t = length-append before (tree_words t') ∙ (let x = h.long in omega arith) in
        let same : get_or h.left inside 0 ≡ entity = h.kept inside within-i ∙ its in
        let start : length (front ++ tree_words t) ≡ at + size t = length-append front (tree_words t) ∙ omega (arith, size_is t) in
        let q = others (front ++ tree_words t) back (before ++ tree_words t') after h.left (i + length mine) inside entity (at + size t) rest rest (apiece ∙ sym (append_assoc front (tree_words t) (forest_words f ++ back))) start (let x = both_rooms in let y = h.same in omega arith) (omega arith) some-note same place in
        rw (h.is, ← append_assoc before (tree_words t') (forest_words f ++ after))
        (joined t' h.left (resolve_forest C entity (held rest m) (held rest m) (at + size t) f) (turned (i + length mine) theirs (work ((before ++ tree_words t') ++ (forest_words f ++ after)) h.left root)) h.same h.kept h.long q)

    more_case : FlatTree t → Flat forest_words before after (sizes (more t f)) i results root (resolve_forest C entity (held first m) (held rest m) at (more t f))
        (turned i (notes_in i inside first rest at (more t f)) (work (before ++ (forest_words (more t f) ++ after)) results root))
    unfolding notes_of resolve_tree size tree_words
    more_case h =
        rw (turn-append K ws i (i + length mine) mine theirs (work (before ++ ((tree_words t ++ forest_words f) ++ after)) results root) refl, append_assoc (tree_words t) (forest_words f) after)
        (by_first (resolve_tree C entity (held first m) at t) (turned i mine (work (before ++ (tree_words t ++ (forest_words f ++ after))) results root))
        (h front (forest_words f ++ back) before (forest_words f ++ after) results i inside entity at first apiece ahead (let x = both_rooms in omega arith) within-i some-note its here))

  none_case : FlatForest trees.none
  unfolding notes_of resolve_tree size tree_words turn_notes
  none_case front back before after results i inside entity at first rest source ahead room within-i least its here = record { left = results; same = refl; kept = λ x l. refl; long = refl; is = refl }

  mutual
    unfolding Sound

    pub flat_tree : (t : Tree) → Sound t → FlatTree t
    flat_tree (node k v fs f) h = node_case k v fs f h.0 h.1 h.2 (flat_forest f h.3)

    pub flat_forest : (f : Forest) → Sounds f → FlatForest f
    flat_forest trees.none h = none_case
    flat_forest (more t f) h =
        λ front back before after results i inside entity at first rest source ahead room within-i least its here. more_case t f (flat_forest f h.1) front back before after results i inside entity at first rest source ahead room within-i least its here (flat_tree t h.0)
