-- The notes tell which names atoms and Exists name, and which predicates hold judgments of the kinds 102 to 104.
use Prim.Native.Nat.{ℕ, suc, ◌+◌}
use native.Mathlib.Omega.{arith}
use mathlib.Core.Path.{◌≡◌, refl, ap, sym, ◌∙◌}
use Rattle.std.proofs.Math.Bool.{or_assoc, and-false}
use mathlib.Core.List.{List, [], ◌∷◌, ◌++◌, append_assoc}
use mathlib.Core.Bool.{Bool, true, false, ◌||◌, ◌&&◌}
use lib.ListN.{length, length-append}
use lib.Dec.{leb, ltb}
use borrow.Author.Tests.{ltb-true, ltb-false, lt-leb, ne_eqb}
use Rattle.definitions.specs.Table.{pick, word_of, table, entry_of}
use Rattle.definitions.specs.Form.{Fine}
use Rattle.definitions.specs.Tree.{Tree, Forest, node, more, tree, field_words, tree_words, forest_words, size}
use Rattle.definitions.specs.Tree as trees
use Rattle.definitions.specs.Records.{Body}
use Rattle.definitions.specs.Pack.{body}
use Rattle.definitions.specs.Lean.{any}
use Rattle.definitions.specs.Resolving.{holds, held, role_judgment, atom_of}
use Rattle.directions.proofs.TreeWords.{size_is, fields-length}
use Rattle.directions.specs.RecordRuns.{run_words, EachKeeps, body_words}
use Rattle.directions.proofs.TurnedPack.{front}
use Rattle.turning.specs.Notes.{Note, note, look_by, look_of, noted, within, notes_of, notes_in, notes_run, body_notes}
use Rattle.turning.specs.Turns.{value_in, kind_here}
use Rattle.turning.specs.Asked.{some_note}
use Rattle.turning.proofs.FlatLaws.{Sound, Sounds, kind-there, value_there}
use Rattle.turning.proofs.RecordFlat.{body-tree}

pub any_append : {A : Type 0} (f : A → Bool) (l m : List A) → any f (l ++ m) ≡ (any f l || any f m)
any_append f [] m = refl
any_append f (a ∷ l) m = ap (λ (b : Bool). f a || b) (any_append f l m) ∙ sym (or_assoc (f a) (any f l) (any f m))

-- a sort of nodes that are all noted
pub record AllNoted (is : ℕ → ℕ → Bool) : Type 0 where
  pub others : (k v : ℕ) → noted k ≡ false → is k v ≡ false

module _ (is : ℕ → ℕ → Bool) (all : AllNoted is) (ws : List ℕ) where
  abbrev some_of : List Note → Bool
  some_of ns = some_note is ws ns

  -- ---- trees

  node-asked : (k v : ℕ) (at inside : ℕ) (lost : Bool) (ns ms : List Note) (rest : Bool) → kind_here ws at ≡ k → value_in ws at ≡ v → some_of ns ≡ rest → some_of ms ≡ rest → (b : Bool) → noted k ≡ b → some_of (pick b (note at inside lost ∷ ns) ms) ≡ (is k v || rest)
  node-asked k v at inside lost ns ms rest e f g h true q = rw (e, f, g) refl
  node-asked k v at inside lost ns ms rest e f g h false q = rw (all.others k v q) h

  mutual
    unfolding Sound notes_of holds tree_words size

    pub tree-asked : (t : Tree) → Sound t → (front back : List ℕ) (i inside at : ℕ) (lost : Bool) → ws ≡ front ++ (tree_words t ++ back) → length front ≡ at → some_of (notes_of i inside lost at t) ≡ holds is t
    tree-asked (node k v fs f) h front back i inside at lost source ahead =
        let open_words : ws ≡ front ++ (word_of k v ∷ (field_words fs ++ (forest_words f ++ back))) = source ∙ simp append_assoc in
        let past : ws ≡ (front ++ (word_of k v ∷ field_words fs)) ++ (forest_words f ++ back) = open_words ∙ sym (append_assoc front (word_of k v ∷ field_words fs) (forest_words f ++ back)) in
        let start : length (front ++ (word_of k v ∷ field_words fs)) ≡ at + 1 + length fs = length-append front (word_of k v ∷ field_words fs) ∙ omega (arith, fields-length fs) in
        let kind : kind_here ws at ≡ k = ap (λ (l : List ℕ). kind_here l at) open_words ∙ kind-there front (forest_words f ++ back) k v fs at ahead h.0 in
        let value : value_in ws at ≡ v = ap (λ (l : List ℕ). value_in l at) open_words ∙ value_there front (forest_words f ++ back) k v fs at ahead h.0 in
        let first : Bool = lost || (look_of k).first in
        let rest : Bool = lost || (look_of k).rest in
        node-asked k v at inside lost (notes_in (suc i) (within k i inside) first rest (at + 1 + length fs) f) (notes_in i inside first rest (at + 1 + length fs) f) (held is f) kind value
        (forest_asked f h.3 (front ++ (word_of k v ∷ field_words fs)) back (suc i) (within k i inside) (at + 1 + length fs) first rest past start)
        (forest_asked f h.3 (front ++ (word_of k v ∷ field_words fs)) back i inside (at + 1 + length fs) first rest past start) (noted k) refl

    forest_asked : (f : Forest) → Sounds f → (front back : List ℕ) (i inside at : ℕ) (first rest : Bool) → ws ≡ front ++ (forest_words f ++ back) → length front ≡ at → some_of (notes_in i inside first rest at f) ≡ held is f
    forest_asked trees.none h front back i inside at first rest source ahead = refl
    forest_asked (more t f) h front back i inside at first rest source ahead =
        let apiece : ws ≡ front ++ (tree_words t ++ (forest_words f ++ back)) = source ∙ ap (λ (l : List ℕ). front ++ l) (append_assoc (tree_words t) (forest_words f) back) in
        let start : length (front ++ tree_words t) ≡ at + size t = length-append front (tree_words t) ∙ omega (arith, size_is t) in
        let mine : List Note = notes_of i inside first at t in
        let theirs : List Note = notes_in (i + length mine) inside rest rest (at + size t) f in
        any_append _ mine theirs ∙ ap (λ (b : Bool). b || some_of theirs) (tree-asked t h.0 front (forest_words f ++ back) i inside at first apiece ahead)
        ∙ ap (λ (b : Bool). holds is t || b) (forest_asked f h.1 (front ++ tree_words t) back (i + length mine) inside (at + size t) rest rest (apiece ∙ sym (append_assoc front (tree_words t) (forest_words f ++ back))) start)

  -- ---- records

  abbrev Asked : {A : Type 0} → (A → List ℕ) → (ℕ → ℕ → A → List Note) → (A → Bool) → A → Type 0
  Asked W N g a = (front back : List ℕ) (i at : ℕ) → ws ≡ front ++ (W a ++ back) → length front ≡ at → some_of (N i at a) ≡ g a

  pub run_asked : {A : Type 0} (W : A → List ℕ) (N : ℕ → ℕ → A → List Note) (g : A → Bool) (Keeps : A → Type 0) → ((a : A) → Keeps a → Asked W N g a) → (l : List A) → EachKeeps Keeps l → Asked (run_words W) (notes_run W N) (any g) l
  unfolding notes_run
  run_asked W N g Keeps each [] h front back i at source ahead = refl
  run_asked W N g Keeps each (a ∷ l) h front back i at source ahead =
      let apiece : ws ≡ front ++ (W a ++ (run_words W l ++ back)) = source ∙ ap (λ (x : List ℕ). front ++ x) (append_assoc (W a) (run_words W l) back) in
      let start : length (front ++ W a) ≡ at + length (W a) = length-append front (W a) ∙ omega arith in
      let theirs : List Note = notes_run W N (i + length (N i at a)) (at + length (W a)) l in
      any_append _ (N i at a) theirs ∙ ap (λ (b : Bool). b || some_of theirs) (each a h.0 front (run_words W l ++ back) i at apiece ahead)
      ∙ ap (λ (b : Bool). g a || b) (run_asked W N g Keeps each l h.1 (front ++ W a) back (i + length (N i at a)) (at + length (W a)) (apiece ∙ sym (append_assoc front (W a) (run_words W l ++ back))) start)

  pub body-asked : (n inside : ℕ) (b : Body) → Fine (body n) b → Asked body_words (body_notes inside) (λ b. holds is b.tree) b
  body-asked n inside b f front back i at source ahead =
      let one : List ℕ = word_of 27 b.sort ∷ [] in
      tree-asked b.tree (body-tree n b f) (front ++ one) back i inside (at + 1) false (source ∙ sym (append_assoc front one (tree_words b.tree ++ back))) (length-append front one ∙ omega arith)

-- ---- the two sorts

-- a kind that is not noted is none of 102 to 104
other-kind : (k : ℕ) → noted k ≡ false → (k ≡ 102 → ⊥) × (k ≡ 103 → ⊥) × (k ≡ 104 → ⊥)
unfolding noted look_by entry_of table
other-kind k e = (λ q. no (sym (ap (λ (x : ℕ). noted x) q) ∙ e), λ q. no (sym (ap (λ (x : ℕ). noted x) q) ∙ e), λ q. no (sym (ap (λ (x : ℕ). noted x) q) ∙ e))
  where
    no : true ≡ false → ⊥
    no z = let y : ◌≡◌ {A = ℕ} 0 1 = cc in omega arith

pub role_others : AllNoted role_judgment
role_others = record { others = λ k v e. go k (other-kind k e) (ltb k 102) refl }
  where
    go : (k : ℕ) → (k ≡ 102 → ⊥) × (k ≡ 103 → ⊥) × (k ≡ 104 → ⊥) → (b : Bool) → ltb k 102 ≡ b → (leb 102 k && leb k 104) ≡ false
    go k h true q = let l = ltb-true k 102 q in rw (lt-leb 102 k l) refl
    go k h false q = let l = ltb-false k 102 q in let x = h.0 in let y = h.1 in let z = h.2 in rw (lt-leb k 104 (omega arith)) (and-false (leb 102 k))

pub atom_others : (name : ℕ) → AllNoted (atom_of name)
atom_others name = record { others = λ k v e. let h = other-kind k e in rw (ne_eqb k 102 h.0, ne_eqb k 103 h.1) refl }
