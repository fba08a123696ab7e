-- What the readers note are the codes of the list of notes, behind those that were there; and there is room for them.
use Prim.Native.Nat.{ℕ, zero, suc, ◌+◌, ◌%◌, ◌≤◌, ◌<◌}
use native.Mathlib.Omega.{arith}
use mathlib.Core.Path.{◌≡◌, refl, ap, sym, ◌∙◌}
use mathlib.Core.List.{List, [], ◌∷◌, ◌++◌, map, map-append}
use mathlib.Core.Bool.{Bool, true, false, ◌||◌, or-true}
use lib.ListN.{length, get_or, set, length-append, length-map, length-set}
use lib.Seq.{sets, get_or-set_same, set-set, set_comm}
use Rattle.std.proofs.lemmas.Bool.{true≢false}
use Rattle.std.proofs.lemmas.List.{set-get_or}
use Rattle.reading.proofs.TreeLaws.{turned_away}
use Rattle.definitions.specs.declared.table.Follows.{Follows}
use Rattle.definitions.specs.Table.{pick, entry_of, fields_of, children_of}
use Rattle.definitions.specs.Form.{word, only, FineEach, Fine}
use Rattle.pack.proofs.EachFollows.{where_true}
use Rattle.definitions.specs.Tree.{Tree, Forest, node, more, heads, last_field, fields, follow, tree, size, sizes}
use Rattle.definitions.specs.TreeRows.{of_forest}
use Rattle.definitions.specs.Tree as trees
use Rattle.reading.specs.Notes.{look_by, look_of, noted, Note, within, context_of, note_code, notes_of, notes_in}
use Rattle.reading.specs.Noting.{losing, push, next_note, in_next, past, child_in, note_tree, note_forest, push_all}

-- ---- numbers noted one after the other

pub push-long : (x : ℕ) (d : List ℕ) → length (push x d) ≡ length d
unfolding push
push-long x d = length-set (set d (next_note d) x) 0 (next_note d) ∙ length-set d (next_note d) x

pub push-count : (x : ℕ) (d : List ℕ) → 0 < length d → get_or d 0 0 < 8192 → get_or (push x d) 0 0 ≡ get_or d 0 0 + 1
unfolding push
push-count x d l h =
    let k : 0 < length (set d (next_note d) x) = omega (arith, length-set d (next_note d) x) in
    let n : next_note d ≡ get_or d 0 0 + 1 = omega arith in
    get_or-set_same (set d (next_note d) x) 0 (next_note d) 0 k ∙ n

pub all-long : (xs d : List ℕ) → length (push_all xs d) ≡ length d
all-long [] d = refl
all-long (x ∷ xs) d = all-long xs (push x d) ∙ push-long x d

pub all-count : (xs d : List ℕ) → 0 < length d → get_or d 0 0 + length xs ≤ 8192 → get_or (push_all xs d) 0 0 ≡ get_or d 0 0 + length xs
all-count [] d l h = omega arith
all-count (x ∷ xs) d l h =
    let n = push-count x d l (omega arith) in
    let k : 0 < length (push x d) = omega (arith, push-long x d) in
    omega (arith, n, all-count xs (push x d) k (omega (arith, n)))

pub all_append : (xs ys d : List ℕ) → push_all (xs ++ ys) d ≡ push_all ys (push_all xs d)
all_append [] ys d = refl
all_append (x ∷ xs) ys d = all_append xs ys (push x d)

-- in one run of stores, and the count
sets_first : (xs d : List ℕ) (j a b : ℕ) → 0 < j → set (sets (set d 0 a) j xs) 0 b ≡ set (sets d j xs) 0 b
sets_first [] d j a b h = set-set d 0 a b
sets_first (x ∷ xs) d j a b h =
    ap (λ (l : List ℕ). set (sets l (suc j) xs) 0 b) (set_comm d 0 j a x (λ e. omega arith)) ∙ sets_first xs (set d j x) (suc j) a b (omega arith)

pub all_sets : (xs d : List ℕ) → 0 < length d → get_or d 0 0 + length xs ≤ 8192 → push_all xs d ≡ set (sets d (get_or d 0 0 + 1) xs) 0 (get_or d 0 0 + length xs)
unfolding push
all_sets [] d l h = let z : get_or d 0 0 + 0 ≡ get_or d 0 0 = omega arith in sym (rw z (set-get_or d 0 0))
all_sets (x ∷ xs) d l h =
    let g = push-count x d l (omega arith) in
    let i : next_note d ≡ get_or d 0 0 + 1 = omega arith in
    let m : 0 < length (push x d) = omega (arith, push-long x d) in
    let j : get_or (push x d) 0 0 + 1 ≡ suc (get_or d 0 0 + 1) = omega (arith, g) in
    let c : get_or (push x d) 0 0 + length xs ≡ get_or d 0 0 + length (x ∷ xs) = omega (arith, g) in
    all_sets xs (push x d) m (omega (arith, g))
    ∙ (λ t. set (sets (push x d) (j t) xs) 0 (c t))
    ∙ sets_first xs (set d (next_note d) x) (suc (get_or d 0 0 + 1)) (next_note d) (get_or d 0 0 + length (x ∷ xs)) (omega arith)
    ∙ (λ t. set (sets (set d (i t) x) (suc (get_or d 0 0 + 1)) xs) 0 (get_or d 0 0 + length (x ∷ xs)))

-- ---- contexts

loses : (inside : ℕ) (lost by : Bool) → pick by (losing (context_of inside lost)) (context_of inside lost) ≡ context_of inside (lost || by)
unfolding losing
loses inside true true = omega arith
loses inside true false = refl
loses inside false true = omega arith
loses inside false false = refl

-- a node inside which its children stand is noted, and they lose the membership
pub record Opens (w : Follows) : Type 0 where
  pub noted : (look_by w).noted ≡ true
  pub first : (look_by w).first ≡ true
  pub rest : (look_by w).rest ≡ true

opens : (w : Follows) → (look_by w).opens ≡ true → Opens w
unfolding look_by
opens = where_true (λ w. (look_by w).opens) Opens (record { noted = refl; first = refl; rest = refl }, (record { noted = refl; first = refl; rest = refl }, tt))

no_base : (inside : ℕ) (lost : Bool) → context_of inside lost % 8192 ≡ 0
no_base inside true = omega arith
no_base inside false = omega arith

-- the context of a child
child-in : (w : Follows) (by : Bool) → ((look_by w).opens ≡ true → by ≡ true) → (i inside : ℕ) (lost : Bool) (d : List ℕ) → ((look_by w).opens ≡ true → next_note d ≡ i)
    → child_in w by (context_of inside lost) d ≡ context_of (pick (look_by w).opens i inside) (lost || by)
unfolding child_in
child-in w by b i inside lost d n = go (look_by w).opens refl
  where
    go : (o : Bool) → (look_by w).opens ≡ o → pick (look_by w).opens (in_next d + context_of inside lost % 8192) (pick by (losing (context_of inside lost)) (context_of inside lost)) ≡ context_of (pick (look_by w).opens i inside) (lost || by)
    go true e = rw (e, b e, or-true lost, n e, no_base inside lost) (omega arith)
    go false e = rw e (loses inside lost by)

-- ---- trees

abbrev codes : List Note → List ℕ
codes l = map note_code l

-- each node has as many fields as its kind says
mutual
  pub Shaped : Tree → Type 0
  Shaped (node k v fs f) = (length fs ≡ length (fields_of (entry_of k).follows)) × Shapes f

  pub Shapes : Forest → Type 0
  Shapes trees.none = Unit {0}
  Shapes (more t f) = Shaped t × Shapes f

-- what is to be shown of a row
abbrev Noteds : Forest → Type 0
Noteds f = (i inside : ℕ) (a b : Bool) (at : ℕ) (d : List ℕ) → 0 < length d → get_or d 0 0 + 1 ≡ i → get_or d 0 0 + length (notes_in i inside a b at f) ≤ 8192
    → note_forest (context_of inside a) (context_of inside b) f (at, d) ≡ (at + sizes f, push_all (codes (notes_in i inside a b at f)) d)

or_noted : (k : ℕ) → (look_by (entry_of k).follows).noted ≡ true → noted k ≡ true
unfolding noted
or_noted k e = rw e refl

shut : (k : ℕ) → noted k ≡ false → (look_by (entry_of k).follows).opens ≡ false
shut k q = go (look_by (entry_of k).follows).opens refl
  where
    go : (o : Bool) → (look_by (entry_of k).follows).opens ≡ o → o ≡ false
    go true e = absurd (true≢false (sym (or_noted k (opens (entry_of k).follows e).noted) ∙ q))
    go false e = refl

noted-node : (b : Bool) (k v : ℕ) → noted k ≡ b → (fs : List (ℕ × ℕ)) (f : Forest) → length fs ≡ length (fields_of (entry_of k).follows) → Noteds f → (i inside : ℕ) (lost : Bool) (at : ℕ) (d : List ℕ)
    → 0 < length d → get_or d 0 0 + 1 ≡ i → get_or d 0 0 + length (notes_of i inside lost at (node k v fs f)) ≤ 8192
    → note_tree (context_of inside lost) (node k v fs f) (at, d) ≡ (at + size (node k v fs f), push_all (codes (notes_of i inside lost at (node k v fs f))) d)
unfolding note_tree notes_of size past
noted-node true k v q fs f s deep i inside lost at d l e room =
    let w = (entry_of k).follows in
    let x = at + 1 + context_of inside lost in
    let first = lost || (look_by w).first in
    let rest = lost || (look_by w).rest in
    let its = notes_in (suc i) (within k i inside) first rest (at + 1 + length fs) f in
    let r : get_or d 0 0 + suc (length its) ≤ 8192 = rw q at room in
    let n : next_note d ≡ i = omega (arith, e, r) in
    let p : at + 1 + length (fields_of w) ≡ at + 1 + length fs = omega (arith, s) in
    let z : at + 1 + length fs + sizes f ≡ at + (1 + length fs + sizes f) = omega arith in
    let m = push-count x d l (omega (arith, r)) in
    rw (q, p, child-in w (look_by w).first (λ o. (opens w o).first) i inside lost d (λ o. n), child-in w (look_by w).rest (λ o. (opens w o).rest) i inside lost d (λ o. n))
    (deep (suc i) (within k i inside) first rest (at + 1 + length fs) (push x d) (omega (arith, l, push-long x d)) (omega (arith, m, e)) (omega (arith, m, r))
    ∙ (λ y. (z y, push_all (codes its) (push x d))))
noted-node false k v q fs f s deep i inside lost at d l e room =
    let w = (entry_of k).follows in
    let first = lost || (look_by w).first in
    let rest = lost || (look_by w).rest in
    let p : at + 1 + length (fields_of w) ≡ at + 1 + length fs = omega (arith, s) in
    let z : at + 1 + length fs + sizes f ≡ at + (1 + length fs + sizes f) = omega arith in
    let o = shut k q in
    let a : child_in w (look_by w).first (context_of inside lost) d ≡ context_of inside first = child-in w (look_by w).first (λ h. absurd (true≢false (sym h ∙ o))) i inside lost d (λ h. absurd (true≢false (sym h ∙ o))) ∙ rw o refl in
    let b : child_in w (look_by w).rest (context_of inside lost) d ≡ context_of inside rest = child-in w (look_by w).rest (λ h. absurd (true≢false (sym h ∙ o))) i inside lost d (λ h. absurd (true≢false (sym h ∙ o))) ∙ rw o refl in
    rw (q, p, a, b) (deep i inside first rest (at + 1 + length fs) d l e (rw q at room) ∙ (λ y. (z y, push_all (codes (notes_in i inside first rest (at + 1 + length fs) f)) d)))

mutual
  unfolding note_tree notes_of size Shaped

  pub noted-tree : (t : Tree) → Shaped t → (i inside : ℕ) (lost : Bool) (at : ℕ) (d : List ℕ) → 0 < length d → get_or d 0 0 + 1 ≡ i → get_or d 0 0 + length (notes_of i inside lost at t) ≤ 8192
      → note_tree (context_of inside lost) t (at, d) ≡ (at + size t, push_all (codes (notes_of i inside lost at t)) d)
  noted-tree (node k v fs f) s i inside lost at d l e room =
      noted-node (noted k) k v refl fs f s.0 (λ i inside a b at d l e r. noted_forest f s.1 i inside a b at d l e r) i inside lost at d l e room

  pub noted_forest : (f : Forest) → Shapes f → (i inside : ℕ) (a b : Bool) (at : ℕ) (d : List ℕ) → 0 < length d → get_or d 0 0 + 1 ≡ i → get_or d 0 0 + length (notes_in i inside a b at f) ≤ 8192
      → note_forest (context_of inside a) (context_of inside b) f (at, d) ≡ (at + sizes f, push_all (codes (notes_in i inside a b at f)) d)
  noted_forest trees.none s i inside a b at d l e room = let z : at ≡ at + 0 = omega arith in λ x. (z x, d)
  noted_forest (more t f) s i inside a b at d l e room =
      let mine = notes_of i inside a at t in
      let its = notes_in (i + length mine) inside b b (at + size t) f in
      let len = length-append mine its in
      let d₁ = push_all (codes mine) d in
      let few = length-map mine note_code in
      let n = all-count (codes mine) d l (omega (arith, few, room, len)) in
      let z : at + size t + sizes f ≡ at + (size t + sizes f) = omega arith in
      ap (note_forest (context_of inside b) (context_of inside b) f) (noted-tree t s.0 i inside a at d l e (omega (arith, room, len)))
      ∙ noted_forest f s.1 (i + length mine) inside b b (at + size t) d₁ (omega (arith, l, all-long (codes mine) d)) (omega (arith, n, e, few)) (omega (arith, n, few, room, len))
      ∙ (λ x. (z x, (sym (all_append (codes mine) (codes its) d) ∙ ap (λ (y : List ℕ). push_all y d) (sym (map-append note_code mine its))) x))

-- ---- there is room: a note stands for one word at least

few-node : (b : Bool) (x : Note) (l m : List Note) (fields below : ℕ) → length l ≤ below → length m ≤ below → length (pick b (x ∷ l) m) ≤ 1 + fields + below
few-node true x l m fields below h k = omega (arith, h)
few-node false x l m fields below h k = omega (arith, k)

mutual
  unfolding notes_of size

  pub few-tree : (t : Tree) (i inside : ℕ) (lost : Bool) (at : ℕ) → length (notes_of i inside lost at t) ≤ size t
  few-tree (node k v fs f) i inside lost at =
      few-node (noted k) _ _ _ (length fs) (sizes f)
      (few_forest f (suc i) (within k i inside) (lost || (look_of k).first) (lost || (look_of k).rest) (at + 1 + length fs))
      (few_forest f i inside (lost || (look_of k).first) (lost || (look_of k).rest) (at + 1 + length fs))

  pub few_forest : (f : Forest) (i inside : ℕ) (a b : Bool) (at : ℕ) → length (notes_in i inside a b at f) ≤ sizes f
  few_forest trees.none i inside a b at = omega arith
  few_forest (more t f) i inside a b at =
      let mine = notes_of i inside a at t in
      omega (arith, few-tree t i inside a at, few_forest f (i + length mine) inside b b (at + size t), length-append mine (notes_in (i + length mine) inside b b (at + size t) f))

-- ---- what is read has its fields

fields-long : (n : ℕ) (ks : List (List ℕ)) (l : List (ℕ × ℕ)) → FineEach (λ kinds a. Fine (word (only kinds) n) a) ks l → length l ≡ length ks
fields-long n [] [] h = refl
fields-long n [] (x ∷ l) h = absurd h
fields-long n (k ∷ ks) [] h = absurd h
fields-long n (k ∷ ks) (x ∷ l) h = ap suc (fields-long n ks l h.1)

mutual
  unfolding tree follow fields Fine Shaped

  pub shaped : (t : Tree) (n d sort : ℕ) → Fine (tree n d sort) t → Shaped t
  shaped (node k v fs f) n zero sort h = absurd (turned_away sort k h.0.0)
  shaped (node k v fs f) n (suc d) sort h = (fields-long n (fields_of (entry_of k).follows) fs h.1.0, shapes f n d (children_of (entry_of k).follows v (last_field fs)) h.1.1)

  pub shapes : (f : Forest) (n d : ℕ) (sorts : List ℕ) → FineEach (λ sort t. Fine (tree n d sort) t) sorts (of_forest f) → Shapes f
  shapes trees.none n d [] h = tt
  shapes trees.none n d (s ∷ sorts) h = absurd h
  shapes (more t f) n d [] h = absurd h
  shapes (more t f) n d (s ∷ sorts) h = (shaped t n d s h.0, shapes f n d sorts h.1)
