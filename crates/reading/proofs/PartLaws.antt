-- A part of the words that starts at a place: what is read in it from its start is read in the words from that place on, and what is
-- noted in it, in a context with that place in its base, is noted in the words.
use Prim.Native.Nat.{ℕ, zero, suc, ◌+◌, ◌-◌, ◌%◌, ◌≤◌, ◌<◌}
use native.Mathlib.Omega.{arith}
use mathlib.Core.Path.{◌≡◌, refl, ap, sym, ◌∙◌, subst}
use mathlib.Core.List.{List, [], ◌∷◌}
use mathlib.Core.Bool.{Bool, true, false}
use lib.ListN.{length, take, drop, replicate, length-drop}
use lib.Seq.{drop-drop}
use lib.Dec.{eqb}
use borrow.Author.Rules.{part_to_end}
use Rattle.definitions.specs.declared.table.Follows.{Follows}
use Rattle.definitions.specs.Table.{pick, kind_of, value_of, entry_of, fields_of, children_of}
use Rattle.definitions.specs.Form.{Read, got, refused, because, bind, map_read, allowed_here, only, Form, word, empty, each, ◌▹◌, via, read_by}
use Rattle.definitions.specs.Tree.{Tree, Forest, node, more, heads, last_field, fields, follow, tree}
use Rattle.definitions.specs.TreeRows.{to_forest, to_tree, of_tree, to_of, of_to}
use Rattle.definitions.specs.Tree as trees
use Rattle.std.specs.Prelude.{Ok, Err}
use Rattle.pack.specs.declared.cursor.Cursor.{Cursor}
use Rattle.pack.specs.Readers.{Step, on, step_by, step_of, skip_over}
use Rattle.pack.proofs.StepLaws.{on_place, no_on}
use Rattle.pack.proofs.FormLaws.{clash}
use Rattle.reading.specs.Notes.{look_by, noted}
use Rattle.reading.specs.Faults.{later}
use Rattle.reading.specs.Noting.{Based, State, losing, push, in_next, past, child_in, note_tree, note_forest, Came, Sorted, Rows}

-- ---- bases

pub based_losing : (ws : List ℕ) {c x : ℕ} → Based ws c → x ≡ losing c → Based ws x
unfolding losing
based_losing ws h e = record { few = omega (arith, h.few, e); room = omega (arith, h.room, e) }

pub based_inside : (ws : List ℕ) {c x : ℕ} → Based ws c → (d : List ℕ) → x ≡ in_next d → Based ws (x + c % 8192)
based_inside ws h d e = record { few = omega (arith, e); room = omega (arith, h.room, e) }

pub based_part : (ws : List ℕ) (b : ℕ) {part : List ℕ} → length part + b ≡ length ws → {c x : ℕ} → Based ws c → (d : List ℕ) → x ≡ in_next d → Based part (x + c % 8192 + b)
based_part ws b l h d e = record { few = omega (arith, h.room, e); room = omega (arith, h.room, e, l) }

-- ---- reading

abbrev moved : {A : Type 0} → ℕ → Read A → Read A
moved b (got a at ws) = got a (at + b) ws
moved b (refused r) = refused (later b r)

abbrev pub shifted : ℕ → Step → Step
shifted b (Ok (v, k)) = on v (record { at = k.at + b })
shifted b (Err r) = Err (later b r)

-- a form that is read alike wherever the words stand
abbrev Alike : {A : Type 0} → Form A → Type 0
Alike F = (b at : ℕ) (ws : List ℕ) → read_by F (at + b) ws ≡ moved b (read_by F at ws)

map_moved : {A B : Type 0} (f : A → B) (b : ℕ) (m : Read A) → map_read f (moved b m) ≡ moved b (map_read f m)
map_moved f b (got a at ws) = refl
map_moved f b (refused r) = refl

bind_moved : {A B : Type 0} (b : ℕ) (m : Read A) (k : A → ℕ → List ℕ → Read B) → ((a : A) (at : ℕ) (ws : List ℕ) → k a (at + b) ws ≡ moved b (k a at ws)) → bind (moved b m) k ≡ moved b (bind m k)
bind_moved b (got a at ws) k h = h a at ws
bind_moved b (refused r) k h = refl

alike_word : (turned : ℕ → ℕ) (n : ℕ) → Alike (word turned n)
unfolding read_by
alike_word turned n b at [] = refl
alike_word turned n b at (w ∷ ws) = go (eqb (turned (kind_of w)) 0) (allowed_here n (kind_of w) (value_of w))
  where
    go : (x y : Bool)
        → pick {A = Read (ℕ × ℕ)} x (pick {A = Read (ℕ × ℕ)} y (got (kind_of w, value_of w) (at + b + 1) ws) (because 4 (at + b))) (because (turned (kind_of w)) (at + b))
        ≡ moved b (pick {A = Read (ℕ × ℕ)} x (pick {A = Read (ℕ × ℕ)} y (got (kind_of w, value_of w) (at + 1) ws) (because 4 at)) (because (turned (kind_of w)) at))
    go true true = let z : at + b + 1 ≡ at + 1 + b = omega arith in ap (λ (i : ℕ). got (kind_of w, value_of w) i ws) z
    go true false = refl
    go false y = refl

alike_then : {A B : Type 0} (F : Form A) (G : A → Form B) → Alike F → ((a : A) → Alike (G a)) → Alike (F ▹ G)
unfolding read_by
alike_then {A} {B} F G f g b at ws =
    let k : A → ℕ → List ℕ → Read (A × B) = λ a i vs. map_read (λ y. (a, y)) (read_by (G a) i vs) in
    ap (λ (m : Read A). bind m k) (f b at ws)
    ∙ bind_moved b (read_by F at ws) k (λ a i vs. ap (map_read (λ y. (a, y))) (g a b i vs) ∙ map_moved (λ y. (a, y)) b (read_by (G a) i vs))

alike_each : {X A : Type 0} (F : X → Form A) → ((x : X) → Alike (F x)) → (xs : List X) → Alike (each F xs)
unfolding read_by
alike_each F f [] b at ws = refl
alike_each {X} {A} F f (x ∷ xs) b at ws =
    let k : A → ℕ → List ℕ → Read (List A) = λ a i vs. map_read (λ l. a ∷ l) (read_by (each F xs) i vs) in
    ap (λ (m : Read A). bind m k) (f x b at ws)
    ∙ bind_moved b (read_by (F x) at ws) k (λ a i vs. ap (map_read (λ l. a ∷ l)) (alike_each F f xs b i vs) ∙ map_moved (λ l. a ∷ l) b (read_by (each F xs) i vs))

alike_via : {A B : Type 0} (to : A → B) (from : B → A) (tf : (b : B) → to (from b) ≡ b) (ft : (a : A) → from (to a) ≡ a) (F : Form A) → Alike F → Alike (via to from tf ft F)
unfolding read_by
alike_via to from tf ft F f b at ws = ap (map_read to) (f b at ws) ∙ map_moved to b (read_by F at ws)

alike_empty : {A : Type 0} (a : A) → Alike (empty a)
unfolding read_by
alike_empty a b at ws = refl

alike_tree : (n left sort : ℕ) → Alike (tree n left sort)
unfolding tree follow fields
alike_tree n zero sort = alike_via to_tree of_tree to_of of_to _ (alike_then (word (heads sort zero) n) _ (alike_word (heads sort zero) n) (λ h. alike_empty ([], [])))
alike_tree n (suc left) sort =
    alike_via to_tree of_tree to_of of_to _ (alike_then (word (heads sort (suc left)) n) _ (alike_word (heads sort (suc left)) n)
    (λ h. alike_then (fields n (fields_of (entry_of h.0).follows)) _ (alike_each (λ kinds. word (only kinds) n) (λ kinds. alike_word (only kinds) n) (fields_of (entry_of h.0).follows))
    (λ fs. alike_each (tree n left) (λ s. alike_tree n left s) (children_of (entry_of h.0).follows h.1 (last_field fs)))))

-- in a part and in the words
module _ {A : Type 0} (F : Form A) (alike : Alike F) (ws : List ℕ) (b : ℕ) where
  part_read : read_by F b (drop b ws) ≡ moved b (read_by F 0 (drop b ws))
  part_read = let z : 0 + b ≡ b = omega arith in subst (λ (i : ℕ). read_by F i (drop b ws) ≡ moved b (read_by F 0 (drop b ws))) z (alike b 0 (drop b ws))

  part_step : skip_over F ws b ≡ shifted b (skip_over F (drop b ws) 0)
  unfolding step_of
  part_step = ap (step_by (λ a. 0)) part_read ∙ go (read_by F 0 (drop b ws))
    where
      go : (m : Read A) → step_by (λ a. 0) (moved b m) ≡ shifted b (step_by (λ a. 0) m)
      go (got a at vs) = refl
      go (refused r) = refl

-- where a tree was read there are words
some_words : (n left : ℕ) (sorts : List ℕ) (at : ℕ) (ws : List ℕ) {t : Tree} {l : List Tree} {r : ℕ} {rest : List ℕ} → read_by (each (tree n left) sorts) at ws ≡ got (t ∷ l) r rest → 0 < length ws
unfolding read_by tree
some_words n left sorts at (w ∷ ws) e = omega arith
some_words n left [] at [] e = let z : ◌≡◌ {A = ℕ} 0 1 = cc in absurd (omega arith)
some_words n zero (s ∷ sorts) at [] e = absurd (clash e)
some_words n (suc left) (s ∷ sorts) at [] e = absurd (clash e)

-- ---- notes

abbrev up : ℕ → State → State
up b s = (s.0 + b, s.1)

lost_moved : (b c x y u v : ℕ) → u ≡ x + b → v ≡ y + b → x ≤ c → c + b - u + 8192 + v ≡ c - x + 8192 + y + b
lost_moved b c x y u v p q h = omega arith

same_low : (c b : ℕ) → c % 8192 + b < 8192 → (c + b) % 8192 ≡ c % 8192 + b
same_low c b h = omega arith

same_half : (c b : ℕ) → c % 8192 + b < 8192 → (c + b) % 16384 ≡ c % 16384 + b
same_half c b h = let k : c % 16384 + b < 16384 = omega arith in omega (arith, k)

child_moved : (w : Follows) (lost : Bool) (c b : ℕ) (d : List ℕ) → c % 8192 + b < 8192 → child_in w lost (c + b) d ≡ child_in w lost c d + b
unfolding child_in losing
child_moved w lost c b d h = go (look_by w).opens lost
  where
    go : (o l : Bool) → pick o (in_next d + (c + b) % 8192) (pick l (c + b - (c + b) % 16384 + 8192 + (c + b) % 8192) (c + b)) ≡ pick o (in_next d + c % 8192) (pick l (c - c % 16384 + 8192 + c % 8192) c) + b
    go true l = omega (arith, same_low c b h)
    go false true = lost_moved b c (c % 16384) (c % 8192) ((c + b) % 16384) ((c + b) % 8192) (same_half c b h) (same_low c b h) (omega arith)
    go false false = refl

child_base : (w : Follows) (lost : Bool) (c b : ℕ) (d : List ℕ) → c % 8192 + b < 8192 → child_in w lost c d % 8192 + b < 8192
unfolding child_in losing
child_base w lost c b d h = go (look_by w).opens lost
  where
    go : (o l : Bool) → pick o (in_next d + c % 8192) (pick l (c - c % 16384 + 8192 + c % 8192) c) % 8192 + b < 8192
    go true l = omega arith
    go false true = omega arith
    go false false = h

mutual
  unfolding note_tree past

  moved_tree : (t : Tree) (c b : ℕ) → c % 8192 + b < 8192 → (at : ℕ) (d : List ℕ) → note_tree c t (at + b, d) ≡ up b (note_tree (c + b) t (at, d))
  moved_tree (node k v fs f) c b h at d =
      let w = (entry_of k).follows in
      let long = length (fields_of w) in
      let p : at + b + 1 + long ≡ at + 1 + long + b = omega arith in
      let q : at + b + 1 + c ≡ at + 1 + (c + b) = omega arith in
      let first = child_in w (look_by w).first c d in
      let rest = child_in w (look_by w).rest c d in
      let m = child_moved w (look_by w).first c b d h in
      let n = child_moved w (look_by w).rest c b d h in
      let e = pick (noted k) (push (at + 1 + (c + b)) d) d in
      (λ i. note_forest first rest f (p i, pick (noted k) (push (q i) d) d))
      ∙ moved_forest f first rest b (child_base w (look_by w).first c b d h) (child_base w (look_by w).rest c b d h) (at + 1 + long) e
      ∙ (λ i. up b (note_forest (sym m i) (sym n i) f (at + 1 + long, e)))

  moved_forest : (f : Forest) (first rest b : ℕ) → first % 8192 + b < 8192 → rest % 8192 + b < 8192 → (at : ℕ) (d : List ℕ)
      → note_forest first rest f (at + b, d) ≡ up b (note_forest (first + b) (rest + b) f (at, d))
  moved_forest trees.none first rest b h k at d = refl
  moved_forest (more t f) first rest b h k at d =
      let s = note_tree (first + b) t (at, d) in
      ap (note_forest rest rest f) (moved_tree t first b h at d) ∙ moved_forest f rest rest b k k s.0 s.1

-- ---- a row

module _ (n left : ℕ) (sorts : List ℕ) (c : ℕ) (ws : List ℕ) (b : ℕ) where
  abbrev row : Form (List Tree)
  row = each (tree n left) sorts

  alike_row : Alike row
  alike_row = alike_each (tree n left) (λ s. alike_tree n left s) sorts

  part_noted : c % 8192 + length ws ≤ 8192 → (r : ℕ) (d e : List ℕ) (l : List Tree) → read_by row 0 (drop b ws) ≡ got l r (drop r (drop b ws)) → note_forest (c + b) (c + b) (to_forest l) (0, d) ≡ (r, e)
      → note_forest c c (to_forest l) (b, d) ≡ (r + b, e)
  unfolding note_forest
  part_noted room r d e [] f x = let z : b ≡ 0 + b = omega arith in (λ y. (z y, d)) ∙ ap (up b) x
  part_noted room r d e (t ∷ l) f x =
      let z : b ≡ 0 + b = omega arith in
      let i : c % 8192 + b < 8192 = omega (arith, room, some_words n left sorts 0 (drop b ws) f, length-drop b ws) in
      (λ y. note_forest c c (more t (to_forest l)) (z y, d)) ∙ moved_forest (more t (to_forest l)) c c b i i 0 d ∙ ap (up b) x

  came_whole : c % 8192 + length ws ≤ 8192 → {r : ℕ} {d e : List ℕ} → Came row (λ l. note_forest (c + b) (c + b) (to_forest l)) (drop b ws) 0 d r e
      → Came row (λ l. note_forest c c (to_forest l)) ws b d (r + b) e
  came_whole room {r} {d} {e} k =
      let p : b + r ≡ r + b = omega arith in
      record {
        value = k.value;
        found = part_read row alike_row ws b ∙ ap (moved b) k.found ∙ ap (λ (l : List ℕ). got k.value (r + b) l) (drop-drop r b ws ∙ ap (λ (i : ℕ). drop i ws) p);
        noted = part_noted room r d e k.value k.found k.noted;
      }

  part_whole : c % 8192 + length ws ≤ 8192 → {y : Step} {d e : List ℕ} → Sorted n left sorts (c + b) (c + b) (drop b ws) 0 d y e → Sorted n left sorts c c ws b d (shifted b y) e
  part_whole room {y} {d} {e} h = record { answers = ap (shifted b) h.answers ∙ sym (part_step row alike_row ws b); notes = λ {v} {k} o. go y (λ v k q. h.notes q) v k o }
    where
      go : (z : Step) → ((v : ℕ) (k : Cursor) → z ≡ on v k → Came row (λ l. note_forest (c + b) (c + b) (to_forest l)) (drop b ws) 0 d k.at e) → (v : ℕ) (k : Cursor) → shifted b z ≡ on v k
          → Came row (λ l. note_forest c c (to_forest l)) ws b d k.at e
      go (Ok (u, j)) f v k o = let q : j.at + b ≡ k.at = ap (λ (i : Cursor). i.at) (on_place o) in subst (λ (i : ℕ). Came row (λ l. note_forest c c (to_forest l)) ws b d i e) q (came_whole room (f u j refl))
      go (Err r) f v k o = absurd (no_on o)

-- the part as the code lends it
abbrev part_of : List ℕ → ℕ → List ℕ
part_of ws b = take (length ws - b) (drop b ws)

pub part_long : (ws : List ℕ) (b : ℕ) → b ≤ length ws → length (part_of ws b) + b ≡ length ws
part_long ws b h = omega (arith, ap (λ (l : List ℕ). length l) (part_to_end ws b), length-drop b ws)

pub part_rows : (n left sort count c : ℕ) (ws : List ℕ) (b : ℕ) → c % 8192 + length ws ≤ 8192 → {part : List ℕ} → part ≡ drop b ws → {y : Step} {d e : List ℕ}
    → Rows n left sort count (c + b) part 0 d y e → Rows n left sort count c ws b d (shifted b y) e
part_rows n left sort count c ws b room q {y} {d} {e} h =
    part_whole n left (replicate count sort) c ws b room (subst (λ (l : List ℕ). Rows n left sort count (c + b) l 0 d y e) q h)
