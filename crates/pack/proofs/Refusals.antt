-- Check and Rewrite refuse by 01's numbers alone: 1 to 8, and Rewrite 16 too. Places lie within the slice, or are its length where it has ended, and names are below 2^24.
use Rattle.std.specs.Prelude.{Err}
use Prim.Native.Nat.{ℕ, zero, suc, ◌+◌, ◌-◌, ◌≤◌, ◌<◌}
use native.Mathlib.Omega.{arith}
use mathlib.Core.Path.{◌≡◌, refl, ap, sym, ◌∙◌}
use mathlib.Core.List.{List, [], ◌∷◌}
use mathlib.Core.Bool.{Bool, true, false, ◌&&◌}
use lib.ListN.{length, length-append}
use mathlib.Core.Logic.{◌⊎◌, inl, inr}
use lib.Dec.{leb, eqb}
use borrow.Author.Tests.{eqb-false, leb-true}
use Rattle.std.proofs.lemmas.Bool.{and_parts}
use Rattle.definitions.specs.declared.answer.Refusal.{Refusal}
use Rattle.definitions.specs.Answers.{gives}
use Rattle.definitions.specs.Table.{pick, kind_of, value_of, entry_of, judgment}
use Rattle.definitions.specs.Form.{Read, got, refused, because, bind, map_read, allowed_here, read_word, among, only, read_field, read_all, read_each, Holder, says, whole, Suits, Form, field, word, empty, each, guarded, ◌▹◌, counted_from, one_and_more, via, words_by, Fine, read_by}
use Rattle.definitions.specs.Tree.{heads, fields, follow, tree, root}
use Rattle.definitions.specs.Records.{Edition}
use Rattle.definitions.specs.Pack.{defaulted_name, defaulted, name_list, hop, path, chain, member, derivation, optional_derivation, relation_tail, new_name, relation, relations, body, bodies, rule, rules, item, block_items, block, blocks, records, inner, layout, Reading, yes, refuse, complete, edition_of, read, words}
use Rattle.definitions.specs.Answers.{answer, out_of_room}
use Rattle.definitions.specs.Checking.{check_answer, rewrite_answer, Within, CheckRefuses}
use Rattle.pack.proofs.FormLaws.{lawful, clash}

-- a reader whose refusals are such, where `end` is the place after the last word
abbrev Bounded : {A : Type 0} → (ℕ → List ℕ → Read A) → Type 0
Bounded R = (at : ℕ) (ws : List ℕ) (r : Refusal) → R at ws ≡ refused r → Within (at + length ws) r

same-refusal : {A : Type 0} {r s : Refusal} → ◌≡◌ {A = Read A} (refused r) (refused s) → r ≡ s
same-refusal e = cc

-- the numbers of a word, and a refusal by one of them at a place of a word
abbrev OfWord : ℕ → Type 0
OfWord number = (2 ≤ number) × (number ≤ 8) × (number ≡ 3 → ⊥)

at_word : (number place name end : ℕ) → OfWord number → place < end → name < 16777216 → Within end (record { number = number; place = place; name = name; other = 0 })
at_word number place name end h p l =
    record { least = omega (arith, h.0); most = h.1; place = omega arith; size = λ e. absurd (omega (arith, h.0)); ended = λ e. absurd (h.2 e); word = λ lo n. p; name = l; other = refl }

at_end : (end : ℕ) → Within end (record { number = 3; place = end; name = 0; other = 0 })
at_end end = record { least = omega arith; most = omega arith; place = omega arith; size = λ e. absurd (omega arith); ended = λ e. refl; word = λ lo n. absurd (n refl); name = omega arith; other = refl }

plain : {A : Type 0} (number place end : ℕ) (r : Refusal) → OfWord number → place < end → ◌≡◌ {A = Read A} (because number place) (refused r) → Within end r
plain number place end r h p e = rw (← same-refusal e) (at_word number place 0 end h p (omega arith))

-- a kind is rejected by 2 or 5
abbrev Turned : ℕ → Type 0
Turned number = (number ≤ 5) × (number ≡ 1 → ⊥) × (number ≡ 3 → ⊥)

abbrev Turns : (ℕ → ℕ) → Type 0
Turns rejects = (k : ℕ) → Turned (rejects k)

turned_0 : Turned 0
turned_0 = (omega arith, λ e. omega arith, λ e. omega arith)

turned_2 : Turned 2
turned_2 = (omega arith, λ e. omega arith, λ e. omega arith)

turned_5 : Turned 5
turned_5 = (omega arith, λ e. omega arith, λ e. omega arith)

word_bounded : (rejects : ℕ → ℕ) (n : ℕ) → Turns rejects → Bounded (read_word rejects n)
word_bounded rejects n t at [] r e = let z : at + 0 ≡ at = omega arith in rw (z, ← same-refusal e) (at_end at)
word_bounded rejects n t at (w ∷ ws) r e = kind (eqb (rejects (kind_of w)) 0) refl e
  where
    value : (b : Bool) → pick {A = Read (ℕ × ℕ)} b (got (kind_of w, value_of w) (at + 1) ws) (because 4 at) ≡ refused r → Within (at + length (w ∷ ws)) r
    value true e = absurd (clash (sym e))
    value false e = plain 4 at _ r (omega arith, omega arith, λ e. omega arith) (omega arith) e

    kind : (b : Bool) → eqb (rejects (kind_of w)) 0 ≡ b
        → pick {A = Read (ℕ × ℕ)} b (pick (allowed_here n (kind_of w) (value_of w)) (got (kind_of w, value_of w) (at + 1) ws) (because 4 at)) (because (rejects (kind_of w)) at) ≡ refused r
        → Within (at + length (w ∷ ws)) r
    kind true h e = value (allowed_here n (kind_of w) (value_of w)) e
    kind false h e =
        let z = eqb-false (rejects (kind_of w)) 0 h in
        let u = t (kind_of w) in
        plain (rejects (kind_of w)) at _ r (omega (arith, u.1), omega (arith, u.0), u.2) (omega arith) e

only-turns : (kinds : List ℕ) → Turns (only kinds)
only-turns kinds k = go (among k kinds)
  where
    go : (b : Bool) → Turned (pick b 0 2)
    go true = turned_0
    go false = turned_2

heads-turns : (sort left : ℕ) → Turns (heads sort left)
unfolding heads
heads-turns sort zero k = go (eqb (entry_of k).sort sort)
  where
    go : (b : Bool) → Turned (pick b 5 2)
    go true = turned_5
    go false = turned_2
heads-turns sort (suc d) k = go (eqb (entry_of k).sort sort)
  where
    go : (b : Bool) → Turned (pick b 0 2)
    go true = turned_0
    go false = turned_2

pub map_bounded : {A B : Type 0} (f : A → B) (m : Read A) (r : Refusal) → map_read f m ≡ refused r → m ≡ refused r
map_bounded f (got a at ws) r e = absurd (clash (sym e))
map_bounded f (refused s) r e = cc

field_bounded : (n kind : ℕ) → Bounded (read_field n kind)
field_bounded n kind at ws r e = word_bounded (only (kind ∷ [])) n (only-turns (kind ∷ [])) at ws r (map_bounded (λ t. t.1) (read_word (only (kind ∷ [])) n at ws) r e)

-- what is left of the words after a value, with its place, ends where they ended
pub ends : {A : Type 0} (F : Form A) (at : ℕ) (ws : List ℕ) {a : A} {at' : ℕ} {rest : List ℕ} → read_by F at ws ≡ got a at' rest → at' + length rest ≡ at + length ws
ends F at ws {a} {at'} {rest} e = let t = (lawful F).back at ws a at' rest e in rw (t.on, t.same, length-append) (omega arith)

-- a value and then another
bind_bounded : {A B : Type 0} (F : Form A) (k : A → ℕ → List ℕ → Read B) → Bounded (read_by F) → ((a : A) → Bounded (k a)) → Bounded (λ at ws. bind (read_by F at ws) k)
bind_bounded {A} F k h g at ws r e = go (read_by F at ws) refl e
  where
    go : (m : Read A) → read_by F at ws ≡ m → bind m k ≡ refused r → Within (at + length ws) r
    go (got a at' rest) q e = rw (← ends F at ws q) (g a at' rest r e)
    go (refused s) q e = h at ws r (q ∙ ap refused (same-refusal e))

after_map : {A B : Type 0} (f : A → B) (R : ℕ → List ℕ → Read A) → Bounded R → Bounded (λ at ws. map_read f (R at ws))
after_map f R h at ws r e = h at ws r (map_bounded f (R at ws) r e)

all_bounded : {S A : Type 0} (step : S → A → S) (F : S → Form A) → ((s : S) → Bounded (read_by (F s))) → (m : ℕ) (s : S) → Bounded (read_all step (λ u b vs. read_by (F u) b vs) m s)
all_bounded step F h zero s at ws r e = absurd (clash (sym e))
all_bounded step F h (suc m) s at ws r e =
    bind_bounded (F s) (λ a at' ws'. map_read (λ l. a ∷ l) (read_all step (λ u b vs. read_by (F u) b vs) m (step s a) at' ws')) (h s)
    (λ a. after_map (λ l. a ∷ l) (read_all step (λ u b vs. read_by (F u) b vs) m (step s a)) (all_bounded step F h m (step s a))) at ws r e

each_bounded : {X A : Type 0} (F : X → Form A) → ((x : X) → Bounded (read_by (F x))) → (xs : List X) → Bounded (read_each (λ x b vs. read_by (F x) b vs) xs)
each_bounded F h [] at ws r e = absurd (clash (sym e))
each_bounded F h (x ∷ xs) at ws r e =
    bind_bounded (F x) (λ a at' ws'. map_read (λ l. a ∷ l) (read_each (λ x b vs. read_by (F x) b vs) xs at' ws')) (h x)
    (λ a. after_map (λ l. a ∷ l) (read_each (λ x b vs. read_by (F x) b vs) xs) (each_bounded F h xs)) at ws r e

-- a form whose reader is so
abbrev Fit : {A : Type 0} → Form A → Type 0
Fit F = Bounded (read_by F)

word_fit : (rejects : ℕ → ℕ) (n : ℕ) → Turns rejects → Fit (word rejects n)
unfolding read_by
word_fit rejects n t = word_bounded rejects n t

field_fit : (n kind : ℕ) → Fit (field n kind)
unfolding read_by
field_fit n kind = field_bounded n kind

empty_fit : {A : Type 0} (a : A) → Fit (empty a)
unfolding read_by
empty_fit a at ws r e = absurd (clash (sym e))

each_fit : {X A : Type 0} (F : X → Form A) (xs : List X) → ((x : X) → Fit (F x)) → Fit (each F xs)
unfolding read_by
each_fit F xs h = each_bounded F h xs

then_fit : {A B : Type 0} (F : Form A) (G : A → Form B) → Fit F → ((a : A) → Fit (G a)) → Fit (F ▹ G)
unfolding read_by
then_fit F G h g = bind_bounded F _ h (λ a. after_map (λ b. (a, b)) (read_by (G a)) (g a))

via_fit : {A B : Type 0} (to : A → B) (from : B → A) (tf : (b : B) → to (from b) ≡ b) (ft : (a : A) → from (to a) ≡ a) (F : Form A) → Fit F → Fit (via to from tf ft F)
unfolding read_by
via_fit to from tf ft F h = after_map to (read_by F) h

counted_fit : {S A C : Type 0} (H : Holder A C) (n kind : ℕ) (suits : Suits H (entry_of kind).values) (step : S → A → S) (F : S → Form A) (s : S) → ((u : S) → Fit (F u)) → Fit (counted_from H n kind suits step F s)
unfolding read_by
counted_fit H n kind suits step F s h =
    bind_bounded (field n kind) _ (field_bounded n kind) (λ v. after_map (whole H v) (read_all step (λ u b vs. read_by (F u) b vs) (says H v) s) (all_bounded step F h (says H v) s))

more_fit : {A B : Type 0} (n kind most : ℕ) (rule : _) (F : Form A) (G : Form B) → Fit F → Fit G → Fit (one_and_more n kind most rule F G)
unfolding read_by
more_fit n kind most rule F G h g =
    bind_bounded (field n kind) _ (field_bounded n kind)
    (λ v. bind_bounded F _ h (λ a. after_map (λ l. (a, l)) (read_all {S = Unit {0}} (λ u b. u) (λ u b vs. read_by G b vs) (v - 1) tt) (all_bounded {S = Unit {0}} (λ u b. u) (λ u. G) (λ u. g) (v - 1) tt)))

-- a word with a later test, by 6 or 7, at its place and with its value as the name or with none
guarded_fit : (n kind : ℕ) (test : ℕ → Bool) (why : ℕ → ℕ → Refusal) → ((at end v : ℕ) → at < end → v < 16777216 → Within end (why at v)) → Fit (guarded (field n kind) test why)
unfolding read_by words_by Fine
guarded_fit n kind test why h at ws r e = go (read_field n kind at ws) refl e
  where
    tested : (v at' : ℕ) (rest : List ℕ) → at < at + length ws → v < 16777216 → (b : Bool) → pick b (got v at' rest) (refused (why at v)) ≡ refused r → Within (at + length ws) r
    tested v at' rest k l true e = absurd (clash (sym e))
    tested v at' rest k l false e = rw (← same-refusal e) (h at (at + length ws) v k l)

    go : (m : Read ℕ) → read_field n kind at ws ≡ m → bind m (λ a at' ws'. pick (test a) (got a at' ws') (refused (why at a))) ≡ refused r → Within (at + length ws) r
    go (got v at' rest) q e = let t = (lawful (field n kind)).back at ws v at' rest q in tested v at' rest (rw t.same (omega arith)) t.fine.0 (test v) e
    go (refused s) q e = field_bounded n kind at ws r (q ∙ ap refused (same-refusal e))

-- the forms of a pack
tree_fit : (n d sort : ℕ) → Fit (tree n d sort)
unfolding tree follow fields
tree_fit n zero sort = via_fit _ _ _ _ _ (then_fit _ _ (word_fit _ n (heads-turns sort zero)) (λ h. empty_fit _))
tree_fit n (suc d) sort =
    via_fit _ _ _ _ _ (then_fit _ _ (word_fit _ n (heads-turns sort (suc d)))
    (λ h. then_fit _ _ (each_fit _ _ (λ kinds. word_fit _ n (only-turns kinds))) (λ fs. each_fit _ _ (λ s. tree_fit n d s))))

fields_fit : {B : Type 0} (n kind : ℕ) (G : Form B) → Fit G → Fit (field n kind ▹ λ _. G)
fields_fit n kind G g = then_fit _ _ (field_fit n kind) (λ _. g)

module _ (n : ℕ) where
  names_fit : (kind : ℕ) → Fit (name_list n kind)
  unfolding name_list
  names_fit kind = counted_fit _ n kind _ _ _ _ (λ u. field_fit n 10)

  derivation_fit : Fit (derivation n)
  unfolding derivation chain path hop member root
  derivation_fit =
      via_fit _ _ _ _ _
      (then_fit _ _
      (fields_fit n 12 _ (then_fit _ _ (counted_fit _ n 13 _ _ _ _ (λ u. via_fit _ _ _ _ _ (fields_fit n 14 _ (fields_fit n 15 _ (field_fit n 16)))))
      (λ _. fields_fit n 17 _ (field_fit n 18))))
      (λ _. fields_fit n 19 _ (fields_fit n 20 _ (then_fit _ _ (names_fit 21) (λ _. tree_fit n 32 judgment)))))

  relation_fit : (used : ℕ → Bool) → Fit (relation n used)
  unfolding relation new_name relation_tail optional_derivation
  relation_fit used =
      via_fit _ _ _ _ _
      (then_fit _ _
      (guarded_fit n 6 _ _ (λ at end v p l. at_word 7 at v end (omega arith, omega arith, λ e. omega arith) p l))
      (λ _. fields_fit n 7 _ (fields_fit n 8 _ (then_fit _ _ (names_fit 9) (λ _. counted_fit _ n 11 _ _ _ _ (λ u. derivation_fit))))))

  body_fit : Fit (body n)
  unfolding body root
  body_fit = via_fit _ _ _ _ _ (then_fit _ _ (field_fit n 27) (λ sort. tree_fit n 32 sort))

  records_fit : (e : Edition) → Fit (records e n)
  unfolding records defaulted defaulted_name relations rules rule bodies blocks block block_items item
  records_fit e =
      then_fit _ _ (counted_fit _ n 3 _ _ _ _ (λ low. guarded_fit n 4 _ _ (λ at end v p l. at_word 6 at 0 end (omega arith, omega arith, λ e. omega arith) p (omega arith))))
      (λ _. then_fit _ _ (counted_fit _ n 5 _ _ _ _ (λ used. relation_fit _))
      (λ _. then_fit _ _ (counted_fit _ n 22 _ _ _ _ (λ u. via_fit _ _ _ _ _ (fields_fit n 23 _ (fields_fit n 24 _ (fields_fit n 25 _ (more_fit n 26 64 _ _ _ body_fit body_fit))))))
      (λ _. counted_fit _ n 28 _ _ _ _ (λ u. via_fit _ _ _ _ _ (fields_fit n 29 _ (counted_fit _ n 30 _ _ _ _ (λ u. via_fit _ _ _ _ _ (fields_fit n 31 _ (fields_fit n 32 _ (field_fit n 33))))))))))

layout_fit : (e : Edition) (len : ℕ) → Fit (layout e len)
unfolding layout inner
layout_fit e len = fields_fit len _ _ (then_fit _ _ (field_fit 0 2) (λ n. records_fit n e))

-- whole slices

pub read_numbers : (ws : List ℕ) (r : Refusal) → read ws ≡ refuse r → CheckRefuses ws r
unfolding read
read_numbers ws r e = size (leb 6 (length ws) && leb (length ws) 8192) refl e
  where
    placed : length ws ≤ 8192 → Within (length ws) r → CheckRefuses ws r
    placed l b = record { within = b; few = omega (arith, b.place); many = λ m. absurd (omega arith) }

    found : (m : Read _) → read_by (layout (edition_of ws) (length ws)) 0 ws ≡ m → complete (edition_of ws) m ≡ refuse r → Within (length ws) r
    found (got t at []) q e = let z : ◌≡◌ {A = ℕ} 0 1 = cc in absurd (omega arith)
    found (got t at (w ∷ rest)) q e =
        let s : record { number = 8; place = at; name = 0; other = 0 } ≡ r = cc in
        rw (← s) (at_word 8 at 0 (length ws) (omega arith, omega arith, λ e. omega arith) (omega (arith, ends (layout (edition_of ws) (length ws)) 0 ws q)) (omega arith))
    found (refused s) q e =
        let u : s ≡ r = cc in
        let z : 0 + length ws ≡ length ws = omega arith in
        rw (← u, ← z) (layout_fit (edition_of ws) (length ws) 0 ws s q)

    size : (b : Bool) → (leb 6 (length ws) && leb (length ws) 8192) ≡ b
        → pick b (complete (edition_of ws) (read_by (layout (edition_of ws) (length ws)) 0 ws)) (refuse (record { number = 1; place = 0; name = 0; other = 0 })) ≡ refuse r → CheckRefuses ws r
    size true h e = placed (leb-true _ _ (and_parts (leb 6 (length ws)) _ h).1) (found (read_by (layout (edition_of ws) (length ws)) 0 ws) refl e)
    size false h e =
        let s : record { number = 1; place = 0; name = 0; other = 0 } ≡ r = cc in
        let one : Within (length ws) (record { number = 1; place = 0; name = 0; other = 0 }) =
        record { least = omega arith; most = omega arith; place = omega arith; size = λ e. refl; ended = λ e. absurd (omega arith); word = λ lo n. absurd (omega arith); name = omega arith; other = refl } in
        rw (← s) (record { within = one; few = omega arith; many = λ m. (refl, refl) })

pub check-numbers : (ws : List ℕ) (r : Refusal) → check_answer ws ≡ Err r → CheckRefuses ws r
unfolding check_answer
check-numbers ws r e = go (read ws) refl e
  where
    go : (m : Reading) → read ws ≡ m → answer m (λ p. gives 1 0) ≡ Err r → CheckRefuses ws r
    go (yes p) h q = let z : ◌≡◌ {A = ℕ} 0 1 = cc in absurd (omega arith)
    go (refuse s) h q = let u : s ≡ r = cc in read_numbers ws r (h ∙ ap refuse u)

-- one of Check's refusals, or 16 with nothing else
pub rewrite_numbers : (ws : List ℕ) (room : ℕ) (r : Refusal) → rewrite_answer ws room ≡ Err r → CheckRefuses ws r ⊎ (Err r ≡ out_of_room)
unfolding rewrite_answer
rewrite_numbers ws room r e = go (read ws) refl e
  where
    fits : (b : Bool) (n : ℕ) → pick b (gives n 0) out_of_room ≡ Err r → CheckRefuses ws r ⊎ (Err r ≡ out_of_room)
    fits true n q = let z : ◌≡◌ {A = ℕ} 0 1 = cc in absurd (omega arith)
    fits false n q = inr (sym q)

    go : (m : Reading) → read ws ≡ m → answer m (λ p. pick (leb (length (words p)) room) (gives (length (words p)) 0) out_of_room) ≡ Err r → CheckRefuses ws r ⊎ (Err r ≡ out_of_room)
    go (yes p) h q = fits (leb (length (words p)) room) (length (words p)) q
    go (refuse s) h q = let u : s ≡ r = cc in inl (read_numbers ws r (h ∙ ap refuse u))
