-- What the table says of words that begin trees, by one computation over all kinds; and where the words of a kind that do end.
-- Assumes nothing.
use Prim.Native.Nat.{ℕ, ◌+◌, ◌-◌, ◌*◌, ◌/◌, ◌<◌, ◌≤◌}
use native.Mathlib.Omega.{arith}
use mathlib.Core.Path.{◌≡◌, refl, ap, sym, subst, ◌∙◌}
use mathlib.Core.List.{List}
use lib.ListN.{get_or}
use mathlib.Core.Bool.{Bool, true, false, ◌&&◌}
use lib.Dec.{ltb, leb, eqb}
use borrow.Author.Tests.{lt-ltb, le-ltb, eq-eqb, ne_eqb, ltb-true, ltb-false, leb-true, leb-false, eqb-true}
use Rattle.std.proofs.lemmas.Bool.{false≢true}
use Rattle.definitions.specs.declared.table.Values.{Values}
use Rattle.definitions.specs.declared.table.Values.TheVariants.{Unused, Any, AtMost, FromOne, AtMostOrNone, Total, Name, NameOrNone}
use Rattle.definitions.specs.Table.{pick, kind_of, value_of, word_of, entry_of, table}
use Rattle.definitions.specs.Form.{allowed_here}
use Rattle.pack.specs.Packed.{head_rule, EndsAt, Ended, may_begin}
use Rattle.pack.proofs.Listed.{in_range}

-- a kind with which a tree begins has one of the three rules
pub head_rules : (k : ℕ) → k < 256 → (entry_of k).sort < 2 → head_rule (entry_of k).values ≡ true
unfolding entry_of table
head_rules k h s =
    let e : pick (ltb (entry_of k).sort 2) (head_rule (entry_of k).values) true ≡ true = in_range (λ (k : ℕ). pick (ltb (entry_of k).sort 2) (head_rule (entry_of k).values) true) true 0 256 refl k (omega arith) h in
    rw (lt-ltb (entry_of k).sort 2 s) at e

-- it is among the 32 of its sort
pub of_its_sort : (k : ℕ) → k < 256 → (entry_of k).sort < 2 → k / 32 ≡ 2 + (entry_of k).sort
unfolding entry_of table
of_its_sort k h s =
    let e : pick (ltb (entry_of k).sort 2) (eqb (k / 32) (2 + (entry_of k).sort)) true ≡ true = in_range (λ (k : ℕ). pick (ltb (entry_of k).sort 2) (eqb (k / 32) (2 + (entry_of k).sort)) true) true 0 256 refl k (omega arith) h in
    eqb-true (k / 32) (2 + (entry_of k).sort) (rw (lt-ltb (entry_of k).sort 2 s) at e)

-- a sort is scalar, judgment or none
pub sorted : (k : ℕ) → k < 256 → (entry_of k).sort ≤ 2
unfolding entry_of table
sorted k h =
    let e : leb (entry_of k).sort 2 ≡ true = in_range (λ (k : ℕ). leb (entry_of k).sort 2) true 0 256 refl k (omega arith) h in
    leb-true (entry_of k).sort 2 e

abbrev most_in : Values → ℕ
most_in Unused = 0
most_in Any = 0
most_in (AtMost m) = m
most_in (FromOne m) = 0
most_in (AtMostOrNone m) = 0
most_in Total = 0
most_in Name = 0
most_in NameOrNone = 0

-- what a value may be at most is small
pub most_small : (k : ℕ) → k < 256 → {m : ℕ} → (entry_of k).values ≡ AtMost m → m ≤ 1024
unfolding entry_of table
most_small k h {m} q =
    let e : leb (most_in (entry_of k).values) 1024 ≡ true = in_range (λ (k : ℕ). leb (most_in (entry_of k).values) 1024) true 0 256 refl k (omega arith) h in
    let s : most_in (entry_of k).values ≤ 1024 = leb-true (most_in (entry_of k).values) 1024 e in
    rw q at s

-- ---- words below an end

below-name : (kind l v : ℕ) → ltb (kind * 16777216 + v) (kind * 16777216 + l) ≡ ltb v l
below-name kind l v = go (ltb v l) refl
  where
    go : (b : Bool) → ltb v l ≡ b → ltb (kind * 16777216 + v) (kind * 16777216 + l) ≡ ltb v l
    go true e = lt-ltb (kind * 16777216 + v) (kind * 16777216 + l) (omega (arith, ltb-true v l e)) ∙ sym e
    go false e = le-ltb (kind * 16777216 + v) (kind * 16777216 + l) (omega (arith, ltb-false v l e)) ∙ sym e

below-most : (kind l v : ℕ) → ltb (kind * 16777216 + v) (kind * 16777216 + l + 1) ≡ leb v l
below-most kind l v = go (leb v l) refl
  where
    go : (b : Bool) → leb v l ≡ b → ltb (kind * 16777216 + v) (kind * 16777216 + l + 1) ≡ leb v l
    go true e = lt-ltb (kind * 16777216 + v) (kind * 16777216 + l + 1) (omega (arith, leb-true v l e)) ∙ sym e
    go false e = le-ltb (kind * 16777216 + v) (kind * 16777216 + l + 1) (omega (arith, leb-false v l e)) ∙ sym e

-- above the last kind that is in use none begins a tree
unused_none : (k : ℕ) → 107 ≤ k → k < 128 → (entry_of k).sort ≡ 2
unfolding entry_of table
unused_none k l h = in_range (λ (k : ℕ). (entry_of k).sort) 2 107 21 refl k l h

-- the end of a kind's words, by its entry
module _ (n kind : ℕ) where
  pub ends-none : (entry_of kind).sort ≡ 2 → EndsAt n kind 0
  ends-none s v h = rw s (le-ltb (word_of kind v) 0 (omega arith))

  module _ (s : (entry_of kind).sort < 2) where
    pub ends-any : (entry_of kind).values ≡ Any → EndsAt n kind (kind * 16777216 + 16777216)
    unfolding allowed_here
    ends-any e v h = rw (lt-ltb (entry_of kind).sort 2 s, e) (lt-ltb (word_of kind v) (kind * 16777216 + 16777216) (omega arith))

    pub ends-most : {m : ℕ} → (entry_of kind).values ≡ AtMost m → EndsAt n kind (kind * 16777216 + m + 1)
    unfolding allowed_here
    ends-most {m} e v h = rw (lt-ltb (entry_of kind).sort 2 s, e) (below-most kind m v)

    -- any other rule is that of names
    pub ends-name : kind < 256 → ((entry_of kind).values ≡ Any → ⊥) → ((m : ℕ) → (entry_of kind).values ≡ AtMost m → ⊥) → EndsAt n kind (kind * 16777216 + n)
    unfolding allowed_here
    ends-name k x y v h = rw (lt-ltb (entry_of kind).sort 2 s) (rw named (below-name kind n v))
      where
        go : (r : Values) → (entry_of kind).values ≡ r → head_rule r ≡ true → r ≡ Name
        go Unused e t = absurd (false≢true t)
        go Any e t = absurd (x e)
        go (AtMost m) e t = absurd (y m e)
        go (FromOne m) e t = absurd (false≢true t)
        go (AtMostOrNone m) e t = absurd (false≢true t)
        go Total e t = absurd (false≢true t)
        go Name e t = refl
        go NameOrNone e t = absurd (false≢true t)

        named : (entry_of kind).values ≡ Name
        named = go (entry_of kind).values refl (head_rules kind k s)

-- the ends of all kinds: those of the kinds in use as they are found, and 0 behind them
pub all_ended : (n : ℕ) (ends : List ℕ) → ((i : ℕ) → i < 43 → EndsAt n (64 + i) (get_or ends i 0)) → ((i : ℕ) → 43 ≤ i → get_or ends i 0 ≡ 0) → Ended n ends
all_ended n ends used rest i h = go (ltb i 43) refl
  where
    go : (b : Bool) → ltb i 43 ≡ b → EndsAt n (64 + i) (get_or ends i 0)
    go true e = used i (ltb-true i 43 e)
    go false e = let l = ltb-false i 43 e in rw (rest i l) (ends-none n (64 + i) (unused_none (64 + i) (omega arith) (omega arith)))

-- ---- words that may begin a tree

-- a word of a kind of another sort may not
pub other-sort : (n sort w : ℕ) → w < 4294967296 → sort < 2 → (kind_of w / 32 ≡ 2 + sort → ⊥) → may_begin n sort w ≡ false
unfolding may_begin
other-sort n sort w h s e = go (eqb (entry_of (kind_of w)).sort sort) refl
  where
    go : (b : Bool) → eqb (entry_of (kind_of w)).sort sort ≡ b → (eqb (entry_of (kind_of w)).sort sort && allowed_here n (kind_of w) (value_of w)) ≡ false
    go true q =
        let m : (entry_of (kind_of w)).sort ≡ sort = eqb-true (entry_of (kind_of w)).sort sort q in
        absurd (e (of_its_sort (kind_of w) (omega arith) (omega arith) ∙ ap (λ (i : ℕ). 2 + i) m))
    go false q = rw q

-- one of a kind of the sort may where it stands below the end of its kind
pub by_end : (n : ℕ) (ends : List ℕ) (sort w : ℕ) → w < 4294967296 → sort < 2 → kind_of w / 32 ≡ 2 + sort → Ended n ends → ltb w (get_or ends (kind_of w - 64) 0) ≡ may_begin n sort w
unfolding may_begin
by_end n ends sort w h s k e =
    let whole : word_of (kind_of w) (value_of w) ≡ w = omega arith in
    let there : 64 + (kind_of w - 64) ≡ kind_of w = omega arith in
    let m : ltb (word_of (kind_of w) (value_of w)) (get_or ends (kind_of w - 64) 0) ≡ (ltb (entry_of (kind_of w)).sort 2 && allowed_here n (kind_of w) (value_of w)) = subst (λ (x : ℕ). ltb (word_of x (value_of w)) (get_or ends (kind_of w - 64) 0) ≡ (ltb (entry_of x).sort 2 && allowed_here n x (value_of w))) there (e (kind_of w - 64) (omega arith) (value_of w) (omega arith)) in
    ap (λ (x : ℕ). ltb x (get_or ends (kind_of w - 64) 0)) (sym whole) ∙ m ∙ ap (λ (b : Bool). b && allowed_here n (kind_of w) (value_of w)) same
  where
    same : ltb (entry_of (kind_of w)).sort 2 ≡ eqb (entry_of (kind_of w)).sort sort
    same = go (ltb (entry_of (kind_of w)).sort 2) refl
      where
        go : (b : Bool) → ltb (entry_of (kind_of w)).sort 2 ≡ b → ltb (entry_of (kind_of w)).sort 2 ≡ eqb (entry_of (kind_of w)).sort sort
        go true q =
            let l : (entry_of (kind_of w)).sort < 2 = ltb-true (entry_of (kind_of w)).sort 2 q in
            q ∙ sym (eq-eqb (entry_of (kind_of w)).sort sort (omega (arith, of_its_sort (kind_of w) (omega arith) l)))
        go false q =
            q ∙ sym (ne_eqb (entry_of (kind_of w)).sort sort (λ z. omega (arith, ltb-false (entry_of (kind_of w)).sort 2 q)))

-- what is known of a word that may, and of one that may not
module _ (n sort w : ℕ) where
  pub begun_sort : true ≡ may_begin n sort w → (entry_of (kind_of w)).sort ≡ sort
  unfolding may_begin
  begun_sort e = go (eqb (entry_of (kind_of w)).sort sort) refl
    where
      go : (b : Bool) → eqb (entry_of (kind_of w)).sort sort ≡ b → (entry_of (kind_of w)).sort ≡ sort
      go true q = eqb-true (entry_of (kind_of w)).sort sort q
      go false q = absurd (false≢true (sym (rw q at e)))

  pub begun_value : true ≡ may_begin n sort w → allowed_here n (kind_of w) (value_of w) ≡ true
  unfolding may_begin
  begun_value e = let q : eqb (entry_of (kind_of w)).sort sort ≡ true = eq-eqb (entry_of (kind_of w)).sort sort (begun_sort e) in sym (rw q at e)

  pub unbegun_value : false ≡ may_begin n sort w → (entry_of (kind_of w)).sort ≡ sort → allowed_here n (kind_of w) (value_of w) ≡ false
  unfolding may_begin
  unbegun_value e s = let q : eqb (entry_of (kind_of w)).sort sort ≡ true = eq-eqb (entry_of (kind_of w)).sort sort s in sym (rw q at e)
