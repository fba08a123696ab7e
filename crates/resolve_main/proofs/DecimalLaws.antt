-- The digits of a number are below ten and read as the number, with no zero in front; and they are those that std writes.
use Prim.Native.Nat.{ℕ, zero, suc, ◌+◌, ◌*◌, ◌/◌, ◌%◌, ◌^◌, ◌<◌, ◌≤◌}
use native.Mathlib.Omega.{arith}
use mathlib.Core.Path.{◌≡◌, refl, ap, ◌∙◌}
use mathlib.Core.Bool.{Bool, true, false}
use mathlib.Core.List.{List, [], ◌∷◌, ◌++◌, append_assoc, map, map-append}
use lib.Dec.{ltb}
use borrow.Author.Tests.{lt-ltb, le-ltb, ltb-true, ltb-false}
use Rattle.std.specs.Fmt.{decimal as as_text}
use Rattle.std.proofs.lemmas.Fmt.{decimal_digit, decimal_step}
use Rattle.definitions.specs.Table.{pick}
use Rattle.definitions.specs.Text.{digit_of, digits_up_to, decimal, spaced, hexadecimal}
use Rattle.resolve_main.proofs.Digits.{digit_decimal}

-- the number that digits read as
unfoldable pub read_on : ℕ → ℕ → List ℕ → ℕ
read_on base n [] = n
read_on base n (d ∷ ds) = read_on base (base * n + d) ds

abbrev pub number_read : ℕ → List ℕ → ℕ
number_read base ds = read_on base 0 ds

read-last : (base n : ℕ) (ds : List ℕ) (d : ℕ) → read_on base n (ds ++ (d ∷ [])) ≡ base * read_on base n ds + d
unfolding read_on
read-last base n [] d = refl
read-last base n (e ∷ ds) d = read-last base (base * n + e) ds d

digits_value : (k n : ℕ) → n ≤ k → number_read 10 (digits_up_to k n) ≡ n
unfolding digits_up_to read_on
digits_value zero n h = omega arith
digits_value (suc k) n h = go (ltb n 10) refl (digits_value k (n / 10))
  where
    go : (b : Bool) → ltb n 10 ≡ b → (n / 10 ≤ k → number_read 10 (digits_up_to k (n / 10)) ≡ n / 10) → number_read 10 (pick b (n ∷ []) (digits_up_to k (n / 10) ++ (n % 10 ∷ []))) ≡ n
    go true e rest = omega arith
    go false e rest =
        let l = ltb-false n 10 e in
        read-last 10 0 (digits_up_to k (n / 10)) (n % 10) ∙ rw (rest (omega arith)) (omega arith)

pub decimal-value : (n : ℕ) → number_read 10 (decimal n) ≡ n
decimal-value n = digits_value n n (omega arith)

pub hexadecimal-value : (w : ℕ) → w < 2 ^ 32 → number_read 16 (hexadecimal w) ≡ w
unfolding read_on
hexadecimal-value w h = rw (top, step (w / 16 ^ 6) (w / 16 ^ 7) (omega arith), step (w / 16 ^ 5) (w / 16 ^ 6) (omega arith), step (w / 16 ^ 4) (w / 16 ^ 5) (omega arith), step (w / 16 ^ 3) (w / 16 ^ 4) (omega arith), step (w / 16 ^ 2) (w / 16 ^ 3) (omega arith), step (w / 16) (w / 16 ^ 2) (omega arith), step w (w / 16) (omega arith))
  where
    step : (n q : ℕ) → n / 16 ≡ q → 16 * q + n % 16 ≡ n
    step n q e = omega arith

    top : 16 * 0 + w / 16 ^ 7 % 16 ≡ w / 16 ^ 7
    top = omega arith

-- each is below ten
abbrev pub BelowTen : List ℕ → Type 0
BelowTen [] = Unit {0}
BelowTen (d ∷ ds) = (d < 10) × BelowTen ds

below_last : (ds : List ℕ) (d : ℕ) → BelowTen ds → d < 10 → BelowTen (ds ++ (d ∷ []))
below_last [] d h l = (l, tt)
below_last (e ∷ ds) d (g, h) l = (g, below_last ds d h l)

digits_below : (k n : ℕ) → n ≤ k → BelowTen (digits_up_to k n)
unfolding digits_up_to
digits_below zero n h = (omega arith, tt)
digits_below (suc k) n h = go (ltb n 10) refl (digits_below k (n / 10))
  where
    go : (b : Bool) → ltb n 10 ≡ b → (n / 10 ≤ k → BelowTen (digits_up_to k (n / 10))) → BelowTen (pick b (n ∷ []) (digits_up_to k (n / 10) ++ (n % 10 ∷ [])))
    go true e rest = (ltb-true n 10 e, tt)
    go false e rest = let l = ltb-false n 10 e in below_last (digits_up_to k (n / 10)) (n % 10) (rest (omega arith)) (omega arith)

pub decimal-below : (n : ℕ) → BelowTen (decimal n)
decimal-below n = digits_below n n (omega arith)

-- no zero in front but that of 0 itself
first_digit : (k n : ℕ) (ds : List ℕ) → n ≤ k → digits_up_to k n ≡ 0 ∷ ds → n ≡ 0
unfolding digits_up_to read_on
first_digit zero n ds h e = omega arith
first_digit (suc k) n ds h e = go (ltb n 10) refl (λ ds l f. first_digit k (n / 10) ds l f) e
  where
    go : (b : Bool) → ltb n 10 ≡ b → ((ds : List ℕ) → n / 10 ≤ k → digits_up_to k (n / 10) ≡ 0 ∷ ds → n / 10 ≡ 0) → pick b (n ∷ []) (digits_up_to k (n / 10) ++ (n % 10 ∷ [])) ≡ 0 ∷ ds → n ≡ 0
    go true f rest e = cc
    go false f rest e = absurd (front (digits_up_to k (n / 10)) refl e)
      where
        large : 10 ≤ n
        large = ltb-false n 10 f

        front : (es : List ℕ) → digits_up_to k (n / 10) ≡ es → es ++ (n % 10 ∷ []) ≡ 0 ∷ ds → ⊥
        front [] p q = let v : 0 ≡ n / 10 = rw p at (digits_value k (n / 10) (omega arith)) in omega (arith, large)
        front (x ∷ es) p q = let z : x ≡ 0 = cc in omega (arith, large, rest es (omega arith) (rw z at p))

pub decimal-first : (n : ℕ) (ds : List ℕ) → decimal n ≡ 0 ∷ ds → n ≡ 0
decimal-first n ds e = first_digit n n ds (omega arith) e

-- ---- as std writes them

one_digit : (f n : ℕ) → n < 10 → digits_up_to f n ≡ n ∷ []
unfolding digits_up_to
one_digit zero n h = refl
one_digit (suc f) n h = rw (lt-ltb n 10 h)

more_digits : (f n : ℕ) → 10 ≤ n → digits_up_to (suc f) n ≡ digits_up_to f (n / 10) ++ (n % 10 ∷ [])
unfolding digits_up_to
more_digits f n h = rw (le-ltb n 10 h)

spelled : (f n : ℕ) → n ≤ f → n < 2 ^ 64 → as_text n ≡ map digit_of (digits_up_to f n)
spelled zero n h k =
    let l : n < 10 = omega arith in
    rw (one_digit zero n l, decimal_digit n l) (ap (λ (d : ℕ). d ∷ []) (digit_decimal n l))
spelled (suc f) n h k = go (ltb n 10) refl (spelled f (n / 10))
  where
    go : (b : Bool) → ltb n 10 ≡ b → (n / 10 ≤ f → n / 10 < 2 ^ 64 → as_text (n / 10) ≡ map digit_of (digits_up_to f (n / 10))) → as_text n ≡ map digit_of (digits_up_to (suc f) n)
    go true e rest =
        let l = ltb-true n 10 e in
        rw (one_digit (suc f) n l, decimal_digit n l) (ap (λ (d : ℕ). d ∷ []) (digit_decimal n l))
    go false e rest =
        let l = ltb-false n 10 e in
        rw (more_digits f n l, map-append digit_of (digits_up_to f (n / 10)) (n % 10 ∷ []), decimal_step n l k, rest (omega arith) (omega arith))
        (ap (λ (d : ℕ). map digit_of (digits_up_to f (n / 10)) ++ (d ∷ [])) (digit_decimal (n % 10) (omega arith)))

as_written : (n : ℕ) → n < 2 ^ 64 → as_text n ≡ map digit_of (decimal n)
as_written n h = spelled n n (omega arith) h

-- a space, and the number after it
pub spaced_as : (text : List ℕ) (n : ℕ) {after digits : List ℕ} → n < 2 ^ 64 → digits ≡ as_text n → after ≡ (text ++ (32 ∷ [])) ++ digits → after ≡ text ++ spaced n
spaced_as text n h d e = rw (e, d, as_written n h) (append_assoc text (32 ∷ []) (map digit_of (decimal n)))
