-- Laws of hexadecimal digits.
use Prim.Native.Nat.{ℕ, ◌+◌, ◌/◌, ◌%◌, ◌^◌, ◌<◌, ◌≤◌}
use native.Mathlib.Nat.{div-div-eq-div-mul}
use native.Mathlib.Omega.{arith}
use mathlib.Core.Path.{◌≡◌, refl, ap, sym}
use mathlib.Core.Bool.{Bool}
use mathlib.Core.List.{◌∷◌}
use borrow.Author.Tests.{lt-ltb}
use Rattle.definitions.specs.Table.{pick}
use Rattle.definitions.specs.Bytes.{word_from}
use Rattle.definitions.specs.Text.{codes, digit_of, line_of}

pub digit_decimal : (d : ℕ) → d < 10 → 48 + d ≡ digit_of d
digit_decimal d h = ap (λ (b : Bool). pick b (48 + d) (55 + d)) (sym (lt-ltb d 10 h))

-- a word's, from its bytes

module _ (a b c d : ℕ) (ha : a < 256) (hb : b < 256) (hc : c < 256) (hd : d < 256) where
  abbrev w : ℕ
  w = word_from a b c d

  eighth : w / 16 ^ 7 % 16 ≡ d / 16
  eighth = omega arith

  seventh : w / 16 ^ 6 % 16 ≡ d % 16
  seventh = omega arith

  sixth : w / 16 ^ 5 % 16 ≡ c / 16
  sixth = omega arith

  fifth : w / 16 ^ 4 % 16 ≡ c % 16
  fifth = omega arith

  fourth : w / 16 ^ 3 % 16 ≡ b / 16
  fourth = omega arith

  third : w / 16 ^ 2 % 16 ≡ b % 16
  third = omega arith

  second : w / 16 % 16 ≡ a / 16
  second = omega arith

  first : w % 16 ≡ a % 16
  first = omega arith

  line_from : {r7 r6 r5 r4 r3 r2 r1 r0 : ℕ} → r7 ≡ digit_of (d / 16) → r6 ≡ digit_of (d % 16) → r5 ≡ digit_of (c / 16) → r4 ≡ digit_of (c % 16) → r3 ≡ digit_of (b / 16) → r2 ≡ digit_of (b % 16)
      → r1 ≡ digit_of (a / 16) → r0 ≡ digit_of (a % 16) → r7 ∷ r6 ∷ r5 ∷ r4 ∷ r3 ∷ r2 ∷ r1 ∷ r0 ∷ codes "\n" ≡ line_of w
  line_from e7 e6 e5 e4 e3 e2 e1 e0 = rw (eighth, seventh, sixth, fifth, fourth, third, second, first, e7, e6, e5, e4, e3, e2, e1, e0)

-- a word's line is that of its four bytes, which keep all that is printed of it

low : (n : ℕ) → n % 16 ≡ n % 256 % 16
low n = omega arith

high : (n m : ℕ) → n / 16 ≡ m → m % 16 ≡ n % 256 / 16
high n m e = omega arith

byte : (n : ℕ) → n % 256 ≤ 255
byte n = omega arith

pub word_line : (w : ℕ) → line_of (word_from (w % 256) (w / 256 % 256) (w / 65536 % 256) (w / 16777216 % 256)) ≡ line_of w
word_line w =
    sym
    (line_from (w % 256) (w / 256 % 256) (w / 65536 % 256) (w / 16777216 % 256)
    (omega arith) (omega (arith, byte (w / 256))) (omega (arith, byte (w / 65536))) (omega (arith, byte (w / 16777216)))
    (ap digit_of (high (w / 16777216) (w / 16 ^ 7) (div-div-eq-div-mul w 16777216 16)))
    (ap digit_of (low (w / 16777216)))
    (ap digit_of (high (w / 65536) (w / 16 ^ 5) (div-div-eq-div-mul w 65536 16)))
    (ap digit_of (low (w / 65536)))
    (ap digit_of (high (w / 256) (w / 16 ^ 3) (div-div-eq-div-mul w 256 16)))
    (ap digit_of (low (w / 256)))
    (ap digit_of (high w (w / 16) refl))
    (ap digit_of (low w)))
