-- Nothing is lost: words and their bytes give each other back.
use Prim.Native.Nat.{ℕ, ◌+◌, ◌*◌, ◌/◌, ◌%◌, ◌^◌, ◌<◌}
use native.Mathlib.Nat.{div-div-eq-div-mul}
use native.Mathlib.Omega.{arith}
use mathlib.Core.Path.{◌≡◌, refl, ap, sym, ◌∙◌}
use mathlib.Core.List.{List, [], ◌∷◌}
use lib.ListN.{length}
use Rattle.definitions.specs.Bytes.{word_from, words_of, bytes_of}
use Rattle.theorems.specs.RoundTrips.{Below}

-- the bytes of a word one after the other
halves : (w : ℕ) → (w / 65536 ≡ w / 256 / 256) × (w / 16777216 ≡ w / 256 / 256 / 256)
halves w = (sym (div-div-eq-div-mul w 256 256), sym (ap (λ (v : ℕ). v / 256) (div-div-eq-div-mul w 256 256) ∙ div-div-eq-div-mul w 65536 256))

word_again : (w : ℕ) → w < 2 ^ 32 → word_from (w % 256) (w / 256 % 256) (w / 65536 % 256) (w / 16777216 % 256) ≡ w
word_again w h = rw ((halves w).0, (halves w).1) (omega arith)

pub words_again : (ws : List ℕ) → Below (2 ^ 32) ws → words_of (bytes_of ws) ≡ ws
unfolding words_of bytes_of
words_again [] h = refl
words_again (w ∷ ws) h = rw (word_again w h.0, words_again ws h.1)

-- the bytes of a word made of bytes
module _ (a b c d : ℕ) (ha : a < 256) (hb : b < 256) (hc : c < 256) (hd : d < 256) where
  first : word_from a b c d % 256 ≡ a
  first = omega arith

  second : word_from a b c d / 256 % 256 ≡ b
  second = let e : word_from a b c d / 256 ≡ b + c * 256 + d * 65536 = omega arith in omega arith

  third : word_from a b c d / 65536 % 256 ≡ c
  third = let e : word_from a b c d / 65536 ≡ c + d * 256 = omega arith in omega arith

  fourth : word_from a b c d / 16777216 % 256 ≡ d
  fourth = let e : word_from a b c d / 16777216 ≡ d = omega arith in omega arith

pub bytes_again : (bytes : List ℕ) → Below 256 bytes → length bytes % 4 ≡ 0 → bytes_of (words_of bytes) ≡ bytes
unfolding words_of bytes_of
bytes_again [] h k = refl
bytes_again (a ∷ []) h k = absurd (omega arith)
bytes_again (a ∷ b ∷ []) h k = absurd (omega arith)
bytes_again (a ∷ b ∷ c ∷ []) h k = absurd (omega arith)
bytes_again (a ∷ b ∷ c ∷ d ∷ bytes) (ha, (hb, (hc, (hd, h)))) k =
    rw (first a b c d ha hb hc hd, second a b c d ha hb hc hd, third a b c d ha hb hc hd, fourth a b c d ha hb hc hd, bytes_again bytes h (omega arith))
