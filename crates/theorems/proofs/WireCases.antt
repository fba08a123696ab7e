-- Cases that compute: the first words of 01's example, and answers as numbers.
use Rattle.std.specs.Prelude.{Err}
use Prim.Native.Nat.{◌+◌, ◌*◌, ◌^◌}
use mathlib.Core.Path.{◌≡◌, refl}
use mathlib.Core.List.{[], ◌∷◌}
use Rattle.definitions.specs.Answers.{gives}
use Rattle.definitions.specs.Bytes.{words_of, bytes_of, encode, out_after}

-- "For 01000006 02000001 .. (hexadecimal)", low byte first
words : words_of (0x06 ∷ 0x00 ∷ 0x00 ∷ 0x01 ∷ 0x01 ∷ 0x00 ∷ 0x00 ∷ 0x02 ∷ []) ≡ 0x01000006 ∷ 0x02000001 ∷ []
unfolding words_of
words = refl

bytes : bytes_of (0x01000006 ∷ 0x02000001 ∷ []) ≡ 0x06 ∷ 0x00 ∷ 0x00 ∷ 0x01 ∷ 0x01 ∷ 0x00 ∷ 0x00 ∷ 0x02 ∷ []
unfolding bytes_of
bytes = refl

-- six words and no steps; and a refusal with all its parts
answer : encode (gives 6 0) ≡ 0x0060_0000
answer = refl

refusal : encode (Err (record { number = 9; place = 8191; name = 4095; other = 17 })) ≡ 9 + 8191 * 2 ^ 6 + 4095 * 2 ^ 20 + 17 * 2 ^ 52
refusal = refl

-- one word is written into six bytes
one_word : out_after (gives 1 0) (0x04030201 ∷ 0 ∷ []) (9 ∷ 9 ∷ 9 ∷ 9 ∷ 9 ∷ 9 ∷ []) ≡ 1 ∷ 2 ∷ 3 ∷ 4 ∷ 9 ∷ 9 ∷ []
unfolding out_after bytes_of
one_word = refl
