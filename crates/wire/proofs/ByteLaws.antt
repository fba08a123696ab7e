-- Laws of words as bytes: the words of four bytes each, what a turn of storing does, and how long the lists are.
use Prim.Native.Nat.{ℕ, zero, suc, ◌+◌, ◌*◌, ◌/◌, ◌<◌}
use native.Mathlib.Omega.{arith}
use native.Mathlib.Numerals.{add-one}
use mathlib.Core.Path.{◌≡◌, refl, ap, sym, ◌∙◌}
use mathlib.Core.List.{List, [], ◌∷◌, ◌++◌, map, append_assoc}
use lib.ListN.{length, take, drop, get_or}
use lib.Seq.{drop-drop, take-suc, take_at, drop_at, length-take-le}
use borrow.Rule.Slice.PartMut.{put_mid}
use Rattle.std.specs.Int.{w32, to_le_bytes, from_le_bytes}
use Rattle.std.specs.Simd.{first_chunks}
use Rattle.definitions.specs.Bytes.{word_from, words_of, bytes_of}

pub words-length : (bytes : List ℕ) → length (words_of bytes) ≡ length bytes / 4
unfolding words_of
words-length [] = refl
words-length (a ∷ []) = refl
words-length (a ∷ b ∷ []) = refl
words-length (a ∷ b ∷ c ∷ []) = refl
words-length (a ∷ b ∷ c ∷ d ∷ bytes) = omega (arith, words-length bytes)

-- the words are those of each four bytes
pub words-fours : (bytes : List ℕ) (n : ℕ) → n ≡ length bytes / 4 → map (from_le_bytes w32) (first_chunks 4 n bytes) ≡ words_of bytes
unfolding words_of
words-fours [] n e = rw e refl
words-fours (a ∷ []) n e = rw e refl
words-fours (a ∷ b ∷ []) n e = rw e refl
words-fours (a ∷ b ∷ c ∷ []) n e = rw e refl
words-fours (a ∷ b ∷ c ∷ d ∷ bytes) zero e = absurd (omega arith)
words-fours (a ∷ b ∷ c ∷ d ∷ bytes) (suc n) e = ap (λ (ws : List ℕ). word_from a b c d ∷ ws) (words-fours bytes n (omega arith))

pub bytes_length : (ws : List ℕ) → length (bytes_of ws) ≡ 4 * length ws
unfolding bytes_of
bytes_length [] = refl
bytes_length (w ∷ ws) = omega (arith, bytes_length ws)

pub bytes_append : (ws vs : List ℕ) → bytes_of (ws ++ vs) ≡ bytes_of ws ++ bytes_of vs
unfolding bytes_of
bytes_append [] vs = refl
bytes_append (w ∷ ws) vs = rw (bytes_append ws vs)

-- a turn of storing, in k bytes
pub store_turn : (words before : List ℕ) {out : List ℕ} {bytes : List ℕ} {i k : ℕ} → i < length words → k ≡ 4 → out ≡ bytes_of (take i words) ++ drop (4 * i) before → bytes ≡ to_le_bytes w32 (get_or words i 0)
    → put_mid (4 * i) k out bytes ≡ bytes_of (take (i + 1) words) ++ drop (4 * (i + 1)) before
unfolding bytes_of
store_turn words before {out} {bytes} {i} {k} h z e f =
    let p = bytes_of (take i words) in
    let rest = drop (4 * i) before in
    let l : length p ≡ 4 * i = bytes_length (take i words) ∙ ap (λ (n : ℕ). 4 * n) (length-take-le i words (omega arith)) in
    let more : 4 * i + 4 ≡ 4 * (i + 1) = omega arith in
    let four_on : drop 4 rest ≡ drop (4 * (i + 1)) before = drop-drop 4 (4 * i) before ∙ ap (λ (n : ℕ). drop n before) more in
    let word : bytes_of (take (i + 1) words) ≡ p ++ to_le_bytes w32 (get_or words i 0) = rw (add-one i, take-suc words i 0 h) (bytes_append (take i words) (get_or words i 0 ∷ [])) in
    rw (e, z, f, word, take_at p rest (4 * i) l, drop_at p rest (4 * i) l, four_on) (sym (append_assoc p (to_le_bytes w32 (get_or words i 0)) (drop (4 * (i + 1)) before)))
