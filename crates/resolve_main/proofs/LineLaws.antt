-- Laws of words on lines.
use Prim.Native.Nat.{ℕ, ◌+◌, ◌/◌, ◌<◌, ◌≤◌, min}
use mathlib.Core.Path.{◌≡◌, refl, ap, ◌∙◌}
use mathlib.Core.List.{List, [], ◌∷◌, ◌++◌, append-nil, append_assoc, map}
use lib.ListN.{length, take, get_or, length-append}
use mir.Syntax.{w32}
use Rattle.std.specs.Int.{from_le_bytes}
use Rattle.std.specs.Simd.{first_chunks}
use Rattle.std.proofs.lemmas.List.{map_more, take-map, take_all, take_min}
use Rattle.definitions.specs.Bytes.{words_of}
use Rattle.definitions.specs.Text.{line_of, lines_of}
use Rattle.wire.proofs.ByteLaws.{words-fours}

lines_append : (ws vs : List ℕ) → lines_of (ws ++ vs) ≡ lines_of ws ++ lines_of vs
unfolding lines_of
lines_append [] vs = refl
lines_append (w ∷ ws) vs = rw (lines_append ws vs)

one_line : (w : ℕ) → lines_of (w ∷ []) ≡ line_of w
unfolding lines_of
one_line w = refl

pub no_lines : (before : List ℕ) → before ≡ before ++ lines_of []
unfolding lines_of
no_lines before = simp append-nil

-- the words of chunks of four bytes each
abbrev pub words_in : List (List ℕ) → List ℕ
words_in chunks = map (from_le_bytes w32) chunks

-- a turn

pub line_more : (before : List ℕ) (chunks : List (List ℕ)) (i : ℕ) {text after : List ℕ} {w : ℕ} → i < length chunks
    → text ≡ before ++ lines_of (words_in (take i chunks)) → w ≡ from_le_bytes w32 (get_or chunks i []) → after ≡ text ++ line_of w
    → after ≡ before ++ lines_of (words_in (take (i + 1) chunks))
line_more before chunks i {w = w} h t e a =
    let more = map_more (from_le_bytes w32) chunks i [] h in
    rw (more, lines_append (words_in (take i chunks)) (from_le_bytes w32 (get_or chunks i []) ∷ []), one_line (from_le_bytes w32 (get_or chunks i [])), ← e, a, t)
    (append_assoc before (lines_of (words_in (take i chunks))) (line_of w))

pub line_long : (text : List ℕ) (w : ℕ) {after : List ℕ} → after ≡ text ++ line_of w → length after ≡ length text + 9
line_long text w e = ap length e ∙ length-append text (line_of w)

-- at the end those of the first n words are there, as far as there are words
pub lines_all : (out : List ℕ) (n : ℕ) {chunks : List (List ℕ)} {m i : ℕ} → chunks ≡ first_chunks 4 (length out / 4) out → m ≡ min n (length chunks)
    → length (take m chunks) ≤ i → words_in (take i (take m chunks)) ≡ take n (words_of out)
lines_all out n {chunks} {m} {i} c e h =
    ap words_in (take_all i (take m chunks) h ∙ ap (λ (k : ℕ). take k chunks) e ∙ take_min n chunks)
    ∙ ap (λ (l : List (List ℕ)). words_in (take n l)) c
    ∙ rw (← take-map (from_le_bytes w32) n (first_chunks 4 (length out / 4) out), words-fours out (length out / 4) refl)
