-- What the host's function answers and leaves in the output, as a text, is what is to be printed.
use Rattle.std.specs.Prelude.{Ok, Err}
use Prim.Native.Nat.{ℕ, ◌*◌, ◌/◌, ◌≤◌}
use native.Mathlib.Omega.{arith}
use mathlib.Core.Path.{◌≡◌, refl, ap, sym, subst, ◌∙◌}
use mathlib.Core.Bool.{Bool, true, false, ◌&&◌}
use mathlib.Core.List.{List, [], ◌∷◌, ◌++◌}
use lib.ListN.{length, take, drop, replicate, length-append, length-drop, length-replicate}
use lib.Seq.{take-append_seam, length-take-le}
use lib.Dec.{leb}
use borrow.Author.Tests.{leb-true}
use Rattle.definitions.specs.Table.{pick}
use Rattle.definitions.specs.Records.{Pack}
use Rattle.definitions.specs.Pack.{Reading, yes, refuse, read, words, total}
use Rattle.definitions.specs.declared.answer.Given.{Given}
use Rattle.definitions.specs.Answers.{Answer, buffer, Outcome, done, refused}
use Rattle.definitions.specs.Resolving.{resolved}
use Rattle.definitions.specs.Operations.{resolve_answer, resolve_buffer}
use Rattle.definitions.specs.Bytes.{words_of, bytes_of, encode, decode, are_words, not_words, over_bytes, out_after, in_room, out_bytes, Gives}
use Rattle.definitions.specs.Text.{line_of, lines_of, ok_line, text_of, printed}
use Rattle.pack.proofs.PackLaws as pack
use Rattle.resolve.specs.Finish.{front_of, written_out}
use Rattle.resolve.proofs.ResolveLaws.{front_alike, answer-within}
use Rattle.wire.proofs.ByteLaws.{words-length, bytes_length}
use Rattle.over_bytes.proofs.Bits.{resolve-decoded}
use Rattle.resolve_main.proofs.Digits.{word_line}

-- ---- the words at the front of the output

lines_again : (ws : List ℕ) → lines_of (words_of (bytes_of ws)) ≡ lines_of ws
unfolding lines_of words_of bytes_of
lines_again [] = refl
lines_again (w ∷ ws) = ap (λ (l : List ℕ). l ++ lines_of (words_of (bytes_of ws))) (word_line w) ∙ ap (λ (l : List ℕ). line_of w ++ l) (lines_again ws)

words_append : (ws rest : List ℕ) → words_of (bytes_of ws ++ rest) ≡ words_of (bytes_of ws) ++ words_of rest
unfolding words_of bytes_of
words_append [] rest = refl
words_append (w ∷ ws) rest = rw (words_append ws rest)

words-front : (ws rest : List ℕ) (n : ℕ) → length ws ≡ n → take n (words_of (bytes_of ws ++ rest)) ≡ words_of (bytes_of ws)
words-front ws rest n e =
    let l : length (words_of (bytes_of ws)) ≡ n = omega (arith, words-length (bytes_of ws), bytes_length ws) in
    rw (words_append ws rest, ← l) (take-append_seam (words_of (bytes_of ws)) (words_of rest))

-- an answer's text with the output after it, and with the words that were written
text_after : (a : Answer) (made out : List ℕ) → ((g : Given) → a ≡ Ok g → g.value ≤ length made) → text_of a (words_of (out_after a made out)) ≡ text_of a made
unfolding text_of out_after
text_after (Ok g) made out h =
    ap (λ (l : List ℕ). ok_line g.value g.steps ++ l)
    (ap lines_of (words-front (take g.value made) (drop (4 * g.value) out) g.value (length-take-le g.value made (h g refl))) ∙ lines_again (take g.value made))
text_after (Err r) made out h = refl

text_front : (a : Answer) (x y : List ℕ) → front_of a x ≡ front_of a y → text_of a x ≡ text_of a y
unfolding text_of
text_front (Ok g) x y e = ap (λ (l : List ℕ). ok_line g.value g.steps ++ lines_of l) e
text_front (Err r) x y e = refl

-- ---- Resolve

-- a slice stays as long as it is
written-long : (lent : List ℕ) (o : Outcome Pack) → length (written_out lent o) ≡ length lent
written-long lent (refused r) = refl
written-long lent (done q) = go (leb (total q) 8192) (leb (total q) (length lent)) refl
  where
    go : (a b : Bool) → leb (total q) (length lent) ≡ b → length (pick (a && b) (words q ++ drop (total q) lent) lent) ≡ length lent
    go true true e = omega (arith, length-append (words q) (drop (total q) lent), length-drop (total q) lent, pack.words-length q, leb-true (total q) (length lent) e)
    go true false e = refl
    go false b e = refl

buffer-long : (ws lent : List ℕ) → length (resolve_buffer ws lent) ≡ length lent
unfolding resolve_buffer
buffer-long ws lent = go (read ws)
  where
    go : (m : Reading) → length (buffer m (λ p. written_out lent (resolved p)) lent) ≡ length lent
    go (yes p) = written-long lent (resolved p)
    go (refuse r) = refl

-- the text is that of any slice of as many words
resolved_alike : (ws lent other out : List ℕ) (room : ℕ) → length lent ≡ room → length other ≡ room
    → text_of (resolve_answer ws room) (words_of (out_after (resolve_answer ws room) (resolve_buffer ws lent) out)) ≡ text_of (resolve_answer ws room) (resolve_buffer ws other)
resolved_alike ws lent other out room e f =
    text_after (resolve_answer ws room) (resolve_buffer ws lent) out (λ g given. omega (arith, answer-within ws room given, buffer-long ws lent))
    ∙ text_front (resolve_answer ws room) (resolve_buffer ws lent) (resolve_buffer ws other)
    (subst (λ (k : ℕ). front_of (resolve_answer ws k) (resolve_buffer ws lent) ≡ front_of (resolve_answer ws k) (resolve_buffer ws other)) e (front_alike ws lent other (e ∙ sym f)))

printed-is : (bytes out : List ℕ) → length out ≡ 32768 → text_of (in_room resolve_answer (length out) bytes) (words_of (out_bytes resolve_answer resolve_buffer bytes out)) ≡ printed bytes
unfolding printed over_bytes
printed-is bytes out e = go (are_words (length bytes)) (omega arith)
  where
    blank : List ℕ
    blank = replicate 8192 0

    go : (b : Bool) → length out / 4 ≡ 8192
        → text_of (pick b (resolve_answer (words_of bytes) (length out / 4)) not_words) (words_of (out_after (pick b (resolve_answer (words_of bytes) (length out / 4)) not_words) (resolve_buffer (words_of bytes) (words_of out)) out))
        ≡ text_of (pick b (resolve_answer (words_of bytes) 8192) not_words) (resolve_buffer (words_of bytes) blank)
    go true l = rw l (resolved_alike (words_of bytes) (words_of out) blank out 8192 (words-length out ∙ l) (length-replicate {A = ℕ} 8192 0))
    go false l = text_after not_words (resolve_buffer (words_of bytes) (words_of out)) out (λ g given. cc) ∙ text_front not_words _ _ refl

-- the program has the number, and the output
pub resolved-text : {bytes out after text : List ℕ} {r : ℕ} → Gives resolve_answer resolve_buffer bytes out r after
    → text ≡ text_of (decode r) (words_of after) → length out ≡ 32768 → text ≡ printed bytes
resolved-text {bytes} {out} {after} g p l =
    p
    ∙ ap (λ (r : ℕ). text_of (decode r) (words_of after)) g.answers
    ∙ ap (λ (l : List ℕ). text_of (decode (encode (in_room resolve_answer (length out) bytes))) (words_of l)) g.leaves
    ∙ ap (λ (a : Answer). text_of a (words_of (out_bytes resolve_answer resolve_buffer bytes out))) (resolve-decoded (length out) bytes)
    ∙ printed-is bytes out l
