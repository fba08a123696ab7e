-- Reading and writing again gives the same words.
use Prim.Native.Nat.{ℕ}
use native.Mathlib.Omega.{arith}
use mathlib.Core.Path.{◌≡◌, refl, ap}
use mathlib.Core.Bool.{Bool, true, false}
use mathlib.Core.List.{List, ◌++◌}
use lib.ListN.{length, drop}
use lib.Dec.{leb}
use Rattle.definitions.specs.Answers.{gives}
use Rattle.definitions.specs.Table.{pick}
use Rattle.definitions.specs.Records.{Pack}
use Rattle.definitions.specs.Pack.{Reading, yes, refuse, read, words}
use Rattle.definitions.specs.Answers.{answer, buffer, words_and_steps, out_of_room, done, all_of, given, written}
use Rattle.definitions.specs.Checking.{rewrite_answer, rewrite_buffer}
use Rattle.pack.proofs.PackLaws.{read-words, words-read}
use Rattle.theorems.specs.RoundTrips.{RoundTrips}
use Rattle.theorems.proofs.Faithful.{words_again, bytes_again}

rewritten : (ws lent : List ℕ) (n steps : ℕ) → rewrite_answer ws (length lent) ≡ words_and_steps n steps → rewrite_buffer ws lent ≡ ws ++ drop (length ws) lent
unfolding rewrite_answer rewrite_buffer
rewritten ws lent n steps e = go (read ws) refl e
  where
    roomy : (p : Pack) → words p ≡ ws → (b : Bool) → pick b (words_and_steps (length (words p)) 0) out_of_room ≡ gives n steps
        → pick b (words p ++ drop (length (words p)) lent) lent ≡ ws ++ drop (length ws) lent
    roomy p q true f = ap (λ (v : List ℕ). v ++ drop (length v) lent) q
    roomy p q false f = let z : ◌≡◌ {A = ℕ} 0 1 = cc in absurd (omega arith)

    go : (x : Reading) → read ws ≡ x → answer x (λ p. given 0 (length lent) (done (all_of (words p)))) ≡ gives n steps
        → buffer x (λ p. written lent (done (all_of (words p)))) lent ≡ ws ++ drop (length ws) lent
    go (yes p) q f = roomy p (words-read ws p q).same (leb (length (words p)) (length lent)) f
    go (refuse r) q f = let z : ◌≡◌ {A = ℕ} 0 1 = cc in absurd (omega arith)

pub round_trips : RoundTrips
round_trips =
    record {
      pack_again = read-words;
      words_again = λ ws p e. ((words-read ws p e).same, (words-read ws p e).fine);
      rewritten = rewritten;
      bytes_read = words_again;
      bytes_written = bytes_again;
    }
