-- Demand 2: "reading and writing again gives the same words."
use Rattle.std.specs.Prelude.{ℕ, ◌%◌, ◌^◌, ◌<◌, ◌≡◌, List, [], ◌∷◌, ◌++◌, length, drop}
use Rattle.definitions.specs.Records.{Pack}
use Rattle.definitions.specs.Pack.{yes, read, words, WellFormed}
use Rattle.definitions.specs.Answers.{words_and_steps}
use Rattle.definitions.specs.Checking.{rewrite_answer, rewrite_buffer}
use Rattle.definitions.specs.Bytes.{words_of, bytes_of}

-- each is below a bound
abbrev pub Below : ℕ → List ℕ → Type 0
Below n [] = Unit {0}
Below n (x ∷ xs) = (x < n) × Below n xs

pub record RoundTrips : Type 0 where
  -- a pack that keeps to the format is read from its words
  pub pack_again : (p : Pack) → WellFormed p → read (words p) ≡ yes p
  -- words that are read as a pack are its words, and it keeps to the format
  pub words_again : (ws : List ℕ) (p : Pack) → read ws ≡ yes p → (words p ≡ ws) × WellFormed p
  -- so Rewrite, where it does not refuse, leaves the words that it was given, and past them what was lent
  pub rewritten : (ws lent : List ℕ) (n steps : ℕ) → rewrite_answer ws (length lent) ≡ words_and_steps n steps → rewrite_buffer ws lent ≡ ws ++ drop (length ws) lent
  -- words to bytes and back, and bytes to words and back
  pub bytes_read : (ws : List ℕ) → Below (2 ^ 32) ws → words_of (bytes_of ws) ≡ ws
  pub bytes_written : (bytes : List ℕ) → Below 256 bytes → length bytes % 4 ≡ 0 → bytes_of (words_of bytes) ≡ bytes
