-- Document 02, Job 2. Where Resolve resolves, "the place given to each record equals the number of words written before it, and .. the place handed on is
-- that plus its length"; and there the record's words stand in the buffer.
use Rattle.std.specs.Prelude.{ℕ, ◌+◌, ◌≡◌, List, ◌∷◌, ◌++◌, length, get_or, take, drop}
use Rattle.definitions.specs.Records.{Pack}
use Rattle.definitions.specs.Pack.{yes, read, total}
use Rattle.definitions.specs.Answers.{done, words_and_steps}
use Rattle.definitions.specs.Resolving.{resolved}
use Rattle.definitions.specs.Operations.{resolve_answer, resolve_buffer}
use Rattle.definitions.specs.WrittenRecords.{pieces_of, beginnings, Carried}

-- the place of the record that so many are written before; past the last one the end
abbrev pub place_of_record : Pack → ℕ → ℕ
place_of_record q i = get_or (beginnings 0 (pieces_of q)) i (total q)

-- of the records that a pack comes out with, each
pub record PlacesCarried (q : Pack) (buffer : List ℕ) : Type 0 where
  pub carried : (before after : List (List ℕ)) (r : List ℕ) → pieces_of q ≡ before ++ (r ∷ after) → Carried before r (place_of_record q (length before)) (place_of_record q (length before + 1))
  pub stands : (before after : List (List ℕ)) (r : List ℕ) → pieces_of q ≡ before ++ (r ∷ after) → take (length r) (drop (place_of_record q (length before)) buffer) ≡ r

-- of every pack that resolves, wherever the answer is no refusal for want of room
abbrev pub OutputPlaces : Type 0
OutputPlaces =
    (ws lent : List ℕ) (p q : Pack) (n steps : ℕ) → read ws ≡ yes p → resolved p ≡ done q → resolve_answer ws (length lent) ≡ words_and_steps n steps
    → PlacesCarried q (resolve_buffer ws lent)
