-- Cases that compute: bytes that are no words.
use mathlib.Core.Path.{◌≡◌, refl}
use mathlib.Core.List.{[], ◌∷◌}
use Rattle.definitions.specs.Checking.{check_answer, rewrite_answer, rewrite_buffer}
use Rattle.definitions.specs.Operations.{resolve_answer, resolve_buffer}
use Rattle.definitions.specs.Bytes.{encode, over_bytes, out_after, Gives}

-- "A refusal prints `refused 1 0 0 0`, here for 3 bytes"
three_bytes : encode (over_bytes check_answer (6 ∷ 0 ∷ 0 ∷ [])) ≡ 1
unfolding over_bytes
three_bytes = refl

three_bytes_rewritten : Gives rewrite_answer rewrite_buffer (6 ∷ 0 ∷ 0 ∷ []) (1 ∷ 2 ∷ 3 ∷ 4 ∷ 5 ∷ []) 1 (1 ∷ 2 ∷ 3 ∷ 4 ∷ 5 ∷ [])
unfolding over_bytes out_after
three_bytes_rewritten = record { answers = refl; leaves = refl }

three_bytes_resolved : Gives resolve_answer resolve_buffer (6 ∷ 0 ∷ 0 ∷ []) (1 ∷ 2 ∷ 3 ∷ 4 ∷ 5 ∷ []) 1 (1 ∷ 2 ∷ 3 ∷ 4 ∷ 5 ∷ [])
unfolding over_bytes out_after
three_bytes_resolved = record { answers = refl; leaves = refl }
