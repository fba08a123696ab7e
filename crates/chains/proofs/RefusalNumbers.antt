-- An operation refuses by Check's numbers, and by those of what it makes of a pack: 16 where words are written.
use Rattle.std.specs.Prelude.{Err}
use Prim.Native.Nat.{ℕ}
use native.Mathlib.Omega.{arith}
use mathlib.Core.Path.{◌≡◌, refl, ap, sym, ◌∙◌}
use mathlib.Core.List.{List}
use mathlib.Core.Bool.{Bool, true, false}
use mathlib.Core.Logic.{◌⊎◌, inl, inr}
use lib.ListN.{length}
use lib.Dec.{leb}
use Rattle.definitions.specs.declared.answer.Refusal.{Refusal}
use Rattle.definitions.specs.Answers.{Answer, gives, answer, out_of_room, write_answer}
use Rattle.definitions.specs.Table.{pick}
use Rattle.definitions.specs.Records.{Pack}
use Rattle.definitions.specs.Pack.{Reading, yes, refuse, read}
use Rattle.pack.proofs.Refusals.{read_numbers}
use Rattle.definitions.specs.Checking.{CheckRefuses}

pub no_given : {v s : ℕ} {r : Refusal} → ◌≡◌ {A = Answer} (gives v s) (Err r) → ⊥
no_given e = let z : ◌≡◌ {A = ℕ} 0 1 = cc in omega arith

-- an operation's refusals are Check's, and those of what it makes of a pack
pub refuses : (P : Refusal → Type 0) (f : Pack → Answer) → ((p : Pack) (r : Refusal) → f p ≡ Err r → P r) → (ws : List ℕ) (r : Refusal) → answer (read ws) f ≡ Err r → CheckRefuses ws r ⊎ P r
refuses P f made ws r e = go (read ws) refl e
  where
    go : (m : Reading) → read ws ≡ m → answer m f ≡ Err r → CheckRefuses ws r ⊎ P r
    go (yes p) h q = inr (made p r q)
    go (refuse s) h q = let u : s ≡ r = cc in inl (read_numbers ws r (h ∙ ap refuse u))

-- ---- words are written: 16

abbrev pub NoRoom : Refusal → Type 0
NoRoom r = Err r ≡ out_of_room

pub writing_refuses : (out : List ℕ) (steps room : ℕ) (r : Refusal) → write_answer out steps room ≡ Err r → NoRoom r
writing_refuses out steps room r e = go (leb (length out) room) e
  where
    go : (b : Bool) → pick b (gives (length out) steps) out_of_room ≡ Err r → NoRoom r
    go true q = absurd (no_given q)
    go false q = sym q
