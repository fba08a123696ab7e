-- The operations on chains refuse by 01's numbers for them alone: Check's, then 16 where words are written, or 17 where names are asked for.
use Rattle.std.specs.Prelude.{Err}
use Prim.Native.Nat.{ℕ}
use mathlib.Core.Path.{◌≡◌, sym}
use mathlib.Core.List.{List}
use mathlib.Core.Bool.{Bool, true, false}
use mathlib.Core.Logic.{◌⊎◌, inl, inr}
use lib.Dec.{ltb}
use Rattle.definitions.specs.declared.answer.Refusal.{Refusal}
use Rattle.definitions.specs.Answers.{Answer}
use Rattle.definitions.specs.Answers.{gives}
use Rattle.definitions.specs.Table.{pick}
use Rattle.definitions.specs.Checking.{CheckRefuses}
use Rattle.definitions.specs.Kinds.{all_kinds, own_answer}
use Rattle.definitions.specs.Lean.{leans}
use Rattle.definitions.specs.Places.{place_of, all_kinds_words}
use Rattle.definitions.specs.Answers.{write_answer, unknown, yes_no}
use Rattle.definitions.specs.Operations.{all_kinds_answer, kinds_of_answer, lean_answer}
use Rattle.chains.proofs.RefusalNumbers.{no_given, refuses, NoRoom, writing_refuses}

-- ---- words are written: 16

pub all_kinds_numbers : (ws : List ℕ) (room : ℕ) (r : Refusal) → all_kinds_answer ws room ≡ Err r → CheckRefuses ws r ⊎ NoRoom r
unfolding all_kinds_answer
all_kinds_numbers ws room r e =
    refuses NoRoom (λ p. write_answer (all_kinds_words p) (all_kinds p.relations).steps room) (λ p r. writing_refuses (all_kinds_words p) (all_kinds p.relations).steps room r) ws r e

-- ---- names are asked for: 17, with the name

abbrev Unknown : ℕ → Refusal → Type 0
Unknown name r = Err r ≡ unknown name

-- a name below N leads on; another is refused
asking_refuses : (P : Refusal → Type 0) (name n : ℕ) (a : Answer) (r : Refusal) → (Unknown name r → P r) → (a ≡ Err r → P r) → pick (ltb name n) a (unknown name) ≡ Err r → P r
asking_refuses P name n a r un on e = go (ltb name n) e
  where
    go : (b : Bool) → pick b a (unknown name) ≡ Err r → P r
    go true q = on q
    go false q = un (sym q)

pub kinds_of_numbers : (ws : List ℕ) (name : ℕ) (r : Refusal) → kinds_of_answer ws name ≡ Err r → CheckRefuses ws r ⊎ Unknown name r
unfolding kinds_of_answer
kinds_of_numbers ws name r e =
    refuses (Unknown name) _ (λ p r. asking_refuses (Unknown name) name p.names (gives (place_of p (own_answer p.relations name)) 0) r (λ u. u) (λ q. absurd (no_given q))) ws r e

pub lean_numbers : (ws : List ℕ) (a b : ℕ) (r : Refusal) → lean_answer ws a b ≡ Err r → CheckRefuses ws r ⊎ (Unknown a r ⊎ Unknown b r)
unfolding lean_answer
lean_numbers ws a b r e =
    refuses (λ r. Unknown a r ⊎ Unknown b r) _
    (λ p r. asking_refuses (λ r. Unknown a r ⊎ Unknown b r) a p.names _ r (λ u. inl u)
    (asking_refuses (λ r. Unknown a r ⊎ Unknown b r) b p.names (gives (yes_no (leans p.relations a b)) 0) r (λ u. inr u) (λ q. absurd (no_given q)))) ws r e
