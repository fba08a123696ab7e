-- What holds of all that may follow a head word, by computation over each: the one place that goes through the enum.
-- Assumes nothing.
use mathlib.Core.Path.{◌≡◌, refl, subst}
use mathlib.Core.List.{List, [], ◌∷◌, map}
use mathlib.Core.Bool.{Bool, true, false}
use Prim.Native.Nat.{ℕ, zero, suc, ◌<◌}
use native.Mathlib.Omega.{arith}
use lib.ListN.{length, get_or}
use denote.Enum.Declared.{tag_of}
use borrow.Enum.Match.{tag_small}
use Rattle.definitions.specs.declared.table.Follows.{Follows}
use Rattle.definitions.specs.declared.table.Follows.TheVariants.{Nothing, Counted, OneScalar, TwoScalars, Scalars, Patterns, Periods, OneJudgment, Judgments, Choice, Aggregate, OnlyRelated, Slots, Atom, Exists}
use Rattle.definitions.specs.contracts.table.Follows.{the_type}
use Rattle.definitions.specs.Table.{pick}
use Rattle.pack.proofs.Listed.{agree}

abbrev pub variants : List Follows
variants = Nothing ∷ Counted ∷ OneScalar ∷ TwoScalars ∷ Scalars ∷ Patterns ∷ Periods ∷ OneJudgment ∷ Judgments ∷ Choice ∷ Aggregate ∷ OnlyRelated ∷ Slots ∷ Atom ∷ Exists ∷ []

at_tag : (w : Follows) → get_or variants (tag_of the_type w) Nothing ≡ w
at_tag Nothing = refl
at_tag Counted = refl
at_tag OneScalar = refl
at_tag TwoScalars = refl
at_tag Scalars = refl
at_tag Patterns = refl
at_tag Periods = refl
at_tag OneJudgment = refl
at_tag Judgments = refl
at_tag Choice = refl
at_tag Aggregate = refl
at_tag OnlyRelated = refl
at_tag Slots = refl
at_tag Atom = refl
at_tag Exists = refl

-- two functions that list the same agree at each
pub alike : {A : Type 0} (f g : Follows → A) → map f variants ≡ map g variants → (w : Follows) → f w ≡ g w
alike f g e w = subst (λ (x : Follows). f x ≡ g x) (at_tag w) (agree (λ n. f (get_or variants n Nothing)) (λ n. g (get_or variants n Nothing)) 0 15 e (tag_of the_type w) (omega arith) (tag_small the_type w))

abbrev pub Each : (Follows → Type 0) → List Follows → Type 0
Each P [] = Unit {0}
Each P (w ∷ ws) = P w × Each P ws

abbrev pub those : (Follows → Bool) → List Follows → List Follows
those test [] = []
those test (w ∷ ws) = pick (test w) (w ∷ those test ws) (those test ws)

-- what holds of each that passes a test
pub where_true : (test : Follows → Bool) (P : Follows → Type 0) → Each P (those test variants) → (w : Follows) → test w ≡ true → P w
where_true test P h w e = subst P (at_tag w) (go variants (tag_of the_type w) (tag_small the_type w) h (rw at_tag e))
  where
    later : (b : Bool) (w : Follows) (ws : List Follows) → Each P (pick b (w ∷ ws) ws) → Each P ws
    later true w ws h = h.1
    later false w ws h = h

    go : (ws : List Follows) (n : ℕ) → n < length ws → Each P (those test ws) → test (get_or ws n Nothing) ≡ true → P (get_or ws n Nothing)
    go [] n l h e = absurd (omega arith)
    go (w ∷ ws) zero l h e = (rw e at h).0
    go (w ∷ ws) (suc n) l h e = go ws n (omega arith) (later (test w) w (those test ws) h) e
