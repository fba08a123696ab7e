-- The kinds that directions tell are below a limit that the kinds in the tables are below. Those that the code reads are values, so that no kind is a refusal's code.
use Prim.Native.Nat.{ℕ, zero, suc, ◌-◌, ◌<◌, ◌≤◌}
use native.Mathlib.Omega.{arith}
use mathlib.Core.Path.{◌≡◌, refl}
use mathlib.Core.List.{List, [], ◌∷◌}
use mathlib.Core.Bool.{Bool, true, false}
use mathlib.Core.Option.{Option, none, some}
use lib.ListN.{length, get_or}
use lib.Dec.{ltb}
use Rattle.definitions.specs.Table.{pick}
use Rattle.filtered.proofs.KindBounds.{Below}
use Rattle.definitions.specs.declared.direction.Direction.{Direction}
use Rattle.definitions.specs.declared.direction.Direction.TheVariants.{Directed, Open}
use Rattle.definitions.specs.Tables.{Derived, Tables}
use Rattle.definitions.specs.Direction.{bearing, or_else, kind_or_zero, matched, towards, turn}

-- kinds below a limit
abbrev pub Small : ℕ → Option (List ℕ) → Type 0
Small most o = (slot : ℕ) → kind_or_zero o slot < most

below_at : (n most : ℕ) → n ≤ most → 0 < most → (ks : List ℕ) → Below n ks → (slot : ℕ) → get_or ks slot 0 < most
below_at n most l z [] h slot = z
below_at n most l z (k ∷ ks) h zero = let q = h.0 in omega arith
below_at n most l z (k ∷ ks) h (suc slot) = below_at n most l z ks h.1 slot

pub below-small : (n most : ℕ) → n ≤ most → 0 < most → (ks : List ℕ) → Below n ks → Small most (some ks)
below-small n most l z ks h slot = go (ltb slot (length ks))
  where
    go : (b : Bool) → or_else (pick b (some (get_or ks slot 0)) none) 0 < most
    go true = below_at n most l z ks h slot
    go false = z

-- ---- directions from tables of such kinds

pub record KindsBelow (most : ℕ) (T : Tables) : Type 0 where
  pub typed : (n : ℕ) → Small most (T.typed n)
  pub derived : (n : ℕ) (d : Derived) → T.derived n ≡ some d → Small most d.kinds

abbrev pub KindFits : ℕ → Direction → Type 0
KindFits most (Directed c r k) = k < most
KindFits most (Open e) = Unit {0}

module _ (most : ℕ) (some-kind : 0 < most) where
  matched-small : (ks : List ℕ) (e c r : ℕ) (ss : List ℕ) → Small most (some ks) → KindFits most (matched ks e c r ss)
  matched-small ks e c r [] h = h r
  matched-small ks e c r (s ∷ []) h = h (1 - s)
  matched-small ks e c r (s ∷ t ∷ ss) h = tt

  towards-small : (direct : ℕ → Option ℕ) (o : Option (List ℕ)) (e c r : ℕ) → Small most o → KindFits most (towards direct o e c r)
  towards-small direct none e c r h = some-kind
  towards-small direct (some ks) e c r h = matched-small ks e c r (bearing (or_else (direct e) e) 0 ks) h

  pub turn_below : (T : Tables) → KindsBelow most T → (n e c r : ℕ) → KindFits most (turn T n e c r)
  unfolding turn
  turn_below T b n e c r = go (T.derived n) refl
    where
      go : (o : Option Derived) → T.derived n ≡ o
          → KindFits most (elim o [ some d ↦ Directed d.current d.related (kind_or_zero d.kinds d.related) | none ↦ towards T.direct (T.typed n) e c r ])
      go (some d) q = b.derived n d q d.related
      go none q = towards-small T.direct (T.typed n) e c r (b.typed n)
