-- Slots that a direction gives fit into words.
use Prim.Native.Nat.{ℕ, ◌+◌, ◌<◌, ◌≤◌}
use native.Mathlib.Omega.{arith}
use mathlib.Core.Path.{◌≡◌}
use mathlib.Core.List.{List, [], ◌∷◌}
use mathlib.Core.Bool.{Bool, true, false}
use mathlib.Core.Option.{none, some}
use lib.ListN.{length, get_or}
use lib.Dec.{eqb, ltb}
use Rattle.definitions.specs.Table.{pick}
use Rattle.definitions.specs.Places.{names_at}
use Rattle.definitions.specs.declared.direction.Direction.{Direction}
use Rattle.definitions.specs.declared.direction.Direction.TheVariants.{Directed, Open}
use Rattle.definitions.specs.Tables.{Derived}
use Rattle.definitions.specs.Direction.{turn, Membership}
use Rattle.directions.specs.Words.{typed_in, derived_in, tables_in, SlotsFit, MemberTurned}
use Rattle.chains.specs.Record.{value_at}
use Rattle.filtered.specs.Acts.{act_part, act_list}
use Rattle.directions.proofs.KeepsForm.{DirectionFits, TablesFit, turn-fits, member-fits}
use Rattle.definitions.specs.Direction as direction

pub value-small : (ws : List ℕ) (at : ℕ) → value_at ws at < 16777216
unfolding value_at
value-small ws at = omega arith

-- the tables that the code reads have slots that fit
pub tables_fit_in : (ws acts taken : List ℕ) → TablesFit (tables_in ws acts taken)
unfolding tables_in derived_in typed_in
tables_fit_in ws acts taken =
    record {
      slots = λ n d e. derived-fits (get_or acts n 0) d (ltb (act_part (get_or acts n 0)) 2) e;
      few = λ n ks e. typed-few (get_or acts n 0) ks (eqb (act_part (get_or acts n 0)) 1) e;
    }
  where
    derived-fits : (x : ℕ) (d : Derived) (b : Bool) → pick b none (some (record { current = value_at ws (act_part x); related = value_at ws (act_part x + 1); kinds = names_at ws (act_list x) })) ≡ some d
        → (d.current < 16777216) × (d.related < 16777216)
    derived-fits x d true e = let z : ◌≡◌ {A = ℕ} 0 1 = cc in absurd (omega arith)
    derived-fits x d false e =
        let q : record { current = value_at ws (act_part x); related = value_at ws (act_part x + 1); kinds = names_at ws (act_list x) } ≡ d = cc in
        rw (← q) (value-small ws (act_part x), value-small ws (act_part x + 1))

    typed-few : (x : ℕ) (ks : List ℕ) (b : Bool) → pick b (some (value_at ws (act_list x + 1) ∷ value_at ws (act_list x + 2) ∷ [])) none ≡ some ks → length ks ≤ 8
    typed-few x ks false e = let z : ◌≡◌ {A = ℕ} 0 1 = cc in absurd (omega arith)
    typed-few x ks true e = let q : value_at ws (act_list x + 1) ∷ value_at ws (act_list x + 2) ∷ [] ≡ ks = cc in rw (← q) (omega arith)

-- the direction that a node gets fits its slots
pub slots_fit_in : (d : Direction) → DirectionFits d → SlotsFit d
slots_fit_in (Directed c r k) h = h
slots_fit_in (Open e) h = tt

module _ (ws acts taken : List ℕ) where
  pub turned_fits : (n e c r : ℕ) → c < 16777216 → r < 16777216 → {d : Direction} → d ≡ turn (tables_in ws acts taken) n e c r → SlotsFit d
  turned_fits n e c r hc hr q = rw q (slots_fit_in (turn (tables_in ws acts taken) n e c r) (turn-fits (tables_in ws acts taken) (tables_fit_in ws acts taken) n e c r hc hr))

-- a test of membership
member_fits_in : (ws acts taken : List ℕ) (n : ℕ) (m : Membership) (c r : ℕ) → c < 16777216 → r < 16777216 → SlotsFit (direction.member_direction (tables_in ws acts taken) n m c r)
member_fits_in ws acts taken n m c r hc hr =
    slots_fit_in (direction.member_direction (tables_in ws acts taken) n m c r) (member-fits (tables_in ws acts taken) (tables_fit_in ws acts taken) n m c r hc hr)

pub member_fits_code : (ws acts : List ℕ) (n : ℕ) (m : Membership) (c r : ℕ) → c < 16777216 → r < 16777216 → {d : Direction} → MemberTurned ws acts n m c r d → SlotsFit d
member_fits_code ws acts n m c r hc hr t = rw (t []) (member_fits_in ws acts [] n m c r hc hr)
