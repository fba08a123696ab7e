-- `filtered::taking::read_relation` meets its contract.
use Rattle.std.proofs.Common.{ℕ, arith, Option, unwrap_or}
use mathlib.Core.Path.{refl, sym, ap, ◌∙◌}
use Rattle.filtered.proofs.TakingLaws.{plain-read, derived-read}
use Rattle.filtered.proofs.taking.read_relation.Goals as goal

pub returns-in_default : goal.returns-in_default
returns-in_default c =
    plain-read _ _ _ _ _ _ c.slots.ensures.0 refl (ap (λ (o : Option ℕ). unwrap_or o 0) c.in_default.is) c.start.ensures.0 (c.number.ensures ∙ c.typed.ensures) refl

pub returns : goal.returns
returns c =
    derived-read _ _ _ _ _ _ (sym (ap (λ (o : Option ℕ). unwrap_or o 0) c.in-Some.is) ∙ c.slots.ensures.0) refl (λ z. omega (arith, c.in-Some.ensures, z)) c.list.ensures.0 c.value_at.ensures.0 c.kind_at-kind.ensures
    c.value_at-2.ensures.0 c.take_at.ensures (rw c.number-2.ensures refl)
