-- `pack::heads::Heads::new` meets its contract.
use Rattle.std.proofs.Common.{refl, ◌≡◌, ◌≢◌, ◌<◌, ◌≤◌, ℕ, length, get_or, arith, below_more, get_or-set_other, get_or-set_same}
use lib.ListN.{length-set, length-replicate, get_or-replicate, get_or-eq_default, replicate}
use lib.Dec.{ltb}
use borrow.Author.Tests.{ltb-true, ltb-false}
use mathlib.Core.Bool.{Bool, true, false}
use Rattle.pack.proofs.HeadLaws.{all_ended}
use Rattle.pack.proofs.heads.Heads.new.Goals as goal

zero_past : (k : ℕ) (b : Bool) → ltb k 64 ≡ b → get_or {A = ℕ} (replicate 64 0) k 0 ≡ 0
zero_past k true e = get_or-replicate {A = ℕ} 64 k 0 0 (ltb-true k 64 e)
zero_past k false e =
    let h : length {A = ℕ} (replicate 64 0) ≤ k = omega (arith, length-replicate {A = ℕ} 64 0, ltb-false k 64 e) in
    get_or-eq_default (replicate 64 0) 0 h

pub loop-i-init : goal.loop-i-init
loop-i-init c = record { long = refl; found = λ k h. absurd (omega arith); rest = λ k h. zero_past k (ltb k 64) refl }

pub loop-i-preserved : goal.loop-i-preserved
loop-i-preserved c = let g = c.loop-i.invariant in
    record {
      long = simp length-set g.long;
      found = below_more _ _
          (λ k h. let ne : k ≢ c.loop-i.i = omega arith in rw get_or-set_other (g.found k h))
          (let lt : c.loop-i.i < length c.loop-i.ends = omega (arith, g.long) in rw get_or-set_same c.end_of.ensures);
      rest = λ k h. let ne : k ≢ c.loop-i.i = omega arith in rw get_or-set_other (g.rest k (omega arith));
    }

pub invariant_of-result : goal.invariant_of-result
invariant_of-result c =
    let g = c.loop-i.invariant in
    record { few = omega arith; ended = all_ended _ _ (λ i h. g.found i (omega arith)) (λ i h. g.rest i (omega arith)) }
