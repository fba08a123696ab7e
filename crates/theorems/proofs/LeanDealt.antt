-- Lean answers packs that are dealt out again alike.
use Prim.Native.Nat.{ℕ}
use mathlib.Core.Path.{◌≡◌, ap, ◌∙◌, fun_ext}
use mathlib.Core.List.{List}
use lib.ListN.{length}
use Rattle.definitions.specs.Records.{Relation}
use Rattle.definitions.specs.Dealt.{InAnyOrder}
use Rattle.definitions.specs.Chain.{Distinct}
use Rattle.definitions.specs.Kinds.{declared}
use Rattle.definitions.specs.Lean.{leads_within, edges_at, edges, leans}
use Rattle.chains.proofs.KindLaws.{find_dealt}
use Rattle.theorems.proofs.DealtLaws.{shuffled_length}

pub leans_dealt : {rs rs' : List Relation} → InAnyOrder rs rs' → Distinct (declared rs) → (a b : ℕ) → leans rs a b ≡ leans rs' a b
unfolding leans edges
leans_dealt {rs} {rs'} p d a b =
    let e : edges rs ≡ edges rs' = fun_ext (λ n. ap edges_at (find_dealt p d n)) in
    ap (λ s. leads_within s (length rs) a b) e ∙ ap (λ k. leads_within (edges rs') k a b) (shuffled_length p)
