-- Resolve refuses by 01's numbers for it alone, at a word of the pack and by names of the pack.
use Rattle.std.specs.Prelude.{Err}
use Prim.Native.Nat.{ℕ, ◌≤◌}
use native.Mathlib.Omega.{arith}
use mathlib.Core.Path.{◌≡◌, refl, ap, sym, ◌∙◌}
use mathlib.Core.List.{List}
use mathlib.Core.Bool.{Bool, true, false, ◌&&◌}
use lib.ListN.{length}
use lib.Dec.{eqb, leb}
use borrow.Author.Tests.{eqb-true, eqb-false}
use Rattle.definitions.specs.declared.answer.Refusal.{Refusal}
use Rattle.definitions.specs.Answers.{gives}
use Rattle.definitions.specs.Table.{pick}
use Rattle.definitions.specs.Records.{Pack}
use Rattle.definitions.specs.Pack.{Reading, yes, refuse, read, total}
use Rattle.definitions.specs.Answers.{answer, out_of_room, Outcome, done, refused}
use Rattle.pack.proofs.PackLaws.{words-length, words-read}
use Rattle.pack.proofs.Refusals.{read_numbers}
use Rattle.definitions.specs.Kinds.{all_kinds}
use Rattle.definitions.specs.Resolving.{resolved}
use Rattle.definitions.specs.Operations.{resolve_answer}
use Rattle.resolve.specs.Finish.{given_out}
use Rattle.directions.proofs.Numbers.{refused_number}
use Rattle.resolve.proofs.RefusalNames.{Told, resolved_told}
use Rattle.theorems.specs.ResolveRefusing.{WithinPack, ResolveRefuses, checks, equal-kinds, open_direction, no_room}

pub resolve_numbers : (ws : List ℕ) (room : ℕ) (r : Refusal) → resolve_answer ws room ≡ Err r → ResolveRefuses ws r
unfolding resolve_answer
resolve_numbers ws room r e = go (read ws) refl e
  where
    long : (p : Pack) → read ws ≡ yes p → total p ≡ length ws
    long p h = sym (words-length p) ∙ ap length (words-read ws p h).same

    told : (p : Pack) → read ws ≡ yes p → Told {A = Pack} p.names (total p) (refused r) → WithinPack ws r
    told p h t = record { pack = p; reads = h; place = rw (← long p h) t.0.place; name = t.1; other = t.0.other }

    numbered : (9 ≤ r.number) × (r.number ≤ 15) → WithinPack ws r → (b : Bool) → eqb r.number 9 ≡ b → ResolveRefuses ws r
    numbered n o true q = equal-kinds (eqb-true r.number 9 q) o
    numbered n o false q = let z = eqb-false r.number 9 q in open_direction (omega (arith, n.0), n.1) o

    fits : (b : Bool) (n steps : ℕ) → pick b (gives n steps) out_of_room ≡ Err r → ResolveRefuses ws r
    fits true n steps q = let z : ◌≡◌ {A = ℕ} 0 1 = cc in absurd (omega arith)
    fits false n steps q = no_room (sym q)

    outcome : (p : Pack) → read ws ≡ yes p → (o : Outcome Pack) → resolved p ≡ o → Told p.names (total p) o → given_out (all_kinds p.relations).steps room o ≡ Err r → ResolveRefuses ws r
    outcome p h (refused s) k t q =
        let u : s ≡ r = cc in
        numbered (refused_number p r (k ∙ ap refused u)) (told p h (rw (← u) t)) (eqb r.number 9) refl
    outcome p h (done x) k t q = fits (leb (total x) 8192 && leb (total x) room) (total x) (all_kinds p.relations).steps q

    go : (m : Reading) → read ws ≡ m → answer m (λ p. given_out (all_kinds p.relations).steps room (resolved p)) ≡ Err r → ResolveRefuses ws r
    go (yes p) h q = outcome p h (resolved p) refl (resolved_told p (words-read ws p h).fine) q
    go (refuse s) h q = let u : s ≡ r = cc in checks (read_numbers ws r (h ∙ ap refuse u))
