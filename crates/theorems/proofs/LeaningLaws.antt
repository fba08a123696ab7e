-- Lean follows sources and paths; kinds do not pass through a path.
use Prim.Native.Nat.{ℕ, ◌<◌}
use native.Mathlib.Omega.{arith}
use mathlib.Core.Path.{◌≡◌, refl, ap, sym, ◌∙◌}
use mathlib.Core.List.{List, [], ◌∷◌}
use mathlib.Core.Bool.{Bool, true, false}
use mathlib.Core.Option.{Option, none, some}
use borrow.Author.Tests.{lt-ltb}
use Rattle.definitions.specs.Records.{Hop, Derivation, Relation, Pack}
use Rattle.definitions.specs.Pack.{yes, read}
use Rattle.definitions.specs.Chain.{Link, end, next}
use Rattle.definitions.specs.Kinds.{KindsFound, inherits, derived, declares, read_at, kind_step}
use Rattle.definitions.specs.Lean.{leans}
use Rattle.definitions.specs.Answers.{yes_or_no, written_of}
use Rattle.definitions.specs.Operations.{lean_answer}
use Rattle.kinds.proofs.LeanLaws.{leans_computes}
use Rattle.theorems.specs.Leaning.{LeanFollows, KindsKeepOut}

answers-leans : (ws : List ℕ) (p : Pack) → read ws ≡ yes p → (a b : ℕ) → a < p.names → b < p.names → lean_answer ws a b ≡ yes_or_no (leans p.relations a b)
unfolding lean_answer
answers-leans ws p h a b k l = simp (h, lt-ltb a p.names k, lt-ltb b p.names l)

pub lean_follows : (ws : List ℕ) (p : Pack) → read ws ≡ yes p → (a b : ℕ) → a < p.names → b < p.names → LeanFollows ws p a b
lean_follows ws p h a b k l =
    let e = answers-leans ws p h a b k l in
    let c = leans_computes p.relations a b in
    record {
      yes-leads = λ q. c.sound (said (leans p.relations a b) (sym e ∙ q));
      leads-yes = λ d. e ∙ ap yes_or_no (c.complete d);
      otherwise_no = λ n. e ∙ ap yes_or_no (unsaid (leans p.relations a b) (λ t. n (c.sound t)));
    }
  where
    said : (t : Bool) → yes_or_no t ≡ yes_or_no true → t ≡ true
    said true q = refl
    said false q = let z : ◌≡◌ {A = ℕ} 0 1 = ap written_of q in absurd (omega arith)

    unsaid : (t : Bool) → (t ≡ true → ⊥) → t ≡ false
    unsaid true n = absurd (n refl)
    unsaid false n = refl

-- with a path a declaration ends the walk, whatever its lists
ends_there : (n : ℕ) (d : Derivation) (hops : List Hop) → d.path ≡ some hops → (es ks : List ℕ) (m : ℕ) → derived n d es ks ≡ next m → ⊥
ends_there n d hops e (k ∷ es) ks m q = let z : ◌≡◌ {A = ℕ} 0 1 = cc in omega arith
ends_there n d hops e [] (k ∷ ks) m q = let z : ◌≡◌ {A = ℕ} 0 1 = cc in omega arith
ends_there n d hops e [] [] m q = let z : ◌≡◌ {A = Link KindsFound} (end none) (next m) = ap (inherits d.source) (sym e) ∙ q in let y : ◌≡◌ {A = ℕ} 0 1 = cc in omega arith

pub kinds_keep_out : (rs : List Relation) (n : ℕ) → KindsKeepOut rs n
unfolding kind_step
kinds_keep_out rs n r d hops f e g m q =
    ends_there r.name d hops g d.slot_entities r.slot_kinds m
    (sym (ap (λ (o : Option Derivation). declares r.name r.slot_kinds o) e) ∙ sym (ap read_at f) ∙ q)
