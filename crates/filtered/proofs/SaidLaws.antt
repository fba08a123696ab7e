-- What the filtered tables say of a name, in each way out of the code that says it.
use Prim.Native.Nat.{ℕ, ◌+◌, ◌-◌, ◌*◌, ◌/◌, ◌%◌, ◌<◌, ◌≤◌}
use mathlib.Core.Path.{◌≡◌, refl, sym, ◌∙◌}
use mathlib.Core.Bool.{Bool, true, false}
use mathlib.Core.Option.{none, some, none-ne-some}
use native.Mathlib.Omega.{arith}
use lib.Dec.{eqb}
use borrow.Author.Tests.{eq-eqb, ne_eqb, eqb-true, eqb-false, le-ltb, le-leb, lt-leb}
use Rattle.std.specs.Prelude as code
use Rattle.std.specs.Prelude.{Some, None, unwrap_or}
use Rattle.std.specs.Option.{SomeIff}
use Rattle.definitions.specs.Table.{pick}
use Rattle.definitions.specs.Filtered.{or_none}
use Rattle.chains.specs.DirectoryWord.{declared_by}
use Rattle.filtered.specs.Taking.{option_in}
use Rattle.filtered.specs.Said.{direct_of, direct_by, inner_entry, inner_of, KnownName}

-- a word of the directory that has a name for its place and a list 1 behind it
ends_at : (e : ℕ) → e < 4096 → declared_by (e + 8192) ≡ e + 1
ends_at e l = let a : (e + 8192) / 8192 % 64 ≡ 1 = omega arith in let b : (e + 8192) % 8192 ≡ e = omega arith in rw (a, b) refl

-- and one that leads on
leads-to : (d : ℕ) → declared_by (524288 * (64 + d)) ≡ 65536 + d
leads-to d =
    let a : 524288 * (64 + d) / 8192 % 64 ≡ 0 = omega arith in
    let b : 524288 * (64 + d) / 8192 / 64 ≡ 64 + d = omega arith in
    let c : 64 + d - 64 ≡ d = omega arith in
    rw (a, b, le-ltb (64 + d) 64 (omega arith), c) refl

-- the one kind that an entity takes, as a word and as an option
module _ (x : ℕ) where
  pub no-direct : none ≡ direct_by x → direct_of x ≡ 16777215
  unfolding direct_by
  no-direct q = go (eqb (direct_of x) 16777215) refl q
    where
      go : (b : Bool) → eqb (direct_of x) 16777215 ≡ b → none ≡ pick b none (some (direct_of x)) → direct_of x ≡ 16777215
      go true e q = eqb-true (direct_of x) 16777215 e
      go false e q = absurd (none-ne-some _ q)

  pub is-direct : {d : ℕ} → some d ≡ direct_by x → (d ≡ direct_of x) × (d ≡ 16777215 → ⊥)
  unfolding direct_by
  is-direct {d = d} q = go (eqb (direct_of x) 16777215) refl q
    where
      go : (b : Bool) → eqb (direct_of x) 16777215 ≡ b → some d ≡ pick b none (some (direct_of x)) → (d ≡ direct_of x) × (d ≡ 16777215 → ⊥)
      go true e q = absurd (none-ne-some _ (sym q))
      go false e q = let s : d ≡ direct_of x = cc in (s, λ z. eqb-false (direct_of x) 16777215 e (sym s ∙ z))

  pub said-direct : (o : code.Option ℕ) → option_in o ≡ direct_by x → unwrap_or o 16777215 ≡ direct_of x
  said-direct None q = sym (no-direct q)
  said-direct (Some d) q = (is-direct q).0

  module _ (e : ℕ) where
    pub direct-low : {d : ℕ} → some d ≡ direct_by x → KnownName x e → d < 4096
    direct-low q n = let i = is-direct q in omega (arith, i.0, n.leads (λ z. i.1 (i.0 ∙ z)))

    pub word_none : none ≡ direct_by x → e < 4096 → declared_by (e + 8192) ≡ inner_entry x e
    unfolding inner_entry
    word_none q l = ends_at e l ∙ sym (rw (eq-eqb (direct_of x) 16777215 (no-direct q)) refl)

    pub word-itself : some e ≡ direct_by x → e < 4096 → declared_by (e + 8192) ≡ inner_entry x e
    unfolding inner_entry
    word-itself q l = let i = is-direct q in ends_at e l ∙ sym (rw (← i.0, ne_eqb e 16777215 i.1, eq-eqb e e refl) refl)

    pub word-leads : {d : ℕ} → some d ≡ direct_by x → (d ≡ e → ⊥) → declared_by (524288 * (64 + d)) ≡ inner_entry x e
    unfolding inner_entry
    word-leads {d = d} q z = let i = is-direct q in leads-to d ∙ sym (rw (← i.0, ne_eqb d 16777215 i.1, ne_eqb d e z) refl)

  module _ (mark : ℕ) where
    pub inner-none : none ≡ direct_by x → 16777215 ≡ inner_of x mark
    unfolding inner_of
    inner-none q = sym (rw (eq-eqb (direct_of x) 16777215 (no-direct q)) refl)

    pub inner_some : {d : ℕ} → some d ≡ direct_by x → {answer : ℕ} → answer ≡ mark - 2 → (o : code.Option ℕ) → SomeIff o (1 ≤ answer) (answer - 1) → or_none (option_in o) ≡ inner_of x mark
    unfolding inner_of
    inner_some q e None s =
        let i = is-direct q in sym (rw (← i.0, ne_eqb _ 16777215 i.1, le-leb mark 2 (omega (arith, s))) refl)
    inner_some q e (Some m) s =
        let i = is-direct q in
        let n : m ≡ mark - 3 = omega (arith, s.0, s.1) in
        n ∙ sym (rw (← i.0, ne_eqb _ 16777215 i.1, lt-leb mark 2 (omega (arith, s.0))) refl)
