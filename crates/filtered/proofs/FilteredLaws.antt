-- The filtered tables go by no order of relations, and the innermost kind is the answer of a chain walk.
use Prim.Native.Nat.{ℕ, zero, suc, ◌<◌}
use native.Mathlib.Omega.{arith}
use mathlib.Core.Path.{◌≡◌, refl, sym, ap, ◌∙◌, subst, fun_ext}
use mathlib.Core.List.{List, [], ◌∷◌}
use mathlib.Core.Bool.{Bool, true, false, ◌||◌, ◌&&◌, not}
use mathlib.Core.Option.{Option, none, some}
use lib.Dec.{ltb, eqb}
use borrow.Author.Tests.{eqb-true, eqb-false, ne_eqb, ltb-true}
use Rattle.definitions.specs.Table.{pick}
use Rattle.definitions.specs.Form.{among}
use Rattle.definitions.specs.Records.{Derivation, Relation}
use Rattle.definitions.specs.Dealt.{nil, cons, swap, trans, InAnyOrder}
use Rattle.definitions.specs.Chain.{end, next, Distinct, OnlyDeclaredLead, same}
use Rattle.definitions.specs.Kinds.{kinds_of, declared}
use Rattle.definitions.specs.Lean.{any}
use Rattle.definitions.specs.Filtered.{kind_at, listed, entity_is, takes, taken_from, taken, single, direct, alias, names_entity, is_nil, unresolved, inner_at, up_to, inner_step, innermost_by, innermost}
use Rattle.chains.proofs.Names.{shuffled_after, shuffled_rows, shuffled_any}
use Rattle.chains.proofs.ChainLaws.{settled-own}
use Rattle.chains.specs.Settle.{SettledOwn}
use Rattle.chains.proofs.KindLaws.{kinds_dealt}

-- what a list of kinds says, whatever its order
single_alike : {l m : List ℕ} → InAnyOrder l m → single l ≡ single m
single_alike nil = refl
single_alike (cons {a = a} {m = m} e p) = ap (λ t. pick t none (some a)) (shuffled_any (λ x. not (eqb x a)) p) ∙ ap (λ c. single (c ∷ m)) e
single_alike (swap {a = a} {b = b} {l = l}) = go (eqb b a) refl
  where
    go : (t : Bool) → eqb b a ≡ t → single (a ∷ b ∷ l) ≡ single (b ∷ a ∷ l)
    go true e = subst (λ c. single (a ∷ c ∷ l) ≡ single (c ∷ a ∷ l)) (sym (eqb-true b a e)) refl
    go false e = rw (e, ne_eqb a b (λ h. eqb-false b a e (sym h)))
single_alike (trans p q) = single_alike p ∙ single_alike q

nil_alike : {l m : List ℕ} → InAnyOrder l m → is_nil l ≡ is_nil m
nil_alike nil = refl
nil_alike (cons e p) = refl
nil_alike swap = refl
nil_alike (trans p q) = nil_alike p ∙ nil_alike q

-- the kinds taken, of relations in any order
module _ (rs : List Relation) (e : ℕ) where
  from_dealt : {l m : List Relation} → InAnyOrder l m → InAnyOrder (taken_from rs e l) (taken_from rs e m)
  from_dealt nil = nil
  from_dealt (cons {a = a} {b = b} {l = l} {m = m} q p) =
      subst (λ (r : Relation). InAnyOrder (taken_from rs e (a ∷ l)) (taken_from rs e (r ∷ m))) q (shuffled_after (takes rs e a.name a.derivation) (from_dealt p))
  from_dealt (swap {a = a} {b = b} {l = l}) = shuffled_rows (takes rs e a.name a.derivation) (takes rs e b.name b.derivation) (taken_from rs e l)
  from_dealt (trans p q) = trans (from_dealt p) (from_dealt q)

module _ (rs rs' : List Relation) (kinds : (n : ℕ) → kinds_of rs n ≡ kinds_of rs' n) (e : ℕ) where
  takes_alike : (n : ℕ) (o : Option Derivation) → takes rs e n o ≡ takes rs' e n o
  takes_alike n none = refl
  takes_alike n (some d) = ap (λ ks. pick (entity_is d.entity e) (listed (kind_at ks d.current)) []) (kinds n)

  from_alike : (l : List Relation) → taken_from rs e l ≡ taken_from rs' e l
  from_alike [] = refl
  from_alike (r ∷ l) = cc (takes_alike r.name r.derivation, from_alike l)

pub record FilteredAlike (rs rs' : List Relation) : Type 0 where
  pub kinds-taken : (e : ℕ) → InAnyOrder (taken rs e) (taken rs' e)
  pub directs : (e : ℕ) → direct rs e ≡ direct rs' e
  pub aliases : (e : ℕ) → alias rs e ≡ alias rs' e
  pub unresolveds : (e : ℕ) → unresolved rs e ≡ unresolved rs' e
  pub innermosts : (names e : ℕ) → innermost rs names e ≡ innermost rs' names e

pub filtered_dealt : {rs rs' : List Relation} → InAnyOrder rs rs' → Distinct (declared rs) → FilteredAlike rs rs'
unfolding taken direct alias unresolved innermost
filtered_dealt {rs} {rs'} p d =
    record {
      kinds-taken = both;
      directs = λ e. single_alike (both e);
      aliases = λ e. shuffled_any (λ k. not (eqb k e)) (both e);
      unresolveds = λ e.
          ap (λ b. b && is_nil (taken rs e)) (shuffled_any (λ (r : Relation). names_entity e r.derivation) p)
          ∙ ap (λ b. any (λ (r : Relation). names_entity e r.derivation) rs' && b) (nil_alike (both e));
      innermosts = λ names e. ap (λ f. innermost_by f names e) (fun_ext (λ n. single_alike (both n)));
    }
  where
    both : (e : ℕ) → InAnyOrder (taken_from rs e rs) (taken_from rs' e rs')
    both e = subst (λ l. InAnyOrder (taken_from rs e rs) l) (from_alike rs rs' (kinds_dealt p d).kinds e rs') (from_dealt rs e p)

-- the chain of direct kinds: only names below N lead on
up_to-among : (n names : ℕ) → n < names → among n (up_to names) ≡ true
up_to-among n zero h = absurd (omega arith)
up_to-among n (suc k) h = go (eqb n k) refl (up_to-among n k)
  where
    go : (b : Bool) → eqb n k ≡ b → (n < k → among n (up_to k) ≡ true) → (b || among n (up_to k)) ≡ true
    go true e rest = refl
    go false e rest = rest (let u = eqb-false n k e in omega arith)

module _ (d : ℕ → Option ℕ) (names : ℕ) where
  pub inner-leads : OnlyDeclaredLead (inner_step names d) (up_to names)
  inner-leads n m e = go (ltb n names) refl e
    where
      go : (b : Bool) → ltb n names ≡ b → pick b (inner_at n (d n)) (end none) ≡ next m → among n (up_to names) ≡ true
      go true h f = up_to-among n names (ltb-true n names h)
      go false h f = let z : ◌≡◌ {A = ℕ} 0 1 = cc in absurd (omega arith)

  -- walks from any starts settle them with their own walks' answers
  pub inner-own : (starts : List ℕ) → SettledOwn none same (inner_step names d) (up_to names) starts
  inner-own starts = settled-own none same refl (inner_step names d) (up_to names) inner-leads starts
