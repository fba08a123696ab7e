-- What the code says of a name, from what is known of it, is what the definitions say.
use Prim.Native.Nat.{ℕ, zero, suc, ◌+◌, ◌-◌, ◌<◌, ◌≤◌}
use native.Mathlib.Omega.{arith}
use mathlib.Core.Path.{◌≡◌, refl, ap, sym, ◌∙◌, subst, fun_ext}
use mathlib.Core.List.{List, [], ◌∷◌}
use mathlib.Core.Bool.{Bool, true, false, ◌||◌, ◌&&◌, not, and-false}
use mathlib.Core.Option.{Option, none, some}
use lib.ListN.{length, get_or}
use lib.Dec.{eqb, ltb, leb}
use borrow.Author.Tests.{eq-eqb, ne_eqb, eqb-true, eqb-false, le-ltb, lt-leb}
use Rattle.definitions.specs.Table.{pick}
use Rattle.definitions.specs.Table as table
use Rattle.definitions.specs.Records.{Relation, Pack}
use Rattle.definitions.specs.Pack.{WellFormed, yes, read}
use Rattle.pack.proofs.PackLaws.{words-read}
use Rattle.definitions.specs.declared.operation.Filter.{Filter}
use Rattle.definitions.specs.declared.operation.Filter.TheVariants.{Direct, Innermost, Alias, Unresolved}
use Rattle.definitions.specs.Chain.{Link, end, own, same}
use Rattle.definitions.specs.Lean.{any}
use Rattle.definitions.specs.Filtered.{taken, single, direct, alias, names_entity, is_nil, unresolved, inner_at, up_to, inner_step, innermost, or_none, filter_says, filter_words}
use Rattle.chains.specs.PackDirectory.{IsPack, Named}
use Rattle.definitions.specs.Answers.{yes_no, table_from}
use Rattle.filtered.specs.Taking.{several, known, KnowsEntities}
use Rattle.filtered.specs.Said.{direct_of, direct_by, alias_of, unresolved_of, inner_of, said_in, direct_in, InnerAsked, answered, InnerMarked, InnerFor, FilterLeft}
use Rattle.chains.proofs.PackParts.{parts}
use Rattle.filtered.proofs.KindBounds.{Below, taken-below, direct-below}

-- ---- from what is known

module _ (b : Bool) where
  -- the first kind is no more than a name
  abbrev First : List ℕ → Type 0
  First [] = Unit {0}
  First (k ∷ ks) = k < 4096

  direct-known : (ks : List ℕ) → First ks → direct_of (known b ks) ≡ or_none (single ks)
  unfolding direct_of
  direct-known [] h = go b
    where
      go : (c : Bool) → pick (ltb (pick c 1 0) 2) table.none (pick (eqb (pick c 1 0) several) table.none (pick c 1 0 - 2)) ≡ table.none
      go true = refl
      go false = refl
  direct-known (k ∷ ks) h = go (any (λ x. not (eqb x k)) ks)
    where
      go : (c : Bool) → pick (ltb (pick c several (2 + k)) 2) table.none (pick (eqb (pick c several (2 + k)) several) table.none (pick c several (2 + k) - 2)) ≡ or_none (pick c none (some k))
      go true = refl
      go false = let m : 2 + k - 2 ≡ k = omega arith in rw (le-ltb (2 + k) 2 (omega arith), ne_eqb (2 + k) several (λ e. omega arith), m) refl

  unresolved-known : (ks : List ℕ) → unresolved_of (known b ks) ≡ yes_no (b && is_nil ks)
  unfolding unresolved_of
  unresolved-known [] = go b
    where
      go : (c : Bool) → pick (eqb (pick c 1 0) 1) 1 0 ≡ yes_no (c && true)
      go true = refl
      go false = refl
  unresolved-known (k ∷ ks) = go (any (λ x. not (eqb x k)) ks) ∙ ap yes_no (sym (and-false b))
    where
      go : (c : Bool) → ◌≡◌ {A = ℕ} (pick (eqb (pick c several (2 + k)) 1) 1 0) 0
      go true = refl
      go false = rw (ne_eqb (2 + k) 1 (λ e. omega arith)) refl

  alias-known : (ks : List ℕ) (e : ℕ) → e < 4096 → alias_of (known b ks) e ≡ yes_no (any (λ k. not (eqb k e)) ks)
  unfolding alias_of
  alias-known [] e h = go b
    where
      go : (c : Bool) → ◌≡◌ {A = ℕ} (pick (ltb (pick c 1 0) 2) 0 (pick (eqb (pick c 1 0) (2 + e)) 0 1)) 0
      go true = refl
      go false = refl
  alias-known (k ∷ ks) e h = go (eqb k e) refl
    where
      -- of several kinds one differs from e; of one kind all are as it is
      go : (q : Bool) → eqb k e ≡ q
          → pick (ltb (pick (any (λ x. not (eqb x k)) ks) several (2 + k)) 2) 0 (pick (eqb (pick (any (λ x. not (eqb x k)) ks) several (2 + k)) (2 + e)) 0 1)
          ≡ yes_no (not q || any (λ x. not (eqb x e)) ks)
      go true q = rw (eqb-true k e q) (many (any (λ x. not (eqb x e)) ks))
        where
          many : (c : Bool) → pick (ltb (pick c several (2 + e)) 2) 0 (pick (eqb (pick c several (2 + e)) (2 + e)) 0 1) ≡ yes_no c
          many true = rw (ne_eqb several (2 + e) (λ z. omega arith)) refl
          many false = rw (le-ltb (2 + e) 2 (omega arith), eq-eqb (2 + e) (2 + e) refl) refl
      go false q = many (any (λ x. not (eqb x k)) ks)
        where
          many : (c : Bool) → ◌≡◌ {A = ℕ} (pick (ltb (pick c several (2 + k)) 2) 0 (pick (eqb (pick c several (2 + k)) (2 + e)) 0 1)) 1
          many true = rw (ne_eqb several (2 + e) (λ z. omega arith)) refl
          many false = rw (le-ltb (2 + k) 2 (omega arith), ne_eqb (2 + k) (2 + e) (λ z. eqb-false k e q (omega arith))) refl

-- ---- a checked pack

module _ (ws t : List ℕ) (p : Pack) (h : read ws ≡ yes p) (k : KnowsEntities ws t) where
  abbrev rs : List Relation
  rs = p.relations

  fine : WellFormed p
  fine = (words-read ws p h).fine

  most : p.names ≤ 4096
  most = (parts p fine).most

  first : (e : ℕ) → First true (taken rs e)
  first e = go (taken rs e) (taken-below p fine e)
    where
      go : (ks : List ℕ) → Below p.names ks → First true ks
      go [] b = tt
      go (j ∷ ks) b = omega (arith, b.0, most)

  module _ (e : ℕ) where
    abbrev named : Bool
    named = any (λ (r : Relation). names_entity e r.derivation) rs

    it : get_or t e 0 ≡ known named (taken rs e)
    it = k p h e

    directly : direct_of (get_or t e 0) ≡ or_none (direct rs e)
    unfolding direct
    directly = ap direct_of it ∙ direct-known named (taken rs e) (first e)

    is-alias : e < 4096 → alias_of (get_or t e 0) e ≡ yes_no (alias rs e)
    unfolding alias
    is-alias i = ap (λ (x : ℕ). alias_of x e) it ∙ alias-known named (taken rs e) e i

    is-unresolved : unresolved_of (get_or t e 0) ≡ yes_no (unresolved rs e)
    unfolding unresolved
    is-unresolved = ap unresolved_of it ∙ unresolved-known named (taken rs e)

    -- a direct kind is a name
    direct-name : (direct_of (get_or t e 0) ≡ table.none → ⊥) → direct_of (get_or t e 0) < p.names
    direct-name z = go (direct rs e) refl
      where
        go : (o : Option ℕ) → direct rs e ≡ o → direct_of (get_or t e 0) < p.names
        go none q = absurd (z (directly ∙ ap or_none q))
        go (some j) q = let d : direct_of (get_or t e 0) ≡ j = directly ∙ ap or_none q in omega (arith, direct-below p fine e j q)

    pub direct-in : direct_in t e ≡ direct rs e
    unfolding direct_in direct_by
    direct-in = go (direct rs e) refl
      where
        go : (o : Option ℕ) → direct rs e ≡ o → pick (eqb (direct_of (get_or t e 0)) table.none) none (some (direct_of (get_or t e 0))) ≡ o
        go none q = rw (directly ∙ ap or_none q) refl
        go (some j) q =
            let l = direct-below p fine e j q in
            rw (directly ∙ ap or_none q, ne_eqb j table.none (λ z. omega (arith, most))) refl

  asked : p.names ≤ length t → InnerAsked t p.names
  asked long = record { least = (parts p fine).least; most = most; long = long; leads = λ e i z. direct-name e z }

  inner-steps : inner_step p.names (direct_in t) ≡ inner_step p.names (direct rs)
  inner-steps = fun_ext (λ n. go n (ltb n p.names) refl)
    where
      go : (n : ℕ) (b : Bool) → ltb n p.names ≡ b → pick b (inner_at n (direct_in t n)) (end none) ≡ pick b (inner_at n (direct rs n)) (end none)
      go n true e = ap (inner_at n) (direct-in n)
      go n false e = refl

  -- the innermost kind, by the mark of the own walk
  innermost-said : (marks : List ℕ) → InnerMarked t p.names marks → (e : ℕ) → e < p.names → inner_of (get_or t e 0) (get_or marks e 0) ≡ or_none (innermost rs p.names e)
  unfolding inner_of innermost
  innermost-said marks m e i = go (direct rs e) refl
    where
      walked : Option ℕ
      walked = own none same (inner_step p.names (direct rs)) (up_to p.names) e

      mark : get_or marks e 0 ≡ 2 + answered walked
      mark = m e i ∙ ap (λ (s : ℕ → Link (Option ℕ)). 2 + answered (own none same s (up_to p.names) e)) inner-steps

      answer : (o : Option ℕ) → pick (leb (2 + answered o) 2) table.none (2 + answered o - 3) ≡ or_none o
      answer none = refl
      answer (some j) = let q : 2 + (j + 1) - 3 ≡ j = omega arith in rw (lt-leb (2 + (j + 1)) 2 (omega arith), q) refl

      go : (o : Option ℕ) → direct rs e ≡ o
          → pick (eqb (direct_of (get_or t e 0)) table.none) table.none (pick (leb (get_or marks e 0) 2) table.none (get_or marks e 0 - 3))
          ≡ or_none (elim o [ none ↦ none | some j ↦ walked ])
      go none q = rw (directly e ∙ ap or_none q) refl
      go (some j) q =
          let l = direct-below p fine e j q in
          rw (directly e ∙ ap or_none q, ne_eqb j table.none (λ z. omega (arith, most)), mark) (answer walked)

  -- every table
  says-said : (f : Filter) (marks : List ℕ) → InnerFor f t p.names marks → (e : ℕ) → e < p.names → said_in f t marks e ≡ filter_says f p e
  unfolding said_in
  says-said Direct marks m e i = directly e
  says-said Innermost marks m e i = innermost-said marks m e i
  says-said Alias marks m e i = is-alias e (omega (arith, most))
  says-said Unresolved marks m e i = is-unresolved e

  table_alike : (f g : ℕ → ℕ) (n j : ℕ) → ((e : ℕ) → n ≤ e → e < n + j → f e ≡ g e) → table_from f n j ≡ table_from g n j
  table_alike f g n zero q = refl
  table_alike f g n (suc j) q = rw (q n (omega arith) (omega arith), table_alike f g (suc n) j (λ e l u. q e (omega arith) (omega arith))) refl

  table-said : (f : Filter) (marks : List ℕ) → InnerFor f t p.names marks → table_from (said_in f t marks) 0 p.names ≡ filter_words f p
  table-said f marks m = table_alike (said_in f t marks) (filter_says f p) 0 p.names (λ e l u. says-said f marks m e (omega arith))

module _ (ws t : List ℕ) (c : IsPack ws) (k : KnowsEntities ws t) {n : ℕ} (named : Named ws n) where
  pub inner-asked : n ≤ length t → InnerAsked t n
  inner-asked long =
      let q = named c.pack c.reads in
      subst (InnerAsked t) (sym q) (asked ws t c.pack c.reads k (omega arith))

  pub filter_left : (f : Filter) (marks : List ℕ) {m : ℕ} {left : List ℕ} → InnerFor f t m marks → m ≡ n → left ≡ table_from (said_in f t marks) 0 (length marks) → length marks ≡ n → FilterLeft f ws left
  filter_left f marks i q e s =
      λ p h.
      let r : n ≡ p.names = named p h in
      e ∙ ap (table_from (said_in f t marks) 0) (s ∙ r) ∙ table-said ws t p h k f marks (subst (λ (m : ℕ). InnerFor f t m marks) (q ∙ r) i)
