-- The walks over the index from all relations give what All kinds writes.
use Prim.Native.Nat.{ℕ, suc, ◌+◌, ◌-◌}
use native.Mathlib.Omega.{arith}
use mathlib.Core.Path.{◌≡◌, refl, ap, ◌∙◌, fun_ext}
use mathlib.Core.List.{List, []}
use mathlib.Core.Bool.{Bool, true, false}
use mathlib.Core.Option.{none, some, map}
use lib.ListN.{length, get_or}
use lib.Dec.{ltb}
use borrow.Author.Tests.{ltb-false}
use Rattle.definitions.specs.Table.{pick}
use Rattle.definitions.specs.Form.{among}
use Rattle.definitions.specs.Records.{Relation, Pack}
use Rattle.definitions.specs.Chain.{Settled, nothing, own, AllWalked, walk_all, same}
use Rattle.definitions.specs.Kinds.{declared, kind_step, all_kinds, own_answer}
use Rattle.definitions.specs.Places.{place_of}
use Rattle.chains.specs.Settle.{link_at, settled_in, walk_in, walks_in, SettledAll}
use Rattle.chains.proofs.MappedLaws.{AnswersMapped, answers-mapped}
use Rattle.chains.proofs.KindLaws.{kinds-own}
use Rattle.chains.proofs.PlaceBounds.{Indexes}

-- at first nothing is settled
pub clear-nothing : (marks : List ℕ) → ((n : ℕ) → get_or marks n 0 ≡ 0) → settled_in marks ≡ nothing
unfolding settled_in
clear-nothing marks clear = fun_ext (λ n. rw (clear n) refl)

-- a settled name's mark
pub settled_mark : (marks : List ℕ) (n x : ℕ) → settled_in marks n ≡ some x → get_or marks n 0 ≡ 2 + x
unfolding settled_in
settled_mark marks n x e = go (ltb (get_or marks n 0) 2) refl e
  where
    go : (b : Bool) → ltb (get_or marks n 0) 2 ≡ b → pick b none (some (get_or marks n 0 - 2)) ≡ some x → get_or marks n 0 ≡ 2 + x
    go true h e = let z : ◌≡◌ {A = ℕ} 0 1 = cc in absurd (omega arith)
    go false h e = let q : get_or marks n 0 - 2 ≡ x = cc in omega (arith, ltb-false (get_or marks n 0) 2 h)

-- what the walks leave
pub record KindsFound (p : Pack) (marks : List ℕ) (steps : ℕ) : Type 0 where
  pub counts : steps ≡ (all_kinds p.relations).steps
  pub marked : (n : ℕ) → among n (declared p.relations) ≡ true → get_or marks n 0 ≡ 2 + place_of p (own_answer p.relations n)

-- over a table that says at each name what one declaration read there says
module _ (p : Pack) (index : List ℕ) (indexed : Indexes p index) where
  abbrev rs : List Relation
  rs = p.relations

  place_none : place_of p none ≡ 0
  unfolding place_of
  place_none = refl

  over_index : AnswersMapped (place_of p) none same (kind_step rs) 0 same (link_at index) (declared rs) (declared rs)
  over_index = answers-mapped (place_of p) none 0 place_none same same (λ r. refl) (kind_step rs) (link_at index) indexed.says (declared rs) (declared rs)

  -- one name's own walk
  pub own-found : (marks₀ : List ℕ) → ((m : ℕ) → get_or marks₀ m 0 ≡ 0) → (n : ℕ) → (walk_in index (suc (length (declared rs))) (settled_in marks₀) [] n).answer ≡ place_of p (own_answer rs n)
  unfolding own
  own-found marks₀ clear n = ap (λ (t : Settled ℕ). (walk_in index (suc (length (declared rs))) t [] n).answer) (clear-nothing marks₀ clear) ∙ over_index.own_walks n

  pub kinds-found : {marks₀ : List ℕ} → ((m : ℕ) → get_or marks₀ m 0 ≡ 0) → (marks : List ℕ) (steps : ℕ) → SettledAll index marks₀ (declared rs) 0 (suc (length (declared rs))) marks steps → KindsFound p marks steps
  kinds-found {marks₀} clear marks steps s =
      record {
        counts = s.counts ∙ ap (λ (a : AllWalked ℕ). a.steps) over ∙ over_index.steps;
        marked = λ n i.
            settled_mark marks n (place_of p (own_answer rs n))
            (ap (λ (t : Settled ℕ). t n) (s.settles ∙ ap (λ (a : AllWalked ℕ). a.settled) over) ∙ over_index.settled n ∙ ap (map (place_of p)) ((kinds-own rs).each n i));
      }
    where
      over : walks_in index (suc (length (declared rs))) (declared rs) (settled_in marks₀) 0 ≡ walk_all 0 same (link_at index) (declared rs) (declared rs) nothing 0
      over = ap (λ (t : Settled ℕ). walk_all 0 same (link_at index) (declared rs) (declared rs) t 0) (clear-nothing marks₀ clear)
