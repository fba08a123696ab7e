-- After all relations of a checked pack the table says of every name what an aggregate over its relation does.
use Prim.Native.Nat.{ℕ, suc, ◌<◌}
use native.Mathlib.Omega.{arith}
use mathlib.Core.Path.{◌≡◌, refl, ap, ◌∙◌, subst}
use mathlib.Core.List.{List, [], ◌∷◌}
use mathlib.Core.Bool.{Bool, true, false, ◌||◌}
use mathlib.Core.Option.{Option, none, some}
use lib.ListN.{length, get_or, set, length-set}
use lib.Seq.{get_or-set_same, get_or-set_other}
use lib.Dec.{eqb}
use borrow.Author.Tests.{eqb-true, eqb-false}
use Rattle.definitions.specs.Table.{pick}
use Rattle.definitions.specs.Form.{among}
use Rattle.definitions.specs.Records.{Relation, Pack}
use Rattle.definitions.specs.Pack.{WellFormed, yes, read, words}
use Rattle.pack.proofs.PackLaws.{words-read}
use Rattle.definitions.specs.Kinds.{find, declared, own_answer}
use Rattle.definitions.specs.Places.{place_of}
use Rattle.chains.specs.Record.{kind_count}
use Rattle.chains.specs.Settle.{Marked}
use Rattle.chains.specs.PackDirectory.{slots_of, RelationsNoted, KindsMarked}
use Rattle.chains.proofs.PackParts.{parts}
use Rattle.chains.proofs.ListAt.{InWords}
use Rattle.chains.proofs.RecordLaws.{counted}
use Rattle.chains.proofs.DeclarationLaws.{standing}
use Rattle.filtered.specs.Acts.{act_part, act_list, part_for, act_for, acts_from, part_of}

-- ---- the names of records

pub found_among : (m : ℕ) (rs : List Relation) (r : Relation) → find m rs ≡ some r → among m (declared rs) ≡ true
unfolding find
found_among m [] r e = let z : ◌≡◌ {A = ℕ} 0 1 = cc in absurd (omega arith)
found_among m (s ∷ rs) r e = go (eqb m s.name) e (found_among m rs r)
  where
    go : (b : Bool) → pick b (some s) (find m rs) ≡ some r → (find m rs ≡ some r → among m (declared rs) ≡ true) → (b || among m (declared rs)) ≡ true
    go true e ih = refl
    go false e ih = ih e

pub not_among : (m : ℕ) (rs : List Relation) → find m rs ≡ none → among m (declared rs) ≡ false
unfolding find
not_among m [] e = refl
not_among m (s ∷ rs) e = go (eqb m s.name) e (not_among m rs)
  where
    go : (b : Bool) → pick b (some s) (find m rs) ≡ none → (find m rs ≡ none → among m (declared rs) ≡ false) → (b || among m (declared rs)) ≡ false
    go true e ih = let z : ◌≡◌ {A = ℕ} 0 1 = cc in absurd (omega arith)
    go false e ih = ih e

-- ---- the table

module _ (ws starts slots : List ℕ) (m : ℕ) where
  -- a name's number after it was read, and its mark where it was not
  pub acts_at : (names t : List ℕ) → ((j : ℕ) → get_or names j 0 < length t) → get_or (acts_from ws starts slots names t) m 0 ≡ pick (among m names) (act_for ws starts slots m (get_or t m 0)) (get_or t m 0)
  unfolding acts_from act_for
  acts_at [] t low = refl
  acts_at (n ∷ ns) t low =
      let y : ℕ = act_for ws starts slots n (get_or t n 0) in
      acts_at ns (set t n y) (λ j. rw (length-set t n y) (low (suc j))) ∙ go (eqb m n) refl (among m ns)
    where
      go : (b : Bool) → eqb m n ≡ b → (c : Bool)
          → pick c (act_for ws starts slots m (get_or (set t n (act_for ws starts slots n (get_or t n 0))) m 0)) (get_or (set t n (act_for ws starts slots n (get_or t n 0))) m 0)
          ≡ pick (b || c) (act_for ws starts slots m (get_or t m 0)) (get_or t m 0)
      go false q c = rw (get_or-set_other t n m (act_for ws starts slots n (get_or t n 0)) 0 (eqb-false m n q)) refl
      go true q c = rw (eqb-true m n q) (rw (get_or-set_same t n (act_for ws starts slots n (get_or t n 0)) 0 (low 0)) (last c))
        where
          last : (c : Bool) → pick c (act_for ws starts slots n (act_for ws starts slots n (get_or t n 0))) (act_for ws starts slots n (get_or t n 0)) ≡ act_for ws starts slots n (get_or t n 0)
          last true = omega arith
          last false = refl

module _ {ws names starts : List ℕ} (slots : List ℕ) {marks : List ℕ} {steps : ℕ} (noted : RelationsNoted ws names starts) (slotted : (p : Pack) → read ws ≡ yes p → (m : ℕ) → get_or slots m 0 ≡ slots_of p m) (marked : KindsMarked ws steps names marks)
    (low : Marked marks) (few : (j : ℕ) → get_or names j 0 < length marks) (p : Pack) (h : read ws ≡ yes p) (m : ℕ) where
  abbrev rs : List Relation
  rs = p.relations

  w : WellFormed p
  w = (words-read ws p h).fine

  same : words p ≡ ws
  same = (words-read ws p h).same

  small : get_or marks m 0 < 65538
  unfolding Marked
  small = low m

  abbrev acts : List ℕ
  acts = acts_from ws starts slots names marks

  here : get_or acts m 0 ≡ pick (among m (declared rs)) (act_for ws starts slots m (get_or marks m 0)) (get_or marks m 0)
  here = acts_at ws starts slots m names marks few ∙ ap (λ (l : List ℕ). pick (among m l) (act_for ws starts slots m (get_or marks m 0)) (get_or marks m 0)) (noted.named p h)

  kinds-counted : (r : Relation) → find m rs ≡ some r → kind_count ws (get_or starts m 0) ≡ length r.slot_kinds
  kinds-counted r e =
      let i : InWords ws (get_or starts m 0) p.names r = subst (λ (v : List ℕ). InWords v (get_or starts m 0) p.names r) same (standing p w starts (noted.placed p h) m r e).stands in
      counted ws (get_or starts m 0) p.names r i (parts p w).most

  pub part_is : act_part (get_or acts m 0) ≡ part_of p m
  unfolding part_of slots_of act_for part_for
  part_is = go (find m rs) refl
    where
      go : (o : Option Relation) → find m rs ≡ o → act_part (get_or acts m 0) ≡ part_of p m
      go none e = rw (here, not_among m rs e, e) (omega (arith, small))
      go (some r) e =
          rw (here, found_among m rs r e)
          (let part : part_for ws (get_or starts m 0) (get_or slots m 0) ≡ part_of p m = rw (slotted p h m, e, kinds-counted r e) refl in
          omega arith)

  pub list-is : among m (declared rs) ≡ true → act_list (get_or acts m 0) ≡ place_of p (own_answer rs m)
  unfolding act_for
  list-is i =
      let k = marked.marked p h m i in
      let e : get_or acts m 0 ≡ act_for ws starts slots m (get_or marks m 0) = here ∙ rw i refl in
      omega (arith, small)
