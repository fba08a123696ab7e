-- The test of an input goes by no order of blocks, nor of the items in them.
use Prim.Native.Nat.{ℕ}
use native.Mathlib.Omega.{arith}
use mathlib.Core.Path.{◌≡◌, refl, ap, sym, ◌∙◌, subst}
use mathlib.Core.List.{List, [], ◌∷◌, ◌++◌}
use mathlib.Core.Bool.{Bool, true, false, ◌||◌}
use mathlib.Core.Option.{Option, none, some}
use lib.ListN.{length}
use lib.Dec.{eqb}
use Rattle.definitions.specs.Table.{pick}
use Rattle.definitions.specs.Records.{Item, Block}
use Rattle.definitions.specs.Dealt.{Shuffled, nil, cons, swap, trans, InAnyOrder, SameItems, SameBlock}
use Rattle.definitions.specs.Dealt as dealt
use Rattle.theorems.proofs.DealtLaws.{shuffled_length}
use Rattle.definitions.specs.Lean.{any}
use Rattle.chains.proofs.Names.{or_swap, shuffled_same, shuffled_after, shuffled_rows}
use Rattle.definitions.specs.Inputs.{of_origin, no_sequence, named, sequence, declarations, owned, input}

shuffled_before : {A : Type 0} {k l : List A} → InAnyOrder k l → (m : List A) → InAnyOrder (k ++ m) (l ++ m)
shuffled_before nil m = shuffled_same m
shuffled_before (cons e p) m = cons e (shuffled_before p m)
shuffled_before swap m = swap
shuffled_before (trans p q) m = trans (shuffled_before p m) (shuffled_before q m)

-- items of a name
named_dealt : (n : ℕ) {l m : List Item} → InAnyOrder l m → InAnyOrder (named n l) (named n m)
named_dealt n nil = nil
named_dealt n (cons {a = a} {b = b} {l = l} {m = m} e p) = subst (λ (c : Item). InAnyOrder (named n (a ∷ l)) (named n (c ∷ m))) e (go (eqb a.name n) (named_dealt n p))
  where
    go : (c : Bool) → InAnyOrder (named n l) (named n m) → InAnyOrder (pick c (a ∷ named n l) (named n l)) (pick c (a ∷ named n m) (named n m))
    go true h = cons refl h
    go false h = h
named_dealt n (swap {a = a} {b = b} {l = l}) = go (eqb a.name n) (eqb b.name n)
  where
    go : (c d : Bool) → InAnyOrder (pick c (a ∷ pick d (b ∷ named n l) (named n l)) (pick d (b ∷ named n l) (named n l))) (pick d (b ∷ pick c (a ∷ named n l) (named n l)) (pick c (a ∷ named n l) (named n l)))
    go true true = swap
    go true false = shuffled_same (a ∷ named n l)
    go false true = shuffled_same (b ∷ named n l)
    go false false = shuffled_same (named n l)
named_dealt n (trans p q) = trans (named_dealt n p) (named_dealt n q)

items_dealt : (n : ℕ) (x y : Option (List Item)) → SameItems x y → InAnyOrder (named n (sequence x)) (named n (sequence y))
items_dealt n none none dealt.both_none = nil
items_dealt n (some l) (some m) (dealt.both_some p) = named_dealt n p
items_dealt n none (some m) p = elim p [ ]
items_dealt n (some l) none p = elim p [ ]

sequence_alike : (x y : Option (List Item)) → SameItems x y → no_sequence x ≡ no_sequence y
sequence_alike none none dealt.both_none = refl
sequence_alike (some l) (some m) (dealt.both_some p) = refl
sequence_alike none (some m) p = elim p [ ]
sequence_alike (some l) none p = elim p [ ]

-- the blocks of an origin
module _ (o : ℕ) where
  abbrev lacking : List Block → Bool
  lacking bs = any (λ (b : Block). no_sequence b.items) (of_origin o bs)

  lacking_cons : (b : Block) (bs : List Block) → lacking (b ∷ bs) ≡ (pick (eqb b.origin o) (no_sequence b.items) false || lacking bs)
  lacking_cons b bs = go (eqb b.origin o)
    where
      go : (c : Bool) → any (λ (b : Block). no_sequence b.items) (pick c (b ∷ of_origin o bs) (of_origin o bs)) ≡ (pick c (no_sequence b.items) false || lacking bs)
      go true = refl
      go false = refl

  lacking_dealt : {bs cs : List Block} → Shuffled SameBlock bs cs → lacking bs ≡ lacking cs
  lacking_dealt nil = refl
  lacking_dealt (cons {a = a} {b = b} {l = l} {m = m} e p) =
      lacking_cons a l
      ∙ ap (λ (t : ℕ). pick (eqb t o) (no_sequence a.items) false || lacking l) e.origin
      ∙ ap (λ (t : Bool). pick (eqb b.origin o) t false || lacking l) (sequence_alike a.items b.items e.items)
      ∙ ap (λ (t : Bool). pick (eqb b.origin o) (no_sequence b.items) false || t) (lacking_dealt p)
      ∙ sym (lacking_cons b m)
  lacking_dealt (swap {a = a} {b = b} {l = l}) =
      let x : Bool = pick (eqb a.origin o) (no_sequence a.items) false in
      let y : Bool = pick (eqb b.origin o) (no_sequence b.items) false in
      lacking_cons a (b ∷ l) ∙ ap (λ (t : Bool). x || t) (lacking_cons b l) ∙ or_swap x y (lacking l) ∙ ap (λ (t : Bool). y || t) (sym (lacking_cons a l)) ∙ sym (lacking_cons b (a ∷ l))
  lacking_dealt (trans p q) = lacking_dealt p ∙ lacking_dealt q

  module _ (n : ℕ) where
    abbrev found : List Block → List Item
    found bs = declarations n (of_origin o bs)

    -- a block's declarations of the name
    abbrev mine : Block → List Item
    mine b = pick (eqb b.origin o) (named n (sequence b.items)) []

    found-cons : (b : Block) (bs : List Block) → found (b ∷ bs) ≡ mine b ++ found bs
    found-cons b bs = go (eqb b.origin o)
      where
        go : (c : Bool) → declarations n (pick c (b ∷ of_origin o bs) (of_origin o bs)) ≡ pick c (named n (sequence b.items)) [] ++ found bs
        go true = refl
        go false = refl

    mine_dealt : (a b : Block) → SameBlock a b → InAnyOrder (mine a) (mine b)
    mine_dealt a b e = subst (λ (t : ℕ). InAnyOrder (pick (eqb t o) (named n (sequence a.items)) []) (mine b)) (sym e.origin) (go (eqb b.origin o))
      where
        go : (c : Bool) → InAnyOrder (pick c (named n (sequence a.items)) []) (pick c (named n (sequence b.items)) [])
        go true = items_dealt n a.items b.items e.items
        go false = nil

    found_dealt : {bs cs : List Block} → Shuffled SameBlock bs cs → InAnyOrder (found bs) (found cs)
    found_dealt nil = nil
    found_dealt (cons {a = a} {b = b} {l = l} {m = m} e p) =
        subst (λ (t : List Item). InAnyOrder t (found (b ∷ m))) (sym (found-cons a l))
        (subst (λ (t : List Item). InAnyOrder (mine a ++ found l) t) (sym (found-cons b m)) (trans (shuffled_after (mine a) (found_dealt p)) (shuffled_before (mine_dealt a b e) (found m))))
    found_dealt (swap {a = a} {b = b} {l = l}) =
        let x : found (a ∷ b ∷ l) ≡ mine a ++ (mine b ++ found l) = found-cons a (b ∷ l) ∙ ap (λ (t : List Item). mine a ++ t) (found-cons b l) in
        let y : found (b ∷ a ∷ l) ≡ mine b ++ (mine a ++ found l) = found-cons b (a ∷ l) ∙ ap (λ (t : List Item). mine b ++ t) (found-cons a l) in
        subst (λ (t : List Item). InAnyOrder t (found (b ∷ a ∷ l))) (sym x) (subst (λ (t : List Item). InAnyOrder (mine a ++ (mine b ++ found l)) t) (sym y) (shuffled_rows (mine a) (mine b) (found l)))
    found_dealt (trans p q) = trans (found_dealt p) (found_dealt q)

-- what declarations in any order say
owned_dealt : (owner : ℕ) {l m : List Item} → InAnyOrder l m → owned owner l ≡ owned owner m
owned_dealt owner nil = refl
owned_dealt owner (cons {a = a} {b = b} {l = l} {m = m} e p) = subst (λ (c : Item). owned owner (a ∷ l) ≡ owned owner (c ∷ m)) e (go l m (shuffled_length p))
  where
    go : (l m : List Item) → length l ≡ length m → owned owner (a ∷ l) ≡ owned owner (a ∷ m)
    go [] [] h = refl
    go [] (y ∷ m) h = absurd (omega arith)
    go (x ∷ l) [] h = absurd (omega arith)
    go (x ∷ l) (y ∷ m) h = refl
owned_dealt owner swap = refl
owned_dealt owner (trans p q) = owned_dealt owner p ∙ owned_dealt owner q

pub input_dealt : {bs cs : List Block} → Shuffled SameBlock bs cs → (origin owner n : ℕ) → input bs origin owner n ≡ input cs origin owner n
unfolding input
input_dealt {bs} {cs} p origin owner n =
    ap (λ (t : Bool). pick t (some 12) (owned owner (declarations n (of_origin origin bs)))) (lacking_dealt origin p)
    ∙ ap (λ (t : Option ℕ). pick (any (λ (b : Block). no_sequence b.items) (of_origin origin cs)) (some 12) t) (owned_dealt owner (found_dealt origin n p))
