-- Laws of the walk over a table: each way in which it stops or goes on, on plain lists.
use Prim.Native.Nat.{ℕ, zero, suc, ◌+◌, ◌-◌, ◌*◌, ◌<◌, ◌≤◌}
use native.Mathlib.Omega.{arith}
use native.Mathlib.Nat.{add-zero, suc-mul, mul-le-mul_right}
use native.Mathlib.Numerals.{add-one}
use mathlib.Core.Path.{◌≡◌, refl, ap, sym, ◌∙◌, fun_ext, subst}
use mathlib.Core.List.{List, [], ◌∷◌}
use mathlib.Core.Bool.{Bool, true, false, ◌||◌}
use mathlib.Core.Option.{Option, none, some}
use lib.ListN.{length, get_or, drop, set, length-set, drop_of_length-le}
use lib.Seq.{drop-cons, get_or-set_same, get_or-set_other}
use lib.Dec.{ltb, eqb}
use borrow.Author.Tests.{eq-eqb, ne_eqb, eqb-true, eqb-false, lt-ltb, le-ltb}
use Rattle.definitions.specs.Table.{pick}
use Rattle.definitions.specs.Form.{among}
use Rattle.definitions.specs.Chain.{Settled, put, Walked, walk, AllWalked, walks_from}
use Rattle.chains.specs.Settle.{link_at, Leading, settled_in, OnPath, walk_in, Marked, Walkable, WalkedHere, walks_in, Settleable, SettledAll}

-- a store at a name, by the name that is looked at
module _ (l : List ℕ) (n x : ℕ) (inside : n < length l) where
  at_store : {A : Type 0} (f : ℕ → A) (m : ℕ) → f (get_or (set l n x) m 0) ≡ pick (eqb m n) (f x) (f (get_or l m 0))
  at_store f m = go (eqb m n) refl
    where
      go : (b : Bool) → eqb m n ≡ b → f (get_or (set l n x) m 0) ≡ pick b (f x) (f (get_or l m 0))
      go true e = ap f (rw (eqb-true m n e) (get_or-set_same l n x 0 inside))
      go false e = ap f (get_or-set_other l n m x 0 (eqb-false m n e))

abbrev settled_by : ℕ → Option ℕ
settled_by k = pick (ltb k 2) none (some (k - 2))

module _ (marks : List ℕ) (n : ℕ) where
  unseen-none : get_or marks n 0 < 2 → settled_in marks n ≡ none
  unfolding settled_in
  unseen-none h = rw (lt-ltb (get_or marks n 0) 2 h) refl

  seen_some : 2 ≤ get_or marks n 0 → settled_in marks n ≡ some (get_or marks n 0 - 2)
  unfolding settled_in
  seen_some h = rw (le-ltb (get_or marks n 0) 2 h) refl

  module _ (inside : n < length marks) where
    -- a mark on the path settles nothing
    path_settles_none : get_or marks n 0 < 2 → settled_in (set marks n 1) ≡ settled_in marks
    unfolding settled_in
    path_settles_none h = fun_ext (λ m. at_store marks n 1 inside settled_by m ∙ go m (eqb m n) refl)
      where
        go : (m : ℕ) (b : Bool) → eqb m n ≡ b → pick b none (settled_by (get_or marks m 0)) ≡ settled_by (get_or marks m 0)
        go m true e = rw (eqb-true m n e) (sym (rw (lt-ltb (get_or marks n 0) 2 h) refl))
        go m false e = refl

    -- a settled mark settles the name
    put-settles : (r : ℕ) → settled_in (set marks n (2 + r)) ≡ put n r (settled_in marks)
    unfolding settled_in
    put-settles r = fun_ext (λ m. at_store marks n (2 + r) inside settled_by m ∙ ap (λ (o : Option ℕ). pick (eqb m n) o (settled_by (get_or marks m 0))) settled)
      where
        settled : settled_by (2 + r) ≡ some r
        settled = let e : 2 + r - 2 ≡ r = omega arith in rw (le-ltb (2 + r) 2 (omega arith), e) refl

    push-path : (path : List ℕ) → OnPath marks path → OnPath (set marks n 1) (n ∷ path)
    unfolding OnPath
    push-path path h m = go (eqb m n) (h m) ∙ sym (at_store marks n 1 inside (λ k. eqb k 1) m)
      where
        go : (b : Bool) → among m path ≡ eqb (get_or marks m 0) 1 → (b || among m path) ≡ pick b true (eqb (get_or marks m 0) 1)
        go true e = refl
        go false e = e

    marked_store : (x : ℕ) → x < 65538 → Marked marks → Marked (set marks n x)
    unfolding Marked
    marked_store x l h m = go (eqb m n) refl
      where
        go : (b : Bool) → eqb m n ≡ b → get_or (set marks n x) m 0 < 65538
        go true e = rw (eqb-true m n e) (rw (get_or-set_same marks n x 0 inside) l)
        go false e = rw (get_or-set_other marks n m x 0 (eqb-false m n e)) (h m)

-- ---- the walk's cases

module _ (table marks : List ℕ) (steps n : ℕ) (marked : Marked marks) where
  -- a walk that settles nothing
  stays : (fuel r : ℕ) → r < 65536 → ((path : List ℕ) → OnPath marks path → walk_in table fuel (settled_in marks) path n ≡ record { answer = r; settled = settled_in marks; steps = 0 }) → WalkedHere table marks steps n fuel r marks steps
  stays fuel r l e =
      record {
        answers = λ p h. sym (ap (λ (w : Walked ℕ). w.answer) (e p h));
        settles = λ p h. sym (ap (λ (w : Walked ℕ). w.settled) (e p h));
        counts = λ p h. rw (ap (λ (w : Walked ℕ). w.steps) (e p h)) (sym (add-zero steps));
        path = λ m. refl;
        long = refl;
        marked = marked;
        small = l;
        fits = omega arith;
      }

  pub out_of_fuel : (fuel : ℕ) → fuel ≡ 0 → WalkedHere table marks steps n fuel 0 marks steps
  unfolding walk
  out_of_fuel zero e = stays zero 0 (omega arith) (λ p h. refl)
  out_of_fuel (suc f) e = absurd (omega arith)

  pub at_settled : (fuel : ℕ) → (fuel ≡ 0 → ⊥) → 2 ≤ get_or marks n 0 → WalkedHere table marks steps n fuel (get_or marks n 0 - 2) marks steps
  unfolding walk Marked
  at_settled zero z h = absurd (z refl)
  at_settled (suc f) z h = stays (suc f) (get_or marks n 0 - 2) (omega (arith, marked n)) (λ p o. rw (seen_some marks n h, walk) refl)

  pub at_ring : (fuel : ℕ) → (fuel ≡ 0 → ⊥) → get_or marks n 0 < 2 → get_or marks n 0 ≡ 1 → WalkedHere table marks steps n fuel 0 marks steps
  unfolding walk OnPath
  at_ring zero z h e = absurd (z refl)
  at_ring (suc f) z h e = stays (suc f) 0 (omega arith) (λ p o. (let q : among n p ≡ true = o n ∙ eq-eqb (get_or marks n 0) 1 e in rw (unseen-none marks n h, q, walk) refl))

  module _ (within : n < length marks) (unseen : get_or marks n 0 < 2) (off : get_or marks n 0 ≡ 1 → ⊥) where
    off_path : (path : List ℕ) → OnPath marks path → among n path ≡ false
    unfolding OnPath
    off_path path h = h n ∙ ne_eqb (get_or marks n 0) 1 off

    -- the path's marks after a store of a settled mark
    path_kept : (l : List ℕ) (r : ℕ) → n < length l → ((m : ℕ) → eqb (get_or l m 0) 1 ≡ eqb (get_or (set marks n 1) m 0) 1) → (m : ℕ) → eqb (get_or (set l n (2 + r)) m 0) 1 ≡ eqb (get_or marks m 0) 1
    path_kept l r i h m = at_store l n (2 + r) i (λ k. eqb k 1) m ∙ go (eqb m n) refl
      where
        go : (b : Bool) → eqb m n ≡ b → pick b (eqb (2 + r) 1) (eqb (get_or l m 0) 1) ≡ eqb (get_or marks m 0) 1
        go true e = rw (eqb-true m n e) (ne_eqb (2 + r) 1 (λ q. omega arith) ∙ sym (ne_eqb (get_or marks n 0) 1 off))
        go false e = h m ∙ ap (λ (k : ℕ). eqb k 1) (get_or-set_other marks n m 1 0 (eqb-false m n e))

    pub at_end : (fuel : ℕ) → (fuel ≡ 0 → ⊥) → get_or table n 0 < 65536 → WalkedHere table marks steps n fuel (get_or table n 0) (set (set marks n 1) n (2 + get_or table n 0)) (steps + 1)
    unfolding walk link_at
    at_end zero z l = absurd (z refl)
    at_end (suc f) z l =
        let x : ℕ = get_or table n 0 in
        let s : length (set marks n 1) ≡ length marks = length-set marks n 1 in
        let i : n < length (set marks n 1) = omega arith in
        let e : (path : List ℕ) → OnPath marks path → walk_in table (suc f) (settled_in marks) path n ≡ record { answer = x; settled = put n x (settled_in marks); steps = 1 } =
        λ path h. rw (unseen-none marks n unseen, off_path path h, lt-ltb x 65536 l, walk) refl in
        record {
          answers = λ p h. sym (ap (λ (w : Walked ℕ). w.answer) (e p h));
          settles = λ p h. put-settles (set marks n 1) n i x ∙ ap (λ (t : Settled ℕ). put n x t) (path_settles_none marks n within unseen) ∙ sym (ap (λ (w : Walked ℕ). w.settled) (e p h));
          counts = λ p h. ap (λ (k : ℕ). steps + k) (sym (ap (λ (w : Walked ℕ). w.steps) (e p h)));
          path = path_kept (set marks n 1) x i (λ m. refl);
          long = length-set (set marks n 1) n (2 + x) ∙ s;
          marked = marked_store (set marks n 1) n i (2 + x) (omega arith) (marked_store marks n within 1 (omega arith) marked);
          small = l;
          fits = omega arith;
        }

    pub at_next : (fuel : ℕ) → (fuel ≡ 0 → ⊥) → 65536 ≤ get_or table n 0 → {r : ℕ} {marks' : List ℕ} {steps' : ℕ}
        → WalkedHere table (set marks n 1) (steps + 1) (get_or table n 0 - 65536) (fuel - 1) r marks' steps' → WalkedHere table marks steps n fuel r (set marks' n (2 + r)) steps'
    unfolding walk link_at
    at_next zero z l w = absurd (z refl)
    at_next (suc f) z l {r} {marks'} {steps'} w =
        let m : suc f - 1 ≡ f = omega arith in
        let k : ℕ = get_or table n 0 - 65536 in
        let i : n < length marks' = omega (arith, w.long, length-set marks n 1) in
        let inner : List ℕ → Walked ℕ = λ path. walk_in table f (settled_in marks) (n ∷ path) k in
        let q = path_settles_none marks n within unseen in
        let e : (path : List ℕ) → OnPath marks path
        → walk_in table (suc f) (settled_in marks) path n ≡ record { answer = (inner path).answer; settled = put n (inner path).answer (inner path).settled; steps = suc (inner path).steps } =
        λ path h. rw (unseen-none marks n unseen, off_path path h, le-ltb (get_or table n 0) 65536 l, walk) refl in
        let a : (path : List ℕ) → OnPath marks path → r ≡ (inner path).answer = λ path h. rw (m, q) at (w.answers (n ∷ path) (push-path marks n within path h)) in
        let s : (path : List ℕ) → OnPath marks path → settled_in marks' ≡ (inner path).settled = λ path h. rw (m, q) at (w.settles (n ∷ path) (push-path marks n within path h)) in
        let c : (path : List ℕ) → OnPath marks path → steps' ≡ steps + 1 + (inner path).steps = λ path h. rw (m, q) at (w.counts (n ∷ path) (push-path marks n within path h)) in
        record {
          answers = λ p h. a p h ∙ sym (ap (λ (v : Walked ℕ). v.answer) (e p h));
          settles = λ p h. put-settles marks' n i r ∙ ap (λ (x : ℕ). put n x (settled_in marks')) (a p h) ∙ ap (λ (t : Settled ℕ). put n (inner p).answer t) (s p h) ∙ sym (ap (λ (v : Walked ℕ). v.settled) (e p h));
          counts = λ p h. (let g : (walk_in table (suc f) (settled_in marks) p n).steps ≡ suc (inner p).steps = ap (λ (v : Walked ℕ). v.steps) (e p h) in omega (arith, c p h, g));
          path = path_kept marks' r i w.path;
          long = length-set marks' n (2 + r) ∙ w.long ∙ length-set marks n 1;
          marked = marked_store marks' n i (2 + r) (omega (arith, w.small)) w.marked;
          small = w.small;
          fits = omega (arith, w.fits);
        }

-- the walk on may be made
pub walkable_next : {table marks : List ℕ} {steps n fuel : ℕ} → Walkable table marks steps n fuel → (fuel ≡ 0 → ⊥) → {x steps' : ℕ} → x ≡ get_or table n 0 → 65536 ≤ x → steps' ≡ steps + 1
    → Walkable table (set marks n 1) steps' (x - 65536) (fuel - 1)
unfolding Leading
walkable_next {table} {marks} {steps} {n} {fuel} w z e l s =
    let b = w.leading n in
    let k : length (set marks n 1) ≡ length marks = length-set marks n 1 in
    record {
      name = omega arith;
      leading = λ m. (let c = w.leading m in omega arith);
      marked = marked_store marks n w.name 1 (omega arith) w.marked;
      room = omega (arith, w.room);
    }

leads_too : (table : List ℕ) {a b : ℕ} → b ≡ a → Leading a table → Leading b table
leads_too table e h = subst (λ (n : ℕ). Leading n table) (sym e) h

-- ---- all starts

module _ (table marks₀ starts : List ℕ) (steps₀ fuel : ℕ) where
  abbrev goal : AllWalked ℕ
  goal = walks_in table fuel starts (settled_in marks₀) steps₀

  pub record Settling (marks : List ℕ) (steps j : ℕ) : Type 0 where
    pub marked : Marked marks
    pub long : length marks ≡ length marks₀
    pub idle : OnPath marks []
    pub bound : steps ≤ steps₀ + j * fuel
    pub todo : goal ≡ walks_in table fuel (drop j starts) (settled_in marks) steps

  module _ (asked : Settleable table marks₀ starts steps₀ fuel) where
    module _ {marks : List ℕ} {steps j : ℕ} (s : Settling marks steps j) where
      name-here : get_or starts j 0 < length marks
      name-here = omega (arith, asked.names j, s.long)

      module _ (h : j < length starts) where
        once_more : steps + fuel ≤ steps₀ + suc j * fuel
        once_more = let b = s.bound in let e : suc j * fuel ≡ j * fuel + fuel = suc-mul j fuel in omega arith

        pub walkable : Walkable table marks steps (get_or starts j 0) fuel
        walkable =
            record {
              name = name-here;
              leading = leads_too table s.long asked.leading;
              marked = s.marked;
              room =
                  let o = once_more in
                  let a = asked.room in
                  let m : suc j * fuel ≤ length starts * fuel = mul-le-mul_right fuel (omega arith) in
                  omega arith;
            }

        pub walk_on : {r : ℕ} {marks' : List ℕ} {steps' : ℕ} → WalkedHere table marks steps (get_or starts j 0) fuel r marks' steps' → Settling marks' steps' (j + 1)
        unfolding walks_from OnPath
        walk_on w =
            record {
              marked = w.marked;
              long = w.long ∙ s.long;
              idle = λ n. s.idle n ∙ sym (w.path n);
              bound = let o = once_more in let f = w.fits in let e : j + 1 ≡ suc j = add-one j in rw e (omega arith);
              todo = s.todo ∙ rw (drop-cons starts j 0 h, add-one j, w.settles [] s.idle, w.counts [] s.idle) refl;
            }

      pub all_settled : length starts ≤ j → SettledAll table marks₀ starts steps₀ fuel marks steps
      unfolding walks_from
      all_settled h =
          let e : goal ≡ walks_in table fuel [] (settled_in marks) steps = s.todo ∙ rw (drop_of_length-le starts h) refl in
          record { settles = sym (ap (λ (a : AllWalked ℕ). a.settled) e); counts = sym (ap (λ (a : AllWalked ℕ). a.steps) e); marked = s.marked; long = s.long }
