-- The walk as two loops: ahead along the chain, and once more along it with the answer.
use Prim.Native.Nat.{ℕ, zero, suc, ◌+◌, ◌-◌, ◌<◌, ◌≤◌}
use native.Mathlib.Omega.{arith}
use mathlib.Core.Path.{◌≡◌, refl, ap, sym, ◌∙◌, subst}
use mathlib.Core.Logic.{inl, inr}
use mathlib.Core.List.{List}
use lib.ListN.{length, get_or, set, length-set}
use Rattle.std.proofs.lemmas.Bool.{cases_eq}
use Rattle.std.proofs.lemmas.List.{set_comm}
use Rattle.chains.specs.Settle.{Leading, ReadOne, next_in, marked_path, Walkable, WentAhead, WalkedHere}
use Rattle.chains.proofs.SettleLaws.{out_of_fuel, at_settled, at_ring, at_end, at_next, walkable_next}

-- ---- marks along a chain

set_same : (l : List ℕ) (a b v : ℕ) → set (set l a v) b v ≡ set (set l b v) a v
set_same l a b v = elim (cases_eq a b) [ inl e ↦ rw e refl | inr n ↦ set_comm l a b v v n ]

module _ (table : List ℕ) (v : ℕ) where
  -- the name so far along
  abbrev along : ℕ → ℕ → ℕ
  along zero n = n
  along (suc k) n = along k (next_in table n)

  along-next : (k n : ℕ) → next_in table (along k n) ≡ along (suc k) n
  along-next zero n = refl
  along-next (suc k) n = along-next k (next_in table n)

  -- one more at the end
  at_last : (k n : ℕ) (marks : List ℕ) → marked_path table v k n (set marks (along k n) v) ≡ marked_path table v (suc k) n marks
  unfolding marked_path
  at_last zero n marks = refl
  at_last (suc k) n marks = ap (λ (l : List ℕ). set l n v) (at_last k (next_in table n) marks)

  -- or at the front
  at_first : (k n a : ℕ) (marks : List ℕ) → marked_path table v k n (set marks a v) ≡ set (marked_path table v k n marks) a v
  unfolding marked_path
  at_first zero n a marks = refl
  at_first (suc k) n a marks = ap (λ (l : List ℕ). set l n v) (at_first k (next_in table n) a marks) ∙ set_same (marked_path table v k (next_in table n) marks) a n v

  -- what is left to mark gives what the whole gives
  module _ (start count : ℕ) (marks₀ : List ℕ) where
    pub record MarkingPath (n left : ℕ) (marks : List ℕ) : Type 0 where
      pub todo : marked_path table v left n marks ≡ marked_path table v count start marks₀
      pub low : n < length marks
      pub long : length marks ≡ length marks₀

    module _ {n left : ℕ} {marks : List ℕ} (s : MarkingPath n left marks) where
      pub path-next : Leading (length marks₀) table → {left' : ℕ} → left ≡ suc left' → {x m : ℕ} → x ≡ get_or table n 0 → m ≡ x - 65536 → MarkingPath m left' (set marks n v)
      unfolding marked_path Leading
      path-next leads {left'} one {x} {m} e q =
          let is : m ≡ next_in table n = q ∙ ap (λ (y : ℕ). y - 65536) e in
          let l = length-set marks n v in
          record {
            todo = ap (λ (y : ℕ). marked_path table v left' y (set marks n v)) is ∙ at_first left' (next_in table n) n marks ∙ ap (λ (y : ℕ). marked_path table v y n marks) (sym one) ∙ s.todo;
            low = omega (arith, leads n, s.low, s.long);
            long = l ∙ s.long;
          }

      pub path-end : left ≤ 0 → marks ≡ marked_path table v count start marks₀
      unfolding marked_path
      path-end h = let z : left ≡ 0 = omega arith in sym (ap (λ (y : ℕ). marked_path table v y n marks) z) ∙ s.todo

-- ---- ahead

module _ (table marks₀ : List ℕ) (steps₀ start fuel : ℕ) where
  -- so many names along, what the walk from there leaves makes up what the whole leaves
  pub record GoingAhead (marks : List ℕ) (steps n left : ℕ) : Type 0 where
    pub walkable : Walkable table marks steps n left
    pub more : steps₀ ≤ steps
    pub here : n ≡ along table 0 (steps - steps₀) start
    pub long : length marks ≡ length marks₀
    pub rest : (r : ℕ) (left' : List ℕ) (steps' : ℕ) → WalkedHere table marks steps n left r left' steps' → WalkedHere table marks₀ steps₀ start fuel r (marked_path table (2 + r) (steps - steps₀) start left') steps'

  pub ahead_begin : Walkable table marks₀ steps₀ start fuel → {left : ℕ} → left ≡ fuel → GoingAhead marks₀ steps₀ start left
  unfolding marked_path
  ahead_begin w e =
      let z : steps₀ - steps₀ ≡ 0 = omega arith in
      rw e (record { walkable = w; more = omega arith; here = rw z refl; long = refl; rest = λ r l s h. rw z h })

  module _ {marks : List ℕ} {steps n left : ℕ} (g : GoingAhead marks steps n left) where
    -- it stops where it stands
    pub ahead_stops : {r : ℕ} → WalkedHere table marks steps n left r marks steps → WentAhead table marks₀ steps₀ start fuel r marks steps
    ahead_stops {r} w = record { walked = g.rest r marks steps w; more = g.more; long = g.long }

    pub stops_settled : 0 < left → {r : ℕ} → 2 + r ≡ get_or marks n 0 → WentAhead table marks₀ steps₀ start fuel r marks steps
    stops_settled h {r} e =
        let q : get_or marks n 0 - 2 ≡ r = omega arith in
        subst (λ (y : ℕ). WentAhead table marks₀ steps₀ start fuel y marks steps) q (ahead_stops (at_settled table marks steps n g.walkable.marked left (λ z. omega arith) (omega arith)))

    pub stops-ring : 0 < left → 1 ≡ get_or marks n 0 → WentAhead table marks₀ steps₀ start fuel 0 marks steps
    stops-ring h e = ahead_stops (at_ring table marks steps n g.walkable.marked left (λ z. omega arith) (omega arith) (sym e))

    pub stops-empty : left ≤ 0 → WentAhead table marks₀ steps₀ start fuel 0 marks steps
    stops-empty h = ahead_stops (out_of_fuel table marks steps n g.walkable.marked left (omega arith))

    module _ (h : 0 < left) (unseen : 0 ≡ get_or marks n 0) {x steps' : ℕ} (read : ReadOne table n steps x steps') where
      e : x ≡ get_or table n 0
      e = read.says

      s : steps' ≡ steps + 1
      s = read.counts

      off : get_or marks n 0 ≡ 1 → ⊥
      off q = omega arith

      one_more : steps' - steps₀ ≡ suc (steps - steps₀)
      one_more = omega (arith, g.more, s)

      more-marked : (r : ℕ) (l : List ℕ) → marked_path table (2 + r) (steps - steps₀) start (set l n (2 + r)) ≡ marked_path table (2 + r) (steps' - steps₀) start l
      more-marked r l =
          ap (λ (y : ℕ). marked_path table (2 + r) (steps - steps₀) start (set l y (2 + r))) g.here ∙ at_last table (2 + r) (steps - steps₀) start l ∙ ap (λ (y : ℕ). marked_path table (2 + r) y start l) (sym one_more)

      -- the name ends the chain
      pub stops_end : x < 65536 → WentAhead table marks₀ steps₀ start fuel x (set marks n 1) steps'
      stops_end l =
          let w = at_end table marks steps n g.walkable.marked g.walkable.name (omega arith) off left (λ z. omega arith) (omega (arith, e)) in
          record {
            walked =
                subst (λ (y : List ℕ). WalkedHere table marks₀ steps₀ start fuel x y steps') (more-marked x (set marks n 1))
                (rw (s, e) (g.rest (get_or table n 0) (set (set marks n 1) n (2 + get_or table n 0)) (steps + 1) w));
            more = omega (arith, g.more, s);
            long = length-set marks n 1 ∙ g.long;
          }

      -- or leads on
      pub goes_on : 65536 ≤ x → {m left' : ℕ} → m ≡ x - 65536 → left' ≡ left - 1 → GoingAhead (set marks n 1) steps' m left'
      goes_on l q o =
          rw o
          (record {
            walkable = rw q (walkable_next g.walkable (λ z. omega arith) e l s);
            more = omega (arith, g.more, s);
            here = q ∙ ap (λ (y : ℕ). y - 65536) e ∙ ap (next_in table) g.here ∙ along-next table 0 (steps - steps₀) start ∙ ap (λ (y : ℕ). along table 0 y start) (sym one_more);
            long = length-set marks n 1 ∙ g.long;
            rest = λ r l' s' w.
                subst (λ (y : List ℕ). WalkedHere table marks₀ steps₀ start fuel r y s') (more-marked r l')
                (g.rest r (set l' n (2 + r)) s'
                (at_next table marks steps n g.walkable.marked g.walkable.name (omega arith) off left (λ z. omega arith) (omega (arith, e)) (rw (q, e, s) at w)));
          })

-- ---- and once more

pub walked : {table marks : List ℕ} {steps n fuel r : ℕ} {marks' : List ℕ} {steps' : ℕ} → WentAhead table marks steps n fuel r marks' steps'
    → {count : ℕ} → count ≡ steps' - steps → {left : List ℕ} → left ≡ marked_path table (2 + r) count n marks' → WalkedHere table marks steps n fuel r left steps'
walked {table} {marks} {steps} {n} {fuel} {r} {marks'} {steps'} a c e =
    subst (λ (l : List ℕ). WalkedHere table marks steps n fuel r l steps') (sym (e ∙ ap (λ (k : ℕ). marked_path table (2 + r) k n marks') c)) a.walked
