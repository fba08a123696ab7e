-- The loop over notes.
use Prim.Native.Nat.{ℕ, suc, ◌+◌, ◌<◌, ◌≤◌}
use native.Mathlib.Omega.{arith}
use native.Mathlib.Numerals.{add-one}
use mathlib.Core.Path.{◌≡◌, refl, ap, sym, ◌∙◌}
use mathlib.Core.List.{List, [], ◌∷◌}
use lib.ListN.{length, get_or}
use Rattle.definitions.specs.declared.answer.Refusal.{Refusal}
use Rattle.definitions.specs.Answers.{Outcome, done, refused, and_then}
use Rattle.turning.specs.declared.root.Root as code
use Rattle.turning.specs.declared.known.Known.{Known}
use Rattle.std.specs.Prelude.{Result, Ok, Err}
use Rattle.turning.specs.Notes.{Note, note_code, Held}
use Rattle.turning.specs.Turns.{KnownTables, Root, Work, work, nowhere, turn_note, turn_notes}
use Rattle.directions.specs.Words.{derived_in, member_in}
use Rattle.turning.specs.TurnPromises.{known_by, Stands, root_in, NextBy, NoteAsked, NoteTurned, Placed, EndedBy, TurnsAsked, NotesTurned}

-- numbers that are left as they were
held_still : (notes left : List ℕ) (i : ℕ) → ((j : ℕ) → (j ≡ i → ⊥) → get_or left j 0 ≡ get_or notes j 0) → (k : ℕ) → i < k → (ns : List Note) → Held notes k ns → Held left k ns
held_still notes left i same k l [] h = tt
held_still notes left i same k l (n ∷ ns) h = (same k (λ e. omega arith) ∙ h.0, held_still notes left i same (suc k) (omega arith) ns h.1)

on_is : {x y : code.Root} → ◌≡◌ {A = Result code.Root Refusal} (Ok x) (Ok y) → x ≡ y
on_is {x} {y} e = let z : x ≡ y = cc in z

on_refused : {x : code.Root} {r : Refusal} → ◌≡◌ {A = Result code.Root Refusal} (Ok x) (Err r) → ⊥
on_refused e = let z : ◌≡◌ {A = ℕ} 0 1 = cc in omega arith

refusal_is : {x y : Refusal} → ◌≡◌ {A = Result code.Root Refusal} (Err x) (Err y) → x ≡ y
refusal_is {x} {y} e = let z : x ≡ y = cc in z

module _ (k : Known) (from to : ℕ) (words₀ notes₀ : List ℕ) where
  abbrev ws : List ℕ
  ws = k.tables.pack.now

  abbrev K : KnownTables
  K = known_by k

  -- what is left to do of these notes
  pub record Left (all : List Note) (words notes : List ℕ) (i : ℕ) (r : code.Root) : Type 0 where
    pub rest : List Note
    pub are : Held notes i rest
    pub many : to ≡ i + length rest
    pub placed : Placed ws i rest
    pub left : turn_notes K ws from all (work words₀ notes₀ nowhere) ≡ turn_notes K ws i rest (work words notes (root_in ws r))

  -- of any notes that the numbers are
  pub record Going (words notes : List ℕ) (i : ℕ) (r : code.Root) : Type 0 where
    pub same : length words ≡ length words₀
    pub wide : length notes ≡ length notes₀
    pub on : from ≤ i
    pub earlier : (j : ℕ) → j < from → get_or notes j 0 ≡ get_or notes₀ j 0
    pub each : (ns : List Note) → Held notes₀ from ns → to ≡ from + length ns → Placed ws from ns → Left ns words notes i r

  -- the default is nowhere
  begins_nowhere : (r : code.Root) → r.name ≡ 0 → r.origin ≡ 0 → r.own ≡ 0 → nowhere ≡ root_in ws r
  unfolding member_in derived_in
  begins_nowhere r a b c = λ j. record { name = sym a j; origin = sym b j; member = ap (member_in ws) (sym c) j }

  pub turns_begin : (r : code.Root) → r.name ≡ 0 → r.origin ≡ 0 → r.own ≡ 0 → Going words₀ notes₀ from r
  turns_begin r a b c =
      record {
        same = refl;
        wide = refl;
        on = omega arith;
        earlier = λ j l. refl;
        each = λ ns are many placed. record { rest = ns; are = are; many = many; placed = placed; left = ap (λ (x : Root). turn_notes K ws from ns (work words₀ notes₀ x)) (begins_nowhere r a b c) };
      }

  module _ {words notes : List ℕ} {i : ℕ} {r : code.Root} (g : Going words notes i r) where
    -- the next note
    module _ (more : i < to) where
      pub record Next_note (all : List Note) : Type 0 where
        pub n : Note
        pub rest : List Note
        pub is : get_or notes i 0 ≡ note_code n
        pub are : Held notes (suc i) rest
        pub many : to ≡ i + suc (length rest)
        pub stands : Stands ws i n
        pub placed : Placed ws (suc i) rest
        pub left : turn_notes K ws from all (work words₀ notes₀ nowhere) ≡ turn_notes K ws i (n ∷ rest) (work words notes (root_in ws r))

      next-by : (all rest : List Note) → Held notes i rest → to ≡ i + length rest → Placed ws i rest → turn_notes K ws from all (work words₀ notes₀ nowhere) ≡ turn_notes K ws i rest (work words notes (root_in ws r)) → Next_note all
      next-by all [] are many placed left = absurd (omega arith)
      next-by all (n ∷ rest) are many placed left = record { n = n; rest = rest; is = are.0; are = are.1; many = many; stands = placed.0; placed = placed.1; left = left }

      next-note : (all : List Note) → Left all words notes i r → Next_note all
      next-note all l = next-by all l.rest l.are l.many l.placed l.left

      pub turns-asked : TurnsAsked ws words₀ notes₀ from to → NoteAsked ws words notes i
      turns-asked a =
          let x = next-note a.ns (g.each a.ns a.are a.many a.placed) in
          record { same = g.same ∙ a.same; inside = let q = a.inside in let l = g.wide in omega arith; n = x.n; is = x.is; stands = x.stands }

      module _ {o : Result code.Root Refusal} {left kinds : List ℕ} (t : NoteTurned k i r words notes o left kinds) where
        -- it goes on
        module _ {x : code.Root} (e : o ≡ Ok x) where
          went : (all : List Note) (y : Next_note all) (p : Outcome Work) → turn_note K ws i y.n (work words notes (root_in ws r)) ≡ p → NextBy ws p o left kinds → Left all left kinds (suc i) x
          unfolding turn_notes
          went all y (refused z) q h = absurd (on_refused (sym e ∙ h))
          went all y (done s) q h =
              let same : h.0 ≡ x = on_is (sym h.1 ∙ e) in
              let state : s ≡ work left kinds (root_in ws x) = λ j. work (sym h.3 j) (sym h.4 j) ((sym h.2 ∙ ap (root_in ws) same) j) in
              record {
                rest = y.rest;
                are = held_still notes kinds i t.others (suc i) (omega arith) y.rest y.are;
                many = let m = y.many in omega arith;
                placed = y.placed;
                left = y.left ∙ ap (λ (p : Outcome Work). and_then p (turn_notes K ws (suc i) y.rest)) q ∙ ap (turn_notes K ws (suc i) y.rest) state;
              }

          pub turns_next : Going left kinds (i + 1) x
          turns_next =
              rw (add-one i)
              (record {
                same = t.long ∙ g.same;
                wide = t.wide ∙ g.wide;
                on = let h = g.on in omega arith;
                earlier = λ j l. t.others j (λ z. let h = g.on in omega arith) ∙ g.earlier j l;
                each = λ ns are many placed. let y = next-note ns (g.each ns are many placed) in went ns y (turn_note K ws i y.n (work words notes (root_in ws r))) refl (t.each y.n y.is y.stands);
              })

        -- or is refused
        module _ {x : Refusal} (e : o ≡ Err x) where
          stopped : (all : List Note) (y : Next_note all) (p : Outcome Work) → turn_note K ws i y.n (work words notes (root_in ws r)) ≡ p → NextBy ws p o left kinds → EndedBy (turn_notes K ws from all (work words₀ notes₀ nowhere)) (Err x) left kinds
          unfolding turn_notes
          stopped all y (done s) q h = absurd (on_refused (sym h.1 ∙ e))
          stopped all y (refused z) q h = rw (y.left, q) (ap Err (refusal_is (sym e ∙ h)))

          pub turns-stop : NotesTurned k from to words₀ notes₀ (Err x) left kinds
          turns-stop =
              record {
                each = λ ns are many placed. let y = next-note ns (g.each ns are many placed) in stopped ns y (turn_note K ws i y.n (work words notes (root_in ws r))) refl (t.each y.n y.is y.stands);
                long = t.long ∙ g.same;
                wide = t.wide ∙ g.wide;
                earlier = λ j l. t.others j (λ z. let h = g.on in omega arith) ∙ g.earlier j l;
              }

    -- none is left
    ends_by : (all rest : List Note) → to ≤ i → to ≡ i + length rest → turn_notes K ws from all (work words₀ notes₀ nowhere) ≡ turn_notes K ws i rest (work words notes (root_in ws r)) → EndedBy (turn_notes K ws from all (work words₀ notes₀ nowhere)) (Ok tt) words notes
    unfolding turn_notes
    ends_by all [] h many left = rw left (refl, refl, refl)
    ends_by all (n ∷ rest) h many left = absurd (omega arith)

    pub turns-end : to ≤ i → NotesTurned k from to words₀ notes₀ (Ok tt) words notes
    turns-end h = record { each = λ ns are many placed. let l = g.each ns are many placed in ends_by ns l.rest h l.many l.left; long = g.same; wide = g.wide; earlier = g.earlier }
