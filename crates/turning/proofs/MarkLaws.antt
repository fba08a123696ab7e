-- Marks by name, from the notes.
use Prim.Native.Nat.{ℕ, suc, ◌+◌, ◌-◌, ◌/◌, ◌%◌, ◌<◌, ◌≤◌}
use native.Mathlib.Omega.{arith}
use native.Mathlib.Numerals.{add-one}
use mathlib.Core.Path.{◌≡◌, refl, ap, sym, ◌∙◌}
use Rattle.std.proofs.Math.Bool.{and-false}
use mathlib.Core.List.{List, [], ◌∷◌}
use mathlib.Core.Bool.{Bool, true, false, ◌||◌}
use lib.ListN.{length, get_or, set, take, drop, length-set, length-drop}
use Rattle.std.proofs.lemmas.List.{get_or-take}
use Rattle.std.proofs.lemmas.Grind.{get_or_after_one}
use Rattle.std.proofs.Common.{length-take}
use lib.Dec.{eqb, leb}
use borrow.Author.Tests.{eq-eqb, ne_eqb, eqb-false, lt-leb, le-leb}
use Rattle.std.specs.Prelude.{Some, None}
use Rattle.std.specs.declared.option.Option.{Option}
use Rattle.turning.specs.declared.note.Note as taken
use Rattle.turning.specs.Notes.{Note, note_code, Held}
use Rattle.turning.specs.Turns.{field_of, note_of, value_in, kind_here}
use Rattle.turning.specs.Asked.{relation_after, mark_if, atom_marked, role_marked, mark_note, mark_notes, InWords, MarkAsked, NoteMarked, MarksAsked, NotesMarked}
use Rattle.turning.proofs.CodeLaws.{as_read, is_note, read_is}

-- the parts of a note's number
module _ {code : ℕ} (n : Note) (is : code ≡ note_code n) (near : n.place + 1 < 8192) where
  pub mark_place : code % 8192 - 1 ≡ n.place
  mark_place = ap (λ (x : taken.Note). x.place) (read_is n is near refl)

  pub mark_inside : code / 16384 ≡ n.inside
  mark_inside = ap (λ (x : taken.Note). x.inside) (read_is n is near refl)

module _ {ws : List ℕ} {code : ℕ} (a : MarkAsked ws code) where
  pub some_place : 1 ≤ field_of code
  some_place = is_note a.n a.is a.near

mark_long : (current : Option ℕ) (t : List Bool) → length (mark_if current t) ≡ length t
mark_long None t = refl
mark_long (Some name) t = length-set t name true

module _ (ws : List ℕ) (code : ℕ) (current : Option ℕ) (t : List Bool) {note : taken.Note} (q : note ≡ note_of code) where
  same : (n : Note) → code ≡ note_code n → n.place + 1 < 8192 → note ≡ as_read n
  same n is near = read_is n is near q

  -- a rule or relation
  module _ (root : note.inside ≡ 0) where
    none_inside : (n : Note) → code ≡ note_code n → n.place + 1 < 8192 → eqb n.inside 0 ≡ true
    none_inside n is near = eq-eqb n.inside 0 (sym (ap (λ (x : taken.Note). x.inside) (same n is near)) ∙ root)

    pub relation-marked : kind_here ws note.place ≡ 6 → NoteMarked ws code current t (Some (value_in ws note.place)) t
    unfolding relation_after mark_note
    relation-marked k =
        record {
          each = λ n is near.
              let p : note.place ≡ n.place = ap (λ (x : taken.Note). x.place) (same n is near) in
              (rw (none_inside n is near, eq-eqb (kind_here ws n.place) 6 (sym (ap (kind_here ws) p) ∙ k)) (ap (λ (x : ℕ). Some (value_in ws x)) p), rw (none_inside n is near) refl);
          long = refl;
        }

    pub rule-marked : (kind_here ws note.place ≡ 6 → ⊥) → NoteMarked ws code current t None t
    unfolding relation_after mark_note
    rule-marked k =
        record {
          each = λ n is near.
              let p : note.place ≡ n.place = ap (λ (x : taken.Note). x.place) (same n is near) in
              (rw (none_inside n is near, ne_eqb (kind_here ws n.place) 6 (λ e. k (ap (kind_here ws) p ∙ e))) refl, rw (none_inside n is near) refl);
          long = refl;
        }

  -- a node
  module _ (away : note.inside ≡ 0 → ⊥) where
    some_inside : (n : Note) → code ≡ note_code n → n.place + 1 < 8192 → eqb n.inside 0 ≡ false
    some_inside n is near = ne_eqb n.inside 0 (λ e. away (ap (λ (x : taken.Note). x.inside) (same n is near) ∙ e))

    node-marked : {left : List Bool} → length left ≡ length t → left ≡ role_marked (kind_here ws note.place) (value_in ws note.place) current (atom_marked (kind_here ws note.place) (value_in ws note.place) t) → NoteMarked ws code current t current left
    unfolding relation_after mark_note
    node-marked {left} l e =
        record {
          long = l;
          each = λ n is near.
              let p : note.place ≡ n.place = ap (λ (x : taken.Note). x.place) (same n is near) in
              (rw (some_inside n is near) refl, e ∙ rw (some_inside n is near) (ap (λ (x : ℕ). role_marked (kind_here ws x) (value_in ws x) current (atom_marked (kind_here ws x) (value_in ws x) t)) p));
        }

    pub low-marked : kind_here ws note.place < 102 → NoteMarked ws code current t current t
    low-marked h = node-marked refl (sym (rw (lt-leb 102 (kind_here ws note.place) h, ne_eqb (kind_here ws note.place) 102 (λ e. omega arith), ne_eqb (kind_here ws note.place) 103 (λ e. omega arith)) refl))

    pub high_marked : 104 < kind_here ws note.place → NoteMarked ws code current t current t
    high_marked h = node-marked refl (sym (rw (lt-leb (kind_here ws note.place) 104 h, and-false (leb 102 (kind_here ws note.place)), ne_eqb (kind_here ws note.place) 102 (λ e. omega arith), ne_eqb (kind_here ws note.place) 103 (λ e. omega arith)) refl))

    pub same-marked : kind_here ws note.place ≡ 104 → {left : List Bool} → left ≡ mark_if current t → NoteMarked ws code current t current left
    same-marked k {left} e = node-marked (ap length e ∙ mark_long current t) (e ∙ sym (rw k refl))

    pub atom-marked : 102 ≤ kind_here ws note.place → kind_here ws note.place < 104 → {middle left : List Bool} → middle ≡ set t (value_in ws note.place) true → left ≡ mark_if current middle → NoteMarked ws code current t current left
    atom-marked a b {middle} {left} d e =
        node-marked (ap length e ∙ mark_long current middle ∙ ap length d ∙ length-set t (value_in ws note.place) true)
        (e ∙ ap (mark_if current) d ∙ sym (rw (le-leb 102 (kind_here ws note.place) a, le-leb (kind_here ws note.place) 104 (omega arith), atom_kind (kind_here ws note.place) a b) refl))
      where
        atom_kind : (k : ℕ) → 102 ≤ k → k < 104 → (eqb k 102 || eqb k 103) ≡ true
        atom_kind k a b = go (eqb k 102) refl
          where
            go : (x : Bool) → eqb k 102 ≡ x → (x || eqb k 103) ≡ true
            go true e = refl
            go false e = eq-eqb k 103 (let z = eqb-false k 102 e in omega arith)

-- ---- the loop

-- all notes are a part of the slice
pub its-code : (notes : List ℕ) (all i : ℕ) → i < all → get_or (take (all + 1 - 1) (drop 1 notes)) i 0 ≡ get_or notes (i + 1) 0
its-code notes all i h = get_or-take (all + 1 - 1) (drop 1 notes) i 0 (omega arith) ∙ get_or_after_one notes i 0 ∙ ap (λ (x : ℕ). get_or notes x 0) (omega arith)

pub long_enough : (notes : List ℕ) (all : ℕ) → all < length notes → length (take (all + 1 - 1) (drop 1 notes)) ≡ all
long_enough notes all h = simp (length-take, length-drop) (omega arith)

module _ (ws notes : List ℕ) (all : ℕ) (t₀ : List Bool) where
  pub record MarksLeft (ns : List Note) (i : ℕ) (current : Option ℕ) (t : List Bool) : Type 0 where
    pub rest : List Note
    pub are : Held notes i rest
    pub many : all + 1 ≡ i + length rest
    pub there : InWords ws rest
    pub left : mark_notes ws ns None t₀ ≡ mark_notes ws rest current t

  pub record Marking (i : ℕ) (current : Option ℕ) (t : List Bool) : Type 0 where
    pub each : (ns : List Note) → Held notes 1 ns → all ≡ length ns → InWords ws ns → MarksLeft ns i current t
    pub wide : length t ≡ length t₀

  module _ {i : ℕ} {current : Option ℕ} {t : List Bool} (g : Marking i current t) where
    pub record NextMark (ns : List Note) : Type 0 where
      pub n : Note
      pub rest : List Note
      pub is : get_or notes i 0 ≡ note_code n
      pub are : Held notes (suc i) rest
      pub many : all + 1 ≡ suc i + length rest
      pub near : n.place + 1 < 8192
      pub inside : n.place < length ws
      pub there : InWords ws rest
      pub left : mark_notes ws ns None t₀ ≡ mark_notes ws (n ∷ rest) current t

    module _ (more : i ≤ all) where
      next-by : (ns rest : List Note) → Held notes i rest → all + 1 ≡ i + length rest → InWords ws rest → mark_notes ws ns None t₀ ≡ mark_notes ws rest current t → NextMark ns
      next-by ns [] are many there left = absurd (omega arith)
      next-by ns (n ∷ rest) are many there left = record { n = n; rest = rest; is = are.0; are = are.1; many = omega arith; near = there.0; inside = there.1; there = there.2; left = left }

      next_mark : (ns : List Note) → MarksLeft ns i current t → NextMark ns
      next_mark ns l = next-by ns l.rest l.are l.many l.there l.left

      pub mark_asked : MarksAsked ws notes all → {code : ℕ} → code ≡ get_or notes i 0 → MarkAsked ws code
      mark_asked a q = let x = next_mark a.ns (g.each a.ns a.are a.many a.there) in record { n = x.n; is = q ∙ x.is; near = x.near; there = x.inside }

      pub marks-next : {code : ℕ} → code ≡ get_or notes i 0 → {next : Option ℕ} {left : List Bool} → NoteMarked ws code current t next left → Marking (i + 1) next left
      unfolding mark_notes
      marks-next q {next} {left} m =
          rw (add-one i)
          (record {
            each = λ ns are many there.
                let x = next_mark ns (g.each ns are many there) in
                let q = m.each x.n (q ∙ x.is) x.near in
                record { rest = x.rest; are = x.are; many = x.many; there = x.there; left = x.left ∙ (λ j. mark_notes ws x.rest (sym q.0 j) (sym q.1 j)) };
            wide = m.long ∙ g.wide;
          })

    ends_by : (ns rest : List Note) → all < i → all + 1 ≡ i + length rest → mark_notes ws ns None t₀ ≡ mark_notes ws rest current t → t ≡ mark_notes ws ns None t₀
    unfolding mark_notes
    ends_by ns [] h many left = sym left
    ends_by ns (n ∷ rest) h many left = absurd (omega arith)

    pub marks-end : all < i → NotesMarked ws notes all t₀ t
    marks-end h ns are many there = let l = g.each ns are many there in ends_by ns l.rest h l.many l.left
