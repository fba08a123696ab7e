-- A note's code gives its parts back, where the place after its word is below 8,192.
use Prim.Native.Nat.{ℕ, ◌+◌, ◌-◌, ◌*◌, ◌/◌, ◌%◌, ◌<◌, ◌≤◌}
use native.Mathlib.Omega.{arith}
use mathlib.Core.Path.{◌≡◌, refl, ap, sym, ◌∙◌}
use mathlib.Core.Bool.{Bool, true, false}
use lib.Dec.{eqb}
use Rattle.definitions.specs.Table.{pick}
use Rattle.turning.specs.declared.note.Note as taken
use Rattle.turning.specs.Notes.{Note, note_code}
use Rattle.turning.specs.Turns.{field_of, lost_of, inside_of, note_of}

pub record CodeParts (n : Note) : Type 0 where
  pub field : field_of (note_code n) ≡ n.place + 1
  pub lost : lost_of (note_code n) ≡ n.lost
  pub inside : inside_of (note_code n) ≡ n.inside

lost-parts : (at inside : ℕ) → at + 1 < 8192 → ((at + 1 + (16384 * inside + 8192)) % 8192 ≡ at + 1) × ((at + 1 + (16384 * inside + 8192)) / 8192 % 2 ≡ 1) × ((at + 1 + (16384 * inside + 8192)) / 16384 ≡ inside)
lost-parts at inside h = (omega arith, omega arith, omega arith)

kept_parts : (at inside : ℕ) → at + 1 < 8192 → ((at + 1 + (16384 * inside + 0)) % 8192 ≡ at + 1) × ((at + 1 + (16384 * inside + 0)) / 8192 % 2 ≡ 0) × ((at + 1 + (16384 * inside + 0)) / 16384 ≡ inside)
kept_parts at inside h = (omega arith, omega arith, omega arith)

pub code_parts : (n : Note) → n.place + 1 < 8192 → CodeParts n
code_parts n h = go n.lost refl
  where
    go : (b : Bool) → n.lost ≡ b → CodeParts n
    go true e =
        let q = lost-parts n.place n.inside h in
        let c : note_code n ≡ n.place + 1 + (16384 * n.inside + 8192) = ap (λ (x : Bool). n.place + 1 + (16384 * n.inside + pick x 8192 0)) e in
        record { field = ap field_of c ∙ q.0; lost = ap lost_of c ∙ ap (λ (x : ℕ). eqb x 1) q.1 ∙ sym e; inside = ap inside_of c ∙ q.2 }
    go false e =
        let q = kept_parts n.place n.inside h in
        let c : note_code n ≡ n.place + 1 + (16384 * n.inside + 0) = ap (λ (x : Bool). n.place + 1 + (16384 * n.inside + pick x 8192 0)) e in
        record { field = ap field_of c ∙ q.0; lost = ap lost_of c ∙ ap (λ (x : ℕ). eqb x 1) q.1 ∙ sym e; inside = ap inside_of c ∙ q.2 }

-- so the code's note is the note
abbrev pub as_read : Note → taken.Note
as_read n = record { place = n.place; inside = n.inside; lost = n.lost }

module _ {code : ℕ} (n : Note) (is : code ≡ note_code n) (near : n.place + 1 < 8192) where
  pub is_note : 1 ≤ field_of code
  is_note = let e : field_of code ≡ n.place + 1 = ap field_of is ∙ (code_parts n near).field in omega arith

  pub read_is : {note : taken.Note} → note ≡ note_of code → note ≡ as_read n
  read_is q =
      let parts = code_parts n near in
      let p : field_of code - 1 ≡ n.place = (let e : field_of code ≡ n.place + 1 = ap field_of is ∙ parts.field in omega arith) in
      q ∙ λ j. record { place = p j; inside = (ap inside_of is ∙ parts.inside) j; lost = (ap lost_of is ∙ parts.lost) j }
