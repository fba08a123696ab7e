-- The two laws of the pack: it reads back the words that are written for it, and what is read are the words of a well-formed pack.
use Prim.Native.Nat.{ℕ, ◌+◌, ◌≤◌}
use native.Mathlib.Omega.{arith}
use mathlib.Core.Path.{◌≡◌, refl, ap, sym, ◌∙◌}
use mathlib.Core.List.{List, [], ◌∷◌, append-nil}
use mathlib.Core.Bool.{Bool, true, false, ◌&&◌}
use lib.ListN.{length}
use lib.Dec.{leb, eqb}
use borrow.Author.Tests.{eq-eqb, eqb-true, le-leb, leb-true}
use Rattle.std.proofs.lemmas.Bool.{and_parts}
use Rattle.definitions.specs.declared.answer.Refusal.{Refusal}
use Rattle.definitions.specs.Table.{pick, word_of, table, entry_of}
use Rattle.definitions.specs.Form.{Read, got, refused, allowed_here, read_by, words_by, Fine}
use Rattle.definitions.specs.Records.{Edition, undated, Pack}
use Rattle.definitions.specs.FieldRows.{RecordsRow, of_row, to_row}
use Rattle.definitions.specs.Pack.{first_kind, edition_of, inner, layout, Reading, yes, refuse, complete, read, total, words, WellFormed}
use Rattle.pack.proofs.FormLaws.{Took, lawful}

-- a pack is as long as its first word says
pub words-length : (p : Pack) → length (words p) ≡ total p
unfolding words total layout words_by
words-length p = refl

-- what the first word is held to, in each edition
first-allowed : (e : Edition) (n v : ℕ) → allowed_here n (first_kind e) v ≡ eqb v n
unfolding allowed_here entry_of table
first-allowed undated n v = refl

-- the words written for a pack tell its edition
edition-words : (p : Pack) → edition_of (words p) ≡ p.edition
edition-words p = go p.edition
  where
    go : (e : Edition) → undated ≡ e
    go undated = refl

stands : (p : Pack) → WellFormed p → read_by (layout p.edition (total p)) 0 (words p) ≡ got (total p, to_row p) (0 + length (words p)) []
unfolding words layout Fine
stands p h =
    let a : allowed_here (total p) (first_kind p.edition) (total p) ≡ true = first-allowed p.edition (total p) (total p) ∙ eq-eqb (total p) (total p) refl in
    rw append-nil at ((lawful (layout p.edition (total p))).there (total p, to_row p) 0 [] ((omega (arith, h.most), a), h.parts))

pub read-words : (p : Pack) → WellFormed p → read (words p) ≡ yes p
unfolding read
read-words p h = simp (edition-words p, words-length p, le-leb 6 _ h.least, le-leb _ 8192 h.most, stands p h)

no_pack : {r : Refusal} {p : Pack} → refuse r ≡ yes p → ⊥
no_pack e = let z : ◌≡◌ {A = ℕ} 0 1 = cc in omega arith

-- a pick that gives a pack went by true
pick_yes : (b : Bool) (x : Reading) (r : Refusal) {p : Pack} → pick b x (refuse r) ≡ yes p → (b ≡ true) × (x ≡ yes p)
pick_yes true x r e = (refl, e)
pick_yes false x r e = absurd (no_pack e)

-- a pack that was read: its edition, the first word's value and the place behind it
record Whole (e : Edition) (m : Read (ℕ × (ℕ × RecordsRow))) (p : Pack) : Type 0 where
  first : ℕ
  end : ℕ
  edition : e ≡ p.edition
  row : m ≡ got (first, to_row p) end []

whole : (e : Edition) (m : Read (ℕ × (ℕ × RecordsRow))) (p : Pack) → complete e m ≡ yes p → Whole e m p
whole e (got t at []) p h =
    let q : of_row e t.1 ≡ p = cc in
    record { first = t.0; end = at; edition = ap (λ (u : Pack). u.edition) q; row = ap (λ (u : Pack). got (t.0, to_row u) at []) q }
whole e (got t at (w ∷ ws)) p h = absurd (no_pack h)
whole e (refused r) p h = absurd (no_pack h)

-- what reading a pack tells of the slice
pub record Rewrites (ws : List ℕ) (p : Pack) : Type 0 where
  pub same : words p ≡ ws
  pub fine : WellFormed p

taken : (ws : List ℕ) (p : Pack) (n at : ℕ) → 6 ≤ length ws → length ws ≤ 8192
    → Took (words_by (layout p.edition (length ws))) (Fine (layout p.edition (length ws))) 0 ws (n, to_row p) at [] → Rewrites ws p
unfolding words layout total words_by Fine
taken ws p n at low high t =
    let e : n ≡ length ws = eqb-true _ _ (sym (first-allowed p.edition (length ws) n) ∙ t.fine.0.1) in
    let s = rw append-nil at t.same in
    let l : length ws ≡ total p = ap length s in
    record {
      same = ap (λ (k : ℕ). word_of (first_kind p.edition) k ∷ words_by (inner p.edition) (to_row p)) (sym l ∙ sym e) ∙ sym s;
      fine = record { least = omega arith; most = omega arith; parts = t.fine.1 };
    }

pub words-read : (ws : List ℕ) (p : Pack) → read ws ≡ yes p → Rewrites ws p
unfolding read
words-read ws p h =
    let a = pick_yes (leb 6 (length ws) && leb (length ws) 8192) _ _ h in
    let b = and_parts (leb 6 (length ws)) (leb (length ws) 8192) a.0 in
    let w = whole (edition_of ws) (read_by (layout (edition_of ws) (length ws)) 0 ws) p a.1 in
    let r : read_by (layout p.edition (length ws)) 0 ws ≡ got (w.first, to_row p) w.end [] = ap (λ (e : Edition). read_by (layout e (length ws)) 0 ws) (sym w.edition) ∙ w.row in
    taken ws p w.first w.end (leb-true _ _ b.0) (leb-true _ _ b.1) ((lawful (layout p.edition (length ws))).back 0 ws _ _ [] r)
