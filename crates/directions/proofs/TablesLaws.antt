-- What the code reads of a checked pack's relations are the tables that resolving uses.
use Prim.Native.Nat.{ℕ, ◌+◌, ◌*◌, ◌≤◌}
use native.Mathlib.Omega.{arith}
use mathlib.Core.Path.{◌≡◌, ap, sym, ◌∙◌, subst}
use mathlib.Core.List.{List, [], ◌∷◌, ◌++◌, append_assoc}
use mathlib.Core.Option.{some}
use lib.ListN.{length, length-append}
use Rattle.definitions.specs.Table.{word_of}
use Rattle.definitions.specs.Form.{words_by}
use Rattle.definitions.specs.Records.{Derivation, Relation}
use Rattle.definitions.specs.Pack.{optional_derivation}
use Rattle.definitions.specs.Places.{hops}
use Rattle.definitions.specs.Kinds.{list9}
use Rattle.chains.specs.Record.{value_at, slots_place}
use Rattle.filtered.proofs.KindBounds.{Below, tail_below}
use Rattle.chains.proofs.RelationForm.{kept}
use Rattle.chains.proofs.ListAt.{name_words, InWords}
use Rattle.chains.proofs.RecordLaws.{value_there, slots_at, current-there, related-there, after_nine, nine_words, nine_length}

module _ (ws : List ℕ) (start n : ℕ) (r : Relation) (i : InWords ws start n r) (most : n ≤ 4096) where
  abbrev ks : List ℕ
  ks = r.slot_kinds

  abbrev after : List ℕ
  after = after_nine ws start n r i most

  abbrev later : List ℕ
  later = words_by (optional_derivation n) r.derivation ++ i.after

  kinds-below : Below n ks
  kinds-below = tail_below n r (kept n i.used r i.fine).tail list9

  pub two_kinds : (a b : ℕ) → ks ≡ a ∷ b ∷ [] → (value_at ws (start + 4) ≡ a) × (value_at ws (start + 5) ≡ b)
  two_kinds a b e =
      let w : ws ≡ after ++ (name_words (a ∷ b ∷ []) ++ later) = nine_words ws start n r i most ∙ ap (λ (l : List ℕ). after ++ (name_words l ++ later)) e in
      let f : Below n (a ∷ b ∷ []) = subst (Below n) e kinds-below in
      let one : List ℕ = word_of 10 a ∷ [] in (
        value_there ws after (word_of 10 b ∷ later) 10 a (start + 4) w (nine_length ws start n r i most) (omega (arith, f.0)),
        value_there ws (after ++ one) later 10 b (start + 5) (w ∙ sym (append_assoc after one (word_of 10 b ∷ later))) (length-append after one ∙ omega (arith, nine_length ws start n r i most))
            (omega (arith, f.1.0)),
      )

  -- a derived relation, by the place of its slots
  pub derived-there : (d : Derivation) → r.derivation ≡ some d → {part : ℕ} → part ≡ start + 7 + length ks + 3 * hops d.path → (value_at ws part ≡ d.current) × (value_at ws (part + 1) ≡ d.related)
  derived-there d e q =
      let at : _ ≡ slots_place ws start = q ∙ sym (slots_at ws start n r i most d e) in
      (ap (value_at ws) at ∙ current-there ws start n r i most d e, ap (λ (x : ℕ). value_at ws (x + 1)) at ∙ related-there ws start n r i most d e)
