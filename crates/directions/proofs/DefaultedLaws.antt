-- The first defaulted name with equal kinds is that of a checked pack.
use Prim.Native.Nat.{ℕ, ◌+◌, ◌<◌, ◌≤◌}
use native.Mathlib.Omega.{arith}
use mathlib.Core.Path.{◌≡◌, refl, ap, sym, ◌∙◌}
use mathlib.Core.List.{List, [], ◌∷◌, ◌++◌, append_assoc}
use lib.ListN.{length, get_or, length-append}
use lib.Seq.{get_or_at}
use Rattle.definitions.specs.Table.{value_of, word_of}
use Rattle.definitions.specs.Form.{Fine, FineAll, words_all, words_by}
use Rattle.definitions.specs.Records.{Pack}
use Rattle.definitions.specs.Pack.{yes, read, total, defaulted_name, above}
use Rattle.pack.proofs.PackLaws.{words-read}
use Rattle.chains.proofs.PackParts.{Parts, parts, split, relations_part}
use Rattle.definitions.specs.Tables.{Tables}
use Rattle.definitions.specs.Resolving.{equal_kinds, defaulted_equal}
use Rattle.directions.specs.Words.{derived_in, equal_in, first_equal}
use Rattle.chains.specs.Record.{value_at}

module _ (ws : List ℕ) (n : ℕ) (most : n ≤ 4096) where
  abbrev NamesFine : ℕ → List ℕ → Type 0
  NamesFine low ns = FineAll above (λ low v. Fine (defaulted_name n low) v) low ns

  abbrev name_words : ℕ → List ℕ → List ℕ
  name_words low ns = words_all above (λ low v. words_by (defaulted_name n low) v) low ns

  name_at : (front rest : List ℕ) (v at : ℕ) → v < 16777216 → at ≡ length front → ws ≡ front ++ (word_of 4 v ∷ rest) → value_at ws at ≡ v
  unfolding value_at
  name_at front rest v at h e s = ap (λ (l : List ℕ). value_of (get_or l at 0)) s ∙ ap value_of (get_or_at front (word_of 4 v) rest 0 at (sym e)) ∙ omega arith

  after : (front rest : List ℕ) (w : ℕ) → ws ≡ front ++ (w ∷ rest) → ws ≡ (front ++ (w ∷ [])) ++ rest
  after front rest w s = s ∙ sym (append_assoc front (w ∷ []) rest)

  front_length : (front : List ℕ) (w at : ℕ) → at ≡ length front → at + 1 ≡ length (front ++ (w ∷ []))
  front_length front w at e = let l = length-append front (w ∷ []) in omega arith

  module _ (acts : List ℕ) (T : Tables) (same : (m : ℕ) → derived_in ws (get_or acts m 0) ≡ T.derived m) where
    equal_is : (m : ℕ) → equal_in ws acts m ≡ equal_kinds (T.derived m)
    unfolding equal_in
    equal_is m = ap equal_kinds (same m)

    first-is : (ns : List ℕ) (low : ℕ) (front rest : List ℕ) (at : ℕ) → at ≡ length front → NamesFine low ns → ws ≡ front ++ (name_words low ns ++ rest)
        → first_equal ws acts at (length ns) ≡ defaulted_equal T ns
    unfolding defaulted_name Fine words_by first_equal defaulted_equal
    first-is [] low front rest at e f s = refl
    first-is (v ∷ ns) low front rest at e f s =
        let q = name_at front (name_words (above low v) ns ++ rest) v at f.0.0.0 e s in
        let r = first-is ns (above low v) (front ++ (word_of 4 v ∷ [])) rest (at + 1) (front_length front (word_of 4 v) at e) f.1 (after front (name_words (above low v) ns ++ rest) (word_of 4 v) s) in
        rw (q, equal_is v, r) refl

-- ---- of a checked pack

module _ (ws : List ℕ) (p : Pack) (h : read ws ≡ yes p) where
  abbrev front : List ℕ
  front = word_of 1 (total p) ∷ word_of 2 p.names ∷ word_of 3 (length p.defaulted) ∷ []

  abbrev rest : List ℕ
  rest = word_of 5 (length p.relations) ∷ (relations_part p ++ (word_of 22 (length p.rules) ∷ (split p).more))

  its : Parts p
  its = parts p (words-read ws p h).fine

  stands : ws ≡ front ++ (name_words ws p.names its.most 0 p.defaulted ++ rest)
  stands = sym (words-read ws p h).same ∙ (split p).same

  count-is : value_at ws 2 ≡ length p.defaulted
  unfolding value_at
  count-is = ap (λ (l : List ℕ). value_of (get_or l 2 0)) stands ∙ omega (arith, its.defaulted-count)

  pub first_equal-is : (acts : List ℕ) (T : Tables) → ((m : ℕ) → derived_in ws (get_or acts m 0) ≡ T.derived m)
      → first_equal ws acts 3 (value_at ws 2) ≡ defaulted_equal T p.defaulted
  first_equal-is acts T same =
      ap (first_equal ws acts 3) count-is ∙ first-is ws p.names its.most acts T same p.defaulted 0 front rest 3 refl its.defaulted-fine stands
