-- Where the relation of a name stands, by a table of the places of records.
use Prim.Native.Nat.{ℕ, ◌<◌}
use native.Mathlib.Omega.{arith}
use mathlib.Core.Path.{◌≡◌, ap, sym, ◌∙◌, subst}
use mathlib.Core.List.{List, []}
use mathlib.Core.Option.{none, some}
use lib.ListN.{get_or}
use Rattle.definitions.specs.Records.{Relation, Pack}
use Rattle.definitions.specs.Pack.{WellFormed, words}
use Rattle.definitions.specs.Kinds.{find}
use Rattle.definitions.specs.Places.{start_of, first_relation}
use Rattle.chains.specs.PackDirectory.{place_in, record_of}
use Rattle.chains.proofs.PackParts.{parts, find-name, find_kept, start_least}
use Rattle.chains.proofs.ListAt.{InWords, in_pack}

-- ---- a checked pack whose records start where a table says

module _ (p : Pack) (w : WellFormed p) (starts : List ℕ) (placed-there : (m : ℕ) → get_or starts m 0 ≡ record_of p m) where
  abbrev rs : List Relation
  rs = p.relations

  abbrev n : ℕ
  n = p.names

  abbrev starts_at : ℕ → ℕ
  starts_at m = start_of n m (first_relation p) rs

  pub no_record : (m : ℕ) → find m rs ≡ none → get_or starts m 0 ≡ 0
  unfolding record_of
  no_record m e = placed-there m ∙ ap (place_in (starts_at m)) e

  pub a_record : (m : ℕ) (r : Relation) → find m rs ≡ some r → get_or starts m 0 ≡ starts_at m
  unfolding record_of
  a_record m r e = placed-there m ∙ ap (place_in (starts_at m)) e

  -- the relation of a name stands where its record starts
  pub record Standing (m : ℕ) (r : Relation) : Type 0 where
    pub below : m < 4096
    pub stands : InWords (words p) (get_or starts m 0) n r
    pub later : 0 < get_or starts m 0

  pub standing : (m : ℕ) (r : Relation) → find m rs ≡ some r → Standing m r
  standing m r e =
      let q : m ≡ r.name = find-name rs m r e in
      let f : find r.name rs ≡ some r = ap (λ (v : ℕ). find v rs) (sym q) ∙ e in
      let k = (find_kept n m [] rs r (parts p w).relations-fine e).1 in
      let s : starts_at r.name ≡ get_or starts m 0 = ap starts_at (sym q) ∙ sym (a_record m r e) in
      record {
        below = omega (arith, k.below, (parts p w).most);
        stands = subst (λ (v : ℕ). InWords (words p) v n r) s (in_pack p w r f);
        later = omega (arith, a_record m r e, start_least n m (first_relation p) rs);
      }
