-- The edges of a checked pack, read at its records, are those of its relations.
use Prim.Native.Nat.{ℕ, zero, suc, ◌+◌, ◌<◌, ◌≤◌}
use native.Mathlib.Omega.{arith}
use mathlib.Core.Path.{◌≡◌, refl, ap, sym, ◌∙◌, fun_ext, subst}
use mathlib.Core.Logic.{inl, inr}
use mathlib.Core.List.{List, [], ◌∷◌, ◌++◌}
use mathlib.Core.Bool.{Bool, true, false, or-false}
use mathlib.Core.Option.{Option, none, some}
use lib.ListN.{length, get_or, replicate, length-replicate}
use lib.Dec.{eqb}
use borrow.Author.Tests.{eq-eqb, ne_eqb, eqb-true}
use Rattle.std.proofs.lemmas.Bool.{or_cases}
use Rattle.definitions.specs.Table.{pick}
use Rattle.definitions.specs.Table as table
use Rattle.definitions.specs.Form.{among}
use Rattle.definitions.specs.Records.{Derivation, Relation, Pack}
use Rattle.definitions.specs.Pack.{WellFormed, words}
use Rattle.definitions.specs.Kinds.{find}
use Rattle.definitions.specs.Lean.{source_name, step_names, named_by, edges_at, edges, leans}
use Rattle.records.specs.declared.directory.Layout.{Layout}
use Rattle.chains.specs.Record.{value_at, kind_count, flag_at, path_in}
use Rattle.chains.specs.DirectoryWord.{starts_in}
use Rattle.chains.specs.PackDirectory.{IsDirectory, Sized, record_of}
use Rattle.chains.proofs.Names.{apart, among-append, both_ways}
use Rattle.chains.proofs.PackParts.{parts, find_kept}
use Rattle.chains.proofs.ListAt.{InWords}
use Rattle.chains.proofs.RecordLaws.{no_flag, a_flag, source-there, steps-there}
use Rattle.chains.proofs.DeclarationLaws.{no_record, standing}
use Rattle.chains.proofs.PlaceBounds.{found-small}
use Rattle.chains.proofs.CheckedLaws.{its-words, is-fine, same-pack, said-names}
use Rattle.kinds.specs.KindsPromises.{Leaning}
use Rattle.kinds.specs.Edges.{derived_edges, edges_in, edges_by}
use Rattle.kinds.specs.Search.{Searchable, Computes}
use Rattle.kinds.proofs.LeanLaws.{leans_computes}

-- ---- in each way out of the code

module _ (ws : List ℕ) (start : ℕ) where
  pub at_none : start ≡ 0 → edges_in ws start ≡ []
  unfolding edges_in
  at_none z = rw (eq-eqb start 0 z) refl

  module _ (y : start ≡ 0 → ⊥) {has : Bool} (f : has ≡ eqb (flag_at ws start) 1) where
    pub underived : has ≡ false → edges_in ws start ≡ []
    unfolding edges_in
    underived z = rw (ne_eqb start 0 y, ← f, z) refl

    pub derived : has ≡ true → {kinds : ℕ} → kinds ≡ kind_count ws start → edges_in ws start ≡ derived_edges ws (start + 4 + kinds)
    unfolding edges_in
    derived z k = rw (ne_eqb start 0 y, ← f, z, ← k) refl

-- ---- the edges of a checked pack

-- what the code reads at the record of a relation
module _ (ws : List ℕ) (start n : ℕ) (r : Relation) (i : InWords ws start n r) (most : n ≤ 4096) (later : 0 < start) where
  edges-read : edges_in ws start ≡ named_by r.derivation
  unfolding edges_in derived_edges
  edges-read = rw (ne_eqb start 0 (λ z. omega arith)) (go r.derivation refl)
    where
      go : (o : Option Derivation) → r.derivation ≡ o
          → pick (eqb (flag_at ws start) 1) (source_name (value_at ws (start + 4 + kind_count ws start + 1)) ++ path_in ws (start + 4 + kind_count ws start + 2)) [] ≡ named_by o
      go none e = rw (no_flag ws start n r i most e) refl
      go (some d) e = rw (a_flag ws start n r i most d e, source-there ws start n r i most d e, steps-there ws start n r i most d e) refl

module _ (p : Pack) (w : WellFormed p) (records : List ℕ) (placed : (m : ℕ) → get_or records m 0 ≡ record_of p m) where
  edges-at : (m : ℕ) → edges_in (words p) (get_or records m 0) ≡ edges p.relations m
  unfolding edges
  edges-at m = go (find m p.relations) refl
    where
      go : (o : Option Relation) → find m p.relations ≡ o → edges_in (words p) (get_or records m 0) ≡ edges_at o
      go none e = at_none (words p) (get_or records m 0) (no_record p w records placed m e)
      go (some r) e =
          let s = standing p w records placed m r e in
          edges-read (words p) (get_or records m 0) p.names r s.stands (parts p w).most s.later

-- every edge leads to a name
source-low : (n source m : ℕ) → (eqb source table.none ≡ false → source < n) → among m (source_name source) ≡ true → m < n
source-low n source m low i = go (eqb source table.none) refl i
  where
    go : (b : Bool) → eqb source table.none ≡ b → among m (pick b [] (source ∷ [])) ≡ true → m < n
    go true e j = apart j refl
    go false e j = subst (λ (v : ℕ). v < n) (sym (eqb-true m source (sym (or-false (eqb m source)) ∙ j))) (low e)

edges-low : (p : Pack) → WellFormed p → (n m : ℕ) → among m (edges p.relations n) ≡ true → m < p.names
unfolding edges
edges-low p w n m = go (find n p.relations) refl
  where
    named : (r : Relation) (o : Option Derivation) → r.derivation ≡ o → find n p.relations ≡ some r → among m (named_by o) ≡ true → m < p.names
    named r none q e i = apart i refl
    named r (some d) q e i = elim (or_cases (among m (source_name d.source)) (among m (step_names d.path)) (sym (among-append m (source_name d.source) (step_names d.path)) ∙ i)) [
      | inl j ↦ source-low p.names d.source m ((found-small p.names n [] p.relations r (parts p w).relations-fine e).leads d q) j
      | inr j ↦ ((find_kept p.names n [] p.relations r (parts p w).relations-fine e).1.derived d q).hops m j
    ]

    go : (o : Option Relation) → find n p.relations ≡ o → among m (edges_at o) ≡ true → m < p.names
    go none e i = apart i refl
    go (some r) e i = named r r.derivation refl e i

-- ---- of words that Check accepts

none_marked : (k m : ℕ) → get_or (replicate k false) m false ≡ false
none_marked zero m = refl
none_marked (suc k) zero = refl
none_marked (suc k) (suc m) = none_marked k m

module _ {ws dir : List ℕ} {l : Layout} (d : IsDirectory ws l dir) where
  abbrev its : Pack
  its = d.checked.pack

  edges_are : edges_by ws dir ≡ edges its.relations
  unfolding edges_by
  edges_are =
      ap (λ (v : List ℕ). λ (n : ℕ). edges_in v (get_or (starts_in dir) n 0)) (sym (its-words d.checked))
      ∙ fun_ext (edges-at its (is-fine d.checked) (starts_in dir) (d.noted.placed its d.checked.reads))

  pub its_searchable : {words most : ℕ} {queue : List ℕ} {a b : ℕ} → Sized ws words most → length dir ≡ words → most ≤ length queue → a < l.names → b < l.names → Searchable ws dir a b (replicate most false) queue
  its_searchable {most = most} s dir-long room h k =
      let low : (n j : ℕ) → among j (edges_by ws dir n) ≡ true → j < its.names =
      subst (λ (e : ℕ → List ℕ). (n j : ℕ) → among j (e n) ≡ true → j < its.names) (sym edges_are) (edges-low its (is-fine d.checked)) in
      let marks : length {A = Bool} (replicate most false) ≡ most = length-replicate most false in
      let named : its.names ≤ most = omega (arith, said-names ws d.checked, s.enough) in
      let same : l.names ≡ its.names = d.named its d.checked.reads in
      record {
        reaches = record { most = omega (arith, marks, s.most); long = omega (arith, marks, dir-long, s.both) };
        from = omega (arith, marks, named, same);
        to = omega (arith, marks, named, same);
        edges = λ n j i. omega (arith, low n j i, marks, named);
        clear = none_marked most;
        room = omega (arith, marks, room);
      }

  pub its_leaning : {a b : ℕ} {r : Bool} → Computes r (edges_by ws dir) a b → Leaning ws a b r
  its_leaning {a} {b} {r} c =
      let g = subst (λ (e : ℕ → List ℕ). Computes r e a b) edges_are c in
      let o = leans_computes its.relations a b in
      λ q h. both_ways r (leans its.relations a b) (λ e. o.complete (g.sound e)) (λ e. g.complete (o.sound e)) ∙ ap (λ (p : Pack). leans p.relations a b) (same-pack ws d.checked.reads h)
