-- The relations of a pack whose trees are resolved come out stamped with the lists that the code finds for them.
use Prim.Native.Nat.{ℕ, ◌+◌, ◌≤◌}
use native.Mathlib.Omega.{arith}
use mathlib.Core.Path.{◌≡◌, refl, ap, sym, ◌∙◌, subst}
use mathlib.Core.List.{List, [], ◌∷◌, ◌++◌, append_assoc, map}
use mathlib.Core.Bool.{Bool, false, ◌||◌}
use mathlib.Core.Option.{some}
use lib.ListN.{length, get_or, length-append}
use lib.Dec.{eqb}
use borrow.Author.Tests.{eq-eqb}
use Rattle.std.proofs.lemmas.Bool.{or_parts}
use Rattle.definitions.specs.Form.{among, Fine}
use Rattle.definitions.specs.Records.{Relation, Pack}
use Rattle.definitions.specs.Pack.{WellFormed, yes, read, relation}
use Rattle.definitions.specs.Kinds.{find, declared, kinds_of}
use Rattle.definitions.specs.Places.{relation_words, start_of, first_relation, names_at}
use Rattle.chains.proofs.RelationForm.{RelationsFine, kept}
use Rattle.chains.proofs.PackParts.{EachFound, parts}
use Rattle.definitions.specs.Answers.{Outcome, done}
use Rattle.definitions.specs.Resolving.{atom_names, role_judgment, in_derivation, stamp, resolve_relation}
use Rattle.stamping.specs.Stamping.{StampedBy, list_for, lists_for}
use Rattle.definitions.specs.WrittenRecords.{lengths}
use Rattle.resolve.specs.Pieces.{Stamped, no_more, one_more}
use Rattle.resolve.specs.Finish.{AskedOf}
use Rattle.directions.specs.RecordRuns.{places_from, run_words, EachKeeps, RelationKeeps, KindsReady}
use Rattle.directions.proofs.KeepsForm.{Good}
use Rattle.directions.proofs.ResolvedFine.{Same, tail_of, with_tail, relation_good}
use Rattle.directions.proofs.RunLaws.{RunPairs}
use Rattle.directions.proofs.RelationLaws.{relation-long}
use Rattle.directions.proofs.HeldKept.{relation-held, part_kept}
use Rattle.filtered.specs.Acts.{act_part, act_list, part_at, part_of, ActsOf}
use Rattle.stamping.proofs.StampLaws.{stamped-by}

-- ---- relations after their trees are resolved

module _ (p : Pack) (w : WellFormed p) where
  abbrev n : ℕ
  n = p.names

  same_as : (at : ℕ) (r s : Relation) (used : ℕ → Bool) → Fine (relation n used) r → resolve_relation p at r ≡ done s → Same p w r s
  same_as at r s used h e = subst (Good (Same p w r)) e (relation_good p w at r (tail_of p w used r h))

  -- they keep to their form
  pub still_fine : (at : ℕ) (used : List ℕ) (l m : List Relation) → RelationsFine n used l
      → RunPairs (relation_words n) (λ at r. resolve_relation p at r) (RelationKeeps p) (relation-long p w) at l m → RelationsFine n used m
  still_fine at used [] [] h q = tt
  still_fine at used [] (s ∷ m) h q = absurd q
  still_fine at used (r ∷ l) [] h q = absurd q
  still_fine at used (r ∷ l) (s ∷ m) h q =
      let t = same_as at r s (λ v. among v used) h.0 q.0 in (
        with_tail p w (λ v. among v used) r s h.0 t,
        subst (λ (v : ℕ). RelationsFine n (v ∷ used) m) (sym t.0) (still_fine (at + length (relation_words n r)) (r.name ∷ used) l m h.1 q.1),
      )

  -- each starts where it stands
  abbrev pub Starting : ℕ → List Relation → Type 0
  Starting at [] = Unit {0}
  Starting at (r ∷ l) = (start_of n r.name (first_relation p) p.relations ≡ at) × Starting (at + length (relation_words n r)) l

  starting_from : (at : ℕ) (used : List ℕ) (l : List Relation) → RelationsFine n used l → ((m : ℕ) → among m used ≡ false → start_of n m (first_relation p) p.relations ≡ start_of n m at l) → Starting at l
  unfolding start_of
  starting_from at used [] fine h = tt
  starting_from at used (r ∷ l) fine h = (
    h r.name (kept n (λ v. among v used) r fine.0).fresh ∙ rw (eq-eqb r.name r.name refl) refl,
    starting_from (at + length (relation_words n r)) (r.name ∷ used) l fine.1 (λ m e. let q = or_parts (eqb m r.name) (among m used) e in h m q.1 ∙ rw q.0 refl),
  )

  pub all_starting : Starting (first_relation p) p.relations
  all_starting = starting_from (first_relation p) [] p.relations (parts p w).relations-fine (λ m e. refl)

  -- and come out stamped
  module _ (ws acts : List ℕ) (asked : List Bool) (work : List ℕ) (h : read ws ≡ yes p) (most : n ≤ 4096) (says : ActsOf ws acts) (settled : KindsReady ws acts) (asks : AskedOf p asked) (rest : List ℕ) where
    one_stamped : (at : ℕ) (r s : Relation) (before after : List ℕ) → length before ≡ at → RelationKeeps p r → find r.name p.relations ≡ some r → start_of n r.name (first_relation p) p.relations ≡ at → resolve_relation p at r ≡ done s → work ≡ before ++ (relation_words n s ++ after)
        → StampedBy ws (list_for ws work acts asked at) s (stamp p s)
    unfolding part_of
    one_stamped at r s before after long keeps found starts e stands =
        let t = same_as at r s keeps.used keeps.fine e in
        let fine = with_tail p w keeps.used r s keeps.fine t in
        let part : act_part (get_or acts s.name 0) ≡ part_at at (some s) =
        ap (λ (m : ℕ). act_part (get_or acts m 0)) t.0 ∙ says.parts p h r.name ∙ ap (part_at (start_of n r.name (first_relation p) p.relations)) found ∙ ap (λ (x : ℕ). part_at x (some r)) starts ∙ sym (part_kept p at at r s e) in
        let kinds : names_at ws (act_list (get_or acts s.name 0)) ≡ kinds_of p.relations s.name = settled p h s.name (ap (λ (v : ℕ). among v (declared p.relations)) t.0 ∙ keeps.known) in
        let told : get_or asked s.name false ≡ (atom_names p s.name || in_derivation role_judgment s.derivation) =
        ap (λ (m : ℕ). get_or asked m false) t.0 ∙ asks.says r found ∙ ap (λ (b : Bool). atom_names p r.name || b) (sym (relation-held role_judgment p at r s e))
        ∙ ap (λ (m : ℕ). atom_names p m || in_derivation role_judgment s.derivation) (sym t.0) in
        stamped-by ws work acts asked p at s (record { before = before; after = after; long = long; same-words = stands; used = keeps.used; fine = fine }) most part kinds told

    pub all-stamped : (at : ℕ) (l m : List Relation) (before : List ℕ) → length before ≡ at → EachKeeps (RelationKeeps p) l → EachFound p.relations l → Starting at l
        → RunPairs (relation_words n) (λ at r. resolve_relation p at r) (RelationKeeps p) (relation-long p w) at l m → work ≡ before ++ (run_words (relation_words n) m ++ rest)
        → Stamped ws (lists_for ws work acts asked (places_from n at l)) m (map (stamp p) m)
    unfolding places_from lists_for
    all-stamped at [] [] before long keeps found starts q stands = no_more
    all-stamped at [] (s ∷ m) before long keeps found starts q stands = absurd q
    all-stamped at (r ∷ l) [] before long keeps found starts q stands = absurd q
    all-stamped at (r ∷ l) (s ∷ m) before long keeps found starts q stands =
        let tail : List ℕ = run_words (relation_words n) m ++ rest in
        let opened : work ≡ before ++ (relation_words n s ++ tail) = stands ∙ ap (λ (x : List ℕ). before ++ x) (append_assoc (relation_words n s) (run_words (relation_words n) m) rest) in
        let size = relation-long p w at r s keeps.0 q.0 in
        one_more (one_stamped at r s before tail long keeps.0 found.0 starts.0 q.0 opened)
        (all-stamped (at + length (relation_words n r)) l m (before ++ relation_words n s) (length-append before (relation_words n s) ∙ omega arith) keeps.1 found.1 starts.1 q.1 (opened ∙ sym (append_assoc before (relation_words n s) tail)))

-- resolved records are as long as they were
pub same-lengths : {A : Type 0} (W : A → List ℕ) (resolve : ℕ → A → Outcome A) (Keeps : A → Type 0) (long : (at : ℕ) (a b : A) → Keeps a → resolve at a ≡ done b → length (W b) ≡ length (W a))
    (at : ℕ) (l m : List A) → EachKeeps Keeps l → RunPairs W resolve Keeps long at l m → lengths (map W l) ≡ lengths (map W m)
same-lengths W resolve Keeps long at [] [] keeps q = refl
same-lengths W resolve Keeps long at [] (b ∷ m) keeps q = absurd q
same-lengths W resolve Keeps long at (a ∷ l) [] keeps q = absurd q
same-lengths W resolve Keeps long at (a ∷ l) (b ∷ m) keeps q =
    let here = long at a b keeps.0 q.0 in let later = same-lengths W resolve Keeps long (at + length (W a)) l m keeps.1 q.1 in cc
