-- What the marks say: a relation is marked just where some atom or Exists names it, or its predicate holds a judgment of the kinds 102 to 104.
use Prim.Native.Nat.{ℕ, suc, ◌+◌, ◌<◌, ◌≤◌}
use native.Mathlib.Omega.{arith}
use mathlib.Core.Path.{◌≡◌, refl, ap, sym, ◌∙◌}
use Rattle.std.proofs.Math.Bool.{or_assoc, or_comm, and-true, and-false, or-false}
use mathlib.Core.List.{List, [], ◌∷◌, ◌++◌, append_assoc}
use mathlib.Core.Bool.{Bool, true, false, ◌||◌, ◌&&◌, and-or_distrib_right, or-true}
use mathlib.Core.Option.{Option, none, some}
use Rattle.std.specs.Prelude.{Some, None}
use Rattle.std.specs.declared.option.Option as own
use lib.ListN.{length, get_or, set, length-append, length-set}
use lib.Seq.{get_or-set_same, get_or-set_other}
use lib.Dec.{eqb}
use borrow.Author.Tests.{eq-eqb, ne_eqb, eqb-true, eqb-false}
use Rattle.definitions.specs.Table.{pick, judgment}
use Rattle.definitions.specs.Form.{words_by, Fine}
use Rattle.definitions.specs.Tree.{Tree, Forest, node, more, tree, tree_words}
use Rattle.definitions.specs.Tree as trees
use Rattle.definitions.specs.Records.{Derivation, Relation, Body, Rule, Pack}
use Rattle.definitions.specs.Pack.{WellFormed, words, body, rule, blocks}
use Rattle.definitions.specs.Kinds.{find}
use Rattle.definitions.specs.Places.{relation_words, first_relation}
use Rattle.definitions.specs.Lean.{any}
use Rattle.chains.proofs.PackParts.{EachFound, all_found}
use Rattle.definitions.specs.Resolving.{holds, held, role_judgment, atom_of, in_derivation, in_rule, atom_names, rule_words, predicate_place, first_rule}
use Rattle.directions.specs.RecordRuns.{run_words, EachKeeps, body_words, RelationKeeps}
use Rattle.directions.proofs.RuleLaws.{bodies_of, head, rule-parts}
use Rattle.directions.proofs.RelationLaws.{lead, lead_words, lead_long, predicate_kept}
use Rattle.directions.proofs.TurnedPack.{front, pack-words, front_long, front22, pack_words_22, front22_long, rules_keep, relations_keep}
use Rattle.turning.specs.Notes.{Note, note, look_of, noted, within, notes_of, notes_in, notes_run, body_notes, rule_notes, derived_notes, relation_notes, relations_noted, rules_noted, notes_of_pack}
use Rattle.turning.specs.Turns.{value_in, kind_here}
use Rattle.turning.specs.Asked.{some_note, relation_after, mark_if, atom_marked, role_marked, mark_note, mark_notes}
use Rattle.turning.proofs.RecordFlat.{sound, value-is, kind-is, its-derivation, name_below}
use Rattle.turning.proofs.AskedLaws.{AllNoted, role_others, atom_others, tree-asked, body-asked, run_asked}

-- ---- whether a name is marked by notes

-- whether a relation, if any, has a name
abbrev is_name : own.Option ℕ → ℕ → Bool
is_name (Some c) m = eqb c m
is_name None m = false

-- of a node in the predicate of a relation, if any: an atom of the name, or a judgment of roles in its predicate
abbrev marks_as : ℕ → own.Option ℕ → ℕ → ℕ → Bool
marks_as m current k v = atom_of m k v || (role_judgment k v && is_name current m)

abbrev hits : List ℕ → Note → own.Option ℕ → ℕ → Bool
hits ws n current m = pick (eqb n.inside 0) false (marks_as m current (kind_here ws n.place) (value_in ws n.place))

unfoldable marked : List ℕ → List Note → own.Option ℕ → ℕ → Bool
marked ws [] current m = false
marked ws (n ∷ ns) current m = hits ws n current m || marked ws ns (relation_after ws n current) m

unfoldable after-all : List ℕ → List Note → own.Option ℕ → own.Option ℕ
after-all ws [] current = current
after-all ws (n ∷ ns) current = after-all ws ns (relation_after ws n current)

-- a mark that is set is read again
set_mark : (t : List Bool) (name m : ℕ) → m < length t → get_or (set t name true) m false ≡ (eqb name m || get_or t m false)
set_mark t name m h = go (eqb name m) refl
  where
    go : (b : Bool) → eqb name m ≡ b → get_or (set t name true) m false ≡ (b || get_or t m false)
    go true e = ap (λ (x : ℕ). get_or (set t x true) m false) (eqb-true name m e) ∙ get_or-set_same t m true false h
    go false e = get_or-set_other t name m true false (λ q. eqb-false name m e (sym q))

test_mark : (b : Bool) (t : List Bool) (name m : ℕ) → m < length t → get_or (pick b (set t name true) t) m false ≡ ((b && eqb name m) || get_or t m false)
test_mark true t name m h = set_mark t name m h
test_mark false t name m h = refl

test_long : (b : Bool) (t : List Bool) (name : ℕ) → length (pick b (set t name true) t) ≡ length t
test_long true t name = length-set t name true
test_long false t name = refl

own_mark : (b : Bool) (t : List Bool) (current : own.Option ℕ) (m : ℕ) → m < length t → get_or (pick b (mark_if current t) t) m false ≡ ((b && is_name current m) || get_or t m false)
own_mark b t (Some name) m h = test_mark b t name m h
own_mark true t None m h = refl
own_mark false t None m h = refl

own_long : (b : Bool) (t : List Bool) (current : own.Option ℕ) → length (pick b (mark_if current t) t) ≡ length t
own_long b t (Some name) = test_long b t name
own_long true t None = refl
own_long false t None = refl

or_turned : (a b x : Bool) → (b || (a || x)) ≡ ((a || b) || x)
or_turned true true x = refl
or_turned true false x = refl
or_turned false b x = refl

module _ (ws : List ℕ) (m : ℕ) where
  note_mark : (n : Note) (current : own.Option ℕ) (t : List Bool) → m < length t → get_or (mark_note ws n current t) m false ≡ (hits ws n current m || get_or t m false)
  unfolding mark_note
  note_mark n current t h = go (eqb n.inside 0)
    where
      k : ℕ
      k = kind_here ws n.place

      v : ℕ
      v = value_in ws n.place

      go : (b : Bool) → get_or (pick b t (role_marked (kind_here ws n.place) (value_in ws n.place) current (atom_marked (kind_here ws n.place) (value_in ws n.place) t))) m false
          ≡ (pick b false (marks_as m current (kind_here ws n.place) (value_in ws n.place)) || get_or t m false)
      go true = refl
      go false =
          own_mark (role_judgment k v) (atom_marked k v t) current m (let l = test_long (eqb k 102 || eqb k 103) t v in omega arith)
          ∙ ap (λ (b : Bool). (role_judgment k v && is_name current m) || b) (test_mark (eqb k 102 || eqb k 103) t v m h)
          ∙ or_turned (atom_of m k v) (role_judgment k v && is_name current m) (get_or t m false)

  note-long : (n : Note) (current : own.Option ℕ) (t : List Bool) → length (mark_note ws n current t) ≡ length t
  unfolding mark_note
  note-long n current t = go (eqb n.inside 0)
    where
      go : (b : Bool) → length (pick b t (role_marked (kind_here ws n.place) (value_in ws n.place) current (atom_marked (kind_here ws n.place) (value_in ws n.place) t))) ≡ length t
      go true = refl
      go false =
          own_long (role_judgment (kind_here ws n.place) (value_in ws n.place)) (atom_marked (kind_here ws n.place) (value_in ws n.place) t) current
          ∙ test_long (eqb (kind_here ws n.place) 102 || eqb (kind_here ws n.place) 103) t (value_in ws n.place)

  marks-read : (ns : List Note) (current : own.Option ℕ) (t : List Bool) → m < length t → get_or (mark_notes ws ns current t) m false ≡ (marked ws ns current m || get_or t m false)
  unfolding mark_notes marked
  marks-read [] current t h = refl
  marks-read (n ∷ ns) current t h =
      marks-read ns (relation_after ws n current) (mark_note ws n current t) (let l = note-long n current t in omega arith)
      ∙ ap (λ (b : Bool). marked ws ns (relation_after ws n current) m || b) (note_mark n current t h)
      ∙ or_turned (hits ws n current m) (marked ws ns (relation_after ws n current) m) (get_or t m false)

  marked_append : (ns ms : List Note) (current : own.Option ℕ) → marked ws (ns ++ ms) current m ≡ (marked ws ns current m || marked ws ms (after-all ws ns current) m)
  unfolding marked after-all
  marked_append [] ms current = refl
  marked_append (n ∷ ns) ms current =
      ap (λ (b : Bool). hits ws n current m || b) (marked_append ns ms (relation_after ws n current))
      ∙ sym (or_assoc (hits ws n current m) (marked ws ns (relation_after ws n current) m) (marked ws ms (after-all ws ns (relation_after ws n current)) m))

-- ---- notes of nodes stand in the relation or rule before them

abbrev pub AllInside : List Note → Type 0
AllInside [] = Unit {0}
AllInside (n ∷ ns) = (1 ≤ n.inside) × AllInside ns

inside-append : (ns ms : List Note) → AllInside ns → AllInside ms → AllInside (ns ++ ms)
inside-append [] ms h g = g
inside-append (n ∷ ns) ms h g = (h.0, inside-append ns ms h.1 g)

picked : (b : Bool) (x : Note) (ns ms : List Note) → 1 ≤ x.inside → AllInside ns → AllInside ms → AllInside (pick b (x ∷ ns) ms)
picked true x ns ms h a c = (h, a)
picked false x ns ms h a c = c

within_some : (k i inside : ℕ) → 1 ≤ i → 1 ≤ inside → 1 ≤ within k i inside
within_some k i inside a b = go (look_of k).opens
  where
    go : (x : Bool) → 1 ≤ pick x i inside
    go true = a
    go false = b

mutual
  unfolding notes_of

  tree-inside : (t : Tree) (i inside : ℕ) (lost : Bool) (at : ℕ) → 1 ≤ i → 1 ≤ inside → AllInside (notes_of i inside lost at t)
  tree-inside (node k v fs f) i inside lost at a b =
      picked (noted k) (note at inside lost) (notes_in (suc i) (within k i inside) (lost || (look_of k).first) (lost || (look_of k).rest) (at + 1 + length fs) f) (notes_in i inside (lost || (look_of k).first) (lost || (look_of k).rest) (at + 1 + length fs) f) b
      (row_inside f (suc i) (within k i inside) (lost || (look_of k).first) (lost || (look_of k).rest) (at + 1 + length fs) (omega arith) (within_some k i inside a b))
      (row_inside f i inside (lost || (look_of k).first) (lost || (look_of k).rest) (at + 1 + length fs) a b)

  row_inside : (f : Forest) (i inside : ℕ) (first rest : Bool) (at : ℕ) → 1 ≤ i → 1 ≤ inside → AllInside (notes_in i inside first rest at f)
  row_inside trees.none i inside first rest at a b = tt
  row_inside (more t f) i inside first rest at a b =
      inside-append (notes_of i inside first at t) _ (tree-inside t i inside first at a b) (row_inside f (i + length (notes_of i inside first at t)) inside rest rest _ (omega arith) b)

pub run_inside : (inside i at : ℕ) → 1 ≤ i → 1 ≤ inside → (l : List Body) → AllInside (notes_run body_words (body_notes inside) i at l)
unfolding notes_run
run_inside inside i at a b [] = tt
run_inside inside i at a b (x ∷ l) = inside-append (body_notes inside i at x) _ (tree-inside x.tree i inside false (at + 1) a b) (run_inside inside (i + length (body_notes inside i at x)) (at + length (body_words x)) (omega arith) b l)

module _ (ws : List ℕ) (m : ℕ) where
  inside-marked : (ns : List Note) (current : own.Option ℕ) → AllInside ns → (marked ws ns current m ≡ some_note (marks_as m current) ws ns) × (after-all ws ns current ≡ current)
  unfolding marked after-all relation_after
  inside-marked [] current h = (refl, refl)
  inside-marked (n ∷ ns) current h =
      let e : eqb n.inside 0 ≡ false = ne_eqb n.inside 0 (λ z. let q = h.0 in omega arith) in
      let r = inside-marked ns current h.1 in
      (rw e (ap (λ (b : Bool). marks_as m current (kind_here ws n.place) (value_in ws n.place) || b) r.0), rw e r.1)

-- a sort of nodes that are all noted
marks-noted : (m : ℕ) (current : own.Option ℕ) → AllNoted (marks_as m current)
marks-noted m current = record { others = λ k v e. rw ((atom_others m).others k v e, role_others.others k v e) refl }

-- ---- records

module _ (ws : List ℕ) (m : ℕ) where
  abbrev Told : {A : Type 0} → (A → List ℕ) → (ℕ → ℕ → A → List Note) → (A → Bool) → A → Type 0
  Told W N g a = (front back : List ℕ) (i at : ℕ) (current : own.Option ℕ) → ws ≡ front ++ (W a ++ back) → length front ≡ at → 1 ≤ i → marked ws (N i at a) current m ≡ g a

  run_told : {A : Type 0} (W : A → List ℕ) (N : ℕ → ℕ → A → List Note) (g : A → Bool) (Keeps : A → Type 0) → ((a : A) → Keeps a → Told W N g a) → (l : List A) → EachKeeps Keeps l → Told (run_words W) (notes_run W N) (any g) l
  unfolding notes_run marked
  run_told W N g Keeps each [] h front back i at current source ahead least = refl
  run_told W N g Keeps each (a ∷ l) h front back i at current source ahead least =
      let apiece : ws ≡ front ++ (W a ++ (run_words W l ++ back)) = source ∙ ap (λ (x : List ℕ). front ++ x) (append_assoc (W a) (run_words W l) back) in
      let start : length (front ++ W a) ≡ at + length (W a) = length-append front (W a) ∙ omega arith in
      let theirs : List Note = notes_run W N (i + length (N i at a)) (at + length (W a)) l in
      marked_append ws m (N i at a) theirs current
      ∙ ap (λ (b : Bool). b || marked ws theirs (after-all ws (N i at a) current) m) (each a h.0 front (run_words W l ++ back) i at current apiece ahead least)
      ∙ ap (λ (b : Bool). g a || b)
      (run_told W N g Keeps each l h.1 (front ++ W a) back (i + length (N i at a)) (at + length (W a)) (after-all ws (N i at a) current) (apiece ∙ sym (append_assoc front (W a) (run_words W l ++ back))) start (omega arith))

  rule_told : (n : ℕ) (r : Rule) → Fine (rule n) r → Told (rule_words n) rule_notes (in_rule (marks_as m None)) r
  unfolding rule_notes marked relation_after
  rule_told n r fine front back i at current source ahead least =
      let its = rule-parts n r fine in
      let tail : List ℕ = run_words body_words (bodies_of r) ++ back in
      let headed : ws ≡ front ++ (head r ++ tail) = source ∙ ap (λ (l : List ℕ). front ++ (l ++ back)) its.words ∙ ap (λ (l : List ℕ). front ++ l) (append_assoc (head r) (run_words body_words (bodies_of r)) back) in
      let kind : kind_here ws at ≡ 23 = kind-is ws front _ 23 r.citing at headed ahead its.citing in
      let inner : List Note = notes_run body_words (body_notes i) (suc i) (at + 4) (bodies_of r) in
      let told = run_asked (marks_as m None) (marks-noted m None) ws body_words (body_notes i) (λ (b : Body). holds (marks_as m None) b.tree) (λ b. Fine (body n) b) (λ b f. body-asked (marks_as m None) (marks-noted m None) ws n i b f) (bodies_of r) its.bodies (front ++ head r) back (suc i) (at + 4)
      (headed ∙ sym (append_assoc front (head r) tail)) (length-append front (head r) ∙ omega arith) in
      rw kind ((inside-marked ws m inner None (run_inside i (suc i) (at + 4) (omega arith) least (bodies_of r))).0 ∙ told)

  module _ (p : Pack) (w : WellFormed p) where
    derived_told : (r : Relation) → RelationKeeps p r → (o : Option Derivation) → r.derivation ≡ o → (front back : List ℕ) (i at : ℕ) (current : own.Option ℕ) → ws ≡ front ++ (relation_words p.names r ++ back) → length front ≡ at → 1 ≤ i
        → marked ws (derived_notes i at r o) current m ≡ in_derivation (marks_as m (Some r.name)) o
    unfolding marked relation_after
    derived_told r k none e front back i at current source ahead least = refl
    derived_told r k (some d) e front back i at current source ahead least =
        let n : ℕ = p.names in
        let fine : Fine (tree n 32 judgment) d.predicate = predicate_kept n r.derivation d e (its-derivation p w ws r k) in
        let L : List ℕ = lead n r d in
        let opened : ws ≡ front ++ (L ++ (tree_words d.predicate ++ back)) = source ∙ ap (λ (l : List ℕ). front ++ (l ++ back)) (lead_words n r d e fine) ∙ ap (λ (l : List ℕ). front ++ l) (append_assoc L (tree_words d.predicate) back) in
        let kind : kind_here ws at ≡ 6 = kind-is ws front _ 6 r.name at opened ahead (name_below p w ws r k) in
        let name : value_in ws at ≡ r.name = value-is ws front _ 6 r.name at opened ahead (name_below p w ws r k) in
        let inner : List Note = notes_of (suc i) i false (at + predicate_place r d) d.predicate in
        let told = tree-asked (marks_as m (Some r.name)) (marks-noted m (Some r.name)) ws d.predicate (sound d.predicate n 32 judgment fine) (front ++ L) back (suc i) i (at + predicate_place r d) false (opened ∙ sym (append_assoc front L (tree_words d.predicate ++ back)))
        (length-append front L ∙ omega (arith, lead_long n r d)) in
        rw (kind, name) ((inside-marked ws m inner (Some r.name) (tree-inside d.predicate (suc i) i false (at + predicate_place r d) (omega arith) least)).0 ∙ told)

    relation_told : (r : Relation) → RelationKeeps p r → Told (relation_words p.names) relation_notes (λ r. in_derivation (marks_as m (Some r.name)) r.derivation) r
    unfolding relation_notes
    relation_told r k front back i at current source ahead least = derived_told r k r.derivation refl front back i at current source ahead least

-- ---- a pack

module _ (p : Pack) (w : WellFormed p) (m : ℕ) where
  pack_told : marked (words p) (notes_of_pack p) None m ≡ (any (λ (r : Relation). in_derivation (marks_as m (Some r.name)) r.derivation) p.relations || any (in_rule (marks_as m None)) p.rules)
  unfolding relations_noted rules_noted
  pack_told =
      marked_append (words p) m (relations_noted p) (rules_noted p) None
      ∙ ap (λ (b : Bool). b || marked (words p) (rules_noted p) (after-all (words p) (relations_noted p) None) m)
      (run_told (words p) m (relation_words p.names) relation_notes (λ (r : Relation). in_derivation (marks_as m (Some r.name)) r.derivation) (RelationKeeps p) (λ r k. relation_told (words p) m p w r k) p.relations (relations_keep p w).all
      (front p) _ 1 (first_relation p) None (pack-words p) (front_long p) (omega arith))
      ∙ ap (λ (b : Bool). any (λ (r : Relation). in_derivation (marks_as m (Some r.name)) r.derivation) p.relations || b)
      (run_told (words p) m (rule_words p.names) rule_notes (in_rule (marks_as m None)) (Fine (rule p.names)) (λ r f. rule_told (words p) m p.names r f) p.rules (rules_keep p w).all
      (front22 p) (words_by (blocks p.names) p.blocks) (1 + length (relations_noted p)) (first_rule p) (after-all (words p) (relations_noted p) None) (pack_words_22 p) (front22_long p) (omega arith))

-- ---- what that is

or_mid : (a b c d : Bool) → ((a || b) || (c || d)) ≡ ((a || c) || (b || d))
or_mid true b c d = refl
or_mid false true true d = refl
or_mid false true false d = refl
or_mid false false true d = refl
or_mid false false false d = refl

module _ (m : ℕ) (c : own.Option ℕ) where
  mutual
    unfolding holds

    tree-parts : (t : Tree) → holds (marks_as m c) t ≡ (holds (atom_of m) t || (holds role_judgment t && is_name c m))
    tree-parts (node k v fs f) =
        ap (λ (b : Bool). marks_as m c k v || b) (row_parts f) ∙ or_mid (atom_of m k v) (role_judgment k v && is_name c m) (held (atom_of m) f) (held role_judgment f && is_name c m)
        ∙ ap (λ (b : Bool). (atom_of m k v || held (atom_of m) f) || b) (sym (and-or_distrib_right (role_judgment k v) (held role_judgment f) (is_name c m)))

    row_parts : (f : Forest) → held (marks_as m c) f ≡ (held (atom_of m) f || (held role_judgment f && is_name c m))
    row_parts trees.none = refl
    row_parts (more t f) =
        ap (λ (b : Bool). holds (marks_as m c) t || b) (row_parts f) ∙ ap (λ (b : Bool). b || (held (atom_of m) f || (held role_judgment f && is_name c m))) (tree-parts t)
        ∙ or_mid (holds (atom_of m) t) (holds role_judgment t && is_name c m) (held (atom_of m) f) (held role_judgment f && is_name c m)
        ∙ ap (λ (b : Bool). (holds (atom_of m) t || held (atom_of m) f) || b) (sym (and-or_distrib_right (holds role_judgment t) (held role_judgment f) (is_name c m)))

  derivation-parts : (o : Option Derivation) → in_derivation (marks_as m c) o ≡ (in_derivation (atom_of m) o || (in_derivation role_judgment o && is_name c m))
  derivation-parts none = refl
  derivation-parts (some d) = tree-parts d.predicate

any_same : {A : Type 0} (f g : A → Bool) → ((a : A) → f a ≡ g a) → (l : List A) → any f l ≡ any g l
any_same f g h [] = refl
any_same f g h (a ∷ l) = ap (λ (b : Bool). b || any f l) (h a) ∙ ap (λ (b : Bool). g a || b) (any_same f g h l)

any_or : {A : Type 0} (f g : A → Bool) (l : List A) → any (λ a. f a || g a) l ≡ (any f l || any g l)
any_or f g [] = refl
any_or f g (a ∷ l) = ap (λ (b : Bool). (f a || g a) || b) (any_or f g l) ∙ or_mid (f a) (g a) (any f l) (any g l)

-- outside of relations roles mark nothing
rules_atoms : (m : ℕ) (l : List Rule) → any (in_rule (marks_as m None)) l ≡ any (in_rule (atom_of m)) l
rules_atoms m l =
    let t : (x : Tree) → holds (marks_as m None) x ≡ holds (atom_of m) x = λ x. tree-parts m None x ∙ rw (and-false (holds role_judgment x)) (or-false (holds (atom_of m) x)) in
    any_same (in_rule (marks_as m None)) (in_rule (atom_of m))
    (λ r. ap (λ (b : Bool). b || any (λ (x : Body). holds (marks_as m None) x.tree) r.versions) (t r.semantics.tree)
    ∙ ap (λ (b : Bool). holds (atom_of m) r.semantics.tree || b) (any_same (λ (x : Body). holds (marks_as m None) x.tree) (λ (x : Body). holds (atom_of m) x.tree) (λ x. t x.tree) r.versions)) l

-- only the relation of a name bears it
module _ (all : List Relation) (r : Relation) (found : find r.name all ≡ some r) where
  abbrev bears : Relation → Bool
  bears s = in_derivation role_judgment s.derivation && eqb s.name r.name

  one_bears : (s : Relation) → find s.name all ≡ some s → bears s ≡ (in_derivation role_judgment r.derivation && eqb s.name r.name)
  one_bears s f = go (eqb s.name r.name) refl
    where
      go : (b : Bool) → eqb s.name r.name ≡ b → (in_derivation role_judgment s.derivation && b) ≡ (in_derivation role_judgment r.derivation && b)
      go true e = let q = sym f ∙ ap (λ (x : ℕ). find x all) (eqb-true s.name r.name e) ∙ found in let same : s ≡ r = cc in ap (λ (x : Relation). in_derivation role_judgment x.derivation && true) same
      go false e = and-false (in_derivation role_judgment s.derivation) ∙ sym (and-false (in_derivation role_judgment r.derivation))

  and_any : (b : Bool) (x y : Bool) → ((b && x) || (b && y)) ≡ (b && (x || y))
  and_any true x y = refl
  and_any false x y = refl

  role_bears : (l : List Relation) → EachFound all l → any bears l ≡ (in_derivation role_judgment r.derivation && any (λ (s : Relation). eqb s.name r.name) l)
  role_bears [] h = sym (and-false (in_derivation role_judgment r.derivation))
  role_bears (s ∷ l) h =
      ap (λ (b : Bool). b || any bears l) (one_bears s h.0) ∙ ap (λ (b : Bool). (in_derivation role_judgment r.derivation && eqb s.name r.name) || b) (role_bears l h.1)
      ∙ and_any (in_derivation role_judgment r.derivation) (eqb s.name r.name) (any (λ (s : Relation). eqb s.name r.name) l)

found_some : (m : ℕ) (l : List Relation) (r : Relation) → find m l ≡ some r → any (λ (s : Relation). eqb s.name m) l ≡ true
unfolding find
found_some m [] r e = let z : ◌≡◌ {A = ℕ} 0 1 = cc in absurd (omega arith)
found_some m (s ∷ l) r e = go (eqb m s.name) refl e (found_some m l r)
  where
    go : (b : Bool) → eqb m s.name ≡ b → pick b (some s) (find m l) ≡ some r → (find m l ≡ some r → any (λ (x : Relation). eqb x.name m) l ≡ true) → (eqb s.name m || any (λ (x : Relation). eqb x.name m) l) ≡ true
    go true q e ih = rw (eq-eqb s.name m (sym (eqb-true m s.name q))) refl
    go false q e ih = rw (ih e) (or-true (eqb s.name m))

-- THE LAW of marks: "that some atom or Exists names, or whose predicate holds kinds 102 to 104"
pub marks-are : (p : Pack) (w : WellFormed p) (r : Relation) → find r.name p.relations ≡ some r → r.name < 4096 → (t : List Bool) → r.name < length t → get_or t r.name false ≡ false
    → get_or (mark_notes (words p) (notes_of_pack p) None t) r.name false ≡ (atom_names p r.name || in_derivation role_judgment r.derivation)
unfolding atom_names
marks-are p w r found low t wide clear =
    let A : Bool = any (λ (s : Relation). in_derivation (atom_of r.name) s.derivation) p.relations in
    let U : Bool = any (in_rule (atom_of r.name)) p.rules in
    let R : Bool = in_derivation role_judgment r.derivation in
    let roles : any (bears p.relations r found) p.relations ≡ R =
    role_bears p.relations r found p.relations (all_found p w) ∙ rw (found_some r.name p.relations r found) (and-true R) in
    let relations : any (λ (s : Relation). in_derivation (marks_as r.name (Some s.name)) s.derivation) p.relations ≡ (A || R) =
    any_same (λ (s : Relation). in_derivation (marks_as r.name (Some s.name)) s.derivation) (λ (s : Relation). in_derivation (atom_of r.name) s.derivation || bears p.relations r found s) (λ s. derivation-parts r.name (Some s.name) s.derivation) p.relations
    ∙ any_or (λ (s : Relation). in_derivation (atom_of r.name) s.derivation) (bears p.relations r found) p.relations ∙ ap (λ (b : Bool). A || b) roles in
    let all : marked (words p) (notes_of_pack p) None r.name ≡ ((U || A) || R) =
    pack_told p w r.name ∙ ap (λ (b : Bool). b || any (in_rule (marks_as r.name None)) p.rules) relations ∙ ap (λ (b : Bool). (A || R) || b) (rules_atoms r.name p.rules)
    ∙ or_comm (A || R) U ∙ three U A R in
    marks-read (words p) r.name (notes_of_pack p) None t (omega arith) ∙ ap (λ (b : Bool). b || get_or t r.name false) all ∙ ap (λ (b : Bool). ((U || A) || R) || b) clear ∙ or-false ((U || A) || R)
  where
    three : (a b c : Bool) → (a || (b || c)) ≡ ((a || b) || c)
    three true b c = refl
    three false b c = refl
