-- The notes of a body, of a rule and of a relation, turned one after the other, resolve it where it stands.
use Prim.Native.Nat.{ℕ, zero, suc, ◌+◌, ◌<◌, ◌≤◌}
use native.Mathlib.Omega.{arith}
use mathlib.Core.Path.{◌≡◌, refl, ap, sym, ◌∙◌, subst}
use mathlib.Core.List.{List, [], ◌∷◌, ◌++◌, append_assoc}
use mathlib.Core.Option.{Option, none, some}
use mathlib.Core.Bool.{false}
use lib.ListN.{length, get_or, set, length-append, length-set}
use lib.Seq.{get_or_at, get_or-set_same}
use Rattle.definitions.specs.Table.{kind_of, value_of, word_of, judgment, entry_of, fields_of, children_of}
use Rattle.definitions.specs.Form.{FineEach, Fine}
use Rattle.definitions.specs.Tree.{Tree, Forest, node, more, last_field, root, tree, Fields, tree_words, size}
use Rattle.definitions.specs.TreeRows.{of_forest}
use Rattle.definitions.specs.Tree as trees
use Rattle.definitions.specs.Records.{Derivation, Relation, Body, Rule, Pack}
use Rattle.definitions.specs.Pack.{WellFormed, body, rule, relation_tail, optional_derivation}
use Rattle.definitions.specs.Kinds.{find, kinds_of}
use Rattle.definitions.specs.Places.{relation_words}
use Rattle.chains.proofs.RelationForm.{kept}
use Rattle.chains.proofs.PackParts.{parts}
use Rattle.definitions.specs.Filtered.{kind_at}
use Rattle.definitions.specs.Tables.{tables}
use Rattle.definitions.specs.Direction.{membership, kind_or_zero}
use Rattle.definitions.specs.Answers.{Outcome, done, refused, map_done}
use Rattle.definitions.specs.ResolvingTrees.{resolve_tree}
use Rattle.definitions.specs.Resolving.{cites, resolve_body, resolve_rule, rule_words, predicate_place, with_predicate, predicate_by, resolve_derivation, resolve_relation}
use Rattle.directions.proofs.KeepsForm.{Good, FieldsFine, open_node, no_level, tree_good, head_fine}
use Rattle.directions.proofs.TreeWords.{fields-count, size_is}
use Rattle.directions.proofs.ResolvedFine.{rule_good, tail_derivation, tables_fit}
use Rattle.directions.specs.RecordRuns.{run_words, run_by, body_words, RelationKeeps}
use Rattle.directions.proofs.RuleLaws.{bodies_of, head, RuleParts, rule-parts, again, rule_run}
use Rattle.directions.proofs.RunLaws.{run_length}
use Rattle.directions.proofs.RelationLaws.{lead, lead_words, lead_long, predicate_kept}
use Rattle.turning.specs.Notes.{Note, notes_of, notes_run, body_notes, rule_notes, derived_notes, relation_notes}
use Rattle.turning.specs.Turns.{KnownTables, known_of, Root, citing, Work, work, value_in, kind_here, open_root, turn_note, turn_notes}
use Rattle.turning.proofs.FlatLaws.{ValuesFit, Sound, Sounds, Flat, flat_tree}
use Rattle.turning.proofs.RunFlat.{RanBy, FlatAt, run_flat}

-- ---- trees that keep to their forms read back

values_fit : (n : ℕ) (kss : List (List ℕ)) (fs : Fields) → FieldsFine n kss fs → ValuesFit fs
unfolding Fine
values_fit n kss [] h = tt
values_fit n [] (f ∷ fs) h = absurd h
values_fit n (ks ∷ kss) (f ∷ fs) h = (h.0.1.0, values_fit n kss fs h.1)

mutual
  unfolding Sound

  pub sound : (t : Tree) (n d sort : ℕ) → Fine (tree n d sort) t → Sound t
  sound (node k v fs f) n zero sort h = absurd (no_level n sort k v fs f h)
  sound (node k v fs f) n (suc d) sort h =
      let o = open_node n d sort k v fs f h in
      ((head_fine n (suc d) sort k v o.0).0, fields-count n (fields_of (entry_of k).follows) fs o.1.0, values_fit n (fields_of (entry_of k).follows) fs o.1.0, sounds f n d (children_of (entry_of k).follows v (last_field fs)) o.1.1)

  sounds : (f : Forest) (n d : ℕ) (sorts : List ℕ) → FineEach (λ s t. Fine (tree n d s) t) sorts (of_forest f) → Sounds f
  sounds trees.none n d sorts h = tt
  sounds (more t f) n d [] h = absurd h
  sounds (more t f) n d (s ∷ sorts) h = (sound t n d s h.0, sounds f n d sorts h.1)

-- ---- words that are read

module _ (ws pre rest : List ℕ) (k v at : ℕ) (stands : ws ≡ pre ++ (word_of k v ∷ rest)) (here : length pre ≡ at) (small : v < 16777216) where
  pub word-is : get_or ws at 0 ≡ word_of k v
  word-is = ap (λ (l : List ℕ). get_or l at 0) stands ∙ get_or_at pre (word_of k v) rest 0 at here

  pub value-is : value_in ws at ≡ v
  value-is = ap value_of word-is ∙ omega arith

  pub kind-is : kind_here ws at ≡ k
  kind-is = ap kind_of word-is ∙ omega arith

-- ---- bodies

-- in a rule: its note's result is its entity
abbrev pub InRoot : Root → ℕ → ℕ → Work → Type 0
InRoot root inside entity s = (s.root ≡ root) × (get_or s.results inside 0 ≡ entity)

module _ (K : KnownTables) (root : Root) (ws : List ℕ) (inside entity : ℕ) (some-note : 1 ≤ inside) where
  -- a tree at the end of a record's words
  tree_ran : {A : Type 0} (W : A → List ℕ) (mk : Tree → A) (t : Tree) (lead before after results : List ℕ) (i all : ℕ) (o : Outcome Tree) (r : Outcome Work) → inside < i → get_or results inside 0 ≡ entity → all ≡ length lead + size t
      → Good (λ t'. W (mk t') ≡ lead ++ tree_words t') o → Flat tree_words (before ++ lead) after (size t) i results root o r → RanBy (InRoot root inside entity) W before after all (length results) (map_done mk o) r
  tree_ran W mk t lead before after results i all (refused x) r l q e g h = h
  tree_ran W mk t lead before after results i all (done t') r l q e g h =
      record {
        state = work ((before ++ lead) ++ (tree_words t' ++ after)) h.left root;
        is = h.is;
        stands = append_assoc before lead (tree_words t' ++ after) ∙ ap (λ (x : List ℕ). before ++ x) (sym (append_assoc lead (tree_words t') after)) ∙ ap (λ (x : List ℕ). before ++ (x ++ after)) (sym g);
        long = ap length g ∙ length-append lead (tree_words t') ∙ (let x = h.long in omega arith);
        same = h.same;
        keeps = (refl, h.kept inside l ∙ q);
      }

  module _ {A : Type 0} (W : A → List ℕ) (mk : Tree → A) (t : Tree) (lead : List ℕ) (a : A) (is : W a ≡ lead ++ tree_words t) (fine : Sound t) where
    -- the record of a tree that stands after other words
    root_ran : (front back before after : List ℕ) (i at : ℕ) (s : Work) → ws ≡ front ++ (W a ++ back) → length front ≡ at → length before ≡ at → s.words ≡ before ++ (W a ++ after) → inside < i
        → i + length (notes_of i inside false (at + length lead) t) ≤ length s.results → InRoot root inside entity s → Good (λ t'. W (mk t') ≡ lead ++ tree_words t') (resolve_tree (citing K root) entity root.member (at + length lead) t)
        → RanBy (InRoot root inside entity) W before after (length (W a)) (length s.results) (map_done mk (resolve_tree (citing K root) entity root.member (at + length lead) t))
        (turn_notes K ws i (notes_of i inside false (at + length lead) t) s)
    root_ran front back before after i at s source ahead here stands l room keeps good =
        let parted : (x : List ℕ) (y : List ℕ) → x ++ (W a ++ y) ≡ (x ++ lead) ++ (tree_words t ++ y) =
        λ x y. ap (λ (z : List ℕ). x ++ (z ++ y)) is ∙ ap (λ (z : List ℕ). x ++ z) (append_assoc lead (tree_words t) y) ∙ sym (append_assoc x lead (tree_words t ++ y)) in
        let state : s ≡ work ((before ++ lead) ++ (tree_words t ++ after)) s.results root = λ j. work ((stands ∙ parted before after) j) s.results (keeps.0 j) in
        let size-all : length (W a) ≡ length lead + size t = ap length is ∙ length-append lead (tree_words t) ∙ omega (arith, size_is t) in
        let h = flat_tree K root ws t fine (front ++ lead) back (before ++ lead) after s.results i inside entity (at + length lead) false (source ∙ parted front back) (length-append front lead ∙ omega arith) room l some-note keeps.1
        (length-append before lead ∙ omega arith) in
        tree_ran W mk t lead before after s.results i (length (W a)) (resolve_tree (citing K root) entity root.member (at + length lead) t) (turn_notes K ws i (notes_of i inside false (at + length lead) t) s) l keeps.1 size-all good
        (subst (λ (x : Work). Flat tree_words (before ++ lead) after (size t) i s.results root (resolve_tree (citing K root) entity root.member (at + length lead) t) (turn_notes K ws i (notes_of i inside false (at + length lead) t) x)) (sym state) h)

always : {A : Type 0} (P : A → Type 0) → ((a : A) → P a) → (o : Outcome A) → Good P o
always P h (done a) = h a
always P h (refused r) = tt

ran_more : {A : Type 0} (P Q : Work → Type 0) → ((s : Work) → P s → Q s) → (W : A → List ℕ) (before after : List ℕ) (all many : ℕ) (o : Outcome A) (r : Outcome Work) → RanBy P W before after all many o r → RanBy Q W before after all many o r
ran_more P Q f W before after all many (refused x) r h = h
ran_more P Q f W before after all many (done a) r h = record { state = h.state; is = h.is; stands = h.stands; long = h.long; same = h.same; keeps = f h.state h.keeps }

-- a body in a rule
pub body-tree : (n : ℕ) (b : Body) → Fine (body n) b → Sound b.tree
unfolding body root Fine
body-tree n b f = sound b.tree n 32 b.sort f.1

abbrev pub rule_in : ℕ → ℕ → Root
rule_in name origin = record { name = name; origin = origin; member = none }

body_flat : (K : KnownTables) (ws : List ℕ) (name origin inside entity n : ℕ) → 1 ≤ inside → (b : Body) → Fine (body n) b
    → FlatAt K ws (InRoot (rule_in name origin) inside entity) (suc inside) body_words (body_notes inside) (λ at b. resolve_body (citing K (rule_in name origin)) entity at b) b
body_flat K ws name origin inside entity n least b f front back before after i at s source ahead here stands lowest room keeps =
    let mk : Tree → Body = λ t. record { sort = b.sort; tree = t } in
    root_ran K (rule_in name origin) ws inside entity least body_words mk b.tree (word_of 27 b.sort ∷ []) b refl (body-tree n b f) front back before after i at s source ahead here stands (omega arith) room keeps
    (always (λ t. body_words (mk t) ≡ (word_of 27 b.sort ∷ []) ++ tree_words t) (λ t. refl) (resolve_tree (citing K (rule_in name origin)) entity none (at + 1) b.tree))

-- ---- rules

abbrev pub Free : Work → Type 0
Free s = Unit {0}

module _ (p : Pack) (w : WellFormed p) (ws : List ℕ) where
  abbrev n : ℕ
  n = p.names

  abbrev K : KnownTables
  K = known_of p

  module _ (r : Rule) (fine : Fine (rule n) r) (front back before after : List ℕ) (i at : ℕ) (s : Work) (source : ws ≡ front ++ (rule_words n r ++ back)) (ahead : length front ≡ at) (here : length before ≡ at)
      (stands : s.words ≡ before ++ (rule_words n r ++ after)) (lowest : 1 ≤ i) (room : i + length (rule_notes i at r) ≤ length s.results) where
    its : RuleParts n r
    its = rule-parts n r fine

    abbrev bs : List Body
    bs = bodies_of r

    abbrev in_rule : Root
    in_rule = rule_in r.citing r.origin

    abbrev by : ℕ → Body → Outcome Body
    by x b = resolve_body (citing K in_rule) r.entity x b

    headed : (x y : List ℕ) → x ++ (rule_words n r ++ y) ≡ x ++ (head r ++ (run_words body_words bs ++ y))
    headed x y = ap (λ (l : List ℕ). x ++ (l ++ y)) its.words ∙ ap (λ (l : List ℕ). x ++ l) (append_assoc (head r) (run_words body_words bs) y)

    past_head : (x y : List ℕ) → x ++ (rule_words n r ++ y) ≡ (x ++ head r) ++ (run_words body_words bs ++ y)
    past_head x y = headed x y ∙ sym (append_assoc x (head r) (run_words body_words bs ++ y))

    abbrev later : List ℕ
    later = run_words body_words bs ++ back

    abbrev w25 : List ℕ
    w25 = word_of 25 r.entity ∷ word_of 26 (suc (length r.versions)) ∷ later

    is-rule : kind_here ws at ≡ 23
    is-rule = kind-is ws front (word_of 24 r.origin ∷ w25) 23 r.citing at (source ∙ headed front back) ahead its.citing

    name-is : value_in ws at ≡ r.citing
    name-is = value-is ws front (word_of 24 r.origin ∷ w25) 23 r.citing at (source ∙ headed front back) ahead its.citing

    origin-is : value_in ws (at + 1) ≡ r.origin
    origin-is =
        let one : List ℕ = word_of 23 r.citing ∷ [] in
        value-is ws (front ++ one) w25 24 r.origin (at + 1) (source ∙ headed front back ∙ sym (append_assoc front one (word_of 24 r.origin ∷ w25))) (length-append front one ∙ omega arith) its.origin

    entity-is : value_in ws (at + 2) ≡ r.entity
    entity-is =
        let two : List ℕ = word_of 23 r.citing ∷ word_of 24 r.origin ∷ [] in
        value-is ws (front ++ two) (word_of 26 (suc (length r.versions)) ∷ later) 25 r.entity (at + 2) (source ∙ headed front back ∙ sym (append_assoc front two w25)) (length-append front two ∙ omega arith) its.entity

    abbrev inside_it : Work
    inside_it = work s.words (set s.results i r.entity) in_rule

    opened : open_root K ws i at s ≡ inside_it
    unfolding open_root
    opened = rw is-rule (λ j. work s.words (set s.results i (entity-is j)) (rule_in (name-is j) (origin-is j)))

    abbrev inner : List Note
    inner = notes_run body_words (body_notes i) (suc i) (at + 4) bs

    its-room : i + suc (length inner) ≤ length s.results
    unfolding rule_notes
    its-room = room

    notes_on : turn_notes K ws i (rule_notes i at r) s ≡ turn_notes K ws (suc i) inner inside_it
    unfolding rule_notes turn_notes turn_note
    notes_on = ap (turn_notes K ws (suc i) inner) opened

    bodies_ran : RanBy (InRoot in_rule i r.entity) (run_words body_words) (before ++ head r) after (length (run_words body_words bs)) (length s.results) (run_by body_words by (at + 4) bs) (turn_notes K ws (suc i) inner inside_it)
    bodies_ran =
        let same : length (set s.results i r.entity) ≡ length s.results = length-set s.results i r.entity in
        let q = its-room in
        let h = run_flat K ws (InRoot in_rule i r.entity) (suc i) body_words (body_notes i) by (λ b. Fine (body n) b) (λ b f. body_flat K ws r.citing r.origin i r.entity n lowest b f) bs its.bodies (front ++ head r) back (before ++ head r) after (suc i) (at + 4) inside_it
        (source ∙ past_head front back) (length-append front (head r) ∙ omega arith) (length-append before (head r) ∙ omega arith) (stands ∙ past_head before after) (omega arith) (omega arith) (refl, get_or-set_same s.results i r.entity 0 (omega arith)) in
        subst (λ (x : ℕ). RanBy (InRoot in_rule i r.entity) (run_words body_words) (before ++ head r) after (length (run_words body_words bs)) x (run_by body_words by (at + 4) bs) (turn_notes K ws (suc i) inner inside_it)) same h

    rule_ran : (o : Outcome (List Body)) (x : Outcome Work) → run_by body_words by (at + 4) bs ≡ o → Good (Fine (rule n)) (map_done (again r) o)
        → RanBy (InRoot in_rule i r.entity) (run_words body_words) (before ++ head r) after (length (run_words body_words bs)) (length s.results) o x
        → RanBy Free (rule_words n) before after (length (rule_words n r)) (length s.results) (map_done (again r) o) x
    rule_ran (refused y) x e g h = h
    rule_ran (done []) x e g h = let z = run_length body_words by (at + 4) bs [] e in absurd (omega arith)
    rule_ran (done (b ∷ m)) x e g h =
        let many : length m ≡ length r.versions = let z = run_length body_words by (at + 4) bs (b ∷ m) e in omega arith in
        let theirs = rule-parts n (again r (b ∷ m)) g in
        let heads : head (again r (b ∷ m)) ≡ head r = ap (λ (y : ℕ). word_of 23 r.citing ∷ word_of 24 r.origin ∷ word_of 25 r.entity ∷ word_of 26 (suc y) ∷ []) many in
        let is : rule_words n (again r (b ∷ m)) ≡ head r ++ run_words body_words (b ∷ m) = theirs.words ∙ ap (λ (l : List ℕ). l ++ run_words body_words (b ∷ m)) heads in
        record {
          state = h.state;
          is = h.is;
          stands = h.stands ∙ append_assoc before (head r) (run_words body_words (b ∷ m) ++ after) ∙ ap (λ (l : List ℕ). before ++ l) (sym (append_assoc (head r) (run_words body_words (b ∷ m)) after)) ∙ ap (λ (l : List ℕ). before ++ (l ++ after)) (sym is);
          long = ap length is ∙ length-append (head r) (run_words body_words (b ∷ m)) ∙ (let y = h.long in omega (arith, ap length its.words, length-append (head r) (run_words body_words bs)));
          same = h.same;
          keeps = tt;
        }

    rule-there : RanBy Free (rule_words n) before after (length (rule_words n r)) (length s.results) (resolve_rule p at r) (turn_notes K ws i (rule_notes i at r) s)
    rule-there =
        rw (notes_on, rule_run (cites p r.citing r.origin) at r)
        (rule_ran (run_by body_words by (at + 4) bs) (turn_notes K ws (suc i) inner inside_it) refl (subst (Good (Fine (rule n))) (rule_run (cites p r.citing r.origin) at r) (rule_good p w at r fine)) bodies_ran)

  pub rule_flat : (r : Rule) → Fine (rule n) r → FlatAt K ws Free 1 (rule_words n) rule_notes (λ at r. resolve_rule p at r) r
  rule_flat r fine front back before after i at s source ahead here stands lowest room keeps = rule-there r fine front back before after i at s source ahead here stands lowest room

  -- ---- relations

  -- a relation of the pack, found by its name
  abbrev pub RelationFine : Relation → Type 0
  RelationFine r = RelationKeeps p r × (find r.name p.relations ≡ some r)

  abbrev with_tree : Relation → Derivation → Tree → Relation
  with_tree r d t = record { name = r.name; origin = r.origin; arity = r.arity; slot_kinds = r.slot_kinds; derivation = some (with_predicate d t) }

  map-map : {A B D : Type 0} (f : B → D) (g : A → B) (o : Outcome A) → map_done f (map_done g o) ≡ map_done (λ a. f (g a)) o
  map-map f g (done a) = refl
  map-map f g (refused r) = refl

  pub its-derivation : (r : Relation) → RelationKeeps p r → Fine (optional_derivation n) r.derivation
  its-derivation r k = tail_derivation n r (kept n k.used r k.fine).tail

  pub name_below : (r : Relation) → RelationKeeps p r → r.name < 16777216
  name_below r k = let x = (kept n k.used r k.fine).below in let y = (parts p w).most in omega arith

  origin-small : (r : Relation) → RelationKeeps p r → r.origin < 16777216
  unfolding relation_tail Fine
  origin-small r k = (kept n k.used r k.fine).tail.0.0

  module _ (r : Relation) (fine : RelationFine r) (d : Derivation) (e : r.derivation ≡ some d) (front back before after : List ℕ) (i at : ℕ) (s : Work) (source : ws ≡ front ++ (relation_words n r ++ back)) (ahead : length front ≡ at) (here : length before ≡ at)
      (stands : s.words ≡ before ++ (relation_words n r ++ after)) (lowest : 1 ≤ i) (room : i + length (derived_notes i at r (some d)) ≤ length s.results) where
    abbrev kinds : Option (List ℕ)
    kinds = kinds_of p.relations r.name

    abbrev entity : ℕ
    entity = kind_or_zero kinds d.related

    abbrev in_relation : Root
    in_relation = record { name = r.name; origin = r.origin; member = membership (kind_at kinds d.current) (kind_at kinds d.related) }

    predicate-fine : Fine (tree n 32 judgment) d.predicate
    predicate-fine = predicate_kept n r.derivation d e (its-derivation r fine.0)

    abbrev first : List ℕ
    first = lead n r d

    is_lead : relation_words n r ≡ first ++ tree_words d.predicate
    is_lead = lead_words n r d e predicate-fine

    begins : (rest : List ℕ) × (ws ≡ front ++ (word_of 6 r.name ∷ word_of 7 r.origin ∷ rest))
    begins = (_, source ∙ ap (λ (l : List ℕ). front ++ (l ++ back)) is_lead)

    name-small : r.name < 16777216
    name-small = name_below r fine.0

    relation-is : kind_here ws at ≡ 6
    relation-is = kind-is ws front (word_of 7 r.origin ∷ begins.0) 6 r.name at begins.1 ahead name-small

    relation-name : value_in ws at ≡ r.name
    relation-name = value-is ws front (word_of 7 r.origin ∷ begins.0) 6 r.name at begins.1 ahead name-small

    relation-origin : value_in ws (at + 1) ≡ r.origin
    relation-origin =
        let one : List ℕ = word_of 6 r.name ∷ [] in
        value-is ws (front ++ one) begins.0 7 r.origin (at + 1) (begins.1 ∙ sym (append_assoc front one (word_of 7 r.origin ∷ begins.0))) (length-append front one ∙ omega arith) (origin-small r fine.0)

    its-derived : (tables p.relations).derived r.name ≡ some (record { current = d.current; related = d.related; kinds = kinds })
    unfolding tables
    its-derived = rw (fine.1, e) refl

    abbrev inside-relation : Work
    inside-relation = work s.words (set s.results i entity) in_relation

    relation-opened : open_root K ws i at s ≡ inside-relation
    unfolding open_root
    relation-opened = rw (relation-is, relation-name, its-derived) (λ j. work s.words (set s.results i entity) (record { name = r.name; origin = relation-origin j; member = in_relation.member }))

    abbrev within-relation : List Note
    within-relation = notes_of (suc i) i false (at + predicate_place r d) d.predicate

    relation_on : turn_notes K ws i (derived_notes i at r (some d)) s ≡ turn_notes K ws (suc i) within-relation inside-relation
    unfolding turn_notes turn_note
    relation_on = ap (turn_notes K ws (suc i) within-relation) relation-opened

    abbrev turned_tree : ℕ → Outcome Tree
    turned_tree x = resolve_tree (citing K in_relation) entity in_relation.member (at + x) d.predicate

    all_good : (x : ℕ) → Good (λ t. relation_words n (with_tree r d t) ≡ first ++ tree_words t) (turned_tree x)
    all_good x = go (turned_tree x) (tree_good (citing K in_relation) (tables_fit p w) n d.predicate 32 judgment entity in_relation.member (at + x) predicate-fine)
      where
        go : (o : Outcome Tree) → Good (Fine (tree n 32 judgment)) o → Good (λ t. relation_words n (with_tree r d t) ≡ first ++ tree_words t) o
        go (done t) g = lead_words n (with_tree r d t) (with_predicate d t) refl g
        go (refused y) g = tt

    predicate_ran : RanBy (InRoot in_relation i entity) (relation_words n) before after (length (relation_words n r)) (length s.results) (map_done (with_tree r d) (turned_tree (predicate_place r d))) (turn_notes K ws (suc i) within-relation inside-relation)
    predicate_ran =
        let same : length (set s.results i entity) ≡ length s.results = length-set s.results i entity in
        let long : length first ≡ predicate_place r d = lead_long n r d in
        let free : suc i + length (notes_of (suc i) i false (at + length first) d.predicate) ≤ length (set s.results i entity) =
        subst (λ (x : ℕ). suc i + length (notes_of (suc i) i false (at + x) d.predicate) ≤ length (set s.results i entity)) (sym long) (let q = room in omega arith) in
        let h = root_ran K in_relation ws i entity lowest (relation_words n) (with_tree r d) d.predicate first r is_lead (sound d.predicate n 32 judgment predicate-fine) front back before after (suc i) at inside-relation source ahead here stands
        (omega arith) free (refl, get_or-set_same s.results i entity 0 (let q = room in omega arith)) (all_good (length first)) in
        subst (λ (y : ℕ). RanBy (InRoot in_relation i entity) (relation_words n) before after (length (relation_words n r)) y (map_done (with_tree r d) (turned_tree (predicate_place r d))) (turn_notes K ws (suc i) within-relation inside-relation)) same
        (subst (λ (x : ℕ). RanBy (InRoot in_relation i entity) (relation_words n) before after (length (relation_words n r)) (length (set s.results i entity)) (map_done (with_tree r d) (turned_tree x)) (turn_notes K ws (suc i) (notes_of (suc i) i false (at + x) d.predicate) inside-relation)) long h)

    resolves : resolve_relation p at r ≡ map_done (with_tree r d) (turned_tree (predicate_place r d))
    unfolding resolve_relation predicate_by
    resolves = rw e (map-map _ _ (turned_tree (predicate_place r d)))

    relation-there : RanBy Free (relation_words n) before after (length (relation_words n r)) (length s.results) (resolve_relation p at r) (turn_notes K ws i (derived_notes i at r (some d)) s)
    relation-there =
        rw (relation_on, resolves)
        (ran_more (InRoot in_relation i entity) Free (λ x h. tt) (relation_words n) before after (length (relation_words n r)) (length s.results) (map_done (with_tree r d) (turned_tree (predicate_place r d))) (turn_notes K ws (suc i) within-relation inside-relation) predicate_ran)

  -- without a derivation it stays as it is
  plain-relation : (r : Relation) → r.derivation ≡ none → (at : ℕ) → resolve_relation p at r ≡ done r
  unfolding resolve_relation
  plain-relation r e at =
      ap (λ (o : Option Derivation). map_done (λ x. record { name = r.name; origin = r.origin; arity = r.arity; slot_kinds = r.slot_kinds; derivation = x }) (resolve_derivation p at r o)) e
      ∙ ap (λ (o : Option Derivation). done (record { name = r.name; origin = r.origin; arity = r.arity; slot_kinds = r.slot_kinds; derivation = o })) (sym e)

  relation_case : (r : Relation) → RelationFine r → (o : Option Derivation) → r.derivation ≡ o → (front back before after : List ℕ) (i at : ℕ) (s : Work) → ws ≡ front ++ (relation_words n r ++ back) → length front ≡ at → length before ≡ at
      → s.words ≡ before ++ (relation_words n r ++ after) → 1 ≤ i → i + length (derived_notes i at r o) ≤ length s.results
      → RanBy Free (relation_words n) before after (length (relation_words n r)) (length s.results) (resolve_relation p at r) (turn_notes K ws i (derived_notes i at r o) s)
  unfolding turn_notes
  relation_case r fine none e front back before after i at s source ahead here stands lowest room =
      rw (plain-relation r e at) (record { state = s; is = refl; stands = stands; long = refl; same = refl; keeps = tt })
  relation_case r fine (some d) e front back before after i at s source ahead here stands lowest room = relation-there r fine d e front back before after i at s source ahead here stands lowest room

  pub relation_flat : (r : Relation) → RelationFine r → FlatAt K ws Free 1 (relation_words n) relation_notes (λ at r. resolve_relation p at r) r
  unfolding relation_notes
  relation_flat r fine front back before after i at s source ahead here stands lowest room keeps = relation_case r fine r.derivation refl front back before after i at s source ahead here stands lowest room
