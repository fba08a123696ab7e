-- The notes of a pack stand in its words.
use Prim.Native.Nat.{ℕ, zero, suc, ◌+◌, ◌<◌, ◌≤◌}
use native.Mathlib.Omega.{arith}
use mathlib.Core.Path.{◌≡◌, refl, ap, sym, ◌∙◌, subst}
use mathlib.Core.List.{List, [], ◌∷◌, ◌++◌, append_assoc}
use mathlib.Core.Bool.{Bool, true, false, ◌||◌}
use mathlib.Core.Option.{Option, none, some}
use lib.ListN.{length, length-append}
use Rattle.pack.proofs.FormLaws.{only-kind}
use Rattle.definitions.specs.declared.table.Follows.{Follows}
use Rattle.definitions.specs.Table.{pick, word_of, judgment, entry_of, fields_of, children_of}
use Rattle.definitions.specs.Form.{FineEach, allowed_here, Fine, words_by}
use Rattle.definitions.specs.Tree.{Tree, Forest, node, more, last_field, root, tree, Fields, field_words, tree_words, forest_words, size}
use Rattle.definitions.specs.TreeRows.{of_forest}
use Rattle.definitions.specs.Tree as trees
use Rattle.definitions.specs.Records.{Derivation, Relation, Body, Pack}
use Rattle.definitions.specs.Pack.{WellFormed, words, body, blocks}
use Rattle.definitions.specs.Records as records
use Rattle.definitions.specs.Pack as pack
use Rattle.pack.proofs.EachFollows.{where_true}
use Rattle.pack.proofs.PackLaws.{words-length}
use Rattle.definitions.specs.Places.{relation_words, first_relation}
use Rattle.chains.proofs.PackParts.{parts}
use Rattle.definitions.specs.Resolving.{rule_words, predicate_place, first_rule}
use Rattle.directions.proofs.KeepsForm.{FieldsFine, open_node, no_level, head_fine}
use Rattle.directions.proofs.TreeWords.{fields-count, size_is, fields-length}
use Rattle.directions.specs.RecordRuns.{run_words, EachKeeps, body_words, RelationKeeps}
use Rattle.directions.proofs.RuleLaws.{bodies_of, head, rule-parts}
use Rattle.directions.proofs.RelationLaws.{lead, lead_words, lead_long, predicate_kept}
use Rattle.directions.proofs.TurnedPack.{front, pack-words, front_long, front22, pack_words_22, front22_long, rules_keep, relations_keep}
use Rattle.turning.specs.Notes.{Note, note, look_by, look_of, noted, within, notes_of, notes_in, notes_run, body_notes, rule_notes, derived_notes, relation_notes, relations_noted, rules_noted, notes_of_pack}
use Rattle.turning.specs.Turns.{kind_here}
use Rattle.turning.specs.TurnPromises.{NodeStands, RootStands, Stands, Placed}
use Rattle.turning.proofs.FlatLaws.{kind-there}
use Rattle.turning.proofs.RecordFlat.{kind-is, its-derivation}

-- ---- kinds with slots: their first fields are the slots

abbrev SlotFields : Fields → Type 0
SlotFields [] = ⊥
SlotFields (a ∷ []) = ⊥
SlotFields (a ∷ b ∷ fs) = (a.0 ≡ 80) × (b.0 ≡ 81)

two_slots : (n : ℕ) (rest : List (List ℕ)) (fs : Fields) → FieldsFine n ((80 ∷ []) ∷ (81 ∷ []) ∷ rest) fs → SlotFields fs
unfolding Fine
two_slots n rest [] h = absurd h
two_slots n rest (a ∷ []) h = absurd h.1
two_slots n rest (a ∷ b ∷ fs) h = (only-kind a.0 80 h.0.0, only-kind b.0 81 h.1.0.0)

slot_fields : (n : ℕ) (w : Follows) (fs : Fields) → (look_by w).slots ≡ true → FieldsFine n (fields_of w) fs → SlotFields fs
unfolding look_by fields_of
slot_fields n w fs = where_true (λ w. (look_by w).slots) (λ w. FieldsFine n (fields_of w) fs → SlotFields fs) (two_slots n ((86 ∷ []) ∷ (83 ∷ []) ∷ []) fs, (two_slots n ((82 ∷ 84 ∷ []) ∷ []) fs, (two_slots n [] fs, tt))) w

values_small : (n : ℕ) (kss : List (List ℕ)) (a b : ℕ × ℕ) (fs : Fields) → FieldsFine n kss (a ∷ b ∷ fs) → (a.1 < 16777216) × (b.1 < 16777216)
unfolding Fine
values_small n [] a b fs h = absurd h
values_small n (k ∷ []) a b fs h = absurd h.1
values_small n (k ∷ j ∷ kss) a b fs h = (h.0.1.0, h.1.0.1.0)

placed-append : (ws : List ℕ) (ns ms : List Note) (i j : ℕ) → j ≡ i + length ns → Placed ws i ns → Placed ws j ms → Placed ws i (ns ++ ms)
placed-append ws [] ms i j e h k = let p : j ≡ i = omega arith in subst (λ (x : ℕ). Placed ws x ms) p k
placed-append ws (n ∷ ns) ms i j e h k = (h.0, placed-append ws ns ms (suc i) j (omega arith) h.1 k)

module _ (ws : List ℕ) (short : length ws ≤ 8192) (n : ℕ) (most : n ≤ 4096) where
  -- ---- trees

  module _ (k v : ℕ) (fs : Fields) (f : Forest) (front back : List ℕ) (at : ℕ) (stands : ws ≡ front ++ (tree_words (node k v fs f) ++ back)) (here : length front ≡ at) (more-words : 0 < length back) (small : v < 16777216) where
    apart : ws ≡ front ++ (word_of k v ∷ (field_words fs ++ (forest_words f ++ back)))
    unfolding tree_words
    apart = stands ∙ simp append_assoc

    kind : kind_here ws at ≡ k
    kind = ap (λ (l : List ℕ). kind_here l at) apart ∙ kind-there front (forest_words f ++ back) k v fs at here small

    inside : at + 1 + length fs < length ws
    inside =
        let a = ap length apart ∙ length-append front (word_of k v ∷ (field_words fs ++ (forest_words f ++ back))) in
        let b = length-append (field_words fs) (forest_words f ++ back) in
        let c = length-append (forest_words f) back in
        omega (arith, fields-length fs)

    slots_at : (gs : Fields) → fs ≡ gs → (kss : List (List ℕ)) → FieldsFine n kss gs → SlotFields gs → (kind_here ws (at + 1) ≡ 80) × (kind_here ws (at + 2) ≡ 81)
    slots_at [] e kss h s = absurd s
    slots_at (a ∷ []) e kss h s = absurd s
    slots_at (a ∷ b ∷ gs) e kss h s =
        let tail : List ℕ = field_words gs ++ (forest_words f ++ back) in
        let opened : ws ≡ front ++ (word_of k v ∷ word_of a.0 a.1 ∷ word_of b.0 b.1 ∷ tail) = apart ∙ ap (λ (x : Fields). front ++ (word_of k v ∷ (field_words x ++ (forest_words f ++ back)))) e in
        let one : List ℕ = word_of k v ∷ [] in
        let two : List ℕ = word_of k v ∷ word_of a.0 a.1 ∷ [] in
        let w = values_small n kss a b gs h in (
          kind-is ws (front ++ one) (word_of b.0 b.1 ∷ tail) a.0 a.1 (at + 1) (opened ∙ sym (append_assoc front one (word_of a.0 a.1 ∷ word_of b.0 b.1 ∷ tail))) (length-append front one ∙ omega arith) w.0 ∙ s.0,
          kind-is ws (front ++ two) tail b.0 b.1 (at + 2) (opened ∙ sym (append_assoc front two (word_of b.0 b.1 ∷ tail))) (length-append front two ∙ omega arith) w.1 ∙ s.1,
        )

    it_stands : allowed_here n k v ≡ true → FieldsFine n (fields_of (entry_of k).follows) fs → NodeStands ws at
    unfolding allowed_here
    it_stands ok fine =
        let many = fields-count n (fields_of (entry_of k).follows) fs fine in
        record {
          fields = rw kind (let i = inside in omega arith);
          slots = λ e. let e' : (look_of k).slots ≡ true = sym (ap (λ (x : ℕ). (look_of x).slots) kind) ∙ e in slots_at fs refl (fields_of (entry_of k).follows) fine (slot_fields n (entry_of k).follows fs e' fine);
          short = short;
        }

    near : at + 1 < 8192
    near = let i = inside in omega arith

    children : ws ≡ (front ++ (word_of k v ∷ field_words fs)) ++ (forest_words f ++ back)
    children = apart ∙ sym (append_assoc front (word_of k v ∷ field_words fs) (forest_words f ++ back))

    after_head : length (front ++ (word_of k v ∷ field_words fs)) ≡ at + 1 + length fs
    after_head = length-append front (word_of k v ∷ field_words fs) ∙ omega (arith, fields-length fs)

  picked : (b : Bool) (x : Note) (ns ms : List Note) (i : ℕ) → Stands ws i x → Placed ws (suc i) ns → Placed ws i ms → Placed ws i (pick b (x ∷ ns) ms)
  picked true x ns ms i s h k = (s, h)
  picked false x ns ms i s h k = k

  within-below : (k i inside : ℕ) → inside < i → 1 ≤ inside → (within k i inside < suc i) × (1 ≤ within k i inside)
  within-below k i inside l p = go (look_of k).opens
    where
      go : (b : Bool) → (pick b i inside < suc i) × (1 ≤ pick b i inside)
      go true = (omega arith, omega arith)
      go false = (omega arith, p)

  longer : (us back : List ℕ) → 0 < length back → 0 < length (us ++ back)
  longer us back h = omega (arith, length-append us back)

  mutual
    unfolding notes_of tree_words

    pub tree_placed : (t : Tree) (d sort : ℕ) → Fine (tree n d sort) t → (front back : List ℕ) (i inside at : ℕ) (lost : Bool) → ws ≡ front ++ (tree_words t ++ back) → length front ≡ at → 0 < length back → inside < i → 1 ≤ inside → Placed ws i (notes_of i inside lost at t)
    tree_placed (node k v fs f) zero sort h front back i inside at lost s e b l p = absurd (no_level n sort k v fs f h)
    tree_placed (node k v fs f) (suc d) sort h front back i inside at lost s e b l p =
        let o = open_node n d sort k v fs f h in
        let w = head_fine n (suc d) sort k v o.0 in
        let q = children k v fs f front back at s e b w.0 in
        let r = after_head k v fs f front back at s e b w.0 in
        let x = within-below k i inside l p in
        let first = lost || (look_of k).first in
        let rest = lost || (look_of k).rest in
        picked (noted k) (note at inside lost) (notes_in (suc i) (within k i inside) first rest (at + 1 + length fs) f) (notes_in i inside first rest (at + 1 + length fs) f) i
        (record {
          within = l;
          near = near k v fs f front back at s e b w.0;
          root = λ z. absurd (omega arith);
          node = λ z. it_stands k v fs f front back at s e b w.0 w.1.1 o.1.0;
        })
        (row_placed f d (children_of (entry_of k).follows v (last_field fs)) o.1.1 (front ++ (word_of k v ∷ field_words fs)) back (suc i) (within k i inside) (at + 1 + length fs) first rest q r b x.0 x.1)
        (row_placed f d (children_of (entry_of k).follows v (last_field fs)) o.1.1 (front ++ (word_of k v ∷ field_words fs)) back i inside (at + 1 + length fs) first rest q r b l p)

    row_placed : (f : Forest) (d : ℕ) (sorts : List ℕ) → FineEach (λ s t. Fine (tree n d s) t) sorts (of_forest f) → (front back : List ℕ) (i inside at : ℕ) (first rest : Bool) → ws ≡ front ++ (forest_words f ++ back) → length front ≡ at → 0 < length back → inside < i → 1 ≤ inside
        → Placed ws i (notes_in i inside first rest at f)
    row_placed trees.none d sorts h front back i inside at first rest s e b l p = tt
    row_placed (more t f) d [] h front back i inside at first rest s e b l p = absurd h
    row_placed (more t f) d (x ∷ sorts) h front back i inside at first rest s e b l p =
        let q = s ∙ ap (λ (y : List ℕ). front ++ y) (append_assoc (tree_words t) (forest_words f) back) in
        let mine = notes_of i inside first at t in
        let r : length (front ++ tree_words t) ≡ at + size t = length-append front (tree_words t) ∙ omega (arith, size_is t) in
        placed-append ws mine (notes_in (i + length mine) inside rest rest (at + size t) f) i (i + length mine) refl (tree_placed t d x h.0 front (forest_words f ++ back) i inside at first q e (longer (forest_words f) back b) l p)
        (row_placed f d sorts h.1 (front ++ tree_words t) back (i + length mine) inside (at + size t) rest rest (q ∙ sym (append_assoc front (tree_words t) (forest_words f ++ back))) r b (omega arith) p)

  -- ---- records

  abbrev PlacedAt : {A : Type 0} → ℕ → (A → List ℕ) → (ℕ → ℕ → A → List Note) → A → Type 0
  PlacedAt low W N a = (front back : List ℕ) (i at : ℕ) → ws ≡ front ++ (W a ++ back) → length front ≡ at → 0 < length back → low ≤ i → Placed ws i (N i at a)

  run_placed : {A : Type 0} (low : ℕ) (W : A → List ℕ) (N : ℕ → ℕ → A → List Note) (Keeps : A → Type 0) → ((a : A) → Keeps a → PlacedAt low W N a) → (l : List A) → EachKeeps Keeps l → PlacedAt low (run_words W) (notes_run W N) l
  unfolding notes_run
  run_placed low W N Keeps each [] h front back i at s e b low-i = tt
  run_placed low W N Keeps each (a ∷ l) h front back i at s e b low-i =
      let q = s ∙ ap (λ (y : List ℕ). front ++ y) (append_assoc (W a) (run_words W l) back) in
      let r : length (front ++ W a) ≡ at + length (W a) = length-append front (W a) ∙ omega arith in
      placed-append ws (N i at a) (notes_run W N (i + length (N i at a)) (at + length (W a)) l) i (i + length (N i at a)) refl (each a h.0 front (run_words W l ++ back) i at q e (longer (run_words W l) back b) low-i)
      (run_placed low W N Keeps each l h.1 (front ++ W a) back (i + length (N i at a)) (at + length (W a)) (q ∙ sym (append_assoc front (W a) (run_words W l ++ back))) r b (omega arith))

  body-placed : (inside : ℕ) → 1 ≤ inside → (b : Body) → Fine (body n) b → PlacedAt (suc inside) body_words (body_notes inside) b
  unfolding body root Fine
  body-placed inside p b f front back i at s e more-words l =
      let one : List ℕ = word_of 27 b.sort ∷ [] in
      tree_placed b.tree 32 b.sort f.1 (front ++ one) back i inside (at + 1) false (s ∙ sym (append_assoc front one (tree_words b.tree ++ back))) (length-append front one ∙ omega arith) more-words (omega arith) p

  root-placed : (i at : ℕ) → 1 ≤ i → RootStands ws at → Stands ws i (note at 0 false)
  root-placed i at l s = record { within = omega arith; near = omega arith; root = λ e. s; node = λ e. absurd (e refl) }

  rule-placed : (r : records.Rule) → Fine (pack.rule n) r → PlacedAt 1 (rule_words n) rule_notes r
  unfolding rule_notes
  rule-placed r fine front back i at s e b l =
      let its = rule-parts n r fine in
      let tail : List ℕ = run_words body_words (bodies_of r) ++ back in
      let headed : ws ≡ front ++ (head r ++ tail) = s ∙ ap (λ (x : List ℕ). front ++ (x ++ back)) its.words ∙ ap (λ (x : List ℕ). front ++ x) (append_assoc (head r) (run_words body_words (bodies_of r)) back) in
      let long = ap length headed ∙ length-append front (head r ++ tail) in (
        root-placed i at l (let x = length-append (head r) tail in omega arith),
        run_placed (suc i) body_words (body_notes i) (λ b. Fine (body n) b) (λ b f. body-placed i l b f) (bodies_of r) its.bodies (front ++ head r) back (suc i) (at + 4) (headed ∙ sym (append_assoc front (head r) tail)) (length-append front (head r) ∙ omega arith) b (omega arith),
      )

  module _ (p : Pack) (w : WellFormed p) (names : p.names ≡ n) where
    derived-placed : (r : Relation) → RelationKeeps p r → (o : Option Derivation) → r.derivation ≡ o → (front back : List ℕ) (i at : ℕ) → ws ≡ front ++ (relation_words p.names r ++ back) → length front ≡ at → 0 < length back → 1 ≤ i → Placed ws i (derived_notes i at r o)
    derived-placed r k none e front back i at s q b l = tt
    derived-placed r k (some d) e front back i at s q b l =
        let fine : Fine (tree p.names 32 judgment) d.predicate = predicate_kept p.names r.derivation d e (its-derivation p w ws r k) in
        let T : List ℕ = tree_words d.predicate ++ back in
        let L : List ℕ = lead p.names r d in
        let opened : ws ≡ front ++ (L ++ T) = s ∙ ap (λ (x : List ℕ). front ++ (x ++ back)) (lead_words p.names r d e fine) ∙ ap (λ (x : List ℕ). front ++ x) (append_assoc L (tree_words d.predicate) back) in
        let long = ap length opened ∙ length-append front (L ++ T) in (
          root-placed i at l (let x = length-append L T in omega (arith, lead_long p.names r d)),
          tree_placed d.predicate 32 judgment (subst (λ (x : ℕ). Fine (tree x 32 judgment) d.predicate) names fine) (front ++ L) back (suc i) i (at + predicate_place r d) false (opened ∙ sym (append_assoc front L T)) (length-append front L ∙ omega (arith, lead_long p.names r d)) b (omega arith) l,
        )

    relation-placed : (r : Relation) → RelationKeeps p r → PlacedAt 1 (relation_words p.names) relation_notes r
    unfolding relation_notes
    relation-placed r k front back i at s q b l = derived-placed r k r.derivation refl front back i at s q b l

-- ---- a pack

module _ (p : Pack) (w : WellFormed p) where
  few_words : length (words p) ≤ 8192
  few_words = let m = w.most in omega (arith, words-length p)

  some_blocks : 0 < length (words_by (blocks p.names) p.blocks)
  unfolding blocks words_by
  some_blocks = omega arith

  relations-placed : Placed (words p) 1 (relations_noted p)
  unfolding relations_noted
  relations-placed =
      run_placed (words p) few_words p.names (parts p w).most 1 (relation_words p.names) relation_notes (RelationKeeps p) (λ r k. relation-placed (words p) few_words p.names (parts p w).most p w refl r k) p.relations (relations_keep p w).all (front p) _ 1 (first_relation p)
      (pack-words p) (front_long p) (omega arith) (omega arith)

  rules-placed : Placed (words p) (1 + length (relations_noted p)) (rules_noted p)
  unfolding rules_noted
  rules-placed =
      run_placed (words p) few_words p.names (parts p w).most 1 (rule_words p.names) rule_notes (Fine (pack.rule p.names)) (λ r f. rule-placed (words p) few_words p.names (parts p w).most r f) p.rules (rules_keep p w).all (front22 p) (words_by (blocks p.names) p.blocks) (1 + length (relations_noted p)) (first_rule p)
      (pack_words_22 p) (front22_long p) some_blocks (omega arith)

  pub both_placed : Placed (words p) 1 (relations_noted p) × Placed (words p) (1 + length (relations_noted p)) (rules_noted p)
  both_placed = (relations-placed, rules-placed)

  pub all_placed : Placed (words p) 1 (notes_of_pack p)
  all_placed = placed-append (words p) (relations_noted p) (rules_noted p) 1 (1 + length (relations_noted p)) refl relations-placed rules-placed
