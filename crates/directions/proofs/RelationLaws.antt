-- A relation: its words, and how many they are when it is resolved.
use Prim.Native.Nat.{ℕ, suc, ◌+◌, ◌<◌}
use native.Mathlib.Omega.{arith}
use mathlib.Core.Path.{◌≡◌, refl, ap, sym, ◌∙◌}
use mathlib.Core.List.{List, [], ◌∷◌, ◌++◌, append-nil, append_assoc}
use mathlib.Core.Option.{Option, none, some}
use lib.ListN.{length, length-append, length-map}
use Rattle.records.proofs.DirectoryLaws.{path-words}
use Rattle.definitions.specs.Table.{word_of, judgment}
use Rattle.definitions.specs.Form.{count, items, words_by, Fine}
use Rattle.definitions.specs.Tree.{Tree, root, tree, tree_words, size}
use Rattle.definitions.specs.Records.{Derivation, Relation, Pack}
use Rattle.definitions.specs.Pack.{WellFormed, new_name, name_list, optional_derivation, relation_tail, relation, path, derivation, member}
use Rattle.definitions.specs.Places.{relation_words}
use Rattle.chains.proofs.ListAt.{name_words, list-words, early, late, derived-fine, option-words}
use Rattle.definitions.specs.Direction.{membership, or_else}
use Rattle.definitions.specs.Answers.{Outcome, done, refused, map_done}
use Rattle.definitions.specs.ResolvingTrees.{Citing, resolve_tree}
use Rattle.definitions.specs.Resolving.{cites, predicate_place, with_predicate, predicate_by, resolve_predicate, resolve_derivation, resolve_relation}
use Rattle.directions.specs.RecordRuns.{places_from, RelationKeeps}
use Rattle.directions.proofs.KeepsForm.{Good, tree_good}
use Rattle.directions.proofs.RefusalBounds.{MemberSmall}
use Rattle.directions.proofs.TreeWords.{size_is, size_kept, tree-words}
use Rattle.directions.proofs.ResolvedFine.{tail_derivation, tables_fit}

-- ---- its words

-- those of a derived relation up to its predicate
abbrev pub lead : ℕ → Relation → Derivation → List ℕ
lead n r d =
    word_of 6 r.name ∷ word_of 7 r.origin ∷ word_of 8 r.arity ∷ word_of 9 (length r.slot_kinds)
    ∷ (name_words r.slot_kinds ++ (word_of 11 1 ∷ (early n d ++ (word_of 21 (length d.slot_entities) ∷ name_words d.slot_entities))))

gather : (A B C T : List ℕ) (w : ℕ) → A ++ (B ++ (w ∷ (C ++ T))) ≡ (A ++ (B ++ (w ∷ C))) ++ T
gather A B C T w = simp append_assoc

late_words : (n : ℕ) (d : Derivation) → Fine (tree n 32 judgment) d.predicate → late n d ≡ tree_words d.predicate
unfolding root
late_words n d f = append-nil (words_by (tree n 32 judgment) d.predicate) ∙ tree-words d.predicate n 32 judgment f

pub lead_words : (n : ℕ) (r : Relation) (d : Derivation) → r.derivation ≡ some d → Fine (tree n 32 judgment) d.predicate → relation_words n r ≡ lead n r d ++ tree_words d.predicate
unfolding relation relation_tail new_name name_list words_by count items
lead_words n r d e f =
    let four : List ℕ → List ℕ = λ (l : List ℕ). word_of 6 r.name ∷ word_of 7 r.origin ∷ word_of 8 r.arity ∷ word_of 9 (length r.slot_kinds) ∷ l in
    let ks : List ℕ = name_words r.slot_kinds in
    let es : List ℕ = name_words d.slot_entities in
    ap (λ (l : List ℕ). four (l ++ words_by (optional_derivation n) r.derivation)) (list-words n r.slot_kinds)
    ∙ ap (λ (l : List ℕ). four (ks ++ l)) (option-words n r.derivation d e)
    ∙ ap (λ (l : List ℕ). four (ks ++ (word_of 11 1 ∷ (early n d ++ (word_of 21 (length d.slot_entities) ∷ (es ++ l)))))) (late_words n d f)
    ∙ ap four (gather ks (word_of 11 1 ∷ early n d) es (tree_words d.predicate) (word_of 21 (length d.slot_entities)))

pub lead_long : (n : ℕ) (r : Relation) (d : Derivation) → length (lead n r d) ≡ predicate_place r d
lead_long n r d =
    let ks : List ℕ = name_words r.slot_kinds in
    let es : List ℕ = name_words d.slot_entities in
    let S : List ℕ = word_of 17 d.current ∷ word_of 18 d.related ∷ word_of 19 d.entity ∷ word_of 20 d.member ∷ [] in
    let a = length-append ks (word_of 11 1 ∷ (early n d ++ (word_of 21 (length d.slot_entities) ∷ es))) in
    let b = length-append (early n d) (word_of 21 (length d.slot_entities) ∷ es) in
    let c = length-append (words_by (path n) d.path) S in
    omega (arith, path-words n d.path, length-map r.slot_kinds (word_of 10), length-map d.slot_entities (word_of 10))

-- ---- its membership

pub both_small : (most : ℕ) (a b : Option ℕ) → or_else a 0 < most → or_else b 0 < most → MemberSmall most (membership a b)
both_small most none b h k = tt
both_small most (some c) none h k = tt
both_small most (some c) (some r) h k = (h, k)

-- ---- a run of relations

tail_kept : (p : Pack) (r : Relation) → RelationKeeps p r → Fine (relation_tail p.names) (r.origin, (r.arity, (r.slot_kinds, r.derivation)))
unfolding relation Fine
tail_kept p r h = h.fine.1

pub predicate_kept : (n : ℕ) (o : Option Derivation) (d : Derivation) → o ≡ some d → Fine (optional_derivation n) o → Fine (tree n 32 judgment) d.predicate
unfolding derivation member root Fine
predicate_kept n o d e f = (derived-fine n o d e f).1.1.1.1

-- a resolved predicate keeps to its form and has as many words
predicate_sized : (p : Pack) (w : WellFormed p) (at : ℕ) (r : Relation) (d : Derivation) → Fine (tree p.names 32 judgment) d.predicate
    → Good (λ t. (Fine (tree p.names 32 judgment) t) × (length (tree_words t) ≡ length (tree_words d.predicate))) (resolve_predicate p at r d)
unfolding predicate_by
predicate_sized p w at r d f = go (resolve_tree C _ _ (at + predicate_place r d) d.predicate) (tree_good C (tables_fit p w) p.names d.predicate 32 judgment _ _ (at + predicate_place r d) f) (size_kept C d.predicate _ _ (at + predicate_place r d))
  where
    C : Citing
    C = cites p r.name r.origin

    go : (o : Outcome Tree) → Good (Fine (tree p.names 32 judgment)) o → Good (λ t. size t ≡ size d.predicate) o
        → Good (λ t. (Fine (tree p.names 32 judgment) t) × (length (tree_words t) ≡ length (tree_words d.predicate))) o
    go (done t) g k = (g, omega (arith, size_is t, size_is d.predicate, k))
    go (refused x) g k = tt

pub relation-long : (p : Pack) → WellFormed p → (at : ℕ) (a b : Relation) → RelationKeeps p a → resolve_relation p at a ≡ done b → length (relation_words p.names b) ≡ length (relation_words p.names a)
unfolding resolve_relation
relation-long p w at a b keeps e = go a.derivation refl (tail_derivation p.names a (tail_kept p a keeps)) e
  where
    more : (d : Derivation) → a.derivation ≡ some d → Fine (tree p.names 32 judgment) d.predicate → (o : Outcome Tree) → resolve_predicate p at a d ≡ o
        → map_done (λ x. record { name = a.name; origin = a.origin; arity = a.arity; slot_kinds = a.slot_kinds; derivation = x }) (map_done (λ t. some (with_predicate d t)) o) ≡ done b
        → Good (λ t. (Fine (tree p.names 32 judgment) t) × (length (tree_words t) ≡ length (tree_words d.predicate))) o → length (relation_words p.names b) ≡ length (relation_words p.names a)
    more d q f (refused x) s e g = let z : ◌≡◌ {A = ℕ} 0 1 = cc in absurd (omega arith)
    more d q f (done t) s e g =
        let same : record { name = a.name; origin = a.origin; arity = a.arity; slot_kinds = a.slot_kinds; derivation = some (with_predicate d t) } ≡ b = cc in
        let x = lead_words p.names a d q f in
        let y = lead_words p.names (record { name = a.name; origin = a.origin; arity = a.arity; slot_kinds = a.slot_kinds; derivation = some (with_predicate d t) }) (with_predicate d t) refl g.0 in
        ap (λ (r : Relation). length (relation_words p.names r)) (sym same) ∙ ap length y
        ∙ omega (arith, ap length x, length-append (lead p.names a d) (tree_words t), length-append (lead p.names a d) (tree_words d.predicate), g.1)

    go : (o : Option Derivation) → a.derivation ≡ o → Fine (optional_derivation p.names) o
        → map_done (λ x. record { name = a.name; origin = a.origin; arity = a.arity; slot_kinds = a.slot_kinds; derivation = x }) (resolve_derivation p at a o) ≡ done b → length (relation_words p.names b) ≡ length (relation_words p.names a)
    go none q f e =
        let same : record { name = a.name; origin = a.origin; arity = a.arity; slot_kinds = a.slot_kinds; derivation = none } ≡ b = cc in
        let it : record { name = a.name; origin = a.origin; arity = a.arity; slot_kinds = a.slot_kinds; derivation = none } ≡ a = ap (λ (o : Option Derivation). record { name = a.name; origin = a.origin; arity = a.arity; slot_kinds = a.slot_kinds; derivation = o }) (sym q) in
        ap (λ (r : Relation). length (relation_words p.names r)) (sym same ∙ it)
    go (some d) q f e = let g = predicate_kept p.names (some d) d refl f in more d q g (resolve_predicate p at a d) refl e (predicate_sized p w at a d g)

-- ---- their places

pub places_many : (n at : ℕ) (l : List Relation) → length (places_from n at l) ≡ length l
unfolding places_from
places_many n at [] = refl
places_many n at (r ∷ l) = ap suc (places_many n (at + length (relation_words n r)) l)
