-- The words of a tree that keeps to its form, without the form; resolving keeps how many they are.
use Prim.Native.Nat.{ℕ, zero, suc, ◌+◌}
use native.Mathlib.Omega.{arith}
use mathlib.Core.Path.{◌≡◌, refl, ap, ◌∙◌}
use mathlib.Core.List.{List, [], ◌∷◌, ◌++◌}
use lib.ListN.{length, length-append}
use Rattle.definitions.specs.declared.table.Follows.{Follows}
use Rattle.definitions.specs.Table.{word_of, entry_of, fields_of, children_of}
use Rattle.definitions.specs.Form.{only, words_each, FineEach, word, words_by, Fine}
use Rattle.definitions.specs.Tree.{Tree, Forest, node, more, last_field, fields, follow, tree, Fields, field_words, tree_words, forest_words, size, sizes}
use Rattle.definitions.specs.TreeRows.{of_forest}
use Rattle.definitions.specs.Direction.{Membership}
use Rattle.definitions.specs.Answers.{map_done}
use Rattle.definitions.specs.ResolvingTrees.{Citing, with_slots, NodeStep, goes, stops, node_step, at_node, resolve_tree, resolve_forest}
use Rattle.directions.proofs.StepWays.{Way, slotless, aggregates, relates, tests, undirected, test_undirected, derived, no_input, way}
use Rattle.directions.proofs.KeepsForm.{Good, map_good, then_good, FieldsFine, open_node, no_level}
use Rattle.definitions.specs.Tree as trees

fields-words : (n : ℕ) (kss : List (List ℕ)) (fs : Fields) → FieldsFine n kss fs → words_each (λ ks a. words_by (word (only ks) n) a) kss fs ≡ field_words fs
unfolding words_by
fields-words n [] [] h = refl
fields-words n [] (f ∷ fs) h = absurd h
fields-words n (ks ∷ kss) [] h = absurd h
fields-words n (ks ∷ kss) (f ∷ fs) h = ap (λ (l : List ℕ). word_of f.0 f.1 ∷ l) (fields-words n kss fs h.1)

pub fields-length : (fs : Fields) → length (field_words fs) ≡ length fs
fields-length [] = refl
fields-length (f ∷ fs) = ap suc (fields-length fs)

pub fields-count : (n : ℕ) (kss : List (List ℕ)) (fs : Fields) → FieldsFine n kss fs → length fs ≡ length kss
fields-count n [] [] h = refl
fields-count n [] (f ∷ fs) h = absurd h
fields-count n (ks ∷ kss) [] h = absurd h
fields-count n (ks ∷ kss) (f ∷ fs) h = ap suc (fields-count n kss fs h.1)

mutual
  unfolding tree_words size

  pub size_is : (t : Tree) → length (tree_words t) ≡ size t
  size_is (node k v fs f) = omega (arith, length-append (field_words fs) (forest_words f), fields-length fs, sizes-are f)

  pub sizes-are : (f : Forest) → length (forest_words f) ≡ sizes f
  sizes-are trees.none = refl
  sizes-are (more t f) = length-append (tree_words t) (forest_words f) ∙ omega (arith, size_is t, sizes-are f)

-- a node's words by its form
node-words : (n d sort k v : ℕ) (fs : Fields) (f : Forest)
    → words_by (tree n (suc d) sort) (node k v fs f)
    ≡ word_of k v ∷ (words_each (λ ks a. words_by (word (only ks) n) a) (fields_of (entry_of k).follows) fs ++ words_each (λ s t. words_by (tree n d s) t) (children_of (entry_of k).follows v (last_field fs)) (of_forest f))
unfolding tree follow fields words_by
node-words n d sort k v fs f = refl

mutual
  unfolding tree_words

  pub tree-words : (t : Tree) (n d sort : ℕ) → Fine (tree n d sort) t → words_by (tree n d sort) t ≡ tree_words t
  tree-words (node k v fs f) n zero sort h = absurd (no_level n sort k v fs f h)
  tree-words (node k v fs f) n (suc d) sort h =
      let o = open_node n d sort k v fs f h in
      let a = fields-words n (fields_of (entry_of k).follows) fs o.1.0 in
      let b = forest-words f n d (children_of (entry_of k).follows v (last_field fs)) o.1.1 in
      node-words n d sort k v fs f ∙ ap (λ (l : List ℕ). word_of k v ∷ (l ++ words_each (λ s t. words_by (tree n d s) t) (children_of (entry_of k).follows v (last_field fs)) (of_forest f))) a
      ∙ ap (λ (l : List ℕ). word_of k v ∷ (field_words fs ++ l)) b

  forest-words : (f : Forest) (n d : ℕ) (sorts : List ℕ) → FineEach (λ s t. Fine (tree n d s) t) sorts (of_forest f) → words_each (λ s t. words_by (tree n d s) t) sorts (of_forest f) ≡ forest_words f
  forest-words trees.none n d [] h = refl
  forest-words trees.none n d (s ∷ sorts) h = absurd h
  forest-words (more t f) n d [] h = absurd h
  forest-words (more t f) n d (s ∷ sorts) h =
      ap (λ (l : List ℕ). l ++ words_each (λ s t. words_by (tree n d s) t) sorts (of_forest f)) (tree-words t n d s h.0) ∙ ap (λ (l : List ℕ). tree_words t ++ l) (forest-words f n d sorts h.1)

-- ---- resolving keeps the number of words

pub slots_length : (c r : ℕ) (fs : Fields) → length (with_slots c r fs) ≡ length fs
slots_length c r [] = refl
slots_length c r (f ∷ []) = refl
slots_length c r (f ∷ g ∷ fs) = refl

abbrev pub StepLong : Fields → NodeStep → Type 0
StepLong fs (goes fs' entity first rest) = length fs' ≡ length fs
StepLong fs (stops number other) = Unit {0}

module _ (C : Citing) where
  pub step_long : {entity : ℕ} {m : Membership} {v : ℕ} {fs : Fields} {w : Follows} {s : NodeStep} → Way C entity m v fs w s → StepLong fs s
  step_long (slotless w e) = refl
  step_long {entity} {m} {v} {fs} (aggregates c r kind e) = slots_length c r fs
  step_long {entity} {m} {v} {fs} (relates c r owner e) = slots_length c r fs
  step_long {entity} {m} {v} {fs} (tests c r kind e) = slots_length c r fs
  step_long (undirected w kind e) = tt
  step_long (test_undirected kind e) = tt
  step_long derived = tt
  step_long (no_input owner number e) = tt

  node-long : (at k v : ℕ) (fs : Fields) (f : Forest) (b : ℕ) (s : NodeStep) → StepLong fs s
      → ((entity : ℕ) (first rest : Membership) → Good (λ f'. sizes f' ≡ sizes f) (resolve_forest C entity first rest b f))
      → Good (λ t. size t ≡ size (node k v fs f)) (at_node C at s (λ fs' entity first rest. map_done (node k v fs') (resolve_forest C entity first rest b f)))
  unfolding size
  node-long at k v fs f b (stops number other) q g = tt
  node-long at k v fs f b (goes fs' entity first rest) q g = map_good (λ f'. sizes f' ≡ sizes f) _ (node k v fs') (resolve_forest C entity first rest b f) (g entity first rest) (λ f' e. omega arith)

  mutual
    unfolding resolve_tree size

    pub size_kept : (t : Tree) (entity : ℕ) (m : Membership) (at : ℕ) → Good (λ t'. size t' ≡ size t) (resolve_tree C entity m at t)
    size_kept (node k v fs f) entity m at =
        node-long at k v fs f (at + 1 + length fs) (node_step C entity m (entry_of k).follows v fs) (step_long (way C entity m v fs (entry_of k).follows))
        (λ e first rest. sizes_kept f e first rest (at + 1 + length fs))

    sizes_kept : (f : Forest) (entity : ℕ) (first rest : Membership) (at : ℕ) → Good (λ f'. sizes f' ≡ sizes f) (resolve_forest C entity first rest at f)
    sizes_kept trees.none entity first rest at = refl
    sizes_kept (more t f) entity first rest at =
        then_good (λ t'. size t' ≡ size t) _ (resolve_tree C entity first at t) _ (size_kept t entity first at)
        (λ t' q. map_good (λ f'. sizes f' ≡ sizes f) _ (more t') (resolve_forest C entity rest rest (at + size t) f) (sizes_kept f entity rest rest (at + size t)) (λ f' e. omega arith))
