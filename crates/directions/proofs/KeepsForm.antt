-- What is resolved keeps to its form: trees, rules and relations.
use Prim.Native.Nat.{ℕ, zero, suc, ◌+◌, ◌<◌, ◌≤◌}
use native.Mathlib.Omega.{arith}
use mathlib.Core.Path.{◌≡◌, refl, ap, sym, subst}
use mathlib.Core.List.{List, [], ◌∷◌}
use mathlib.Core.Bool.{Bool, true, false}
use mathlib.Core.Option.{Option, none, some}
use lib.ListN.{length}
use lib.Dec.{eqb}
use Rattle.reading.proofs.TreeLaws.{turned_away}
use Rattle.pack.proofs.FormLaws.{only-kind}
use Rattle.definitions.specs.declared.table.Follows.{Follows}
use Rattle.definitions.specs.declared.table.Follows.TheVariants.{Aggregate}
use Rattle.definitions.specs.Table.{pick, table, entry_of, fields_of, children_of}
use Rattle.definitions.specs.Form.{only, allowed_here, FineEach, word, Fine}
use Rattle.definitions.specs.Tree.{Tree, Forest, node, more, heads, last_field, fields, follow, tree, Fields, size}
use Rattle.definitions.specs.TreeRows.{of_forest}
use Rattle.definitions.specs.declared.direction.Direction.{Direction}
use Rattle.definitions.specs.declared.direction.Direction.TheVariants.{Directed, Open}
use Rattle.definitions.specs.Tables.{Derived, Tables}
use Rattle.definitions.specs.Direction.{bearing, or_else, kind_or_zero, matched, towards, turn, Membership, all, each_once, between, tested}
use Rattle.definitions.specs.Answers.{Outcome, done, refused, and_then, map_done}
use Rattle.definitions.specs.ResolvingTrees.{Citing, current_of, related_of, with_slots, NodeStep, goes, stops, node_step, at_node, resolve_tree, resolve_forest}
use Rattle.directions.proofs.StepWays.{Way, slotless, aggregates, relates, tests, undirected, test_undirected, derived, no_input, way}
use Rattle.definitions.specs.Tree as trees
use Rattle.definitions.specs.Direction as direction

-- an outcome whose value, if there is one, is as said
abbrev pub Good : {A : Type 0} → (A → Type 0) → Outcome A → Type 0
Good P (done a) = P a
Good P (refused r) = Unit {0}

pub map_good : {A B : Type 0} (P : A → Type 0) (Q : B → Type 0) (f : A → B) (o : Outcome A) → Good P o → ((a : A) → P a → Q (f a)) → Good Q (map_done f o)
map_good P Q f (done a) h k = k a h
map_good P Q f (refused r) h k = tt

pub then_good : {A B : Type 0} (P : A → Type 0) (Q : B → Type 0) (o : Outcome A) (f : A → Outcome B) → Good P o → ((a : A) → P a → Good Q (f a)) → Good Q (and_then o f)
then_good P Q (done a) f h k = k a h
then_good P Q (refused r) f h k = tt

pub good_imp : {A : Type 0} (P Q : A → Type 0) (o : Outcome A) → Good P o → ((a : A) → P a → Q a) → Good Q o
good_imp P Q (done a) h k = k a h
good_imp P Q (refused r) h k = tt

-- ---- directions

abbrev Slot : ℕ → Type 0
Slot s = s < 16777216

abbrev pub DirectionFits : Direction → Type 0
DirectionFits (Directed c r k) = Slot c × Slot r
DirectionFits (Open e) = Unit {0}

-- tables whose slots are values
pub record TablesFit (T : Tables) : Type 0 where
  pub slots : (n : ℕ) (d : Derived) → T.derived n ≡ some d → Slot d.current × Slot d.related
  pub few : (n : ℕ) (ks : List ℕ) → T.typed n ≡ some ks → length ks ≤ 8

abbrev SlotsBelow : ℕ → List ℕ → Type 0
SlotsBelow n [] = Unit {0}
SlotsBelow n (s ∷ ss) = (s < n) × SlotsBelow n ss

bearing-below : (k slot : ℕ) (ks : List ℕ) (n : ℕ) → slot + length ks ≤ n → SlotsBelow n (bearing k slot ks)
bearing-below k slot [] n h = tt
bearing-below k slot (j ∷ ks) n h = go (eqb j k) (bearing-below k (suc slot) ks n (omega arith))
  where
    go : (b : Bool) → SlotsBelow n (bearing k (suc slot) ks) → SlotsBelow n (pick b (slot ∷ bearing k (suc slot) ks) (bearing k (suc slot) ks))
    go true r = (omega arith, r)
    go false r = r

matched-fits : (ks : List ℕ) (e c r : ℕ) (ss : List ℕ) → Slot c → Slot r → SlotsBelow 8 ss → DirectionFits (matched ks e c r ss)
matched-fits ks e c r [] hc hr h = (hc, hr)
matched-fits ks e c r (s ∷ []) hc hr h = (omega (arith, h.0), omega arith)
matched-fits ks e c r (s ∷ t ∷ ss) hc hr h = tt

once_fits : (c r : ℕ) (cs rs : List ℕ) → Slot c → Slot r → SlotsBelow 8 cs → SlotsBelow 8 rs → DirectionFits (each_once c r cs rs)
once_fits c r (x ∷ []) (y ∷ []) hc hr h k = (omega (arith, h.0), omega (arith, k.0))
once_fits c r (x ∷ []) (y ∷ z ∷ rs) hc hr h k = (hc, hr)
once_fits c r (x ∷ []) [] hc hr h k = (hc, hr)
once_fits c r (x ∷ z ∷ cs) rs hc hr h k = (hc, hr)
once_fits c r [] rs hc hr h k = (hc, hr)

module _ (T : Tables) (fit : TablesFit T) where
  towards-fits : (n : ℕ) (o : Option (List ℕ)) → T.typed n ≡ o → (e c r : ℕ) → Slot c → Slot r → DirectionFits (towards T.direct o e c r)
  towards-fits n none q e c r hc hr = (hc, hr)
  towards-fits n (some ks) q e c r hc hr =
      matched-fits ks e c r (bearing (or_else (T.direct e) e) 0 ks) hc hr (bearing-below (or_else (T.direct e) e) 0 ks 8 (omega (arith, fit.few n ks q)))

  pub turn-fits : (n e c r : ℕ) → Slot c → Slot r → DirectionFits (turn T n e c r)
  unfolding turn
  turn-fits n e c r hc hr = go (T.derived n) refl
    where
      go : (o : Option Derived) → T.derived n ≡ o
          → DirectionFits (elim o [ some d ↦ Directed d.current d.related (kind_or_zero d.kinds d.related) | none ↦ towards T.direct (T.typed n) e c r ])
      go (some d) q = fit.slots n d q
      go none q = towards-fits n (T.typed n) refl e c r hc hr

  between-fits : (ks : List ℕ) → length ks ≤ 8 → (m : ℕ × ℕ) (c r : ℕ) → Slot c → Slot r → DirectionFits (between ks m c r)
  between-fits ks h m c r hc hr = go (eqb m.0 m.1) (all m.0 ks)
    where
      go : (a b : Bool) → DirectionFits (pick a (pick b (Open m.0) (Directed c r 0)) (each_once c r (bearing m.0 0 ks) (bearing m.1 0 ks)))
      go true true = tt
      go true false = (hc, hr)
      go false b = once_fits c r (bearing m.0 0 ks) (bearing m.1 0 ks) hc hr (bearing-below m.0 0 ks 8 (omega arith)) (bearing-below m.1 0 ks 8 (omega arith))

  tested-fits : (n : ℕ) (o : Option (List ℕ)) → T.typed n ≡ o → (m : Membership) (c r : ℕ) → Slot c → Slot r → DirectionFits (tested o m c r)
  tested-fits n none q m c r hc hr = (hc, hr)
  tested-fits n (some ks) q none c r hc hr = (hc, hr)
  tested-fits n (some ks) q (some m) c r hc hr = between-fits ks (fit.few n ks q) m c r hc hr

  pub member-fits : (n : ℕ) (m : Membership) (c r : ℕ) → Slot c → Slot r → DirectionFits (direction.member_direction T n m c r)
  unfolding direction.member_direction
  member-fits n m c r hc hr = go (T.derived n) refl
    where
      go : (o : Option Derived) → T.derived n ≡ o → DirectionFits (elim o [ some d ↦ Directed d.current d.related 0 | none ↦ tested (T.typed n) m c r ])
      go (some d) q = fit.slots n d q
      go none q = tested-fits n (T.typed n) refl m c r hc hr

-- ---- fields

-- a slot takes any value
any_slot : (n v : ℕ) → (allowed_here n 80 v ≡ true) × (allowed_here n 81 v ≡ true)
unfolding allowed_here entry_of table
any_slot n v = (refl, refl)

abbrev pub FieldFine : ℕ → List ℕ → ℕ × ℕ → Type 0
FieldFine n kinds f = Fine (word (only kinds) n) f

abbrev pub FieldsFine : ℕ → List (List ℕ) → Fields → Type 0
FieldsFine n kss fs = FineEach (FieldFine n) kss fs

slot_fine : (n kind : ℕ) (f : ℕ × ℕ) (c : ℕ) → FieldFine n (kind ∷ []) f → Slot c → allowed_here n kind c ≡ true → FieldFine n (kind ∷ []) (f.0, c)
unfolding Fine
slot_fine n kind f c h s a = (h.0, (s, subst (λ (k : ℕ). allowed_here n k c ≡ true) (sym (only-kind f.0 kind h.0)) a))

abbrev pub slotted : List (List ℕ) → List (List ℕ)
slotted rest = (80 ∷ []) ∷ (81 ∷ []) ∷ rest

slots-fine : (n : ℕ) (rest : List (List ℕ)) (fs : Fields) (c r : ℕ) → FieldsFine n (slotted rest) fs → Slot c → Slot r → FieldsFine n (slotted rest) (with_slots c r fs)
slots-fine n rest [] c r h hc hr = h
slots-fine n rest (a ∷ []) c r h hc hr = h
slots-fine n rest (a ∷ b ∷ fs) c r h hc hr = (slot_fine n 80 a c h.0 hc (any_slot n c).0, (slot_fine n 81 b r h.1.0 hr (any_slot n r).1, h.1.1))

-- the slots that stand in the fields
slots_fit : (n : ℕ) (rest : List (List ℕ)) (fs : Fields) → FieldsFine n (slotted rest) fs → Slot (current_of fs) × Slot (related_of fs)
unfolding Fine
slots_fit n rest [] h = absurd h
slots_fit n rest (a ∷ []) h = absurd h.1
slots_fit n rest (a ∷ b ∷ fs) h = (h.0.1.0, h.1.0.1.0)

-- the last of three fields or more is no slot
last_kept : (n : ℕ) (kinds : List ℕ) (rest : List (List ℕ)) (fs : Fields) (c r : ℕ) → FieldsFine n (slotted (kinds ∷ rest)) fs → last_field (with_slots c r fs) ≡ last_field fs
last_kept n kinds rest [] c r h = refl
last_kept n kinds rest (a ∷ []) c r h = refl
last_kept n kinds rest (a ∷ b ∷ []) c r h = absurd h.1.1
last_kept n kinds rest (a ∷ b ∷ d ∷ fs) c r h = refl

-- ---- nodes

-- the fields with which a node goes on keep to the form, and the same children follow them
abbrev StepFine : ℕ → Follows → ℕ → Fields → NodeStep → Type 0
StepFine n w v fs (goes fs' entity first rest) = FieldsFine n (fields_of w) fs' × (children_of w v (last_field fs') ≡ children_of w v (last_field fs))
StepFine n w v fs (stops number other) = Unit {0}

module _ (n : ℕ) where
  -- a tree as its head, fields and children
  abbrev pub NodeFine : ℕ → ℕ → ℕ → ℕ → Fields → Forest → Type 0
  NodeFine d sort k v fs f =
      Fine (word (heads sort (suc d)) n) (k, v) × (FieldsFine n (fields_of (entry_of k).follows) fs × FineEach (λ s t. Fine (tree n d s) t) (children_of (entry_of k).follows v (last_field fs)) (of_forest f))

  pub open_node : (d sort k v : ℕ) (fs : Fields) (f : Forest) → Fine (tree n (suc d) sort) (node k v fs f) → NodeFine d sort k v fs f
  unfolding tree follow fields Fine
  open_node d sort k v fs f h = h

  close_node : (d sort k v : ℕ) (fs : Fields) (f : Forest) → NodeFine d sort k v fs f → Fine (tree n (suc d) sort) (node k v fs f)
  unfolding tree follow fields Fine
  close_node d sort k v fs f h = h

  pub no_level : (sort k v : ℕ) (fs : Fields) (f : Forest) → Fine (tree n zero sort) (node k v fs f) → ⊥
  unfolding tree Fine
  no_level sort k v fs f h = turned_away sort k h.0.0

module _ (C : Citing) (fit : TablesFit C.tables) (n : ℕ) where
  turned_fits : (v entity : ℕ) (rest : List (List ℕ)) (fs : Fields) → FieldsFine n (slotted rest) fs → DirectionFits (turn C.tables v entity (current_of fs) (related_of fs))
  turned_fits v entity rest fs h = let s = slots_fit n rest fs h in turn-fits C.tables fit v entity (current_of fs) (related_of fs) s.0 s.1

  step_fine : {entity : ℕ} {m : Membership} {v : ℕ} {fs : Fields} {w : Follows} {s : NodeStep} → Way C entity m v fs w s → FieldsFine n (fields_of w) fs → StepFine n w v fs s
  unfolding fields_of children_of
  step_fine (slotless w e) h = (h, refl)
  step_fine {entity} {m} {v} {fs} (aggregates c r kind e) h =
      let rest : List (List ℕ) = (86 ∷ []) ∷ (83 ∷ []) ∷ [] in
      let q = subst (λ (d : Direction). DirectionFits d) e (turned_fits v entity rest fs h) in
      (slots-fine n rest fs c r h q.0 q.1, ap (children_of Aggregate v) (last_kept n (86 ∷ []) ((83 ∷ []) ∷ []) fs c r h))
  step_fine {entity} {m} {v} {fs} (relates c r owner e) h =
      let rest : List (List ℕ) = (82 ∷ 84 ∷ []) ∷ [] in
      let q = subst (λ (d : Direction). DirectionFits d) e (turned_fits v entity rest fs h) in (slots-fine n rest fs c r h q.0 q.1, refl)
  step_fine {entity} {m} {v} {fs} (tests c r kind e) h =
      let s = slots_fit n [] fs h in
      let q = subst (λ (d : Direction). DirectionFits d) e (member-fits C.tables fit v m (current_of fs) (related_of fs) s.0 s.1) in
      (slots-fine n [] fs c r h q.0 q.1, refl)
  step_fine (undirected w kind e) h = tt
  step_fine (test_undirected kind e) h = tt
  step_fine derived h = tt
  step_fine (no_input owner number e) h = tt

  node_good : (d sort at k v : ℕ) (fs : Fields) (f : Forest) (b : ℕ) (s : NodeStep) → Fine (word (heads sort (suc d)) n) (k, v) → StepFine n (entry_of k).follows v fs s
      → ((entity : ℕ) (first rest : Membership) → Good (λ f'. FineEach (λ s t. Fine (tree n d s) t) (children_of (entry_of k).follows v (last_field fs)) (of_forest f')) (resolve_forest C entity first rest b f))
      → Good (Fine (tree n (suc d) sort)) (at_node C at s (λ fs' entity first rest. map_done (node k v fs') (resolve_forest C entity first rest b f)))
  node_good d sort at k v fs f b (stops number other) h q g = tt
  node_good d sort at k v fs f b (goes fs' entity first rest) h q g =
      map_good _ _ (node k v fs') (resolve_forest C entity first rest b f) (g entity first rest)
      (λ f' e. close_node n d sort k v fs' f' (h, (q.0, subst (λ ss. FineEach (λ s t. Fine (tree n d s) t) ss (of_forest f')) (sym q.1) e)))

  mutual
    unfolding resolve_tree

    pub tree_good : (t : Tree) (d sort entity : ℕ) (m : Membership) (at : ℕ) → Fine (tree n d sort) t → Good (Fine (tree n d sort)) (resolve_tree C entity m at t)
    tree_good (node k v fs f) zero sort entity m at h = absurd (no_level n sort k v fs f h)
    tree_good (node k v fs f) (suc d) sort entity m at h =
        let o = open_node n d sort k v fs f h in
        node_good d sort at k v fs f (at + 1 + length fs) (node_step C entity m (entry_of k).follows v fs) o.0 (step_fine (way C entity m v fs (entry_of k).follows) o.1.0)
        (λ e first rest. forest_good f d (children_of (entry_of k).follows v (last_field fs)) e first rest (at + 1 + length fs) o.1.1)

    forest_good : (f : Forest) (d : ℕ) (sorts : List ℕ) (entity : ℕ) (first rest : Membership) (at : ℕ) → FineEach (λ s t. Fine (tree n d s) t) sorts (of_forest f)
        → Good (λ f'. FineEach (λ s t. Fine (tree n d s) t) sorts (of_forest f')) (resolve_forest C entity first rest at f)
    forest_good trees.none d [] entity first rest at h = tt
    forest_good trees.none d (s ∷ sorts) entity first rest at h = absurd h
    forest_good (more t f) d [] entity first rest at h = absurd h
    forest_good (more t f) d (s ∷ sorts) entity first rest at h =
        then_good _ _ (resolve_tree C entity first at t) _ (tree_good t d s entity first at h.0)
        (λ t' q. map_good _ _ (more t') (resolve_forest C entity rest rest (at + size t) f) (forest_good f d sorts entity rest rest (at + size t) h.1) (λ f' e. (q, e)))

-- the root's word of a tree that keeps to its form
pub head_fine : (n levels sort k v : ℕ) → Fine (word (heads sort levels) n) (k, v) → (v < 16777216) × ((heads sort levels k ≡ 0) × (allowed_here n k v ≡ true))
unfolding Fine
head_fine n levels sort k v h = (h.1.0, (h.0, h.1.1))
