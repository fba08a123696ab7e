-- A refusal of a tree: its number is small, its place is in the tree, its other is below a limit that kinds and names are below. So it fits into a code.
use Prim.Native.Nat.{ℕ, zero, suc, ◌+◌, ◌<◌, ◌≤◌}
use native.Mathlib.Omega.{arith}
use mathlib.Core.Path.{◌≡◌, refl, subst}
use mathlib.Core.List.{List, [], ◌∷◌}
use mathlib.Core.Bool.{Bool, true, false, ◌||◌}
use mathlib.Core.Option.{Option, none, some}
use lib.ListN.{length}
use lib.Dec.{eqb}
use borrow.Author.Tests.{eqb-true}
use Rattle.pack.proofs.StepLaws.{name_below}
use Rattle.definitions.specs.declared.answer.Refusal.{Refusal}
use Rattle.definitions.specs.declared.table.Follows.{Follows}
use Rattle.definitions.specs.Table.{pick, table, entry_of, fields_of, children_of}
use Rattle.definitions.specs.Form.{FineEach, only, allowed_here, Fine}
use Rattle.definitions.specs.Tree.{Tree, Forest, node, more, last_field, tree, Fields, size, sizes}
use Rattle.definitions.specs.TreeRows.{of_forest}
use Rattle.definitions.specs.declared.direction.Direction.{Direction}
use Rattle.definitions.specs.declared.direction.Direction.TheVariants.{Directed, Open}
use Rattle.definitions.specs.Tables.{Derived, Tables}
use Rattle.definitions.specs.Direction.{bearing, or_else, kind_or_zero, matched, towards, turn, Membership, all, each_once, tested}
use Rattle.reading.specs.Notes.{look_by}
use Rattle.definitions.specs.Answers.{Outcome, done, refused, and_then, map_done}
use Rattle.definitions.specs.ResolvingTrees.{Citing, current_of, related_of, value_of_node, NodeStep, goes, stops, node_step, at_node, resolve_tree, resolve_forest}
use Rattle.directions.proofs.StepWays.{Way, slotless, aggregates, relates, tests, undirected, test_undirected, derived, no_input, way}
use Rattle.directions.proofs.KeepsForm.{FieldsFine, slotted, open_node, no_level}
use Rattle.directions.proofs.SmallKinds.{KindFits}
use Rattle.definitions.specs.Tree as trees
use Rattle.definitions.specs.Direction as direction

-- trees that keep to their sorts
abbrev RowFine : ℕ → ℕ → List ℕ → Forest → Type 0
RowFine n levels sorts f = FineEach (λ sort t. Fine (tree n levels sort) t) sorts (of_forest f)

-- a refusal with a small number, a place and an other below limits
pub record Fits (most top : ℕ) (r : Refusal) : Type 0 where
  pub number : r.number < 16
  pub place : r.place < top
  pub other : r.other < most

abbrev pub Refuses : {A : Type 0} → ℕ → ℕ → Outcome A → Type 0
Refuses most top (done a) = Unit {0}
Refuses most top (refused r) = Fits most top r

pub refuses_below : {A : Type 0} (most low top : ℕ) → low ≤ top → (o : Outcome A) → Refuses most low o → Refuses most top o
refuses_below most low top h (done a) q = tt
refuses_below most low top h (refused r) q = record { number = q.number; place = let p = q.place in omega arith; other = q.other }

pub map_refuses : {A B : Type 0} (most top : ℕ) (f : A → B) (o : Outcome A) → Refuses most top o → Refuses most top (map_done f o)
map_refuses most top f (done a) h = tt
map_refuses most top f (refused r) h = h

pub then_refuses : {A B : Type 0} (most top : ℕ) (o : Outcome A) (f : A → Outcome B) → Refuses most top o → ((a : A) → Refuses most top (f a)) → Refuses most top (and_then o f)
then_refuses most top (done a) f h k = k a
then_refuses most top (refused r) f h k = h

-- tables whose kinds are below a limit, and inputs whose numbers are small
pub record CitingFits (most : ℕ) (C : Citing) : Type 0 where
  pub kinds : (n e c r : ℕ) → KindFits most (turn C.tables n e c r)
  pub inputs : (owner n number : ℕ) → C.input owner n ≡ some number → number < 16

-- a membership whose kinds are
abbrev pub MemberSmall : ℕ → Membership → Type 0
MemberSmall most none = Unit {0}
MemberSmall most (some m) = (m.0 < most) × (m.1 < most)

-- ---- directions

-- an open direction tells a kind below the limit
abbrev OpenFits : ℕ → Direction → Type 0
OpenFits most (Directed c r k) = Unit {0}
OpenFits most (Open e) = e < most

-- a step hands such kinds on, and stops with a small number and such an other
abbrev StepFits : ℕ → NodeStep → Type 0
StepFits most (goes fs entity first rest) = (entity < most) × (MemberSmall most first × MemberSmall most rest)
StepFits most (stops number other) = (number < 16) × (other < most)

-- the value of an OnlyRelated node is a name
value-allowed : (n k v : ℕ) → only (82 ∷ 84 ∷ []) k ≡ 0 → allowed_here n k v ≡ true → v < n
unfolding entry_of table
value-allowed n k v o e = go (eqb k 82) refl (eqb k 84) refl o
  where
    go : (b : Bool) → eqb k 82 ≡ b → (c : Bool) → eqb k 84 ≡ c → ◌≡◌ {A = ℕ} (pick (b || (c || false)) 0 2) 0 → v < n
    go true g c h q = name_below n 82 refl v (subst (λ (x : ℕ). allowed_here n x v ≡ true) (eqb-true k 82 g) e)
    go false g true h q = name_below n 84 refl v (subst (λ (x : ℕ). allowed_here n x v ≡ true) (eqb-true k 84 h) e)
    go false g false h q = absurd (omega arith)

third_fits : (n : ℕ) (fs : Fields) → FieldsFine n (slotted ((82 ∷ 84 ∷ []) ∷ [])) fs → (value_of_node fs).1 < n
unfolding Fine
third_fits n [] h = absurd h
third_fits n (c ∷ []) h = absurd h.1
third_fits n (c ∷ r ∷ []) h = absurd h.1.1
third_fits n (c ∷ r ∷ v ∷ fs) h = value-allowed n v.0 v.1 h.1.1.0.0 h.1.1.0.1.1

module _ (most : ℕ) where
  matched_open : (ks : List ℕ) (e c r : ℕ) (ss : List ℕ) → e < most → OpenFits most (matched ks e c r ss)
  matched_open ks e c r [] h = tt
  matched_open ks e c r (s ∷ []) h = tt
  matched_open ks e c r (s ∷ t ∷ ss) h = h

  towards_open : (direct : ℕ → Option ℕ) (o : Option (List ℕ)) (e c r : ℕ) → e < most → OpenFits most (towards direct o e c r)
  towards_open direct none e c r h = tt
  towards_open direct (some ks) e c r h = matched_open ks e c r (bearing (or_else (direct e) e) 0 ks) h

  turn_open : (T : Tables) (n e c r : ℕ) → e < most → OpenFits most (turn T n e c r)
  unfolding turn
  turn_open T n e c r h = go (T.derived n)
    where
      go : (o : Option Derived) → OpenFits most (elim o [ some d ↦ Directed d.current d.related (kind_or_zero d.kinds d.related) | none ↦ towards T.direct (T.typed n) e c r ])
      go (some d) = tt
      go none = towards_open T.direct (T.typed n) e c r h

  once_open : (c r : ℕ) (cs rs : List ℕ) → OpenFits most (each_once c r cs rs)
  once_open c r (x ∷ []) (y ∷ []) = tt
  once_open c r (x ∷ []) (y ∷ z ∷ rs) = tt
  once_open c r (x ∷ []) [] = tt
  once_open c r (x ∷ z ∷ cs) rs = tt
  once_open c r [] rs = tt

  tested_open : (o : Option (List ℕ)) (m : Membership) (c r : ℕ) → MemberSmall most m → OpenFits most (tested o m c r)
  tested_open none m c r h = tt
  tested_open (some ks) none c r h = tt
  tested_open (some ks) (some m) c r h = go (eqb m.0 m.1) (all m.0 ks)
    where
      go : (a b : Bool) → OpenFits most (pick a (pick b (Open m.0) (Directed c r 0)) (each_once c r (bearing m.0 0 ks) (bearing m.1 0 ks)))
      go true true = h.0
      go true false = tt
      go false b = once_open c r (bearing m.0 0 ks) (bearing m.1 0 ks)

  member_open : (T : Tables) (n : ℕ) (m : Membership) (c r : ℕ) → MemberSmall most m → OpenFits most (direction.member_direction T n m c r)
  unfolding direction.member_direction
  member_open T n m c r h = go (T.derived n)
    where
      go : (o : Option Derived) → OpenFits most (elim o [ some d ↦ Directed d.current d.related 0 | none ↦ tested (T.typed n) m c r ])
      go (some d) = tt
      go none = tested_open (T.typed n) m c r h

  -- ---- a node

  lost-small : (b : Bool) (m : Membership) → MemberSmall most m → MemberSmall most (pick b none m)
  lost-small true m s = tt
  lost-small false m s = s

  module _ (C : Citing) (fit : CitingFits most C) where
    step_fits : (n : ℕ) → n ≤ most → {entity : ℕ} {m : Membership} {v : ℕ} {fs : Fields} {w : Follows} {s : NodeStep} → Way C entity m v fs w s → entity < most → MemberSmall most m → FieldsFine n (fields_of w) fs → StepFits most s
    unfolding fields_of
    step_fits n l {entity} {m} (slotless w e) h s q = (h, (lost-small (look_by w).first m s, lost-small (look_by w).rest m s))
    step_fits n l {entity} {m} {v} {fs} (aggregates c r kind e) h s q = (subst (λ (d : Direction). KindFits most d) e (fit.kinds v entity (current_of fs) (related_of fs)), (tt, tt))
    step_fits n l (relates c r owner e) h s q = (omega arith, (tt, tt))
    step_fits n l (tests c r kind e) h s q = (h, (s, s))
    step_fits n l {entity} {m} {v} {fs} (undirected w kind e) h s q = (omega arith, subst (λ (d : Direction). OpenFits most d) e (turn_open C.tables v entity (current_of fs) (related_of fs) h))
    step_fits n l {entity} {m} {v} {fs} (test_undirected kind e) h s q = (omega arith, subst (λ (d : Direction). OpenFits most d) e (member_open C.tables v m (current_of fs) (related_of fs) s))
    step_fits n l {entity} {m} {v} {fs} derived h s q = (omega arith, omega (arith, third_fits n fs q))
    step_fits n l {entity} {m} {v} {fs} (no_input owner number e) h s q = (fit.inputs owner (value_of_node fs).1 number e, omega (arith, third_fits n fs q))

    node_refuses : (top at : ℕ) → at < top → (s : NodeStep) → StepFits most s → (on : Fields → ℕ → Membership → Membership → Outcome Tree)
        → ((fs : Fields) (entity : ℕ) → entity < most → (first : Membership) → MemberSmall most first → (rest : Membership) → MemberSmall most rest → Refuses most top (on fs entity first rest)) → Refuses most top (at_node C at s on)
    node_refuses top at h (goes fs entity first rest) q on k = k fs entity q.0 first q.1.0 rest q.1.1
    node_refuses top at h (stops number other) q on k = record { number = q.0; place = h; other = q.1 }

    mutual
      unfolding resolve_tree size

      pub tree_refuses : (t : Tree) (n levels sort : ℕ) → n ≤ most → Fine (tree n levels sort) t → (entity : ℕ) → entity < most → (m : Membership) → MemberSmall most m → (at : ℕ) → Refuses most (at + size t) (resolve_tree C entity m at t)
      tree_refuses (node k v fs f) n zero sort names h entity low m s at = absurd (no_level n sort k v fs f h)
      tree_refuses (node k v fs f) n (suc d) sort names h entity low m s at =
          let o = open_node n d sort k v fs f h in
          node_refuses (at + (1 + length fs + sizes f)) at (omega arith) (node_step C entity m (entry_of k).follows v fs) (step_fits n names (way C entity m v fs (entry_of k).follows) low s o.1.0) _
          (λ fs' e small first a rest b. map_refuses most (at + (1 + length fs + sizes f)) (node k v fs') (resolve_forest C e first rest (at + 1 + length fs) f)
          (refuses_below most (at + 1 + length fs + sizes f) (at + (1 + length fs + sizes f)) (omega arith) (resolve_forest C e first rest (at + 1 + length fs) f)
          (forest_refuses f n d (children_of (entry_of k).follows v (last_field fs)) names o.1.1 e small first a rest b (at + 1 + length fs))))

      pub forest_refuses : (f : Forest) (n levels : ℕ) (sorts : List ℕ) → n ≤ most → RowFine n levels sorts f → (entity : ℕ) → entity < most → (first : Membership) → MemberSmall most first → (rest : Membership) → MemberSmall most rest → (at : ℕ)
          → Refuses most (at + sizes f) (resolve_forest C entity first rest at f)
      forest_refuses trees.none n d sorts names h entity low first a rest b at = tt
      forest_refuses (more t f) n d [] names h entity low first a rest b at = absurd h
      forest_refuses (more t f) n d (sort ∷ sorts) names h entity low first a rest b at =
          then_refuses most (at + (size t + sizes f)) (resolve_tree C entity first at t) _
          (refuses_below most (at + size t) (at + (size t + sizes f)) (omega arith) (resolve_tree C entity first at t) (tree_refuses t n d sort names h.0 entity low first a at))
          (λ t'. map_refuses most (at + (size t + sizes f)) (more t') (resolve_forest C entity rest rest (at + size t) f)
          (refuses_below most (at + size t + sizes f) (at + (size t + sizes f)) (omega arith) (resolve_forest C entity rest rest (at + size t) f) (forest_refuses f n d sorts names h.1 entity low rest b rest b (at + size t))))
