-- A note as the code turns it.
use Prim.Native.Nat.{ℕ, zero, suc, ◌+◌, ◌<◌, ◌≤◌}
use native.Mathlib.Omega.{arith}
use mathlib.Core.Path.{◌≡◌, refl, ap, sym, ◌∙◌, subst}
use mathlib.Core.List.{List, [], ◌∷◌}
use mathlib.Core.Bool.{Bool, true, false}
use mathlib.Core.Option.{none}
use lib.ListN.{length, get_or, set, take, length-set}
use lib.Seq.{sets, length-sets, get_or-set_other}
use lib.Dec.{eqb}
use borrow.Author.Tests.{eq-eqb, ne_eqb, eqb-true, eqb-false}
use Rattle.definitions.specs.Table.{pick, word_of, entry_of, fields_of}
use Rattle.definitions.specs.Direction.{related_kind, Membership}
use Rattle.definitions.specs.Tree.{Fields, field_words}
use Rattle.definitions.specs.Answers.{Outcome, done, refused}
use Rattle.definitions.specs.ResolvingTrees.{Citing, current_of, related_of, with_slots, NodeStep, goes, stops, node_step}
use Rattle.directions.specs.Words.{member_in}
use Rattle.turning.specs.declared.step.Out.{Out}
use Rattle.turning.specs.declared.step.Out.TheVariants.{Opens, Sets, Passes}
use Rattle.definitions.specs.declared.answer.Refusal.{Refusal}
use Rattle.turning.specs.declared.step.Node.{Node}
use Rattle.turning.specs.declared.known.Known.{Known}
use Rattle.turning.specs.declared.note.Note as taken
use Rattle.turning.specs.declared.root.Root as code
use Rattle.std.specs.Prelude.{Result, Ok, Err}
use Rattle.turning.specs.Notes.{Note, look_of, note_code}
use Rattle.turning.specs.Turns.{note_of, KnownTables, Root, citing, Work, work, value_in, kind_here, rule_root, relation_root, held, fields_at, step_at, turned_by, open_root, turn_node, turn_note}
use Rattle.turning.specs.TurnPromises.{known_by, NodeStands, Stands, out_by, out_at, told_by, OutFits, StepTaken, root_in, RootOpened, NextBy, NoteAsked, NoteTurned}
use Rattle.turning.proofs.FlatLaws.{Leaves, look-leaves}
use Rattle.turning.proofs.CodeLaws.{as_read, read_is}
use Rattle.turning.proofs.StepLaws.{two_fields, two_or_more, three_words}

-- ---- what a step's answer does

abbrev slot_words : ℕ → ℕ → List ℕ
slot_words c r = word_of 80 c ∷ word_of 81 r ∷ []

abbrev applied : ℕ → ℕ → Work → Result Out Refusal → Outcome Work
applied i at s (Ok (Opens c r k)) = done (work (sets s.words (at + 1) (slot_words c r)) (set s.results i k) s.root)
applied i at s (Ok (Sets c r)) = done (work (sets s.words (at + 1) (slot_words c r)) s.results s.root)
applied i at s (Ok Passes) = done s
applied i at s (Err x) = refused x

module _ (C : Citing) (ws : List ℕ) (at i : ℕ) (s : Work) (st : NodeStands ws at) (has : (look_of (kind_here ws at)).slots ≡ true) where
  slotted-words : (fs : Fields) (n c r : ℕ) → length (fields_of (entry_of (kind_here ws at)).follows) ≡ suc (suc n) → fs ≡ with_slots c r (fields_at ws (at + 1) (suc (suc n))) → take 2 (field_words fs) ≡ slot_words (current_of fs) (related_of fs)
  slotted-words fs n c r e q =
      let k = st.slots has in
      let f : fs ≡ (80, c) ∷ (81, r) ∷ fields_at ws (at + 3) n = q ∙ ap (with_slots c r) (two_fields ws at n (three_words st has)) ∙ λ j. (k.0 j, c) ∷ (k.1 j, r) ∷ fields_at ws (at + 3) n in
      rw f refl

  by_step : (entity : ℕ) (m : Membership) (lost : Bool) (n : ℕ) → length (fields_of (entry_of (kind_here ws at)).follows) ≡ suc (suc n) → (p : NodeStep) → Leaves entity m lost (entry_of (kind_here ws at)).follows (fields_at ws (at + 1) (suc (suc n))) p → (b : Bool)
      → turned_by b i at s p ≡ applied i at s (told_by s.root.name at (out_by b p))
  by_step entity m lost n e (stops number other) l true = refl
  by_step entity m lost n e (stops number other) l false = refl
  by_step entity m lost n e (goes fs k first rest) l true = ap (λ (x : List ℕ). done (work (sets s.words (at + 1) x) (set s.results i k) s.root)) (slotted-words fs n l.2.0 l.2.1 e l.2.2)
  by_step entity m lost n e (goes fs k first rest) l false = ap (λ (x : List ℕ). done (work (sets s.words (at + 1) x) s.results s.root)) (slotted-words fs n l.2.0 l.2.1 e l.2.2)

  slots_turned : (entity : ℕ) (m : Membership) (lost : Bool) → turned_by (look_of (kind_here ws at)).opens i at s (step_at C entity (held lost m) ws at) ≡ applied i at s (told_by s.root.name at (out_by (look_of (kind_here ws at)).opens (step_at C entity (held lost m) ws at)))
  unfolding step_at
  slots_turned entity m lost = by (length (fields_of (entry_of (kind_here ws at)).follows)) refl (two_or_more (entry_of (kind_here ws at)).follows has)
    where
      by : (n : ℕ) → length (fields_of (entry_of (kind_here ws at)).follows) ≡ n → 2 ≤ n
          → turned_by (look_of (kind_here ws at)).opens i at s (node_step C entity (held lost m) (entry_of (kind_here ws at)).follows (value_in ws at) (fields_at ws (at + 1) n))
          ≡ applied i at s (told_by s.root.name at (out_by (look_of (kind_here ws at)).opens (node_step C entity (held lost m) (entry_of (kind_here ws at)).follows (value_in ws at) (fields_at ws (at + 1) n))))
      by zero e h = absurd (omega arith)
      by (suc zero) e h = absurd (omega arith)
      by (suc (suc n)) e h =
          by_step entity m lost n e (node_step C entity (held lost m) (entry_of (kind_here ws at)).follows (value_in ws at) (fields_at ws (at + 1) (suc (suc n))))
          (look-leaves C entity m lost (entry_of (kind_here ws at)).follows (value_in ws at) (fields_at ws (at + 1) (suc (suc n))) has) (look_of (kind_here ws at)).opens

node_turned : (K : KnownTables) (ws : List ℕ) (i : ℕ) (n : Note) (s : Work) → NodeStands ws n.place
    → turn_node K ws i n s ≡ applied i n.place s (told_by s.root.name n.place (out_at (citing K s.root) (get_or s.results n.inside 0) (held n.lost s.root.member) ws n.place))
unfolding turn_node out_at
node_turned K ws i n s st = go (look_of (kind_here ws n.place)).slots refl
  where
    go : (b : Bool) → (look_of (kind_here ws n.place)).slots ≡ b
        → pick b (turned_by (look_of (kind_here ws n.place)).opens i n.place s (step_at (citing K s.root) (get_or s.results n.inside 0) (held n.lost s.root.member) ws n.place)) (done s)
        ≡ applied i n.place s (told_by s.root.name n.place (pick b (out_by (look_of (kind_here ws n.place)).opens (step_at (citing K s.root) (get_or s.results n.inside 0) (held n.lost s.root.member) ws n.place)) (Ok Passes)))
    go true e = slots_turned (citing K s.root) ws n.place i s st e (get_or s.results n.inside 0) s.root.member n.lost
    go false e = refl

-- ---- as the code has it

module _ {ws words notes : List ℕ} {i : ℕ} (a : NoteAsked ws words notes i) where
  module _ {note : taken.Note} (q : note ≡ note_of (get_or notes i 0)) where
    same-note : note ≡ as_read a.n
    same-note = read_is a.n a.is a.stands.near q

    pub node-stands : (note.inside ≡ 0 → ⊥) → NodeStands ws note.place
    node-stands h = rw same-note (a.stands.node (λ e. h (ap (λ (x : taken.Note). x.inside) same-note ∙ e)))

module _ (k : Known) (words notes : List ℕ) (i : ℕ) (r : code.Root) {note : taken.Note} (q : note ≡ note_of (get_or notes i 0)) where
  abbrev ws : List ℕ
  ws = k.tables.pack.now

  abbrev K : KnownTables
  K = known_by k

  same : (n : Note) → get_or notes i 0 ≡ note_code n → Stands ws i n → note ≡ as_read n
  same n is st = read_is n is st.near q

  -- a rule or relation
  pub opens-root : note.inside ≡ 0 → {x : code.Root} → RootOpened ws k.tables.acts.now note.place x → NoteTurned k i r words notes (Ok x) words (set notes i x.entity)
  unfolding turn_note open_root
  opens-root h {x} o = record { each = each; long = refl; wide = length-set notes i x.entity; others = λ j z. get_or-set_other notes i j x.entity 0 z }
    where
      each : (n : Note) → get_or notes i 0 ≡ note_code n → Stands ws i n → NextBy ws (turn_note K ws i n (work words notes (root_in ws r))) (Ok x) words (set notes i x.entity)
      each n is st = rw (eq-eqb n.inside 0 (sym (ap (λ (y : taken.Note). y.inside) (same n is st)) ∙ h)) (go (eqb (kind_here ws n.place) 23) refl (subst (λ (y : taken.Note). RootOpened ws k.tables.acts.now y.place x) (same n is st) o))
        where
          go : (b : Bool) → eqb (kind_here ws n.place) 23 ≡ b → RootOpened ws k.tables.acts.now n.place x
              → NextBy ws (done (pick b (work words (set notes i (value_in ws (n.place + 2))) (rule_root ws n.place)) (work words (set notes i (related_kind (K.tables.derived (value_in ws n.place)))) (relation_root K ws n.place)))) (Ok x) words (set notes i x.entity)
          go true e p = let q = p.rule (eqb-true (kind_here ws n.place) 23 e) in (x, refl, q.1, refl, ap (set notes i) q.0)
          go false e p = let q = p.relation (eqb-false (kind_here ws n.place) 23 e) k.tables.taken.now k.blocks.at k.blocks.count in (x, refl, q.1, refl, ap (set notes i) q.0)

  -- a node: what came of its step
  module _ (h : note.inside ≡ 0 → ⊥) {o : Result Out Refusal}
      (t : StepTaken k (record { note = note; entity = get_or notes note.inside 0; root = r }) o) where
    its_outcome : (n : Note) → get_or notes i 0 ≡ note_code n → Stands ws i n → turn_note K ws i n (work words notes (root_in ws r)) ≡ applied i n.place (work words notes (root_in ws r)) o
    unfolding turn_note
    its_outcome n is st =
        let e : note ≡ as_read n = same n is st in
        let away : n.inside ≡ 0 → ⊥ = λ z. h (ap (λ (x : taken.Note). x.inside) e ∙ z) in
        let step : o ≡ told_by r.name n.place (out_at (citing K (root_in ws r)) (get_or notes n.inside 0) (held n.lost (member_in ws r.own)) ws n.place) =
        t.each (root_in ws r) refl ∙ ap (λ (x : taken.Note). told_by r.name x.place (out_at (citing K (root_in ws r)) (get_or notes x.inside 0) (held x.lost (member_in ws r.own)) ws x.place)) e in
        rw (ne_eqb n.inside 0 away) (node_turned K ws i n (work words notes (root_in ws r)) (st.node away) ∙ ap (applied i n.place (work words notes (root_in ws r))) (sym step))

    its-place : (n : Note) → get_or notes i 0 ≡ note_code n → Stands ws i n → note.place ≡ n.place
    its-place n is st = ap (λ (x : taken.Note). x.place) (same n is st)

    pub note-opens : {c s y : ℕ} → o ≡ Ok (Opens c s y) → {left : List ℕ} → left ≡ sets words (note.place + 1) (slot_words c s) → NoteTurned k i r words notes (Ok r) left (set notes i y)
    note-opens {c} {s} {y} e {left} q =
        record {
          others = λ j z. get_or-set_other notes i j y 0 z;
          wide = length-set notes i y;
          each = λ n is st. rw (its_outcome n is st, e) (r, refl, refl, q ∙ ap (λ (x : ℕ). sets words (x + 1) (slot_words c s)) (its-place n is st), refl);
          long = ap length q ∙ length-sets words (note.place + 1) (slot_words c s);
        }

    pub note_sets : {c s : ℕ} → o ≡ Ok (Sets c s) → {left : List ℕ} → left ≡ sets words (note.place + 1) (slot_words c s) → NoteTurned k i r words notes (Ok r) left notes
    note_sets {c} {s} e {left} q =
        record {
          others = λ j z. refl;
          wide = refl;
          each = λ n is st. rw (its_outcome n is st, e) (r, refl, refl, q ∙ ap (λ (x : ℕ). sets words (x + 1) (slot_words c s)) (its-place n is st), refl);
          long = ap length q ∙ length-sets words (note.place + 1) (slot_words c s);
        }

    pub note_passes : o ≡ Ok Passes → NoteTurned k i r words notes (Ok r) words notes
    note_passes e = record { each = λ n is st. rw (its_outcome n is st, e) (r, refl, refl, refl, refl); long = refl; wide = refl; others = λ j z. refl }

    pub note-stops : {x : Refusal} → o ≡ Err x → NoteTurned k i r words notes (Err x) words notes
    note-stops {x} e = record { each = λ n is st. rw (its_outcome n is st, e) refl; long = refl; wide = refl; others = λ j z. refl }

-- what a step sets fits into words
pub opens-fit : {o : Result Out Refusal} {c r y : ℕ} → o ≡ Ok (Opens c r y) → OutFits o → (c < 16777216) × (r < 16777216)
opens-fit e h = rw e at h

pub sets-fit : {o : Result Out Refusal} {c r : ℕ} → o ≡ Ok (Sets c r) → OutFits o → (c < 16777216) × (r < 16777216)
sets-fit e h = rw e at h

-- a node whose slots are set has them
sets_slots : (C : Citing) (entity : ℕ) (m : Membership) (ws : List ℕ) (at name : ℕ) {o : Result Out Refusal} → o ≡ told_by name at (out_at C entity m ws at) → (o ≡ Ok Passes → ⊥) → (look_of (kind_here ws at)).slots ≡ true
unfolding out_at
sets_slots C entity m ws at name {o} e h = go (look_of (kind_here ws at)).slots refl e
  where
    go : (b : Bool) → (look_of (kind_here ws at)).slots ≡ b → o ≡ told_by name at (pick b (out_by (look_of (kind_here ws at)).opens (step_at C entity m ws at)) (Ok Passes)) → (look_of (kind_here ws at)).slots ≡ true
    go true q e = q
    go false q e = absurd (h e)

module _ (k : Known) (n : Node) {o : Result Out Refusal} (t : StepTaken k n o) where
  its-slots : (o ≡ Ok Passes → ⊥) → (look_of (kind_here k.tables.pack.now n.note.place)).slots ≡ true
  its-slots h = let root : Root = record { name = 0; origin = n.root.origin; member = none } in sets_slots (citing (known_by k) root) n.entity (held n.note.lost (member_in k.tables.pack.now n.root.own)) k.tables.pack.now n.note.place n.root.name (t.each root refl) h

  pub opens_some : {c r y : ℕ} → o ≡ Ok (Opens c r y) → (look_of (kind_here k.tables.pack.now n.note.place)).slots ≡ true
  opens_some e = its-slots (λ q. let z : ◌≡◌ {A = ℕ} 0 1 = cc in omega arith)

  pub sets_some : {c r : ℕ} → o ≡ Ok (Sets c r) → (look_of (kind_here k.tables.pack.now n.note.place)).slots ≡ true
  sets_some e = its-slots (λ q. let z : ◌≡◌ {A = ℕ} 0 1 = cc in omega arith)
