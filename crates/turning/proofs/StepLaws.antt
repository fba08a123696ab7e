-- What the code reads of a noted node is the node's step.
use Prim.Native.Nat.{ℕ, suc, ◌+◌, ◌<◌, ◌≤◌}
use native.Mathlib.Omega.{arith}
use native.Mathlib.Numerals.{add-one}
use mathlib.Core.Path.{◌≡◌, refl, ap, sym, ◌∙◌, subst}
use mathlib.Core.List.{List, [], ◌∷◌}
use mathlib.Core.Bool.{Bool, true, false}
use lib.ListN.{length, get_or}
use lib.Seq.{drop-cons}
use lib.Dec.{eqb, ltb}
use borrow.Author.Tests.{eqb-true, eqb-false, ltb-true, ltb-false}
use Rattle.definitions.specs.declared.table.Follows.{Follows}
use Rattle.definitions.specs.declared.table.Follows.TheVariants.{Aggregate, OnlyRelated, Slots}
use Rattle.definitions.specs.Table.{pick, kind_of, value_of, entry_of, table, fields_of}
use Rattle.pack.proofs.Listed.{in_range}
use Rattle.pack.proofs.EachFollows.{where_true}
use Rattle.definitions.specs.declared.direction.Direction.{Direction}
use Rattle.definitions.specs.declared.direction.Direction.TheVariants.{Directed, Open}
use Rattle.definitions.specs.Direction.{Membership}
use Rattle.definitions.specs.Direction as direction
use Rattle.definitions.specs.Tables.{Tables}
use Rattle.definitions.specs.Tree.{Fields}
use Rattle.definitions.specs.ResolvingTrees.{with_slots, stops, aggregate, allowed_input, only_related, membership_test, node_step}
use Rattle.directions.specs.Words.{tables_in, member_in, MemberTurned, SlotsFit}
use Rattle.std.specs.Prelude.{Result, Ok, Err}
use Rattle.reading.proofs.TreeLaws.{aggregate-kind}
use Rattle.definitions.specs.declared.answer.Number.{Number}
use Rattle.definitions.specs.declared.answer.Number.TheVariants.{DerivedInput}
use Rattle.inputs.specs.Blocks.{input_in, refuses_by}
use Rattle.directions.proofs.SlotLaws.{turned_fits, member_fits_code}
use Rattle.turning.specs.declared.step.Out.{Out}
use Rattle.turning.specs.declared.step.Out.TheVariants.{Sets, Passes}
use Rattle.definitions.specs.declared.answer.Refusal.{Refusal}
use Rattle.turning.specs.declared.step.Node.{Node}
use Rattle.turning.specs.declared.known.Known.{Known}
use Rattle.turning.specs.Notes.{look_by, look_of}
use Rattle.turning.specs.Turns.{held, value_in, kind_here, fields_at, step_at}
use Rattle.turning.specs.TurnPromises.{NodeStands, turn_at, out_by, out_at, told_by, refused_at, directed_by, went_by, tested_by, told_input, opened_by, only_by, turned_in, only_in, aggregate_in, member_at, tested_in, OutFits, StepTaken}

-- ---- fields read from the words

abbrev field_at : List ℕ → ℕ → ℕ × ℕ
field_at ws at = (kind_here ws at, value_in ws at)

one_field : (ws : List ℕ) (at n : ℕ) → at < length ws → fields_at ws at (suc n) ≡ field_at ws at ∷ fields_at ws (at + 1) n
one_field ws at n h = rw (drop-cons ws at 0 h, add-one) refl

pub two_fields : (ws : List ℕ) (at n : ℕ) → at + 2 < length ws → fields_at ws (at + 1) (suc (suc n)) ≡ field_at ws (at + 1) ∷ field_at ws (at + 2) ∷ fields_at ws (at + 3) n
two_fields ws at n h =
    let a : at + 1 + 1 ≡ at + 2 = omega arith in
    let b : at + 2 + 1 ≡ at + 3 = omega arith in
    one_field ws (at + 1) (suc n) (omega arith) ∙ ap (λ (x : ℕ). field_at ws (at + 1) ∷ fields_at ws x (suc n)) a ∙ ap (λ (l : Fields). field_at ws (at + 1) ∷ l) (one_field ws (at + 2) n h)
    ∙ ap (λ (x : ℕ). field_at ws (at + 1) ∷ field_at ws (at + 2) ∷ fields_at ws x n) b

-- ---- which step it is

pub test_kind : (k : ℕ) → k ≡ 101 → (entry_of k).follows ≡ Slots
unfolding entry_of table
test_kind k e = rw e refl

pub only-kind : (k : ℕ) → k ≡ 78 → (entry_of k).follows ≡ OnlyRelated
unfolding entry_of table
only-kind k e = rw e refl

slots-few : (k : ℕ) → k < 74 → (look_of k).slots ≡ false
unfolding look_by entry_of table
slots-few k h = in_range (λ (x : ℕ). (look_of x).slots) false 0 74 refl k (omega arith) h

slots_middle : (k : ℕ) → 79 ≤ k → k < 101 → (look_of k).slots ≡ false
unfolding look_by entry_of table
slots_middle k l h = in_range (λ (x : ℕ). (look_of x).slots) false 79 22 refl k l h

slots-last : (k : ℕ) → 102 ≤ k → k < 256 → (look_of k).slots ≡ false
unfolding look_by entry_of table
slots-last k l h = in_range (λ (x : ℕ). (look_of x).slots) false 102 154 refl k l h

pub no_slots : (k : ℕ) → k < 256 → (k ≡ 101 → ⊥) → (74 ≤ k → 78 < k) → (look_of k).slots ≡ false
no_slots k small a c = go (ltb k 74) refl (ltb k 79) refl (ltb k 101) refl
  where
    go : (x : Bool) → ltb k 74 ≡ x → (y : Bool) → ltb k 79 ≡ y → (z : Bool) → ltb k 101 ≡ z → (look_of k).slots ≡ false
    go true e y f z g = slots-few k (ltb-true k 74 e)
    go false e true f z g = let l = ltb-false k 74 e in let h = ltb-true k 79 f in let q = c l in absurd (omega arith)
    go false e false f true g = slots_middle k (ltb-false k 79 f) (ltb-true k 101 g)
    go false e false f false g = let l = ltb-false k 101 g in slots-last k (omega arith) small

-- a node with slots has two fields
pub two_or_more : (w : Follows) → (look_by w).slots ≡ true → 2 ≤ length (fields_of w)
unfolding look_by fields_of
two_or_more = where_true (λ w. (look_by w).slots) (λ w. 2 ≤ length (fields_of w)) (omega arith, (omega arith, (omega arith, tt)))

pub three_words : {ws : List ℕ} {at : ℕ} → NodeStands ws at → (look_of (kind_here ws at)).slots ≡ true → at + 2 < length ws
three_words {ws} {at} s e = omega (arith, two_or_more (entry_of (kind_here ws at)).follows e, s.fields)

pub four_words : {ws : List ℕ} {at : ℕ} → NodeStands ws at → (entry_of (kind_here ws at)).follows ≡ OnlyRelated → at + 3 < length ws
unfolding fields_of
four_words {ws} {at} s e = let h = s.fields in let l = ap (λ (w : Follows). length (fields_of w)) e in omega arith

-- the three that have slots
pub slots_of : {w v : Follows} → w ≡ v → (look_by v).slots ≡ true → (look_by w).slots ≡ true
slots_of e h = ap (λ (x : Follows). (look_by x).slots) e ∙ h

pub aggregate-slots : (look_by Aggregate).slots ≡ true
unfolding look_by
aggregate-slots = refl

pub only-slots : (look_by OnlyRelated).slots ≡ true
unfolding look_by
only-slots = refl

-- an aggregate of any sort
pub turned_slots : (k : ℕ) → 74 ≤ k → k < 79 → (look_of k).slots ≡ true
turned_slots k l h = go (eqb k 78) refl
  where
    go : (b : Bool) → eqb k 78 ≡ b → (look_of k).slots ≡ true
    go true e = slots_of (only-kind k (eqb-true k 78 e)) only-slots
    go false e = slots_of (aggregate-kind k l (let z = eqb-false k 78 e in omega arith)) aggregate-slots

pub test_slots : (look_by Slots).slots ≡ true
unfolding look_by
test_slots = refl

-- ---- the steps by their directions

went_out : (n : Node) (a b : ℕ × ℕ) (fs : Fields) (d : Direction) → went_by n d ≡ told_by n.root.name n.note.place (out_by true (aggregate (a ∷ b ∷ fs) d))
went_out n a b fs (Directed c r k) = refl
went_out n a b fs (Open o) = refl

test_out : (n : Node) (a b : ℕ × ℕ) (fs : Fields) (entity : ℕ) (m : Membership) (d : Direction) → tested_by n d ≡ told_by n.root.name n.note.place (out_by false (membership_test (a ∷ b ∷ fs) entity m d))
test_out n a b fs entity m (Directed c r k) = refl
test_out n a b fs entity m (Open o) = refl

only_out : (n : Node) (allowed : ℕ → ℕ → Result (Unit {0}) Number) (a b : ℕ × ℕ) (word : ℕ) (fs : Fields) (d : Direction)
    → only_by allowed word n d ≡ told_by n.root.name n.note.place (out_by true (only_related (λ owner n. refuses_by (allowed owner n)) (a ∷ b ∷ (kind_of word, value_of word) ∷ fs) d))
only_out n allowed a b word fs (Open o) = refl
only_out n allowed a b word fs (Directed c r owner) = go (eqb (kind_of word) 84) (allowed owner (value_of word))
  where
    go : (x : Bool) (v : Result (Unit {0}) Number)
        → opened_by c r (pick x (Err (refused_at n DerivedInput (value_of word))) (told_input n (value_of word) v))
        ≡ told_by n.root.name n.note.place (out_by true (pick x (stops 11 (value_of word)) (allowed_input (with_slots c r (a ∷ b ∷ (kind_of word, value_of word) ∷ fs)) (value_of word) (refuses_by v))))
    go true v = refl
    go false (Ok u) = refl
    go false (Err e) = refl

module _ {k : Known} {n : Node} (s : NodeStands k.tables.pack.now n.note.place) where
  pub went_taken : (entry_of (kind_here k.tables.pack.now n.note.place)).follows ≡ Aggregate → {o : Result Out Refusal} → (o ≡ went_by n (turned_in k n)) × OutFits o → StepTaken k n o
  unfolding out_at step_at node_step fields_of turn_at look_by
  went_taken e q =
      record {
        each = λ root same. q.0 ∙ rw (e, two_fields k.tables.pack.now n.note.place 2 (three_words s (slots_of e aggregate-slots)))
            (went_out n (field_at k.tables.pack.now (n.note.place + 1)) (field_at k.tables.pack.now (n.note.place + 2)) (fields_at k.tables.pack.now (n.note.place + 3) 2) (turned_in k n));
        fits = q.1;
      }

  pub only-taken : (entry_of (kind_here k.tables.pack.now n.note.place)).follows ≡ OnlyRelated → {o : Result Out Refusal} → (o ≡ only_in k n (turned_in k n)) × OutFits o → StepTaken k n o
  unfolding out_at step_at node_step fields_of turn_at look_by
  only-taken e q =
      record {
        each = λ root same. q.0 ∙ rw (e, same, two_fields k.tables.pack.now n.note.place 1 (three_words s (slots_of e only-slots)), one_field k.tables.pack.now (n.note.place + 3) 0 (four_words s e))
            (only_out n (input_in k.tables.pack.now k.blocks.at k.blocks.count n.root.origin) (field_at k.tables.pack.now (n.note.place + 1)) (field_at k.tables.pack.now (n.note.place + 2)) (get_or k.tables.pack.now (n.note.place + 3) 0) [] (turned_in k n));
        fits = q.1;
      }

  pub test_taken : (entry_of (kind_here k.tables.pack.now n.note.place)).follows ≡ Slots → {o : Result Out Refusal} → (o ≡ tested_in k n) × OutFits o → StepTaken k n o
  unfolding out_at step_at node_step fields_of look_by
  test_taken e q =
      record {
        each = λ root same. q.0 ∙ rw (e, two_fields k.tables.pack.now n.note.place 0 (three_words s (slots_of e test_slots)))
            (test_out n (field_at k.tables.pack.now (n.note.place + 1)) (field_at k.tables.pack.now (n.note.place + 2)) [] n.entity (held n.note.lost (member_in k.tables.pack.now n.root.own)) (member_at k n));
        fits = q.1;
      }

  -- an aggregate of any kind
  pub aggregate_taken : 74 ≤ kind_here k.tables.pack.now n.note.place → kind_here k.tables.pack.now n.note.place < 79 → {o : Result Out Refusal} → (o ≡ aggregate_in k n (kind_here k.tables.pack.now n.note.place)) × OutFits o → StepTaken k n o
  aggregate_taken l h {o} q = go (eqb (kind_here k.tables.pack.now n.note.place) 78) refl q.0
    where
      go : (b : Bool) → eqb (kind_here k.tables.pack.now n.note.place) 78 ≡ b → o ≡ pick b (only_in k n (turned_in k n)) (went_by n (turned_in k n)) → StepTaken k n o
      go true e f = only-taken (only-kind _ (eqb-true (kind_here k.tables.pack.now n.note.place) 78 e)) (f, q.1)
      go false e f = went_taken (aggregate-kind _ l (let z = eqb-false (kind_here k.tables.pack.now n.note.place) 78 e in omega arith)) (f, q.1)

  pub none-taken : (look_of (kind_here k.tables.pack.now n.note.place)).slots ≡ false → StepTaken k n (Ok Passes)
  unfolding out_at
  none-taken e = record { each = λ root same. rw e refl; fits = tt }

-- ---- directions

by_direction : (n : Node) (d : Direction) (c r x : ℕ) → directed_by n d ≡ Ok (c, r, x) → d ≡ Directed c r x
by_direction n (Directed a b y) c r x e = let t : ◌≡◌ {A = ℕ × ℕ × ℕ} (a, b, y) (c, r, x) = cc in λ j. Directed (t j).0 (t j).1 (t j).2
by_direction n (Open other) c r x e = let z : ◌≡◌ {A = ℕ} 0 1 = cc in absurd (omega arith)

-- the relation of a node and its slots
abbrev words_of : Known → Node → ℕ × ℕ × ℕ
words_of k n = (value_in k.tables.pack.now n.note.place, value_in k.tables.pack.now (n.note.place + 1), value_in k.tables.pack.now (n.note.place + 2))

pub turned-out : (k : Known) (n : Node) {w : ℕ × ℕ × ℕ} → w ≡ words_of k n → {d : Direction} → d ≡ direction.turn (tables_in k.tables.pack.now k.tables.acts.now k.tables.taken.now) w.0 n.entity w.1 w.2 → (d ≡ turned_in k n) × SlotsFit d
unfolding turn_at
turned-out k n q {d} e =
    let ws : List ℕ = k.tables.pack.now in
    let T : Tables = tables_in ws k.tables.acts.now k.tables.taken.now in
    let t : d ≡ direction.turn T (value_in ws n.note.place) n.entity (value_in ws (n.note.place + 1)) (value_in ws (n.note.place + 2)) = e ∙ ap (λ (x : ℕ × ℕ × ℕ). direction.turn T x.0 n.entity x.1 x.2) q in
    (t, turned_fits _ _ _ _ _ _ _ (omega arith) (omega arith) t)

pub tested-out : (k : Known) (n : Node) {w : ℕ × ℕ × ℕ} → w ≡ words_of k n → (own : ℕ) → ((ws : List ℕ) → member_in ws own ≡ held n.note.lost (member_in ws n.root.own)) → {d : Direction} {c r x : ℕ}
    → MemberTurned k.tables.pack.now k.tables.acts.now w.0 (member_in k.tables.pack.now own) w.1 w.2 d → Ok (c, r, x) ≡ directed_by n d → (Ok (Sets c r) ≡ tested_in k n) × OutFits (Ok (Sets c r))
tested-out k n w own keep {d} {c} {r} {x} t e =
    let ws : List ℕ = k.tables.pack.now in
    let q : d ≡ Directed c r x = by_direction n d c r x (sym e) in
    let at : MemberTurned ws k.tables.acts.now (value_in ws n.note.place) (member_in ws own) (value_in ws (n.note.place + 1)) (value_in ws (n.note.place + 2)) d = subst (λ (y : ℕ × ℕ × ℕ). MemberTurned ws k.tables.acts.now y.0 (member_in ws own) y.1 y.2 d) w t in
    let f : SlotsFit d = member_fits_code ws k.tables.acts.now (value_in ws n.note.place) (member_in ws own) (value_in ws (n.note.place + 1)) (value_in ws (n.note.place + 2)) (omega arith) (omega arith) at in
    let m : d ≡ member_at k n = rw (← keep ws) (at k.tables.taken.now) in
    (ap (tested_by n) (sym q ∙ m), subst SlotsFit q f)
