-- The walkers of trees meet their contracts.
use Rattle.std.specs.Prelude.{Result, Err}
use Rattle.reading.specs.declared.fault.Fault.{Fault}
use Rattle.reading.specs.Faults.{walked}
use Prim.Native.Nat.{ℕ, suc, ◌+◌, ◌%◌, ◌<◌, ◌≤◌}
use native.Mathlib.Omega.{arith}
use mathlib.Core.Path.{◌≡◌, refl, ap, sym, ◌∙◌}
use mathlib.Core.Bool.{true, false}
use lib.ListN.{get_or}
use borrow.Author.Rules.{part_to_end}
use Rattle.definitions.specs.declared.table.Follows.TheVariants.{Patterns, Periods, Choice, Aggregate, OnlyRelated, Slots, Atom, Exists}
use Rattle.definitions.specs.Table.{kind_of, value_of, entry_of, table, fields_of, children_of, how_many, scalar as scalar-sort, judgment as judgment-sort}
use Rattle.definitions.specs.Tree.{follow}
use Rattle.reading.specs.Notes.{look_by, noted}
use Rattle.reading.proofs.TreeLaws.{aggregate-kind, other_leaf, scalar_row, comparison_row, judgment_row, leaf_low, leaf_last, leaf_between, compared, scalar-kind, judgment-kind}
use Rattle.reading.proofs.WalkLaws.{step_within, fielded, row_plain}
use Rattle.reading.proofs.NotingLaws.{by_shape, after_row, after_bare, after_leaf, after-words, steady_scalar, steady_judgment, noted-aggregate, plain-low, plain-between, plain-last}
use Rattle.reading.proofs.RowLaws.{handed_noted, noted_as, row_walked, head_refused, begun, past_leaf, past-last, node-refused, forward, past-node, first-refused, first_then, rows_as, fields-refused, where_rows, exists_rows, compared_rows}
use Rattle.reading.proofs.PartLaws.{shifted, based_losing, based_inside, based_part, part_long, part_rows}
use Rattle.reading.proofs.tree.+walkers.Goals as goal
use Rattle.reading.proofs.tree.+walkers.Goals.{after_judgment-in_default-via-then-kind-lt96, after_judgment-in_default-via-else-kind-lt96+else-kind-lt101}

pub after_judgment-returns-in-96 : goal.after_judgment-returns-in-96
after_judgment-returns-in-96 t c =
    let k : ℕ = kind_of (get_or c.args.part.words.now c.args.at 0) in let e = c.in-96.is in after_row _ _ _ _ k
    (value_of (get_or c.args.part.words.now c.args.at 0)) _ scalar-sort (comparison_row (value_of (get_or c.args.part.words.now c.args.at 0)) k e)
    (compared k (value_of (get_or c.args.part.words.now c.args.at 0)) e) (steady_judgment k (omega (arith, e)) (omega (arith, e))) c.scalars.ensures

pub after_judgment-returns-in-101 : goal.after_judgment-returns-in-101
unfolding entry_of table fields_of children_of noted look_by
after_judgment-returns-in-101 t c =
    after-words _ _ _ _ (kind_of (get_or c.args.part.words.now c.args.at 0)) (value_of (get_or c.args.part.words.now c.args.at 0)) _ Slots
    (ap (λ (k : ℕ). (entry_of k).follows) c.in-101.is) (ap noted c.in-101.is) (λ last. refl) (c.slots.ensures _) c.note.ensures.1

pub after_judgment-returns-in-102 : goal.after_judgment-returns-in-102
unfolding entry_of table fields_of children_of noted look_by
after_judgment-returns-in-102 t c =
    after-words _ _ _ _ (kind_of (get_or c.args.part.words.now c.args.at 0)) (value_of (get_or c.args.part.words.now c.args.at 0)) _ Atom
    (ap (λ (k : ℕ). (entry_of k).follows) c.in-102.is) (ap noted c.in-102.is) (λ last. refl) (c.atom.ensures _) c.note-in-102.ensures.1

pub after_judgment-returns-in-103 : goal.after_judgment-returns-in-103
unfolding entry_of table fields_of children_of noted look_by follow
after_judgment-returns-in-103 t c =
    by_shape _ _ _ _ (kind_of (get_or c.args.part.words.now c.args.at 0)) (value_of (get_or c.args.part.words.now c.args.at 0)) _ true Exists
    (ap (λ (k : ℕ). (entry_of k).follows) c.in-103.is) (ap noted c.in-103.is) c.exists.ensures

pub after_judgment-returns-in-104 : goal.after_judgment-returns-in-104
unfolding entry_of table noted look_by
after_judgment-returns-in-104 t c =
    after_leaf _ _ _ _ (kind_of (get_or c.args.part.words.now c.args.at 0)) (value_of (get_or c.args.part.words.now c.args.at 0)) _
    (leaf_last (value_of (get_or c.args.part.words.now c.args.at 0)) (kind_of (get_or c.args.part.words.now c.args.at 0)) (omega (arith, c.in-104.is))
    (omega (arith, c.in-104.is))) true (ap noted c.in-104.is) _ c.note-in-104.ensures.1

pub after_judgment-returns-in-97-to-100 : goal.after_judgment-returns-in-97-to-100
after_judgment-returns-in-97-to-100 t c =
    let k : ℕ = kind_of (get_or c.args.part.words.now c.args.at 0) in let lo : 97 ≤ k = omega arith in after_row _ _ _ _ k
    (value_of (get_or c.args.part.words.now c.args.at 0)) _ judgment-sort
    (judgment_row (value_of (get_or c.args.part.words.now c.args.at 0)) k lo (omega arith)) c.children.ensures
    (steady_judgment k (omega arith) (omega arith)) c.judgments.ensures

pub after_judgment-returns-in_default : goal.after_judgment-returns-in_default
after_judgment-returns-in_default t c =
    let k : ℕ = kind_of (get_or c.args.part.words.now c.args.at 0) in let lo : 104 < k =
    elim c.in_default.branch [
      | after_judgment-in_default-via-then-kind-lt96 w ↦ absurd (omega (arith, c.requires.1))
      | after_judgment-in_default-via-else-kind-lt96+else-kind-lt101 w ↦ omega arith
    ] in let hi : k < 256 = omega arith in after_leaf _ _ _ _ k
    (value_of (get_or c.args.part.words.now c.args.at 0)) _ (leaf_last (value_of (get_or c.args.part.words.now c.args.at 0)) k (omega (arith, lo)) hi) false
    (plain-last k lo hi) _ refl

pub after_other-scalars-requires : goal.after_other-scalars-requires
after_other-scalars-requires t c =
    (omega arith, (omega (arith, c.requires.0), based_losing _ c.requires.2 c.lost.ensures))

pub after_other-returns-in-72 : goal.after_other-returns-in-72
unfolding entry_of table fields_of children_of noted look_by
after_other-returns-in-72 t c =
    after_bare _ _ _ _ (kind_of (get_or c.args.part.words.now c.args.at 0)) (value_of (get_or c.args.part.words.now c.args.at 0)) _ Patterns
    (ap (λ (k : ℕ). (entry_of k).follows) c.in-72.is) (ap noted c.in-72.is) refl c.patterns.ensures

pub after_other-returns-in-73 : goal.after_other-returns-in-73
unfolding entry_of table fields_of children_of noted look_by
after_other-returns-in-73 t c =
    after_bare _ _ _ _ (kind_of (get_or c.args.part.words.now c.args.at 0)) (value_of (get_or c.args.part.words.now c.args.at 0)) _ Periods
    (ap (λ (k : ℕ). (entry_of k).follows) c.in-73.is) (ap noted c.in-73.is) refl
    (rows_as _ _ scalar-sort _ (c.children-count.ensures ∙ ap (λ (k : ℕ). how_many (entry_of k).follows (value_of (get_or c.args.part.words.now c.args.at 0)))
    c.in-73.is) c.lost.ensures c.scalars.ensures)

pub after_other-returns-in-71 : goal.after_other-returns-in-71
unfolding entry_of table fields_of children_of noted look_by
after_other-returns-in-71 t c =
    after_bare _ _ _ _ (kind_of (get_or c.args.part.words.now c.args.at 0)) (value_of (get_or c.args.part.words.now c.args.at 0)) _ Choice
    (ap (λ (k : ℕ). (entry_of k).follows) c.in-71.is) (ap noted c.in-71.is) refl c.choice.ensures

pub after_other-returns-in-78 : goal.after_other-returns-in-78
unfolding entry_of table fields_of children_of noted look_by
after_other-returns-in-78 t c =
    after-words _ _ _ _ (kind_of (get_or c.args.part.words.now c.args.at 0)) (value_of (get_or c.args.part.words.now c.args.at 0)) _ OnlyRelated
    (ap (λ (k : ℕ). (entry_of k).follows) c.in-78.is) (ap noted c.in-78.is) (λ last. refl) c.only_related.ensures c.note.ensures.1

pub after_other-returns-in_default : goal.after_other-returns-in_default
after_other-returns-in_default t c =
    let k : ℕ = kind_of (get_or c.args.part.words.now c.args.at 0) in let v = value_of (get_or c.args.part.words.now c.args.at 0) in
    other_leaf k c.requires.1 (λ z. omega arith) (λ z. omega arith) (λ z. omega arith) (λ z. omega arith)
    (λ lo. after_leaf _ _ _ _ k v _ (leaf_low v k lo) false (plain-low k lo) _ refl)
    (λ lo hi. after_leaf _ _ _ _ k v _ (leaf_between v k (omega (arith, lo)) (λ z. omega arith) hi) false (plain-between k lo hi) _ refl)

pub after_scalar-returns-in-66-to-70 : goal.after_scalar-returns-in-66-to-70
after_scalar-returns-in-66-to-70 t c =
    let k : ℕ = kind_of (get_or c.args.part.words.now c.args.at 0) in let lo : 66 ≤ k = omega arith in let hi : k < 71 = omega arith in after_row _ _ _ _ k
    (value_of (get_or c.args.part.words.now c.args.at 0)) _ scalar-sort
    (scalar_row (value_of (get_or c.args.part.words.now c.args.at 0)) k lo (omega (arith, hi)) (λ z. omega (arith, hi))) c.children-count.ensures
    (steady_scalar k lo hi) c.scalars.ensures

pub after_scalar-returns-in-74-to-77 : goal.after_scalar-returns-in-74-to-77
unfolding follow children_of
after_scalar-returns-in-74-to-77 t c =
    let k : ℕ = kind_of (get_or c.args.part.words.now c.args.at 0) in by_shape _ _ _ _ k (value_of (get_or c.args.part.words.now c.args.at 0)) _ true Aggregate
    (aggregate-kind k (omega arith) (omega arith)) (noted-aggregate k (omega arith) (omega arith)) c.aggregate.ensures

-- of an aggregate, its fields that were read
pub aggregate-returns-in_err-root : goal.aggregate-returns-in_err-root
aggregate-returns-in_err-root t c =
    handed_noted _ _ _ _ _ _ _ c.from_residual.ensures.1 (fields-refused _ _ 0 _ true Aggregate _ _ (c.in_err-root.ensures _) refl)

pub aggregate-bounds-part-at : goal.aggregate-bounds-part-at
aggregate-bounds-part-at t c =
    let f = fielded 0 _ _ c.requires.0 (c.in_ok-root.ensures 0) refl in omega (arith, f.past, f.there)

pub aggregate-returns-then-compares : goal.aggregate-returns-then-compares
aggregate-returns-then-compares t c =
    let f = fielded c.args.part.heads.now.names _ _ c.requires.0 (c.in_ok-root.ensures _) refl in
    where_rows _ _ c.args.context _ _ f
    (ap (λ (i : ℕ). i + c.args.context % 8192) c.note.ensures.0) c.note.ensures.1
    (compared_rows _ _ _ _ _ (c.compares.ensures c.if-compares.true) c.if-flag-eq1.true _ refl c.scalars.ensures)

pub aggregate-offset_bounds-part-root : goal.aggregate-offset_bounds-part-root
aggregate-offset_bounds-part-root t c =
    let f = fielded 0 _ _ c.requires.0 (c.in_ok-root.ensures 0) refl in omega (arith, f.there, c.args.part.few)

pub aggregate-slice_bounds-inside-count : goal.aggregate-slice_bounds-inside-count
aggregate-slice_bounds-inside-count t c = (fielded 0 _ _ c.requires.0 (c.in_ok-root.ensures 0) refl).there

pub aggregate-slice_bounds-inside-start : goal.aggregate-slice_bounds-inside-start
aggregate-slice_bounds-inside-start t c =
    let f = fielded 0 _ _ c.requires.0 (c.in_ok-root.ensures 0) refl in omega (arith, f.there, c.args.part.few)

pub aggregate-overflow_cast-root : goal.aggregate-overflow_cast-root
aggregate-overflow_cast-root t c =
    let f = fielded 0 _ _ c.requires.0 (c.in_ok-root.ensures 0) refl in omega (arith, f.there, c.args.part.few)

pub aggregate-overflow_add-inner-2 : goal.aggregate-overflow_add-inner-2
aggregate-overflow_add-inner-2 t c =
    let f = fielded 0 _ _ c.requires.0 (c.in_ok-root.ensures 0) refl in omega (arith, f.there, c.args.part.few, c.note.ensures.0)

pub aggregate-judgments-requires : goal.aggregate-judgments-requires
aggregate-judgments-requires t c =
    let f = fielded 0 _ _ c.requires.0 (c.in_ok-root.ensures 0) refl in
    let l = part_long c.args.part.words.now c.in_ok-root.root f.there in
    (omega arith, (omega arith, based_part _ _ l c.requires.1 c.args.notes.now c.note.ensures.0))

pub aggregate-overflow_add-result : goal.aggregate-overflow_add-result
aggregate-overflow_add-result t c =
    let f = fielded 0 _ _ c.requires.0 (c.in_ok-root.ensures 0) refl in
    let l = part_long c.args.part.words.now c.in_ok-root.root f.there in
    let w = step_within (λ a. 0) _ _ 0 (omega arith) (c.judgments.ensures.answers) (ap walked c.in-Ok.is) in
    omega (arith, l, w, c.args.part.few)

pub aggregate-behind-requires : goal.aggregate-behind-requires
aggregate-behind-requires t c =
    let f = fielded 0 _ _ c.requires.0 (c.in_ok-root.ensures 0) refl in
    let l = part_long c.args.part.words.now c.in_ok-root.root f.there in
    let p = row_plain _ _ _ _ 0 (omega arith) c.judgments.ensures.answers (ap walked c.in-Err.is) in
    (omega (arith, p.place, l, c.args.part.few), omega (arith, f.there, c.args.part.few))

pub aggregate-returns-in-Ok : goal.aggregate-returns-in-Ok
aggregate-returns-in-Ok t c =
    let f = fielded c.args.part.heads.now.names _ _ c.requires.0 (c.in_ok-root.ensures _) refl in
    let i = ap (λ (i : ℕ). i + c.args.context % 8192) c.note.ensures.0 in
    let g = based_inside _ c.requires.1 c.args.notes.now c.note.ensures.0 in
    noted_as _ _ _ _ _ (ap (λ (y : Result ℕ Fault). shifted c.in_ok-root.root (walked y)) c.in-Ok.is)
    (where_rows _ _ c.args.context _ _ f i c.note.ensures.1
    (part_rows _ _ judgment-sort (value_of (get_or c.args.part.words.now (c.args.at + 3) 0)) _ _ _ g.room (part_to_end c.args.part.words.now c.in_ok-root.root) c.judgments.ensures))

pub aggregate-returns-in-Err : goal.aggregate-returns-in-Err
aggregate-returns-in-Err t c =
    let f = fielded c.args.part.heads.now.names _ _ c.requires.0 (c.in_ok-root.ensures _) refl in
    let i = ap (λ (i : ℕ). i + c.args.context % 8192) c.note.ensures.0 in
    let g = based_inside _ c.requires.1 c.args.notes.now c.note.ensures.0 in
    noted_as _ _ _ _ _ (ap (λ (y : Result ℕ Fault). shifted c.in_ok-root.root (walked y)) c.in-Err.is ∙ ap Err (sym c.behind.ensures))
    (where_rows _ _ c.args.context _ _ f i c.note.ensures.1
    (part_rows _ _ judgment-sort (value_of (get_or c.args.part.words.now (c.args.at + 3) 0)) _ _ _ g.room (part_to_end c.args.part.words.now c.in_ok-root.root) c.judgments.ensures))

pub choice-returns-in_err-next : goal.choice-returns-in_err-next
choice-returns-in_err-next t c =
    handed_noted _ _ _ _ _ _ _ c.from_residual.ensures.1 (first-refused _ _ _ _ _ judgment-sort _ c.in_err-next.ensures refl _)

pub choice-scalars-requires : goal.choice-scalars-requires
choice-scalars-requires t c =
    (omega arith, (step_within (λ a. 0) _ _ _ c.requires.0 c.in_ok-next.ensures.answers refl, c.requires.1))

pub choice-returns : goal.choice-returns
choice-returns t c = first_then _ _ _ _ _ judgment-sort _ c.in_ok-next.ensures refl _ c.scalars.ensures

pub exists-returns-in_err-body : goal.exists-returns-in_err-body
unfolding fields_of
exists-returns-in_err-body t c =
    handed_noted _ _ _ _ _ _ _ c.from_residual.ensures.1 (fields-refused _ _ 0 _ true Exists _ _ (c.in_err-body.ensures _) refl)

pub exists-judgments-requires : goal.exists-judgments-requires
exists-judgments-requires t c =
    (omega arith, (step_within (λ a. 0) _ _ _ c.requires.0 (c.in_ok-body.ensures 0) refl, c.requires.1))

pub exists-returns : goal.exists-returns
unfolding fields_of
exists-returns t c = exists_rows _ _ _ _ _ (c.in_ok-body.ensures _) refl c.note.ensures.1 c.judgments.ensures

pub judgments-returns-in_err-next : goal.judgments-returns-in_err-next
judgments-returns-in_err-next t c = handed_noted _ _ _ _ _ _ _ c.from_residual.ensures.1 (head_refused c.loop-k.invariant.0 (omega arith) c.in_err-next.ensures refl)

pub judgments-bounds-part-at : goal.judgments-bounds-part-at
judgments-bounds-part-at t c = (begun c.loop-k.invariant.0 (omega arith) c.in_ok-next.ensures refl).inside

pub judgments-overflow_sub-left : goal.judgments-overflow_sub-left
judgments-overflow_sub-left t c = (begun c.loop-k.invariant.0 (omega arith) c.in_ok-next.ensures refl).level

pub judgments-loop-k-smaller-then-kind-le-NOT : goal.judgments-loop-k-smaller-then-kind-le-NOT
judgments-loop-k-smaller-then-kind-le-NOT t c =
    let u = begun c.loop-k.invariant.0 (omega arith) c.in_ok-next.ensures refl in omega (arith, u.inside, u.on)

pub judgments-loop-k-preserved-then-kind-le-NOT : goal.judgments-loop-k-preserved-then-kind-le-NOT
judgments-loop-k-preserved-then-kind-le-NOT t c = (
  let k : ℕ = kind_of (get_or c.args.part.words.now c.loop-k.at 0) in
      let one : c.loop-k.k ≡ 1 = omega arith in
      past-last c.loop-k.invariant.0 (omega arith) c.in_ok-next.ensures refl one (judgment_row (value_of (get_or c.args.part.words.now c.loop-k.at 0)) k (omega arith) (omega arith)) c.children-k.ensures (steady_judgment k (omega arith) (omega arith)),
  omega (arith, c.loop-k.invariant.1),
)

pub judgments-overflow_sub-left-else-k-eq0 : goal.judgments-overflow_sub-left-else-k-eq0
judgments-overflow_sub-left-else-k-eq0 t c = (begun c.loop-k.invariant.0 (omega arith) c.in_ok-next.ensures refl).level

pub judgments-after_judgment-requires : goal.judgments-after_judgment-requires
judgments-after_judgment-requires t c =
    let u = begun c.loop-k.invariant.0 (omega arith) c.in_ok-next.ensures refl in
    (omega (arith, u.level, c.loop-k.invariant.0.deep), (u.inside, judgment-kind (kind_of (get_or c.args.part.words.now c.loop-k.at 0)) u.kind, c.requires.1))

pub judgments-returns-in_err-at : goal.judgments-returns-in_err-at
judgments-returns-in_err-at t c =
    handed_noted _ _ _ _ _ _ _ c.from_residual-in_err-at.ensures.1 (node-refused c.loop-k.invariant.0 (omega arith) c.in_ok-next.ensures refl c.in_err-at.ensures refl)

pub judgments-loop-k-smaller-else-k-eq0 : goal.judgments-loop-k-smaller-else-k-eq0
judgments-loop-k-smaller-else-k-eq0 t c =
    let w = forward c.loop-k.invariant.0 (omega arith) c.in_ok-next.ensures refl c.in_ok-at.ensures refl in omega (arith, w.0, w.1)

pub judgments-loop-k-preserved-else-k-eq0 : goal.judgments-loop-k-preserved-else-k-eq0
judgments-loop-k-preserved-else-k-eq0 t c =
    (past-node c.loop-k.invariant.0 (omega arith) c.in_ok-next.ensures refl c.in_ok-at.ensures refl, omega (arith, c.loop-k.invariant.1))

pub judgments-loop-k-smaller : goal.judgments-loop-k-smaller
judgments-loop-k-smaller t c =
    let u = begun c.loop-k.invariant.0 (omega arith) c.in_ok-next.ensures refl in omega (arith, u.inside, u.on)

pub judgments-loop-k-preserved : goal.judgments-loop-k-preserved
judgments-loop-k-preserved t c = (
  let k : ℕ = kind_of (get_or c.args.part.words.now c.loop-k.at 0) in let lo : 104 < k = c.if-kind-le-SAME_ENTITY.false in let hi : k < 256 = omega arith in past_leaf c.loop-k.invariant.0 (omega arith) c.in_ok-next.ensures refl
      (leaf_last (value_of (get_or c.args.part.words.now c.loop-k.at 0)) k (omega (arith, lo)) hi) (plain-last k lo hi),
  omega (arith, c.loop-k.invariant.1),
)

pub judgments-returns : goal.judgments-returns
judgments-returns t c = row_walked c.loop-k.invariant.0 (omega arith)

pub patterns-returns-in_err-next : goal.patterns-returns-in_err-next
patterns-returns-in_err-next t c =
    let z : c.args.count + 1 ≡ suc c.args.count = omega arith in
    handed_noted _ _ _ _ _ _ _ c.from_residual.ensures.1 (rw z (first-refused _ _ _ _ _ scalar-sort _ c.in_err-next.ensures refl _))

pub patterns-scalars-requires-2 : goal.patterns-scalars-requires-2
patterns-scalars-requires-2 t c =
    (omega arith, (step_within (λ a. 0) _ _ _ c.requires.0 c.in_ok-next.ensures.answers refl, based_losing _ c.requires.1 c.lost-without.ensures))

pub patterns-returns : goal.patterns-returns
patterns-returns t c =
    let z : c.args.count + 1 ≡ suc c.args.count = omega arith in rw z
    (first_then _ _ _ _ _ scalar-sort _ c.in_ok-next.ensures refl _
    (rows_as _ _ scalar-sort _ {m = c.args.count} refl c.lost-without.ensures c.scalars-2.ensures))

pub scalars-returns-in_err-next : goal.scalars-returns-in_err-next
scalars-returns-in_err-next t c = handed_noted _ _ _ _ _ _ _ c.from_residual.ensures.1 (head_refused c.loop-k.invariant.0 (omega arith) c.in_err-next.ensures refl)

pub scalars-bounds-part-at : goal.scalars-bounds-part-at
scalars-bounds-part-at t c = (begun c.loop-k.invariant.0 (omega arith) c.in_ok-next.ensures refl).inside

pub scalars-overflow_sub-left : goal.scalars-overflow_sub-left
scalars-overflow_sub-left t c = (begun c.loop-k.invariant.0 (omega arith) c.in_ok-next.ensures refl).level

pub scalars-loop-k-smaller-then-kind-le-MAX : goal.scalars-loop-k-smaller-then-kind-le-MAX
scalars-loop-k-smaller-then-kind-le-MAX t c =
    let u = begun c.loop-k.invariant.0 (omega arith) c.in_ok-next.ensures refl in omega (arith, u.inside, u.on)

pub scalars-loop-k-preserved-then-kind-le-MAX : goal.scalars-loop-k-preserved-then-kind-le-MAX
scalars-loop-k-preserved-then-kind-le-MAX t c = (
  let k : ℕ = kind_of (get_or c.args.part.words.now c.loop-k.at 0) in
      let one : c.loop-k.k ≡ 1 = omega arith in
      past-last c.loop-k.invariant.0 (omega arith) c.in_ok-next.ensures refl one (scalar_row (value_of (get_or c.args.part.words.now c.loop-k.at 0)) k (omega arith) (omega arith) (λ z. omega arith)) c.children-k.ensures (steady_scalar k (omega arith) (omega arith)),
  omega (arith, c.loop-k.invariant.1),
)

pub scalars-overflow_sub-left-else-k-eq0 : goal.scalars-overflow_sub-left-else-k-eq0
scalars-overflow_sub-left-else-k-eq0 t c = (begun c.loop-k.invariant.0 (omega arith) c.in_ok-next.ensures refl).level

pub scalars-after_scalar-requires : goal.scalars-after_scalar-requires
scalars-after_scalar-requires t c =
    let u = begun c.loop-k.invariant.0 (omega arith) c.in_ok-next.ensures refl in
    (omega (arith, u.level, c.loop-k.invariant.0.deep), (u.inside, scalar-kind (kind_of (get_or c.args.part.words.now c.loop-k.at 0)) (omega arith) u.kind, c.requires.1))

pub scalars-returns-in_err-at : goal.scalars-returns-in_err-at
scalars-returns-in_err-at t c =
    handed_noted _ _ _ _ _ _ _ c.from_residual-in_err-at.ensures.1 (node-refused c.loop-k.invariant.0 (omega arith) c.in_ok-next.ensures refl c.in_err-at.ensures refl)

pub scalars-loop-k-smaller-else-k-eq0 : goal.scalars-loop-k-smaller-else-k-eq0
scalars-loop-k-smaller-else-k-eq0 t c =
    let w = forward c.loop-k.invariant.0 (omega arith) c.in_ok-next.ensures refl c.in_ok-at.ensures refl in omega (arith, w.0, w.1)

pub scalars-loop-k-preserved-else-k-eq0 : goal.scalars-loop-k-preserved-else-k-eq0
scalars-loop-k-preserved-else-k-eq0 t c =
    (past-node c.loop-k.invariant.0 (omega arith) c.in_ok-next.ensures refl c.in_ok-at.ensures refl, omega (arith, c.loop-k.invariant.1))

pub scalars-loop-k-smaller : goal.scalars-loop-k-smaller
scalars-loop-k-smaller t c =
    let u = begun c.loop-k.invariant.0 (omega arith) c.in_ok-next.ensures refl in omega (arith, u.inside, u.on)

pub scalars-loop-k-preserved : goal.scalars-loop-k-preserved
scalars-loop-k-preserved t c = (
  past_leaf c.loop-k.invariant.0 (omega arith) c.in_ok-next.ensures refl
      (leaf_low (value_of (get_or c.args.part.words.now c.loop-k.at 0)) (kind_of (get_or c.args.part.words.now c.loop-k.at 0)) c.if-kind-ge-ONE_CHILD.false)
      (plain-low (kind_of (get_or c.args.part.words.now c.loop-k.at 0)) c.if-kind-ge-ONE_CHILD.false),
  omega (arith, c.loop-k.invariant.1),
)

pub scalars-returns : goal.scalars-returns
scalars-returns t c = row_walked c.loop-k.invariant.0 (omega arith)
