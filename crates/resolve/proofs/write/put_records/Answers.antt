-- `resolve::write::put_records` meets its contract.
use native.Mathlib.Omega.{arith}
use mathlib.Core.Path.{refl, sym, ◌∙◌}
use Rattle.resolve.proofs.WriteLaws.{part_within, part_asked, part_put, all-put}
use Rattle.resolve.proofs.WrittenPack.{come_long, writing_begin, all-counted}
use Rattle.resolve.proofs.write.put_records.Goals as goal

pub loop-i-init : goal.loop-i-init
loop-i-init c = (refl, λ room e a. rw c.requires.1 (writing_begin a _ (sym e)))

pub offset_bounds-work-start : goal.offset_bounds-work-start
offset_bounds-work-start c =
    let w = part_within _ _ _ _ _ (c.loop-i.invariant.1 _ refl c.requires.0) c.loop-i-test.true c.place_at-end.ensures in omega (arith, w.0, w.1)

pub slice_bounds-put_record-count : goal.slice_bounds-put_record-count
slice_bounds-put_record-count c = (part_within _ _ _ _ _ (c.loop-i.invariant.1 _ refl c.requires.0) c.loop-i-test.true c.place_at-end.ensures).0

pub slice_bounds-put_record-start : goal.slice_bounds-put_record-start
slice_bounds-put_record-start c =
    omega (arith, (part_within _ _ _ _ _ (c.loop-i.invariant.1 _ refl c.requires.0) c.loop-i-test.true c.place_at-end.ensures).0)

pub slice_bounds-put_record-end : goal.slice_bounds-put_record-end
slice_bounds-put_record-end c =
    omega (arith, (part_within _ _ _ _ _ (c.loop-i.invariant.1 _ refl c.requires.0) c.loop-i-test.true c.place_at-end.ensures).1)

pub put_record-requires : goal.put_record-requires
put_record-requires c = part_asked _ _ _ _ _ (c.loop-i.invariant.1 _ refl c.requires.0) c.loop-i-test.true c.place_at-end.ensures

pub loop-i-preserved : goal.loop-i-preserved
loop-i-preserved c = (
  c.put_record.ensures.written.same_reference ∙ c.loop-i.invariant.0,
  λ room e a. part_put _ _ _ _ _ (c.loop-i.invariant.1 room e a) c.loop-i-test.true c.place_at-end.ensures c.put_record.ensures.carried c.put_record.ensures.written.long,
)

pub returns-clause-put : goal.returns-clause-put
returns-clause-put c a = let w = all-put _ _ _ _ _ (c.loop-i.invariant.1 _ refl a) c.loop-i-test.false in (w, all-counted a w)

pub returns-clause-long : goal.returns-clause-long
returns-clause-long c = (c.loop-i.invariant.1 _ refl c.requires.0).size ∙ come_long c.requires.0
