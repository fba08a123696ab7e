-- `resolve::finish::finish_in` meets its contract.
use native.Mathlib.Omega.{arith}
use mathlib.Core.Path.{refl, ap}
use Rattle.std.specs.Prelude.{Err}
use Rattle.resolve.proofs.FinishLaws.{whole-short, few_starts, table-room, table_fits, finish_lists, found-room, too_long, too_short, finish_asked, finish_done}
use Rattle.resolve.proofs.finish.finish_in.Goals as goal

pub overflow_add-after : goal.overflow_add-after
overflow_add-after c =
    omega (arith, few_starts c.requires.0)

pub slice_bounds-order-end : goal.slice_bounds-order-end
slice_bounds-order-end c =
    (table-room c.requires.0).0

pub slice_bounds-lists-end : goal.slice_bounds-lists-end
slice_bounds-lists-end c =
    table_fits c.requires.0 c.requires.1

pub lists-more-requires : goal.lists-more-requires
lists-more-requires c =
    finish_lists c.requires.0 c.requires.1

pub overflow_add-len : goal.overflow_add-len
overflow_add-len c =
    omega (arith, whole-short c.requires.0, c.lists-more.ensures.few)

pub returns-then-len-gt-MOST_WORDS : goal.returns-then-len-gt-MOST_WORDS
returns-then-len-gt-MOST_WORDS c =
    too_long c.requires.0 c.lists-more.ensures refl _ c.if-len-gt-MOST_WORDS.true (ap Err c.refused.ensures)

pub returns-then-out-len : goal.returns-then-out-len
returns-then-out-len c =
    too_short c.requires.0 c.lists-more.ensures refl _ c.if-out-len.true (ap Err c.refused-then-out-len.ensures)

pub slice_bounds-write-end : goal.slice_bounds-write-end
slice_bounds-write-end c =
    found-room c.requires.0 c.requires.1 c.lists-more.new.table c.lists-more.auto.table

pub write-requires : goal.write-requires
write-requires c =
    finish_asked c.requires.0 c.lists-more.ensures refl _ c.if-len-gt-MOST_WORDS.false c.if-out-len.false c.requires.1 refl c.lists-more.auto.table refl

pub returns : goal.returns
returns c =
    finish_done c.requires.0 c.lists-more.ensures refl _ c.if-len-gt-MOST_WORDS.false c.if-out-len.false c.requires.1 refl c.lists-more.auto.table refl
    c.write.ensures
