-- `resolve::order::order` meets its contract.
use native.Mathlib.Omega.{arith}
use mathlib.Core.Path.{refl, ◌∙◌}
use borrow.Author.Rules.{rules}
use Rattle.resolve.proofs.PlacesLaws.{numbers, first-near, as-many-names, relations-asked, order_long, rules-long, rules-asked, rules-written, B-long, all_ordered}
use Rattle.resolve.proofs.order.order.Goals as goal

pub new-places-requires : goal.new-places-requires
new-places-requires c = omega (arith, numbers c.requires)

pub order_relations-requires : goal.order_relations-requires
order_relations-requires c = (relations-asked c.requires, omega (arith, numbers c.requires, order_long c.requires))

pub slice_bounds-order_relations-end : goal.slice_bounds-order_relations-end
slice_bounds-order_relations-end c = as-many-names c.requires

pub overflow_cast-layout-2 : goal.overflow_cast-layout-2
overflow_cast-layout-2 c = omega (arith, (numbers c.requires).2)

pub put_word-requires-2 : goal.put_word-requires-2
put_word-requires-2 c = omega (arith, numbers c.requires, order_long c.requires)

pub order_rules-requires : goal.order_rules-requires
order_rules-requires c = rules-asked c.requires _ (omega (arith, numbers c.requires, order_long c.requires, rules-long c.requires))

pub overflow_cast-blocks : goal.overflow_cast-blocks
overflow_cast-blocks c = omega (arith, (first-near c.requires).1)

pub put_word-requires-3 : goal.put_word-requires-3
put_word-requires-3 c =
    let r = rules-written c.requires c.order_rules.ensures (omega (arith, numbers c.requires, order_long c.requires, rules-long c.requires)) in
    omega (arith, numbers c.requires, order_long c.requires, rules-long c.requires)

pub order_blocks-requires : goal.order_blocks-requires
order_blocks-requires c =
    let r = rules-written c.requires c.order_rules.ensures (omega (arith, numbers c.requires, order_long c.requires, rules-long c.requires)) in
    omega (arith, numbers c.requires, order_long c.requires, rules-long c.requires, B-long c.requires)

pub returns : goal.returns
returns c a =
    let r = rules-written a c.order_rules.ensures (omega (arith, numbers a, order_long a, rules-long a)) in
    search rules ∙ all_ordered a refl c.new-places.ensures.begins c.put_word.ensures c.order_relations.ensures c.put_word-2.ensures r refl c.put_word-3.ensures c.order_blocks.ensures
