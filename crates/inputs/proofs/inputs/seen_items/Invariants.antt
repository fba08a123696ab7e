-- `inputs::inputs::seen_items` meets its contract.
use Rattle.std.proofs.Common.{◌≡◌, ◌+◌, ◌-◌, ◌*◌}
use Rattle.inputs.specs.Blocks.{seen_items}
use Rattle.inputs.proofs.inputs.seen_items.Given as goal

abbrev pub invariant-loop-i : goal.invariant-loop-i
invariant-loop-i l = seen_items l.pack l.name l.first l.count l.fn.before ≡ seen_items l.pack l.name (l.first + 3 * l.i) (l.count - l.i) l.seen
