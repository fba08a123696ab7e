-- `inputs::inputs::Blocks::seen` meets its contract.
use Rattle.std.proofs.Common.{◌≡◌, ◌+◌, ◌-◌, ◌*◌, ◌≤◌}
use Rattle.inputs.specs.declared.inputs.Seen.TheVariants.{Never}
use Rattle.inputs.specs.Blocks.{seen_blocks}
use Rattle.inputs.proofs.inputs.Blocks.seen.Given as goal

abbrev pub invariant-loop : goal.invariant-loop
invariant-loop l =
    record {
      near : l.at ≤ l.fn.self.at + l.counter * 50331650;
      left : seen_blocks l.pack l.origin l.name l.fn.self.at l.fn.self.count Never ≡ seen_blocks l.pack l.origin l.name l.at (l.fn.self.count - l.counter) l.seen;
    }
