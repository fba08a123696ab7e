-- `resolve::write::write` meets its contract.
use Prim.Native.Nat.{ℕ, ◌+◌}
use mathlib.Core.Path.{ap, ◌∙◌}
use mathlib.Core.List.{List}
use lib.ListN.{set}
use borrow.Author.Rules.{rules}
use Rattle.resolve.proofs.WrittenPack.{not_empty, writing_end, records_as}
use Rattle.resolve.proofs.write.write.Goals as goal

pub bounds-out-0 : goal.bounds-out-0
bounds-out-0 c = not_empty c.requires (search rules)

pub returns : goal.returns
returns c a =
    let w = records_as c.new-writer.ensures.begins.long c.put_records.ensures.put a in
    ap (λ (l : List ℕ). set l 0 (16777216 + c.put_records.new.writer.to)) (search rules) ∙ writing_end a w.0 w.1 (c.put_records.ensures.long ∙ c.new-writer.ensures.begins.long)
