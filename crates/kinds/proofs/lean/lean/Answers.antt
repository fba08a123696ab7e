-- `kinds::lean::lean` meets its contract.
use Rattle.chains.proofs.EntryLaws.{sized_all}
use Rattle.kinds.proofs.lean.lean.Goals as goal

pub lean_sized-requires-2 : goal.lean_sized-requires-2
lean_sized-requires-2 c = sized_all _
