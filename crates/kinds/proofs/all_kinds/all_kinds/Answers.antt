-- `kinds::all_kinds::all_kinds` meets its contract.
use Rattle.chains.proofs.EntryLaws.{sized_all}
use Rattle.kinds.proofs.all_kinds.all_kinds.Goals as goal

pub kinds_sized-requires-2 : goal.kinds_sized-requires-2
kinds_sized-requires-2 c = sized_all _
