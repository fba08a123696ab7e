-- `kinds::kinds_of::kinds_of` meets its contract.
use Rattle.chains.proofs.EntryLaws.{sized_all}
use Rattle.kinds.proofs.kinds_of.kinds_of.Goals as goal

pub place_sized-requires-2 : goal.place_sized-requires-2
place_sized-requires-2 c = sized_all _
