-- `filtered::filtered::filtered` meets its contract.
use Rattle.chains.proofs.EntryLaws.{sized_all}
use Rattle.filtered.proofs.filtered.filtered.Goals as goal

pub filtered_sized-requires-else-n-le-SOME : goal.filtered_sized-requires-else-n-le-SOME
filtered_sized-requires-else-n-le-SOME c = sized_all _
