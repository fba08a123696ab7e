-- `pack::table::entry_of` meets its contract: by one computation over all 256 kinds.
use Rattle.std.proofs.Common.{◌≡◌, ℕ, ◌<◌, List, arith, refl, get_or}
use Rattle.definitions.specs.declared.table.Entry.{Entry}
use Rattle.definitions.specs.declared.table.Values.TheVariants.{Unused}
use Rattle.definitions.specs.declared.table.Follows.TheVariants.{Nothing}
use Rattle.definitions.specs.Table.{table, entry_of}
use Rattle.pack.specs.declared.table.TheConstants.{TABLE}
use Rattle.pack.proofs.Listed.{listed, agree}
use Rattle.pack.proofs.table.entry_of.Goals as goal

at_each : (t : List Entry) (d : Entry) → listed (λ (k : ℕ). get_or t k d) 0 256 ≡ listed entry_of 0 256 → (k : ℕ) → k < 256 → get_or t k d ≡ entry_of k
at_each t d e k h = agree (λ (k : ℕ). get_or t k d) entry_of 0 256 e k (omega arith) h

pub returns : goal.returns
unfolding table entry_of
returns c = at_each TABLE (record { sort = 0; values = Unused; follows = Nothing }) refl _ c.requires
