-- `reading::words::Words::aggregate_fields` meets its contract: fields of the right kinds leave it to the flag.
use native.Mathlib.Omega.{arith}
use mathlib.Core.Path.{refl}
use Rattle.definitions.specs.Table.{entry_of, table}
use Rattle.reading.proofs.WalkLaws.{up_to-most}
use Rattle.reading.proofs.RowLaws.{flag_alone}
use Rattle.reading.proofs.words.Words.aggregate_fields.Goals as goal

pub up_to-requires : goal.up_to-requires
unfolding entry_of table
up_to-requires c = (omega arith, up_to-most 83 1 refl)

pub returns : goal.returns
returns c n = flag_alone n _ _ (omega arith) c.if-self-at-ne-CURRENT.false c.if-self-at-ne-RELATED.false c.if-self-at-ne-VALUE.false (c.up_to.ensures n)
