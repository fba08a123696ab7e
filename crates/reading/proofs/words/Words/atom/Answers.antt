-- `reading::words::Words::atom` meets its contract.
use mathlib.Core.Path.{refl}
use Rattle.definitions.specs.Table.{entry_of, table, fields_of}
use Rattle.definitions.specs.Tree.{fields}
use Rattle.pack.proofs.StepLaws.{each_last}
use Rattle.reading.proofs.WalkLaws.{up_to-any}
use Rattle.reading.proofs.words.Words.atom.Goals as goal

pub up_to-requires : goal.up_to-requires
unfolding entry_of table
up_to-requires c = (c.requires, up_to-any 85 refl)

pub returns : goal.returns
unfolding fields fields_of
returns c n = each_last _ _ _ _ _ _ (λ a. refl) (c.up_to.ensures n)
