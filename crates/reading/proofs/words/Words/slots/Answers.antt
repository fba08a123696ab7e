-- `reading::words::Words::slots` meets its contract.
use mathlib.Core.Path.{refl}
use Rattle.definitions.specs.Table.{entry_of, table, fields_of}
use Rattle.definitions.specs.Tree.{fields}
use Rattle.pack.proofs.StepLaws.{each-stop, by-each, each_last}
use Rattle.reading.proofs.WalkLaws.{handed, step_within, up_to-any}
use Rattle.reading.proofs.words.Words.slots.Goals as goal

pub up_to-requires : goal.up_to-requires
unfolding entry_of table
up_to-requires c = (c.requires, up_to-any 80 refl)

pub returns-in_err-at : goal.returns-in_err-at
unfolding fields fields_of
returns-in_err-at c n = handed _ _ c.from_residual.ensures.1 (each-stop _ _ _ _ _ (λ a. 0) (λ l. 0) (c.in_err-at.ensures n) refl)

pub up_to-requires-2 : goal.up_to-requires-2
unfolding entry_of table
up_to-requires-2 c = (step_within _ _ _ _ c.requires (c.in_ok-at.ensures 0) refl, up_to-any 81 refl)

pub returns : goal.returns
unfolding fields fields_of
returns c n = by-each _ _ _ _ _ (λ a. 0) (λ l. 0) (c.in_ok-at.ensures n) refl (λ a. each_last _ _ _ _ _ _ (λ b. refl) (c.up_to-2.ensures n))
