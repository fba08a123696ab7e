-- `reading::words::Words::aggregate_words` meets its contract: the slots, and then each field in its turn.
use mathlib.Core.Path.{refl}
use Rattle.definitions.specs.Table.{entry_of, table, fields_of}
use Rattle.definitions.specs.Tree.{fields}
use Rattle.pack.proofs.StepLaws.{each-stop, by-each, each_last}
use Rattle.reading.proofs.WalkLaws.{handed, step_within, by-front, front-stop, up_to-any, up_to-most}
use Rattle.reading.proofs.words.Words.aggregate_words.Goals as goal

pub returns-in_err-at : goal.returns-in_err-at
unfolding fields fields_of
returns-in_err-at c n = handed _ _ c.from_residual.ensures.1 (front-stop _ _ _ _ _ (c.in_err-at.ensures n) refl)

pub up_to-requires : goal.up_to-requires
unfolding entry_of table
up_to-requires c = (step_within _ _ _ _ c.requires (c.in_ok-at.ensures 0) refl, up_to-any 86 refl)

pub returns-in_err-at-2 : goal.returns-in_err-at-2
unfolding fields fields_of
returns-in_err-at-2 c n =
    handed _ _ c.from_residual-in_err-at-2.ensures.1
    (by-front _ _ _ _ _ (c.in_ok-at.ensures n) refl (each-stop _ _ _ _ _ (λ a. 0) (λ l. 0) (c.in_err-at-2.ensures n) refl))

pub up_to-requires-2 : goal.up_to-requires-2
unfolding entry_of table
up_to-requires-2 c =
    let l = step_within _ _ _ _ c.requires (c.in_ok-at.ensures 0) refl in
    (step_within _ _ _ _ l (c.in_ok-at-2.ensures 0) refl, up_to-most 83 1 refl)

pub returns : goal.returns
unfolding fields fields_of
returns c n =
    by-front _ _ _ _ _ (c.in_ok-at.ensures n) refl
    (by-each _ _ _ _ _ (λ a. 0) (λ l. 0) (c.in_ok-at-2.ensures n) refl (λ a. each_last _ _ _ _ _ _ (λ b. refl) (c.up_to-2.ensures n)))
