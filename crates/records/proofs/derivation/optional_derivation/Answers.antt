-- `records::derivation::optional_derivation` meets its contract.
use Rattle.std.proofs.Common.{arith, sym, ap, refl, ℕ}
use Rattle.definitions.specs.Pack.{optional_derivation}
use Rattle.definitions.specs.Table.{entry_of, table}
use Rattle.pack.proofs.StepLaws.{walks, last_err}
use Rattle.records.specs.Directory.{note_in}
use Rattle.records.specs.Notes.{note_derivation}
use Rattle.records.proofs.KeptLaws.{noted_err, noted-none, noted_some, noted_as}
use Rattle.records.proofs.NotesLaws.{flag_on}
use Rattle.records.proofs.derivation.optional_derivation.Goals as goal

pub returns-in_err-flag : goal.returns-in_err-flag
unfolding optional_derivation
returns-in_err-flag c = noted_err (last_err (λ a. 0) _ _ _ _ (search (walks, c.in_err-flag.ensures) depth 16)) c.from_residual.ensures.1

pub returns-then-flag-eq0 : goal.returns-then-flag-eq0
unfolding optional_derivation entry_of table note_in
returns-then-flag-eq0 c = noted-none _ _ _ _ _ _ c.field.ensures c.in_ok-flag.was _ _ _ c.if-flag-eq0.true (sym c.plain.ensures) refl

pub derivation-requires : goal.derivation-requires
derivation-requires c = let on = flag_on _ _ _ c.field.ensures c.in_ok-flag.was in (c.requires.0, c.requires.1, omega (arith, on, c.requires.2))

pub returns : goal.returns
unfolding optional_derivation entry_of table
returns c =
    noted_some _ _ _ _ _ _ c.field.ensures c.in_ok-flag.was _ _ _ c.if-flag-eq0.false
    (noted_as c.derivation.ensures
    (λ d. ap (λ (i : ℕ). note_derivation c.args.start i d c.args.notes.now) (flag_on _ _ _ c.field.ensures c.in_ok-flag.was)))
