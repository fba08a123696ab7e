-- `resolve::resolve::resolve_by` meets its contract.
use native.Mathlib.Omega.{arith}
use borrow.Author.Rules.{rules}
use mathlib.Core.Path.{refl, sym, ◌∙◌, ap}
use lib.ListN.{length}
use Rattle.chains.proofs.AnswerLaws.{front_length}
use Rattle.checking.specs.CheckPromises.{answer_in}
use Rattle.resolve.proofs.ResolveLaws.{resolve-refused, its-directory, its-words, checked-asked, blocks-near, in_asked, into_stopped}
use Rattle.resolve.proofs.resolve.resolve_by.Goals as goal

pub check_notes-requires : goal.check_notes-requires
check_notes-requires c =
    c.requires.1.clear

pub returns-in_err-layout : goal.returns-in_err-layout
returns-in_err-layout c =
    into_stopped _ _ (λ lent. (resolve-refused _ lent (sym (ap answer_in c.in_err-layout.was) ∙ c.check_notes.ensures.answers) refl).answers) (search rules)

pub slice_bounds-resolve_in-end : goal.slice_bounds-resolve_in-end
slice_bounds-resolve_in-end c =
    let m = its-words c.requires.1.clear c.check_notes.ensures c.in_ok-layout.was in omega (arith, c.requires.2 m)

pub read_tables-steps-requires : goal.read_tables-steps-requires
read_tables-steps-requires c =
    let a = checked-asked c.requires.1.clear c.check_notes.ensures c.in_ok-layout.was {work = c.args.pack.now} c.requires.0 c.requires.1 c.check_notes.auto.dir c.check_notes.auto.notes refl in
    (a.directory, a.acts-lent, a.reaches, a.taken-lent)

pub of-requires : goal.of-requires
of-requires c = blocks-near (its-directory c.requires.1.clear c.check_notes.ensures c.in_ok-layout.was)

pub resolve_in-requires : goal.resolve_in-requires
resolve_in-requires c =
    let m = its-words c.requires.1.clear c.check_notes.ensures c.in_ok-layout.was in
    let a = checked-asked c.requires.1.clear c.check_notes.ensures c.in_ok-layout.was c.requires.0 c.requires.1 c.check_notes.auto.dir c.check_notes.auto.notes (front_length c.args.words.now (length c.args.pack.now) (c.requires.2 m)) in
    in_asked a c.read_tables-steps.ensures c.of.ensures
