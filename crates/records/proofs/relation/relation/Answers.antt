-- `records::relation::relation` meets its contract.
use Rattle.std.proofs.Common.{arith}
use lib.ListN.{length-set}
use Rattle.definitions.specs.Pack.{relation}
use Rattle.pack.proofs.StepLaws.{walks, by-via, then_ok, last_err}
use Rattle.records.proofs.KeptLaws.{noted_err, noted-pair}
use Rattle.records.proofs.DirectoryLaws.{name-read, note-fits}
use Rattle.records.proofs.NotesLaws.{both_noted}
use Rattle.records.proofs.relation.relation.Goals as goal

pub returns-in_err-v : goal.returns-in_err-v
unfolding relation
returns-in_err-v c = noted_err (search (walks, c.in_err-v.ensures) depth 16) c.from_residual.ensures.1

pub relation_tail-requires : goal.relation_tail-requires
relation_tail-requires c = let r = name-read _ _ _ _ c.new_name.ensures c.in_ok-v.was in (c.requires.0, omega arith)

pub returns-in_err-note : goal.returns-in_err-note
unfolding relation
returns-in_err-note c =
    noted_err (by-via _ _ _ _ _ _ _ _ (then_ok _ _ _ _ _ _ c.in_ok-v.ensures
    (λ _. last_err _ _ _ _ _ c.in_err-note.ensures.answers))) c.from_residual-in_err-note.ensures.1

pub overflow_cast-dir : goal.overflow_cast-dir
overflow_cast-dir c = let r = name-read _ _ _ _ c.new_name.ensures c.in_ok-v.was in omega arith

pub overflow_mul-dir : goal.overflow_mul-dir
overflow_mul-dir c = omega (arith, note-fits _ _ _ c.relation_tail.ensures.answers c.in_ok-note.was c.requires.0)

pub overflow_add-dir : goal.overflow_add-dir
overflow_add-dir c = let r = name-read _ _ _ _ c.new_name.ensures c.in_ok-v.was in omega (arith, note-fits _ _ _ c.relation_tail.ensures.answers c.in_ok-note.was c.requires.0)

pub bounds-dir-v : goal.bounds-dir-v
bounds-dir-v c = let r = name-read _ _ _ _ c.new_name.ensures c.in_ok-v.was in simp length-set (omega (arith, c.requires.2))

pub returns : goal.returns
unfolding relation
returns c =
    noted-pair _ _ _ _ _ _ _ _ _ _ _ _ _ c.new_name.ensures c.in_ok-v.was (λ _. c.relation_tail.ensures.answers) c.in_ok-note.was
    (λ t s. (
      t.kept,
      both_noted _ _ _ _ _ (name-read _ _ _ _ c.new_name.ensures c.in_ok-v.was).on s.value t.kept s.kept
          (c.relation_tail.ensures.notes s.value _ _ s.found),
    ))
