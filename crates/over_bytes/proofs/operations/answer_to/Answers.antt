-- `over_bytes::operations::answer_to` meets its contract, by the operations that only answer.
use Rattle.over_bytes.proofs.operations.answer_to.Goals as goal

pub returns-in-Check : goal.returns-in-Check
returns-in-Check c = rw c.in-Check.is c.check.ensures

pub returns-in-KindsOf : goal.returns-in-KindsOf
returns-in-KindsOf c = rw c.in-KindsOf.is c.kinds_of.ensures

pub returns-in-Lean : goal.returns-in-Lean
returns-in-Lean c = rw c.in-Lean.is c.lean.ensures
