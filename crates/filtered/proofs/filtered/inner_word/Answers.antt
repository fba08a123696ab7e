-- `filtered::filtered::inner_word` meets its contract.
use native.Mathlib.Omega.{arith}
use Rattle.filtered.proofs.SaidLaws.{direct-low, word_none, word-itself, word-leads}
use Rattle.filtered.proofs.filtered.inner_word.Goals as goal
use Rattle.filtered.proofs.filtered.inner_word.Goals.{in_default-via-in-Some+else-d-e, in_default-via-in_default}

pub overflow_add-result : goal.overflow_add-result
overflow_add-result c =
    let q = rw (c.in-Some.is, c.from.ensures.0) at c.direct.ensures in omega (arith, direct-low _ _ q c.requires)

pub overflow_mul-result-in-Some : goal.overflow_mul-result-in-Some
overflow_mul-result-in-Some c =
    let q = rw (c.in-Some.is, c.from.ensures.0) at c.direct.ensures in omega (arith, direct-low _ _ q c.requires)

pub returns-in-Some : goal.returns-in-Some
returns-in-Some c =
    let q = rw (c.in-Some.is, c.from.ensures.0) at c.direct.ensures in word-leads _ _ q c.if-d-e.true

pub returns-in_default : goal.returns-in_default
returns-in_default c =
    elim c.in_default.branch [
      | in_default-via-in-Some+else-d-e w ↦
          let q = rw (w.in-Some.is, c.from.ensures.0) at c.direct.ensures in
          word-itself _ _ (rw w.if-d-e.false at q) c.requires.below
      | in_default-via-in_default w ↦
          let q = rw (w.in_default.is, c.from.ensures.0) at c.direct.ensures in
          word_none _ _ q c.requires.below
    ]
