-- `filtered::taking::list_at` meets its contract.
use Rattle.filtered.proofs.TakingLaws.{no_list, past_the_words, its_list}
use Rattle.filtered.proofs.taking.list_at.Goals as goal
use Rattle.filtered.proofs.taking.list_at.Goals.{then-at-eq0-via-then-at-eq0, then-at-eq0-via-else-at-eq0+then-pack-at}

pub returns-then-at-eq0 : goal.returns-then-at-eq0
returns-then-at-eq0 c =
    elim c.then-at-eq0.branch [
      | then-at-eq0-via-then-at-eq0 w ↦ no_list _ _ w.if-at-eq0.true
      | then-at-eq0-via-else-at-eq0+then-pack-at w ↦ past_the_words _ _ w.if-at-eq0.false w.if-pack-at.true
    ]

pub returns : goal.returns
returns c = its_list _ _ c.if-at-eq0.false _ c.min.ensures
