-- `checking::rewrite::rewrite` meets its contract.
use Rattle.checking.proofs.RewriteLaws.{by_answer}
use Rattle.checking.proofs.rewrite.rewrite.Goals as goal

pub returns : goal.returns
returns c = let a = c.answer_for-a.ensures in record { answers = a.answers; leaves = by_answer _ c.args.out.now c.written-count.ensures a.answers c.write_again.ensures }
