-- `resolve_main::report::resolved_text` meets its contract, by what the host's function gives.
use borrow.Author.Rules.{rules}
use Rattle.resolve_main.proofs.PrintedLaws.{resolved-text}
use Rattle.resolve_main.proofs.report.resolved_text.Goals as goal

pub returns : goal.returns
returns g c = resolved-text c.cogunwa_resolve-answer.ensures c.report.ensures (search rules)
