-- `reading::words::Words::only_related` meets its contract.
use Rattle.std.specs.Prelude.{Err}
use native.Mathlib.Omega.{arith}
use mathlib.Core.Path.{refl, ap, sym, ◌∙◌}
use mathlib.Core.List.{[], ◌∷◌}
use lib.ListN.{length}
use Rattle.definitions.specs.Table.{entry_of, table, fields_of}
use Rattle.definitions.specs.Tree.{fields}
use Rattle.pack.proofs.StepLaws.{each_last, last_ok}
use Rattle.reading.specs.Faults.{Plain}
use Rattle.reading.proofs.WalkLaws.{handed, step_within, by-front, front-stop, either_plain}
use Rattle.reading.proofs.words.Words.only_related.Goals as goal

pub returns-in_err-at : goal.returns-in_err-at
unfolding fields fields_of
returns-in_err-at c = handed _ _ c.from_residual.ensures.1 (front-stop _ _ _ _ _ (c.in_err-at.ensures c.args.self.heads.now.names) refl)

pub either-requires : goal.either-requires
unfolding entry_of table
either-requires c = (refl, refl)

pub of-requires : goal.of-requires
of-requires c =
    let l = step_within _ _ _ _ c.requires (c.in_ok-at.ensures 0) refl in
    let p : Plain (length c.args.self.words.now) c.in-Err.refusal = either_plain (82 ∷ 84 ∷ []) _ _ _ l c.either.ensures c.in-Err.is in
    record { number = p.number; place = omega (arith, p.place, c.args.self.few); bare = p.bare }

pub returns-in-Ok : goal.returns-in-Ok
unfolding fields fields_of
returns-in-Ok c = by-front _ _ _ _ _ (c.in_ok-at.ensures c.args.self.heads.now.names) refl (each_last _ _ _ _ _ _ (λ b. refl) (last_ok (λ a. 0) _ _ _ 0 (sym c.in-Ok.is ∙ c.either.ensures)))

pub returns-in-Err : goal.returns-in-Err
unfolding fields fields_of
returns-in-Err c = by-front _ _ _ _ _ (c.in_ok-at.ensures c.args.self.heads.now.names) refl (each_last _ _ _ _ _ _ (λ b. refl) (ap Err c.of.ensures ∙ sym c.in-Err.is ∙ c.either.ensures))
