-- `records::defaulted::defaulted` meets its contract.
use Rattle.std.proofs.Common.{◌-◌}
use mathlib.Core.Path.{◌≡◌, refl}
use Prim.Native.Nat.{ℕ}
use Rattle.definitions.specs.Pack.{defaulted_name, above}
use Rattle.definitions.specs.Form.{field, words_by}
use Rattle.records.proofs.LoopLaws.{Left, nothing}
use Rattle.records.proofs.defaulted.defaulted.Given as goal

pub words_alike : (n low v : ℕ) → words_by (defaulted_name n low) v ≡ words_by (field n 4) v
unfolding defaulted_name words_by
words_alike n low v = refl

abbrev pub invariant-loop : goal.invariant-loop
invariant-loop l = Left above (defaulted_name l.n) (words_by (field l.n 4)) (words_alike l.n) nothing l.s l.count l.initial.low l.initial.c.at tt (l.count - l.counter) l.low l.c.at tt
