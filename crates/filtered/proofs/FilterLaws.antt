-- What the filtered tables answer and leave, in each of their ways out.
use Rattle.std.specs.Prelude.{Err}
use Prim.Native.Nat.{ℕ, ◌-◌, ◌<◌, ◌≤◌}
use mathlib.Core.Path.{◌≡◌, refl, sym, ◌∙◌}
use mathlib.Core.List.{List}
use mathlib.Core.Logic.{◌⊎◌}
use lib.ListN.{length}
use borrow.Rule.Slice.PartMut.{put_mid}
use Rattle.definitions.specs.declared.answer.Refusal.{Refusal}
use Rattle.definitions.specs.Answers.{Answer}
use Rattle.definitions.specs.Answers.{gives}
use Rattle.definitions.specs.Records.{Pack}
use Rattle.definitions.specs.Answers.{out_of_room, write_answer, Answered}
use Rattle.definitions.specs.Checking.{check_answer, CheckRefuses}
use Rattle.definitions.specs.declared.operation.Filter.{Filter}
use Rattle.definitions.specs.Filtered.{filter_says, filter_words}
use Rattle.definitions.specs.Operations.{filter_answer, filter_buffer}
use Rattle.chains.specs.PackDirectory.{IsPack, Named}
use Rattle.filtered.specs.Said.{FilterLeft}
use Rattle.chains.proofs.FillLaws.{table-length}
use Rattle.chains.proofs.AnswerLaws.{made_refused, made_room, made_done}
use Rattle.chains.proofs.RefusalNumbers.{refuses, NoRoom, writing_refuses}

abbrev no_steps : Pack → ℕ
no_steps p = 0

module _ (f : Filter) (ws lent : List ℕ) where
  pub filter-refused : {a : Answer} {r : Refusal} → a ≡ check_answer ws → a ≡ Err r → Answered (filter_answer f) (filter_buffer f) ws lent a lent
  unfolding filter_answer filter_buffer
  filter-refused e o = made_refused (filter_words f) no_steps ws lent e o

  module _ (c : IsPack ws) {n : ℕ} (k : Named ws n) where
    one_name : length (filter_words f c.pack) ≡ n
    one_name = table-length (filter_says f c.pack) 0 c.pack.names ∙ sym (k c.pack c.reads)

    pub filter-room : length lent < n → {a : Answer} → a ≡ out_of_room → Answered (filter_answer f) (filter_buffer f) ws lent a lent
    unfolding filter_answer filter_buffer
    filter-room h e = made_room (filter_words f) no_steps ws lent c one_name h e

    pub filter-done : n ≤ length lent → {out : List ℕ} → FilterLeft f ws out → Answered (filter_answer f) (filter_buffer f) ws lent (gives n 0) (put_mid 0 (n - 0) lent out)
    unfolding filter_answer filter_buffer
    filter-done h l = made_done (filter_words f) no_steps ws lent c one_name h refl (l c.pack c.reads)

-- they refuse by Check's numbers and 16 alone
pub filter_numbers : (f : Filter) (ws : List ℕ) (room : ℕ) (r : Refusal) → filter_answer f ws room ≡ Err r → CheckRefuses ws r ⊎ NoRoom r
unfolding filter_answer
filter_numbers f ws room r e = refuses NoRoom (λ p. write_answer (filter_words f p) 0 room) (λ p r. writing_refuses (filter_words f p) 0 room r) ws r e
