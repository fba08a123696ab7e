-- What the operations on chains answer a pack and one that is dealt out of it.
use Rattle.std.specs.Prelude.{ℕ, ◌≡◌, List}
use Rattle.definitions.specs.Records.{Pack}
use Rattle.definitions.specs.Kinds.{own_answer}
use Rattle.definitions.specs.Places.{place_of, names_at}
use Rattle.definitions.specs.Operations.{all_kinds_answer, lean_answer, filter_answer, filter_buffer}
use Rattle.definitions.specs.declared.operation.Filter.{Filter}

-- what a pack and one dealt out of it have alike
pub record DealtAlike (ws vs : List ℕ) (p q : Pack) : Type 0 where
  -- All kinds: the answer with its steps; the places are those of the owners' records, and at them stand the same names
  pub all_kinds : (room : ℕ) → all_kinds_answer ws room ≡ all_kinds_answer vs room
  pub own-kinds : (n : ℕ) → names_at ws (place_of p (own_answer p.relations n)) ≡ names_at vs (place_of q (own_answer q.relations n))
  pub owners : (n : ℕ) → own_answer p.relations n ≡ own_answer q.relations n
  pub lean : (a b : ℕ) → lean_answer ws a b ≡ lean_answer vs a b
  pub filters : (f : Filter) (room : ℕ) → filter_answer f ws room ≡ filter_answer f vs room
  pub tables : (f : Filter) (lent : List ℕ) → filter_buffer f ws lent ≡ filter_buffer f vs lent
