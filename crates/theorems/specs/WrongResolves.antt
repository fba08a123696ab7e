-- Four wrong Resolves that are blind to order, each refuted on a small pack: the input copied; lists stamped, but slots left as they stood; blocks dropped;
-- and one that never gives 9.
use Rattle.std.specs.Prelude.{Err}
use Rattle.std.specs.Prelude.{ℕ, ◌≡◌, List, [], ◌∷◌, ◌++◌, drop}
use Rattle.std.proofs.Math.Option.{some}
use Rattle.definitions.specs.declared.answer.Refusal.{Refusal}
use Rattle.definitions.specs.Answers.{Answer}
use Rattle.definitions.specs.Table as tables256
use Rattle.definitions.specs.Records.{Relation, Rule, Block, Pack}
use Rattle.definitions.specs.Pack.{words, total}
use Rattle.definitions.specs.Answers.{words_and_steps}
use Rattle.theorems.specs.Demand3.{ResolveAlike, KindsUsed}
use Rattle.theorems.specs.Starred.{without_derivation, says_nothing, counting, with_derivation, ruled, packed}

-- A1, and with a derived relation that is stamped, and with a block
abbrev pub of_two_kinds : Relation
of_two_kinds = without_derivation 5 (1 ∷ 2 ∷ [])

abbrev pub turned_rule : ℕ → ℕ → List Rule
turned_rule c r = ruled 2 (counting c r)

abbrev pub with_blocks : Pack → List Block → Pack
with_blocks p bs = record { edition = p.edition; names = p.names; defaulted = p.defaulted; relations = p.relations; rules = p.rules; blocks = bs }

abbrev pub Refuted : Pack → Pack → Type 0
Refuted p wrong = (q : Pack) (lent lent' after' : List ℕ) (b : Answer) (steps : ℕ) → ResolveAlike p q lent lent' (words_and_steps (total wrong) steps) (words wrong ++ drop (total wrong) lent) b after' → ⊥

-- the input copied
abbrev pub copied : Pack
copied = packed [] (of_two_kinds ∷ []) (turned_rule 7 9)

-- lists stamped, slots left
abbrev pub not_stamped : Pack
not_stamped = packed [] (of_two_kinds ∷ with_derivation 6 (1 ∷ 2 ∷ []) [] 0 5 3 says_nothing ∷ []) (turned_rule 7 9)

abbrev pub only_stamped : Pack
only_stamped = packed [] (of_two_kinds ∷ with_derivation 6 (1 ∷ 2 ∷ []) (1 ∷ 2 ∷ []) 0 5 3 says_nothing ∷ []) (turned_rule 7 9)

-- blocks dropped
abbrev pub with_ablock : Pack
with_ablock = with_blocks copied (record { origin = tables256.none; items = some [] } ∷ [])

abbrev pub dropped : Pack
dropped = packed [] (of_two_kinds ∷ []) (turned_rule 1 0)

-- never 9: a defaulted relation has equal kinds, as in G1
abbrev pub both_at_one : Relation
both_at_one = with_derivation 6 [] (1 ∷ 2 ∷ []) 0 0 3 says_nothing

abbrev pub equal_kinds_defaulted : Pack
equal_kinds_defaulted = packed (6 ∷ []) (both_at_one ∷ []) []

pub record WrongOnes : Type 0 where
  pub input-copied : Refuted copied copied
  pub slots_left : Refuted not_stamped only_stamped
  pub blocks-dropped : Refuted with_ablock dropped
  pub never_9 : (answers : ℕ → Answer) → ((room : ℕ) (r : Refusal) → answers room ≡ Err r → r.number ≡ 9 → ⊥) → KindsUsed equal_kinds_defaulted answers → ⊥
