-- Document 02, Job 4: paths make a relation lean too.
use Rattle.std.specs.Prelude.{ℕ, ◌≡◌, List, true, false}
use Rattle.std.proofs.Math.Option.{some}
use Rattle.definitions.specs.Records.{Hop, Derivation, Relation, Pack}
use Rattle.definitions.specs.Chain.{next}
use Rattle.definitions.specs.Kinds.{find, kind_step}
use Rattle.definitions.specs.Lean.{Leads, edges}
use Rattle.definitions.specs.Answers.{yes_or_no}
use Rattle.definitions.specs.Operations.{lean_answer}

-- "Lean now follows field 12 and every step's 14, to any depth.": of words that are a pack, and two of its names, Lean answers yes just where one
-- or more of these fields lead from the first name to the second
pub record LeanFollows (ws : List ℕ) (p : Pack) (a b : ℕ) : Type 0 where
  pub yes-leads : lean_answer ws a b ≡ yes_or_no true → Leads (edges p.relations) a b
  pub leads-yes : Leads (edges p.relations) a b → lean_answer ws a b ≡ yes_or_no true
  pub otherwise_no : (Leads (edges p.relations) a b → ⊥) → lean_answer ws a b ≡ yes_or_no false

-- "Kinds still never pass through a path": where a relation has one, of however many steps, the walk for its kinds leads on to no name
abbrev pub KindsKeepOut : List Relation → ℕ → Type 0
KindsKeepOut rs n = (r : Relation) (d : Derivation) (hops : List Hop) → find n rs ≡ some r → r.derivation ≡ some d → d.path ≡ some hops → (m : ℕ) → kind_step rs n ≡ next m → ⊥
