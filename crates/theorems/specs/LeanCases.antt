-- Worked cases of document 02, Job 4: what relations with paths lean on.
use Rattle.std.specs.Prelude.{ℕ, ◌≡◌, List, [], ◌∷◌, map, true, false}
use Rattle.std.proofs.Math.Option.{none, some}
use Rattle.definitions.specs.Table as table
use Rattle.definitions.specs.Records.{Hop, Relation}
use Rattle.definitions.specs.Kinds.{kinds_of}
use Rattle.definitions.specs.Lean.{leans}
use Rattle.theorems.specs.Starred.{without_derivation, with_source}

-- a step over a relation, and a relation with a source and a path over some
abbrev pub over : ℕ → Hop
over n = record { relation = n; current = 0; related = 1 }

abbrev pub along : ℕ → ℕ → List ℕ → Relation
along n source ns = with_source n source (some (map over ns)) [] []

-- 5[1,2]; 6 has no source and a path over 5; 7<6 with a path over 4, which is undeclared, and 5
abbrev pub paths : List Relation
paths = without_derivation 5 (1 ∷ 2 ∷ []) ∷ along 6 table.none (5 ∷ []) ∷ along 7 6 (4 ∷ 5 ∷ []) ∷ []

-- 5<6 with a path of no steps, 6 with a path over 5: a ring; 7 leads into it, 8 has a list and a path over 8 itself
abbrev pub ring : List Relation
ring = along 5 6 [] ∷ along 6 table.none (5 ∷ []) ∷ along 7 table.none (3 ∷ 6 ∷ []) ∷ with_source 8 table.none (some (over 8 ∷ [])) (1 ∷ 2 ∷ []) [] ∷ []

pub record LeansWorked : Type 0 where
  pub a_step : leans paths 6 5 ≡ true
  pub a_source_beside_a_path : leans paths 7 6 ≡ true
  pub an_undeclared_step : leans paths 7 4 ≡ true
  pub the_second_step : leans paths 7 5 ≡ true
  pub not_back : leans paths 5 6 ≡ false
  pub not_itself : leans paths 6 6 ≡ false
  pub undeclared_on_nothing : leans paths 4 5 ≡ false
  pub round_the_ring : leans ring 5 5 ≡ true
  pub into_the_ring : leans ring 7 5 ≡ true
  pub not_out_of_it : leans ring 5 7 ≡ false
  pub settled_and_leaning : leans ring 8 8 ≡ true
  pub no_kinds_through_it : kinds_of paths 6 ≡ none
