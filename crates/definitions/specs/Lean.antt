-- What leads where. 01: "A leans on B if one or more source fields (12) lead from A to B, settled lists or not." 02, Job 4: "Lean now follows
-- field 12 and every step's 14, to any depth."
use Rattle.std.specs.Prelude.{ℕ, zero, suc, ◌≡◌, List, [], ◌∷◌, ◌++◌, map, Bool, true, false, ◌||◌, length, eqb}
use Rattle.std.proofs.Math.Option.{Option, none, some}
use Rattle.definitions.specs.Table.{pick}
use Rattle.definitions.specs.Table as table
use Rattle.definitions.specs.Form.{among}
use Rattle.definitions.specs.Records.{Hop, Derivation, Relation}
use Rattle.definitions.specs.Kinds.{find}

abbrev pub any : {A : Type 0} → (A → Bool) → List A → Bool
any f [] = false
any f (a ∷ l) = f a || any f l

-- one or more edges lead from a to b
pub data Leads (edges : ℕ → List ℕ) : ℕ → ℕ → Type 0 where
  straight : {a b : ℕ} → among b (edges a) ≡ true → Leads edges a b
  onward : {a m b : ℕ} → among m (edges a) ≡ true → Leads edges m b → Leads edges a b

-- the same by computation, over no more than so many edges
unfoldable pub leads_within : (ℕ → List ℕ) → ℕ → ℕ → ℕ → Bool
leads_within edges zero a b = false
leads_within edges (suc k) a b = any (λ m. eqb m b || leads_within edges k m b) (edges a)

-- field 12 of a derivation, if it is a name
abbrev pub source_name : ℕ → List ℕ
source_name source = pick (eqb source table.none) [] (source ∷ [])

-- the relations that the steps of a path name (14)
abbrev pub step_names : Option (List Hop) → List ℕ
step_names none = []
step_names (some hops) = map (λ (h : Hop). h.relation) hops

-- "Lean now follows field 12 and every step's 14": settled lists or not
abbrev pub named_by : Option Derivation → List ℕ
named_by none = []
named_by (some d) = source_name d.source ++ step_names d.path

abbrev pub edges_at : Option Relation → List ℕ
edges_at none = []
edges_at (some r) = named_by r.derivation

-- the names to which a name leads; "An undeclared name .. leans on nothing."
unfoldable pub edges : List Relation → ℕ → List ℕ
edges rs n = edges_at (find n rs)

-- only declared names have edges, so more of them than there are relations lead to no further name
unfoldable pub leans : List Relation → ℕ → ℕ → Bool
leans rs a b = leads_within (edges rs) (length rs) a b
