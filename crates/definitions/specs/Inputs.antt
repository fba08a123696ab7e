-- The input that an OnlyRelated node names. 01: "11 value is derived, 12 a block is no sequence, 13 not exactly one declaration, 14 not Boolean, 15 wrong or empty owner";
-- "in this order, over blocks of the citing origin (none equals none). Owner 0 is 15."
use Rattle.std.specs.Prelude.{ℕ, List, [], ◌∷◌, ◌++◌, Bool, true, false, ◌||◌, not, eqb}
use Rattle.std.proofs.Math.Option.{Option, none, some}
use Rattle.definitions.specs.Table.{pick}
use Rattle.definitions.specs.Records.{Item, Block}
use Rattle.definitions.specs.Lean.{any}

-- the blocks of an origin
abbrev pub of_origin : ℕ → List Block → List Block
of_origin o [] = []
of_origin o (b ∷ bs) = pick (eqb b.origin o) (b ∷ of_origin o bs) (of_origin o bs)

abbrev pub no_sequence : Option (List Item) → Bool
no_sequence none = true
no_sequence (some l) = false

abbrev pub named : ℕ → List Item → List Item
named n [] = []
named n (i ∷ l) = pick (eqb i.name n) (i ∷ named n l) (named n l)

abbrev pub sequence : Option (List Item) → List Item
sequence none = []
sequence (some l) = l

-- the declarations of a name
abbrev pub declarations : ℕ → List Block → List Item
declarations n [] = []
declarations n (b ∷ bs) = named n (sequence b.items) ++ declarations n bs

-- one declaration, and the owner: the number by which it is refused, if it is
abbrev pub owned : ℕ → List Item → Option ℕ
owned owner [] = some 13
owned owner (i ∷ j ∷ l) = some 13
owned owner (i ∷ []) = pick (eqb i.boolean 1) (pick (eqb owner 0 || not (eqb i.entity owner)) (some 15) none) (some 14)

-- an input name
unfoldable pub input : List Block → ℕ → ℕ → ℕ → Option ℕ
input blocks origin owner n =
    pick (any (λ (b : Block). no_sequence b.items) (of_origin origin blocks)) (some 12) (owned owner (declarations n (of_origin origin blocks)))
