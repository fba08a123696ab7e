-- What one declaration read says, as one number.
use Rattle.std.specs.Prelude.{ℕ, ◌+◌, ◌<◌}
use Rattle.std.proofs.Math.Option.{none, some}
use Rattle.definitions.specs.Records.{Relation}
use Rattle.definitions.specs.Chain.{Link, end, next, mapped}
use Rattle.definitions.specs.Kinds.{KindsFound, declares}
use Rattle.definitions.specs.Places.{count_place}
use Rattle.chains.specs.declared.entry.Declaration.{Declaration}
use Rattle.chains.specs.declared.entry.Declaration.TheVariants.{NoKinds, At, Leads}

-- a declaration as one number: the place where its list is counted, 0 for no kinds, or 65536 and the name that it leads on to
abbrev pub coded_link : Link ℕ → ℕ
coded_link (end place) = place
coded_link (next name) = 65536 + name

-- what the code reads, as that number
abbrev pub number_of_declaration : Declaration → ℕ
number_of_declaration NoKinds = 0
number_of_declaration (At place) = place
number_of_declaration (Leads name) = 65536 + name

-- a place is no name
abbrev pub Ends : Declaration → Type 0
Ends NoKinds = Unit {0}
Ends (At place) = place < 65536
Ends (Leads name) = Unit {0}

-- the declaration of a relation whose record starts at a place, with its list as a place
abbrev pub placed : ℕ → Relation → KindsFound → ℕ
placed start r none = 0
placed start r (some s) = start + count_place s.which r

unfoldable pub declaration_at : ℕ → Relation → Link ℕ
declaration_at start r = mapped (placed start r) (declares r.name r.slot_kinds r.derivation)
