-- The names to which a relation leads, its source (12) and those of its path's steps (14), read at its record.
use Rattle.std.specs.Prelude.{ℕ, ◌+◌, List, [], ◌++◌, get_or, eqb}
use Rattle.definitions.specs.Table.{pick}
use Rattle.definitions.specs.Lean.{source_name}
use Rattle.chains.specs.Record.{value_at, kind_count, flag_at, path_in}
use Rattle.chains.specs.DirectoryWord.{starts_in}

-- of the derivation whose flag (11) stands at a place
unfoldable pub derived_edges : List ℕ → ℕ → List ℕ
derived_edges ws at = source_name (value_at ws (at + 1)) ++ path_in ws (at + 2)

-- of the relation whose record starts at a place; at 0 there is none
unfoldable pub edges_in : List ℕ → ℕ → List ℕ
edges_in ws start =
    pick (eqb start 0) []
    (pick (eqb (flag_at ws start) 1) (derived_edges ws (start + 4 + kind_count ws start)) [])

-- of a name, whose record starts where the directory says
unfoldable pub edges_by : List ℕ → List ℕ → ℕ → List ℕ
edges_by ws dir n = edges_in ws (get_or (starts_in dir) n 0)
