-- Worked cases: which nodes are noted, and how they are turned.
use Prim.Native.Nat.{ℕ}
use mathlib.Core.Path.{◌≡◌, refl}
use mathlib.Core.List.{List, [], ◌∷◌}
use mathlib.Core.Bool.{true, false}
use mathlib.Core.Option.{Option, none, some}
use lib.Dec.{eqb}
use Rattle.definitions.specs.Table.{pick, word_of, table, entry_of, fields_of}
use Rattle.definitions.specs.Table as table
use Rattle.definitions.specs.Tree.{Tree, Forest, node, more, tree_words, size}
use Rattle.definitions.specs.Tree as trees
use Rattle.definitions.specs.Records.{Derivation, Relation, Rule}
use Rattle.definitions.specs.Tables.{Derived}
use Rattle.definitions.specs.Direction.{turn, member_direction}
use Rattle.definitions.specs.Answers.{done, refused}
use Rattle.definitions.specs.ResolvingTrees.{node_step}
use Rattle.turning.specs.Notes.{Note, note, look_by, noted, notes_of, notes_run, rule_notes, relation_notes}
use Rattle.turning.specs.Turns.{KnownTables, Root, work, nowhere, open_root, step_at, turn_node, turn_note, turn_notes}

-- relation 5 is typed [1,2], 7 is typed [1,3], 4 is typed [2,2], and 6 is derived with the kinds [2,1] in its slots 0 and 1
abbrev typed : ℕ → Option (List ℕ)
typed n =
    pick (eqb n 5) (some (1 ∷ 2 ∷ [])) (pick (eqb n 7) (some (1 ∷ 3 ∷ [])) (pick (eqb n 4) (some (2 ∷ 2 ∷ [])) none))

abbrev derived : ℕ → Option Derived
derived n = pick (eqb n 6) (some (record { current = 0; related = 1; kinds = some (2 ∷ 1 ∷ []) })) none

abbrev known : KnownTables
known = record { tables = record { typed = typed; derived = derived; direct = λ e. none }; input = λ origin owner name. none }

abbrev w : ℕ → ℕ → ℕ
w kind value = word_of kind value

abbrev one : Tree → Forest
one t = more t trees.none

abbrev leaf : Tree
leaf = node 64 0 [] trees.none

abbrev count : ℕ → ℕ → Forest → Tree
count relation flag f = node 74 relation ((80, 7) ∷ (81, 9) ∷ (86, 0) ∷ (83, flag) ∷ []) f

abbrev member5 : Tree
member5 = node 101 5 ((80, 7) ∷ (81, 9) ∷ []) trees.none

-- a rule of the name 8, without origin, for an entity
abbrev rule_of : ℕ → Tree → Rule
rule_of entity t = record { citing = 8; origin = table.none; entity = entity; semantics = record { sort = 0; tree = t }; versions = [] }

abbrev in_rule : Root
in_rule = record { name = 8; origin = table.none; member = none }

-- the notes of a rule that stands at 0
abbrev first_notes : Rule → List Note
first_notes r = rule_notes 1 0 r

-- A1: relation 5 of the kinds 1 and 2, entity 2: slots 1 and 0, and 1 results
a1_notes : first_notes (rule_of 2 (count 5 0 trees.none)) ≡ note 0 0 false ∷ note 5 1 false ∷ []
unfolding rule_notes notes_run notes_of noted look_by entry_of table size tree_words
a1_notes = refl

a1 : turn_notes known (w 23 8 ∷ w 24 table.none ∷ w 25 2 ∷ w 26 1 ∷ w 27 0 ∷ w 74 5 ∷ w 80 7 ∷ w 81 9 ∷ w 86 0 ∷ w 83 0 ∷ []) 1 (note 0 0 false ∷ note 5 1 false ∷ [])
    (work (w 23 8 ∷ w 24 table.none ∷ w 25 2 ∷ w 26 1 ∷ w 27 0 ∷ w 74 5 ∷ w 80 7 ∷ w 81 9 ∷ w 86 0 ∷ w 83 0 ∷ []) (0 ∷ 0 ∷ 0 ∷ []) nowhere)
    ≡ done (work (w 23 8 ∷ w 24 table.none ∷ w 25 2 ∷ w 26 1 ∷ w 27 0 ∷ w 74 5 ∷ w 80 1 ∷ w 81 0 ∷ w 86 0 ∷ w 83 0 ∷ []) (0 ∷ 2 ∷ 1 ∷ []) in_rule)
unfolding turn_notes turn_note turn_node open_root step_at node_step turn look_by entry_of table fields_of
a1 = refl

-- A2: both kinds are 2: 10, at the node, of the rule 8, other the entity
a2 : turn_notes known (w 23 8 ∷ w 24 table.none ∷ w 25 2 ∷ w 26 1 ∷ w 27 0 ∷ w 74 4 ∷ w 80 7 ∷ w 81 9 ∷ w 86 0 ∷ w 83 0 ∷ []) 1 (note 0 0 false ∷ note 5 1 false ∷ []) (work [] (0 ∷ 0 ∷ 0 ∷ []) nowhere)
    ≡ refused (record { number = 10; place = 5; name = 8; other = 2 })
unfolding turn_notes turn_note turn_node open_root step_at node_step turn look_by entry_of table fields_of
a2 = refl

-- M1: relation 6, of the membership (2,1); a test over 5 of the kinds 1 and 2: slots 1 and 0
abbrev derivation6 : Tree → Derivation
derivation6 t =
    record { source = table.none; path = none; current = 0; related = 1; entity = table.none; member = table.none; slot_entities = 2 ∷ 1 ∷ []; predicate = t }

abbrev relation6 : Tree → Relation
relation6 t = record { name = 6; origin = table.none; arity = 2; slot_kinds = []; derivation = some (derivation6 t) }

m1_notes : relation_notes 1 0 (relation6 member5) ≡ note 0 0 false ∷ note 14 1 false ∷ []
unfolding relation_notes notes_of noted look_by entry_of table
m1_notes = refl

m1 : turn_notes known (w 6 6 ∷ w 7 table.none ∷ w 101 5 ∷ w 80 7 ∷ w 81 9 ∷ []) 1 (note 0 0 false ∷ note 2 1 false ∷ []) (work (w 6 6 ∷ w 7 table.none ∷ w 101 5 ∷ w 80 7 ∷ w 81 9 ∷ []) (0 ∷ 0 ∷ 0 ∷ []) nowhere)
    ≡ done (work (w 6 6 ∷ w 7 table.none ∷ w 101 5 ∷ w 80 1 ∷ w 81 0 ∷ []) (0 ∷ 1 ∷ 0 ∷ []) (record { name = 6; origin = table.none; member = some (2, 1) }))
unfolding turn_notes turn_note turn_node open_root step_at node_step member_direction look_by entry_of table fields_of
m1 = refl

-- where membership is lost the slots stay
m1_lost : turn_notes known (w 6 6 ∷ w 7 table.none ∷ w 101 5 ∷ w 80 7 ∷ w 81 9 ∷ []) 1 (note 0 0 false ∷ note 2 1 true ∷ []) (work (w 6 6 ∷ w 7 table.none ∷ w 101 5 ∷ w 80 7 ∷ w 81 9 ∷ []) (0 ∷ 0 ∷ 0 ∷ []) nowhere)
    ≡ done (work (w 6 6 ∷ w 7 table.none ∷ w 101 5 ∷ w 80 7 ∷ w 81 9 ∷ []) (0 ∷ 1 ∷ 0 ∷ []) (record { name = 6; origin = table.none; member = some (2, 1) }))
unfolding turn_notes turn_note turn_node open_root step_at node_step member_direction look_by entry_of table fields_of
m1_lost = refl

-- A where tree: And of a test and a Comparison of a Count over 7 with a leaf. Both stand inside the Count over 5, without membership.
where_notes : notes_of 2 1 false 5 (count 5 1 (one (node 97 2 [] (more member5 (one (node 96 0 [] (more (count 7 0 trees.none) (one leaf))))))))
    ≡ note 5 1 false ∷ note 11 2 true ∷ note 15 2 true ∷ []
unfolding notes_of noted look_by entry_of table size
where_notes = refl

-- the inner Count is matched against the kind that resulted at the outer one, which is 1
where_turned : turn_notes known (w 23 8 ∷ w 24 table.none ∷ w 25 2 ∷ w 74 5 ∷ w 80 7 ∷ w 81 9 ∷ w 86 0 ∷ w 83 1 ∷ w 74 7 ∷ w 80 7 ∷ w 81 9 ∷ []) 1 (note 0 0 false ∷ note 3 1 false ∷ note 8 2 true ∷ [])
    (work (w 23 8 ∷ w 24 table.none ∷ w 25 2 ∷ w 74 5 ∷ w 80 7 ∷ w 81 9 ∷ w 86 0 ∷ w 83 1 ∷ w 74 7 ∷ w 80 7 ∷ w 81 9 ∷ []) (0 ∷ 0 ∷ 0 ∷ 0 ∷ []) nowhere)
    ≡ done (work (w 23 8 ∷ w 24 table.none ∷ w 25 2 ∷ w 74 5 ∷ w 80 1 ∷ w 81 0 ∷ w 86 0 ∷ w 83 1 ∷ w 74 7 ∷ w 80 0 ∷ w 81 1 ∷ []) (0 ∷ 2 ∷ 1 ∷ 3 ∷ []) in_rule)
unfolding turn_notes turn_note turn_node open_root step_at node_step turn look_by entry_of table fields_of
where_turned = refl

-- If, of a test, in the subject and in a pattern of NoMatch: lost in the pattern alone
abbrev if_member : Tree
if_member = node 71 0 [] (more member5 (more leaf (one leaf)))

no_match : notes_of 2 1 false 5 (node 72 1 [] (more if_member (one if_member))) ≡ note 7 1 false ∷ note 13 1 true ∷ []
unfolding notes_of noted look_by entry_of table size
no_match = refl

-- in both parts of OverPeriods
over_periods : notes_of 2 1 false 5 (node 73 1 [] (more if_member (one if_member))) ≡ note 7 1 true ∷ note 13 1 true ∷ []
unfolding notes_of noted look_by entry_of table size
over_periods = refl

-- what stamping asks for: an Exists of a SameEntity. Neither opens, and turning passes them over.
judgments : notes_of 2 1 false 5 (node 103 5 ((85, 0) ∷ []) (one (node 104 0 [] trees.none))) ≡ note 5 1 false ∷ note 7 1 false ∷ []
unfolding notes_of noted look_by entry_of table size
judgments = refl

passed : turn_notes known (w 103 5 ∷ w 85 0 ∷ w 104 0 ∷ []) 2 (note 0 1 false ∷ note 2 1 false ∷ []) (work (1 ∷ 2 ∷ 3 ∷ []) (0 ∷ 0 ∷ 0 ∷ 0 ∷ []) nowhere) ≡ done (work (1 ∷ 2 ∷ 3 ∷ []) (0 ∷ 0 ∷ 0 ∷ 0 ∷ []) nowhere)
unfolding turn_notes turn_note turn_node look_by entry_of table
passed = refl
