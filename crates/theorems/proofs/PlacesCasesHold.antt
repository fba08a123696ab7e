-- The worked cases of where records begin hold, by computing the definitions.
use mathlib.Core.Path.{refl}
use Rattle.definitions.specs.Table.{table, entry_of, fields_of, children_of}
use Rattle.definitions.specs.Form.{words_by, count, items}
use Rattle.definitions.specs.Tree.{tree, root, follow, fields, size}
use Rattle.definitions.specs.Pack.{defaulted_name, defaulted, relation, new_name, relation_tail, name_list, optional_derivation, derivation, chain, path, hop, member, rule, bodies, body, item, block_items, block, total}
use Rattle.definitions.specs.Chain.{walk, own, walks_from}
use Rattle.definitions.specs.Kinds.{find, kind_step, kinds_of}
use Rattle.definitions.specs.Places.{start_of}
use Rattle.definitions.specs.Filtered.{taken, direct}
use Rattle.definitions.specs.Tables.{tables}
use Rattle.definitions.specs.Direction.{turn}
use Rattle.definitions.specs.ResolvingTrees.{node_step, resolve_tree}
use Rattle.definitions.specs.Resolving.{defaulted_equal, resolve_bodies, rule_by, resolve_rules, predicate_by, resolve_relation, resolve_relations, holds, atom_names, stamp, resolved}
use Rattle.definitions.specs.WrittenRecords.{sums, other_pieces}
use Rattle.theorems.specs.PlacesCases.{PlacesWorked}

pub worked : PlacesWorked
unfolding entry_of table fields_of children_of words_by count items tree root follow fields size defaulted_name defaulted relation new_name relation_tail name_list optional_derivation derivation chain path hop member rule bodies body item block_items block total walk own walks_from find kind_step kinds_of start_of taken direct tables turn node_step resolve_tree defaulted_equal resolve_bodies rule_by resolve_rules predicate_by resolve_relation resolve_relations holds atom_names stamp resolved sums other_pieces
worked = record { empty = refl; before = refl; with_blocks = refl; one_list = refl; after = refl }
