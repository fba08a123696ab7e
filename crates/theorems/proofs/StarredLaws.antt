-- The worked cases hold, by computing the definitions.
use mathlib.Core.Path.{refl}
use Rattle.definitions.specs.Table.{entry_of, table}
use Rattle.definitions.specs.Form.{words_by, count, items}
use Rattle.definitions.specs.Tree.{tree, root, follow, fields, size}
use Rattle.definitions.specs.Pack.{relation, new_name, relation_tail, name_list, optional_derivation, derivation, chain, path, hop, member}
use Rattle.definitions.specs.Chain.{walk, own, walks_from}
use Rattle.definitions.specs.Kinds.{find, kind_step, kinds_of}
use Rattle.definitions.specs.Places.{start_of}
use Rattle.definitions.specs.Filtered.{taken, direct, innermost}
use Rattle.definitions.specs.Tables.{tables}
use Rattle.definitions.specs.Direction.{turn}
use Rattle.definitions.specs.Direction as direction
use Rattle.definitions.specs.Inputs.{input}
use Rattle.definitions.specs.ResolvingTrees.{node_step, resolve_tree}
use Rattle.definitions.specs.Resolving.{defaulted_equal, resolve_bodies, rule_by, resolve_rules, predicate_by, resolve_relation, resolve_relations, holds, atom_names, stamp, resolved}
use Rattle.theorems.specs.Starred.{AllHold, cases}

pub starred : AllHold cases
unfolding entry_of table words_by count items tree root follow fields relation new_name relation_tail name_list optional_derivation derivation chain path hop member walk own walks_from find kind_step kinds_of taken direct innermost start_of tables turn direction.member_direction input node_step size resolve_tree defaulted_equal resolve_bodies rule_by resolve_rules predicate_by resolve_relation resolve_relations holds atom_names stamp resolved
starred = (
  ((refl, refl, refl)),
  (
    (refl, refl, refl),
    (
      (refl, refl, refl),
      (
        (refl, refl, refl),
        (
          (refl, refl, refl),
          (
            (refl, refl, refl),
            (
              refl,
              (
                refl,
                (
                  refl,
                  (
                    refl,
                    (
                      refl,
                      (
                        refl,
                        (
                          refl,
                          (
                            refl,
                            ((refl, refl), tt),
                          ),
                        ),
                      ),
                    ),
                  ),
                ),
              ),
            ),
          ),
        ),
      ),
    ),
  ),
)
