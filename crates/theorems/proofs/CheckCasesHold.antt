-- The worked cases of Check hold, by computing the definitions.
use mathlib.Core.Path.{refl}
use Rattle.definitions.specs.Table.{table, entry_of, fields_of, children_of}
use Rattle.definitions.specs.Form.{allowed_here, says, whole, read_by}
use Rattle.definitions.specs.Tree.{heads, fields, follow, tree, root}
use Rattle.definitions.specs.Pack.{defaulted_name, defaulted, name_list, hop, path, chain, member, derivation, optional_derivation, relation_tail, new_name, relation, relations, body, bodies, rule, rules, item, block, block_items, blocks, records, inner, layout, read}
use Rattle.definitions.specs.Checking.{check_answer}
use Rattle.theorems.specs.CheckCases.{ChecksWorked}

pub worked : ChecksWorked
unfolding check_answer read layout inner records defaulted defaulted_name relations relation new_name relation_tail name_list optional_derivation derivation chain path hop member root tree follow heads fields rules rule bodies body blocks block block_items item read_by allowed_here entry_of table fields_of children_of says whole
worked =
    record {
      smallest-yes = refl;
      full-yes = refl;
      depth_32_yes = refl;
      too_short = refl;
      wrong_kind = refl;
      ended = refl;
      not_allowed = refl;
      too_deep = refl;
      not_rising = refl;
      used-before = refl;
      left_over = refl;
    }
