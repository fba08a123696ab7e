-- Cases that compute: 01's two examples, from the bytes to the text, and digits.
use mathlib.Core.Path.{◌≡◌, refl}
use mathlib.Core.List.{[], ◌∷◌}
use Rattle.definitions.specs.Table.{entry_of, table}
use Rattle.definitions.specs.Form.{allowed_here, count, items, says, whole, words_by, read_by}
use Rattle.definitions.specs.Pack.{read, words, total, layout, inner, records, defaulted, relations, rules, blocks}
use Rattle.definitions.specs.Chain.{walks_from}
use Rattle.definitions.specs.Tables.{tables}
use Rattle.definitions.specs.Resolving.{defaulted_equal, resolve_rules, resolve_relations, resolved}
use Rattle.definitions.specs.Operations.{resolve_answer, resolve_buffer}
use Rattle.definitions.specs.Bytes.{words_of, over_bytes}
use Rattle.definitions.specs.Text.{codes, digits_up_to, decimal, lines_of, text_of, printed}

-- "For 01000006 02000001 03000000 05000000 16000000 1C000000 (hexadecimal) it prints `ok 6 0` (length, steps), then these words"
smallest : printed (0x06 ∷ 0 ∷ 0 ∷ 0x01 ∷ 0x01 ∷ 0 ∷ 0 ∷ 0x02 ∷ 0 ∷ 0 ∷ 0 ∷ 0x03 ∷ 0 ∷ 0 ∷ 0 ∷ 0x05 ∷ 0 ∷ 0 ∷ 0 ∷ 0x16 ∷ 0 ∷ 0 ∷ 0 ∷ 0x1C ∷ [])
    ≡ codes "ok 6 0\n01000006\n02000001\n03000000\n05000000\n16000000\n1C000000\n"
unfolding printed text_of lines_of digits_up_to over_bytes words_of resolve_answer resolve_buffer read read_by allowed_here entry_of table count items says whole words_by words total layout inner records defaulted relations rules blocks walks_from tables defaulted_equal resolve_rules resolve_relations resolved
smallest = refl

-- "A refusal prints `refused 1 0 0 0` .., here for 3 bytes"
three_bytes : printed (6 ∷ 0 ∷ 0 ∷ []) ≡ codes "refused 1 0 0 0\n"
unfolding printed text_of digits_up_to over_bytes
three_bytes = refl

most-words : decimal 8192 ≡ 8 ∷ 1 ∷ 9 ∷ 2 ∷ []
unfolding digits_up_to
most-words = refl
