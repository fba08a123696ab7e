-- How many bytes texts have at most: a number of twenty digits after a space; a first line, `refused` with four numbers and its end; and a word's line, of
-- eight digits and its end.
use Rattle.std.specs.Prelude.{ℕ}

abbrev pub number_bytes : ℕ
number_bytes = 21

abbrev pub first_line_bytes : ℕ
first_line_bytes = 92

abbrev pub word_line_bytes : ℕ
word_line_bytes = 9
