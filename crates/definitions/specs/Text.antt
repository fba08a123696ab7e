-- What the program prints. "A program reads the same bytes from standard input and runs Resolve." A text is the list of its characters' codes.
use Rattle.std.specs.Prelude.{ℕ, zero, suc, ◌+◌, ◌/◌, ◌%◌, ◌^◌, List, [], ◌∷◌, ◌++◌, map, take, replicate, ltb, Ok, Err}
use Prim.Native.Char.{code}
use Prim.Native.String.{String, [] as nothing, ◌∷◌ as ◌then◌}
use Rattle.definitions.specs.Table.{pick}
use Rattle.definitions.specs.Answers.{Answer}
use Rattle.definitions.specs.Bytes.{words_of, over_bytes}
use Rattle.definitions.specs.Operations.{resolve_answer, resolve_buffer}

abbrev pub codes : String → List ℕ
codes nothing = []
codes (c then s) = code c ∷ codes s

-- the character of a digit: 0 to 9, then A to F
abbrev pub digit_of : ℕ → ℕ
digit_of d = pick (ltb d 10) (48 + d) (55 + d)

-- the decimal digits of a number that is not above k: those of its tenth part, and the last
unfoldable pub digits_up_to : ℕ → ℕ → List ℕ
digits_up_to zero n = n ∷ []
digits_up_to (suc k) n = pick (ltb n 10) (n ∷ []) (digits_up_to k (n / 10) ++ (n % 10 ∷ []))

abbrev pub decimal : ℕ → List ℕ
decimal n = digits_up_to n n

-- a number after a space
abbrev pub spaced : ℕ → List ℕ
spaced n = codes " " ++ map digit_of (decimal n)

-- "`ok 6 0` (length, steps)"
abbrev pub ok_line : ℕ → ℕ → List ℕ
ok_line count steps = codes "ok" ++ spaced count ++ spaced steps ++ codes "\n"

-- "these words, one a line, eight upper-case digits"
abbrev pub hexadecimal : ℕ → List ℕ
hexadecimal w =
    w / 16 ^ 7 % 16 ∷ w / 16 ^ 6 % 16 ∷ w / 16 ^ 5 % 16 ∷ w / 16 ^ 4 % 16 ∷ w / 16 ^ 3 % 16 ∷ w / 16 ^ 2 % 16 ∷ w / 16 % 16 ∷ w % 16 ∷ []

abbrev pub line_of : ℕ → List ℕ
line_of w = map digit_of (hexadecimal w) ++ codes "\n"

unfoldable pub lines_of : List ℕ → List ℕ
lines_of [] = []
lines_of (w ∷ ws) = line_of w ++ lines_of ws

-- "A refusal prints `refused 1 0 0 0` (number, place, name, other)"
abbrev pub refused_line : ℕ → ℕ → ℕ → ℕ → List ℕ
refused_line number place name other = codes "refused" ++ spaced number ++ spaced place ++ spaced name ++ spaced other ++ codes "\n"

-- an answer, and the slice whose first words are those that it says are written
unfoldable pub text_of : Answer → List ℕ → List ℕ
text_of (Ok g) slice = ok_line g.value g.steps ++ lines_of (take g.value slice)
text_of (Err r) slice = refused_line r.number r.place r.name r.other

-- What is printed for the bytes of standard input: what Resolve answers, and what it leaves in a slice of 8,192 zeros, as many as a pack may have.
unfoldable pub printed : List ℕ → List ℕ
printed bytes = text_of (over_bytes (λ ws. resolve_answer ws 8192) bytes) (resolve_buffer (words_of bytes) (replicate 8192 0))
