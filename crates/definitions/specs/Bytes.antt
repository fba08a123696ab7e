-- Packs and outputs as bytes, each answer as one number, as the host's functions have them.
use Rattle.std.specs.Prelude.{ℕ, ◌+◌, ◌*◌, ◌/◌, ◌%◌, ◌^◌, ◌<◌, ◌≡◌, Bool, ◌&&◌, List, [], ◌∷◌, ◌++◌, length, take, drop, eqb, leb, Ok, Err}
use Rattle.definitions.specs.Answers.{Answer, gives}
use Rattle.definitions.specs.Table.{pick}

-- "A host in Rust hands over the pack as bytes, four a word, low byte first."
abbrev pub word_from : ℕ → ℕ → ℕ → ℕ → ℕ
word_from a b c d = a + b * 256 + c * 65536 + d * 16777216

-- the words of bytes; up to three bytes past the last whole word make none
unfoldable pub words_of : List ℕ → List ℕ
words_of (a ∷ b ∷ c ∷ d ∷ bytes) = word_from a b c d ∷ words_of bytes
words_of (a ∷ b ∷ c ∷ []) = []
words_of (a ∷ b ∷ []) = []
words_of (a ∷ []) = []
words_of [] = []

-- the bytes of words
unfoldable pub bytes_of : List ℕ → List ℕ
bytes_of [] = []
bytes_of (w ∷ ws) = w % 256 ∷ w / 256 % 256 ∷ w / 65536 % 256 ∷ w / 16777216 % 256 ∷ bytes_of ws

-- an answer as one number: the number stands in bits 0 to 5, the place in 6 to 19, the name in 20 to 51, the other in 52 to 63
abbrev pub in_bits : ℕ → ℕ → ℕ → ℕ → ℕ
in_bits number place name other = number % 2 ^ 6 + place % 2 ^ 14 * 2 ^ 6 + name * 2 ^ 20 + other % 2 ^ 12 * 2 ^ 52

-- an answer that is no refusal has number 0, its value in the bits of the name, its steps in those of the other, and 0 in the rest
abbrev pub encode : Answer → ℕ
encode (Ok g) = in_bits 0 0 g.value g.steps
encode (Err r) = in_bits r.number r.place r.name r.other

-- and the answer from its number: its fields, and what they say, as no refusal has the number 0
abbrev pub number_field : ℕ → ℕ
number_field r = r % 2 ^ 6

abbrev pub place_field : ℕ → ℕ
place_field r = r / 2 ^ 6 % 2 ^ 14

abbrev pub name_field : ℕ → ℕ
name_field r = r / 2 ^ 20 % 2 ^ 32

abbrev pub other_field : ℕ → ℕ
other_field r = r / 2 ^ 52 % 2 ^ 12

unfoldable pub decode : ℕ → Answer
decode r =
    pick (eqb (number_field r) 0)
    (gives (name_field r) (other_field r))
    (Err (record { number = number_field r; place = place_field r; name = name_field r; other = other_field r }))

-- an answer of which no part is too large for its bits
abbrev pub FitsBits : Answer → Type 0
FitsBits (Ok g) = (g.value < 2 ^ 32) × (g.steps < 2 ^ 12)
FitsBits (Err r) = (0 < r.number) × (r.number < 2 ^ 6) × (r.place < 2 ^ 14) × (r.name < 2 ^ 32) × (r.other < 2 ^ 12)

-- "byte counts not divisible by four, or above 32,768, give that": refused 1 0 0 0
abbrev pub are_words : ℕ → Bool
are_words count = eqb (count % 4) 0 && leb count 32768

abbrev pub not_words : Answer
not_words = Err (record { number = 1; place = 0; name = 0; other = 0 })

-- what an operation answers for a pack in bytes
unfoldable pub over_bytes : (List ℕ → Answer) → List ℕ → Answer
over_bytes answer bytes = pick (are_words (length bytes)) (answer (words_of bytes)) not_words

-- the output after an answer, whose value is the number of words written. "A refusal changes no lent buffer. Words and bytes past those that an operation
-- writes are kept."
unfoldable pub out_after : Answer → List ℕ → List ℕ → List ℕ
out_after (Ok g) written out = bytes_of (take g.value written) ++ drop (4 * g.value) out
out_after (Err r) written out = out

-- An operation that writes: its answer for an output of b bytes, of which it uses the first 4 · (b div 4), and the output afterwards.
abbrev pub in_room : (List ℕ → ℕ → Answer) → ℕ → List ℕ → Answer
in_room answer b = over_bytes (λ ws. answer ws (b / 4))

abbrev pub out_bytes : (List ℕ → ℕ → Answer) → (List ℕ → List ℕ → List ℕ) → List ℕ → List ℕ → List ℕ
out_bytes answer buffer bytes out = out_after (in_room answer (length out) bytes) (buffer (words_of bytes) (words_of out)) out

-- what holds of the number that such a function answers, and of the output afterwards
pub record Gives (answer : List ℕ → ℕ → Answer) (buffer : List ℕ → List ℕ → List ℕ) (bytes out : List ℕ) (r : ℕ) (after : List ℕ) : Type 0 where
  pub answers : r ≡ encode (in_room answer (length out) bytes)
  pub leaves : after ≡ out_bytes answer buffer bytes out
