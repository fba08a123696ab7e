-- A number gives the answer back that it is of, where no part of that is too large for its bits.
use Prim.Native.Nat.{ℕ, ◌^◌, ◌<◌}
use native.Mathlib.Omega.{arith}
use mathlib.Core.Path.{◌≡◌, ap, sym, ◌∙◌}
use mathlib.Core.Bool.{Bool, true, false}
use mathlib.Core.List.{List}
use lib.ListN.{length}
use borrow.Author.Tests.{ne_eqb}
use Rattle.definitions.specs.declared.answer.Refusal.{Refusal}
use Rattle.std.specs.Prelude.{Ok, Err}
use Rattle.definitions.specs.Answers.{Answer, gives}
use Rattle.definitions.specs.Table.{pick}
use Rattle.definitions.specs.Bytes.{words_of, in_bits, encode, number_field, place_field, name_field, other_field, decode, are_words, not_words, over_bytes, FitsBits}

module _ (number place name other : ℕ) (h : number < 2 ^ 6) (k : place < 2 ^ 14) (l : name < 2 ^ 32) (m : other < 2 ^ 12) where
  abbrev bits : ℕ
  bits = in_bits number place name other

  number_again : number_field bits ≡ number
  number_again = omega arith

  place_again : place_field bits ≡ place
  place_again = omega arith

  name_again : name_field bits ≡ name
  name_again = omega arith

  other_again : other_field bits ≡ other
  other_again = omega arith

given_again : (value steps : ℕ) → value < 2 ^ 32 → steps < 2 ^ 12 → decode (encode (gives value steps)) ≡ gives value steps
unfolding decode
given_again value steps h k =
    let z : 0 < 2 ^ 6 = omega arith in
    let y : 0 < 2 ^ 14 = omega arith in
    rw (number_again 0 0 value steps z y h k, name_again 0 0 value steps z y h k, other_again 0 0 value steps z y h k)

refused_again : (r : Refusal) → 0 < r.number → r.number < 2 ^ 6 → r.place < 2 ^ 14 → r.name < 2 ^ 32 → r.other < 2 ^ 12 → decode (encode (Err r)) ≡ Err r
unfolding decode
refused_again r z h k l m =
    rw (number_again r.number r.place r.name r.other h k l m, place_again r.number r.place r.name r.other h k l m, name_again r.number r.place r.name r.other h k l m, other_again r.number r.place r.name r.other h k l m, ne_eqb r.number 0 (λ e. omega arith))

-- the number gives the answer back
pub decode_again : (a : Answer) → FitsBits a → decode (encode a) ≡ a
decode_again (Ok g) (h, k) = given_again g.value g.steps h k
decode_again (Err r) (z, h, k, l, m) = refused_again r z h k l m

-- two answers with one number are one answer
pub answers_again : (a b : Answer) → FitsBits a → FitsBits b → encode a ≡ encode b → a ≡ b
answers_again a b f g e = sym (decode_again a f) ∙ ap decode e ∙ decode_again b g

-- an operation whose answers all fit, over bytes
pub over_bytes-fits : (answer : List ℕ → Answer) → ((ws : List ℕ) → FitsBits (answer ws)) → (bytes : List ℕ) → FitsBits (over_bytes answer bytes)
unfolding over_bytes
over_bytes-fits answer h bytes = go (are_words (length bytes))
  where
    go : (b : Bool) → FitsBits (pick b (answer (words_of bytes)) not_words)
    go true = h (words_of bytes)
    go false = (omega arith, omega arith, omega arith, omega arith, omega arith)
