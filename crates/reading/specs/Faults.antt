-- What a walker of trees answers.
use Rattle.std.specs.Prelude.{ℕ, ◌+◌, ◌/◌, ◌%◌, ◌≤◌, ◌≡◌, Result, Ok, Err}
use Rattle.definitions.specs.declared.answer.Refusal.{Refusal}
use Rattle.pack.specs.Readers.{Step, on}
use Rattle.reading.specs.declared.fault.Fault.{Fault}

-- the refusal that a fault tells
abbrev pub refusal_of : Fault → Refusal
refusal_of f = record { number = f.code % 64; place = f.code / 64; name = 0; other = 0 }

-- the step that an answer tells
abbrev pub walked : Result ℕ Fault → Step
walked (Ok at) = on 0 (record { at = at })
walked (Err f) = Err (refusal_of f)

-- a refusal that a fault can tell, of which the place is up to a most
pub record Plain (most : ℕ) (r : Refusal) : Type 0 where
  pub number : r.number ≤ 5
  pub place : r.place ≤ most
  pub bare : r ≡ record { number = r.number; place = r.place; name = 0; other = 0 }

-- what is refused in a part of the words, in the words
abbrev pub later : ℕ → Refusal → Refusal
later b r = record { number = r.number; place = r.place + b; name = r.name; other = r.other }
