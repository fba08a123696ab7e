-- The operations: what each answers of any words, and what it leaves in the lent slice.
use Rattle.std.specs.Prelude.{ℕ, List, ltb, leb}
use Rattle.definitions.specs.declared.operation.Filter.{Filter}
use Rattle.definitions.specs.declared.operation.Question.{Question}
use Rattle.definitions.specs.declared.operation.Question.TheVariants.{Check, KindsOf, Lean}
use Rattle.definitions.specs.declared.operation.Writing.{Writing}
use Rattle.definitions.specs.declared.operation.Writing.TheVariants.{Rewrite, AllKinds, Filtered, Resolve}
use Rattle.definitions.specs.Table.{pick}
use Rattle.definitions.specs.Records.{Pack}
use Rattle.definitions.specs.Pack.{total, words, read}
use Rattle.definitions.specs.Answers.{Answer, answer, place_found, unknown, yes_or_no, done, map_done, Output, all_of, Operation, answer_by, buffer_by}
use Rattle.definitions.specs.Checking.{check_answer, rewrite_answer, rewrite_buffer}
use Rattle.definitions.specs.Kinds.{all_kinds, own_answer}
use Rattle.definitions.specs.Places.{place_of, all_kinds_words}
use Rattle.definitions.specs.Lean.{leans}
use Rattle.definitions.specs.Filtered.{filter_words}
use Rattle.definitions.specs.Resolving.{resolved}

-- "All kinds gives Check's refusals, then 16 if the slice has fewer words than relations. It writes, per relation in record order, the place ..;
-- the answer carries the number of declarations it read."
abbrev pub all_kinds_writing : Operation
all_kinds_writing = record { makes = λ p. done (all_of (all_kinds_words p)); steps = λ p. (all_kinds p.relations).steps }

unfoldable pub all_kinds_answer : List ℕ → ℕ → Answer
all_kinds_answer ws room = answer_by all_kinds_writing ws room

unfoldable pub all_kinds_buffer : List ℕ → List ℕ → List ℕ
all_kinds_buffer ws lent = buffer_by all_kinds_writing ws lent

-- "Kinds of one name (answer: the place as above)"
unfoldable pub kinds_of_answer : List ℕ → ℕ → Answer
kinds_of_answer ws name =
    answer (read ws) (λ p. pick (ltb name p.names) (place_found (place_of p (own_answer p.relations name))) (unknown name))

-- "Lean (yes or no for two names) .. (.. Lean's first name first)"
unfoldable pub lean_answer : List ℕ → ℕ → ℕ → Answer
lean_answer ws a b =
    answer (read ws)
    (λ p. pick (ltb a p.names) (pick (ltb b p.names) (yes_or_no (leans p.relations a b)) (unknown b)) (unknown a))

-- "Filtered tables .. give Check's refusals, then 16 if the slice has fewer than N words. N words are written, the rest kept."
abbrev pub filtering : Filter → Operation
filtering f = record { makes = λ p. done (all_of (filter_words f p)); steps = λ p. 0 }

unfoldable pub filter_answer : Filter → List ℕ → ℕ → Answer
filter_answer f ws room = answer_by (filtering f) ws room

unfoldable pub filter_buffer : Filter → List ℕ → List ℕ → List ℕ
filter_buffer f ws lent = buffer_by (filtering f) ws lent

-- "Then 16: the result needs over 8,192 words or more than the output slice has. Otherwise it writes the whole pack in record order, slots and lists as
-- Resolving leaves them, the total the result's own length, all else as it stood, and answers length and step count (the number All kinds carries)"
abbrev pub whole_pack : Pack → Output
whole_pack q = record { words = words q; count = total q; allowed = leb (total q) 8192 }

abbrev pub resolving : Operation
resolving = record { makes = λ p. map_done whole_pack (resolved p); steps = λ p. (all_kinds p.relations).steps }

unfoldable pub resolve_answer : List ℕ → ℕ → Answer
resolve_answer ws room = answer_by resolving ws room

unfoldable pub resolve_buffer : List ℕ → List ℕ → List ℕ
resolve_buffer ws lent = buffer_by resolving ws lent

-- ---- all of them

-- those that only answer
abbrev pub answer_to : Question → List ℕ → Answer
answer_to Check ws = check_answer ws
answer_to (KindsOf name) ws = kinds_of_answer ws name
answer_to (Lean a b) ws = lean_answer ws a b

-- those that write: the answer, and the slice afterwards
abbrev pub answer_of : Writing → List ℕ → ℕ → Answer
answer_of Rewrite ws room = rewrite_answer ws room
answer_of AllKinds ws room = all_kinds_answer ws room
answer_of (Filtered f) ws room = filter_answer f ws room
answer_of Resolve ws room = resolve_answer ws room

abbrev pub buffer_of : Writing → List ℕ → List ℕ → List ℕ
buffer_of Rewrite ws lent = rewrite_buffer ws lent
buffer_of AllKinds ws lent = all_kinds_buffer ws lent
buffer_of (Filtered f) ws lent = filter_buffer f ws lent
buffer_of Resolve ws lent = resolve_buffer ws lent
