-- Forms: a piece of a pack described once. From the description follow the words written for a value, what a value must keep to, and a reader with Check's refusals.
use Rattle.std.specs.Prelude.{ℕ, zero, suc, ◌+◌, ◌-◌, ◌<◌, ◌≡◌, List, [], ◌∷◌, ◌++◌, Bool, true, false, ◌||◌, length, eqb}
use Rattle.std.proofs.Math.Option.{Option, none, some}
use Rattle.definitions.specs.declared.answer.Refusal.{Refusal}
use Rattle.definitions.specs.declared.table.Values.{Values}
use Rattle.definitions.specs.declared.table.Values.TheVariants.{AtMost, FromOne}
use Rattle.definitions.specs.Table.{pick, kind_of, value_of, word_of, allowed, entry_of}
use Rattle.definitions.specs.Table as table

-- what a reader finds: a value, the place after it and the words left; or a refusal
pub data Read (A : Type 0) : Type 0 where
  got : A → ℕ → List ℕ → Read A
  refused : Refusal → Read A

-- a refusal that says its number and place alone
abbrev pub because : {A : Type 0} → ℕ → ℕ → Read A
because number place = refused (record { number = number; place = place; name = 0; other = 0 })

abbrev pub bind : {A B : Type 0} → Read A → (A → ℕ → List ℕ → Read B) → Read B
bind (got a at ws) k = k a at ws
bind (refused r) k = refused r

abbrev pub map_read : {A B : Type 0} → (A → B) → Read A → Read B
map_read f (got a at ws) = got (f a) at ws
map_read f (refused r) = refused r

-- whether a word's value is one that the table allows its kind
unfoldable pub allowed_here : ℕ → ℕ → ℕ → Bool
allowed_here n kind v = allowed (entry_of kind).values n v

-- One word. 01: "at each word (place = it): 3 the pack has ended ..; 2 wrong kind; 5 a tree node at depth 33 ..; 4 value not allowed".
-- `rejects` gives the number by which a kind is rejected, 2 or 5, or 0.
abbrev pub read_word : (ℕ → ℕ) → ℕ → ℕ → List ℕ → Read (ℕ × ℕ)
read_word rejects n at [] = because 3 at
read_word rejects n at (w ∷ ws) =
    pick (eqb (rejects (kind_of w)) 0)
    (pick (allowed_here n (kind_of w) (value_of w)) (got (kind_of w, value_of w) (at + 1) ws) (because 4 at))
    (because (rejects (kind_of w)) at)

-- none but the kinds of a list
abbrev pub among : ℕ → List ℕ → Bool
among v [] = false
among v (u ∷ us) = eqb v u || among v us

abbrev pub only : List ℕ → ℕ → ℕ
only kinds k = pick (among k kinds) 0 2

-- one word of a kind: its value
abbrev pub read_field : ℕ → ℕ → ℕ → List ℕ → Read ℕ
read_field n kind at ws = map_read (λ t. t.1) (read_word (only (kind ∷ [])) n at ws)

-- n of them, one after the other, with a state that each moves on
abbrev pub read_all : {S A : Type 0} → (S → A → S) → (S → ℕ → List ℕ → Read A) → ℕ → S → ℕ → List ℕ → Read (List A)
read_all step R zero s at ws = got [] at ws
read_all step R (suc n) s at ws = bind (R s at ws) (λ a at' ws'. map_read (λ l. a ∷ l) (read_all step R n (step s a) at' ws'))

abbrev pub words_all : {S A : Type 0} → (S → A → S) → (S → A → List ℕ) → S → List A → List ℕ
words_all step W s [] = []
words_all step W s (a ∷ l) = W s a ++ words_all step W (step s a) l

abbrev pub FineAll : {S A : Type 0} → (S → A → S) → (S → A → Type 0) → S → List A → Type 0
FineAll step P s [] = Unit {0}
FineAll step P s (a ∷ l) = P s a × FineAll step P (step s a) l

-- one for each entry of a list
abbrev pub read_each : {X A : Type 0} → (X → ℕ → List ℕ → Read A) → List X → ℕ → List ℕ → Read (List A)
read_each R [] at ws = got [] at ws
read_each R (x ∷ xs) at ws = bind (R x at ws) (λ a at' ws'. map_read (λ l. a ∷ l) (read_each R xs at' ws'))

abbrev pub words_each : {X A : Type 0} → (X → A → List ℕ) → List X → List A → List ℕ
words_each W [] [] = []
words_each W [] (a ∷ l) = []
words_each W (x ∷ xs) [] = []
words_each W (x ∷ xs) (a ∷ l) = W x a ++ words_each W xs l

abbrev pub FineEach : {X A : Type 0} → (X → A → Type 0) → List X → List A → Type 0
FineEach P [] [] = Unit {0}
FineEach P [] (a ∷ l) = ⊥
FineEach P (x ∷ xs) [] = ⊥
FineEach P (x ∷ xs) (a ∷ l) = P x a × FineEach P xs l

-- What a count word counts: a list; a list or none; one or nothing, by a flag.
pub data Holder : Type 0 → Type 0 → Type 1 where
  list : {A : Type 0} → Holder A (List A)
  list_or_none : {A : Type 0} → Holder A (Option (List A))
  option : {A : Type 0} → Holder A (Option A)

-- the value of the count word, the elements, how many elements a value says, and the whole again
unfoldable pub count : {A C : Type 0} → Holder A C → C → ℕ
count list l = length l
count list_or_none none = table.none
count list_or_none (some l) = length l
count option none = 0
count option (some a) = 1

unfoldable pub items : {A C : Type 0} → Holder A C → C → List A
items list l = l
items list_or_none none = []
items list_or_none (some l) = l
items option none = []
items option (some a) = a ∷ []

abbrev pub repeats : ℕ → ℕ
repeats v = pick (eqb v table.none) 0 v

unfoldable pub says : {A C : Type 0} → Holder A C → ℕ → ℕ
says list v = v
says list_or_none v = repeats v
says option v = v

abbrev pub first : {A : Type 0} → List A → Option A
first [] = none
first (a ∷ l) = some a

unfoldable pub whole : {A C : Type 0} → Holder A C → ℕ → List A → C
whole list v l = l
whole list_or_none v l = pick (eqb v table.none) none (some l)
whole option v l = first l

-- the rule that a count word must have: of a flag, at most 1; of one and more, from 1
abbrev pub Suits : {A C : Type 0} → Holder A C → Values → Type 0
Suits list r = Unit {0}
Suits list_or_none r = Unit {0}
Suits option r = r ≡ AtMost 1

infixr 60 ◌▹◌
pub data Form : Type 0 → Type 1 where
  -- a word of this kind whose value the table allows
  field : ℕ → ℕ → Form ℕ
  -- a word of a kind that is not rejected: its kind and value
  word : (ℕ → ℕ) → ℕ → Form (ℕ × ℕ)
  -- no word
  empty : {A : Type 0} → A → Form A
  -- one for each entry of a list
  each : {X A : Type 0} → (X → Form A) → List X → Form (List A)
  -- a form with a later test of its value, whose refusal is made from its place and value
  guarded : {A : Type 0} → Form A → (A → Bool) → (ℕ → A → Refusal) → Form A
  -- one and then another, which may depend on the first one's value
  ◌▹◌ : {A B : Type 0} → Form A → (A → Form B) → Form (A × B)
  -- as many as a count word of this kind says, with a state that each moves on
  counted_from : {S A C : Type 0} (H : Holder A C) → ℕ → (kind : ℕ) → Suits H (entry_of kind).values → (S → A → S) → (S → Form A) → S → Form C
  -- a count word of this kind, which counts one and more
  one_and_more : {A B : Type 0} → ℕ → (kind : ℕ) (most : ℕ) → (entry_of kind).values ≡ FromOne most → Form A → Form B → Form (A × List B)
  -- the same words, as another type
  via : {A B : Type 0} (to : A → B) (from : B → A) → ((b : B) → to (from b) ≡ b) → ((a : A) → from (to a) ≡ a) → Form A → Form B

-- no state
abbrev pub counted : {A C : Type 0} (H : Holder A C) → ℕ → (kind : ℕ) → Suits H (entry_of kind).values → Form A → Form C
counted H n kind suits F = counted_from {S = Unit {0}} H n kind suits (λ s a. s) (λ s. F) tt

-- the words of a value
unfoldable pub words_by : {A : Type 0} → Form A → A → List ℕ
words_by (field n kind) v = word_of kind v ∷ []
words_by (word rejects n) t = word_of t.0 t.1 ∷ []
words_by (empty a) b = []
words_by (each F xs) l = words_each (λ x a. words_by (F x) a) xs l
words_by (guarded F test why) a = words_by F a
words_by (F ▹ G) t = words_by F t.0 ++ words_by (G t.0) t.1
words_by (counted_from H n kind suits step F s) c = word_of kind (count H c) ∷ words_all step (λ u a. words_by (F u) a) s (items H c)
words_by (one_and_more n kind most rule F G) t =
    word_of kind (suc (length t.1)) ∷ words_by F t.0 ++ words_all {S = Unit {0}} (λ u b. u) (λ u b. words_by G b) tt t.1
words_by (via to from tf ft F) b = words_by F (from b)

-- a value that fits into a word of this kind
abbrev pub Fits : ℕ → ℕ → ℕ → Type 0
Fits n kind v = (v < 16777216) × (allowed_here n kind v ≡ true)

-- whether the value keeps to the form
unfoldable pub Fine : {A : Type 0} → Form A → A → Type 0
Fine (field n kind) v = Fits n kind v
Fine (word rejects n) t = (rejects t.0 ≡ 0) × Fits n t.0 t.1
Fine (empty a) b = a ≡ b
Fine (each F xs) l = FineEach (λ x a. Fine (F x) a) xs l
Fine (guarded F test why) a = Fine F a × (test a ≡ true)
Fine (F ▹ G) t = Fine F t.0 × Fine (G t.0) t.1
Fine (counted_from H n kind suits step F s) c = Fits n kind (count H c) × (says H (count H c) ≡ length (items H c)) × FineAll step (λ u a. Fine (F u) a) s (items H c)
Fine (one_and_more n kind most rule F G) t = Fits n kind (suc (length t.1)) × Fine F t.0 × FineAll {S = Unit {0}} (λ u b. u) (λ u b. Fine G b) tt t.1
Fine (via to from tf ft F) b = Fine F (from b)

-- reading it
unfoldable pub read_by : {A : Type 0} → Form A → ℕ → List ℕ → Read A
read_by (field n kind) at ws = read_field n kind at ws
read_by (word rejects n) at ws = read_word rejects n at ws
read_by (empty a) at ws = got a at ws
read_by (each F xs) at ws = read_each (λ x b vs. read_by (F x) b vs) xs at ws
read_by (guarded F test why) at ws = bind (read_by F at ws) (λ a at' ws'. pick (test a) (got a at' ws') (refused (why at a)))
read_by (F ▹ G) at ws = bind (read_by F at ws) (λ a at' ws'. map_read (λ b. (a, b)) (read_by (G a) at' ws'))
read_by (counted_from H n kind suits step F s) at ws =
    bind (read_field n kind at ws)
    (λ v at' ws'. map_read (whole H v) (read_all step (λ u b vs. read_by (F u) b vs) (says H v) s at' ws'))
read_by (one_and_more n kind most rule F G) at ws =
    bind (read_field n kind at ws)
    (λ v at' ws'. bind (read_by F at' ws')
    (λ a at'' ws''. map_read (λ l. (a, l)) (read_all {S = Unit {0}} (λ u b. u) (λ u b vs. read_by G b vs) (v - 1) tt at'' ws'')))
read_by (via to from tf ft F) at ws = map_read to (read_by F at ws)
