-- The notes of a run of records, turned one after the other, resolve them where they stand.
use Prim.Native.Nat.{ℕ, ◌+◌, ◌≤◌}
use native.Mathlib.Omega.{arith}
use mathlib.Core.Path.{◌≡◌, refl, ap, sym, ◌∙◌}
use mathlib.Core.List.{List, [], ◌∷◌, ◌++◌, append_assoc}
use lib.ListN.{length, length-append}
use Rattle.definitions.specs.Answers.{Outcome, done, refused, and_then, map_done}
use Rattle.directions.specs.RecordRuns.{run_words, run_by, EachKeeps}
use Rattle.turning.specs.Notes.{Note, notes_run}
use Rattle.turning.specs.Turns.{KnownTables, Work, turn_notes}
use Rattle.turning.proofs.FlatLaws.{turn-append}

-- what comes of notes: these words where the record's were, as many results as before, and what is kept of the work; or the refusal
pub record Ran (P : Work → Type 0) (before words after : List ℕ) (size many : ℕ) (o : Outcome Work) : Type 0 where
  pub state : Work
  pub is : o ≡ done state
  pub stands : state.words ≡ before ++ (words ++ after)
  pub long : length words ≡ size
  pub same : length state.results ≡ many
  pub keeps : P state

abbrev pub RanBy : {A : Type 0} → (Work → Type 0) → (A → List ℕ) → List ℕ → List ℕ → ℕ → ℕ → Outcome A → Outcome Work → Type 0
RanBy P W before after size many (done a) o = Ran P before (W a) after size many o
RanBy P W before after size many (refused r) o = o ≡ refused r

module _ (K : KnownTables) (ws : List ℕ) (P : Work → Type 0) (low : ℕ) where
  -- a record's notes turned, from any number above the lowest
  abbrev pub FlatAt : {A : Type 0} → (A → List ℕ) → (ℕ → ℕ → A → List Note) → (ℕ → A → Outcome A) → A → Type 0
  FlatAt W N resolve a =
      (front back before after : List ℕ) (i at : ℕ) (s : Work) → ws ≡ front ++ (W a ++ back) → length front ≡ at → length before ≡ at → s.words ≡ before ++ (W a ++ after) → low ≤ i → i + length (N i at a) ≤ length s.results → P s
      → RanBy P W before after (length (W a)) (length s.results) (resolve at a) (turn_notes K ws i (N i at a) s)

  module _ {A : Type 0} (W : A → List ℕ) (N : ℕ → ℕ → A → List Note) (resolve : ℕ → A → Outcome A) where
    abbrev Runs : List A → Type 0
    Runs l = FlatAt (run_words W) (notes_run W N) (run_by W resolve) l

    module _ (a : A) (l : List A) (rest : Runs l) (front back before after : List ℕ) (i at : ℕ) (s : Work) (source : ws ≡ front ++ (run_words W (a ∷ l) ++ back)) (ahead : length front ≡ at) (here : length before ≡ at) (lowest : low ≤ i)
        (room : i + length (notes_run W N i at (a ∷ l)) ≤ length s.results) where
      abbrev mine : List Note
      mine = N i at a

      abbrev theirs : List Note
      theirs = notes_run W N (i + length mine) (at + length (W a)) l

      pub apiece : ws ≡ front ++ (W a ++ (run_words W l ++ back))
      apiece = source ∙ ap (λ (x : List ℕ). front ++ x) (append_assoc (W a) (run_words W l) back)

      pub both_rooms : i + length mine + length theirs ≤ length s.results
      unfolding notes_run
      both_rooms = let r = room in omega (arith, length-append mine theirs)

      joined : (b : A) (m : Outcome (List A)) (o : Outcome Work) → length (W b) ≡ length (W a) → RanBy P (run_words W) (before ++ W b) after (length (run_words W l)) (length s.results) m o
          → RanBy P (run_words W) before after (length (run_words W (a ∷ l))) (length s.results) (map_done (λ x. b ∷ x) m) o
      joined b (refused r) o e h = h
      joined b (done m) o e h =
          record {
            state = h.state;
            is = h.is;
            stands = h.stands ∙ append_assoc before (W b) (run_words W m ++ after) ∙ ap (λ (x : List ℕ). before ++ x) (sym (append_assoc (W b) (run_words W m) after));
            long = length-append (W b) (run_words W m) ∙ (let x = h.long in omega (arith, length-append (W a) (run_words W l)));
            same = h.same;
            keeps = h.keeps;
          }

      by_first : (b : Outcome A) (o : Outcome Work) → RanBy P W before (run_words W l ++ after) (length (W a)) (length s.results) b o
          → RanBy P (run_words W) before after (length (run_words W (a ∷ l))) (length s.results) (and_then b (λ b'. map_done (λ x. b' ∷ x) (run_by W resolve (at + length (W a)) l))) (and_then o (turn_notes K ws (i + length mine) theirs))
      by_first (refused r) o h = rw h refl
      by_first (done b) o h =
          let place : length (before ++ W b) ≡ at + length (W a) = length-append before (W b) ∙ (let x = h.long in omega arith) in
          let start : length (front ++ W a) ≡ at + length (W a) = length-append front (W a) ∙ omega arith in
          let q = rest (front ++ W a) back (before ++ W b) after (i + length mine) (at + length (W a)) h.state (apiece ∙ sym (append_assoc front (W a) (run_words W l ++ back))) start place
          (h.stands ∙ sym (append_assoc before (W b) (run_words W l ++ after))) (omega arith) (let x = both_rooms in let y = h.same in omega arith) h.keeps in
          rw h.is
          (joined b (run_by W resolve (at + length (W a)) l) (turn_notes K ws (i + length mine) theirs h.state) h.long
          (rw h.same at q))

    pub run_flat : (Keeps : A → Type 0) → ((a : A) → Keeps a → FlatAt W N resolve a) → (l : List A) → EachKeeps Keeps l → Runs l
    unfolding run_by notes_run turn_notes
    run_flat Keeps each [] h front back before after i at s source ahead here stands lowest room keeps = record { state = s; is = refl; stands = stands; long = refl; same = refl; keeps = keeps }
    run_flat Keeps each (a ∷ l) h front back before after i at s source ahead here stands lowest room keeps =
        let rest : Runs l = run_flat Keeps each l h.1 in
        rw (turn-append K ws i (i + length (N i at a)) (N i at a) (notes_run W N (i + length (N i at a)) (at + length (W a)) l) s refl)
        (by_first a l rest front back before after i at s source ahead here lowest room (resolve at a) (turn_notes K ws i (N i at a) s)
        (each a h.0 front (run_words W l ++ back) before (run_words W l ++ after) i at s (apiece a l rest front back before after i at s source ahead here lowest room) ahead here
        (stands ∙ ap (λ (x : List ℕ). before ++ x) (append_assoc (W a) (run_words W l) after)) lowest (let x = both_rooms a l rest front back before after i at s source ahead here lowest room in omega arith) keeps))
