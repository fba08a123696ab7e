-- All notes of a pack, in its rules and then in its relations: its trees resolved.
use Prim.Native.Nat.{ℕ, suc, ◌+◌, ◌<◌, ◌≤◌}
use native.Mathlib.Omega.{arith}
use mathlib.Core.Path.{◌≡◌, refl, ap, sym, ◌∙◌, subst}
use mathlib.Core.List.{List, [], ◌∷◌, ◌++◌}
use mathlib.Core.Bool.{false}
use mathlib.Core.Option.{Option, none, some}
use lib.ListN.{length, get_or, length-append}
use Rattle.definitions.specs.declared.answer.Refusal.{Refusal}
use Rattle.definitions.specs.Table.{word_of, judgment}
use Rattle.definitions.specs.Form.{words_by, Fine}
use Rattle.definitions.specs.Tree.{tree, tree_words}
use Rattle.definitions.specs.Records.{Derivation, Relation, Pack}
use Rattle.definitions.specs.Pack.{WellFormed, words, blocks, total}
use Rattle.definitions.specs.Records as records
use Rattle.definitions.specs.Pack as pack
use Rattle.pack.proofs.PackLaws.{words-read, words-length}
use Rattle.reading.proofs.NotesLaws.{few-tree}
use Rattle.definitions.specs.Places.{relation_words, first_relation}
use Rattle.chains.proofs.CheckedLaws.{same-pack}
use Rattle.definitions.specs.Answers.{Outcome, done, refused, and_then}
use Rattle.definitions.specs.Resolving.{rule_words, predicate_place, first_rule}
use Rattle.directions.proofs.TreeWords.{size_is}
use Rattle.directions.specs.RecordRuns.{run_words, EachKeeps, body_words, RelationKeeps, trees_resolved}
use Rattle.directions.proofs.RuleLaws.{bodies_of, head, rule-parts}
use Rattle.directions.proofs.RelationLaws.{lead, lead_words, lead_long, predicate_kept}
use Rattle.directions.proofs.TurnedPack.{front, pack-words, rules_keep, relations_keep}
use Rattle.turning.specs.declared.known.Known.{Known}
use Rattle.std.specs.Prelude.{Result, Ok, Err}
use Rattle.turning.specs.Notes.{Note, notes_run, body_notes, rule_notes, derived_notes, relation_notes, relations_noted, rules_noted, notes_of_pack, Held}
use Rattle.turning.specs.Turns.{KnownTables, known_of, Work, work, nowhere, afresh, turn_notes, turn_pack, TurnedInto}
use Rattle.turning.specs.TurnPromises.{known_by, Placed, EndedBy, TurnsAsked, NotesTurned, PackAsked, TurnedAs, PackTurned}
use Rattle.turning.proofs.RecordFlat.{its-derivation}
use Rattle.turning.proofs.PackFlat.{flattening}
use Rattle.turning.proofs.PlacedLaws.{both_placed}

abbrev Ended : Type 0
Ended = Result (Unit {0}) Refusal

-- ---- there are no more notes than words

run_few : {A : Type 0} (W : A → List ℕ) (N : ℕ → ℕ → A → List Note) (Keeps : A → Type 0) → ((a : A) → Keeps a → (i at : ℕ) → length (N i at a) ≤ length (W a)) → (l : List A) → EachKeeps Keeps l → (i at : ℕ) → length (notes_run W N i at l) ≤ length (run_words W l)
unfolding notes_run
run_few W N Keeps each [] h i at = omega arith
run_few W N Keeps each (a ∷ l) h i at =
    let theirs : List Note = notes_run W N (i + length (N i at a)) (at + length (W a)) l in
    omega (arith, length-append (N i at a) theirs, length-append (W a) (run_words W l), each a h.0 i at, run_few W N Keeps each l h.1 (i + length (N i at a)) (at + length (W a)))

rule-few : (n : ℕ) (r : records.Rule) → Fine (pack.rule n) r → (i at : ℕ) → length (rule_notes i at r) ≤ length (rule_words n r)
unfolding rule_notes
rule-few n r fine i at =
    let its = rule-parts n r fine in
    let b = run_few body_words (body_notes i) (λ b. Fine (pack.body n) b) (λ b f j x. let t = few-tree b.tree j i false (x + 1) in omega (arith, size_is b.tree)) (bodies_of r) its.bodies (suc i) (at + 4) in
    omega (arith, ap length its.words, length-append (head r) (run_words body_words (bodies_of r)))

derived-few : (p : Pack) → WellFormed p → (r : Relation) → RelationKeeps p r → (o : Option Derivation) → r.derivation ≡ o → (i at : ℕ) → length (derived_notes i at r o) ≤ length (relation_words p.names r)
derived-few p w r k none e i at = omega arith
derived-few p w r k (some d) e i at =
    let n : ℕ = p.names in
    let fine : Fine (tree n 32 judgment) d.predicate = predicate_kept n r.derivation d e (its-derivation p w [] r k) in
    let t = few-tree d.predicate (suc i) i false (at + predicate_place r d) in
    omega (arith, ap length (lead_words n r d e fine), length-append (lead n r d) (tree_words d.predicate), size_is d.predicate, lead_long n r d)

relation-few : (p : Pack) → WellFormed p → (r : Relation) → RelationKeeps p r → (i at : ℕ) → length (relation_notes i at r) ≤ length (relation_words p.names r)
unfolding relation_notes
relation-few p w r k i at = derived-few p w r k r.derivation refl i at

pub notes-short : (p : Pack) → WellFormed p → length (notes_of_pack p) ≤ total p
unfolding relations_noted rules_noted
notes-short p w =
    let R : List ℕ = run_words (relation_words p.names) p.relations in
    let U : List ℕ = run_words (rule_words p.names) p.rules in
    let B : List ℕ = words_by (blocks p.names) p.blocks in
    let a = run_few (relation_words p.names) relation_notes (RelationKeeps p) (λ r k. relation-few p w r k) p.relations (relations_keep p w).all 1 (first_relation p) in
    let b = run_few (rule_words p.names) rule_notes (Fine (pack.rule p.names)) (λ r f. rule-few p.names r f) p.rules (rules_keep p w).all (1 + length (relations_noted p)) (first_rule p) in
    let c = ap length (pack-words p) ∙ length-append (front p) (R ++ (word_of 22 (length p.rules) ∷ (U ++ B))) in
    let d = length-append R (word_of 22 (length p.rules) ∷ (U ++ B)) in
    let e = length-append U B in
    omega (arith, words-length p, length-append (relations_noted p) (rules_noted p))

pub notes-few : (p : Pack) → WellFormed p → length (notes_of_pack p) ≤ 8192
notes-few p w = omega (arith, notes-short p w, w.most)

-- ---- parts of the notes

pub held-parts : (notes : List ℕ) (i j : ℕ) (ns ms : List Note) → j ≡ i + length ns → Held notes i (ns ++ ms) → Held notes i ns × Held notes j ms
held-parts notes i j [] ms e h = let q : i ≡ j = omega arith in (tt, subst (λ (x : ℕ). Held notes x ms) q h)
held-parts notes i j (n ∷ ns) ms e h = let q = held-parts notes (suc i) j ns ms (omega arith) h.1 in ((h.0, q.0), q.1)

-- numbers below a bound that are as they were
held_below : (notes left : List ℕ) (top : ℕ) → ((j : ℕ) → j < top → get_or left j 0 ≡ get_or notes j 0) → (i : ℕ) (ns : List Note) → i + length ns ≤ top → Held notes i ns → Held left i ns
held_below notes left top same i [] h g = tt
held_below notes left top same i (n ∷ ns) h g = (same i (omega arith) ∙ g.0, held_below notes left top same (suc i) ns (omega arith) g.1)

module _ (k : Known) (words₀ notes₀ : List ℕ) (relations all : ℕ) (a : PackAsked k.tables.pack.now k.tables.acts.now k.tables.taken.now words₀ notes₀ k.blocks.at k.blocks.count relations all) where
  abbrev ws : List ℕ
  ws = k.tables.pack.now

  abbrev p : Pack
  p = a.pack

  w : WellFormed p
  w = (words-read ws p a.checked).fine

  same-words : ws ≡ words p
  same-words = sym (words-read ws p a.checked).same

  abbrev whole : List ℕ
  whole = words p

  abbrev rels : List Note
  rels = relations_noted p

  abbrev rls : List Note
  rls = rules_noted p

  halves : Held notes₀ 1 rels × Held notes₀ (1 + length rels) rls
  halves = held-parts notes₀ 1 (1 + length rels) rels rls refl a.noted.held

  placed : Placed ws 1 rels × Placed ws (1 + length rels) rls
  placed = subst (λ (l : List ℕ). Placed l 1 rels × Placed l (1 + length rels) rls) (sym same-words) (both_placed p w)

  all-is : all ≡ length rels + length rls
  all-is = a.noted.many ∙ length-append rels rls

  pub few-relations : relations + 1 ≤ length notes₀
  few-relations = let r = a.noted.room in omega (arith, a.noted.first, all-is)

  pub few-notes : all + 1 ≤ length notes₀
  few-notes = let r = a.noted.room in omega arith

  first-is : relations + 1 ≡ 1 + length rels
  first-is = omega (arith, a.noted.first)

  last-is : all + 1 ≡ relations + 1 + length rls
  last-is = omega (arith, a.noted.first, all-is)

  rules-held : Held notes₀ (relations + 1) rls
  rules-held = rw first-is halves.1

  rules_stand : Placed ws (relations + 1) rls
  rules_stand = rw first-is placed.1

  pub rules-asked : TurnsAsked ws words₀ notes₀ (relations + 1) (all + 1)
  rules-asked = record { same = ap length a.copied; inside = few-notes; ns = rls; are = rules-held; many = last-is; placed = rules_stand }

  abbrev K : KnownTables
  K = known_of p

  -- the whole, by the law
  law : TurnedInto (trees_resolved p) (turn_pack K (words p) rels rls (work words₀ notes₀ nowhere))
  law = flattening p w (work words₀ notes₀ nowhere) (a.copied ∙ same-words) (let r = a.noted.room in omega (arith, a.noted.many))

  abbrev rules_outcome : Outcome Work
  rules_outcome = turn_notes K (words p) (1 + length rels) rls (work words₀ notes₀ nowhere)

  -- the code's run of notes is the definition's
  as_known : (from : ℕ) (ns : List Note) (s : Work) → turn_notes (known_by k) ws from ns s ≡ turn_notes K (words p) from ns s
  as_known from ns s = λ j. turn_notes (a.knows j) (same-words j) from ns s

  module _ {o : Ended} {words notes : List ℕ} (t : NotesTurned k (relations + 1) (all + 1) words₀ notes₀ o words notes) where
    rules-ended : EndedBy rules_outcome o words notes
    rules-ended =
        subst (λ (x : Outcome Work). EndedBy x o words notes) (as_known (relations + 1) rls (work words₀ notes₀ nowhere) ∙ ap (λ (x : ℕ). turn_notes K whole x rls (work words₀ notes₀ nowhere)) first-is)
        (t.each rls rules-held last-is rules_stand)

    all_not : {x : Refusal} → ◌≡◌ {A = Ended} (Ok tt) (Err x) → ⊥
    all_not e = let z : ◌≡◌ {A = ℕ} 0 1 = cc in omega arith

    of_pack : (left : List ℕ) (r : Ended) → TurnedAs (trees_resolved p) r left → PackTurned ws r left
    of_pack left r h = λ q e. subst (λ (x : Pack). TurnedAs (trees_resolved x) r left) (same-pack ws a.checked e) h

    -- a rule is refused
    module _ {x : Refusal} (stops : o ≡ Err x) where
      no : o ≡ Ok tt → ⊥
      no e = all_not (sym e ∙ stops)

      refused-by : (y : Outcome Work) → rules_outcome ≡ y → EndedBy y o words notes → (z : Outcome Pack) → TurnedInto z (turn_pack K whole rels rls (work words₀ notes₀ nowhere)) → TurnedAs z o words
      unfolding turn_pack
      refused-by (done s) e h z l = absurd (no h.0)
      refused-by (refused y) e h (refused z) l = h ∙ ap Err (let q : refused y ≡ refused z = sym (ap (λ (v : Outcome Work). and_then v (λ u. turn_notes K whole 1 rels (afresh u))) e) ∙ l in let same : y ≡ z = cc in same)
      refused-by (refused y) e h (done q) l = let u = sym (ap (λ (v : Outcome Work). and_then v (λ u. turn_notes K whole 1 rels (afresh u))) e) ∙ l.1 in let z : ◌≡◌ {A = ℕ} 0 1 = cc in absurd (omega arith)

      pub pack_stopped : PackTurned ws (Err x) words
      pack_stopped = subst (λ (y : Ended). PackTurned ws y words) stops (of_pack words o (refused-by rules_outcome refl rules-ended (trees_resolved p) law))

    -- all are turned: then relations
    module _ (yes-all : o ≡ Ok tt) where
      relations-held : Held notes 1 rels
      relations-held = held_below notes₀ notes (relations + 1) t.earlier 1 rels (omega (arith, first-is)) halves.0

      pub relations-asked : TurnsAsked ws words notes 1 (relations + 1)
      relations-asked =
          record {
            same = t.long ∙ ap length a.copied;
            inside = let h = t.wide in omega (arith, few-relations);
            ns = rels;
            are = relations-held;
            many = first-is;
            placed = placed.0;
          }

      module _ {r : Ended} {left kinds : List ℕ} (u : NotesTurned k 1 (relations + 1) words notes r left kinds) where
        relations-ended : EndedBy (turn_notes K whole 1 rels (work words notes nowhere)) r left kinds
        relations-ended =
            subst (λ (x : Outcome Work). EndedBy x r left kinds) (as_known 1 rels (work words notes nowhere))
            (u.each rels relations-held first-is placed.0)

        ends_with : (y : Outcome Work) → EndedBy y r left kinds → (z : Outcome Pack) → TurnedInto z y → TurnedAs z r left
        ends_with (done s) h (done q) l = let same : s ≡ l.0 = (let v = l.1 in cc) in (h.0, h.1 ∙ ap (λ (x : Work). x.words) same ∙ l.2)
        ends_with (done s) h (refused z) l = let y : ◌≡◌ {A = ℕ} 0 1 = cc in absurd (omega arith)
        ends_with (refused x) h (done q) l = let v = l.1 in let y : ◌≡◌ {A = ℕ} 0 1 = cc in absurd (omega arith)
        ends_with (refused x) h (refused z) l = h ∙ ap Err (let same : x ≡ z = cc in same)

        then_relations : (y : Outcome Work) → rules_outcome ≡ y → EndedBy y o words notes → turn_pack K whole rels rls (work words₀ notes₀ nowhere) ≡ turn_notes K whole 1 rels (work words notes nowhere)
        unfolding turn_pack
        then_relations (refused x) e h = absurd (all_not (sym yes-all ∙ h))
        then_relations (done s) e h =
            ap (λ (v : Outcome Work). and_then v (λ x. turn_notes K whole 1 rels (afresh x))) e ∙ λ j. turn_notes K whole 1 rels (work (sym h.1 j) (sym h.2 j) nowhere)

        pub pack-ended : PackTurned ws r left
        pack-ended =
            of_pack left r (ends_with (turn_notes K whole 1 rels (work words notes nowhere)) relations-ended (trees_resolved p)
            (subst (TurnedInto (trees_resolved p)) (then_relations rules_outcome refl rules-ended) law))
