-- The flattening law: the notes of a pack, those of its rules and then those of its relations, turned one after the other, are its
-- trees resolved.
use Prim.Native.Nat.{ℕ, ◌+◌, ◌≤◌}
use native.Mathlib.Omega.{arith}
use mathlib.Core.Path.{◌≡◌, refl, ap, sym, ◌∙◌}
use mathlib.Core.List.{List, [], ◌∷◌, ◌++◌, append_assoc}
use lib.ListN.{length, length-append}
use Rattle.definitions.specs.Table.{word_of}
use Rattle.definitions.specs.Form.{words_by, Fine}
use Rattle.definitions.specs.Records.{Relation, Rule, Pack}
use Rattle.definitions.specs.Pack.{WellFormed, words, rule, blocks}
use Rattle.definitions.specs.Places.{relation_words, first_relation}
use Rattle.chains.proofs.PackParts.{EachFound, all_found}
use Rattle.definitions.specs.Answers.{Outcome, done, refused, and_then, map_done}
use Rattle.definitions.specs.Resolving.{rule_words, resolve_rule, resolve_relation, first_rule}
use Rattle.directions.specs.RecordRuns.{run_words, run_by, EachKeeps, RelationKeeps, with_records, trees_resolved}
use Rattle.directions.proofs.RunLaws.{run_length}
use Rattle.directions.proofs.TurnedPack.{front, pack-words, front_long, front22, pack_words_22, front22_long, rules_run, relations_run, rules_keep, relations_keep, again_words}
use Rattle.turning.specs.Notes.{rule_notes, relation_notes, relations_noted, rules_noted, notes_of_pack}
use Rattle.turning.specs.Turns.{KnownTables, known_of, Work, afresh, turn_notes, turn_pack, TurnedInto}
use Rattle.turning.proofs.RunFlat.{Ran, RanBy, run_flat}
use Rattle.turning.proofs.RecordFlat.{Free, rule_flat, RelationFine, relation_flat}

all-relations : (p : Pack) (w : WellFormed p) (ws : List ℕ) (l : List Relation) → EachKeeps (RelationKeeps p) l → EachFound p.relations l → EachKeeps (RelationFine p w ws) l
all-relations p w ws [] h f = tt
all-relations p w ws (r ∷ l) h f = ((h.0, f.0), all-relations p w ws l h.1 f.1)

module _ (p : Pack) (w : WellFormed p) (s : Work) (copied : s.words ≡ words p) (room : 1 + length (notes_of_pack p) ≤ length s.results) where
  abbrev n : ℕ
  n = p.names

  abbrev K : KnownTables
  K = known_of p

  abbrev R : List Relation → List ℕ
  R l = run_words (relation_words n) l

  abbrev U : List Rule → List ℕ
  U l = run_words (rule_words n) l

  abbrev B : List ℕ
  B = words_by (blocks n) p.blocks

  abbrev by-rule : ℕ → Rule → Outcome Rule
  by-rule at r = resolve_rule p at r

  abbrev by-relation : ℕ → Relation → Outcome Relation
  by-relation at r = resolve_relation p at r

  rooms : 1 + length (relations_noted p) + length (rules_noted p) ≤ length s.results
  rooms = omega (arith, length-append (relations_noted p) (rules_noted p))

  -- rules
  abbrev rules_turned : Outcome Work
  rules_turned = turn_notes K (words p) (1 + length (relations_noted p)) (rules_noted p) (afresh s)

  rules_ran : RanBy Free U (front22 p) B (length (U p.rules)) (length s.results) (run_by (rule_words n) by-rule (first_rule p) p.rules) rules_turned
  unfolding rules_noted
  rules_ran =
      run_flat K (words p) Free 1 (rule_words n) rule_notes by-rule (Fine (rule n)) (λ r f. rule_flat p w (words p) r f) p.rules (rules_keep p w).all (front22 p) B (front22 p) B (1 + length (relations_noted p)) (first_rule p) (afresh s)
      (pack_words_22 p) (front22_long p) (front22_long p) (copied ∙ pack_words_22 p) (omega arith) rooms tt

  -- then relations, whose words stand as they were
  module _ (rls : List Rule) (resolves : run_by (rule_words n) by-rule (first_rule p) p.rules ≡ done rls) (h : Ran Free (front22 p) (U rls) B (length (U p.rules)) (length s.results) rules_turned) where
    abbrev after : List ℕ
    after = word_of 22 (length p.rules) ∷ (U rls ++ B)

    relations_stand : h.state.words ≡ front p ++ (R p.relations ++ after)
    relations_stand =
        let one : List ℕ = word_of 22 (length p.rules) ∷ [] in
        h.stands ∙ append_assoc (front p) (R p.relations ++ one) (U rls ++ B) ∙ ap (λ (l : List ℕ). front p ++ l) (append_assoc (R p.relations) one (U rls ++ B))

    abbrev relations_turned : Outcome Work
    relations_turned = turn_notes K (words p) 1 (relations_noted p) (afresh h.state)

    relations_ran : RanBy Free R (front p) after (length (R p.relations)) (length h.state.results) (run_by (relation_words n) by-relation (first_relation p) p.relations) relations_turned
    unfolding relations_noted
    relations_ran =
        run_flat K (words p) Free 1 (relation_words n) relation_notes by-relation (RelationFine p w (words p)) (λ r f. relation_flat p w (words p) r f) p.relations (all-relations p w (words p) p.relations (relations_keep p w).all (all_found p w))
        (front p) (word_of 22 (length p.rules) ∷ (U p.rules ++ B)) (front p) after 1 (first_relation p) (afresh h.state) (pack-words p) (front_long p) (front_long p) relations_stand (omega arith) (let q = rooms in let y = h.same in omega arith) tt

    whole : (o : Outcome (List Relation)) → run_by (relation_words n) by-relation (first_relation p) p.relations ≡ o → RanBy Free R (front p) after (length (R p.relations)) (length h.state.results) o relations_turned
        → TurnedInto (map_done (λ rels. with_records p rels rls) o) relations_turned
    whole (refused r) e q = q
    whole (done rels) e q = (
      q.state,
      q.is,
      q.stands
          ∙ sym (again_words p rels rls (run_length (relation_words n) by-relation (first_relation p) p.relations rels e) (run_length (rule_words n) by-rule (first_rule p) p.rules rls resolves) q.long h.long),
    )

  by-rules : (o : Outcome (List Rule)) → run_by (rule_words n) by-rule (first_rule p) p.rules ≡ o → RanBy Free U (front22 p) B (length (U p.rules)) (length s.results) o rules_turned
      → TurnedInto (and_then o (λ rls. map_done (λ rels. with_records p rels rls) (run_by (relation_words n) by-relation (first_relation p) p.relations))) (and_then rules_turned (λ t. turn_notes K (words p) 1 (relations_noted p) (afresh t)))
  by-rules (refused r) e h = rw h refl
  by-rules (done rls) e h = rw h.is (whole rls e h (run_by (relation_words n) by-relation (first_relation p) p.relations) refl (relations_ran rls e h))

  -- THE LAW
  pub flattening : TurnedInto (trees_resolved p) (turn_pack K (words p) (relations_noted p) (rules_noted p) s)
  unfolding trees_resolved turn_pack
  flattening =
      rw (rules_run p (first_rule p) p.rules, relations_run p (first_relation p) p.relations)
      (by-rules (run_by (rule_words n) by-rule (first_rule p) p.rules) refl rules_ran)
