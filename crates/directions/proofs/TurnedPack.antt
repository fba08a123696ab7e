-- A pack whose trees are resolved in its words: the words before its relations, its relations, its rules and its blocks.
use Prim.Native.Nat.{ℕ, suc, ◌+◌}
use native.Mathlib.Omega.{arith}
use mathlib.Core.Path.{◌≡◌, refl, ap, sym, ◌∙◌, fun_ext}
use mathlib.Core.List.{List, [], ◌∷◌, ◌++◌, append_assoc}
use mathlib.Core.Bool.{true}
use lib.ListN.{length, length-append}
use lib.Dec.{eqb}
use borrow.Author.Tests.{eq-eqb}
use Rattle.std.proofs.lemmas.Bool.{or_right}
use Rattle.definitions.specs.Table.{word_of}
use Rattle.definitions.specs.Form.{among, words_all, FineAll, count, items, words_by, Fine}
use Rattle.definitions.specs.Records.{Relation, Rule, Pack}
use Rattle.definitions.specs.FieldRows.{to_row}
use Rattle.definitions.specs.Pack.{WellFormed, new_name, relation, relations, rule, rules, blocks, defaulted, defaulted_name, above, records, inner, layout, total, words}
use Rattle.definitions.specs.Kinds.{declared}
use Rattle.definitions.specs.Places.{relation_words, first_relation, relations_end}
use Rattle.chains.proofs.RelationForm.{relations_words, RelationsFine}
use Rattle.chains.proofs.PackParts.{parts, first_kind_lem}
use Rattle.definitions.specs.Answers.{Outcome, and_then, map_done}
use Rattle.definitions.specs.Resolving.{rule_words, resolve_rule, resolve_rules, resolve_relation, resolve_relations, first_rule}
use Rattle.directions.specs.RecordRuns.{run_words, run_by, EachKeeps, Many, RelationKeeps, with_records}

-- ---- its words

relations-words : (n : ℕ) (used : List ℕ) (rs : List Relation) → relations_words n used rs ≡ run_words (relation_words n) rs
unfolding relation new_name words_by
relations-words n used [] = refl
relations-words n used (r ∷ rs) = ap (λ (l : List ℕ). relation_words n r ++ l) (relations-words n (r.name ∷ used) rs)

rules-words : (n : ℕ) (rs : List Rule) → words_all {S = Unit {0}} (λ u a. u) (λ u a. words_by (rule n) a) tt rs ≡ run_words (rule_words n) rs
rules-words n [] = refl
rules-words n (r ∷ rs) = ap (λ (l : List ℕ). rule_words n r ++ l) (rules-words n rs)

-- those before the relations, without the total, and those after them
abbrev pub opened : Pack → List ℕ
opened p = word_of 2 p.names ∷ (words_by (defaulted p.names) p.defaulted ++ (word_of 5 (length p.relations) ∷ []))

abbrev pub rules_on : Pack → List ℕ
rules_on p = run_words (rule_words p.names) p.rules ++ words_by (blocks p.names) p.blocks

inner-words : (p : Pack) → words_by (inner p.edition) (to_row p) ≡ opened p ++ (run_words (relation_words p.names) p.relations ++ (word_of 22 (length p.rules) ∷ rules_on p))
unfolding inner records relations rules words_by count items
inner-words p =
    let n : ℕ = p.names in
    let D : List ℕ = words_by (defaulted n) p.defaulted in
    let B : List ℕ = words_by (blocks n) p.blocks in
    let five : List ℕ = word_of 5 (length p.relations) ∷ [] in
    let W : List ℕ = words_all {S = Unit {0}} (λ u a. u) (λ u a. words_by (rule n) a) tt p.rules in
    let R : List ℕ = relations_words n [] p.relations in
    ap (λ (l : List ℕ). word_of 2 n ∷ (D ++ (word_of 5 (length p.relations) ∷ (l ++ (word_of 22 (length p.rules) ∷ (W ++ B)))))) (relations-words n [] p.relations)
    ∙ ap (λ (l : List ℕ). word_of 2 n ∷ (D ++ (word_of 5 (length p.relations) ∷ (run_words (relation_words n) p.relations ++ (word_of 22 (length p.rules) ∷ (l ++ B)))))) (rules-words n p.rules)
    ∙ ap (λ (l : List ℕ). word_of 2 n ∷ l) (sym (append_assoc D five (run_words (relation_words n) p.relations ++ (word_of 22 (length p.rules) ∷ rules_on p))))

abbrev pub front : Pack → List ℕ
front p = word_of 1 (total p) ∷ opened p

pub pack-words : (p : Pack) → words p ≡ front p ++ (run_words (relation_words p.names) p.relations ++ (word_of 22 (length p.rules) ∷ rules_on p))
unfolding words layout words_by
pack-words p = rw (first_kind_lem p.edition) (ap (λ (l : List ℕ). word_of 1 (total p) ∷ l) (inner-words p))

names-many : (n low : ℕ) (ds : List ℕ) → length (words_all above (λ low v. words_by (defaulted_name n low) v) low ds) ≡ length ds
unfolding defaulted_name words_by
names-many n low [] = refl
names-many n low (d ∷ ds) = ap suc (names-many n (above low d) ds)

pub defaulted-many : (n : ℕ) (ds : List ℕ) → length (words_by (defaulted n) ds) ≡ 1 + length ds
unfolding defaulted words_by items
defaulted-many n ds = omega (arith, names-many n 0 ds)

pub front_long : (p : Pack) → length (front p) ≡ first_relation p
front_long p =
    let a = length-append (words_by (defaulted p.names) p.defaulted) (word_of 5 (length p.relations) ∷ []) in
    omega (arith, defaulted-many p.names p.defaulted)

-- up to the first rule
abbrev pub front22 : Pack → List ℕ
front22 p = front p ++ (run_words (relation_words p.names) p.relations ++ (word_of 22 (length p.rules) ∷ []))

pub pack_words_22 : (p : Pack) → words p ≡ front22 p ++ rules_on p
pack_words_22 p =
    let R : List ℕ = run_words (relation_words p.names) p.relations in
    let one : List ℕ = word_of 22 (length p.rules) ∷ [] in
    pack-words p ∙ ap (λ (l : List ℕ). front p ++ l) (sym (append_assoc R one (rules_on p))) ∙ sym (append_assoc (front p) (R ++ one) (rules_on p))

end_is : (n at : ℕ) (rs : List Relation) → relations_end n at rs ≡ at + length (run_words (relation_words n) rs)
end_is n at [] = omega arith
end_is n at (r ∷ rs) = end_is n (at + length (relation_words n r)) rs ∙ omega (arith, length-append (relation_words n r) (run_words (relation_words n) rs))

pub front22_long : (p : Pack) → length (front22 p) ≡ first_rule p
front22_long p =
    let R : List ℕ = run_words (relation_words p.names) p.relations in
    let a = length-append (front p) (R ++ (word_of 22 (length p.rules) ∷ [])) in
    let b = length-append R (word_of 22 (length p.rules) ∷ []) in
    omega (arith, front_long p, end_is p.names (first_relation p) p.relations)

-- ---- its runs

pub rules_run : (p : Pack) (at : ℕ) (l : List Rule) → resolve_rules p at l ≡ run_by (rule_words p.names) (λ at r. resolve_rule p at r) at l
unfolding resolve_rules run_by
rules_run p at [] = refl
rules_run p at (r ∷ l) =
    ap (λ (f : Rule → Outcome (List Rule)). and_then (resolve_rule p at r) f) (fun_ext (λ r'. ap (map_done (λ m. r' ∷ m)) (rules_run p (at + length (rule_words p.names r)) l)))

pub relations_run : (p : Pack) (at : ℕ) (l : List Relation) → resolve_relations p at l ≡ run_by (relation_words p.names) (λ at r. resolve_relation p at r) at l
unfolding resolve_relations run_by
relations_run p at [] = refl
relations_run p at (r ∷ l) =
    ap (λ (f : Relation → Outcome (List Relation)). and_then (resolve_relation p at r) f) (fun_ext (λ r'. ap (map_done (λ m. r' ∷ m)) (relations_run p (at + length (relation_words p.names r)) l)))

-- every rule and relation keeps to its form
all-rules : (n : ℕ) (l : List Rule) → FineAll {S = Unit {0}} (λ u a. u) (λ u a. Fine (rule n) a) tt l → EachKeeps (Fine (rule n)) l
all-rules n [] h = tt
all-rules n (r ∷ l) h = (h.0, all-rules n l h.1)

pub rules_keep : (p : Pack) → WellFormed p → Many (Fine (rule p.names)) (length p.rules) p.rules
unfolding inner records rules Fine items
rules_keep p w = record { many = refl; all = all-rules p.names p.rules w.parts.1.1.1.0.2 }

here : (v : ℕ) (us : List ℕ) → among v (v ∷ us) ≡ true
here v us = rw (eq-eqb v v refl) refl

later : (v u : ℕ) (us : List ℕ) → among v us ≡ true → among v (u ∷ us) ≡ true
later v u us e = or_right (eqb v u) _ e

keep_from : (p : Pack) (used : List ℕ) (l : List Relation) → RelationsFine p.names used l → ((r : Relation) → among r.name (declared l) ≡ true → among r.name (declared p.relations) ≡ true) → EachKeeps (RelationKeeps p) l
keep_from p used [] h k = tt
keep_from p used (r ∷ l) h k = (
  record { used = λ v. among v used; fine = h.0; known = k r (here r.name (declared l)) },
  keep_from p (r.name ∷ used) l h.1 (λ s e. k s (later s.name r.name (declared l) e)),
)

pub relations_keep : (p : Pack) → WellFormed p → Many (RelationKeeps p) (length p.relations) p.relations
relations_keep p w = record { many = refl; all = keep_from p [] p.relations (parts p w).relations-fine (λ r e. e) }

-- ---- the pack again, with as many words

module _ (p : Pack) (rels : List Relation) (rls : List Rule) (many : length rels ≡ length p.relations) (rules-many : length rls ≡ length p.rules)
    (long : length (run_words (relation_words p.names) rels) ≡ length (run_words (relation_words p.names) p.relations)) (rules-long : length (run_words (rule_words p.names) rls) ≡ length (run_words (rule_words p.names) p.rules)) where
  abbrev q : Pack
  q = with_records p rels rls

  abbrev R : List Relation → List ℕ
  R l = run_words (relation_words p.names) l

  abbrev B : List ℕ
  B = words_by (blocks p.names) p.blocks

  abbrev U : List Rule → List ℕ
  U l = run_words (rule_words p.names) l

  pub total-same : total q ≡ total p
  unfolding total
  total-same =
      let a = ap length (inner-words q) ∙ length-append (opened q) (R rels ++ (word_of 22 (length rls) ∷ rules_on q)) in
      let b = ap length (inner-words p) ∙ length-append (opened p) (R p.relations ++ (word_of 22 (length p.rules) ∷ rules_on p)) in
      let c = length-append (R rels) (word_of 22 (length rls) ∷ rules_on q) in
      let d = length-append (R p.relations) (word_of 22 (length p.rules) ∷ rules_on p) in
      let e = length-append (U rls) B in
      let f = length-append (U p.rules) B in
      let D : List ℕ = words_by (defaulted p.names) p.defaulted in
      let g = length-append D (word_of 5 (length rels) ∷ []) in
      let h = length-append D (word_of 5 (length p.relations) ∷ []) in
      omega arith

  pub again_words : words q ≡ front p ++ (R rels ++ (word_of 22 (length p.rules) ∷ (U rls ++ B)))
  again_words =
      let D : List ℕ = words_by (defaulted p.names) p.defaulted in
      let T : List ℕ = R rels ++ (word_of 22 (length rls) ∷ (U rls ++ B)) in
      pack-words q ∙ ap (λ (t : ℕ). word_of 1 t ∷ (opened q ++ T)) total-same
      ∙ ap (λ (t : ℕ). word_of 1 (total p) ∷ word_of 2 p.names ∷ ((D ++ (word_of 5 t ∷ [])) ++ T)) many
      ∙ ap (λ (t : ℕ). front p ++ (R rels ++ (word_of 22 t ∷ (U rls ++ B)))) rules-many
