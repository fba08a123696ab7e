-- A refusal of a checked pack bears names of the pack alone, and the place of one of its words.
use Prim.Native.Nat.{ℕ, ◌+◌, ◌<◌, ◌≤◌}
use native.Mathlib.Omega.{arith}
use mathlib.Core.Path.{◌≡◌, refl, ap, sym, ◌∙◌, subst}
use mathlib.Core.List.{List, [], ◌∷◌, ◌++◌}
use mathlib.Core.Option.{Option, none, some}
use lib.ListN.{length, length-append}
use Rattle.pack.proofs.StepLaws.{name_below}
use Rattle.definitions.specs.Table.{table, entry_of, judgment, word_of}
use Rattle.definitions.specs.Form.{words_by, Fine}
use Rattle.definitions.specs.Tree.{Tree, root, tree, tree_words, size}
use Rattle.definitions.specs.Records.{Derivation, Relation, Body, Rule, Pack}
use Rattle.definitions.specs.Pack.{WellFormed, total, relation_tail, body, rule, blocks}
use Rattle.pack.proofs.PackLaws.{words-length}
use Rattle.definitions.specs.Kinds.{list9, find, kinds_of}
use Rattle.definitions.specs.Filtered.{kind_at}
use Rattle.definitions.specs.Places.{relation_words, start_of, first_relation}
use Rattle.filtered.proofs.KindBounds.{Below, BelowAll, tail_below, kinds-below}
use Rattle.chains.proofs.RelationForm.{kept}
use Rattle.chains.proofs.PackParts.{parts, find-name, find_kept, start_within, opening, relations_part, split, opening_length}
use Rattle.definitions.specs.Direction.{Membership, kind_or_zero, membership}
use Rattle.definitions.specs.Tables.{Derived, derived_by, derived_at, pair, typed_by, typed_at, tables}
use Rattle.definitions.specs.Answers.{Outcome, done, refused, and_then, map_done}
use Rattle.definitions.specs.ResolvingTrees.{Citing, resolve_tree}
use Rattle.definitions.specs.Inputs.{input}
use Rattle.definitions.specs.Resolving.{cites, defaulted_equal, equal_refusal, resolve_body, resolve_rule, rule_words, resolve_rules, predicate_place, predicate_by, resolve_predicate, resolve_derivation, resolve_relation, resolve_relations, first_rule, resolve_records, resolved}
use Rattle.directions.specs.RecordRuns.{run_words, run_by, EachKeeps, body_words, RelationKeeps, NamedBy}
use Rattle.directions.proofs.Numbers.{OfInput, input_numbered}
use Rattle.directions.proofs.TreeWords.{size_is}
use Rattle.directions.proofs.CitingNames.{tree-named}
use Rattle.directions.proofs.SmallKinds.{Small, below-small, KindsBelow, turn_below}
use Rattle.directions.proofs.RefusalBounds.{Fits, Refuses, CitingFits, MemberSmall, tree_refuses}
use Rattle.directions.proofs.RuleLaws.{bodies_of, head, rule-parts, again, rule_run}
use Rattle.directions.proofs.RelationLaws.{lead, lead_words, lead_long, predicate_kept, both_small}
use Rattle.directions.proofs.TurnedPack.{front, front_long, pack-words, front22, front22_long, pack_words_22, rules_run, relations_run, rules_keep, relations_keep}
use Rattle.resolve.proofs.ResolveLaws.{equal_named, declared_of}

-- a refusal with a place below a limit, whose name and other are below another
abbrev pub Told : {A : Type 0} → ℕ → ℕ → Outcome A → Type 0
Told most top (done a) = Unit {0}
Told most top (refused r) = Fits most top r × (r.name < most)

module _ (most : ℕ) where
  told_below : {A : Type 0} (low top : ℕ) → low ≤ top → (o : Outcome A) → Told most low o → Told most top o
  told_below low top h (done a) q = tt
  told_below low top h (refused r) q = (record { number = q.0.number; place = let p = q.0.place in omega arith; other = q.0.other }, q.1)

  map_told : {A B : Type 0} (top : ℕ) (f : A → B) (o : Outcome A) → Told most top o → Told most top (map_done f o)
  map_told top f (done a) h = tt
  map_told top f (refused r) h = h

  then_told : {A B : Type 0} (top : ℕ) (o : Outcome A) (f : A → Outcome B) → Told most top o → ((a : A) → Told most top (f a)) → Told most top (and_then o f)
  then_told top (done a) f h k = k a
  then_told top (refused r) f h k = h

  -- a run of records
  module _ {A : Type 0} (W : A → List ℕ) (by : ℕ → A → Outcome A) (Keeps : A → Type 0) (each : (at : ℕ) (a : A) → Keeps a → Told most (at + length (W a)) (by at a)) where
    run_told : (at : ℕ) (l : List A) → EachKeeps Keeps l → Told most (at + length (run_words W l)) (run_by W by at l)
    unfolding run_by
    run_told at [] h = tt
    run_told at (a ∷ l) h =
        let q = length-append (W a) (run_words W l) in
        then_told (at + length (run_words W (a ∷ l))) (by at a) _ (told_below (at + length (W a)) (at + length (run_words W (a ∷ l))) (omega arith) (by at a) (each at a h.0))
        (λ b. map_told (at + length (run_words W (a ∷ l))) (λ m. b ∷ m) (run_by W by (at + length (W a)) l)
        (told_below (at + length (W a) + length (run_words W l)) (at + length (run_words W (a ∷ l))) (omega arith) (run_by W by (at + length (W a)) l) (run_told (at + length (W a)) l h.1)))

-- ---- a tree

module _ (n : ℕ) (C : Citing) (named : C.name < n) (fit : CitingFits n C) where
  tree_told : (t : Tree) (levels sort : ℕ) → Fine (tree n levels sort) t → (entity : ℕ) → entity < n → (m : Membership) → MemberSmall n m → (at : ℕ) → Told n (at + size t) (resolve_tree C entity m at t)
  tree_told t levels sort f entity h m k at = go (resolve_tree C entity m at t) (tree_refuses n C fit t n levels sort (omega arith) f entity h m k at) (tree-named C t entity m at)
    where
      go : (o : Outcome Tree) → Refuses n (at + size t) o → NamedBy C.name o → Told n (at + size t) o
      go (done x) q e = tt
      go (refused r) q e = (q, omega (arith, e))

  body_told : (entity : ℕ) → entity < n → (at : ℕ) (b : Body) → Fine (body n) b → Told n (at + length (body_words b)) (resolve_body C entity at b)
  unfolding body root Fine
  body_told entity h at b f =
      map_told n (at + length (body_words b)) _ (resolve_tree C entity none (at + 1) b.tree)
      (told_below n (at + 1 + size b.tree) (at + length (body_words b)) (omega (arith, size_is b.tree)) (resolve_tree C entity none (at + 1) b.tree) (tree_told b.tree 32 b.sort f.1 entity h none tt (at + 1)))

-- ---- the names of rules

rule-names : (n : ℕ) (r : Rule) → Fine (rule n) r → (r.citing < n) × (r.entity < n)
unfolding rule Fine entry_of table
rule-names n r f = (name_below n 23 refl r.citing f.0.1, name_below n 25 refl r.entity f.1.1.0.1)

-- ---- a checked pack

small_number : (o : Option ℕ) → OfInput o → (number : ℕ) → o ≡ some number → number < 16
small_number none h number e = let z : ◌≡◌ {A = ℕ} 0 1 = cc in absurd (omega arith)
small_number (some k) h number e = let q : k ≡ number = cc in let t = h.1 in omega arith

module _ (p : Pack) (w : WellFormed p) where
  abbrev n : ℕ
  n = p.names

  some_name : 0 < p.names
  some_name = (parts p w).least

  -- the kinds in its tables are names
  all_small : (o : Option (List ℕ)) → BelowAll p.names o → Small n o
  all_small none h slot = some_name
  all_small (some ks) h slot = below-small p.names p.names (omega arith) some_name ks h slot

  kinds-small : (m : ℕ) → Small n (kinds_of p.relations m)
  kinds-small m = all_small (kinds_of p.relations m) (kinds-below p w m)

  pair-below : (ks : List ℕ) → Below p.names ks → BelowAll p.names (pair ks)
  pair-below [] h = tt
  pair-below (a ∷ []) h = tt
  pair-below (a ∷ b ∷ []) h = h
  pair-below (a ∷ b ∷ c ∷ ks) h = tt

  typed-below : (m : ℕ) (o : Option Relation) → find m p.relations ≡ o → BelowAll p.names (typed_at o)
  typed-below m none e = tt
  typed-below m (some r) e = go r.derivation
    where
      go : (o : Option Derivation) → BelowAll p.names (typed_by r.slot_kinds o)
      go none = pair-below r.slot_kinds (tail_below p.names r (find_kept p.names m [] p.relations r (parts p w).relations-fine e).1.tail list9)
      go (some d) = tt

  derived-small : (m : ℕ) (o : Option Relation) (d : Derived) → derived_at (kinds_of p.relations m) o ≡ some d → Small n d.kinds
  derived-small m none d e = let z : ◌≡◌ {A = ℕ} 0 1 = cc in absurd (omega arith)
  derived-small m (some r) d e = go r.derivation e
    where
      go : (o : Option Derivation) → derived_by (kinds_of p.relations m) o ≡ some d → Small n d.kinds
      go none e = let z : ◌≡◌ {A = ℕ} 0 1 = cc in absurd (omega arith)
      go (some b) e =
          let q : record { current = b.current; related = b.related; kinds = kinds_of p.relations m } ≡ d = cc in
          subst (λ (x : Derived). Small n x.kinds) q (kinds-small m)

  tables-below : KindsBelow n (tables p.relations)
  unfolding tables
  tables-below = record { typed = λ m. all_small (typed_at (find m p.relations)) (typed-below m (find m p.relations) refl); derived = λ m d e. derived-small m (find m p.relations) d e }

  cites-fits : (name origin : ℕ) → CitingFits n (cites p name origin)
  cites-fits name origin =
      record {
        kinds = turn_below n some_name (tables p.relations) tables-below;
        inputs = λ owner m number e. small_number (input p.blocks origin owner m) (input_numbered p.blocks origin owner m) number e;
      }

  -- ---- rules

  rule_told : (at : ℕ) (r : Rule) → Fine (rule n) r → Told n (at + length (rule_words n r)) (resolve_rule p at r)
  rule_told at r f =
      let C : Citing = cites p r.citing r.origin in
      let names = rule-names n r f in
      let its = rule-parts n r f in
      let by : ℕ → Body → Outcome Body = λ at b. resolve_body C r.entity at b in
      let long = ap length its.words ∙ length-append (head r) (run_words body_words (bodies_of r)) in
      subst (Told n (at + length (rule_words n r))) (sym (rule_run C at r))
      (map_told n (at + length (rule_words n r)) (again r) (run_by body_words by (at + 4) (bodies_of r))
      (told_below n (at + 4 + length (run_words body_words (bodies_of r))) (at + length (rule_words n r)) (omega arith) (run_by body_words by (at + 4) (bodies_of r))
      (run_told n body_words by (Fine (body n)) (λ at b g. body_told n C names.0 (cites-fits r.citing r.origin) r.entity names.1 at b g) (at + 4) (bodies_of r) its.bodies)))

  rules_told : Told n (first_rule p + length (run_words (rule_words n) p.rules)) (resolve_rules p (first_rule p) p.rules)
  rules_told =
      subst (Told n (first_rule p + length (run_words (rule_words n) p.rules))) (sym (rules_run p (first_rule p) p.rules))
      (run_told n (rule_words n) (λ at r. resolve_rule p at r) (Fine (rule n)) rule_told (first_rule p) p.rules (rules_keep p w).all)

  -- ---- relations

  predicate_told : (at : ℕ) (r : Relation) (d : Derivation) → r.name < n → Fine (tree n 32 judgment) d.predicate → Told n (at + predicate_place r d + size d.predicate) (resolve_predicate p at r d)
  unfolding predicate_by
  predicate_told at r d h f =
      let kinds = kinds_of p.relations r.name in
      tree_told n (cites p r.name r.origin) h (cites-fits r.name r.origin) d.predicate 32 judgment f (kind_or_zero kinds d.related) (kinds-small r.name d.related)
      (membership (kind_at kinds d.current) (kind_at kinds d.related)) (both_small n (kind_at kinds d.current) (kind_at kinds d.related) (kinds-small r.name d.current) (kinds-small r.name d.related))
      (at + predicate_place r d)

  relation_told : (at : ℕ) (r : Relation) → RelationKeeps p r → Told n (at + length (relation_words n r)) (resolve_relation p at r)
  unfolding resolve_relation relation_tail Fine
  relation_told at r keeps = map_told n (at + length (relation_words n r)) _ (resolve_derivation p at r r.derivation) (go r.derivation refl)
    where
      go : (o : Option Derivation) → r.derivation ≡ o → Told n (at + length (relation_words n r)) (resolve_derivation p at r o)
      go none e = tt
      go (some d) e =
          let k = kept n keeps.used r keeps.fine in
          let f = predicate_kept n r.derivation d e k.tail.1.1.1 in
          let long = ap length (lead_words n r d e f) ∙ length-append (lead n r d) (tree_words d.predicate) in
          map_told n (at + length (relation_words n r)) _ (resolve_predicate p at r d)
          (told_below n (at + predicate_place r d + size d.predicate) (at + length (relation_words n r)) (omega (arith, lead_long n r d, size_is d.predicate)) (resolve_predicate p at r d) (predicate_told at r d k.below f))

  relations_told : Told n (first_relation p + length (run_words (relation_words n) p.relations)) (resolve_relations p (first_relation p) p.relations)
  relations_told =
      subst (Told n (first_relation p + length (run_words (relation_words n) p.relations))) (sym (relations_run p (first_relation p) p.relations))
      (run_told n (relation_words n) (λ at r. resolve_relation p at r) (RelationKeeps p) relation_told (first_relation p) p.relations (relations_keep p w).all)

  -- ---- the whole

  rules-inside : first_rule p + length (run_words (rule_words n) p.rules) ≤ total p
  rules-inside =
      let B : List ℕ = words_by (blocks n) p.blocks in
      let a = ap length (pack_words_22 p) ∙ length-append (front22 p) (run_words (rule_words n) p.rules ++ B) in
      let b = length-append (run_words (rule_words n) p.rules) B in
      omega (arith, front22_long p, words-length p)

  relations-inside : first_relation p + length (run_words (relation_words n) p.relations) ≤ total p
  relations-inside =
      let after : List ℕ = word_of 22 (length p.rules) ∷ (run_words (rule_words n) p.rules ++ words_by (blocks n) p.blocks) in
      let a = ap length (pack-words p) ∙ length-append (front p) (run_words (relation_words n) p.relations ++ after) in
      let b = length-append (run_words (relation_words n) p.relations) after in
      omega (arith, front_long p, words-length p)

  -- a word follows the relations
  relations-before : first_relation p + length (relations_part p) < total p
  relations-before =
      let s = split p in
      let rest : List ℕ = word_of 22 (length p.rules) ∷ s.more in
      let a = ap length s.same ∙ length-append (opening p) (word_of 5 (length p.relations) ∷ (relations_part p ++ rest)) in
      let b = length-append (relations_part p) rest in
      omega (arith, opening_length p, words-length p)

  equal_told : (m : ℕ) → defaulted_equal (tables p.relations) p.defaulted ≡ some m → Told {A = Pack} n (total p) (refused (equal_refusal p m))
  unfolding tables
  equal_told m e =
      let its = declared_of (kinds_of p.relations m) (find m p.relations) (equal_named (tables p.relations) p.defaulted m e) in
      let k = (find_kept n m [] p.relations its.0 (parts p w).relations-fine its.1).1 in
      let q = find-name p.relations m its.0 its.1 in
      let start : start_of n m (first_relation p) p.relations < total p = omega (arith, relations-before, start_within n m (first_relation p) [] p.relations) in
      (record { number = omega arith; place = start; other = some_name }, omega (arith, k.below))

  pub resolved_told : Told n (total p) (resolved p)
  unfolding resolved
  resolved_told = go (defaulted_equal (tables p.relations) p.defaulted) refl
    where
      go : (o : Option ℕ) → defaulted_equal (tables p.relations) p.defaulted ≡ o → Told {A = Pack} n (total p) (elim o [ some m ↦ refused (equal_refusal p m) | none ↦ resolve_records p ])
      go (some m) e = equal_told m e
      go none e =
          then_told n (total p) (resolve_rules p (first_rule p) p.rules) _ (told_below n _ (total p) rules-inside (resolve_rules p (first_rule p) p.rules) rules_told)
          (λ rl. map_told n (total p) _ (resolve_relations p (first_relation p) p.relations) (told_below n _ (total p) relations-inside (resolve_relations p (first_relation p) p.relations) relations_told))
