-- A rule: its words, and its resolving as a run of bodies.
use Prim.Native.Nat.{ℕ, suc, ◌+◌, ◌<◌}
use native.Mathlib.Omega.{arith}
use mathlib.Core.Path.{◌≡◌, refl, ap, sym, ◌∙◌, subst, fun_ext}
use mathlib.Core.List.{List, [], ◌∷◌, ◌++◌}
use lib.ListN.{length}
use mathlib.Core.Option.{none}
use Rattle.definitions.specs.Table.{word_of}
use Rattle.definitions.specs.Form.{words_all, FineAll, words_by, Fine}
use Rattle.definitions.specs.Tree.{root, Tree, size}
use Rattle.definitions.specs.Records.{Body, Rule, Pack}
use Rattle.definitions.specs.Pack.{WellFormed, body, bodies, rule}
use Rattle.definitions.specs.Answers.{Outcome, done, refused, and_then, map_done}
use Rattle.definitions.specs.ResolvingTrees.{Citing, resolve_tree}
use Rattle.definitions.specs.Resolving.{cites, resolve_body, resolve_bodies, body_size, rule_by, resolve_rule, rule_words}
use Rattle.directions.specs.RecordRuns.{run_words, run_by, EachKeeps, body_words}
use Rattle.directions.proofs.KeepsForm.{Good}
use Rattle.directions.proofs.TreeWords.{size_is, tree-words, size_kept}
use Rattle.directions.proofs.ResolvedFine.{rule_good}
use Rattle.directions.proofs.RunLaws.{run_length, run-words}

-- ---- its words

pub body-words : (n : ℕ) (b : Body) → Fine (body n) b → words_by (body n) b ≡ body_words b
unfolding body root Fine words_by
body-words n b f = ap (λ (l : List ℕ). word_of 27 b.sort ∷ l) (tree-words b.tree n 32 b.sort f.1)

versions-words : (n : ℕ) (bs : List Body) → FineAll {S = Unit {0}} (λ u b. u) (λ u b. Fine (body n) b) tt bs → words_all {S = Unit {0}} (λ u b. u) (λ u b. words_by (body n) b) tt bs ≡ run_words body_words bs
versions-words n [] h = refl
versions-words n (b ∷ bs) h =
    ap (λ (l : List ℕ). l ++ words_all {S = Unit {0}} (λ u b. u) (λ u b. words_by (body n) b) tt bs) (body-words n b h.0) ∙ ap (λ (l : List ℕ). body_words b ++ l) (versions-words n bs h.1)

-- all its bodies, and the words in front of them
abbrev pub bodies_of : Rule → List Body
bodies_of r = r.semantics ∷ r.versions

abbrev pub head : Rule → List ℕ
head r = word_of 23 r.citing ∷ word_of 24 r.origin ∷ word_of 25 r.entity ∷ word_of 26 (suc (length r.versions)) ∷ []

pub record RuleParts (n : ℕ) (r : Rule) : Type 0 where
  pub citing : r.citing < 16777216
  pub origin : r.origin < 16777216
  pub entity : r.entity < 16777216
  pub many : suc (length r.versions) < 16777216
  pub bodies : EachKeeps (λ b. Fine (body n) b) (bodies_of r)
  pub words : rule_words n r ≡ head r ++ run_words body_words (bodies_of r)

all-versions : (n : ℕ) (bs : List Body) → FineAll {S = Unit {0}} (λ u b. u) (λ u b. Fine (body n) b) tt bs → EachKeeps (λ b. Fine (body n) b) bs
all-versions n [] h = tt
all-versions n (b ∷ bs) h = (h.0, all-versions n bs h.1)

pub rule-parts : (n : ℕ) (r : Rule) → Fine (rule n) r → RuleParts n r
unfolding rule bodies Fine words_by
rule-parts n r f =
    let sem = body-words n r.semantics f.1.1.1.1 in
    let more = versions-words n r.versions f.1.1.1.2 in
    record {
      citing = f.0.0;
      origin = f.1.0.0;
      entity = f.1.1.0.0;
      many = f.1.1.1.0.0;
      bodies = (f.1.1.1.1, all-versions n r.versions f.1.1.1.2);
      words =
          ap (λ (l : List ℕ). head r ++ (l ++ words_all {S = Unit {0}} (λ u b. u) (λ u b. words_by (body n) b) tt r.versions)) sem
          ∙ ap (λ (l : List ℕ). head r ++ (body_words r.semantics ++ l)) more;
    }

-- ---- its resolving, as a run of bodies

bodies_run : (C : Citing) (entity at : ℕ) (bs : List Body) → resolve_bodies C entity at bs ≡ run_by body_words (λ at b. resolve_body C entity at b) at bs
unfolding resolve_bodies run_by
bodies_run C entity at [] = refl
bodies_run C entity at (b ∷ bs) =
    let size : body_size b ≡ length (body_words b) = omega (arith, size_is b.tree) in
    ap (λ (f : Body → Outcome (List Body)). and_then (resolve_body C entity at b) f)
    (fun_ext (λ b'. ap (map_done (λ l. b' ∷ l)) (ap (λ (n : ℕ). resolve_bodies C entity (at + n) bs) size ∙ bodies_run C entity (at + length (body_words b)) bs)))

-- a rule again, of its bodies
abbrev pub again : Rule → List Body → Rule
again r [] = r
again r (b ∷ bs) = record { citing = r.citing; origin = r.origin; entity = r.entity; semantics = b; versions = bs }

pub rule_run : (C : Citing) (at : ℕ) (r : Rule) → rule_by C at r ≡ map_done (again r) (run_by body_words (λ at b. resolve_body C r.entity at b) (at + 4) (bodies_of r))
unfolding rule_by run_by
rule_run C at r = go (resolve_body C r.entity (at + 4) r.semantics)
  where
    by : ℕ → Body → Outcome Body
    by at b = resolve_body C r.entity at b

    rest : (b : Body) (o : Outcome (List Body))
        → map_done (λ bs. record { citing = r.citing; origin = r.origin; entity = r.entity; semantics = b; versions = bs }) o ≡ map_done (again r) (map_done (λ m. b ∷ m) o)
    rest b (done m) = refl
    rest b (refused x) = refl

    size : body_size r.semantics ≡ length (body_words r.semantics)
    size = omega (arith, size_is r.semantics.tree)

    go : (o : Outcome Body)
        → and_then o (λ b. map_done (λ bs. record { citing = r.citing; origin = r.origin; entity = r.entity; semantics = b; versions = bs }) (resolve_bodies C r.entity (at + 4 + body_size r.semantics) r.versions))
        ≡ map_done (again r) (and_then o (λ b. map_done (λ m. b ∷ m) (run_by body_words (λ at b. resolve_body C r.entity at b) (at + 4 + length (body_words r.semantics)) r.versions)))
    go (refused x) = refl
    go (done b) =
        ap (map_done (λ bs. record { citing = r.citing; origin = r.origin; entity = r.entity; semantics = b; versions = bs }))
        (ap (λ (n : ℕ). resolve_bodies C r.entity (at + 4 + n) r.versions) size ∙ bodies_run C r.entity (at + 4 + length (body_words r.semantics)) r.versions)
        ∙ rest b (run_by body_words (λ at b. resolve_body C r.entity at b) (at + 4 + length (body_words r.semantics)) r.versions)

-- ---- how many words it has when it is resolved

body-long : (n : ℕ) (C : Citing) (entity at : ℕ) (a b : Body) → Fine (body n) a → resolve_body C entity at a ≡ done b → length (body_words b) ≡ length (body_words a)
body-long n C entity at a b keeps e = go (resolve_tree C entity none (at + 1) a.tree) refl e
  where
    go : (o : Outcome Tree) → resolve_tree C entity none (at + 1) a.tree ≡ o → map_done (λ t. record { sort = a.sort; tree = t }) o ≡ done b → length (body_words b) ≡ length (body_words a)
    go (refused r) q e = let z : ◌≡◌ {A = ℕ} 0 1 = cc in absurd (omega arith)
    go (done t) q e =
        let same : record { sort = a.sort; tree = t } ≡ b = cc in
        let kept : size t ≡ size a.tree = subst (Good (λ y. size y ≡ size a.tree)) q (size_kept C a.tree entity none (at + 1)) in
        rw (← same) (omega (arith, size_is t, size_is a.tree))

pub rule-long : (p : Pack) → WellFormed p → (at : ℕ) (a b : Rule) → Fine (rule p.names) a → resolve_rule p at a ≡ done b → length (rule_words p.names b) ≡ length (rule_words p.names a)
rule-long p w at a b fine e =
    let C : Citing = cites p a.citing a.origin in
    let good : Fine (rule p.names) b = subst (Good (Fine (rule p.names))) e (rule_good p w at a fine) in
    go C (run_by body_words (λ at b. resolve_body C a.entity at b) (at + 4) (bodies_of a)) refl (sym (rule_run C at a) ∙ e) good
  where
    go : (C : Citing) (o : Outcome (List Body)) → run_by body_words (λ at b. resolve_body C a.entity at b) (at + 4) (bodies_of a) ≡ o → map_done (again a) o ≡ done b → Fine (rule p.names) b
        → length (rule_words p.names b) ≡ length (rule_words p.names a)
    go C (refused x) q e g = let z : ◌≡◌ {A = ℕ} 0 1 = cc in absurd (omega arith)
    go C (done []) q e g = let z = run_length body_words (λ at b. resolve_body C a.entity at b) (at + 4) (bodies_of a) [] q in absurd (omega arith)
    go C (done (c ∷ m)) q e g =
        let same : again a (c ∷ m) ≡ b = cc in
        let parts = rule-parts p.names (again a (c ∷ m)) (subst (λ (x : Rule). Fine (rule p.names) x) (sym same) g) in
        let its = rule-parts p.names a fine in
        let long = run-words body_words (λ at b. resolve_body C a.entity at b) (λ x. Fine (body p.names) x) (body-long p.names C a.entity) (at + 4) (bodies_of a) (c ∷ m) its.bodies q in
        ap (λ (x : Rule). length (rule_words p.names x)) (sym same) ∙ ap length parts.words ∙ omega (arith, ap length its.words, long)
