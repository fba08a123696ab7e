-- A resolved pack of no more than 8,192 words keeps to the description and reads back.
use Prim.Native.Nat.{ℕ, ◌≤◌}
use native.Mathlib.Omega.{arith}
use mathlib.Core.Path.{◌≡◌, refl, ◌∙◌, subst}
use mathlib.Core.List.{List, [], map}
use mathlib.Core.Option.{Option, none, some}
use lib.ListN.{length, length-append, length-map}
use Rattle.definitions.specs.Form.{count, items, says, words_by, Fine}
use Rattle.definitions.specs.Records.{Relation, Rule, Pack}
use Rattle.definitions.specs.FieldRows.{to_row}
use Rattle.definitions.specs.Pack.{WellFormed, yes, read, words, total, defaulted, relations, rules, blocks, records, inner}
use Rattle.pack.proofs.PackLaws.{read-words}
use Rattle.definitions.specs.Places.{first_relation}
use Rattle.chains.proofs.RelationForm.{RelationsFine}
use Rattle.definitions.specs.Tables.{tables}
use Rattle.definitions.specs.Answers.{done, refused}
use Rattle.definitions.specs.Resolving.{defaulted_equal, resolve_rules, resolve_relations, equal_refusal, stamp, first_rule, resolve_records, resolved}
use Rattle.directions.proofs.KeepsForm.{Good, map_good, then_good}
use Rattle.directions.proofs.ResolvedFine.{RulesFine, rules_good, relations_good}

-- every pack has the five words of its own and a total
pub least-words : (p : Pack) → 6 ≤ total p
unfolding total inner records defaulted relations rules blocks words_by
least-words p = simp length-append (omega arith)

module _ (p : Pack) (w : WellFormed p) where
  abbrev whole : List Rule → List Relation → Pack
  whole rl rs = record { edition = p.edition; names = p.names; defaulted = p.defaulted; relations = map (stamp p) rs; rules = rl; blocks = p.blocks }

  -- the parts of the pack, and those of what comes out
  pub rules-fine : RulesFine p w p.rules
  unfolding inner records rules Fine items
  rules-fine = w.parts.1.1.1.0.2

  relations-fine : RelationsFine p.names [] p.relations
  unfolding inner records relations Fine items
  relations-fine = w.parts.1.1.0.2

  whole-fine : (rl : List Rule) (rs : List Relation) → RulesFine p w rl → length rl ≡ length p.rules → RelationsFine p.names [] (map (stamp p) rs) → length rs ≡ length p.relations
      → Fine (inner p.edition) (to_row (whole rl rs))
  unfolding inner records relations rules Fine items count says
  whole-fine rl rs h k m l =
      let f = w.parts in
      let e : length (map (stamp p) rs) ≡ length p.relations = length-map rs (stamp p) ∙ l in
      (f.0, (f.1.0, ((rw e f.1.1.0.0, refl, m), ((rw k f.1.1.1.0.0, refl, h), f.1.1.1.1))))

  records_good : Good (λ q. total q ≤ 8192 → WellFormed q) (resolve_records p)
  records_good =
      then_good (λ l. RulesFine p w l × (length l ≡ length p.rules)) _ (resolve_rules p (first_rule p) p.rules) _ (rules_good p w (first_rule p) p.rules rules-fine)
      (λ rl a. map_good (λ m. RelationsFine p.names [] (map (stamp p) m) × (length m ≡ length p.relations)) _ _ (resolve_relations p (first_relation p) p.relations)
      (relations_good p w (first_relation p) p.relations [] relations-fine)
      (λ rs b most. record { least = least-words (whole rl rs); most = most; parts = whole-fine rl rs a.0 a.1 b.0 b.1 }))

  -- what comes out is well formed if it is not too long
  pub resolved_good : Good (λ q. total q ≤ 8192 → WellFormed q) (resolved p)
  unfolding resolved
  resolved_good = go (defaulted_equal (tables p.relations) p.defaulted)
    where
      go : (o : Option ℕ) → Good (λ q. total q ≤ 8192 → WellFormed q) (elim o [ some n ↦ refused (equal_refusal p n) | none ↦ resolve_records p ])
      go (some n) = tt
      go none = records_good

  -- and reads back
  pub resolved-reads : (q : Pack) → resolved p ≡ done q → total q ≤ 8192 → read (words q) ≡ yes q
  resolved-reads q e h = read-words q (subst (Good (λ q. total q ≤ 8192 → WellFormed q)) e resolved_good h)
