-- Resolving a pack. 01, "Resolving": its four steps.
use Rattle.std.specs.Prelude.{ℕ, ◌+◌, ◌*◌, List, [], ◌∷◌, map, Bool, true, false, ◌||◌, ◌&&◌, not, length, eqb, leb}
use Rattle.std.proofs.Math.Option.{Option, none, some}
use Rattle.definitions.specs.declared.answer.Refusal.{Refusal}
use Rattle.definitions.specs.Table.{pick}
use Rattle.definitions.specs.Form.{words_by}
use Rattle.definitions.specs.Tree.{Tree, Forest, node, more, size}
use Rattle.definitions.specs.Tree as trees
use Rattle.definitions.specs.Records.{Derivation, Relation, Body, Rule, Pack}
use Rattle.definitions.specs.Pack.{rule}
use Rattle.definitions.specs.Kinds.{kinds_of}
use Rattle.definitions.specs.Filtered.{kind_at}
use Rattle.definitions.specs.Lean.{any}
use Rattle.definitions.specs.Places.{relation_words, start_of, first_relation, relations_end, hops}
use Rattle.definitions.specs.Tables.{Derived, Tables, tables}
use Rattle.definitions.specs.Direction.{kind_or_zero, membership}
use Rattle.definitions.specs.Inputs.{input}
use Rattle.definitions.specs.Answers.{Outcome, done, refused, and_then, map_done}
use Rattle.definitions.specs.ResolvingTrees.{Citing, resolve_tree}

-- a rule or relation of a name and an origin, in a pack
abbrev pub cites : Pack → ℕ → ℕ → Citing
cites p name origin = record { tables = tables p.relations; name = name; input = input p.blocks origin }

-- ---- "1. Defaulted names, rising: a derived relation with kinds, both slots in range and equal kinds there: 9."

abbrev pub same_kind : Option ℕ → Option ℕ → Bool
same_kind (some c) (some r) = eqb c r
same_kind (some c) none = false
same_kind none r = false

abbrev pub equal_kinds : Option Derived → Bool
equal_kinds none = false
equal_kinds (some d) = same_kind (kind_at d.kinds d.current) (kind_at d.kinds d.related)

-- the first of the names that is refused
unfoldable pub defaulted_equal : Tables → List ℕ → Option ℕ
defaulted_equal T [] = none
defaulted_equal T (n ∷ ns) = pick (equal_kinds (T.derived n)) (some n) (defaulted_equal T ns)

-- "place its kind 6 word, name the relation"
abbrev pub equal_refusal : Pack → ℕ → Refusal
equal_refusal p n = record { number = 9; place = start_of p.names n (first_relation p) p.relations; name = n; other = 0 }

-- ---- "2. Rules in order, bodies in order, entity from 25, no membership."

abbrev pub resolve_body : Citing → ℕ → ℕ → Body → Outcome Body
resolve_body C entity at b = map_done (λ t. record { sort = b.sort; tree = t }) (resolve_tree C entity none (at + 1) b.tree)

-- a body is its 27 and the tree
abbrev pub body_size : Body → ℕ
body_size b = 1 + size b.tree

unfoldable pub resolve_bodies : Citing → ℕ → ℕ → List Body → Outcome (List Body)
resolve_bodies C entity at [] = done []
resolve_bodies C entity at (b ∷ bs) = and_then (resolve_body C entity at b) (λ b'. map_done (λ l. b' ∷ l) (resolve_bodies C entity (at + body_size b) bs))

-- the bodies stand after 23, 24, 25 and 26
unfoldable pub rule_by : Citing → ℕ → Rule → Outcome Rule
rule_by C at r =
    and_then (resolve_body C r.entity (at + 4) r.semantics)
    (λ b. map_done (λ bs. record { citing = r.citing; origin = r.origin; entity = r.entity; semantics = b; versions = bs })
    (resolve_bodies C r.entity (at + 4 + body_size r.semantics) r.versions))

abbrev pub resolve_rule : Pack → ℕ → Rule → Outcome Rule
resolve_rule p at r = rule_by (cites p r.citing r.origin) at r

abbrev pub rule_words : ℕ → Rule → List ℕ
rule_words n r = words_by (rule n) r

unfoldable pub resolve_rules : Pack → ℕ → List Rule → Outcome (List Rule)
resolve_rules p at [] = done []
resolve_rules p at (r ∷ rs) = and_then (resolve_rule p at r) (λ r'. map_done (λ l. r' ∷ l) (resolve_rules p (at + length (rule_words p.names r)) rs))

-- ---- "3. Relation predicates in order: entity = related kind or 0, membership = (current kind, related kind), citing = the relation."

-- the predicate stands after 6 to 8, 9 with its kinds, 11, 12, 13 with its steps, 17 to 20, and 21 with its names
abbrev pub predicate_place : Relation → Derivation → ℕ
predicate_place r d = 4 + length r.slot_kinds + 3 + 3 * hops d.path + 5 + length d.slot_entities

abbrev pub with_predicate : Derivation → Tree → Derivation
with_predicate d t =
    record { source = d.source; path = d.path; current = d.current; related = d.related; entity = d.entity; member = d.member; slot_entities = d.slot_entities; predicate = t }

unfoldable pub predicate_by : Citing → Option (List ℕ) → ℕ → Relation → Derivation → Outcome Tree
predicate_by C kinds at r d =
    resolve_tree C (kind_or_zero kinds d.related) (membership (kind_at kinds d.current) (kind_at kinds d.related)) (at + predicate_place r d) d.predicate

abbrev pub resolve_predicate : Pack → ℕ → Relation → Derivation → Outcome Tree
resolve_predicate p at r d = predicate_by (cites p r.name r.origin) (kinds_of p.relations r.name) at r d

abbrev pub resolve_derivation : Pack → ℕ → Relation → Option Derivation → Outcome (Option Derivation)
resolve_derivation p at r none = done none
resolve_derivation p at r (some d) = map_done (λ t. some (with_predicate d t)) (resolve_predicate p at r d)

unfoldable pub resolve_relation : Pack → ℕ → Relation → Outcome Relation
resolve_relation p at r =
    map_done (λ o. record { name = r.name; origin = r.origin; arity = r.arity; slot_kinds = r.slot_kinds; derivation = o }) (resolve_derivation p at r r.derivation)

unfoldable pub resolve_relations : Pack → ℕ → List Relation → Outcome (List Relation)
resolve_relations p at [] = done []
resolve_relations p at (r ∷ rs) =
    and_then (resolve_relation p at r) (λ r'. map_done (λ l. r' ∷ l) (resolve_relations p (at + length (relation_words p.names r)) rs))

-- ---- "4. Stamping"

-- whether some node of a tree is of a sort
unfoldable mutual
  pub holds : (ℕ → ℕ → Bool) → Tree → Bool
  holds is (node k v fs f) = is k v || held is f

  pub held : (ℕ → ℕ → Bool) → Forest → Bool
  held is trees.none = false
  held is (more t f) = holds is t || held is f

-- "whose predicate holds kinds 102 to 104"
abbrev pub role_judgment : ℕ → ℕ → Bool
role_judgment k v = leb 102 k && leb k 104

-- "that some atom or Exists names"
abbrev pub atom_of : ℕ → ℕ → ℕ → Bool
atom_of n k v = (eqb k 102 || eqb k 103) && eqb v n

abbrev pub in_derivation : (ℕ → ℕ → Bool) → Option Derivation → Bool
in_derivation is none = false
in_derivation is (some d) = holds is d.predicate

abbrev pub in_rule : (ℕ → ℕ → Bool) → Rule → Bool
in_rule is r = holds is r.semantics.tree || any (λ (b : Body). holds is b.tree) r.versions

unfoldable pub atom_names : Pack → ℕ → Bool
atom_names p n = any (in_rule (atom_of n)) p.rules || any (λ (r : Relation). in_derivation (atom_of n) r.derivation) p.relations

abbrev pub is_empty : List ℕ → Bool
is_empty [] = true
is_empty (k ∷ ks) = false

-- "pass over a relation with both lists empty that some atom or Exists names, or whose predicate holds kinds 102 to 104"
abbrev pub passed_over : Pack → Relation → Derivation → Bool
passed_over p r d = (is_empty r.slot_kinds && is_empty d.slot_entities) && (atom_names p r.name || holds role_judgment d.predicate)

-- "current slot in range and its kind unlike the related one (out of range counts as unlike)"
abbrev pub unlike : Option ℕ → Option ℕ → Bool
unlike none related = false
unlike (some c) none = true
unlike (some c) (some r) = not (eqb c r)

abbrev pub or_kinds : List ℕ → List ℕ → List ℕ
or_kinds [] ks = ks
or_kinds (j ∷ js) ks = j ∷ js

abbrev pub with_entities : Derivation → List ℕ → Derivation
with_entities d ks =
    record { source = d.source; path = d.path; current = d.current; related = d.related; entity = d.entity; member = d.member; slot_entities = ks; predicate = d.predicate }

-- "list 21 becomes the kinds, and so does list 9 if empty"
abbrev pub stamped_with : Relation → Derivation → List ℕ → Relation
stamped_with r d ks =
    record { name = r.name; origin = r.origin; arity = r.arity; slot_kinds = or_kinds r.slot_kinds ks; derivation = some (with_entities d ks) }

-- "Otherwise, with list 21 empty, kinds known"
abbrev pub stamp_by : Option (List ℕ) → Relation → Derivation → Relation
stamp_by none r d = r
stamp_by (some ks) r d = pick (is_empty d.slot_entities && unlike (kind_at (some ks) d.current) (kind_at (some ks) d.related)) (stamped_with r d ks) r

abbrev pub stamp_derived : Pack → Relation → Option Derivation → Relation
stamp_derived p r none = r
stamp_derived p r (some d) = pick (passed_over p r d) r (stamp_by (kinds_of p.relations r.name) r d)

unfoldable pub stamp : Pack → Relation → Relation
stamp p r = stamp_derived p r r.derivation

-- ---- the whole

-- the first rule stands after the relations and the count of rules
abbrev pub first_rule : Pack → ℕ
first_rule p = relations_end p.names (first_relation p) p.relations + 1

abbrev pub resolve_records : Pack → Outcome Pack
resolve_records p =
    and_then (resolve_rules p (first_rule p) p.rules)
    (λ rules. map_done
    (λ relations. record { edition = p.edition; names = p.names; defaulted = p.defaulted; relations = map (stamp p) relations; rules = rules; blocks = p.blocks })
    (resolve_relations p (first_relation p) p.relations))

unfoldable pub resolved : Pack → Outcome Pack
resolved p = elim (defaulted_equal (tables p.relations) p.defaulted) [ some n ↦ refused (equal_refusal p n) | none ↦ resolve_records p ]
