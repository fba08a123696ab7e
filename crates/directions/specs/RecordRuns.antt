-- Records one after the other, and what resolving their trees comes to.
use Rattle.std.specs.Prelude.{ℕ, ◌+◌, ◌≡◌, List, [], ◌∷◌, ◌++◌, Bool, true, length, get_or}
use Rattle.definitions.specs.Table.{word_of}
use Rattle.definitions.specs.Form.{among, Fine}
use Rattle.definitions.specs.Records.{Relation, Body, Rule, Pack}
use Rattle.definitions.specs.Pack.{relation}
use Rattle.definitions.specs.Kinds.{declared, kinds_of}
use Rattle.definitions.specs.Places.{relation_words, first_relation, names_at}
use Rattle.chains.specs.PackDirectory.{OfPack, IsPack}
use Rattle.filtered.specs.Acts.{act_list}
use Rattle.filtered.specs.Taking.{Filled}
use Rattle.definitions.specs.Tree.{tree_words}
use Rattle.definitions.specs.Answers.{Outcome, done, refused, and_then, map_done}
use Rattle.definitions.specs.Resolving.{resolve_rules, resolve_relations, first_rule}

-- a run of records, one after the other
abbrev pub run_words : {A : Type 0} → (A → List ℕ) → List A → List ℕ
run_words W [] = []
run_words W (a ∷ l) = W a ++ run_words W l

unfoldable pub run_by : {A : Type 0} → (A → List ℕ) → (ℕ → A → Outcome A) → ℕ → List A → Outcome (List A)
run_by W resolve at [] = done []
run_by W resolve at (a ∷ l) = and_then (resolve at a) (λ b. map_done (λ m. b ∷ m) (run_by W resolve (at + length (W a)) l))

abbrev pub EachKeeps : {A : Type 0} → (A → Type 0) → List A → Type 0
EachKeeps Keeps [] = Unit {0}
EachKeeps Keeps (a ∷ l) = Keeps a × EachKeeps Keeps l

pub record Many {A : Type 0} (Keeps : A → Type 0) (count : ℕ) (l : List A) : Type 0 where
  pub many : length l ≡ count
  pub all : EachKeeps Keeps l

-- ---- bodies

abbrev pub body_words : Body → List ℕ
body_words b = word_of 27 b.sort ∷ tree_words b.tree

-- ---- relations of a checked pack

-- where relations start, one after the other from a place on
unfoldable pub places_from : ℕ → ℕ → List Relation → List ℕ
places_from n at [] = []
places_from n at (r ∷ rs) = at ∷ places_from n (at + length (relation_words n r)) rs

-- a relation that keeps to its form, of a name that the pack declares
pub record RelationKeeps (p : Pack) (r : Relation) : Type 0 where
  pub used : ℕ → Bool
  pub fine : Fine (relation p.names used) r
  pub known : among r.name (declared p.relations) ≡ true

-- the lists of the names that the pack declares are their kinds
abbrev pub KindsReady : List ℕ → List ℕ → Type 0
KindsReady ws acts = OfPack ws (λ p. (m : ℕ) → among m (declared p.relations) ≡ true → names_at ws (act_list (get_or acts m 0)) ≡ kinds_of p.relations m)

-- ---- refusals

-- a refusal of a tree bears the name of the rule or relation that cites it
abbrev pub NamedBy : {A : Type 0} → ℕ → Outcome A → Type 0
NamedBy n (done a) = Unit {0}
NamedBy n (refused r) = r.name ≡ n

-- ---- all trees of a pack

abbrev pub with_records : Pack → List Relation → List Rule → Pack
with_records p relations rules = record { edition = p.edition; names = p.names; defaulted = p.defaulted; relations = relations; rules = rules; blocks = p.blocks }

-- the second and third step of Resolving: the trees of rules, then those of relations
unfoldable pub trees_resolved : Pack → Outcome Pack
trees_resolved p = and_then (resolve_rules p (first_rule p) p.rules) (λ rules. map_done (λ relations. with_records p relations rules) (resolve_relations p (first_relation p) p.relations))

-- where all relations of a pack start
abbrev pub places_in : Pack → List ℕ
places_in p = places_from p.names (first_relation p) p.relations

-- the tables of a checked pack: where the records of relations start, what aggregates over them do, and what entities take
pub record TablesFilled (ws records acts taken : List ℕ) (steps : ℕ) : Type 0 where
  pub checked : IsPack ws
  pub declares : List ℕ
  pub filled : Filled ws declares records acts taken steps
