-- Demand 3: order never matters. What holds of a checked pack and of one dealt out of it, said of what the operations answer and of what they leave in the
-- buffers. The record at the end has the demand's sentences in order.
use Rattle.std.specs.Prelude.{Err}
use Rattle.std.specs.Prelude.{ℕ, ◌+◌, ◌<◌, ◌≡◌, List, [], ◌∷◌, ◌++◌, true, length, drop}
use Rattle.std.proofs.Math.Option.{Option, none, some, map}
use Rattle.definitions.specs.declared.answer.Refusal.{Refusal}
use Rattle.definitions.specs.Answers.{Answer}
use Rattle.definitions.specs.Form.{among}
use Rattle.definitions.specs.Records.{Derivation, Relation, Rule, Block, Pack}
use Rattle.definitions.specs.Pack.{total, words}
use Rattle.definitions.specs.Answers.{words_and_steps, result}
use Rattle.definitions.specs.Dealt.{Checked, Shuffled, InAnyOrder, SameBlock}
use Rattle.definitions.specs.Kinds.{list21, list_of, find, undeclared_sources, own_answer, kinds_of}
use Rattle.definitions.specs.Places.{names_at, SettledAt}
use Rattle.definitions.specs.Operations.{all_kinds_answer, all_kinds_buffer, resolve_answer, resolve_buffer}
use Rattle.definitions.specs.Filtered.{kind_at}
use Rattle.definitions.specs.Tables.{Derived, tables}
use Rattle.definitions.specs.Direction.{kind_or_zero, membership}
use Rattle.definitions.specs.ResolvingTrees.{InRange, resolve_tree}
use Rattle.definitions.specs.Resolving.{cites, resolve_rule, predicate_place, resolve_predicate, resolve_relation, or_kinds, stamp}

-- ---- what comes out

-- what a relation and a rule come out as, wherever they stand; the place, here 0, shows in refusals alone
abbrev pub relation_out : Pack → Relation → Option Relation
relation_out p r = map (stamp p) (result (resolve_relation p 0 r))

abbrev pub rule_out : Pack → Rule → Option Rule
rule_out p r = result (resolve_rule p 0 r)

-- each of a list comes out as said, in order
pub data Each {A B : Type 0} (out : A → Option B) : List A → List B → Type 0 where
  nil : Each out [] []
  cons : {a : A} {b : B} {l : List A} {m : List B} → out a ≡ some b → Each out l m → Each out (a ∷ l) (b ∷ m)

-- "the whole pack in record order, slots and lists as Resolving leaves them, .. all else as it stood"
pub record ComesOut (p out : Pack) : Type 0 where
  pub edition : out.edition ≡ p.edition
  pub names : out.names ≡ p.names
  pub defaulted : out.defaulted ≡ p.defaulted
  pub relations : Each (relation_out p) p.relations out.relations
  pub rules : Each (rule_out p) p.rules out.rules
  -- each block, and each of its items
  pub blocks : out.blocks ≡ p.blocks

-- what a lent slice holds after so many words were written: the words of what comes out of the pack, and past them what it held
pub record Left (p : Pack) (lent : List ℕ) (len : ℕ) (after : List ℕ) : Type 0 where
  pub out : Pack
  pub holds : after ≡ words out ++ drop len lent
  pub long : len ≡ total out
  pub comes : ComesOut p out

-- each record of a list beside what comes out of it
abbrev pub beside : {A : Type 0} → List A → List A → List (A × A)
beside [] m = []
beside (a ∷ l) [] = []
beside (a ∷ l) (b ∷ m) = (a, b) ∷ beside l m

-- two blocks, each beside what comes out of it, count as the same up to the order of their items
pub record SameBlocks (a b : Block × Block) : Type 0 where
  pub goes_in : SameBlock a.0 b.0
  pub comes-out : SameBlock a.1 b.1

-- "every relation, rule, block and block item comes out in the same words": in both packs the same records beside the same that come out of them, each as often, in any order
pub record SameOut (p q out out' : Pack) : Type 0 where
  pub relations : InAnyOrder (beside p.relations out.relations) (beside q.relations out'.relations)
  pub rules : InAnyOrder (beside p.rules out.rules) (beside q.rules out'.rules)
  pub blocks : Shuffled SameBlocks (beside p.blocks out.blocks) (beside q.blocks out'.blocks)

-- What Resolve answers and leaves in a lent slice, for a pack and for another: one of four.
pub data ResolveAlike (p q : Pack) (lent lent' : List ℕ) : Answer → List ℕ → Answer → List ℕ → Type 0 where
  -- both resolve, with equal length and steps, and records come out in the same words
  both_resolve : {len steps : ℕ} {after after' : List ℕ} (one : Left p lent len after) (other : Left q lent' len after') → SameOut p q one.out other.out
      → ResolveAlike p q lent lent' (words_and_steps len steps) after (words_and_steps len steps) after'
  -- both refuse, and the slices are as they were lent: by 9 both, naming the same relation
  both_equal : {r s : Refusal} → r.number ≡ 9 → s.number ≡ 9 → r.name ≡ s.name → ResolveAlike p q lent lent' (Err r) lent (Err s) lent'
  -- by 16 both
  both_room : {r s : Refusal} → r.number ≡ 16 → s.number ≡ 16 → ResolveAlike p q lent lent' (Err r) lent (Err s) lent'
  -- or each by one of 10 to 15
  both_open : {r s : Refusal} → InRange r.number → InRange s.number → ResolveAlike p q lent lent' (Err r) lent (Err s) lent'

-- ---- kinds

-- "A relation's kinds are the names, in order, of the list at the place that All kinds, where it answers, writes for it, none at 0": one word for each
-- relation of a list, and there the kinds of its own walk among the relations `rs`: the own list of the relation at which the walk ends, counted by a 9 or a 21
pub data KindsWritten (ws : List ℕ) (rs : List Relation) : List Relation → List ℕ → Type 0 where
  no_more : {rest : List ℕ} → KindsWritten ws rs [] rest
  one_more : {r : Relation} {l : List Relation} {place : ℕ} {out : List ℕ} → names_at ws place ≡ kinds_of rs r.name → SettledAt ws rs (own_answer rs r.name) place → KindsWritten ws rs l out
      → KindsWritten ws rs (r ∷ l) (place ∷ out)

-- the relation of a name, and its derivation
pub record DerivedRelation (p : Pack) (n : ℕ) : Type 0 where
  pub relation : Relation
  pub declared : find n p.relations ≡ some relation
  pub derivation : Derivation
  pub derived : relation.derivation ≡ some derivation

-- the kind at a slot of the relation of a name, by its own walk
abbrev pub kind_borne : Pack → ℕ → ℕ → Option ℕ
kind_borne p n slot = kind_at (kinds_of p.relations n) slot

-- an entity takes one kind: some derivation with this entity has it at its current slot, and none has another there
pub record TakesOne (p : Pack) (e k : ℕ) : Type 0 where
  pub name : ℕ
  pub by : DerivedRelation p name
  pub with_entity : by.derivation.entity ≡ e
  pub takes : kind_borne p name by.derivation.current ≡ some k
  pub only : (n j : ℕ) (b : DerivedRelation p n) → b.derivation.entity ≡ e → kind_borne p n b.derivation.current ≡ some j → j ≡ k

-- a relation of a name with the same kind at both slots
pub record EqualKinds (p : Pack) (n : ℕ) : Type 0 where
  pub by : DerivedRelation p n
  pub kind : ℕ
  pub current : kind_borne p n by.derivation.current ≡ some kind
  pub related : kind_borne p n by.derivation.related ≡ some kind

-- the lists of a relation and of what comes out of it: as they stood; or list 21 has become the kinds, and list 9 too where it was empty
pub data ListsLeft (p : Pack) (r out : Relation) : Type 0 where
  as_they_stood : out.slot_kinds ≡ r.slot_kinds → list_of list21 out ≡ list_of list21 r → ListsLeft p r out
  stamped : kinds_of p.relations r.name ≡ some (list_of list21 out) → out.slot_kinds ≡ or_kinds r.slot_kinds (list_of list21 out) → ListsLeft p r out

-- "in Resolve, those that tables and stamping use, so a stamped list holds them": all that looks at kinds looks at those of the own walk. Of a pack, and of what
-- Resolve answers for it by the room that is lent.
pub record KindsUsed (p : Pack) (answers : ℕ → Answer) : Type 0 where
  -- the table of typed relations, "without derivation and with exactly two slot kinds", just these: their slots are matched in aggregates and membership tests
  pub typed : (n : ℕ) (ks : List ℕ) → (tables p.relations).typed n ≡ some ks → kinds_of p.relations n ≡ some ks
  pub typed-back : (n a b : ℕ) (r : Relation) → find n p.relations ≡ some r → r.derivation ≡ none → r.slot_kinds ≡ a ∷ b ∷ [] → (tables p.relations).typed n ≡ some (a ∷ b ∷ [])
  -- the table of derived relations, just these: they supply slots and kinds in aggregates and membership tests, and 9 goes by it
  pub derived : (n : ℕ) (d : Derived) → (tables p.relations).derived n ≡ some d → d.kinds ≡ kinds_of p.relations n
  pub derived-back : (n : ℕ) (b : DerivedRelation p n)
      → (tables p.relations).derived n ≡ some (record { current = b.derivation.current; related = b.derivation.related; kinds = kinds_of p.relations n })
  -- the table by which an aggregate's entity is matched: just where it takes one kind
  pub direct : (e k : ℕ) → (tables p.relations).direct e ≡ some k → TakesOne p e k
  pub direct-back : (e k : ℕ) → e < p.names → TakesOne p e k → (tables p.relations).direct e ≡ some k
  -- a predicate's entity and membership, with which its tree is resolved
  pub predicate : (at : ℕ) (r : Relation) (d : Derivation)
      → resolve_predicate p at r d
      ≡ resolve_tree (cites p r.name r.origin) (kind_or_zero (kinds_of p.relations r.name) d.related) (membership (kind_borne p r.name d.current) (kind_borne p r.name d.related))
      (at + predicate_place r d) d.predicate
  -- an answer of 9: just where a defaulted relation has equal kinds, and it names one
  pub refused_by_9 : (room : ℕ) (r : Refusal) → answers room ≡ Err r → r.number ≡ 9 → (among r.name p.defaulted ≡ true) × EqualKinds p r.name
  pub refused_by_9_back : (room n : ℕ) → among n p.defaulted ≡ true → EqualKinds p n → (r : Refusal) × (answers room ≡ Err r) × (r.number ≡ 9)
  -- the lists of every relation that comes out into the buffer
  pub lists : (r out : Relation) → relation_out p r ≡ some out → ListsLeft p r out

-- ---- steps

-- "relations + distinct undeclared sources that inheriting relations name"
abbrev pub step_sum : Pack → ℕ
step_sum p = length p.relations + length (undeclared_sources p.relations)

pub record StepsAreSum (ws : List ℕ) (p : Pack) : Type 0 where
  pub all_kinds : (room n steps : ℕ) → all_kinds_answer ws room ≡ words_and_steps n steps → steps ≡ step_sum p
  pub resolve : (room n steps : ℕ) → resolve_answer ws room ≡ words_and_steps n steps → steps ≡ step_sum p

-- ---- the demand

-- the words of a checked pack, the pack itself, one dealt out of it, and that one's words
pub record Demand3 (ws : List ℕ) (p q : Pack) (vs : List ℕ) : Type 0 where
  -- "In whatever order somebody deals out a checked pack's relations, rules, blocks and each block's own items again, the dealt pack is checked too."
  pub checked : Checked vs
  -- "With output buffers of equal length, whatever that length is, both packs resolve or both refuse: by 9 both, naming the same relation; by 16 both; or each by
  -- one of 10 to 15. Where they resolve, every relation, rule, block and block item comes out in the same words, and the answers have equal length and steps."
  pub resolve : (lent lent' : List ℕ) → length lent ≡ length lent'
      → ResolveAlike p q lent lent' (resolve_answer ws (length lent)) (resolve_buffer ws lent) (resolve_answer vs (length lent')) (resolve_buffer vs lent')
  -- "In either pack every relation's kinds, from All kinds .."
  pub all_kinds : (lent : List ℕ) (n steps : ℕ) → all_kinds_answer ws (length lent) ≡ words_and_steps n steps → KindsWritten ws p.relations p.relations (all_kinds_buffer ws lent)
  pub all_kinds_again : (lent : List ℕ) (n steps : ℕ) → all_kinds_answer vs (length lent) ≡ words_and_steps n steps → KindsWritten vs q.relations q.relations (all_kinds_buffer vs lent)
  -- ".. and in Resolve, are exactly those of its own walk,"
  pub kinds-used : KindsUsed p (resolve_answer ws)
  pub kinds_used_again : KindsUsed q (resolve_answer vs)
  -- "and alike in both packs."
  pub same-kinds : (n : ℕ) → kinds_of p.relations n ≡ kinds_of q.relations n
  pub same-answers : (room : ℕ) → all_kinds_answer ws room ≡ all_kinds_answer vs room
  -- "The steps that All kinds and Resolve answer are exactly relations + distinct undeclared sources that inheriting relations name."
  pub steps : StepsAreSum ws p
  pub steps_again : StepsAreSum vs q
