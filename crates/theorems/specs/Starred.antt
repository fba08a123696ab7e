-- The worked cases of 01, "Corners of the graph": one table, each case with its input beside what it comes to. The starred ones are all here; A4 and A5 stand with their kin.
use Rattle.std.specs.Prelude.{ℕ, ◌≡◌, List, [], ◌∷◌, map}
use Rattle.std.proofs.Math.Option.{Option, none, some}
use Rattle.definitions.specs.Table as table
use Rattle.definitions.specs.Tree.{Tree, node}
use Rattle.definitions.specs.Tree as trees
use Rattle.definitions.specs.Records.{Hop, Relation, Rule, Pack, undated}
use Rattle.definitions.specs.Kinds.{names_of, all_kinds, kinds_of}
use Rattle.definitions.specs.Places.{settled_of}
use Rattle.definitions.specs.Filtered.{direct, innermost}
use Rattle.definitions.specs.Answers.{Outcome, done, refused}
use Rattle.definitions.specs.Resolving.{resolved}

-- ---- what the cases are made of

-- "[1,2] is a slot list": a relation without derivation
abbrev pub without_derivation : ℕ → List ℕ → Relation
without_derivation n ks = record { name = n; origin = table.none; arity = 2; slot_kinds = ks; derivation = none }

-- a tree that says nothing, Count over the relation 5, and RelationMember of it
abbrev pub says_nothing : Tree
says_nothing = node 105 0 [] trees.none

abbrev pub counting : ℕ → ℕ → Tree
counting c r = node 74 5 ((80, c) ∷ (81, r) ∷ (86, 0) ∷ (83, 0) ∷ []) trees.none

abbrev pub member_node : ℕ → ℕ → Tree
member_node c r = node 101 5 ((80, c) ∷ (81, r) ∷ []) trees.none

-- "<5 means source 5": a derived relation with a source, a path and its two lists
abbrev pub with_source : ℕ → ℕ → Option (List Hop) → List ℕ → List ℕ → Relation
with_source n source path ks es =
    record {
      name = n;
      origin = table.none;
      arity = 2;
      slot_kinds = ks;
      derivation = some (record { source = source; path = path; current = 0; related = 1; entity = table.none; member = table.none; slot_entities = es; predicate = says_nothing });
    }

-- a derived relation without source, with its two lists, slots, entity and predicate
abbrev pub with_derivation : ℕ → List ℕ → List ℕ → ℕ → ℕ → ℕ → Tree → Relation
with_derivation n ks es c r entity t =
    record {
      name = n;
      origin = table.none;
      arity = 2;
      slot_kinds = ks;
      derivation = some (record { source = table.none; path = none; current = c; related = r; entity = entity; member = table.none; slot_entities = es; predicate = t });
    }

-- a rule of an entity with one scalar body
abbrev pub ruled : ℕ → Tree → List Rule
ruled entity t = record { citing = 7; origin = table.none; entity = entity; semantics = record { sort = 0; tree = t }; versions = [] } ∷ []

abbrev pub packed : List ℕ → List Relation → List Rule → Pack
packed ds rs rules = record { edition = undated; names = 10; defaulted = ds; relations = rs; rules = rules; blocks = [] }

abbrev pub refusal : ℕ → ℕ → ℕ → ℕ → Outcome Pack
refusal number place name other = refused (record { number = number; place = place; name = name; other = other })

-- ---- the table

pub data Case : Type 0 where
  -- of relations: the kinds of each, in order, and the steps
  kinds : List Relation → List (Option (List ℕ)) → ℕ → Case
  -- of a pack: what resolving comes to
  resolves : Pack → Outcome Pack → Case
  -- of relations: for each of some entities direct, and then innermost
  direct_kinds : List Relation → List (ℕ × Option ℕ) → List (ℕ × Option ℕ) → Case

-- what a case says: of kinds, by All kinds and by each relation's own walk
abbrev pub CaseHolds : Case → Type 0
CaseHolds (kinds rs ks steps) =
    (map (λ (r : Relation). names_of rs (settled_of ((all_kinds rs).settled r.name))) rs ≡ ks) × (map (λ (r : Relation). kinds_of rs r.name) rs ≡ ks) × ((all_kinds rs).steps ≡ steps)
CaseHolds (resolves p o) = resolved p ≡ o
CaseHolds (direct_kinds rs directs innermosts) =
    (map (λ (e : ℕ × Option ℕ). (e.0, direct rs e.0)) directs ≡ directs) × (map (λ (e : ℕ × Option ℕ). (e.0, innermost rs 10 e.0)) innermosts ≡ innermosts)

abbrev pub AllHold : List Case → Type 0
AllHold [] = Unit {0}
AllHold (c ∷ cs) = CaseHolds c × AllHold cs

abbrev pub cases : List Case
cases =
    -- "★K1 5[1,2], 6<5: both [1,2], steps 2."
    kinds (without_derivation 5 (1 ∷ 2 ∷ []) ∷ with_source 6 5 none [] [] ∷ []) (some (1 ∷ 2 ∷ []) ∷ some (1 ∷ 2 ∷ []) ∷ []) 2
    -- "★K2 5<6, 6<5: none, steps 2."
    ∷ kinds (with_source 5 6 none [] [] ∷ with_source 6 5 none [] [] ∷ []) (none ∷ none ∷ []) 2
    -- "★K3 5<9 undeclared: steps 2."
    ∷ kinds (with_source 5 9 none [] [] ∷ []) (none ∷ []) 2
    -- "★K4 5<5: none, steps 1."
    ∷ kinds (with_source 5 5 none [] [] ∷ []) (none ∷ []) 1
    -- "★K5 6<5 with path count 0: none."
    ∷ kinds (without_derivation 5 (1 ∷ 2 ∷ []) ∷ with_source 6 5 (some []) [] [] ∷ []) (some (1 ∷ 2 ∷ []) ∷ none ∷ []) 2
    -- "★K6 list 9 [1,2], list 21 [2,1]: [2,1]."
    ∷ kinds (with_source 5 6 none (1 ∷ 2 ∷ []) (2 ∷ 1 ∷ []) ∷ []) (some (2 ∷ 1 ∷ []) ∷ []) 1
    -- "★A1 5[1,2], entity 2: 1,0."
    ∷ resolves (packed [] (without_derivation 5 (1 ∷ 2 ∷ []) ∷ []) (ruled 2 (counting 7 9))) (done (packed [] (without_derivation 5 (1 ∷ 2 ∷ []) ∷ []) (ruled 2 (counting 1 0))))
    -- "★A2 5[2,2], entity 2: 10."
    ∷ resolves (packed [] (without_derivation 5 (2 ∷ 2 ∷ []) ∷ []) (ruled 2 (counting 7 9))) (refusal 10 17 7 2)
    -- "★A3 5[1,2], entity 3, author 7,9: kept."
    ∷ resolves (packed [] (without_derivation 5 (1 ∷ 2 ∷ []) ∷ []) (ruled 3 (counting 7 9))) (done (packed [] (without_derivation 5 (1 ∷ 2 ∷ []) ∷ []) (ruled 3 (counting 7 9))))
    -- "A4 direct(3)=2: as A1."
    ∷ resolves (packed [] (without_derivation 5 (1 ∷ 2 ∷ []) ∷ with_derivation 6 [] (2 ∷ 4 ∷ []) 0 1 3 says_nothing ∷ []) (ruled 3 (counting 7 9)))
    (done (packed [] (without_derivation 5 (1 ∷ 2 ∷ []) ∷ with_derivation 6 [] (2 ∷ 4 ∷ []) 0 1 3 says_nothing ∷ []) (ruled 3 (counting 1 0))))
    -- "A5 5[1,2,3]: kept."
    ∷ resolves (packed [] (without_derivation 5 (1 ∷ 2 ∷ 3 ∷ []) ∷ []) (ruled 2 (counting 7 9))) (done (packed [] (without_derivation 5 (1 ∷ 2 ∷ 3 ∷ []) ∷ []) (ruled 2 (counting 7 9))))
    -- "★M1 membership (1,2), [2,1]: 1,0."
    ∷ resolves (packed [] (without_derivation 5 (2 ∷ 1 ∷ []) ∷ with_derivation 6 [] (1 ∷ 2 ∷ []) 0 1 3 (member_node 7 9) ∷ []) [])
    (done (packed [] (without_derivation 5 (2 ∷ 1 ∷ []) ∷ with_derivation 6 [] (1 ∷ 2 ∷ []) 0 1 3 (member_node 1 0) ∷ []) []))
    -- "★G1 defaulted, [1,2], slots 0,0: 9."
    ∷ resolves (packed (6 ∷ []) (without_derivation 5 [] ∷ with_derivation 6 [] (1 ∷ 2 ∷ []) 0 0 3 says_nothing ∷ []) []) (refusal 9 10 6 0)
    -- "★S1 [1,2], slots 0,5: stamped."
    ∷ resolves (packed [] (with_derivation 6 (1 ∷ 2 ∷ []) [] 0 5 3 says_nothing ∷ []) []) (done (packed [] (with_derivation 6 (1 ∷ 2 ∷ []) (1 ∷ 2 ∷ []) 0 5 3 says_nothing ∷ []) []))
    -- "★I1 direct 3→4, 4→3, 5→3: none." The name 6 has no direct, and gets none.
    ∷ direct_kinds (with_derivation 7 [] (4 ∷ []) 0 1 3 says_nothing ∷ with_derivation 8 [] (3 ∷ []) 0 1 4 says_nothing ∷ with_derivation 9 [] (3 ∷ []) 0 1 5 says_nothing ∷ [])
    ((3, some 4) ∷ (4, some 3) ∷ (5, some 3) ∷ (6, none) ∷ [])
    ((3, none) ∷ (4, none) ∷ (5, none) ∷ (6, none) ∷ [])
    ∷ []
