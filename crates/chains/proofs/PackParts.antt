-- A checked pack's parts, and its relations by name.
use Prim.Native.Nat.{ℕ, suc, ◌+◌, ◌<◌, ◌≤◌}
use native.Mathlib.Omega.{arith}
use mathlib.Core.Path.{◌≡◌, refl, ap, ◌∙◌}
use mathlib.Core.List.{List, [], ◌∷◌, ◌++◌}
use mathlib.Core.Bool.{Bool, true, false, ◌||◌}
use mathlib.Core.Option.{Option, none, some}
use lib.ListN.{length, length-append}
use lib.Dec.{eqb}
use borrow.Author.Tests.{eq-eqb, eqb-true}
use Rattle.std.proofs.lemmas.Bool.{or_parts, or_right}
use Rattle.pack.proofs.StepLaws.{at_most, from_one}
use Rattle.definitions.specs.Table.{pick, word_of, entry_of, table}
use Rattle.definitions.specs.Table as table
use Rattle.definitions.specs.Form.{among, words_all, FineAll, count, items, words_by, Fine}
use Rattle.definitions.specs.Records.{Hop, Derivation, Relation, Edition, undated, Pack}
use Rattle.definitions.specs.Pack.{first_kind, above, new_name, next_used, relation, rule, defaulted_name, defaulted, relations, rules, blocks, records, inner, layout, total, words, WellFormed}
use Rattle.definitions.specs.Chain.{Link, end, next, mapped}
use Rattle.definitions.specs.Kinds.{Which, list9, list21, KindsFound, from, inherits, derived, declares, find}
use Rattle.definitions.specs.Places.{relation_words, start_of, first_relation}
use Rattle.pack.proofs.PackLaws.{words-length}
use Rattle.chains.proofs.RelationForm.{RelationsFine, relations_words, Kept, kept}

-- ---- the words before the relations

defaulted-length : (n : ℕ) (ds : List ℕ) (low : ℕ) → length (words_all above (λ low v. words_by (defaulted_name n low) v) low ds) ≡ length ds
unfolding defaulted_name words_by
defaulted-length n [] low = refl
defaulted-length n (d ∷ ds) low = ap suc (defaulted-length n ds (above low d))

-- ---- a pack's parts

pub first_kind_lem : (e : Edition) → first_kind e ≡ 1
first_kind_lem undated = refl

abbrev pub opening : Pack → List ℕ
opening p = word_of 1 (total p) ∷ word_of 2 p.names ∷ word_of 3 (length p.defaulted) ∷ words_all above (λ low v. words_by (defaulted_name p.names low) v) 0 p.defaulted

abbrev pub relations_part : Pack → List ℕ
relations_part p = words_all next_used (λ used r. words_by (relation p.names (λ v. among v used)) r) [] p.relations

-- the words of a pack: the opening, the count of relations, the relations, the count of rules, and more
pub record Split (p : Pack) : Type 0 where
  pub more : List ℕ
  pub same : words p ≡ opening p ++ (word_of 5 (length p.relations) ∷ (relations_part p ++ (word_of 22 (length p.rules) ∷ more)))

pub split : (p : Pack) → Split p
unfolding words layout inner records defaulted relations rules words_by count items
split p =
    record {
      more = words_all {S = Unit {0}} (λ s a. s) (λ s a. words_by (rule p.names) a) tt p.rules ++ words_by (blocks p.names) p.blocks;
      same = rw (first_kind_lem p.edition) refl;
    }

-- what is known of a checked pack's parts
pub record Parts (p : Pack) : Type 0 where
  pub names : p.names < 16777216
  pub least : 1 ≤ p.names
  pub most : p.names ≤ 4096
  pub defaulted-count : length p.defaulted < 16777216
  pub defaulted-fine : FineAll above (λ low v. Fine (defaulted_name p.names low) v) 0 p.defaulted
  pub few-relations : length p.relations ≤ 512
  pub relations-fine : RelationsFine p.names [] p.relations
  pub rule-count : length p.rules < 16777216

pub parts : (p : Pack) → WellFormed p → Parts p
unfolding inner records defaulted relations rules Fine count items entry_of table
parts p w =
    let f = w.parts in
    record {
      names = f.0.0;
      least = (from_one 0 2 4096 refl p.names f.0.1).0;
      most = (from_one 0 2 4096 refl p.names f.0.1).1;
      defaulted-count = f.1.0.0.0;
      defaulted-fine = f.1.0.2;
      few-relations = at_most p.names 5 512 refl (length p.relations) f.1.1.0.0.1;
      relations-fine = f.1.1.0.2;
      rule-count = f.1.1.1.0.0.0;
    }

pub opening_length : (p : Pack) → length (opening p) ≡ 3 + length p.defaulted
opening_length p = let e = defaulted-length p.names p.defaulted 0 in omega arith

-- the relations end before the pack does
pub relations-room : (p : Pack) → WellFormed p → first_relation p + length (relations_part p) < 8192
relations-room p w =
    let s = split p in
    let rest : List ℕ = word_of 22 (length p.rules) ∷ s.more in
    let five : List ℕ = word_of 5 (length p.relations) ∷ (relations_part p ++ rest) in
    let l : length (words p) ≡ length (opening p) + (1 + (length (relations_part p) + (1 + length s.more))) =
    ap length s.same ∙ length-append (opening p) five ∙ ap (λ (m : ℕ). length (opening p) + m) (let e = length-append (relations_part p) rest in omega arith) in
    omega (arith, l, opening_length p, words-length p, w.most)

-- ---- places

-- what holds of each way in which a declaration goes holds of the declaration; a list that settles it is not empty
module _ (P : Link KindsFound → Type 0) (n : ℕ) (nowhere : P (end none)) where
  pub each_way_listed : (ks : List ℕ) (o : Option Derivation) → (0 < length ks → P (from n list9)) → ((d : Derivation) → o ≡ some d → 0 < length d.slot_entities → P (from n list21))
      → ((d : Derivation) → o ≡ some d → eqb d.source table.none ≡ false → P (next d.source)) → P (declares n ks o)
  each_way_listed [] none nine twenty_one leads = nowhere
  each_way_listed (k ∷ ks) none nine twenty_one leads = nine (omega arith)
  each_way_listed ks (some d) nine twenty_one leads = go d.slot_entities (twenty_one d refl) ks nine
    where
      sourced : (c : Bool) → eqb d.source table.none ≡ c → P (pick c (end none) (next d.source))
      sourced true e = nowhere
      sourced false e = leads d refl e

      pathed : (p : Option (List Hop)) → P (inherits d.source p)
      pathed none = sourced (eqb d.source table.none) refl
      pathed (some l) = nowhere

      go : (es : List ℕ) → (0 < length es → P (from n list21)) → (ks : List ℕ) → (0 < length ks → P (from n list9)) → P (derived n d es ks)
      go (e ∷ es) own ks nine = own (omega arith)
      go [] own (k ∷ ks) nine = nine (omega arith)
      go [] own [] nine = pathed d.path

  pub each_way : P (from n list9) → (ks : List ℕ) (o : Option Derivation) → ((d : Derivation) → o ≡ some d → P (from n list21))
      → ((d : Derivation) → o ≡ some d → eqb d.source table.none ≡ false → P (next d.source)) → P (declares n ks o)
  each_way nine ks o twenty_one leads = each_way_listed ks o (λ h. nine) (λ d e h. twenty_one d e) leads

-- a declaration's answers are those of its own relation
pub mapped_alike : {S : Type 0} (g h : KindsFound → S) (n : ℕ) → g none ≡ h none → ((w : Which) → g (some (record { owner = n; which = w })) ≡ h (some (record { owner = n; which = w })))
    → (ks : List ℕ) (o : Option Derivation) → mapped g (declares n ks o) ≡ mapped h (declares n ks o)
mapped_alike g h n a b ks o = each_way (λ s. mapped g s ≡ mapped h s) n (ap end a) (ap end (b list9)) ks o (λ d e. ap end (b list21)) (λ d e f. refl)

pub find-name : (rs : List Relation) (m : ℕ) (r : Relation) → find m rs ≡ some r → m ≡ r.name
unfolding find
find-name [] m r e = let z : ◌≡◌ {A = ℕ} 0 1 = cc in absurd (omega arith)
find-name (s ∷ rs) m r e = go (find-name rs m r) (eqb m s.name) refl e
  where
    go : (find m rs ≡ some r → m ≡ r.name) → (b : Bool) → eqb m s.name ≡ b → pick b (some s) (find m rs) ≡ some r → m ≡ r.name
    go ih true h e = let q : s ≡ r = cc in eqb-true m s.name h ∙ ap (λ (x : Relation). x.name) q
    go ih false h e = ih e

-- a record starts within the relations
pub start_within : (n name at : ℕ) (used : List ℕ) (rs : List Relation) → start_of n name at rs ≤ at + length (relations_words n used rs)
unfolding start_of relation new_name words_by
start_within n name at used [] = omega arith
start_within n name at used (r ∷ rs) = go (eqb name r.name) (start_within n name (at + length (relation_words n r)) (r.name ∷ used) rs)
  where
    more : List ℕ
    more = relations_words n (r.name ∷ used) rs

    both : length (relations_words n used (r ∷ rs)) ≡ length (relation_words n r) + length more
    both = length-append (relation_words n r) more

    go : (b : Bool) → start_of n name (at + length (relation_words n r)) rs ≤ at + length (relation_words n r) + length more
        → pick b at (start_of n name (at + length (relation_words n r)) rs) ≤ at + length (relations_words n used (r ∷ rs))
    go true h = omega arith
    go false h = omega (arith, both)

pub start_least : (n name at : ℕ) (rs : List Relation) → at ≤ start_of n name at rs
unfolding start_of
start_least n name at [] = omega arith
start_least n name at (r ∷ rs) = go (eqb name r.name) (start_least n name (at + length (relation_words n r)) rs)
  where
    go : (b : Bool) → at + length (relation_words n r) ≤ start_of n name (at + length (relation_words n r)) rs → at ≤ pick b at (start_of n name (at + length (relation_words n r)) rs)
    go true h = omega arith
    go false h = omega arith

-- the relation of a name keeps to its form
pub find_kept : (n m : ℕ) (used : List ℕ) (rs : List Relation) (r : Relation) → RelationsFine n used rs → find m rs ≡ some r → (us : List ℕ) × Kept n (λ v. among v us) r
unfolding find
find_kept n m used [] r f e = let z : ◌≡◌ {A = ℕ} 0 1 = cc in absurd (omega arith)
find_kept n m used (s ∷ rs) r f e = go (eqb m s.name) e (find_kept n m (s.name ∷ used) rs r f.1)
  where
    go : (b : Bool) → pick b (some s) (find m rs) ≡ some r → (find m rs ≡ some r → (us : List ℕ) × Kept n (λ v. among v us) r) → (us : List ℕ) × Kept n (λ v. among v us) r
    go true e rest = let q : s ≡ r = cc in (used, rw (← q) (kept n (λ v. among v used) s f.0))
    go false e rest = rest e

-- each relation of a list is the one that is found by its name
abbrev pub EachFound : List Relation → List Relation → Type 0
EachFound all [] = Unit {0}
EachFound all (r ∷ rs) = (find r.name all ≡ some r) × EachFound all rs

each-found : (n : ℕ) (all : List Relation) (used : List ℕ) (rs : List Relation) → RelationsFine n used rs → ((m : ℕ) → among m used ≡ false → find m all ≡ find m rs) → EachFound all rs
unfolding find
each-found n all used [] f h = tt
each-found n all used (r ∷ rs) f h = (here, each-found n all (r.name ∷ used) rs f.1 later)
  where
    here : find r.name all ≡ some r
    here = h r.name (kept n (λ v. among v used) r f.0).fresh ∙ rw (eq-eqb r.name r.name refl) refl

    later : (m : ℕ) → (eqb m r.name || among m used) ≡ false → find m all ≡ find m rs
    later m e = let o = or_parts (eqb m r.name) (among m used) e in h m o.1 ∙ rw o.0 refl

pub all_found : (p : Pack) → WellFormed p → EachFound p.relations p.relations
all_found p w = each-found p.names p.relations [] p.relations (parts p w).relations-fine (λ m e. refl)

-- a name that is used before a list of relations is not declared in it
pub not_again : (n m : ℕ) (used : List ℕ) (rs : List Relation) → RelationsFine n used rs → among m used ≡ true → find m rs ≡ none
unfolding find
not_again n m used [] f e = refl
not_again n m used (r ∷ rs) f e = go (eqb m r.name) refl (not_again n m (r.name ∷ used) rs f.1 (or_right (eqb m r.name) _ e))
  where
    go : (b : Bool) → eqb m r.name ≡ b → find m rs ≡ none → pick b (some r) (find m rs) ≡ none
    go true h ih =
        let q : among m used ≡ false = rw (eqb-true m r.name h) (kept n (λ v. among v used) r f.0).fresh in
        let z : ◌≡◌ {A = ℕ} 0 1 = cc in absurd (omega arith)
    go false h ih = ih
