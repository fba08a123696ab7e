-- In a checked pack every place and every name that a declaration leads to is small: one number tells them apart.
use Prim.Native.Nat.{ℕ, ◌+◌, ◌-◌, ◌*◌, ◌<◌, ◌≤◌}
use native.Mathlib.Omega.{arith}
use mathlib.Core.Path.{◌≡◌, refl, ap, sym, ◌∙◌, subst}
use mathlib.Core.List.{List, [], ◌∷◌}
use mathlib.Core.Bool.{Bool, true, false, ◌||◌}
use mathlib.Core.Option.{Option, none, some}
use lib.ListN.{length, get_or}
use lib.Dec.{eqb}
use borrow.Author.Tests.{ltb-true, lt-ltb, le-ltb}
use Rattle.pack.proofs.StepLaws.{at_most}
use Rattle.records.proofs.DirectoryLaws.{few-hops}
use Rattle.definitions.specs.Table.{pick, entry_of, table}
use Rattle.definitions.specs.Table as table
use Rattle.definitions.specs.Form.{among, allowed_here, count, items, Fine}
use Rattle.definitions.specs.Records.{Derivation, Relation, Pack}
use Rattle.definitions.specs.Pack.{WellFormed, name_list, chain, derivation, optional_derivation, relation_tail, relation}
use Rattle.definitions.specs.Chain.{Link, end, next, mapped}
use Rattle.definitions.specs.Kinds.{Which, list9, list21, KindsFound, from, find, read_at, kind_step}
use Rattle.definitions.specs.Places.{first_relation, hops, count_place, place_of}
use Rattle.chains.specs.Declaration.{coded_link}
use Rattle.chains.specs.Settle.{link_at, Leading}
use Rattle.chains.proofs.Names.{apart}
use Rattle.chains.proofs.RelationForm.{RelationsFine}
use Rattle.chains.proofs.PackParts.{parts, find-name, relations-room, each_way, start_within}

-- ---- what the table allows

or_not : (a b : Bool) → (a || b) ≡ true → b ≡ false → a ≡ true
or_not true b e f = refl
or_not false b e f = apart e f

source-below : (n v : ℕ) → allowed_here n 12 v ≡ true → eqb v table.none ≡ false → v < n
unfolding allowed_here entry_of table
source-below n v e f = ltb-true v n (or_not _ _ e f)

-- ---- one relation

pub record Small (n : ℕ) (r : Relation) : Type 0 where
  pub place : (w : Which) → count_place w r ≤ 43
  pub leads : (d : Derivation) → r.derivation ≡ some d → eqb d.source table.none ≡ false → d.source < n
  pub few : length r.slot_kinds ≤ 8
  pub short : (d : Derivation) → r.derivation ≡ some d → hops d.path ≤ 8

place-small : (r : Relation) → length r.slot_kinds ≤ 8 → ((d : Derivation) → r.derivation ≡ some d → hops d.path ≤ 8) → (w : Which) → count_place w r ≤ 43
place-small r k h list9 = omega arith
place-small r k h list21 = go r.derivation h
  where
    go : (o : Option Derivation) → ((d : Derivation) → o ≡ some d → hops d.path ≤ 8)
        → elim o [ none ↦ 0 | some d ↦ 4 + length r.slot_kinds + 3 + 3 * hops d.path + 4 ] ≤ 43
    go none h = omega arith
    go (some d) h = let s = h d refl in omega arith

-- what a derivation that keeps to its form has
derived-small : (n : ℕ) (d : Derivation) → Fine (derivation n) d → (hops d.path ≤ 8) × (eqb d.source table.none ≡ false → d.source < n)
unfolding derivation chain Fine
derived-small n d f = (few-hops n d.path f.0.1.0, source-below n d.source f.0.0.1)

option-small : (n : ℕ) (o : Option Derivation) → Fine (optional_derivation n) o → (d : Derivation) → o ≡ some d → (hops d.path ≤ 8) × (eqb d.source table.none ≡ false → d.source < n)
unfolding optional_derivation Fine items
option-small n none f d e = let z : ◌≡◌ {A = ℕ} 0 1 = cc in absurd (omega arith)
option-small n (some b) f d e = let s : b ≡ d = cc in rw (← s) (derived-small n b f.2.0)

tail_small : (n : ℕ) (r : Relation) → Fine (relation_tail n) (r.origin, (r.arity, (r.slot_kinds, r.derivation))) → Small n r
unfolding relation_tail name_list Fine count entry_of table
tail_small n r f =
    let o = option-small n r.derivation f.1.1.1 in
    let k = at_most n 9 8 refl (length r.slot_kinds) f.1.1.0.0.1 in
    record { place = place-small r k (λ d e. (o d e).0); leads = λ d e. (o d e).1; few = k; short = λ d e. (o d e).0 }

small : (n : ℕ) (used : ℕ → Bool) (r : Relation) → Fine (relation n used) r → Small n r
unfolding relation Fine
small n used r f = tail_small n r f.1

-- ---- the relation of a name

pub found-small : (n name : ℕ) (used : List ℕ) (rs : List Relation) (r : Relation) → RelationsFine n used rs → find name rs ≡ some r → Small n r
unfolding find
found-small n name used [] r f e = let z : ◌≡◌ {A = ℕ} 0 1 = cc in absurd (omega arith)
found-small n name used (s ∷ rs) r f e = go (eqb name s.name) e (found-small n name (s.name ∷ used) rs r f.1)
  where
    go : (b : Bool) → pick b (some s) (find name rs) ≡ some r → (find name rs ≡ some r → Small n r) → Small n r
    go true e rest = let q : s ≡ r = cc in rw (← q) (small n (λ v. among v used) s f.0)
    go false e rest = rest e

-- ---- every step

abbrev Decodes : ℕ → Link ℕ → Type 0
Decodes names (end place) = place < 65536
Decodes names (next name) = name < names

step_small : (p : Pack) → WellFormed p → (m : ℕ) → Decodes p.names (mapped (place_of p) (kind_step p.relations m))
unfolding kind_step place_of
step_small p w m = go (find m p.relations) refl
  where
    go : (o : Option Relation) → find m p.relations ≡ o → Decodes p.names (mapped (place_of p) (read_at o))
    go none e = omega arith
    go (some r) e =
        let h = parts p w in
        let q : m ≡ r.name = find-name p.relations m r e in
        let f : find r.name p.relations ≡ some r = ap (λ (v : ℕ). find v p.relations) (sym q) ∙ e in
        let s = found-small p.names m [] p.relations r h.relations-fine e in
        let b = start_within p.names r.name (first_relation p) [] p.relations in
        let room = relations-room p w in
        let here : (c : Which) → Decodes p.names (mapped (place_of p) (from r.name c)) = λ c. rw (f) (omega (arith, b, room, s.place c)) in
        each_way (λ s. Decodes p.names (mapped (place_of p) s)) r.name (omega arith) (here list9) r.slot_kinds r.derivation (λ d g. here list21)
        (λ d g z. omega (arith, s.leads d g z))

pub end-small : (p : Pack) → WellFormed p → (m : ℕ) (a : KindsFound) → kind_step p.relations m ≡ end a → place_of p a < 65536
end-small p w m a e = subst (λ (s : Link KindsFound). Decodes p.names (mapped (place_of p) s)) e (step_small p w m)

decoded : (names : ℕ) (table : List ℕ) (n : ℕ) (s : Link ℕ) → get_or table n 0 ≡ coded_link s → Decodes names s → (link_at table n ≡ s) × (get_or table n 0 < 65536 + names)
unfolding link_at
decoded names table n (end x) e h = (rw (e, lt-ltb x 65536 h) refl, omega arith)
decoded names table n (next m) e h =
    let k : 65536 + m - 65536 ≡ m = omega arith in
    (rw (e, le-ltb (65536 + m) 65536 (omega arith), k) refl, omega arith)

-- a table that says at each name what one declaration read there says
pub record Indexes (p : Pack) (table : List ℕ) : Type 0 where
  pub says : (m : ℕ) → mapped (place_of p) (kind_step p.relations m) ≡ link_at table m
  pub leading : Leading p.names table

pub indexes : (p : Pack) → WellFormed p → (t : List ℕ) → ((m : ℕ) → get_or t m 0 ≡ coded_link (mapped (place_of p) (kind_step p.relations m))) → Indexes p t
unfolding Leading
indexes p w t e =
    let d : (m : ℕ) → (link_at t m ≡ mapped (place_of p) (kind_step p.relations m)) × (get_or t m 0 < 65536 + p.names) = λ m. decoded p.names t m (mapped (place_of p) (kind_step p.relations m)) (e m) (step_small p w m) in
    record { says = λ m. sym (d m).0; leading = λ m. (d m).1 }
