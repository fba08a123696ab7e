-- The parts of All kinds, of words that Check accepts.
use Prim.Native.Nat.{ℕ, zero, suc, ◌+◌, ◌*◌, ◌%◌, ◌<◌, ◌≤◌}
use native.Mathlib.Omega.{arith}
use native.Mathlib.Nat.{mul-le-mul_right}
use native.Mathlib.Numerals.{add-one}
use mathlib.Core.Path.{◌≡◌, refl, ap, sym, ◌∙◌, subst}
use mathlib.Core.List.{List, [], ◌∷◌, ◌++◌}
use mathlib.Core.Bool.{true}
use lib.ListN.{length, get_or, length-map}
use lib.Dec.{eqb}
use borrow.Author.Tests.{eq-eqb, le-leb}
use Rattle.std.proofs.lemmas.Bool.{or_left, or_right}
use Rattle.definitions.specs.Table.{word_of}
use Rattle.definitions.specs.Form.{among}
use Rattle.definitions.specs.Records.{Relation, Pack}
use Rattle.definitions.specs.Pack.{WellFormed, yes, read, words}
use Rattle.pack.proofs.PackLaws.{words-read, words-length}
use Rattle.definitions.specs.Kinds.{declared, all_kinds, own_answer}
use Rattle.definitions.specs.Places.{place_of}
use Rattle.chains.specs.DirectoryWord.{declarations_in, names_in}
use Rattle.chains.specs.Settle.{Leading, Marked, OnPath, Settleable, SettledAll, Placeable}
use Rattle.records.specs.declared.directory.Layout.{Layout}
use Rattle.checking.specs.CheckPromises.{names_said}
use Rattle.chains.specs.PackDirectory.{IsPack, Named, IsDirectory, KindsMarked, ClearTable}
use Rattle.chains.proofs.RelationForm.{RelationsFine, kept}
use Rattle.chains.proofs.PackParts.{parts, split, opening, relations_part}
use Rattle.chains.proofs.PlaceBounds.{Indexes, indexes}
use Rattle.chains.proofs.AllKindsLaws.{KindsFound, kinds-found}

-- ---- the number of names

module _ (ws : List ℕ) (p : Pack) (h : read ws ≡ yes p) where
  abbrev tail : List ℕ
  tail = relations_part p ++ (word_of 22 (length p.rules) ∷ (split p).more)

  opened : ws ≡ opening p ++ (word_of 5 (length p.relations) ∷ tail)
  opened = sym (words-read ws p h).same ∙ (split p).same

  names-word : get_or ws 1 0 % 16777216 ≡ p.names
  names-word = ap (λ (l : List ℕ). get_or l 1 0 % 16777216) opened ∙ omega (arith, (parts p (words-read ws p h).fine).names)

-- N as word 1 says it
pub said-names : (ws : List ℕ) (c : IsPack ws) → names_said ws ≡ c.pack.names
unfolding names_said
said-names ws c =
    let n = names-word ws c.pack c.reads in
    rw (n, le-leb c.pack.names 4096 (parts c.pack (words-read ws c.pack c.reads).fine).most) refl

-- ---- the pack of the words

module _ {ws : List ℕ} (c : IsPack ws) where
  abbrev the_pack : Pack
  the_pack = c.pack

  pub its-words : words the_pack ≡ ws
  its-words = (words-read ws the_pack c.reads).same

  pub is-fine : WellFormed the_pack
  is-fine = (words-read ws the_pack c.reads).fine

  pub short-checked : length ws ≤ 8192
  short-checked = let l : length (words the_pack) ≡ length ws = ap length its-words in omega (arith, words-length the_pack, is-fine.most)

-- ---- the kinds

pub names-below : (n : ℕ) → 1 ≤ n → (used : List ℕ) (rs : List Relation) → RelationsFine n used rs → (j : ℕ) → get_or (declared rs) j 0 < n
names-below n m used [] f j = omega arith
names-below n m used (r ∷ rs) f zero = (kept n (λ v. among v used) r f.0).below
names-below n m used (r ∷ rs) f (suc j) = names-below n m (r.name ∷ used) rs f.1 j

-- what walks with nothing settled ask for
pub settleable-clear : {names : ℕ} (table : List ℕ) {marks : List ℕ} (starts : List ℕ) (fuel : ℕ) → ClearTable names marks → ((j : ℕ) → get_or starts j 0 < names) → Leading names table → length starts ≤ 4096 → fuel ≤ 4097
    → Settleable table marks starts 0 fuel
unfolding Marked OnPath Leading
settleable-clear table starts fuel lent names leading h l =
    record {
      names = λ j. omega (arith, names j, lent.long);
      leading = λ n. omega (arith, leading n, lent.long);
      marked = λ n. rw (lent.clear n) (omega arith);
      idle = λ n. rw (lent.clear n) refl;
      room = let m : length starts * fuel ≤ 4096 * fuel = mul-le-mul_right fuel h in omega arith;
    }

pub settleable-pack : (p : Pack) → WellFormed p → (table : List ℕ) → Indexes p table → {marks : List ℕ} → ClearTable p.names marks → Settleable table marks (declared p.relations) 0 (suc (length (declared p.relations)))
settleable-pack p w table says lent =
    let h = parts p w in
    let l : length (declared p.relations) ≡ length p.relations = length-map p.relations (λ (r : Relation). r.name) in
    settleable-clear table (declared p.relations) (suc (length (declared p.relations))) lent (names-below p.names h.least [] p.relations h.relations-fine)
    says.leading (omega (arith, h.few-relations)) (omega (arith, h.few-relations))

pub same-pack : (ws : List ℕ) {p q : Pack} → read ws ≡ yes p → read ws ≡ yes q → p ≡ q
same-pack ws e f = cc

-- the declarations that the directory of a checked pack has
module _ {ws : List ℕ} {l : Layout} {dir : List ℕ} (d : IsDirectory ws l dir) where
  abbrev p : Pack
  p = d.checked.pack

  abbrev rs : List Relation
  rs = p.relations

  abbrev table : List ℕ
  table = declarations_in dir

  abbrev names : List ℕ
  names = names_in dir l.relations

  fine : WellFormed p
  fine = is-fine d.checked

  pub its_index : Indexes p table
  its_index = indexes p fine table (d.says p d.checked.reads)

  its-names : names ≡ declared rs
  its-names = d.noted.named p d.checked.reads

  its-count : l.relations ≡ length rs
  its-count = d.counted p d.checked.reads

  pub its_fuel : l.relations + 1 ≡ suc (length (declared rs))
  its_fuel = add-one l.relations ∙ ap suc (its-count ∙ sym (length-map rs (λ (r : Relation). r.name)))

  pub few-relations : l.relations ≤ 512
  few-relations = omega (arith, its-count, (parts p fine).few-relations)

  its-most : {t : List ℕ} → ClearTable l.names t → ClearTable p.names t
  its-most {t} lent = subst (λ (n : ℕ). ClearTable n t) (d.named p d.checked.reads) lent

  -- as many names stand in the directory
  pub names-many : length names ≡ l.relations
  names-many = ap length its-names ∙ length-map rs (λ (r : Relation). r.name) ∙ sym its-count

  pub few-names : length names ≤ 512
  few-names = omega (arith, names-many, few-relations)

  names-fuel : length names + 1 ≡ suc (length (declared rs))
  names-fuel = ap (λ (k : ℕ). k + 1) names-many ∙ its_fuel

  pub settleable : {marks : List ℕ} → ClearTable l.names marks → Settleable table marks names 0 (length names + 1)
  settleable lent = rw (names-fuel, its-names) (settleable-pack p fine table its_index (its-most lent))

  -- the names of the relations are among N
  pub its-low : (j : ℕ) → get_or names j 0 < l.names
  its-low j = rw its-names (omega (arith, d.named p d.checked.reads, names-below p.names (parts p fine).least [] rs (parts p fine).relations-fine j))

  pub kinds-marked : {marks₀ : List ℕ} → ClearTable l.names marks₀ → {marks : List ℕ} {steps : ℕ} → SettledAll table marks₀ names 0 (length names + 1) marks steps → KindsMarked ws steps names marks
  kinds-marked lent {marks} {steps} s =
      let found : KindsFound p marks steps = kinds-found p table its_index lent.clear marks steps (rw (names-fuel, its-names) at s) in
      let it : (q : Pack) → read ws ≡ yes q → p ≡ q = λ q h. same-pack ws d.checked.reads h in
      record {
        counts = λ q h. found.counts ∙ ap (λ (p : Pack). (all_kinds p.relations).steps) (it q h);
        named = λ q h. its-names ∙ ap (λ (p : Pack). declared p.relations) (it q h);
        marked = λ q h. subst (λ (p : Pack). (n : ℕ) → among n (declared p.relations) ≡ true → get_or marks n 0 ≡ 2 + place_of p (own_answer p.relations n)) (it q h) found.marked;
      }

-- ---- the places of marked names

-- names of a list are among it
among_at : (l : List ℕ) (j : ℕ) → j < length l → among (get_or l j 0) l ≡ true
among_at [] j h = absurd (omega arith)
among_at (n ∷ l) zero h = or_left _ (among n l) (eq-eqb n n refl)
among_at (n ∷ l) (suc j) h = or_right (eqb (get_or l j 0) n) _ (among_at l j (omega arith))

module _ {ws names marks : List ℕ} {steps : ℕ} (c : IsPack ws) (m : KindsMarked ws steps names marks) {most : ℕ} (named : Named ws most) (long : most ≤ length marks) where
  pub placeable : Placeable marks names
  placeable =
      let p : Pack = c.pack in
      rw (m.named p c.reads)
      (record {
        names-below = λ j. omega (arith, names-below p.names (parts p (is-fine c)).least [] p.relations (parts p (is-fine c)).relations-fine j, named p c.reads);
        settled = λ j h. (let e = m.marked p c.reads (get_or (declared p.relations) j 0) (among_at (declared p.relations) j h) in omega arith);
      })
