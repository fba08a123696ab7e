-- Laws of taking kinds: what one relation does, and all relations in record order.
use Prim.Native.Nat.{ℕ, zero, suc, ◌+◌, ◌-◌, ◌*◌, ◌%◌, ◌<◌, ◌≤◌, min}
use native.Mathlib.Omega.{arith}
use native.Mathlib.Numerals.{add-one}
use mathlib.Core.Path.{◌≡◌, refl, ap, sym, ◌∙◌}
use mathlib.Core.List.{List, [], map}
use mathlib.Core.Bool.{Bool, true, false}
use mathlib.Core.Option as math
use mathlib.Core.Option.{none, some}
use Rattle.std.specs.Prelude.{Option, Some, None, IfSome}
use lib.ListN.{length, get_or, take, drop, set, length-take, length-drop, length-set, get_or-eq_default, drop_of_length-le}
use lib.Seq.{take_all, get_or-set_same, get_or-set_other, drop-cons}
use lib.Dec.{eqb, ltb}
use borrow.Author.Tests.{eq-eqb, ne_eqb, eqb-true, eqb-false, lt-ltb, le-ltb, ltb-true, ltb-false}
use Rattle.std.proofs.lemmas.List.{take_min}
use Rattle.std.proofs.lemmas.Bool.Decides.{nat_tests}
use Rattle.definitions.specs.Table.{pick, value_of}
use Rattle.definitions.specs.Filtered.{kind_at}
use Rattle.definitions.specs.Places.{names_at}
use Rattle.chains.specs.Record.{value_at, kind_count}
use Rattle.filtered.specs.Acts.{act_list, part_for, act_for, acts_from}
use Rattle.filtered.specs.Taking.{ListFound, KindFound, names_or, option_in, names_or, named_after, taken_after, take_at, taken_by, kind_marked, taken_in, RelationRead, RelationsRead}

-- ---- the list at a place

module _ (ws : List ℕ) (place : ℕ) where
  pub no_list : place ≡ 0 → ListFound ws place []
  unfolding names_at
  no_list z = record { names = rw (eq-eqb place 0 z) refl; few = omega arith; within = omega arith }

  abbrev behind : List ℕ
  behind = take (length ws - (place + 1)) (drop (place + 1) ws)

  all_behind : behind ≡ drop (suc place) ws
  all_behind = take_all (length ws - (place + 1)) (drop (place + 1) ws) (omega (arith, length-drop (place + 1) ws)) ∙ ap (λ (n : ℕ). drop n ws) (add-one place)

  pub names-there : (place ≡ 0 → ⊥) → names_or (names_at ws place) ≡ map value_of (take (value_of (get_or ws place 0)) (drop (suc place) ws))
  unfolding names_at
  names-there z = rw (ne_eqb place 0 z) refl

  pub its_list : (place ≡ 0 → ⊥) → (n : ℕ) → n ≡ min (value_of (get_or ws place 0)) (length behind) → ListFound ws place (take n behind)
  its_list z n e =
      let many : length (take n behind) ≡ min n (length behind) = length-take n behind in
      record {
        names = sym (names-there z ∙ rw (e, all_behind, take_min (value_of (get_or ws place 0)) (drop (suc place) ws)) refl);
        few = omega arith;
        within = omega (arith, ap length all_behind, length-drop (suc place) ws);
      }

  pub past_the_words : (place ≡ 0 → ⊥) → length ws ≤ place → ListFound ws place []
  past_the_words z h =
      let far : length ws ≤ suc place = omega arith in
      record { names = sym (names-there z ∙ rw (drop_of_length-le ws far) (none_of (value_of (get_or ws place 0)))); few = omega arith; within = omega arith }
    where
      none_of : (n : ℕ) → map value_of (take n []) ≡ []
      none_of zero = refl
      none_of (suc n) = refl

-- ---- one entity

-- what is known of one fits into a word
pub taken_fits : (x : ℕ) (kind : Option ℕ) → x < 4294967296 → IfSome kind (λ k. k < 16777216) → taken_after (named_after x) (option_in kind) < 4294967296
unfolding taken_after named_after
taken_fits x None h s = grind (arith, nat_tests)
taken_fits x (Some k) h s = grind (arith, nat_tests)

pub no_entity : (t : List ℕ) (e : ℕ) (kind : math.Option ℕ) → length t ≤ e → t ≡ take_at t e kind
unfolding take_at
no_entity t e kind h = sym (rw (le-ltb e (length t) h) refl)

pub an_entity : (t : List ℕ) (e : ℕ) (kind : math.Option ℕ) → e < length t → {x y : ℕ} → x ≡ named_after (get_or t e 0) → y ≡ taken_after x kind → set t e y ≡ take_at t e kind
unfolding take_at
an_entity t e kind h n k = sym (rw (lt-ltb e (length t) h, ← n, ← k) refl)

-- ---- one relation

module _ (ws starts slots acts t : List ℕ) (name : ℕ) {at x : ℕ} (s : at ≡ get_or slots name 0) (m : x ≡ get_or acts name 0 % 131072) where
  part_none : at ≡ 0 → part_for ws (get_or starts name 0) (get_or slots name 0) ≡ pick (eqb (kind_count ws (get_or starts name 0)) 2) 1 0
  unfolding part_for
  part_none z = rw (← s, eq-eqb at 0 z) refl

  part_some : (at ≡ 0 → ⊥) → part_for ws (get_or starts name 0) (get_or slots name 0) ≡ at
  unfolding part_for
  part_some z = rw (← s, ne_eqb at 0 z) refl

  -- without a derivation nothing is taken
  pub plain-read : at ≡ 0 → {start k y : ℕ} → start ≡ get_or starts name 0 → k ≡ pick (eqb (kind_count ws start) 2) 1 0 → y ≡ x + 131072 * k → RelationRead ws starts slots acts t name (set acts name y) t
  unfolding act_for taken_by
  plain-read z {start} {k} {y} b e q =
      let is : y ≡ act_for ws starts slots name (get_or acts name 0) = q ∙ rw (part_none z, ← b, ← e, ← m) refl in
      record { tells = ap (set acts name) is; takes = sym (rw (← s, eq-eqb at 0 z) refl) }

  pub derived-read : (at ≡ 0 → ⊥) → {list slot entity y : ℕ} {kind : Option ℕ} {t' : List ℕ} → list ≡ x % 131072 - 2 → slot ≡ value_at ws at → KindFound ws list slot kind
      → entity ≡ value_at ws (at + 2) → t' ≡ take_at t entity (option_in kind) → y ≡ x + 131072 * at → RelationRead ws starts slots acts t name (set acts name y) t'
  unfolding act_for taken_by kind_marked
  derived-read z {list} {slot} {entity} {y} q o k e h w =
      let l : list ≡ act_list (get_or acts name 0) = omega arith in
      let is : y ≡ act_for ws starts slots name (get_or acts name 0) = w ∙ rw (part_some z, ← m) refl in
      record {
        tells = ap (set acts name) is;
        takes = h ∙ ap (take_at t entity) (k.is ∙ ap (λ (n : ℕ). kind_at (names_at ws n) slot) l) ∙ sym (rw (← s, ne_eqb at 0 z, ← e, ← o) refl);
      }

-- ---- all relations

module _ (ws starts slots names acts₀ t₀ : List ℕ) where
  -- what is left to read gives what the whole gives, and the lists are those of before
  pub record Reading (acts t : List ℕ) (j : ℕ) : Type 0 where
    pub acting : acts_from ws starts slots names acts₀ ≡ acts_from ws starts slots (drop j names) acts
    pub taking : taken_in ws slots acts₀ names t₀ ≡ taken_in ws slots acts₀ (drop j names) t
    pub lists : (m : ℕ) → act_list (get_or acts m 0) ≡ act_list (get_or acts₀ m 0)
    pub long : length acts ≡ length acts₀

  module _ {acts t : List ℕ} {j : ℕ} (s : Reading acts t j) where
    pub read_all : length names ≤ j → RelationsRead ws starts slots names acts₀ t₀ acts t
    unfolding taken_in acts_from
    read_all h =
        record {
          tells = sym (s.acting ∙ rw (drop_of_length-le names h) refl);
          takes = sym (s.taking ∙ rw (drop_of_length-le names h) refl);
        }

    taken-same : (name at : ℕ) → taken_by ws acts t name at ≡ taken_by ws acts₀ t name at
    unfolding taken_by kind_marked
    taken-same name at = rw (s.lists name) refl

    list_kept : (name y : ℕ) → act_list y ≡ act_list (get_or acts name 0) → (m : ℕ) → act_list (get_or (set acts name y) m 0) ≡ act_list (get_or acts m 0)
    list_kept name y e m = go (eqb m name) refl
      where
        go : (b : Bool) → eqb m name ≡ b → act_list (get_or (set acts name y) m 0) ≡ act_list (get_or acts m 0)
        go false q = ap act_list (get_or-set_other acts name m y 0 (eqb-false m name q))
        go true q = rw (eqb-true m name q) (within (ltb name (length acts)) refl)
          where
            within : (b : Bool) → ltb name (length acts) ≡ b → act_list (get_or (set acts name y) name 0) ≡ act_list (get_or acts name 0)
            within true l = ap act_list (get_or-set_same acts name y 0 (ltb-true name (length acts) l)) ∙ e
            within false l =
                let past : length acts ≤ name = ltb-false name (length acts) l in
                ap act_list (get_or-eq_default (set acts name y) 0 (omega (arith, length-set acts name y)) ∙ sym (get_or-eq_default acts 0 past))

    pub read_next : j < length names → {acts' t' : List ℕ} → RelationRead ws starts slots acts t (get_or names j 0) acts' t' → Reading acts' t' (j + 1)
    unfolding taken_in acts_from act_for
    read_next h r =
        let n : ℕ = get_or names j 0 in
        let y : ℕ = act_for ws starts slots n (get_or acts n 0) in
        let same : act_list y ≡ act_list (get_or acts n 0) = omega arith in
        record {
          acting = s.acting ∙ rw (drop-cons names j 0 h, add-one j, r.tells) refl;
          taking = s.taking ∙ rw (drop-cons names j 0 h, add-one j, r.takes, taken-same n (get_or slots n 0)) refl;
          lists = λ m. ap (λ (l : List ℕ). act_list (get_or l m 0)) r.tells ∙ list_kept n y same m ∙ s.lists m;
          long = ap length r.tells ∙ length-set acts n y ∙ s.long;
        }
