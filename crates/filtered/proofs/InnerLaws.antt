-- The walks along direct kinds: the marks that they leave are those of each name's own walk.
use Prim.Native.Nat.{ℕ, zero, suc, ◌+◌, ◌-◌, ◌<◌, ◌≤◌}
use native.Mathlib.Omega.{arith}
use native.Mathlib.Numerals.{add-one}
use mathlib.Core.Path.{◌≡◌, refl, ap, sym, ◌∙◌, subst}
use mathlib.Core.List.{List, ◌++◌}
use mathlib.Core.Bool.{Bool, true, false}
use mathlib.Core.Option.{Option, none, some, map}
use lib.ListN.{length, get_or, take, set, replicate, length-replicate, get_or-eq_default, get_or-append}
use lib.Seq.{get_or-set_same, get_or-set_other, get_or-drop, drop_at, length-take-le}
use borrow.Rule.Slice.PartMut.{mid_of, post_of, put_mid, mid_len, same_len_mid}
use lib.Dec.{eqb, ltb}
use borrow.Author.Tests.{eq-eqb, eqb-true, eqb-false, lt-ltb, le-ltb, ltb-true, ltb-false}
use Rattle.std.proofs.lemmas.Bool.{or_left, or_right}
use Rattle.checking.proofs.CheckLaws.{zero_at}
use Rattle.definitions.specs.Table.{pick}
use Rattle.definitions.specs.Table as table
use Rattle.definitions.specs.Form.{among}
use Rattle.definitions.specs.Chain.{end, next, mapped, Settled, nothing, AllWalked, walk_all, own, same}
use Rattle.definitions.specs.Filtered.{inner_at, up_to, inner_step}
use Rattle.definitions.specs.Answers.{table_from}
use Rattle.chains.specs.DirectoryWord.{word_in, declared_by, declared_in, declarations_in}
use Rattle.chains.specs.Settle.{link_at, Leading, settled_in, walks_in, WalkedHere, SettledAll}
use Rattle.chains.specs.PackDirectory.{ClearTable}
use Rattle.filtered.specs.Said.{direct_of, direct_by, inner_entry, plainly, direct_in, InnerAsked, InnerWords, InnerSettleable, InnerSettled, answered, InnerMarked}
use Rattle.chains.proofs.MappedLaws.{AnswersMapped, answers-mapped}
use Rattle.filtered.proofs.FilteredLaws.{inner-own}
use Rattle.chains.proofs.AllKindsLaws.{clear-nothing, settled_mark}
use Rattle.chains.proofs.CheckedLaws.{settleable-clear}
use Rattle.chains.proofs.SettleLaws.{Settling, walk_on}
use Rattle.chains.proofs.FillLaws.{table-length, whole_at, whole-past}

up_to-length : (n : ℕ) → length (up_to n) ≡ n
up_to-length zero = refl
up_to-length (suc n) = ap suc (up_to-length n)

among-counted : (n k i : ℕ) → i < k → among (n + i) (table_from plainly n k) ≡ true
among-counted n zero i h = absurd (omega arith)
among-counted n (suc k) zero h = or_left _ (among (n + 0) (table_from plainly (suc n) k)) (eq-eqb (n + 0) n (omega arith))
among-counted n (suc k) (suc i) h =
    let e : suc n + i ≡ n + suc i = omega arith in
    or_right (eqb (n + suc i) n) _ (ap (λ (m : ℕ). among m (table_from plainly (suc n) k)) (sym e) ∙ among-counted (suc n) k i (omega arith))

-- ---- the words, one after another

pub words-next : {taken words : List ℕ} {j : ℕ} → InnerWords taken j words → j < length words → (v : ℕ) → declared_by v ≡ inner_entry (get_or taken j 0) j → InnerWords taken (j + 1) (set words j v)
words-next {taken} {words} {j} s h v e = record { says = λ m l. go m l (eqb m j) refl }
  where
    go : (m : ℕ) → m < j + 1 → (b : Bool) → eqb m j ≡ b → declared_by (get_or (set words j v) m 0) ≡ inner_entry (get_or taken m 0) m
    go m l true q = let z : m ≡ j = eqb-true m j q in rw z (ap declared_by (get_or-set_same words j v 0 h) ∙ e)
    go m l false q = let o = eqb-false m j q in ap declared_by (get_or-set_other words j m v 0 o) ∙ s.says m (omega arith)

-- the words of n names in a directory say them
pub record InDirectory (taken : List ℕ) (n : ℕ) (dir : List ℕ) : Type 0 where
  pub long : length dir ≡ 512 + n
  pub says : (m : ℕ) → m < n → declared_by (word_in dir m) ≡ inner_entry (get_or taken m 0) m

module _ (dir : List ℕ) (n : ℕ) (long : length dir ≡ 512 + n) where
  abbrev room : ℕ
  room = length (mid_of 512 (length dir - 512) dir)

  pub as-many-words : room ≡ n
  as-many-words = mid_len 512 (length dir) dir (omega arith) ∙ omega arith

  pub words_there : {taken words : List ℕ} → length words ≡ room → InnerWords taken room words → InDirectory taken n (put_mid 512 (length dir - 512) dir words)
  words_there {taken} {words} l w =
      record {
        long = same_len_mid 512 (length dir - 512) dir words l ∙ long;
        says = λ m h. ap declared_by (here m (omega (arith, as-many-words))) ∙ w.says m (omega (arith, as-many-words));
      }
    where
      here : (m : ℕ) → m < length words → word_in (put_mid 512 (length dir - 512) dir words) m ≡ get_or words m 0
      here m h =
          let past : List ℕ = post_of 512 (length dir - 512) dir in
          sym (get_or-drop 512 (put_mid 512 (length dir - 512) dir words) m 0)
          ∙ ap (λ (l : List ℕ). get_or l m 0) (drop_at (take 512 dir) (words ++ past) 512 (length-take-le 512 dir (omega arith)))
          ∙ get_or-append words past 0 m h

-- ---- the walks along them

module _ (taken : List ℕ) (n : ℕ) (asked : InnerAsked taken n) (dir : List ℕ) (words : InDirectory taken n dir) where
  abbrev names : List ℕ
  names = table_from plainly 0 n

  abbrev index : List ℕ
  index = declarations_in dir

  at_name : (m : ℕ) → m < n → get_or index m 0 ≡ inner_entry (get_or taken m 0) m
  unfolding declarations_in declared_in
  at_name m h = whole_at (declared_in dir) 4096 m (omega (arith, asked.most)) ∙ words.says m h

  past-names : (m : ℕ) → n ≤ m → get_or index m 0 ≡ 0
  unfolding declarations_in declared_in
  past-names m h = go (ltb m 4096) refl
    where
      go : (c : Bool) → ltb m 4096 ≡ c → get_or (table_from (declared_in dir) 0 4096) m 0 ≡ 0
      go true e = whole_at (declared_in dir) 4096 m (ltb-true m 4096 e) ∙ ap declared_by (get_or-eq_default dir 0 (omega (arith, words.long)))
      go false e = whole-past (declared_in dir) 4096 m (ltb-false m 4096 e)

  -- what a name's entry says
  record Says (m x : ℕ) : Type 0 where
    step : pick (ltb x 65536) (end x) (next (x - 65536)) ≡ mapped answered (inner_step n (direct_in taken) m)
    small : x < 65536 + n

  ends : (m x : ℕ) (a : Option ℕ) → inner_step n (direct_in taken) m ≡ end a → x ≡ answered a → x < 65536 → Says m x
  ends m x a e q l = record { step = rw (lt-ltb x 65536 l, e, q) refl; small = omega arith }

  entry-says : (m : ℕ) → m < n → Says m (inner_entry (get_or taken m 0) m)
  unfolding inner_entry direct_in direct_by
  entry-says m h = go (eqb (direct_of (get_or taken m 0)) table.none) refl
    where
      d : ℕ
      d = direct_of (get_or taken m 0)

      here : inner_step n (direct_in taken) m ≡ inner_at m (direct_in taken m)
      here = rw (lt-ltb m n h) refl

      leads : eqb d table.none ≡ false → (c : Bool) → eqb d m ≡ c → Says m (pick c (m + 1) (65536 + d))
      leads z true q = ends m (m + 1) (some m) (here ∙ rw (z, q) refl) refl (omega arith)
      leads z false q =
          let b : d < n = asked.leads m h (eqb-false d table.none z) in
          let k : 65536 + d - 65536 ≡ d = omega arith in
          let on : inner_step n (direct_in taken) m ≡ next d = here ∙ rw (z, q) refl in
          record { step = rw (le-ltb (65536 + d) 65536 (omega arith), k, on) refl; small = omega arith }

      go : (c : Bool) → eqb d table.none ≡ c → Says m (pick c (m + 1) (pick (eqb d m) (m + 1) (65536 + d)))
      go true z = ends m (m + 1) (some m) (here ∙ rw z refl) refl (omega arith)
      go false z = leads z (eqb d m) refl

  all-says : (m : ℕ) → Says m (get_or index m 0)
  all-says m = go (ltb m n) refl
    where
      go : (c : Bool) → ltb m n ≡ c → Says m (get_or index m 0)
      go true e = let h = ltb-true m n e in rw (at_name m h) (entry-says m h)
      go false e = let h = ltb-false m n e in rw (past-names m h) (ends m 0 none (rw e refl) refl (omega arith))

  leading : Leading n index
  unfolding Leading
  leading m = (all-says m).small

  steps-are : (m : ℕ) → mapped answered (inner_step n (direct_in taken) m) ≡ link_at index m
  unfolding link_at
  steps-are m = sym (all-says m).step

  name_below : (j : ℕ) → get_or names j 0 < n
  name_below j = go (ltb j n) refl
    where
      go : (c : Bool) → ltb j n ≡ c → get_or names j 0 < n
      go true e = let h = ltb-true j n e in rw (whole_at plainly n j h) h
      go false e = omega (arith, whole-past plainly n j (ltb-false j n e), asked.least)

  lent-unseen : ClearTable n (replicate n 0)
  lent-unseen = record { long = omega (arith, length-replicate {A = ℕ} n 0); short = omega (arith, length-replicate {A = ℕ} n 0, asked.most); clear = zero_at n }

  over_index : AnswersMapped answered none same (inner_step n (direct_in taken)) 0 same (link_at index) (up_to n) names
  over_index = answers-mapped answered none 0 refl same same (λ r. refl) (inner_step n (direct_in taken)) (link_at index) steps-are (up_to n) names

  inner-marked : {marks₀ marks : List ℕ} {steps : ℕ} → ClearTable n marks₀ → SettledAll index marks₀ names 0 (n + 1) marks steps → InnerMarked taken n marks
  inner-marked {marks₀} {marks} lent s e h =
      let f : n + 1 ≡ suc (length (up_to n)) = add-one n ∙ ap suc (sym (up_to-length n)) in
      let over : walks_in index (n + 1) names (settled_in marks₀) 0 ≡ walk_all 0 same (link_at index) (up_to n) names nothing 0 =
      ap (λ (k : ℕ). walks_in index k names (settled_in marks₀) 0) f ∙ ap (λ (t : Settled ℕ). walk_all 0 same (link_at index) (up_to n) names t 0) (clear-nothing marks₀ lent.clear) in
      let o : 0 + e ≡ e = omega arith in
      let i : among e names ≡ true = ap (λ (m : ℕ). among m names) (sym o) ∙ among-counted 0 n e h in
      settled_mark marks e (answered (own none same (inner_step n (direct_in taken)) (up_to n) e))
      (ap (λ (t : Settled ℕ). t e) (s.settles ∙ ap (λ (a : AllWalked ℕ). a.settled) over) ∙ over_index.settled e ∙ ap (map answered) ((inner-own (direct_in taken) n names).each e i))

  -- the same of the code's values
  module _ {marks : List ℕ} (cleared : marks ≡ replicate n 0) where
    as_many : length marks ≡ n
    as_many = ap length cleared ∙ length-replicate {A = ℕ} n 0

    pub walks_asked : InnerSettleable dir marks
    walks_asked =
        record {
          reaches = record { most = omega (arith, as_many, asked.most); long = omega (arith, as_many, words.long) };
          settleable = rw (as_many, cleared)
              (settleable-clear index names (n + 1) lent-unseen name_below leading (omega (arith, table-length plainly 0 n, asked.most)) (omega (arith, asked.most)));
        }

    pub walks_left : {marks' : List ℕ} {steps : ℕ} → InnerSettled dir marks marks' steps → InnerMarked taken n marks'
    walks_left s = inner-marked lent-unseen (rw (as_many, cleared) at s)

-- ---- the walks from all names in order

module _ {dir marks₀ : List ℕ} (asked : InnerSettleable dir marks₀) {marks : List ℕ} {steps j : ℕ} (s : Settling (declarations_in dir) marks₀ (table_from plainly 0 (length marks₀)) 0 (length marks₀ + 1) marks steps j) (h : j < length marks₀) where
  here : get_or (table_from plainly 0 (length marks₀)) j 0 ≡ j
  here = whole_at plainly (length marks₀) j h

  within : j < length (table_from plainly 0 (length marks₀))
  within = omega (arith, table-length plainly 0 (length marks₀))

  pub name-walked : {r : ℕ} {marks' : List ℕ} {steps' : ℕ} → WalkedHere (declarations_in dir) marks steps j (length marks₀ + 1) r marks' steps' → Settling (declarations_in dir) marks₀ (table_from plainly 0 (length marks₀)) 0 (length marks₀ + 1) marks' steps' (j + 1)
  name-walked {r} {marks'} {steps'} w = walk_on _ _ _ _ _ asked.settleable s within (subst (λ (n : ℕ). WalkedHere (declarations_in dir) marks steps n (length marks₀ + 1) r marks' steps') (sym here) w)
