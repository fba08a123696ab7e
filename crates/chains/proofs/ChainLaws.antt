-- The laws of the chain walk, for any type of answers.
use Prim.Native.Nat.{ℕ, ◌+◌}
use native.Mathlib.Omega.{arith}
use mathlib.Core.Path.{fun_ext, ◌≡◌, refl, sym, ap, ◌∙◌, subst}
use mathlib.Core.Logic.{◌⊎◌, inl, inr}
use mathlib.Core.List.{List, [], ◌++◌}
use mathlib.Core.Bool.{Bool, true, false, ◌||◌, or-false}
use mathlib.Core.Option.{Option, none, some}
use lib.ListN.{length, length-append}
use Rattle.std.proofs.lemmas.Bool.{false_from_ne_true, or_cases, or_left}
use Rattle.definitions.specs.Table.{pick}
use Rattle.definitions.specs.Form.{among}
use Rattle.definitions.specs.Dealt.{InAnyOrder}
use Rattle.definitions.specs.Chain.{Link, end, ChainAnswer, nothing, own, AllWalked, walk_all, Distinct, OnlyDeclaredLead, outside}
use Rattle.chains.proofs.Names.{shuffled_among, apart, both_ways, among-append, distinct_append, same_number}
use Rattle.chains.proofs.Outside.{Outside, outside-is}
use Rattle.chains.proofs.Walks.{answer-end, answer_alike, Entry, Kept, Read, reads, own-answer}
use Rattle.chains.specs.Settle.{SettledOwn}

module _ {R : Type 0} (stuck : R) (along : R → R) (back : along stuck ≡ stuck) (step : ℕ → Link R) (declared : List ℕ) (leads : OnlyDeclaredLead step declared) where
  abbrev own_of : ℕ → R
  own_of = own stuck along step declared

  -- a name's own walk answers what its step says: the end, or what comes back from the next name
  pub own-end : (n : ℕ) (r : R) → step n ≡ end r → own_of n ≡ r
  own-end n r e = answer_alike along step (own-answer stuck along step back declared leads n) (answer-end along step stuck e)

  -- the walk, which computes with fuel, answers what the chain says without, and nothing else
  pub own-means : (n : ℕ) (r : R) → own_of n ≡ r → ChainAnswer along step stuck n r
  own-means n r e = subst (λ (x : R). ChainAnswer along step stuck n x) e (own-answer stuck along step back declared leads n)

  pub own-only : (n : ℕ) (r : R) → ChainAnswer along step stuck n r → own_of n ≡ r
  own-only n r a = answer_alike along step (own-answer stuck along step back declared leads n) a

  abbrev all : List ℕ → AllWalked R
  all starts = walk_all stuck along step declared starts nothing 0

  -- what is settled after all walks, by the names read
  abbrev entry : ℕ → Bool → Option R
  entry n b = pick b (some (own_of n)) none

  read : (starts : List ℕ) → Read stuck along step [] starts (all starts)
  read = reads stuck along step back declared leads

  settled-entry : (starts : List ℕ) (n : ℕ) → (all starts).settled n ≡ entry n (among n (read starts).names)
  settled-entry starts n = go (among n (read starts).names) ((read starts).holds n)
    where
      go : (b : Bool) → Entry stuck along step n b ((all starts).settled n) → (all starts).settled n ≡ entry n b
      go true h = h.1 ∙ ap some (answer_alike along step h.2 (own-answer stuck along step back declared leads n))
      go false h = h

  pub settled-own : (starts : List ℕ) → SettledOwn stuck along step declared starts
  settled-own starts =
      record {
        each = λ s i. settled-entry starts s ∙ ap (entry s) ((read starts).begun s (or_left _ false i));
        whatever = λ n r e. go n r (among n (read starts).names) (sym (settled-entry starts n) ∙ e);
      }
    where
      go : (n : ℕ) (r : R) (b : Bool) → entry n b ≡ some r → r ≡ own_of n
      go n r true e = cc
      go n r false e = let z : ◌≡◌ {A = ℕ} 0 1 = cc in absurd (omega arith)

  -- names that are closed under steps and hold the starts, and no more than those, are as many as the steps
  steps_of : (starts ns : List ℕ) → Distinct ns → Kept step (λ n. among n ns) → ((n : ℕ) → among n starts ≡ true → among n ns ≡ true)
      → ((n : ℕ) → among n ns ≡ true → among n (read starts).names ≡ true) → (all starts).steps ≡ length ns
  steps_of starts ns d k h only =
      (read starts).counts
      ∙ same_number (read starts).names ns (read starts).distinct d
      (λ n. both_ways (among n (read starts).names) (among n ns) ((read starts).least (λ m. among m ns) k (λ m i. h m (sym (or-false (among m starts)) ∙ i)) n) (only n))

  -- "relations + distinct undeclared sources that inheriting relations name": each declared name is read once, and each undeclared one they lead to
  pub steps-sum : Distinct declared → (all declared).steps ≡ length declared + length (outside step declared declared)
  steps-sum d =
      steps_of declared (declared ++ outs) (distinct_append declared outs d o.distinct (λ n i. false_from_ne_true (among n outs) (λ j. apart i (o.led n j).3))) kept
      (λ n i. among-append n declared outs ∙ or_left _ (among n outs) i) (λ n i. found n (or_cases (among n declared) (among n outs) (sym (among-append n declared outs) ∙ i)))
      ∙ length-append declared outs
    where
      outs : List ℕ
      outs = outside step declared declared

      o : Outside step declared declared
      o = outside-is step declared declared

      kept : Kept step (λ n. among n (declared ++ outs))
      kept n m e i = among-append m declared outs ∙ go (among m declared) refl
        where
          go : (b : Bool) → among m declared ≡ b → (b || among m outs) ≡ true
          go true f = refl
          go false f = o.has n m (leads n m e) e f

      found : (n : ℕ) → (among n declared ≡ true) ⊎ (among n outs ≡ true) → among n (read declared).names ≡ true
      found n (inl i) = (read declared).begun n (or_left _ false i)
      found n (inr i) = let l = o.led n i in (read declared).closed l.0 n l.2 ((read declared).begun l.0 (or_left _ false l.1))

-- what two walks have in common
pub record WalksAlike {R : Type 0} (stuck : R) (along : R → R) (step step' : ℕ → Link R) (declared declared' starts starts' : List ℕ) : Type 0 where
  pub settled : (n : ℕ) → (walk_all stuck along step declared starts nothing 0).settled n ≡ (walk_all stuck along step' declared' starts' nothing 0).settled n
  pub steps : (walk_all stuck along step declared starts nothing 0).steps ≡ (walk_all stuck along step' declared' starts' nothing 0).steps
  pub own_walks : (n : ℕ) → own stuck along step declared n ≡ own stuck along step' declared' n

module _ {R : Type 0} (stuck : R) (along : R → R) (back : along stuck ≡ stuck) where
  -- a name's own walk goes by no list: any that holds all names that lead on will do
  pub own_alike : (step : ℕ → Link R) (declared declared' : List ℕ) → OnlyDeclaredLead step declared → OnlyDeclaredLead step declared' → (n : ℕ) → own stuck along step declared n ≡ own stuck along step declared' n
  own_alike step declared declared' leads leads' n =
      answer_alike along step (own-answer stuck along step back declared leads n) (own-answer stuck along step back declared' leads' n)

  -- nor do all walks by the order of the starts
  module _ (step : ℕ → Link R) (declared declared' : List ℕ) (leads : OnlyDeclaredLead step declared) (leads' : OnlyDeclaredLead step declared') (starts starts' : List ℕ) (same : (n : ℕ) → among n starts ≡ among n starts') where
    names_alike : (n : ℕ) → among n (read stuck along back step declared leads starts).names ≡ among n (read stuck along back step declared' leads' starts').names
    names_alike n =
        let r = read stuck along back step declared leads starts in
        let r' = read stuck along back step declared' leads' starts' in
        both_ways (among n r.names) (among n r'.names)
        (r.least (λ m. among m r'.names) r'.closed (λ m i. r'.begun m (ap (λ b. b || false) (sym (same m)) ∙ i)) n)
        (r'.least (λ m. among m r.names) r.closed (λ m i. r.begun m (ap (λ b. b || false) (same m) ∙ i)) n)

    starts_alike : WalksAlike stuck along step step declared declared' starts starts'
    starts_alike =
        let r = read stuck along back step declared leads starts in
        let r' = read stuck along back step declared' leads' starts' in
        record {
          settled = λ n.
              settled-entry stuck along back step declared leads starts n
              ∙ ap (λ b. pick b (some (own stuck along step declared n)) none) (names_alike n)
              ∙ ap (λ a. pick (among n r'.names) (some a) none) (own_alike step declared declared' leads leads' n)
              ∙ sym (settled-entry stuck along back step declared' leads' starts' n);
          steps = r.counts ∙ same_number r.names r'.names r.distinct r'.distinct names_alike ∙ sym r'.counts;
          own_walks = own_alike step declared declared' leads leads';
        }

  -- steps that agree at each name, any lists that hold what leads on, and the same starts
  pub walks_alike : (step step' : ℕ → Link R) → ((n : ℕ) → step n ≡ step' n) → (declared declared' : List ℕ) → OnlyDeclaredLead step declared → OnlyDeclaredLead step' declared'
      → (starts starts' : List ℕ) → ((n : ℕ) → among n starts ≡ among n starts') → WalksAlike stuck along step step' declared declared' starts starts'
  walks_alike step step' alike declared declared' leads leads' starts starts' same =
      let e : step ≡ step' = fun_ext alike in
      subst (λ s. WalksAlike stuck along step s declared declared' starts starts') e
      (starts_alike step declared declared' leads (λ n m f. leads' n m (sym (alike n) ∙ f)) starts starts' same)

  -- the same in any order
  pub walks_shuffled : (step step' : ℕ → Link R) → ((n : ℕ) → step n ≡ step' n) → (declared declared' : List ℕ) → OnlyDeclaredLead step declared → InAnyOrder declared declared'
      → (starts starts' : List ℕ) → InAnyOrder starts starts' → WalksAlike stuck along step step' declared declared' starts starts'
  walks_shuffled step step' alike declared declared' leads p starts starts' q =
      walks_alike step step' alike declared declared' leads (λ n m f. sym (shuffled_among p n) ∙ leads n m (alike n ∙ f)) starts starts' (shuffled_among q)
