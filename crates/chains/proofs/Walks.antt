-- What one walk gives, and all walks: the answer that each name has, and the names that they read.
use Prim.Native.Nat.{ℕ, zero, suc, ◌+◌, ◌≤◌, ◌<◌}
use native.Mathlib.Omega.{arith}
use mathlib.Core.Path.{◌≡◌, refl, sym, ap, ◌∙◌, subst}
use mathlib.Core.Logic.{◌⊎◌, inl, inr}
use mathlib.Core.List.{List, [], ◌∷◌, ◌++◌}
use mathlib.Core.Bool.{Bool, true, false, ◌||◌, or_assoc}
use mathlib.Core.Option.{Option, none, some}
use lib.ListN.{length, length-append}
use lib.Dec.{eqb}
use borrow.Author.Tests.{eqb-true, eqb-false, eq-eqb, ne_eqb}
use Rattle.std.proofs.lemmas.Bool.{false_from_ne_true, or_cases, or_left, or_parts, or_right}
use Rattle.definitions.specs.Table.{pick}
use Rattle.definitions.specs.Form.{among}
use Rattle.definitions.specs.Chain.{Link, end, next, Ends, here, further, ChainAnswer, ended, endless, Settled, nothing, put, Walked, walk, own, AllWalked, walk_all, Distinct, OnlyDeclaredLead, walks_from}
use Rattle.chains.proofs.Names.{apart, or_swap, among-append}

-- how many names of a list are not on a path: with more fuel than that a walk goes on
unseen : List ℕ → List ℕ → ℕ
unseen p [] = 0
unseen p (n ∷ ns) = pick (among n p) (unseen p ns) (suc (unseen p ns))

unseen-all : (ns : List ℕ) → unseen [] ns ≡ length ns
unfolding unseen
unseen-all [] = refl
unseen-all (n ∷ ns) = ap suc (unseen-all ns)

unseen_falls : (n : ℕ) (p ns : List ℕ) → (unseen (n ∷ p) ns ≤ unseen p ns) × (among n p ≡ false → among n ns ≡ true → unseen (n ∷ p) ns < unseen p ns)
unfolding unseen
unseen_falls n p [] = (omega arith, λ o i. apart i refl)
unseen_falls n p (x ∷ ns) = go (eqb x n) (among x p) refl refl (unseen_falls n p ns)
  where
    go : (a b : Bool) → eqb x n ≡ a → among x p ≡ b → (unseen (n ∷ p) ns ≤ unseen p ns) × (among n p ≡ false → among n ns ≡ true → unseen (n ∷ p) ns < unseen p ns)
        → let now : ℕ = pick (a || b) (unseen (n ∷ p) ns) (suc (unseen (n ∷ p) ns)) in let before : ℕ = pick b (unseen p ns) (suc (unseen p ns)) in
        (now ≤ before) × (among n p ≡ false → (eqb n x || among n ns) ≡ true → now < before)
    go true true e f h = (h.0, λ o i. apart (subst (λ y. among y p ≡ true) (eqb-true x n e) f) o)
    go true false e f h = let l = h.0 in (omega arith, λ o i. omega arith)
    go false true e f h = (h.0, λ o i. h.1 o (subst (λ b. (b || among n ns) ≡ true) (ne_eqb n x (λ q. eqb-false x n e (sym q))) i))
    go false false e f h =
        let l = h.0 in
        (omega arith, λ o i. (let s = h.1 o (subst (λ b. (b || among n ns) ≡ true) (ne_eqb n x (λ q. eqb-false x n e (sym q))) i) in omega arith))

-- the answers that names have
module _ {R : Type 0} (along : R → R) (step : ℕ → Link R) where
  ends_alike : {n : ℕ} {r s : R} → Ends along step n r → Ends along step n s → r ≡ s
  ends_alike (here e) (here f) = cc
  ends_alike (here e) (further f d q) = cc
  ends_alike (further e d q) (here f) = cc
  ends_alike (further {m = m} e d q) (further {m = k} {r = u} f d' q') =
      let i : k ≡ m = cc in q ∙ ap along (ends_alike d (subst (λ x. Ends along step x u) i d')) ∙ sym q'

  -- a path behind a name, the last first: each leads on to the one before it
  abbrev Behind : List ℕ → ℕ → Type 0
  Behind [] n = Unit {0}
  Behind (k ∷ p) n = (step k ≡ next n) × Behind p k

  -- what stands on the path leads on to what stands on it, or to the name before it
  follows : (p : List ℕ) (n x : ℕ) → Behind p n → among x p ≡ true → (m : ℕ) × (step x ≡ next m) × (among m (n ∷ p) ≡ true)
  follows [] n x b i = apart i refl
  follows (k ∷ p) n x b i = go (eqb x k) refl i (λ j. follows p k x b.1 j)
    where
      go : (t : Bool) → eqb x k ≡ t → (t || among x p) ≡ true → (among x p ≡ true → (m : ℕ) × (step x ≡ next m) × (among m (k ∷ p) ≡ true))
          → (m : ℕ) × (step x ≡ next m) × (among m (n ∷ k ∷ p) ≡ true)
      go true e j rest = (n, subst (λ y. step y ≡ next n) (sym (eqb-true x k e)) b.0, or_left _ (among n (k ∷ p)) (eq-eqb n n refl))
      go false e j rest = let f = rest j in (f.0, f.1, or_right (eqb f.0 n) _ f.2)

  -- a name on its own path never ends
  ring-endless : {n : ℕ} {r : R} → Ends along step n r → (p : List ℕ) → Behind p n → among n p ≡ true → ⊥
  ring-endless {n} (here e) p b i = let f = follows p n n b i in let q = f.1 in let z : ◌≡◌ {A = ℕ} 0 1 = cc in omega arith
  ring-endless {n} (further {m = m} e d q) p b i =
      let f = follows p n n b i in
      let g = f.1 in
      let h : m ≡ f.0 = cc in
      ring-endless d (n ∷ p) (e, b) (subst (λ x. among x (n ∷ p) ≡ true) (sym h) f.2)

  pub answer_alike : {stuck : R} {n : ℕ} {r s : R} → ChainAnswer along step stuck n r → ChainAnswer along step stuck n s → r ≡ s
  answer_alike (ended d) (ended d') = ends_alike d d'
  answer_alike {r = r} (ended d) (endless h e) = absurd (h r d)
  answer_alike {s = s} (endless h e) (ended d) = absurd (h s d)
  answer_alike (endless h e) (endless h' e') = e ∙ sym e'

  pub answer-end : (stuck : R) {n : ℕ} {r : R} → step n ≡ end r → ChainAnswer along step stuck n r
  answer-end stuck e = ended (here e)

  -- it comes back over a link
  pub answer_back : (stuck : R) → along stuck ≡ stuck → {n m : ℕ} {r : R} → step n ≡ next m → ChainAnswer along step stuck m r → ChainAnswer along step stuck n (along r)
  answer_back stuck a e (ended d) = ended (further e d refl)
  answer_back stuck a {n} {m} e (endless h q) = endless none-ends (ap along q ∙ a)
    where
      none-ends : (s : R) → Ends along step n s → ⊥
      none-ends s (here f) = let z : ◌≡◌ {A = ℕ} 0 1 = cc in omega arith
      none-ends s (further {m = k} {r = u} f d _) = let i : k ≡ m = cc in h u (subst (λ x. Ends along step x u) i d)

-- a test that goes along with every step
abbrev pub Kept : {R : Type 0} → (ℕ → Link R) → (ℕ → Bool) → Type 0
Kept step P = (n m : ℕ) → step n ≡ next m → P n ≡ true → P m ≡ true

module _ {R : Type 0} (stuck : R) (along : R → R) (step : ℕ → Link R) where
  -- what is settled for a name: its answer where it was read, else nothing
  abbrev pub Entry : ℕ → Bool → Option R → Type 0
  Entry n true o = (r : R) × (o ≡ some r) × ChainAnswer along step stuck n r
  Entry n false o = o ≡ none

  -- the names of a list are settled with their answers, and no others
  abbrev pub Holds : List ℕ → Settled R → Type 0
  Holds ns t = (n : ℕ) → Entry n (among n ns) (t n)

  holds-put : (n : ℕ) (r : R) (ns : List ℕ) (t : Settled R) → ChainAnswer along step stuck n r → Holds ns t → Holds (n ∷ ns) (put n r t)
  holds-put n r ns t a h m = go (eqb m n) refl
    where
      go : (b : Bool) → eqb m n ≡ b → Entry m (b || among m ns) (pick b (some r) (t m))
      go true e = (r, refl, subst (λ x. ChainAnswer along step stuck x r) (sym (eqb-true m n e)) a)
      go false e = h m

  -- the names `read` by a walk from n, with the path p behind it and the names ns settled before it
  record Trail (ns p : List ℕ) (n : ℕ) (read : List ℕ) : Type 0 where
    distinct : Distinct (read ++ ns)
    off : (x : ℕ) → among x read ≡ true → among x p ≡ false
    closed : (x m : ℕ) → among x read ≡ true → step x ≡ next m → (among m read || (among m p || among m ns)) ≡ true
    least : (P : ℕ → Bool) → Kept step P → P n ≡ true → (x : ℕ) → among x read ≡ true → P x ≡ true

  no_trail : (ns p : List ℕ) (n : ℕ) → Distinct ns → Trail ns p n []
  no_trail ns p n d = record { distinct = d; off = λ x i. apart i refl; closed = λ x m i e. apart i refl; least = λ P k h x i. apart i refl }

  -- one name more at its beginning
  longer : {ns p : List ℕ} {n : ℕ} {read : List ℕ} → among n p ≡ false → among n ns ≡ false
      → ((m : ℕ) → step n ≡ next m → (among m read || (among m (n ∷ p) || among m ns)) ≡ true) → Trail ns (n ∷ p) n read → Trail ns p n (n ∷ read)
  longer {ns} {p} {n} {read} o u leads t =
      record {
        distinct = (among-append n read ns ∙ false_from_ne_true _ (λ i. fresh (or_cases (among n read) (among n ns) i)), t.distinct);
        off = λ x i. at_off x (eqb x n) refl i;
        closed = λ x m i e. at_closed x m (eqb x n) refl i e;
        least = λ P k h x i. at_least P k h x (eqb x n) refl i;
      }
    where
      fresh : (among n read ≡ true) ⊎ (among n ns ≡ true) → ⊥
      fresh (inl i) = apart (or_left _ (among n p) (eq-eqb n n refl)) (t.off n i)
      fresh (inr i) = apart i u

      at_off : (x : ℕ) (b : Bool) → eqb x n ≡ b → (b || among x read) ≡ true → among x p ≡ false
      at_off x true e i = subst (λ y. among y p ≡ false) (sym (eqb-true x n e)) o
      at_off x false e i = (or_parts (eqb x n) (among x p) (t.off x i)).1

      moved : (m : ℕ) → (among m read || (among m (n ∷ p) || among m ns)) ≡ true → (among m (n ∷ read) || (among m p || among m ns)) ≡ true
      moved m i = or_assoc (eqb m n) (among m read) (among m p || among m ns) ∙ or_swap (eqb m n) (among m read) (among m p || among m ns)
          ∙ ap (λ b. among m read || b) (sym (or_assoc (eqb m n) (among m p) (among m ns))) ∙ i

      at_closed : (x m : ℕ) (b : Bool) → eqb x n ≡ b → (b || among x read) ≡ true → step x ≡ next m → (among m (n ∷ read) || (among m p || among m ns)) ≡ true
      at_closed x m true e i f = moved m (leads m (subst (λ y. step y ≡ next m) (eqb-true x n e) f))
      at_closed x m false e i f = moved m (t.closed x m i f)

      at_least : (P : ℕ → Bool) → Kept step P → P n ≡ true → (x : ℕ) (b : Bool) → eqb x n ≡ b → (b || among x read) ≡ true → P x ≡ true
      at_least P k h x true e i = subst (λ y. P y ≡ true) (sym (eqb-true x n e)) h
      at_least P k h x false e i = t.least P k h x i

  -- what a walk gives
  record Went (ns p : List ℕ) (n : ℕ) (w : Walked R) : Type 0 where
    read : List ℕ
    trail : Trail ns p n read
    counts : w.steps ≡ length read
    answers : ChainAnswer along step stuck n w.answer
    holds : Holds (read ++ ns) w.settled
    found : (among n read || (among n p || among n ns)) ≡ true

  module _ (back : along stuck ≡ stuck) (declared : List ℕ) (leads : OnlyDeclaredLead step declared) (ns : List ℕ) (once : Distinct ns) (t : Settled R) (held : Holds ns t) where
    went : (fuel : ℕ) (p : List ℕ) (n : ℕ) → unseen p declared < fuel → Behind along step p n → Went ns p n (walk stuck along step fuel t p n)
    unfolding walk
    went zero p n h b = absurd (omega arith)
    went (suc fuel) p n h b =
        at_settled (t n) refl
        (λ m o e. went fuel (n ∷ p) m (let l = (unseen_falls n p declared).1 o (leads n m e) in omega arith) (e, b))
      where
        Goal : Type 0
        Goal = Went ns p n (walk stuck along step (suc fuel) t p n)

        Rest : Type 0
        Rest = (m : ℕ) → among n p ≡ false → step n ≡ next m → Went ns (n ∷ p) m (walk stuck along step fuel t (n ∷ p) m)

        -- nothing is read
        stays : (r : R) → ChainAnswer along step stuck n r → (among n p || among n ns) ≡ true → Went ns p n (record { answer = r; settled = t; steps = 0 })
        stays r a i = record { read = []; trail = no_trail ns p n once; counts = refl; answers = a; holds = held; found = i }

        at_step : t n ≡ none → among n ns ≡ false → among n p ≡ false → (s : Link R) → step n ≡ s → Rest → Goal
        at_step e u o (end r) f rest =
            rw (e, o, f, walk)
            (record {
              read = n ∷ [];
              trail = longer o u (λ m g. (let z : ◌≡◌ {A = ℕ} 0 1 = cc in absurd (omega arith))) (no_trail ns (n ∷ p) n once);
              counts = refl;
              answers = ended (here f);
              holds = holds-put n r ns t (ended (here f)) held;
              found = or_left _ _ (or_left _ false (eq-eqb n n refl));
            })
        at_step e u o (next m) f rest =
            let w = rest m o f in
            let a = answer_back along step stuck back f w.answers in
            rw (e, o, f, walk)
            (record {
              read = n ∷ w.read;
              trail = longer o u (λ k g. (let i : m ≡ k = cc in subst (λ x. (among x w.read || (among x (n ∷ p) || among x ns)) ≡ true) i w.found))
                  (record { distinct = w.trail.distinct; off = w.trail.off; closed = w.trail.closed; least = λ P k h. w.trail.least P k (k n m f h) });
              counts = ap suc w.counts;
              answers = a;
              holds = holds-put n (along (walk stuck along step fuel t (n ∷ p) m).answer) (w.read ++ ns) (walk stuck along step fuel t (n ∷ p) m).settled a w.holds;
              found = or_left _ _ (or_left _ (among n w.read) (eq-eqb n n refl));
            })

        at_path : t n ≡ none → among n ns ≡ false → (o : Bool) → among n p ≡ o → Rest → Goal
        at_path e u true o rest = rw (e, o, walk) (stays stuck (endless (λ s d. ring-endless along step d p b o) refl) (or_left _ (among n ns) o))
        at_path e u false o rest = at_step e u o (step n) refl rest

        -- what is settled was read before
        at_names : (o : Option R) → t n ≡ o → (i : Bool) → among n ns ≡ i → Entry n i (t n) → Rest → Goal
        at_names (some r) e true i h rest =
            let f = h.1 in let g : h.0 ≡ r = cc in rw (e, walk) (stays r (subst (λ s. ChainAnswer along step stuck n s) g h.2) (or_right (among n p) _ i))
        at_names (some r) e false i h rest = let z : ◌≡◌ {A = ℕ} 0 1 = cc in absurd (omega arith)
        at_names none e true i h rest = let f = h.1 in let z : ◌≡◌ {A = ℕ} 0 1 = cc in absurd (omega arith)
        at_names none e false i h rest = at_path e i (among n p) refl rest

        at_settled : (o : Option R) → t n ≡ o → Rest → Goal
        at_settled o e rest = at_names o e (among n ns) refl (held n) rest

  -- What all walks give from some starts on, with the names ns settled before them: the names read are those that the starts lead to.
  pub record Read (ns starts : List ℕ) (a : AllWalked R) : Type 0 where
    pub names : List ℕ
    pub distinct : Distinct names
    pub counts : a.steps ≡ length names
    pub holds : Holds names a.settled
    pub closed : Kept step (λ n. among n names)
    pub begun : (n : ℕ) → (among n starts || among n ns) ≡ true → among n names ≡ true
    pub least : (P : ℕ → Bool) → Kept step P → ((n : ℕ) → (among n starts || among n ns) ≡ true → P n ≡ true) → (n : ℕ) → among n names ≡ true → P n ≡ true

  module _ (back : along stuck ≡ stuck) (declared : List ℕ) (leads : OnlyDeclaredLead step declared) where
    from_start : (n : ℕ) (ns : List ℕ) (t : Settled R) → Distinct ns → Holds ns t → Went ns [] n (walk stuck along step (suc (length declared)) t [] n)
    from_start n ns t once held = went back declared leads ns once t held (suc (length declared)) [] n (omega (arith, unseen-all declared)) tt

    reads_all : (starts : List ℕ) (ns : List ℕ) (t : Settled R) (k : ℕ) → Distinct ns → k ≡ length ns → Holds ns t → Kept step (λ n. among n ns)
        → Read ns starts (walk_all stuck along step declared starts t k)
    unfolding walks_from
    reads_all [] ns t k once count held kept =
        record { names = ns; distinct = once; counts = count; holds = held; closed = kept; begun = λ n i. i; least = λ P c h n i. h n i }
    reads_all (s ∷ starts) ns t k once count held kept =
        let x : Walked R = walk stuck along step (suc (length declared)) t [] s in
        let w = from_start s ns t once held in
        let ms : List ℕ = w.read ++ ns in
        let rest = reads_all starts ms x.settled (k + x.steps) w.trail.distinct (counted x.steps w.read w.counts) w.holds (onward w.read w.trail.closed) in
        record {
          names = rest.names;
          distinct = rest.distinct;
          counts = rest.counts;
          holds = rest.holds;
          closed = rest.closed;
          begun = λ n i. rest.begun n (also n w.read w.found i);
          least = λ P c h n i. rest.least P c (λ m j. only P c h w.read w.trail.least m j) n i;
        }
      where
        counted : (j : ℕ) (read : List ℕ) → j ≡ length read → k + j ≡ length (read ++ ns)
        counted j read e = rw length-append (omega arith)

        onward : (read : List ℕ) → ((n m : ℕ) → among n read ≡ true → step n ≡ next m → (among m read || among m ns) ≡ true) → Kept step (λ n. among n (read ++ ns))
        onward read closed n m e i = among-append m read ns ∙ go (or_cases (among n read) (among n ns) (sym (among-append n read ns) ∙ i))
          where
            go : (among n read ≡ true) ⊎ (among n ns ≡ true) → (among m read || among m ns) ≡ true
            go (inl j) = closed n m j e
            go (inr j) = or_right (among m read) _ (kept n m e j)

        also : (n : ℕ) (read : List ℕ) → (among s read || among s ns) ≡ true → (among n (s ∷ starts) || among n ns) ≡ true → (among n starts || among n (read ++ ns)) ≡ true
        also n read found i = go (eqb n s) refl i
          where
            later : (among n starts ≡ true) ⊎ (among n ns ≡ true) → (among n starts || among n (read ++ ns)) ≡ true
            later (inl j) = or_left _ (among n (read ++ ns)) j
            later (inr j) = or_right (among n starts) _ (among-append n read ns ∙ or_right (among n read) _ j)

            go : (b : Bool) → eqb n s ≡ b → ((b || among n starts) || among n ns) ≡ true → (among n starts || among n (read ++ ns)) ≡ true
            go true e j = or_right (among n starts) _ (subst (λ y. among y (read ++ ns) ≡ true) (sym (eqb-true n s e)) (among-append s read ns ∙ found))
            go false e j = later (or_cases (among n starts) (among n ns) j)

        only : (P : ℕ → Bool) → Kept step P → ((n : ℕ) → (among n (s ∷ starts) || among n ns) ≡ true → P n ≡ true) → (read : List ℕ)
            → ((Q : ℕ → Bool) → Kept step Q → Q s ≡ true → (n : ℕ) → among n read ≡ true → Q n ≡ true)
            → (n : ℕ) → (among n starts || among n (read ++ ns)) ≡ true → P n ≡ true
        only P c h read least n i = go (or_cases (among n starts) (among n (read ++ ns)) i)
          where
            earlier : (among n read ≡ true) ⊎ (among n ns ≡ true) → P n ≡ true
            earlier (inl j) = least P c (h s (or_left _ (among s ns) (or_left _ (among s starts) (eq-eqb s s refl)))) n j
            earlier (inr j) = h n (or_right (among n (s ∷ starts)) _ j)

            go : (among n starts ≡ true) ⊎ (among n (read ++ ns) ≡ true) → P n ≡ true
            go (inl j) = h n (or_left _ (among n ns) (or_right (eqb n s) _ j))
            go (inr j) = earlier (or_cases (among n read) (among n ns) (sym (among-append n read ns) ∙ j))

    -- with nothing settled before
    pub reads : (starts : List ℕ) → Read [] starts (walk_all stuck along step declared starts nothing 0)
    reads starts = reads_all starts [] nothing 0 tt refl (λ n. refl) (λ n m e i. apart i refl)

    pub own-answer : (n : ℕ) → ChainAnswer along step stuck n (own stuck along step declared n)
    unfolding own
    own-answer n = (from_start n [] nothing tt (λ n. refl)).answers
