-- The chain walk, for any type of answers. 01: "A walk meeting a name on its own path gives none." "a walk stops at a settled name, and its answer settles its whole path."
use Rattle.std.specs.Prelude.{ℕ, zero, suc, ◌+◌, ◌≡◌, List, [], ◌∷◌, true, false, ◌||◌, length, eqb}
use Rattle.std.proofs.Math.Option.{Option, none, some}
use Rattle.definitions.specs.Table.{pick}
use Rattle.definitions.specs.Form.{among}

-- what one declaration read says: the chain ends here with an answer, or it leads on to a name
pub data Link (R : Type 0) : Type 0 where
  end : R → Link R
  next : ℕ → Link R

-- the same link with another answer in place of its own
abbrev pub mapped : {R S : Type 0} → (R → S) → Link R → Link S
mapped g (end r) = end (g r)
mapped g (next n) = next n

-- an answer that goes back over a link as it is
abbrev pub same : {R : Type 0} → R → R
same r = r

-- ---- what a walk gives

module _ {R : Type 0} (along : R → R) (step : ℕ → Link R) where
  -- the chain from a name ends, and its answer comes back along each link
  pub data Ends : ℕ → R → Type 0 where
    here : {n : ℕ} {r : R} → step n ≡ end r → Ends n r
    further : {n m : ℕ} {r s : R} → step n ≡ next m → Ends m r → s ≡ along r → Ends n s

  -- The answer of a name: that of its chain's end, or `stuck` where the chain has no end, since it comes to a ring.
  -- A walk computes it (`own`, below; that they agree is `own-means`).
  pub data ChainAnswer (stuck : R) : ℕ → R → Type 0 where
    ended : {n : ℕ} {r : R} → Ends n r → ChainAnswer stuck n r
    endless : {n : ℕ} {r : R} → ((s : R) → Ends n s → ⊥) → r ≡ stuck → ChainAnswer stuck n r

-- ---- the walk

-- the answers settled so far, by name
abbrev pub Settled : Type 0 → Type 0
Settled R = ℕ → Option R

abbrev pub nothing : {R : Type 0} → Settled R
nothing n = none

abbrev pub put : {R : Type 0} → ℕ → R → Settled R → Settled R
put n r t m = pick (eqb m n) (some r) (t m)

-- a walk's answer, what is settled after it, and how many names it read
pub record Walked (R : Type 0) : Type 0 where
  pub answer : R
  pub settled : Settled R
  pub steps : ℕ

-- a name that was read: its answer settles it
abbrev pub settles : {R : Type 0} → ℕ → Walked R → Walked R
settles n w = record { answer = w.answer; settled = put n w.answer w.settled; steps = suc w.steps }

-- `stuck` is the answer of a ring; an answer goes back over each link of the path through `along`, with along stuck ≡ stuck
module _ {R : Type 0} (stuck : R) (along : R → R) (step : ℕ → Link R) where
  abbrev stop : R → Settled R → Walked R
  stop r t = record { answer = r; settled = t; steps = 0 }

  abbrev back : Walked R → Walked R
  back w = record { answer = along w.answer; settled = w.settled; steps = w.steps }

  -- the walk from the name n with `path` behind it; the fuel bounds how many names it reads
  unfoldable pub walk : ℕ → Settled R → List ℕ → ℕ → Walked R
  walk zero t path n = stop stuck t
  walk (suc fuel) t path n =
      elim (t n) [
        | some r ↦ stop r t
        | none ↦ elim (among n path) [
          | true ↦ stop stuck t
          | false ↦ elim (step n) [
            | end r ↦ settles n (stop r t)
            | next m ↦ settles n (back (walk fuel t (n ∷ path) m))
          ]
        ]
      ]

  -- "A relation's own walk starts at it with nothing settled before."
  unfoldable pub own : List ℕ → ℕ → R
  own declared n = (walk (suc (length declared)) nothing [] n).answer

-- what is settled after all walks, and how many names they read
pub record AllWalked (R : Type 0) : Type 0 where
  pub settled : Settled R
  pub steps : ℕ

-- walks from each start in order, with so much fuel each
module _ {R : Type 0} (stuck : R) (along : R → R) (step : ℕ → Link R) (fuel : ℕ) where
  unfoldable pub walks_from : List ℕ → Settled R → ℕ → AllWalked R
  walks_from [] t k = record { settled = t; steps = k }
  walks_from (n ∷ starts) t k =
      let w : Walked R = walk stuck along step fuel t [] n in
      walks_from starts w.settled (k + w.steps)

-- "All kinds starts at each relation in record order"
abbrev pub walk_all : {R : Type 0} → R → (R → R) → (ℕ → Link R) → List ℕ → List ℕ → Settled R → ℕ → AllWalked R
walk_all stuck along step declared starts t k = walks_from stuck along step (suc (length declared)) starts t k

-- a list in which no name stands twice
abbrev pub Distinct : List ℕ → Type 0
Distinct [] = Unit {0}
Distinct (n ∷ ns) = (among n ns ≡ false) × Distinct ns

-- the name to which a step leads, put before some that are there, if it is neither declared nor among them
abbrev pub with_next : {R : Type 0} → List ℕ → Link R → List ℕ → List ℕ
with_next declared (end r) ms = ms
with_next declared (next m) ms = pick (among m declared || among m ms) ms (m ∷ ms)

module _ {R : Type 0} (step : ℕ → Link R) (declared : List ℕ) where
  -- only declared names lead on
  abbrev pub OnlyDeclaredLead : Type 0
  OnlyDeclaredLead = (n m : ℕ) → step n ≡ next m → among n declared ≡ true

  -- the undeclared names to which names of a list lead, each once: all walks read these and the declared names
  unfoldable pub outside : List ℕ → List ℕ
  outside [] = []
  outside (n ∷ ns) = with_next declared (step n) (outside ns)
