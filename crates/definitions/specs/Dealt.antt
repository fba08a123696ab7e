-- A pack dealt out again: what 01 says under "Demand 3's words".
use Rattle.std.specs.Prelude.{ℕ, ◌≡◌, List, [], ◌∷◌}
use Rattle.std.proofs.Math.Option.{Option, none, some}
use Rattle.definitions.specs.Records.{Item, Block, Pack}
use Rattle.definitions.specs.Answers.{says_yes}
use Rattle.definitions.specs.Checking.{check_answer}

-- "a pack is checked when Check answers yes."
abbrev pub Checked : List ℕ → Type 0
Checked ws = check_answer ws ≡ says_yes

-- "each as often .., in any order": a list shuffled into another, where `Same` says what counts as the same.
pub data Shuffled {A : Type 0} (Same : A → A → Type 0) : List A → List A → Type 0 where
  -- nothing, into nothing
  nil : Shuffled Same [] []
  -- the first of both are the same, and what follows is shuffled
  cons : {a b : A} {l m : List A} → Same a b → Shuffled Same l m → Shuffled Same (a ∷ l) (b ∷ m)
  -- the first two change places
  swap : {a b : A} {l : List A} → Shuffled Same (a ∷ b ∷ l) (b ∷ a ∷ l)
  -- shuffled, and then shuffled once more
  trans : {l m n : List A} → Shuffled Same l m → Shuffled Same m n → Shuffled Same l n

-- "the same .., each as often and word for word, in any order"
abbrev pub InAnyOrder : {A : Type 0} → List A → List A → Type 0
InAnyOrder = Shuffled (λ a b. a ≡ b)

-- "with equal .. count word and the same items, each as often, in any order": both have no sequence, or both have one, of the same items
pub data SameItems : Option (List Item) → Option (List Item) → Type 0 where
  both_none : SameItems none none
  both_some : {l m : List Item} → InAnyOrder l m → SameItems (some l) (some m)

-- "blocks count as the same here with equal origin and count word and the same items, each as often, in any order."
pub record SameBlock (a b : Block) : Type 0 where
  pub origin : a.origin ≡ b.origin
  pub items : SameItems a.items b.items

-- "A pack dealt out again has the same first word, N, defaulted names and counts, and the same relations, rules and blocks, each as often and
-- word for word, in any order". The first word is the edition's kind and the number of words; that this number and the counts stay is proved (DealtLaws).
pub record Dealt (p q : Pack) : Type 0 where
  pub edition : p.edition ≡ q.edition
  pub names : p.names ≡ q.names
  pub defaulted : p.defaulted ≡ q.defaulted
  pub relations : InAnyOrder p.relations q.relations
  pub rules : InAnyOrder p.rules q.rules
  pub blocks : Shuffled SameBlock p.blocks q.blocks
