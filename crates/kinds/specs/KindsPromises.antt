-- What the parts of the operations promise each other, of words that Check accepts.
use Rattle.std.specs.Prelude.{ℕ, ◌-◌, ◌≡◌, List, Bool, get_or}
use Rattle.definitions.specs.Records.{Pack}
use Rattle.definitions.specs.Pack.{yes, read}
use Rattle.definitions.specs.Kinds.{all_kinds, own_answer}
use Rattle.definitions.specs.Lean.{leans}
use Rattle.definitions.specs.Places.{place_of, all_kinds_words}
use Rattle.chains.specs.PackDirectory.{OfPack}

-- the settled place of a name
unfoldable pub place_by : List ℕ → ℕ → ℕ
place_by marks name = get_or marks name 0 - 2

-- the places, and the number of declarations read
pub record KindsLeft (ws : List ℕ) (steps : ℕ) (out : List ℕ) : Type 0 where
  pub counts : (p : Pack) → read ws ≡ yes p → steps ≡ (all_kinds p.relations).steps
  pub holds : (p : Pack) → read ws ≡ yes p → out ≡ all_kinds_words p

-- the place of the list that settles a name
abbrev pub OwnPlace : List ℕ → ℕ → ℕ → Type 0
OwnPlace ws name place = OfPack ws (λ p. place ≡ place_of p (own_answer p.relations name))

-- whether a name leans on another
abbrev pub Leaning : List ℕ → ℕ → ℕ → Bool → Type 0
Leaning ws a b r = OfPack ws (λ p. r ≡ leans p.relations a b)
