-- What the filtered tables say of a name, from the numbers that the code holds of it.
use Rattle.std.specs.Prelude.{ℕ, ◌+◌, ◌-◌, ◌<◌, ◌≤◌, ◌≡◌, List, length, get_or, ltb, leb, eqb}
use Rattle.std.proofs.Math.Option.{Option, none, some}
use Rattle.definitions.specs.Table.{pick}
use Rattle.definitions.specs.Table as table
use Rattle.definitions.specs.declared.operation.Filter.{Filter}
use Rattle.definitions.specs.declared.operation.Filter.TheVariants.{Direct, Innermost, Alias, Unresolved}
use Rattle.definitions.specs.Chain.{own, same}
use Rattle.definitions.specs.Filtered.{up_to, inner_step, filter_words}
use Rattle.definitions.specs.Answers.{table_from}
use Rattle.chains.specs.PackDirectory.{OfPack}
use Rattle.chains.specs.DirectoryWord.{Reaches, declared_by, declarations_in}
use Rattle.chains.specs.Settle.{Settleable, SettledAll}
use Rattle.filtered.specs.Taking.{several}

-- from what is known of an entity: the one kind that it takes, or none
unfoldable pub direct_of : ℕ → ℕ
direct_of x = pick (ltb x 2) table.none (pick (eqb x several) table.none (x - 2))

unfoldable pub direct_by : ℕ → Option ℕ
direct_by x = pick (eqb (direct_of x) table.none) none (some (direct_of x))

unfoldable pub alias_of : ℕ → ℕ → ℕ
alias_of x e = pick (ltb x 2) 0 (pick (eqb x (2 + e)) 0 1)

unfoldable pub unresolved_of : ℕ → ℕ
unresolved_of x = pick (eqb x 1) 1 0

-- the chain of direct kinds as declarations: where a name leads on it is 65536 and the name, else 1 and the name itself
unfoldable pub inner_entry : ℕ → ℕ → ℕ
inner_entry x e = pick (eqb (direct_of x) table.none) (e + 1) (pick (eqb (direct_of x) e) (e + 1) (65536 + direct_of x))

-- a settled name's mark is 2 and its answer, of which 0 is none
unfoldable pub inner_of : ℕ → ℕ → ℕ
inner_of x mark = pick (eqb (direct_of x) table.none) table.none (pick (leb mark 2) table.none (mark - 3))

abbrev pub said : Filter → ℕ → ℕ → ℕ → ℕ
said Direct x mark e = direct_of x
said Innermost x mark e = inner_of x mark
said Alias x mark e = alias_of x e
said Unresolved x mark e = unresolved_of x

unfoldable pub said_in : Filter → List ℕ → List ℕ → ℕ → ℕ
said_in f taken marks e = said f (get_or taken e 0) (get_or marks e 0) e

-- a name whose direct kind is a name
pub record KnownName (x e : ℕ) : Type 0 where
  pub below : e < 4096
  pub leads : (direct_of x ≡ table.none → ⊥) → direct_of x < 4096

-- each name itself
abbrev pub plainly : ℕ → ℕ
plainly e = e

-- the direct kinds of a table
unfoldable pub direct_in : List ℕ → ℕ → Option ℕ
direct_in taken e = direct_by (get_or taken e 0)

-- what the walks along those of n names ask for: each is one of the names. A clause, as the table is lent
pub record InnerAsked (taken : List ℕ) (n : ℕ) : Type 0 where
  pub least : 1 ≤ n
  pub most : n ≤ 4096
  pub long : n ≤ length taken
  pub leads : (e : ℕ) → e < n → (direct_of (get_or taken e 0) ≡ table.none → ⊥) → direct_of (get_or taken e 0) < n

-- the words of n names say them
pub record InnerWords (taken : List ℕ) (n : ℕ) (words : List ℕ) : Type 0 where
  pub says : (m : ℕ) → m < n → declared_by (get_or words m 0) ≡ inner_entry (get_or taken m 0) m

-- what the walks from all names that have a mark ask for, and what they leave
pub record InnerSettleable (dir marks : List ℕ) : Type 0 where
  pub reaches : Reaches dir (length marks)
  pub settleable : Settleable (declarations_in dir) marks (table_from plainly 0 (length marks)) 0 (length marks + 1)

abbrev pub InnerSettled : List ℕ → List ℕ → List ℕ → ℕ → Type 0
InnerSettled dir marks marks' steps = SettledAll (declarations_in dir) marks (table_from plainly 0 (length marks)) 0 (length marks + 1) marks' steps

-- an innermost kind as a walk's answer
abbrev pub answered : Option ℕ → ℕ
answered none = 0
answered (some n) = n + 1

-- after the walks along the direct kinds of n names each has the mark of its own walk
abbrev pub InnerMarked : List ℕ → ℕ → List ℕ → Type 0
InnerMarked taken n marks = (e : ℕ) → e < n → get_or marks e 0 ≡ 2 + answered (own none same (inner_step n (direct_in taken)) (up_to n) e)

-- only the innermost kinds need the walks
abbrev pub InnerFor : Filter → List ℕ → ℕ → List ℕ → Type 0
InnerFor Direct taken n marks = Unit {0}
InnerFor Innermost taken n marks = InnerMarked taken n marks
InnerFor Alias taken n marks = Unit {0}
InnerFor Unresolved taken n marks = Unit {0}

-- the words of a filtered table
abbrev pub FilterLeft : Filter → List ℕ → List ℕ → Type 0
FilterLeft f ws out = OfPack ws (λ p. out ≡ filter_words f p)
