-- What the code reads of blocks from the words of a pack.
use Rattle.std.specs.Prelude.{ℕ, zero, suc, ◌+◌, ◌*◌, ◌^◌, ◌≤◌, ◌≡◌, List, ◌||◌, not, eqb, Result, Ok, Err, Some, None}
use Rattle.std.proofs.Math.Option.{Option, none, some}
use Rattle.std.specs.declared.option.Option as code
use Rattle.definitions.specs.declared.answer.Number.{Number}
use Rattle.definitions.specs.declared.answer.Number.TheVariants.{NoSequence, NotDeclaredOnce, NotBoolean, WrongOwner}
use Rattle.definitions.specs.Answers.{number_of}
use Rattle.definitions.specs.Table.{pick}
use Rattle.definitions.specs.Table as table
use Rattle.definitions.specs.Form.{repeats}
use Rattle.chains.specs.Record.{value_at}
use Rattle.inputs.specs.declared.inputs.Declaration.{Declaration}
use Rattle.inputs.specs.declared.inputs.Seen.{Seen}
use Rattle.inputs.specs.declared.inputs.Seen.TheVariants.{Never, Once, Several}

-- the declaration in an item that starts at a place
abbrev pub item_declaration : List ℕ → ℕ → Declaration
item_declaration ws at = record { boolean = eqb (value_at ws (at + 1)) 1; entity = value_at ws (at + 2) }

-- the declarations of a name so far, and one more
abbrev pub seen_after : Seen → Declaration → Seen
seen_after Never d = Once d
seen_after (Once e) d = Several
seen_after Several d = Several

-- after so many items from a place on
unfoldable pub seen_items : List ℕ → ℕ → ℕ → ℕ → Seen → Seen
seen_items ws name at zero seen = seen
seen_items ws name at (suc k) seen = seen_items ws name (at + 3) k (pick (eqb (value_at ws at) name) (seen_after seen (item_declaration ws at)) seen)

-- how many items a block has, if it has a sequence
abbrev pub item_count : List ℕ → ℕ → code.Option ℕ
item_count ws at = pick (eqb (value_at ws (at + 1)) table.none) None (Some (value_at ws (at + 1)))

-- a block of the origin: refused if it has no sequence
abbrev pub seen_block : List ℕ → ℕ → ℕ → ℕ → Seen → Result Seen Number
seen_block ws origin name at seen =
    pick (eqb (value_at ws at) origin) (pick (eqb (value_at ws (at + 1)) table.none) (Err NoSequence) (Ok (seen_items ws name (at + 2) (value_at ws (at + 1)) seen))) (Ok seen)

-- what follows what came, or its refusal
abbrev pub then_so : {A B : Type 0} → Result A Number → (A → Result B Number) → Result B Number
then_so (Ok a) f = f a
then_so (Err number) f = Err number

-- after so many blocks from a place on
unfoldable pub seen_blocks : List ℕ → ℕ → ℕ → ℕ → ℕ → Seen → Result Seen Number
seen_blocks ws origin name at zero seen = Ok seen
seen_blocks ws origin name at (suc k) seen =
    then_so (seen_block ws origin name at seen) (seen_blocks ws origin name (at + 2 + 3 * repeats (value_at ws (at + 1))) k)

-- the only declaration, as an input of an owner
abbrev pub allowed_as : Seen → ℕ → Result (Unit {0}) Number
allowed_as Never owner = Err NotDeclaredOnce
allowed_as (Once d) owner = pick d.boolean (pick (eqb owner 0 || not (eqb d.entity owner)) (Err WrongOwner) (Ok tt)) (Err NotBoolean)
allowed_as Several owner = Err NotDeclaredOnce

-- of the blocks that stand from a place on
unfoldable pub input_in : List ℕ → ℕ → ℕ → ℕ → ℕ → ℕ → Result (Unit {0}) Number
input_in ws at count origin owner name = then_so (seen_blocks ws origin name at count Never) (λ (s : Seen). allowed_as s owner)

-- the number by which an input is refused, if it is
abbrev pub refuses_by : Result (Unit {0}) Number → Option ℕ
refuses_by (Ok u) = none
refuses_by (Err number) = some (number_of number)

-- no place is further than this: the code's sums stay below 2^64
abbrev pub far : ℕ
far = 2 ^ 60

-- the place after a block
pub record AfterBlock (ws : List ℕ) (at next : ℕ) : Type 0 where
  pub is : next ≡ at + 2 + 3 * repeats (value_at ws (at + 1))
  pub near : next ≤ at + 50331650
