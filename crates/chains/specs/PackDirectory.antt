-- What the parts of the operations promise each other, of words that Check accepts.
use Rattle.std.specs.Prelude.{ℕ, ◌+◌, ◌*◌, ◌≤◌, ◌≡◌, List, true, length, get_or}
use Rattle.std.proofs.Math.Option.{Option, none, some}
use Rattle.definitions.specs.Form.{among}
use Rattle.definitions.specs.Records.{Relation, Pack}
use Rattle.definitions.specs.FieldRows.{to_row}
use Rattle.definitions.specs.Pack.{yes, read}
use Rattle.records.specs.declared.directory.Layout.{Layout}
use Rattle.records.specs.Directory.{blocks_at, Clear}
use Rattle.checking.specs.CheckPromises.{names_said}
use Rattle.definitions.specs.Chain.{mapped}
use Rattle.definitions.specs.Kinds.{find, declared, kind_step, all_kinds, own_answer}
use Rattle.definitions.specs.Places.{start_of, first_relation, relations_end, hops, place_of}
use Rattle.chains.specs.Declaration.{coded_link}
use Rattle.chains.specs.DirectoryWord.{Reaches, starts_in, slots_in, declarations_in, names_in}

-- the words are those of a pack
pub record IsPack (ws : List ℕ) : Type 0 where
  pub pack : Pack
  pub reads : read ws ≡ yes pack

-- what holds of the pack that words are read as
abbrev pub OfPack : List ℕ → (Pack → Type 0) → Type 0
OfPack ws P = (p : Pack) → read ws ≡ yes p → P p

-- the number of relations
abbrev pub RelationsCounted : List ℕ → ℕ → Type 0
RelationsCounted ws count = OfPack ws (λ p. count ≡ length p.relations)

-- the number of names
abbrev pub Named : List ℕ → ℕ → Type 0
Named ws n = OfPack ws (λ p. n ≡ p.names)

-- the place where the record of a name starts, 0 for a name that no relation declares
abbrev pub place_in : ℕ → Option Relation → ℕ
place_in start none = 0
place_in start (some r) = start

unfoldable pub record_of : Pack → ℕ → ℕ
record_of p m = place_in (start_of p.names m (first_relation p) p.relations) (find m p.relations)

-- the place of its slots (17), 0 without a derivation
abbrev pub slots_for : ℕ → Option Relation → ℕ
slots_for start none = 0
slots_for start (some r) = elim r.derivation [ none ↦ 0 | some d ↦ start + 7 + length r.slot_kinds + 3 * hops d.path ]

unfoldable pub slots_of : Pack → ℕ → ℕ
slots_of p m = slots_for (start_of p.names m (first_relation p) p.relations) (find m p.relations)

-- the relations' names in record order, and by name the places where their records start
pub record RelationsNoted (ws names starts : List ℕ) : Type 0 where
  pub named : (p : Pack) → read ws ≡ yes p → names ≡ declared p.relations
  pub placed : (p : Pack) → read ws ≡ yes p → (m : ℕ) → get_or starts m 0 ≡ record_of p m

-- the place of the count of rules (22), which stands after the relations
abbrev pub RulesAt : List ℕ → ℕ → Type 0
RulesAt ws at = OfPack ws (λ p. at ≡ relations_end p.names (first_relation p) p.relations)

-- the place of the count of blocks (28), which stands after the rules
abbrev pub BlocksAt : List ℕ → ℕ → Type 0
BlocksAt ws at = OfPack ws (λ p. at ≡ blocks_at p.names 2 (to_row p).1)

-- a table with a word for each of so many names, all 0: a clause, as the table is lent, filled, and read by the lender
pub record ClearTable (names : ℕ) (t : List ℕ) : Type 0 where
  pub long : names ≤ length t
  pub short : length t ≤ 4096
  pub clear : (m : ℕ) → get_or t m 0 ≡ 0

-- a clear directory and a clear table by name, as long as the words ask, and the table no longer than the directory's names
pub record DirectoryRoom (ws dir t : List ℕ) : Type 0 where
  pub clear : Clear (names_said ws) dir
  pub lent : ClearTable (names_said ws) t
  pub reaches : Reaches dir (length t)

-- so many words of a directory and so many names are as long as the words ask: said of const parameters, for which there is no other place
pub record Sized (ws : List ℕ) (words names : ℕ) : Type 0 where
  pub enough : names_said ws ≤ names
  pub most : names ≤ 4096
  pub both : words ≡ 512 + names

-- the layout and the directory of a pack: what they say of its records. A clause, as the directory is lent, filled, and read by the lender
pub record IsDirectory (ws : List ℕ) (l : Layout) (dir : List ℕ) : Type 0 where
  pub checked : IsPack ws
  pub named : Named ws l.names
  pub reaches : Reaches dir l.names
  pub counted : RelationsCounted ws l.relations
  pub ruled : RulesAt ws l.rules
  pub blocked : BlocksAt ws l.blocks
  pub noted : RelationsNoted ws (names_in dir l.relations) (starts_in dir)
  pub slotted : (p : Pack) → read ws ≡ yes p → (m : ℕ) → get_or (slots_in dir) m 0 ≡ slots_of p m
  pub says : (p : Pack) → read ws ≡ yes p → (m : ℕ) → get_or (declarations_in dir) m 0 ≡ coded_link (mapped (place_of p) (kind_step p.relations m))

-- the relations' names in record order, marks by name that are 2 and the place of the list that settles the name, and the number of declarations read
pub record KindsMarked (ws : List ℕ) (steps : ℕ) (names marks : List ℕ) : Type 0 where
  pub counts : (p : Pack) → read ws ≡ yes p → steps ≡ (all_kinds p.relations).steps
  pub named : (p : Pack) → read ws ≡ yes p → names ≡ declared p.relations
  pub marked : (p : Pack) → read ws ≡ yes p → (n : ℕ) → among n (declared p.relations) ≡ true → get_or marks n 0 ≡ 2 + place_of p (own_answer p.relations n)
