-- What the parts of Resolve promise each other.
use Rattle.std.specs.Prelude.{ℕ, zero, suc, ◌+◌, ◌*◌, ◌<◌, ◌≤◌, ◌≡◌, List, [], ◌∷◌, map, Bool, false, ◌||◌, length, get_or, take, replicate, eqb, Ok, Err}
use Rattle.std.proofs.Math.Option.{none, some}
use Rattle.definitions.specs.Table.{pick}
use Rattle.definitions.specs.Form.{repeats}
use Rattle.definitions.specs.Records.{Relation, Pack}
use Rattle.definitions.specs.Pack.{yes, read, words}
use Rattle.definitions.specs.Kinds.{find, all_kinds}
use Rattle.records.specs.declared.directory.Layout.{Layout}
use Rattle.records.specs.Directory.{Clear}
use Rattle.checking.specs.CheckPromises.{names_said}
use Rattle.chains.specs.PackDirectory.{ClearTable, IsDirectory}
use Rattle.definitions.specs.Answers.{Answer, Outcome, done, map_done, given, written}
use Rattle.chains.specs.Record.{value_at}
use Rattle.chains.specs.DirectoryWord.{Reaches, starts_in, names_in}
use Rattle.filtered.specs.Taking.{Filled}
use Rattle.definitions.specs.Resolving.{stamp, atom_names, in_derivation, role_judgment}
use Rattle.definitions.specs.Operations.{whole_pack, resolve_answer, resolve_buffer}
use Rattle.definitions.specs.WrittenRecords.{beginnings, pieces_of}
use Rattle.resolve.specs.Pieces.{with_relations}
use Rattle.directions.specs.RecordRuns.{trees_resolved, TablesFilled}
use Rattle.turning.specs.Notes.{Note, Held, NotesIn}
use Rattle.turning.specs.Asked.{InWords}
use Rattle.turning.specs.Asked.{NotesMarked}
use Rattle.directions.specs.Words.{first_equal}
use Rattle.resolve.specs.declared.checked.Figures.{Figures}
use Rattle.resolve.specs.declared.writer.Writer.{Writer}
use Rattle.resolve.specs.Writing.{HasRoom, Writes}

-- ---- the result

-- with the relations of a pack stamped
abbrev pub stamp_all : Pack → Pack → Pack
stamp_all p q = with_relations q (map (stamp p) q.relations)

-- where the relations of these names start, as the directory says
abbrev pub order_in : List ℕ → List ℕ → List ℕ
order_in dir names = map (λ name. get_or (starts_in dir) name 0) names

-- where rules start: the places of the notes that stand inside no other
abbrev pub roots_of : List Note → List ℕ
roots_of [] = []
roots_of (n ∷ ns) = pick (eqb n.inside 0) (n.place ∷ roots_of ns) (roots_of ns)

-- notes in an array from an index up to another, and room for their roots
pub record RulesAsked (notes : List ℕ) (from all : ℕ) (w : Writer) : Type 0 where
  pub ws : List ℕ
  pub ns : List Note
  pub are : Held notes from ns
  pub many : all + 1 ≡ from + length ns
  pub within : all < length notes
  pub there : InWords ws ns
  pub room : HasRoom w (roots_of ns)

abbrev pub RulesCame : List ℕ → ℕ → ℕ → Writer → Writer → Type 0
RulesCame notes from all w w' = (a : RulesAsked notes from all w) → Writes w (roots_of a.ns) w'

-- where so many blocks start, one after the other from a place on
unfoldable pub block_places : List ℕ → ℕ → ℕ → List ℕ
block_places ws at zero = []
block_places ws at (suc k) = at ∷ block_places ws (at + 2 + 3 * repeats (value_at ws (at + 1))) k

-- by name: whether it is a relation "that some atom or Exists names, or whose predicate holds kinds 102 to 104"
pub record AskedOf (p : Pack) (asked : List Bool) : Type 0 where
  pub says : (r : Relation) → find r.name p.relations ≡ some r → get_or asked r.name false ≡ (atom_names p r.name || in_derivation role_judgment r.derivation)

-- a table for so many names, of which none is asked for yet
pub record NoneAsked (names : ℕ) (t : List Bool) : Type 0 where
  pub long : names ≤ length t
  pub clear : (m : ℕ) → get_or t m false ≡ false

-- names that have words in the directory
abbrev pub HaveWords : List ℕ → List ℕ → Type 0
HaveWords dir names = (j : ℕ) → j < length names → Reaches dir (get_or names j 0 + 1)

-- the words of a pack whose trees are resolved, with the places of its pieces, its tables, and what its notes ask for
pub record FinishAsked (ws places acts : List ℕ) (asked : List Bool) (work : List ℕ) (relations steps : ℕ) : Type 0 where
  pub records : List ℕ
  pub taken : List ℕ
  pub tabled : TablesFilled ws records acts taken steps
  pub counts : relations ≡ length tabled.checked.pack.relations
  pub begins : places ≡ beginnings 0 (pieces_of tabled.checked.pack)
  pub asks : AskedOf tabled.checked.pack asked
  pub whole : Pack
  pub resolves : trees_resolved tabled.checked.pack ≡ done whole
  pub stands : work ≡ words whole

-- a table of zeros with a word for each place
pub record ClearFor (places t : List ℕ) : Type 0 where
  pub most : ℕ
  pub zeros : t ≡ replicate most 0
  pub room : length places ≤ most

-- Resolve's answer in a slice of so many words, and what it leaves there, by what resolving comes to
abbrev pub given_out : ℕ → ℕ → Outcome Pack → Answer
given_out steps room o = given steps room (map_done whole_pack o)

abbrev pub written_out : List ℕ → Outcome Pack → List ℕ
written_out lent o = written lent (map_done whole_pack o)

-- what is answered and left of them
pub record FinishCame (ws lent : List ℕ) (answer : Answer) (left : List ℕ) : Type 0 where
  pub answers : (p q : Pack) → read ws ≡ yes p → trees_resolved p ≡ done q → answer ≡ given_out (all_kinds p.relations).steps (length lent) (done (stamp_all p q))
  pub leaves : (p q : Pack) → read ws ≡ yes p → trees_resolved p ≡ done q → left ≡ written_out lent (done (stamp_all p q))

-- the figures of a pack with a layout
pub record FiguresSaid (ws : List ℕ) (l : Layout) (declared room_told : ℕ) (f : Figures) : Type 0 where
  pub laid : f.layout ≡ l
  pub blocks : f.blocks.at ≡ l.blocks + 1
  pub many : f.blocks.count ≡ value_at ws l.blocks
  pub steps : f.steps ≡ declared
  pub room : f.room ≡ room_told

-- a checked pack with its directory, its tables and its notes, and a slice for as many words
pub record ResolveAsked (ws dir acts taken : List ℕ) (asked : List Bool) (notes : List ℕ) (f : Figures) (work : List ℕ) : Type 0 where
  pub directory : IsDirectory ws f.layout dir
  pub filled : Filled ws (names_in dir f.layout.relations) (starts_in dir) acts taken f.steps
  pub lent : NoneAsked f.layout.names asked
  pub blocks : f.blocks.at ≡ f.layout.blocks + 1
  pub many : f.blocks.count ≡ value_at ws f.layout.blocks
  pub noted : NotesIn directory.checked.pack notes f.layout.noted f.layout.all
  pub room : length work ≡ length ws
  pub fits : f.room ≤ length notes

-- the same after what stamping asks of its notes was asked, with the places of its pieces, where no defaulted name has equal kinds
pub record PlacedAsked (ws acts taken : List ℕ) (asked : List Bool) (places notes : List ℕ) (f : Figures) (work : List ℕ) : Type 0 where
  pub dir : List ℕ
  pub before : List Bool
  pub resolves : ResolveAsked ws dir acts taken before notes f work
  pub marked : NotesMarked ws notes f.layout.all before asked
  pub begins : places ≡ beginnings 0 (pieces_of resolves.directory.checked.pack)
  pub unequal : first_equal ws acts 3 (value_at ws 2) ≡ none

-- the same before the places are known, of which there are no more than so many
pub record PiecesAsked (ws dir acts taken : List ℕ) (asked : List Bool) (notes : List ℕ) (f : Figures) (work : List ℕ) (most : ℕ) : Type 0 where
  pub before : List Bool
  pub resolves : ResolveAsked ws dir acts taken before notes f work
  pub marked : NotesMarked ws notes f.layout.all before asked
  pub few : f.layout.relations + value_at ws f.layout.rules + f.blocks.count + 3 ≤ most
  pub unequal : first_equal ws acts 3 (value_at ws 2) ≡ none

-- room for the places of its pieces, and these places
pub record OrderAsked (ws dir notes : List ℕ) (f : Figures) (room : ℕ) : Type 0 where
  pub acts : List ℕ
  pub taken : List ℕ
  pub marks : List Bool
  pub work : List ℕ
  pub asked : ResolveAsked ws dir acts taken marks notes f work
  pub size : room ≡ length (pieces_of asked.directory.checked.pack)

abbrev pub OrderCame : List ℕ → List ℕ → List ℕ → Figures → ℕ → List ℕ → Type 0
OrderCame ws dir notes f room left = (a : OrderAsked ws dir notes f room) → left ≡ beginnings 0 (pieces_of a.asked.directory.checked.pack)

-- tables for each name that the words say, all 0 or false, and a directory that has a word for each of them
pub record TablesFor (ws dir acts taken : List ℕ) (asked : List Bool) : Type 0 where
  pub clear : Clear (names_said ws) dir
  pub reaches : Reaches dir (length acts)
  pub acts-lent : ClearTable (names_said ws) acts
  pub taken-lent : ClearTable (names_said ws) taken
  pub asked-lent : NoneAsked (names_said ws) asked

pub record CheckedAsked (ws : List ℕ) (l : Layout) (dir acts taken : List ℕ) (asked : List Bool) (out : List ℕ) (room : ℕ) (work : List ℕ) : Type 0 where
  pub directory : IsDirectory ws l dir
  pub reaches : Reaches dir (length acts)
  pub acts-lent : ClearTable l.names acts
  pub taken-lent : ClearTable l.names taken
  pub asked-lent : NoneAsked l.names asked
  pub notes_in : NotesIn directory.checked.pack out l.noted l.all
  pub same : length work ≡ length ws
  pub fits : room ≤ length out

-- a slice that has no notes yet, with room for those of a pack, and for a result of so many words: a clause, as the slice is lent
pub record RoomFor (ws out : List ℕ) (room : ℕ) : Type 0 where
  pub first : 0 < length out
  pub blank : get_or out 0 0 ≡ 0
  pub noted : length ws ≤ 8192 → length ws < length out
  pub fits : room ≤ length out

-- room for a copy of the words of a slice that may be a pack
abbrev pub CopyRoom : List ℕ → ℕ → Type 0
CopyRoom ws room = length ws ≤ 8192 → length ws ≤ room

-- the words that an answer says are written, at the front of a slice
abbrev pub front_of : Answer → List ℕ → List ℕ
front_of (Ok g) l = take g.value l
front_of (Err r) l = []

-- Resolve's answer for a slice of so many words, and at the front of another what Resolve writes there; of what is left after a refusal nothing is said
pub record Into (ws : List ℕ) (room : ℕ) (a : Answer) (left : List ℕ) : Type 0 where
  pub each : (lent : List ℕ) → length lent ≡ room → (a ≡ resolve_answer ws (length lent)) × (front_of a left ≡ front_of a (resolve_buffer ws lent))
