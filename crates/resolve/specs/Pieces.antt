-- Writing a pack, one piece of its words after the other; a relation's record comes out with a list stamped on it.
-- `ws` are the words in which the lists of kinds stand; `lists` has, for each piece, the place there of the list that is stamped on it, 0 for none.
use Rattle.std.specs.Prelude.{ℕ, ◌+◌, ◌-◌, ◌<◌, ◌≤◌, ◌≡◌, List, [], ◌∷◌, ◌++◌, map, length, take, drop, replicate, eqb}
use Rattle.definitions.specs.Table.{pick, word_of}
use Rattle.definitions.specs.Records.{Relation, Pack}
use Rattle.definitions.specs.Pack.{WellFormed, words}
use Rattle.definitions.specs.Places.{names_at, relation_words}
use Rattle.definitions.specs.WrittenRecords.{joined, beginnings, front_piece, other_pieces, pieces_of, Carried}
use Rattle.chains.specs.Record.{kind_count, slots_place}
use Rattle.stamping.specs.Stamping.{StampedBy, names_or}

-- relations, and in the same order as they come out with their lists stamped
pub data Stamped (ws : List ℕ) : List ℕ → List Relation → List Relation → Type 0 where
  no_more : Stamped ws [] [] []
  one_more : {list : ℕ} {r r' : Relation} {lists : List ℕ} {rs rs' : List Relation} → StampedBy ws list r r' → Stamped ws lists rs rs' → Stamped ws (list ∷ lists) (r ∷ rs) (r' ∷ rs')

-- a pack with other relations
abbrev pub with_relations : Pack → List Relation → Pack
with_relations p rs =
    record { edition = p.edition; names = p.names; defaulted = p.defaulted; relations = rs; rules = p.rules; blocks = p.blocks }

-- ---- in the words

-- the words from a place up to another
abbrev pub from_to : ℕ → ℕ → List ℕ → List ℕ
from_to from to work = take (to - from) (drop from work)

-- a list of names: its count, and each name
abbrev pub list_words : ℕ → List ℕ → List ℕ
list_words kind ks = word_of kind (length ks) ∷ map (word_of 10) ks

-- the words of a relation's record up to the count of its list 21, and the names in its place, and in that of list 9 where it is empty
abbrev pub put_for : List ℕ → List ℕ → ℕ → List ℕ
put_for ks w place =
    pick (eqb (kind_count w 0) 0)
    ((from_to 0 3 w ++ list_words 9 ks) ++ (from_to 4 place w ++ list_words 21 ks))
    (from_to 0 place w ++ list_words 21 ks)

-- a piece with the list at a place stamped on it; without one it stays
unfoldable pub piece_out : List ℕ → ℕ → List ℕ → List ℕ
piece_out ws list w = pick (eqb list 0) w (put_for (names_or (names_at ws list)) w (slots_place w 0 + 4) ++ from_to (slots_place w 0 + 4 + 1) (length w) w)

-- a list is stamped only on a record that has a list 21
unfoldable pub Stampable : ℕ → List ℕ → Type 0
Stampable list w = (list ≡ 0 → ⊥) → slots_place w 0 + 4 < length w

-- words that are put at a place: before them stand those that stood there
pub record Put (out : List ℕ) (to : ℕ) (more : List ℕ) (left : List ℕ) (next : ℕ) : Type 0 where
  pub after : next ≡ to + length more
  pub holds : take next left ≡ take to out ++ more

-- ---- all of them

-- records written one after the other from the start of a slice on, and the running place: the number of words written
pub record Written (rs : List (List ℕ)) (out : List ℕ) (to : ℕ) : Type 0 where
  pub counts : to ≡ length (joined rs)
  pub holds : take to out ≡ joined rs

-- one more, written at the running place
pub record RecordPut (out : List ℕ) (to : ℕ) (r left : List ℕ) (next : ℕ) : Type 0 where
  pub carried : (before : List (List ℕ)) → Written before out to → Carried before r to next
  pub writes : (before : List (List ℕ)) → Written before out to → Written (before ++ (r ∷ [])) left next

pub record WriteAsked (ws places lists work : List ℕ) (room : ℕ) : Type 0 where
  pub whole : Pack
  pub fine : WellFormed whole
  pub stands : work ≡ words whole
  pub begins : places ≡ beginnings 0 (pieces_of whole)
  pub its : List ℕ
  pub stamped : List Relation
  pub stamps : Stamped ws its whole.relations stamped
  pub listed : lists ≡ 0 ∷ (its ++ replicate (length (other_pieces whole)) 0)
  pub size : room ≡ length (words (with_relations whole stamped))
  pub few : room ≤ 8192

-- the pieces as they come out, but for the total
abbrev pub come_out : {ws places lists work : List ℕ} {room : ℕ} → WriteAsked ws places lists work room → List (List ℕ)
come_out a = front_piece a.whole ∷ (map (relation_words a.whole.names) a.stamped ++ other_pieces a.whole)

-- all are written, and the place handed on from the last is the end of the slice
abbrev pub RecordsPut : List ℕ → List ℕ → List ℕ → List ℕ → ℕ → List ℕ → ℕ → Type 0
RecordsPut ws places lists work room left end = (a : WriteAsked ws places lists work room) → Written (come_out a) left end × (end ≡ room)

abbrev pub WriteCame : List ℕ → List ℕ → List ℕ → List ℕ → ℕ → List ℕ → Type 0
WriteCame ws places lists work room left = (a : WriteAsked ws places lists work room) → left ≡ words (with_relations a.whole a.stamped)
