-- The nodes that resolving looks at, noted by the readers of trees on their way, in an array whose word 0 is how many there are.
use Rattle.std.specs.Prelude.{ℕ, ◌+◌, ◌-◌, ◌*◌, ◌/◌, ◌%◌, ◌<◌, ◌≤◌, ◌≡◌, List, [], ◌∷◌, Bool, length, get_or, set, drop, replicate}
use Rattle.pack.specs.declared.cursor.Cursor.{Cursor}
use Rattle.pack.specs.Readers.{Step, on}
use Rattle.definitions.specs.declared.table.Follows.{Follows}
use Rattle.definitions.specs.Table.{pick, kind_of, value_of, entry_of, fields_of}
use Rattle.definitions.specs.Form.{got, Form, each, read_by}
use Rattle.definitions.specs.Tree.{Tree, Forest, node, more, follow, tree}
use Rattle.definitions.specs.TreeRows.{to_forest}
use Rattle.definitions.specs.Tree as trees
use Rattle.pack.specs.Readers.{skip_over}
use Rattle.reading.specs.Notes.{look_by, noted}

-- ---- contexts

-- A context is 16384 times the number of the note inside which a tree stands, 8192 where membership is lost, and the base: where in the
-- pack the words begin that are read. Added to the place after a word it is the word's note. A clause, as words and context change from call
-- to call.
pub record Based (ws : List ℕ) (c : ℕ) : Type 0 where
  pub few : c < 134250496
  pub room : c % 8192 + length ws ≤ 8192

-- a context in a whole pack, with the base 0: 8192 times a number below 16386
abbrev pub Context : ℕ → Type 0
Context c = 8192 * (c / 8192 % 16386) ≡ c

-- the same without membership
unfoldable pub losing : ℕ → ℕ
losing c = c - c % 16384 + 8192 + c % 8192

-- ---- the array

-- the next note's number, which is its index
abbrev pub next_note : List ℕ → ℕ
next_note d = get_or d 0 0 % 8192 + 1

unfoldable pub push : ℕ → List ℕ → List ℕ
push code d = set (set d (next_note d) code) 0 (next_note d)

-- inside the next note
abbrev pub in_next : List ℕ → ℕ
in_next d = 16384 * next_note d + 8192

-- ---- what is noted

-- where reading is, and the notes so far
abbrev pub State : Type 0
State = ℕ × List ℕ

-- A node whose head word is read goes on past its fields. If it is noted, the number is the place of its first field and the context.
unfoldable pub past : Bool → Follows → ℕ → State → State
past noted w c s = (s.0 + length (fields_of w), pick noted (push (s.0 + c) s.1) s.1)

-- the context of a child, which stands inside the node or where the node stands
unfoldable pub child_in : Follows → Bool → ℕ → List ℕ → ℕ
child_in w lost c d = pick (look_by w).opens (in_next d + c % 8192) (pick lost (losing c) c)

-- a tree, and a row of trees, of which the first has another context than the others
unfoldable mutual
  pub note_tree : ℕ → Tree → State → State
  note_tree c (node k v fs f) s =
      note_forest
      (child_in (entry_of k).follows (look_by (entry_of k).follows).first c s.1)
      (child_in (entry_of k).follows (look_by (entry_of k).follows).rest c s.1)
      f
      (past (noted k) (entry_of k).follows c (s.0 + 1, s.1))

  pub note_forest : ℕ → ℕ → Forest → State → State
  note_forest a b trees.none s = s
  note_forest a b (more t f) s = note_forest b b f (note_tree a t s)

-- what follows a head word
unfoldable pub note_follow : ℕ → Bool → Follows → Forest → State → State
note_follow c noted w f s = note_forest (child_in w (look_by w).first c s.1) (child_in w (look_by w).rest c s.1) f (past noted w c s)

-- ---- what a noting reader promises

-- what was read to a place, and the notes that it comes to
pub record Came {A : Type 0} (F : Form A) (note : A → State → State) (ws : List ℕ) (at : ℕ) (d : List ℕ) (r : ℕ) (e : List ℕ) : Type 0 where
  pub value : A
  pub found : read_by F at (drop at ws) ≡ got value r (drop r ws)
  pub noted : note value (at, d) ≡ (r, e)

-- Its answer is that of its form; and if the form was read, place and array are those of the value. Of a refusal nothing is said of the array.
pub record NotedStep {A : Type 0} (F : Form A) (note : A → State → State) (ws : List ℕ) (at : ℕ) (d : List ℕ) (r : Step) (e : List ℕ) : Type 0 where
  pub answers : r ≡ skip_over F ws at
  pub notes : {v : ℕ} {k : Cursor} → r ≡ on v k → Came F note ws at d k.at e

-- a row of trees of these sorts, the first in one context and the others in another
abbrev pub Sorted : ℕ → ℕ → List ℕ → ℕ → ℕ → List ℕ → ℕ → List ℕ → Step → List ℕ → Type 0
Sorted n left sorts a b = NotedStep (each (tree n left) sorts) (λ l. note_forest a b (to_forest l))

-- so many trees of one sort in one context
abbrev pub Rows : ℕ → ℕ → ℕ → ℕ → ℕ → List ℕ → ℕ → List ℕ → Step → List ℕ → Type 0
Rows n left sort count c = Sorted n left (replicate count sort) c c

-- what follows a head word of this shape and value
abbrev pub Shape : ℕ → ℕ → Bool → Follows → ℕ → ℕ → List ℕ → ℕ → List ℕ → Step → List ℕ → Type 0
Shape n left noted w v c = NotedStep (follow n (tree n left) w v) (λ p. note_follow c noted w (to_forest p.1))

-- a kind of scalars that begins neither an aggregate nor a row of scalars alone
pub record OtherScalar (k : ℕ) : Type 0 where
  pub scalar : k ≤ 95
  pub no_row : 66 ≤ k → 70 < k
  pub no_aggregate : 74 ≤ k → 77 < k

-- what follows the head word at a place
abbrev pub After : ℕ → ℕ → ℕ → List ℕ → ℕ → List ℕ → Step → List ℕ → Type 0
After n left c ws at d r e =
    Shape n left (noted (kind_of (get_or ws at 0))) (entry_of (kind_of (get_or ws at 0))).follows (value_of (get_or ws at 0)) c ws (at + 1) d r e

-- ---- what is left, on lists

-- numbers noted one after the other
abbrev pub push_all : List ℕ → List ℕ → List ℕ
push_all [] d = d
push_all (x ∷ xs) d = push_all xs (push x d)
