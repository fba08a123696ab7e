-- What Resolve answers and leaves, from its steps.
use Prim.Native.Nat.{ℕ, ◌+◌, ◌<◌, ◌≤◌, min}
use native.Mathlib.Omega.{arith}
use mathlib.Core.Path.{◌≡◌, refl, ap, sym, ◌∙◌, subst}
use mathlib.Core.List.{List, [], ◌∷◌, ◌++◌, map}
use mathlib.Core.Bool.{Bool, true, false, ◌&&◌}
use mathlib.Core.Option.{Option, none, some}
use lib.ListN.{length, get_or, take, drop, replicate, length-replicate}
use lib.Seq.{take-append_seam, take-append-le}
use lib.Dec.{leb}
use borrow.Author.Tests.{leb-true, leb-false, le-leb, lt-leb}
use Rattle.std.specs.Prelude.{Result, Ok, Err, None}
use Rattle.definitions.specs.declared.answer.Given.{Given}
use Rattle.definitions.specs.declared.answer.Refusal.{Refusal}
use Rattle.definitions.specs.Table.{pick}
use Rattle.definitions.specs.Records.{Relation, Rule, Pack}
use Rattle.definitions.specs.Pack.{WellFormed, Reading, yes, refuse, read, words, total}
use Rattle.definitions.specs.Answers.{Answer, answer, buffer, words_and_steps, out_of_room, written_of, Answered, Outcome, done, refused, and_then, map_done}
use Rattle.definitions.specs.Checking.{check_answer}
use Rattle.checking.proofs.OperationLaws.{turned_away}
use Rattle.pack.proofs.PackLaws.{words-read, words-length}
use Rattle.definitions.specs.Kinds.{find, kinds_of, all_kinds}
use Rattle.definitions.specs.Places.{first_relation, start_of}
use Rattle.chains.specs.DirectoryWord.{Reaches, starts_in, names_in}
use Rattle.records.specs.declared.directory.Layout.{Layout}
use Rattle.records.specs.Directory.{Clear}
use Rattle.checking.specs.CheckPromises.{names_said, CheckedNotes}
use Rattle.checking.proofs.CheckLaws.{without_notes}
use Rattle.chains.specs.PackDirectory.{ClearTable, IsPack, IsDirectory}
use Rattle.filtered.specs.Taking.{Filled}
use Rattle.chains.proofs.CheckedLaws.{said-names, same-pack, short-checked}
use Rattle.chains.proofs.EntryLaws.{directed, reaches_one}
use Rattle.chains.proofs.DeclarationLaws.{a_record}
use Rattle.turning.proofs.LeftLaws.{noted-there}
use Rattle.inputs.proofs.BlocksStand.{reads_inputs}
use Rattle.chains.proofs.PackParts.{parts, find-name, find_kept}
use Rattle.definitions.specs.Tables.{Tables, derived_at, tables}
use Rattle.definitions.specs.Resolving.{equal_kinds, defaulted_equal, equal_refusal, resolve_rules, resolve_relations, stamp, first_rule, resolve_records, resolved}
use Rattle.definitions.specs.Operations.{resolve_answer, resolve_buffer}
use Rattle.directions.specs.Words.{derived_in, tables_in, first_equal}
use Rattle.chains.specs.Record.{value_at}
use Rattle.directions.specs.RecordRuns.{with_records, trees_resolved, TablesFilled}
use Rattle.resolve.specs.declared.checked.Figures.{Figures}
use Rattle.definitions.specs.WrittenRecords.{beginnings, pieces_of}
use Rattle.resolve.specs.Finish.{stamp_all, AskedOf, NoneAsked, FiguresSaid, ResolveAsked, PlacedAsked, TablesFor, CheckedAsked, RoomFor, front_of, Into, FinishAsked, FinishCame, given_out, written_out}
use Rattle.turning.specs.Notes.{notes_of_pack}
use Rattle.turning.specs.TurnPromises.{known_in, TurnedAs, PackAsked, PackTurned}
use Rattle.turning.specs.Asked.{mark_notes, InWords, MarksAsked, NotesMarked}
use Rattle.turning.proofs.KnownLaws.{notes-inside, known_is}
use Rattle.turning.proofs.MarkedLaws.{marks-are}
use Rattle.directions.proofs.CheckedTables.{derived_alike}
use Rattle.directions.proofs.DefaultedLaws.{first_equal-is}

abbrev Ended : Type 0
Ended = Result (Unit {0}) Refusal

ended_either : {r : Refusal} → ◌≡◌ {A = Ended} (Ok tt) (Err r) → ⊥
ended_either e = let z : ◌≡◌ {A = ℕ} 0 1 = cc in omega arith

-- ---- the first three steps of Resolving

-- defaulted names, then the trees
unfoldable pub resolved_trees : Pack → Outcome Pack
resolved_trees p = elim (defaulted_equal (tables p.relations) p.defaulted) [ some n ↦ refused (equal_refusal p n) | none ↦ trees_resolved p ]

-- what comes of them in the words of the pack
pub record TreesCame (ws : List ℕ) (o : Result (Unit {0}) Refusal) (left : List ℕ) : Type 0 where
  pub each : (p : Pack) → read ws ≡ yes p → TurnedAs (resolved_trees p) o left

-- the tables of a checked pack, its notes, and a copy of its words
pub record TreesAsked (ws dir acts taken work notes : List ℕ) (f : Figures) : Type 0 where
  pub steps : ℕ
  pub tabled : TablesFilled ws (starts_in dir) acts taken steps
  pub reaches : Reaches dir tabled.checked.pack.names
  pub turns : PackAsked ws acts taken work notes f.blocks.at f.blocks.count f.layout.noted f.layout.all

-- ---- Resolving, step by step

records-are : (p : Pack) → resolve_records p ≡ map_done (stamp_all p) (trees_resolved p)
unfolding trees_resolved
records-are p = go (resolve_rules p (first_rule p) p.rules)
  where
    more : (rls : List Rule) (o : Outcome (List Relation))
        → map_done (λ rels. record { edition = p.edition; names = p.names; defaulted = p.defaulted; relations = map (stamp p) rels; rules = rls; blocks = p.blocks }) o ≡ map_done (stamp_all p) (map_done (λ rels. with_records p rels rls) o)
    more rls (done rels) = refl
    more rls (refused r) = refl

    go : (o : Outcome (List Rule))
        → and_then o (λ rules. map_done (λ relations. record { edition = p.edition; names = p.names; defaulted = p.defaulted; relations = map (stamp p) relations; rules = rules; blocks = p.blocks }) (resolve_relations p (first_relation p) p.relations))
        ≡ map_done (stamp_all p) (and_then o (λ rules. map_done (λ relations. with_records p relations rules) (resolve_relations p (first_relation p) p.relations)))
    go (done rls) = more rls (resolve_relations p (first_relation p) p.relations)
    go (refused r) = refl

resolved-is : (p : Pack) → resolved p ≡ map_done (stamp_all p) (resolved_trees p)
unfolding resolved resolved_trees
resolved-is p = go (defaulted_equal (tables p.relations) p.defaulted)
  where
    go : (o : Option ℕ) → elim o [ some n ↦ refused (equal_refusal p n) | none ↦ resolve_records p ] ≡ map_done (stamp_all p) (elim o [ some n ↦ refused (equal_refusal p n) | none ↦ trees_resolved p ])
    go (some n) = refl
    go none = records-are p

-- ---- defaulted names

pub equal_named : (T : Tables) (ds : List ℕ) (n : ℕ) → defaulted_equal T ds ≡ some n → equal_kinds (T.derived n) ≡ true
unfolding defaulted_equal
equal_named T [] n e = let z : ◌≡◌ {A = ℕ} 0 1 = cc in absurd (omega arith)
equal_named T (d ∷ ds) n e = go (equal_kinds (T.derived d)) refl e (λ q. equal_named T ds n q)
  where
    go : (b : Bool) → equal_kinds (T.derived d) ≡ b → pick b (some d) (defaulted_equal T ds) ≡ some n → (defaulted_equal T ds ≡ some n → equal_kinds (T.derived n) ≡ true) → equal_kinds (T.derived n) ≡ true
    go true h e ih = let z : d ≡ n = cc in subst (λ (x : ℕ). equal_kinds (T.derived x) ≡ true) z h
    go false h e ih = ih e

pub declared_of : (k : Option (List ℕ)) (o : Option Relation) → equal_kinds (derived_at k o) ≡ true → (r : Relation) × (o ≡ some r)
declared_of k none e = let z : ◌≡◌ {A = ℕ} 0 1 = cc in absurd (omega arith)
declared_of k (some r) e = (r, refl)

module _ {ws dir acts taken work notes : List ℕ} {f : Figures} (a : TreesAsked ws dir acts taken work notes f) where
  abbrev starts : List ℕ
  starts = starts_in dir

  abbrev p : Pack
  p = a.tabled.checked.pack

  abbrev h : read ws ≡ yes p
  h = a.tabled.checked.reads

  w : WellFormed p
  w = (words-read ws p h).fine

  abbrev T : Tables
  T = tables p.relations

  module _ {found : Option ℕ} (first : found ≡ first_equal ws acts 3 (value_at ws 2)) where
    derived-is : (m : ℕ) → derived_in ws (get_or acts m 0) ≡ T.derived m
    unfolding tables_in
    derived-is m = derived_alike ws acts taken p h a.tabled.filled.says a.tabled.filled.knows m

    found-is : found ≡ defaulted_equal T p.defaulted
    found-is = first ∙ first_equal-is ws p h acts T derived-is

    its-relation : (m : ℕ) → defaulted_equal T p.defaulted ≡ some m → (r : Relation) × (find m p.relations ≡ some r)
    unfolding tables
    its-relation m e = declared_of (kinds_of p.relations m) (find m p.relations) (equal_named T p.defaulted m e)

    low : (m : ℕ) → defaulted_equal T p.defaulted ≡ some m → m < p.names
    low m e =
        let r = its-relation m e in
        let k = (find_kept p.names m [] p.relations r.0 (parts p w).relations-fine r.1).1 in
        let q = find-name p.relations m r.0 r.1 in
        omega (arith, k.below)

    -- none of them: all goes by the trees
    whole-none : defaulted_equal T p.defaulted ≡ none → resolved_trees p ≡ trees_resolved p
    unfolding resolved_trees
    whole-none e = ap (λ (o : Option ℕ). elim o [ some n ↦ refused (equal_refusal p n) | none ↦ trees_resolved p ]) e

    whole_some : (m : ℕ) → defaulted_equal T p.defaulted ≡ some m → resolved_trees p ≡ refused (equal_refusal p m)
    unfolding resolved_trees
    whole_some m e = ap (λ (o : Option ℕ). elim o [ some n ↦ refused (equal_refusal p n) | none ↦ trees_resolved p ]) e

    of_pack : (o : Ended) (left : List ℕ) → TurnedAs (resolved_trees p) o left → (q : Pack) → read ws ≡ yes q → TurnedAs (resolved_trees q) o left
    of_pack o left c q e = subst (λ (x : Pack). TurnedAs (resolved_trees x) o left) (same-pack ws h e) c

    pub trees_turned : found ≡ none → {o : Ended} {left : List ℕ} → PackTurned ws o left → TreesCame ws o left
    trees_turned z {o} {left} t =
        record { each = of_pack o left (subst (λ (x : Outcome Pack). TurnedAs x o left) (sym (whole-none (sym found-is ∙ z))) (t p h)) }

    -- one of them
    module _ {name : ℕ} (named : found ≡ some name) where
      it_is : defaulted_equal T p.defaulted ≡ some name
      it_is = sym found-is ∙ named

      pub default_name : Reaches dir (name + 1)
      default_name = reaches_one a.reaches (low name it_is)

      start_is : get_or starts name 0 ≡ start_of p.names name (first_relation p) p.relations
      start_is = let r = its-relation name it_is in a_record p w starts (a.tabled.filled.noted.placed p h) name r.0 r.1

      pub trees_equal : (left : List ℕ) → TreesCame ws (Err (record { number = 9; place = get_or starts name 0; name = name; other = 0 })) left
      trees_equal left =
          record {
            each = of_pack (Err (record { number = 9; place = get_or starts name 0; name = name; other = 0 })) left
                (subst (λ (o : Outcome Pack). TurnedAs o (Err (record { number = 9; place = get_or starts name 0; name = name; other = 0 })) left) (sym (whole_some name it_is))
                (ap (λ (x : ℕ). Err (record { number = 9; place = x; name = name; other = 0 })) start_is));
          }

-- ---- the answers

module _ {ws : List ℕ} (c : IsPack ws) (lent : List ℕ) where
  abbrev q : Pack
  q = c.pack

  answer-is : resolve_answer ws (length lent) ≡ given_out (all_kinds q.relations).steps (length lent) (map_done (stamp_all q) (resolved_trees q))
  unfolding resolve_answer
  answer-is = rw c.reads (ap (given_out (all_kinds q.relations).steps (length lent)) (resolved-is q))

  buffer-is : resolve_buffer ws lent ≡ written_out lent (map_done (stamp_all q) (resolved_trees q))
  unfolding resolve_buffer
  buffer-is = rw c.reads (ap (written_out lent) (resolved-is q))

  -- refused
  same-refusal : {x y : Refusal} → ◌≡◌ {A = Ended} (Err x) (Err y) → x ≡ y
  same-refusal {x} {y} e = let z : x ≡ y = cc in z

  pub resolve_stopped : {o : Ended} {left : List ℕ} {r : Refusal} → TreesCame ws o left → o ≡ Err r → Answered resolve_answer resolve_buffer ws lent (Err r) lent
  resolve_stopped {o} {left} {r} t e = go (resolved_trees q) refl (t.each q c.reads)
    where
      go : (u : Outcome Pack) → resolved_trees q ≡ u → TurnedAs u o left → Answered resolve_answer resolve_buffer ws lent (Err r) lent
      go (done x) s k = absurd (ended_either (sym k.0 ∙ e))
      go (refused x) s k =
          record {
            answers = ap Err (same-refusal (sym e ∙ k)) ∙ sym (answer-is ∙ ap (λ (u : Outcome Pack). given_out (all_kinds q.relations).steps (length lent) (map_done (stamp_all q) u)) s);
            leaves = sym (buffer-is ∙ ap (λ (u : Outcome Pack). written_out lent (map_done (stamp_all q) u)) s);
          }

  -- done
  turned_done : (x : Pack) → resolved_trees q ≡ done x → trees_resolved q ≡ done x
  unfolding resolved_trees
  turned_done x e = go (defaulted_equal (tables q.relations) q.defaulted) e
    where
      go : (o : Option ℕ) → elim o [ some n ↦ refused (equal_refusal q n) | none ↦ trees_resolved q ] ≡ done x → trees_resolved q ≡ done x
      go (some n) e = let z : ◌≡◌ {A = ℕ} 0 1 = cc in absurd (omega arith)
      go none e = e

  pub record WholeDone (left : List ℕ) : Type 0 where
    pub whole : Pack
    pub outcome : resolved_trees q ≡ done whole
    pub resolves : trees_resolved q ≡ done whole
    pub stands : left ≡ words whole

  pub whole-done : {o : Ended} {left : List ℕ} → TreesCame ws o left → o ≡ Ok tt → WholeDone left
  whole-done {o} {left} t e = go (resolved_trees q) refl (t.each q c.reads)
    where
      go : (u : Outcome Pack) → resolved_trees q ≡ u → TurnedAs u o left → WholeDone left
      go (done x) s k = record { whole = x; outcome = s; resolves = turned_done x s; stands = k.1 }
      go (refused r) s k = absurd (ended_either (sym e ∙ k))

  pub resolve-done : {left : List ℕ} → WholeDone left → {answer : Answer} {out : List ℕ} → FinishCame ws lent answer out → Answered resolve_answer resolve_buffer ws lent answer out
  resolve-done d f =
      record {
        answers = f.answers q d.whole c.reads d.resolves ∙ sym (answer-is ∙ ap (λ (o : Outcome Pack). given_out (all_kinds q.relations).steps (length lent) (map_done (stamp_all q) o)) d.outcome);
        leaves = f.leaves q d.whole c.reads d.resolves ∙ sym (buffer-is ∙ ap (λ (o : Outcome Pack). written_out lent (map_done (stamp_all q) o)) d.outcome);
      }

-- a pack that is not one
pub resolve-refused : (ws lent : List ℕ) {a : Answer} {r : Refusal} → a ≡ check_answer ws → a ≡ Err r → Answered resolve_answer resolve_buffer ws lent a lent
unfolding resolve_answer resolve_buffer
resolve-refused ws lent e o =
    let t = turned_away ws lent e o (λ p. given_out (all_kinds p.relations).steps (length lent) (resolved p)) (λ p. written_out lent (resolved p)) in record { answers = t.0; leaves = t.1 }

-- ---- for the code

module _ {ws dir acts taken : List ℕ} {asked₀ : List Bool} {notes : List ℕ} {f : Figures} {work : List ℕ} (a : ResolveAsked ws dir acts taken asked₀ notes f work) where
  abbrev its : Pack
  its = a.directory.checked.pack

  abbrev checked : read ws ≡ yes its
  checked = a.directory.checked.reads

  fine : WellFormed its
  fine = (words-read ws its checked).fine

  same-words : ws ≡ words its
  same-words = sym (words-read ws its checked).same

  abbrev all : ℕ
  all = f.layout.all

  abbrev its-tables : TablesFilled ws (starts_in dir) acts taken f.steps
  its-tables = record { checked = a.directory.checked; declares = names_in dir f.layout.relations; filled = a.filled }

  -- what stamping asks of the notes
  there : InWords ws (notes_of_pack its)
  there = subst (λ (l : List ℕ). InWords l (notes_of_pack its)) (sym same-words) (notes-inside its fine)

  pub marks-asked : MarksAsked ws notes all
  marks-asked = record { ns = notes_of_pack its; are = a.noted.held; many = a.noted.many; room = a.noted.room; there = there }

  module _ {asked : List Bool} (m : NotesMarked ws notes all asked₀ asked) where
    its-low : (r : Relation) → find r.name its.relations ≡ some r → r.name < its.names
    its-low r e = (find_kept its.names r.name [] its.relations r (parts its fine).relations-fine e).1.below

    asks : AskedOf its asked
    asks =
        record {
          says = λ r e.
              let low = its-low r e in
              let long : r.name < length asked₀ = omega (arith, a.lent.long, a.directory.named its checked) in
              ap (λ (t : List Bool). get_or t r.name false) (m (notes_of_pack its) a.noted.held a.noted.many there ∙ ap (λ (x : List ℕ). mark_notes x (notes_of_pack its) None asked₀) same-words)
              ∙ marks-are its fine r e (omega (arith, (parts its fine).most)) asked₀ long (a.lent.clear r.name);
        }

    -- the result
    module _ {o : Ended} {left : List ℕ} (t : TreesCame ws o left) (e : o ≡ Ok tt) where
      pub finish_asked : {places : List ℕ} → places ≡ beginnings 0 (pieces_of its) → FinishAsked ws places acts asked left f.layout.relations f.steps
      finish_asked b =
          let d = whole-done a.directory.checked [] t e in
          record {
            taken = taken;
            tabled = its-tables;
            records = starts_in dir;
            counts = a.directory.counted its checked;
            begins = b;
            asks = asks;
            whole = d.whole;
            resolves = d.resolves;
            stands = d.stands;
          }

      pub resolve-all : {lent : List ℕ} {answer : Answer} {out : List ℕ} → FinishCame ws lent answer out → Answered resolve_answer resolve_buffer ws lent answer out
      resolve-all {lent} g = resolve-done a.directory.checked lent (whole-done a.directory.checked lent t e) g

  -- the trees
  pub trees_asked : {words : List ℕ} → words ≡ ws → TreesAsked ws dir acts taken words notes f
  trees_asked e =
      let i = reads_inputs ws its checked a.directory.blocked in
      let s = short-checked a.directory.checked in
      let b = a.blocks in
      record {
        steps = f.steps;
        tabled = its-tables;
        reaches = subst (Reaches dir) (a.directory.named its checked) a.directory.reaches;
        turns = record {
          pack = its;
          checked = checked;
          knows = (λ j. known_in ws acts taken (a.blocks j) (a.many j)) ∙ known_is ws acts taken its checked a.filled.says a.filled.knows a.directory.blocked;
          copied = e;
          noted = a.noted;
        };
      }

pub blocks-near : {ws : List ℕ} {l : Layout} {dir : List ℕ} → IsDirectory ws l dir → (l.blocks < 8192) × (value_at ws l.blocks ≤ 64)
blocks-near {ws} d =
    let s = short-checked d.checked in
    let i = reads_inputs ws d.checked.pack d.checked.reads d.blocked in
    (omega (arith, i.near), omega (arith, i.counts, i.few))

pub in_asked : {ws : List ℕ} {l : Layout} {dir acts₀ taken₀ : List ℕ} {asked : List Bool} {out work : List ℕ} {room : ℕ} → CheckedAsked ws l dir acts₀ taken₀ asked out room work
    → {acts taken : List ℕ} {steps : ℕ} → Filled ws (names_in dir l.relations) (starts_in dir) acts taken steps → {g : Figures} → FiguresSaid ws l steps room g → ResolveAsked ws dir acts taken asked out g work
in_asked {ws} {l} {dir} {acts₀} {taken₀} {asked} {out} {work} {room} a f {g} h =
    let b : CheckedAsked ws g.layout dir acts₀ taken₀ asked out room work = subst (λ (k : Layout). CheckedAsked ws k dir acts₀ taken₀ asked out room work) (sym h.laid) a in
    record { directory = b.directory; filled = rw (h.laid, h.steps) f; lent = b.asked-lent; blocks = rw h.laid h.blocks; many = rw h.laid h.many; noted = b.notes_in; room = b.same; fits = rw h.room b.fits }

-- a pack that was checked and noted where there is room for its notes
module _ {ws d e d' e' : List ℕ} {r : Result Layout Refusal} {l : Layout} (clear : Clear (names_said ws) d) (c : CheckedNotes ws d e r d' e') (o : r ≡ Ok l) where
  pub its-directory : IsDirectory ws l d'
  its-directory = directed clear (without_notes c) o

  pub its-words : length ws ≤ 8192
  its-words = short-checked its-directory.checked

  pub checked-asked : {acts taken : List ℕ} {asked : List Bool} {work : List ℕ} {room : ℕ} → RoomFor ws e room → TablesFor ws d acts taken asked → length d' ≡ length d → length e' ≡ length e → length work ≡ length ws → CheckedAsked ws l d' acts taken asked e' room work
  checked-asked {acts} {taken} {asked} to tables long kept same =
      let names : names_said ws ≡ l.names = said-names ws its-directory.checked ∙ sym (its-directory.named its-directory.checked.pack its-directory.checked.reads) in
      record {
        directory = its-directory;
        reaches = record { most = tables.reaches.most; long = omega (arith, tables.reaches.long) };
        acts-lent = subst (λ (n : ℕ). ClearTable n acts) names tables.acts-lent;
        taken-lent = subst (λ (n : ℕ). ClearTable n taken) names tables.taken-lent;
        asked-lent = subst (λ (n : ℕ). NoneAsked n asked) names tables.asked-lent;
        notes_in = noted-there c o to.first to.blank (to.noted its-words) its-directory.checked.pack its-directory.checked.reads;
        same = same;
        fits = omega (arith, to.fits, kept);
      }

-- ---- what stands at the front

front-words : (q : Pack) (rest : List ℕ) → take (total q) (words q ++ rest) ≡ words q
front-words q rest = rw (← words-length q) (take-append_seam (words q) rest)

-- what is written does not depend on what was there
written_alike : (steps : ℕ) (o : Outcome Pack) (lent other : List ℕ) → length lent ≡ length other
    → front_of (given_out steps (length lent) o) (written_out lent o) ≡ front_of (given_out steps (length lent) o) (written_out other o)
written_alike steps (refused r) lent other e = refl
written_alike steps (done q) lent other e = rw (← e) (go (leb (total q) 8192 && leb (total q) (length lent)))
  where
    go : (b : Bool) → front_of (pick b (words_and_steps (total q) steps) out_of_room) (pick b (words q ++ drop (total q) lent) lent) ≡ front_of (pick b (words_and_steps (total q) steps) out_of_room) (pick b (words q ++ drop (total q) other) other)
    go true = front-words q (drop (total q) lent) ∙ sym (front-words q (drop (total q) other))
    go false = refl

pub front_alike : (ws lent other : List ℕ) → length lent ≡ length other
    → front_of (resolve_answer ws (length lent)) (resolve_buffer ws lent) ≡ front_of (resolve_answer ws (length lent)) (resolve_buffer ws other)
unfolding resolve_answer resolve_buffer
front_alike ws lent other e = go (read ws)
  where
    go : (m : Reading)
        → front_of (answer m (λ p. given_out (all_kinds p.relations).steps (length lent) (resolved p))) (buffer m (λ p. written_out lent (resolved p)) lent)
        ≡ front_of (answer m (λ p. given_out (all_kinds p.relations).steps (length lent) (resolved p))) (buffer m (λ p. written_out other (resolved p)) other)
    go (yes p) = written_alike (all_kinds p.relations).steps (resolved p) lent other e
    go (refuse r) = refl

-- at the front of a slice: what Resolve leaves in a slice of so many words
pub into : (ws own : List ℕ) {room : ℕ} → length own ≡ room → {a : Answer} {done left : List ℕ} → Answered resolve_answer resolve_buffer ws own a done → front_of a left ≡ front_of a done → Into ws room a left
into ws own {room} l {a} {done} {left} r f =
    record {
      each = λ lent e.
          (let s : length own ≡ length lent = l ∙ sym e in
          let k = r.answers ∙ ap (resolve_answer ws) s in
          (k, f ∙ ap (front_of a) r.leaves ∙ ap (λ (x : Answer). front_of x (resolve_buffer ws own)) r.answers ∙ front_alike ws own lent s ∙ sym (ap (λ (x : Answer). front_of x (resolve_buffer ws lent)) r.answers)));
    }

-- after a refusal nothing stands there
pub into_refused : (ws : List ℕ) (room : ℕ) {a : Answer} {r : Refusal} → a ≡ Err r → ((lent : List ℕ) → a ≡ resolve_answer ws (length lent)) → {left : List ℕ} → Into ws room a left
into_refused ws room {a} {r} e k {left} = record { each = λ lent l. (k lent, ap (λ (x : Answer). front_of x left) e ∙ sym (ap (λ (x : Answer). front_of x (resolve_buffer ws lent)) e)) }

pub into_stopped : (ws : List ℕ) (room : ℕ) {a : Answer} {r : Refusal} → ((lent : List ℕ) → Err r ≡ resolve_answer ws (length lent)) → a ≡ Err r → {left : List ℕ} → Into ws room a left
into_stopped ws room k e = into_refused ws room e (λ lent. e ∙ k lent)

-- no more words are said than there is room for
given-within : (steps room : ℕ) (o : Outcome Pack) {g : Given} → given_out steps room o ≡ Ok g → g.value ≤ room
given-within steps room (refused r) e = let z : ◌≡◌ {A = ℕ} 0 1 = cc in absurd (omega arith)
given-within steps room (done q) {g} e = go (leb (total q) 8192) (leb (total q) room) refl e
  where
    go : (a b : Bool) → leb (total q) room ≡ b → pick (a && b) (words_and_steps (total q) steps) out_of_room ≡ Ok g → g.value ≤ room
    go true true h e = let z : total q ≡ g.value = cc in omega (arith, leb-true (total q) room h)
    go true false h e = let z : ◌≡◌ {A = ℕ} 0 1 = cc in absurd (omega arith)
    go false b h e = let z : ◌≡◌ {A = ℕ} 0 1 = cc in absurd (omega arith)

pub answer-within : (ws : List ℕ) (room : ℕ) {g : Given} → resolve_answer ws room ≡ Ok g → g.value ≤ room
unfolding resolve_answer
answer-within ws room {g} e = go (read ws) e
  where
    go : (m : Reading) → answer m (λ p. given_out (all_kinds p.relations).steps room (resolved p)) ≡ Ok g → g.value ≤ room
    go (yes p) e = given-within (all_kinds p.relations).steps room (resolved p) e
    go (refuse r) e = let z : ◌≡◌ {A = ℕ} 0 1 = cc in absurd (omega arith)

front_long : (a : Answer) (x y : List ℕ) (room : ℕ) → ((g : Given) → a ≡ Ok g → g.value ≤ room) → room ≤ length x → front_of a (x ++ y) ≡ front_of a x
front_long (Ok g) x y room h l = take-append-le g.value x y (omega (arith, h g refl))
front_long (Err r) x y room h l = refl

-- the result at the front of a longer slice
pub into_part : (ws own rest : List ℕ) {room : ℕ} → length own ≡ room → {a : Answer} {done left : List ℕ} → Answered resolve_answer resolve_buffer ws own a done → length done ≡ room → left ≡ done ++ rest → Into ws room a left
into_part ws own rest {room} l {a} {done} {left} r d e =
    into ws own l r (ap (front_of a) e ∙ front_long a done rest room (λ g q. answer-within ws room (sym (r.answers ∙ ap (resolve_answer ws) l) ∙ q)) (omega (arith, d)))

-- ---- in a slice of the caller's

-- room past 8,192 words does not matter
pub both_min : (n room : ℕ) → (leb n 8192 && leb n (min room 8192)) ≡ (leb n 8192 && leb n room)
both_min n room = go (leb n 8192) refl (leb n room) refl
  where
    go : (b : Bool) → leb n 8192 ≡ b → (c : Bool) → leb n room ≡ c → (b && leb n (min room 8192)) ≡ (b && leb n room)
    go true e true f = let k = leb-true n 8192 e in let l = leb-true n room f in le-leb n (min room 8192) (omega arith) ∙ sym f
    go true e false f = let l = leb-false n room f in lt-leb n (min room 8192) (omega arith) ∙ sym f
    go false e c f = refl

pub given_enough : (steps : ℕ) (o : Outcome Pack) (room : ℕ) → given_out steps (min room 8192) o ≡ given_out steps room o
given_enough steps (refused r) room = refl
given_enough steps (done q) room = rw (both_min (total q) room)

pub answer_enough : (ws : List ℕ) (room : ℕ) → resolve_answer ws (min room 8192) ≡ resolve_answer ws room
unfolding resolve_answer
answer_enough ws room = go (read ws)
  where
    go : (m : Reading) → answer m (λ p. given_out (all_kinds p.relations).steps (min room 8192) (resolved p)) ≡ answer m (λ p. given_out (all_kinds p.relations).steps room (resolved p))
    go (yes p) = given_enough (all_kinds p.relations).steps (resolved p) room
    go (refuse r) = refl

-- what is left: the words that are said to be written, and the others as they were
written-whole : (steps : ℕ) (o : Outcome Pack) (lent own : List ℕ) → length own ≡ min (length lent) 8192
    → written_out lent o ≡ take (written_of (given_out steps (length own) o)) (written_out own o) ++ drop (written_of (given_out steps (length own) o)) lent
written-whole steps (refused r) lent own e = refl
written-whole steps (done q) lent own e = rw (e, both_min (total q) (length lent)) (go (leb (total q) 8192 && leb (total q) (length lent)))
  where
    go : (b : Bool)
        → pick b (words q ++ drop (total q) lent) lent
        ≡ take (written_of (pick b (words_and_steps (total q) steps) out_of_room)) (pick b (words q ++ drop (total q) own) own) ++ drop (written_of (pick b (words_and_steps (total q) steps) out_of_room)) lent
    go true = ap (λ (l : List ℕ). l ++ drop (total q) lent) (sym (front-words q (drop (total q) own)))
    go false = refl

whole-buffer : (ws lent own : List ℕ) → length own ≡ min (length lent) 8192
    → resolve_buffer ws lent ≡ take (written_of (resolve_answer ws (length own))) (resolve_buffer ws own) ++ drop (written_of (resolve_answer ws (length own))) lent
unfolding resolve_answer resolve_buffer
whole-buffer ws lent own e = go (read ws)
  where
    go : (m : Reading)
        → buffer m (λ p. written_out lent (resolved p)) lent
        ≡ take (written_of (answer m (λ p. given_out (all_kinds p.relations).steps (length own) (resolved p)))) (buffer m (λ p. written_out own (resolved p)) own)
        ++ drop (written_of (answer m (λ p. given_out (all_kinds p.relations).steps (length own) (resolved p)))) lent
    go (yes p) = written-whole (all_kinds p.relations).steps (resolved p) lent own e
    go (refuse r) = refl

taken-front : (a : Answer) (x y : List ℕ) → front_of a x ≡ front_of a y → take (written_of a) x ≡ take (written_of a) y
taken-front (Ok g) x y e = e
taken-front (Err r) x y e = refl

module _ (ws lent : List ℕ) {room : ℕ} (is : room ≡ min (length lent) 8192) {a : Answer} {made : List ℕ} (t : Into ws room a made) {count : ℕ} (says : count ≡ written_of a) where
  abbrev own : List ℕ
  own = replicate room 0

  own-long : length own ≡ room
  own-long = length-replicate {A = ℕ} room 0

  answered : a ≡ resolve_answer ws (length own)
  answered = (t.each own own-long).0

  pub count-within : (count ≤ length lent) × (count ≤ 8192)
  count-within = go a refl
    where
      go : (b : Answer) → a ≡ b → (count ≤ length lent) × (count ≤ 8192)
      go (Ok g) e =
          let w = answer-within ws (length own) (sym answered ∙ e) in
          let c : count ≡ g.value = says ∙ ap written_of e in
          (omega (arith, w, c, own-long, is), omega (arith, w, c, own-long, is))
      go (Err r) e = let c : count ≡ 0 = says ∙ ap written_of e in (omega arith, omega arith)

  pub copied-out : {left : List ℕ} → left ≡ take count made ++ drop count lent → Answered resolve_answer resolve_buffer ws lent a left
  copied-out e =
      let same : length own ≡ min (length lent) 8192 = own-long ∙ is in
      let c : count ≡ written_of (resolve_answer ws (length own)) = says ∙ ap written_of answered in
      let f : take count made ≡ take (written_of (resolve_answer ws (length own))) (resolve_buffer ws own) =
      ap (λ (n : ℕ). take n made) says ∙ taken-front a made (resolve_buffer ws own) (t.each own own-long).1 ∙ ap (λ (x : Answer). take (written_of x) (resolve_buffer ws own)) answered
      in
      record {
        answers = answered ∙ ap (resolve_answer ws) same ∙ answer_enough ws (length lent);
        leaves = e ∙ (λ i. f i ++ drop (c i) lent) ∙ sym (whole-buffer ws lent own same);
      }

-- ---- with the places of its pieces

module _ {ws acts taken : List ℕ} {asked : List Bool} {places notes : List ℕ} {f : Figures} {work : List ℕ} (a : PlacedAsked ws acts taken asked places notes f work) where
  pub turns-asked : {words : List ℕ} → words ≡ ws → PackAsked ws acts taken words notes f.blocks.at f.blocks.count f.layout.noted f.layout.all
  turns-asked e = (trees_asked a.resolves e).turns

  came : {o : Ended} {left : List ℕ} → PackTurned ws o left → TreesCame ws o left
  came t = trees_turned (trees_asked a.resolves refl) refl a.unequal t

  pub placed_finish : {o : Ended} {left : List ℕ} → PackTurned ws o left → o ≡ Ok tt → FinishAsked ws places acts asked left f.layout.relations f.steps
  placed_finish t e = finish_asked a.resolves a.marked (came t) e a.begins

  pub placed-all : {o : Ended} (left : List ℕ) → PackTurned ws o left → o ≡ Ok tt → {lent : List ℕ} {answer : Answer} {out : List ℕ} → FinishCame ws lent answer out → Answered resolve_answer resolve_buffer ws lent answer out
  placed-all left t e g = resolve-all a.resolves a.marked (came t) e g

  pub placed_stopped : {o : Ended} (left : List ℕ) {r : Refusal} → PackTurned ws o left → o ≡ Err r → (lent : List ℕ) → Err r ≡ resolve_answer ws (length lent)
  placed_stopped left t e lent = (resolve_stopped a.resolves.directory.checked lent (came t) e).answers

-- a defaulted name with equal kinds
module _ {ws dir acts taken : List ℕ} {asked : List Bool} {notes : List ℕ} {f : Figures} {work : List ℕ} (a : ResolveAsked ws dir acts taken asked notes f work) {found : Option ℕ} (first : found ≡ first_equal ws acts 3 (value_at ws 2)) where
  pub equal_reached : {name : ℕ} → found ≡ some name → Reaches dir (name + 1)
  equal_reached z = default_name (trees_asked a refl) first z

  pub equal_refused : {name : ℕ} → found ≡ some name → (lent : List ℕ) → Err (record { number = 9; place = get_or (starts_in dir) name 0; name = name; other = 0 }) ≡ resolve_answer ws (length lent)
  equal_refused z lent = (resolve_stopped a.directory.checked lent (trees_equal (trees_asked a refl) first z []) refl).answers
