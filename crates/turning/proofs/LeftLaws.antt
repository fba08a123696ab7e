-- The notes that reading leaves are those of the pack.
use Prim.Native.Nat.{ℕ, suc, ◌+◌, ◌*◌, ◌<◌, ◌≤◌}
use native.Mathlib.Omega.{arith}
use mathlib.Core.Path.{◌≡◌, refl, ap, sym, ◌∙◌, subst}
use mathlib.Core.List.{List, [], ◌∷◌, ◌++◌, map, map-append}
use mathlib.Core.Bool.{false}
use mathlib.Core.Option.{Option, none, some}
use lib.ListN.{length, get_or, set, replicate, length-append, length-map, length-set}
use lib.Seq.{sets, get_or-set_same, get_or-set_other}
use Rattle.definitions.specs.Table.{judgment}
use Rattle.definitions.specs.Form.{Fine, words_by}
use Rattle.definitions.specs.Tree.{Tree, root, tree}
use Rattle.definitions.specs.Records.{Derivation, Relation, Body, Rule, Pack}
use Rattle.definitions.specs.FieldRows.{to_row}
use Rattle.definitions.specs.Pack.{WellFormed, yes, read, total, body, rule}
use Rattle.pack.proofs.PackLaws.{words-read, words-length}
use Rattle.reading.specs.Noting.{next_note, note_tree, push_all}
use Rattle.reading.proofs.NotesLaws.{push-long, push-count, all-long, all-count, all_append, all_sets, shaped, noted-tree}
use Rattle.records.specs.Directory.{notes_all, relations_at, rules_at, Clear, Laid, layout_of}
use Rattle.records.specs.declared.directory.Layout.{Layout}
use Rattle.std.specs.Prelude.{Ok}
use Rattle.checking.specs.CheckPromises.{CheckedNotes}
use Rattle.records.specs.Notes.{opened, inside, note_body, body_at, note_bodies, note_rule, note_optional, note_predicate, relations_left, notes_left}
use Rattle.checking.proofs.CheckLaws.{clear-zeros}
use Rattle.definitions.specs.Places.{relation_words, first_relation, hops}
use Rattle.chains.proofs.PackParts.{parts}
use Rattle.chains.proofs.EntryLaws.{rules-there}
use Rattle.definitions.specs.Resolving.{predicate_place, rule_words, first_rule}
use Rattle.directions.specs.RecordRuns.{EachKeeps, body_words, RelationKeeps}
use Rattle.directions.proofs.RuleLaws.{body-words, rule-parts}
use Rattle.directions.proofs.RelationLaws.{predicate_kept}
use Rattle.directions.proofs.TurnedPack.{defaulted-many, rules_keep, relations_keep}
use Rattle.turning.specs.Notes.{Note, note, context_of, note_code, notes_of, notes_run, body_notes, rule_notes, derived_notes, relation_notes, relations_noted, rules_noted, notes_of_pack, Held, NotesIn}
use Rattle.turning.proofs.RecordFlat.{its-derivation}
use Rattle.turning.proofs.PackLaws.{notes-short, notes-few}

abbrev codes : List Note → List ℕ
codes l = map note_code l

-- how many notes there are
abbrev many : List ℕ → ℕ
many d = get_or d 0 0

-- one more, as long as there is a number for it
next : (d : List ℕ) → many d < 8192 → next_note d ≡ many d + 1
next d h = omega arith

codes-append : (ns ms : List Note) (d : List ℕ) → push_all (codes (ns ++ ms)) d ≡ push_all (codes ms) (push_all (codes ns) d)
codes-append ns ms d = ap (λ (x : List ℕ). push_all x d) (map-append note_code ns ms) ∙ all_append (codes ns) (codes ms) d

codes-many : (ns : List Note) (d : List ℕ) → 0 < length d → many d + length ns ≤ 8192 → many (push_all (codes ns) d) ≡ many d + length ns
codes-many ns d l h = let m = length-map ns note_code in all-count (codes ns) d l (omega (arith, m)) ∙ omega (arith, m)

-- ---- a run of records

module _ {A : Type 0} (W X : A → List ℕ) (write : ℕ → ℕ → A → List ℕ → List ℕ) (N : ℕ → ℕ → A → List Note) (Keeps : A → Type 0) (alike : (a : A) → Keeps a → length (W a) ≡ length (X a)) where
  -- what is left of one, with the number that its first note has
  abbrev Leaves : Type 0
  Leaves = (a : A) → Keeps a → (j at : ℕ) (d : List ℕ) → 0 < length d → many d + length (N (many d + 1) at a) ≤ 8192 → write j at a d ≡ push_all (codes (N (many d + 1) at a)) d

  -- one, and then those that follow it
  pub run_next : Leaves → (a : A) → Keeps a → (l : List A)
      → ((j at : ℕ) (d : List ℕ) → 0 < length d → many d + length (notes_run X N (many d + 1) at l) ≤ 8192 → notes_all W write j at l d ≡ push_all (codes (notes_run X N (many d + 1) at l)) d)
      → (i j at : ℕ) (d : List ℕ) → 0 < length d → many d + length (notes_run X N (many d + 1) at (a ∷ l)) ≤ 8192
      → notes_all W write i (at + length (W a)) l (write j at a d) ≡ push_all (codes (notes_run X N (many d + 1) at (a ∷ l))) d
  unfolding notes_run
  run_next leaves a keeps l rest i j at d long room =
      let mine = N (many d + 1) at a in
      let its = notes_run X N (many d + 1 + length mine) (at + length (X a)) l in
      let len = length-append mine its in
      let d₁ = push_all (codes mine) d in
      let m : many d₁ ≡ many d + length mine = codes-many mine d long (omega (arith, len, room)) in
      let one = leaves a keeps j at d long (omega (arith, len, room)) in
      let n : many d₁ + 1 ≡ many d + 1 + length mine = omega (arith, m) in
      let p : at + length (W a) ≡ at + length (X a) = ap (λ (x : ℕ). at + x) (alike a keeps) in
      let e : notes_run X N (many d₁ + 1) (at + length (W a)) l ≡ its = λ x. notes_run X N (n x) (p x) l in
      ap (notes_all W write i (at + length (W a)) l) one
      ∙ rest i (at + length (W a)) d₁ (omega (arith, all-long (codes mine) d, long)) (omega (arith, ap length e, m, len, room))
      ∙ ap (λ (ns : List Note). push_all (codes ns) d₁) e
      ∙ sym (codes-append mine its d)

  pub run_left : Leaves → (l : List A) → EachKeeps Keeps l → (j at : ℕ) (d : List ℕ) → 0 < length d → many d + length (notes_run X N (many d + 1) at l) ≤ 8192
      → notes_all W write j at l d ≡ push_all (codes (notes_run X N (many d + 1) at l)) d
  unfolding notes_all notes_run
  run_left leaves [] h j at d long room = refl
  run_left leaves (a ∷ l) h j at d long room = run_next leaves a h.0 l (λ i b e q r. run_left leaves l h.1 i b e q r) (j + 1) j at d long room

-- ---- trees

tree_left : (t : Tree) (n sort : ℕ) → Fine (tree n 32 sort) t → (i inside at : ℕ) (d : List ℕ) → 0 < length d → many d + 1 ≡ i → many d + length (notes_of i inside false at t) ≤ 8192
    → (note_tree (context_of inside false) t (at, d)).1 ≡ push_all (codes (notes_of i inside false at t)) d
tree_left t n sort fine i inside at d long e room = ap (λ (s : ℕ × List ℕ). s.1) (noted-tree t (shaped t n 32 sort fine) i inside false at d long e room)

-- ---- rules

module _ (n : ℕ) where
  abbrev BodyKeeps : Body → Type 0
  BodyKeeps b = Fine (body n) b

  body_alike : (b : Body) → BodyKeeps b → length (words_by (body n) b) ≡ length (body_words b)
  body_alike b f = ap length (body-words n b f)

  body_left : (inside : ℕ) (b : Body) → BodyKeeps b → (j at : ℕ) (d : List ℕ) → 0 < length d → many d + length (body_notes inside (many d + 1) at b) ≤ 8192
      → body_at (context_of inside false) j at b d ≡ push_all (codes (body_notes inside (many d + 1) at b)) d
  unfolding body root Fine
  body_left inside b f j at d long room = tree_left b.tree n b.sort f.1 (many d + 1) inside (at + 1) d long refl room

  rule_left : (r : Rule) → Fine (rule n) r → (j at : ℕ) (d : List ℕ) → 0 < length d → many d + length (rule_notes (many d + 1) at r) ≤ 8192
      → note_rule n j at r d ≡ push_all (codes (rule_notes (many d + 1) at r)) d
  unfolding note_rule note_bodies rule_notes
  rule_left r fine j at d long room =
      let its = rule-parts n r fine in
      let i = many d + 1 in
      let d₁ = opened at d in
      let l₁ : 0 < length d₁ = omega (arith, long, push-long (note_code (note at 0 false)) d) in
      let m : many d₁ ≡ many d + 1 = push-count (note_code (note at 0 false)) d long (omega (arith, room)) in
      let c : inside d ≡ context_of i false = ap (λ (x : ℕ). context_of x false) (next d (omega (arith, room))) in
      let s : many d₁ + 1 ≡ suc i = omega (arith, m) in
      let e : notes_run body_words (body_notes i) (many d₁ + 1) (at + 4) (r.semantics ∷ r.versions) ≡ notes_run body_words (body_notes i) (suc i) (at + 4) (r.semantics ∷ r.versions) =
      ap (λ (x : ℕ). notes_run body_words (body_notes i) x (at + 4) (r.semantics ∷ r.versions)) s
      in
      let p : at + 3 + 1 ≡ at + 4 = omega arith in
      let B = words_by (body n) in
      (λ x. notes_all B (body_at (c x)) 0 (p x + length (B r.semantics)) r.versions (note_body (c x) (p x) r.semantics d₁))
      ∙ run_next B body_words (body_at (context_of i false)) (body_notes i) BodyKeeps body_alike (body_left i) r.semantics its.bodies.0 r.versions
      (λ j b e q r. run_left B body_words (body_at (context_of i false)) (body_notes i) BodyKeeps body_alike (body_left i) _ its.bodies.1 j b e q r)
      0 0 (at + 4) d₁ l₁ (omega (arith, ap length e, m, room))
      ∙ ap (λ (ns : List Note). push_all (codes ns) d₁) e

-- ---- relations

predicate_left : (p : Pack) → WellFormed p → (r : Relation) → RelationKeeps p r → (o : Option Derivation) → r.derivation ≡ o → (at : ℕ) (d : List ℕ) → 0 < length d
    → many d + length (derived_notes (many d + 1) at r o) ≤ 8192 → note_optional at (at + 4 + length r.slot_kinds) o d ≡ push_all (codes (derived_notes (many d + 1) at r o)) d
predicate_left p w r k none e at d long room = refl
predicate_left p w r k (some v) e at d long room =
    let fine : Fine (tree p.names 32 judgment) v.predicate = predicate_kept p.names r.derivation v e (its-derivation p w [] r k) in
    let i = many d + 1 in
    let d₁ = opened at d in
    let l₁ : 0 < length d₁ = omega (arith, long, push-long (note_code (note at 0 false)) d) in
    let m : many d₁ ≡ many d + 1 = push-count (note_code (note at 0 false)) d long (omega (arith, room)) in
    let c : inside d ≡ context_of i false = ap (λ (x : ℕ). context_of x false) (next d (omega (arith, room))) in
    let q : at + 4 + length r.slot_kinds + 1 + 4 + 3 * hops v.path + 3 + length v.slot_entities ≡ at + predicate_place r v = omega arith in
    (λ x. (note_tree (c x) v.predicate (q x, d₁)).1)
    ∙ tree_left v.predicate p.names judgment fine (suc i) i (at + predicate_place r v) d₁ l₁ (omega (arith, m)) (omega (arith, m, room))

relation_left : (p : Pack) → WellFormed p → (r : Relation) → RelationKeeps p r → (j at : ℕ) (d : List ℕ) → 0 < length d → many d + length (relation_notes (many d + 1) at r) ≤ 8192
    → note_predicate j at r d ≡ push_all (codes (relation_notes (many d + 1) at r)) d
unfolding note_predicate relation_notes
relation_left p w r k j at d long room = predicate_left p w r k r.derivation refl at d long room

-- ---- in the array

below : (vs d : List ℕ) (j k : ℕ) → k < j → get_or (sets d j vs) k 0 ≡ get_or d k 0
below [] d j k h = refl
below (v ∷ vs) d j k h = below vs (set d j v) (suc j) k (omega arith) ∙ get_or-set_other d j k v 0 (λ e. omega arith)

held_sets : (ns : List Note) (d : List ℕ) (j : ℕ) → j + length ns ≤ length d → Held (sets d j (codes ns)) j ns
held_sets [] d j h = tt
held_sets (n ∷ ns) d j h =
    let d₁ = set d j (note_code n) in
    (below (codes ns) d₁ (suc j) j (omega arith) ∙ get_or-set_same d j (note_code n) 0 (omega arith), held_sets ns d₁ (suc j) (omega (arith, length-set d j (note_code n))))

held_besides : (ns : List Note) (d : List ℕ) (j v : ℕ) → 0 < j → Held d j ns → Held (set d 0 v) j ns
held_besides [] d j v h g = tt
held_besides (n ∷ ns) d j v h g = (get_or-set_other d 0 j v 0 (λ e. omega arith) ∙ g.0, held_besides ns d (suc j) v (omega arith) g.1)

-- ---- a pack

module _ (p : Pack) (w : WellFormed p) (e : List ℕ) (long : 0 < length e) (blank : many e ≡ 0) where
  abbrev n : ℕ
  n = p.names

  abbrev all_left : List ℕ
  all_left = notes_left n 2 (to_row p).1 e

  abbrev first_left : List ℕ
  first_left = relations_left n 2 (to_row p).1 e

  few : length (relations_noted p) + length (rules_noted p) ≤ 8192
  few = omega (arith, notes-few p w, length-append (relations_noted p) (rules_noted p))

  first-place : relations_at n 2 (to_row p).1 + 1 ≡ first_relation p
  unfolding relations_at
  first-place = omega (arith, defaulted-many n p.defaulted)

  zeros : Clear n (replicate 4608 0)
  zeros = clear-zeros n 4608 (omega (arith, (parts p w).most))

  rule-place : rules_at n 2 (to_row p).1 + 1 ≡ first_rule p
  rule-place = omega (arith, rules-there p w (replicate 4608 0) zeros)

  relations-left : first_left ≡ push_all (codes (relations_noted p)) e
  unfolding relations_left relations_noted
  relations-left =
      let q : notes_run (relation_words n) relation_notes (many e + 1) (relations_at n 2 (to_row p).1 + 1) p.relations ≡ relations_noted p =
      (let z : many e + 1 ≡ 1 = omega (arith, blank) in λ x. notes_run (relation_words n) relation_notes (z x) (first-place x) p.relations)
      in
      run_left (relation_words n) (relation_words n) note_predicate relation_notes (RelationKeeps p) (λ r k. refl) (relation_left p w) p.relations (relations_keep p w).all 0 (relations_at n 2 (to_row p).1 + 1) e long
      (omega (arith, ap length q, few, blank))
      ∙ ap (λ (ns : List Note). push_all (codes ns) e) q

  first-many : many first_left ≡ length (relations_noted p)
  first-many = ap many relations-left ∙ codes-many (relations_noted p) e long (omega (arith, few, blank)) ∙ omega (arith, blank)

  notes-left : all_left ≡ push_all (codes (notes_of_pack p)) e
  unfolding notes_left rules_noted
  notes-left =
      let l₁ : 0 < length first_left = omega (arith, long, ap length relations-left, all-long (codes (relations_noted p)) e) in
      let q : notes_run (rule_words n) rule_notes (many first_left + 1) (rules_at n 2 (to_row p).1 + 1) p.rules ≡ rules_noted p =
      (let z : many first_left + 1 ≡ 1 + length (relations_noted p) = omega (arith, first-many) in λ x. notes_run (rule_words n) rule_notes (z x) (rule-place x) p.rules)
      in
      run_left (rule_words n) (rule_words n) (note_rule n) rule_notes (Fine (rule n)) (λ r k. refl) (rule_left n) p.rules (rules_keep p w).all 0 (rules_at n 2 (to_row p).1 + 1) first_left l₁
      (omega (arith, ap length q, few, first-many))
      ∙ (λ x. push_all (codes (q x)) (relations-left x))
      ∙ sym (codes-append (relations_noted p) (rules_noted p) e)

  all-many : many all_left ≡ length (notes_of_pack p)
  all-many = ap many notes-left ∙ codes-many (notes_of_pack p) e long (omega (arith, notes-few p w, blank)) ∙ omega (arith, blank)

  pub notes_in : total p < length e → NotesIn p all_left (many first_left) (many all_left)
  notes_in room =
      let m = length-map (notes_of_pack p) note_code in
      let k : get_or e 0 0 + 1 ≡ 1 = omega (arith, blank) in
      let s = all_sets (codes (notes_of_pack p)) e long (omega (arith, notes-few p w, blank, m)) in
      let h : Held (sets e (get_or e 0 0 + 1) (codes (notes_of_pack p))) 1 (notes_of_pack p) =
      subst (λ (i : ℕ). Held (sets e i (codes (notes_of_pack p))) 1 (notes_of_pack p)) (sym k) (held_sets (notes_of_pack p) e 1 (omega (arith, notes-short p w, room)))
      in
      record {
        room = omega (arith, all-many, notes-short p w, room, ap length notes-left, all-long (codes (notes_of_pack p)) e);
        held = subst (λ (l : List ℕ). Held l 1 (notes_of_pack p)) (sym (notes-left ∙ s)) (held_besides (notes_of_pack p) _ 1 _ (omega arith) h);
        first = first-many;
        many = all-many;
      }

-- of a pack that was checked
pub noted-there : {ws d e d' e' : List ℕ} {r : Laid} → CheckedNotes ws d e r d' e' → {l : Layout} → r ≡ Ok l → 0 < length e → get_or e 0 0 ≡ 0 → length ws < length e → (p : Pack) → read ws ≡ yes p
    → NotesIn p e' l.noted l.all
unfolding layout_of
noted-there {ws} {e = e} {e' = e'} {r = r} c {l} o long blank room p h =
    let was = words-read ws p h in
    let size : total p ≡ length ws = sym (words-length p) ∙ ap length was.same in
    let first = relations_left p.names 2 (to_row p).1 e in
    let q : ◌≡◌ {A = Laid} (Ok l) (Ok (layout_of p.names 2 (length ws) (to_row p).1 (get_or first 0 0) (get_or (notes_left p.names 2 (to_row p).1 e) 0 0))) = sym o ∙ c.lays p h in
    let same : l ≡ layout_of p.names 2 (length ws) (to_row p).1 (get_or first 0 0) (get_or (notes_left p.names 2 (to_row p).1 e) 0 0) = cc in
    let k = notes_in p was.fine e long blank (omega (arith, size, room)) in
    let left = c.notes p h in
    record {
      room = omega (arith, ap (λ (x : Layout). x.all) same, k.room, ap length left);
      held = subst (λ (x : List ℕ). Held x 1 (notes_of_pack p)) (sym left) k.held;
      first = ap (λ (x : Layout). x.noted) same ∙ k.first;
      many = ap (λ (x : Layout). x.all) same ∙ k.many;
    }
