-- Laws of the directory: what the readers of a relation keep of it, and what its words say of the names used before.
use Rattle.std.specs.Prelude.{Ok, Err}
use Prim.Native.Nat.{ℕ, ◌+◌, ◌-◌, ◌*◌, ◌≤◌, ◌<◌}
use native.Mathlib.Omega.{arith}
use mathlib.Core.Path.{◌≡◌, refl, ap, sym, ◌∙◌, subst}
use mathlib.Core.List.{List, [], ◌∷◌, ◌++◌}
use mathlib.Core.Bool.{Bool, true, false, ◌||◌}
use mathlib.Core.Option.{Option, none, some}
use lib.ListN.{length, get_or, set, drop, length-set, length-append}
use lib.Seq.{get_or-set_same, get_or-set_other}
use lib.Dec.{eqb, leb, ltb}
use borrow.Author.Tests.{eq-eqb, ne_eqb, eqb-true, eqb-false, leb-true, ltb-true, lt-ltb}
use Rattle.definitions.specs.declared.answer.Refusal.{Refusal}
use Rattle.pack.specs.declared.cursor.Cursor.{Cursor}
use Rattle.pack.specs.Readers.{Step}
use Rattle.pack.specs.Readers.{on}
use Rattle.definitions.specs.Table.{pick, entry_of, table}
use Rattle.definitions.specs.Form.{got, allowed_here, among, words_all, list, list_or_none, count, items, says, Form, field, Fine, words_by, read_by}
use Rattle.records.specs.Directory.{Laid}
use Rattle.pack.proofs.FormLaws.{clash}
use Rattle.definitions.specs.Records.{undated, Hop, Derivation, Relation}
use Rattle.definitions.specs.FieldRows.{RecordsRow, ChainRow, MemberRow, RelationTail, to_derivation}
use Rattle.definitions.specs.Pack.{defaulted, relations, rules, blocks, records, next_used, hop, path, chain, name_list, derivation, optional_derivation, new_name, relation_tail, relation}
use Rattle.definitions.specs.Places.{hops, relation_words}
use Rattle.pack.specs.Readers.{step_of, skip_over, itself, name_of, field_step}
use Rattle.pack.proofs.StepLaws.{at_most, field-fine, step_no}
use Rattle.records.specs.Directory.{Noted, lead_of, lead_in, chain_lead, entities, derived_note, note_in, tail_note, entered, entry, note_relation, Clear, note_relations, notes_all, relations_at, rules_at, blocks_at, layout_of, directory_of, step_in}
use Rattle.records.specs.Notes.{note_rules, note_predicate, note_predicates, Both, note_both, note_all, relations_left, notes_left, LaidOut}
use Rattle.records.proofs.KeptLaws.{there, within, noted-there}
use Rattle.records.proofs.LoopLaws.{Left, left_start, left_next}
use Rattle.records.proofs.RecordLaws.{name_alike, relation-below}

-- ---- what the readers of a derivation keep

hop-words : (n : ℕ) (l : List Hop) → length (words_all {S = Unit {0}} (λ s a. s) (λ s a. words_by (hop n) a) tt l) ≡ 3 * length l
unfolding hop words_by
hop-words n [] = refl
hop-words n (h ∷ l) = let e = hop-words n l in omega arith

pub path-words : (n : ℕ) (p : Option (List Hop)) → length (words_by (path n) p) ≡ 1 + 3 * hops p
unfolding path words_by count items
path-words n none = refl
path-words n (some l) = let e = hop-words n l in omega arith

pub chain-words : (n : ℕ) (t : ChainRow) → length (words_by (chain n) t) ≡ 4 + 3 * hops t.1.0
unfolding chain words_by
chain-words n t = omega (arith, length-append (words_by (path n) t.1.0) (words_by (field n 17) t.1.1.0 ++ words_by (field n 18) t.1.1.1), path-words n t.1.0)

or_true : (a b : Bool) → (a || b) ≡ true → (a ≡ false → b ≡ true)
or_true true b e f = let z : ◌≡◌ {A = ℕ} 0 1 = cc in absurd (omega arith)
or_true false b e f = e

-- a path has at most 8 steps
pub few-hops : (n : ℕ) (p : Option (List Hop)) → Fine (path n) p → hops p ≤ 8
unfolding path Fine count says items allowed_here entry_of table
few-hops n none f = omega arith
few-hops n (some l) f = go (leb (length l) 8) refl
  where
    go : (b : Bool) → leb (length l) 8 ≡ b → length l ≤ 8
    go true e = leb-true (length l) 8 e
    go false e =
        let z : length l ≡ 16777215 = eqb-true (length l) 16777215 (or_true (leb (length l) 8) (eqb (length l) 16777215) f.0.1 e) in
        let q : pick (eqb (length l) 16777215) 0 (length l) ≡ length l = f.1 in
        let r : 0 ≡ length l = rw (eq-eqb (length l) 16777215 z) at q in
        absurd (omega arith)

lead_same : (n : ℕ) (s : ℕ) (p : Option (List Hop)) → Fine (path n) p → lead_in s (count list_or_none p) ≡ lead_of s p
unfolding lead_of count
lead_same n s none f = refl
lead_same n s (some l) f = rw (ne_eqb (length l) 16777215 (λ e. omega (arith, few-hops n (some l) f))) refl

pub chain-leads : (n : ℕ) {s : ℕ} (p : Option (List Hop)) → Fine (path n) p → {source steps r : ℕ} → s ≡ source → count list_or_none p ≡ steps → r ≡ lead_in source steps → lead_of s p ≡ r
chain-leads n {s} p f a b e = sym (e ∙ rw (← a, ← b) (lead_same n s p f))

lead_most : (n : ℕ) (s : ℕ) (p : Option (List Hop)) → allowed_here n 12 s ≡ true → lead_of s p ≤ n
unfolding lead_of allowed_here entry_of table
lead_most n s (some l) e = omega arith
lead_most n s none e = go (eqb s 16777215) refl (ltb s n) refl
  where
    go : (b : Bool) → eqb s 16777215 ≡ b → (c : Bool) → ltb s n ≡ c → pick b 0 (s + 1) ≤ n
    go true h c k = omega arith
    go false h true k = omega (arith, ltb-true s n k)
    go false h false k = let z : eqb s 16777215 ≡ true = or_true (ltb s n) (eqb s 16777215) e k in let y : ◌≡◌ {A = ℕ} 0 1 = cc in absurd (omega arith)

-- the chain of a derivation that was read
pub record ChainRead (n at v : ℕ) (k : Cursor) (ws : List ℕ) : Type 0 where
  pub late : at + 4 ≤ k.at
  pub near : k.at ≤ length ws
  pub leads : v ≤ n

pub chain-read : (n : ℕ) (ws : List ℕ) (at : ℕ) {y : Step} {v : ℕ} {k : Cursor} → y ≡ step_of chain_lead (chain n) ws at → y ≡ on v k → ChainRead n at v k ws
unfolding chain Fine
chain-read n ws at {y} {v} {k} e o =
    let t = there chain_lead (chain n) ws at e o in
    record {
      late = omega (arith, t.on, chain-words n t.value);
      near = within chain_lead (chain n) ws at e o (λ a. omega (arith, chain-words n a));
      leads = subst (λ (m : ℕ). m ≤ n) t.kept (lead_most n t.value.0 t.value.1.0 t.fine.0.1);
    }

-- what is kept of a derivation
pub derived-note : (n kinds : ℕ) (a : ChainRow) (b : MemberRow) {slots lead many s : ℕ} → slots ≡ 3 + kinds + length (words_by (chain n) a) → chain_lead a ≡ lead → entities b ≡ many
    → s ≡ derived_note kinds slots many lead → note_in kinds (some (to_derivation (a, b))) ≡ s
unfolding note_in
derived-note n kinds a b {slots} {lead} {many} {s} p l m e =
    let w : 7 + kinds + 3 * hops a.1.0 ≡ slots = omega (arith, chain-words n a) in
    rw (w, l, m, ← e) refl

derived-small : (kinds slots many lead : ℕ) → slots ≤ 64 → lead ≤ 4096 → derived_note kinds slots many lead < 266240
derived-small kinds slots many lead a b = go (eqb many 0) (eqb kinds 0) (eqb lead 0)
  where
    go : (x y z : Bool) → pick x (pick y (pick z (64 * slots) (64 * (63 + lead))) (3 + 64 * slots)) (slots + 4 + 64 * slots) < 266240
    go true true true = omega arith
    go true true false = omega arith
    go true false z = omega arith
    go false y z = omega arith

-- a list of kinds that was read
pub list-few : (n : ℕ) (ws : List ℕ) (at : ℕ) {y : Step} {v : ℕ} {k : Cursor} → y ≡ step_of (count list) (name_list n 9) ws at → y ≡ on v k → v ≤ 8
unfolding name_list Fine count items entry_of table
list-few n ws at e o = let t = there (count list) (name_list n 9) ws at e o in omega (arith, t.kept, at_most n 9 8 refl (length t.value) t.fine.0.1)

-- what is noted of a relation fits beside its place
note-small : (n : ℕ) (t : RelationTail) → Fine (relation_tail n) t → n ≤ 4096 → tail_note t < 266240
unfolding relation_tail optional_derivation derivation chain name_list Fine count items entry_of table note_in
note-small n t f m = go t.1.1.1 f.1.1.1
  where
    ks : List ℕ
    ks = t.1.1.0

    eight : length ks ≤ 8
    eight = at_most n 9 8 refl (length ks) f.1.1.0.0.1

    go : (o : Option Derivation) → Fine (optional_derivation n) o → note_in (length ks) o < 266240
    go none g = plainly (eqb (length ks) 0)
      where
        plainly : (b : Bool) → pick b 0 3 < 266240
        plainly true = omega arith
        plainly false = omega arith
    go (some d) g =
        derived-small (length ks) (7 + length ks + 3 * hops d.path) (length d.slot_entities) (lead_of d.source d.path)
        (omega (arith, eight, few-hops n d.path g.2.0.0.1.0))
        (omega (arith, lead_most n d.source d.path g.2.0.0.0.1))

pub note-fits : (n : ℕ) (ws : List ℕ) (at : ℕ) {y : Step} {v : ℕ} {k : Cursor} → y ≡ step_of tail_note (relation_tail n) ws at → y ≡ on v k → n ≤ 4096 → v < 266240
note-fits n ws at e o m = let t = there tail_note (relation_tail n) ws at e o in omega (arith, t.kept, note-small n t.value t.fine m)

-- ---- names used before

-- the directory has a word for each name used before, and for no other
pub record Used (n : ℕ) (d used : List ℕ) : Type 0 where
  pub long : 512 + n ≤ length d
  pub alike : (v : ℕ) → v < n → entered d v ≡ among v used

pub used-none : {n : ℕ} {d : List ℕ} → Clear n d → Used n d []
unfolding entered
used-none c = record { long = c.long; alike = λ v h. rw (c.clear v) refl }

note-long : (i at : ℕ) (r : Relation) (d : List ℕ) → length (note_relation i at r d) ≡ length d
unfolding note_relation
note-long i at r d = simp length-set

pub used-more : {n : ℕ} {d used : List ℕ} (i at : ℕ) (r : Relation) → i < 512 → 0 < at → r.name < n → Used n d used → {d' : List ℕ} → d' ≡ note_relation i at r d → Used n d' (r.name ∷ used)
unfolding entered note_relation
used-more {n} {d} {used} i at r l p b u {d'} e =
    subst (λ (x : List ℕ). Used n x (r.name ∷ used)) (sym e)
    (record { long = omega (arith, note-long i at r d, u.long); alike = λ v h. go v h (eqb v r.name) refl })
  where
    f : List ℕ
    f = set d i r.name

    f_long : length f ≡ length d
    f_long = length-set d i r.name

    go : (v : ℕ) → v < n → (b : Bool) → eqb v r.name ≡ b → ltb 0 (get_or (set f (512 + r.name) (entry at r)) (512 + v) 0) ≡ (b || among v used)
    go v h true z =
        let q : v ≡ r.name = eqb-true v r.name z in
        rw (q, get_or-set_same f (512 + r.name) (entry at r) 0 (omega (arith, f_long, u.long))) (lt-ltb 0 (entry at r) (omega arith))
    go v h false z =
        ap (ltb 0) (get_or-set_other f (512 + r.name) (512 + v) (entry at r) 0 (λ y. eqb-false v r.name z (omega arith)) ∙ get_or-set_other d i (512 + v) r.name 0 (λ y. omega arith)) ∙ u.alike v h

-- two tests that agree on every name read a relation alike
relation_alike : (n : ℕ) (p q : ℕ → Bool) → ((v : ℕ) → v < n → p v ≡ q v) → (at : ℕ) (ws : List ℕ) → read_by (relation n p) at ws ≡ read_by (relation n q) at ws
unfolding relation read_by
relation_alike n p q h at ws = simp (name_alike n p q h)

pub noted-used : (n : ℕ) (i : ℕ) {used ws : List ℕ} {d : Both} {at : ℕ} {y : Step} {d' : Both} → Used n d.0 used
    → Noted name_of (relation n (entered d.0)) (note_both i at) ws at d y d' → Noted name_of (relation n (λ v. among v used)) (note_both i at) ws at d y d'
unfolding step_of
noted-used n i {used} {ws} {d} {at} u k =
    let e = relation_alike n (entered d.0) (λ v. among v used) (λ v h. u.alike v h) at (drop at ws) in
    record { answers = k.answers ∙ rw e refl; notes = λ a next rest h. k.notes a next rest (e ∙ h) }

pub relation-words : (n : ℕ) (used : ℕ → Bool) (r : Relation) → words_by (relation n used) r ≡ relation_words n r
unfolding relation new_name words_by
relation-words n used r = refl

-- a name that was read
pub record NameRead (n at v : ℕ) (k : Cursor) (ws : List ℕ) : Type 0 where
  pub on : k.at ≡ at + 1
  pub near : k.at ≤ length ws
  pub below : v < n

pub name-read : (n : ℕ) (used : ℕ → Bool) (ws : List ℕ) (at : ℕ) {y : Step} {v : ℕ} {k : Cursor} → y ≡ step_of itself (new_name n used) ws at → y ≡ on v k → NameRead n at v k ws
unfolding new_name words_by Fine allowed_here entry_of table
name-read n used ws at {v = v} e o =
    let t = there itself (new_name n used) ws at e o in
    record { on = t.on; near = within itself (new_name n used) ws at e o (λ a. omega arith); below = subst (λ (m : ℕ). m < n) t.kept (ltb-true t.value n t.fine.0.1) }

-- ---- the loop over relations

module _ (n : ℕ) (ws : List ℕ) where
  abbrev pub fresh : List ℕ → Form Relation
  fresh used = relation n (λ v. among v used)

  abbrev pub words_alike : (used : List ℕ) (r : Relation) → words_by (fresh used) r ≡ relation_words n r
  words_alike used r = relation-words n (λ v. among v used) r

  -- i relations are read and noted; of those that are left none has a name used before
  pub record Relating (d₀ : Both) (at₀ m₀ : ℕ) (d : Both) (at i : ℕ) : Type 0 where
    pub used : List ℕ
    pub work : Left next_used fresh (relation_words n) words_alike note_both ws m₀ [] at₀ d₀ (m₀ - i) used at d
    pub names : Used n d.0 used
    pub many : i ≤ m₀
    pub few : m₀ ≤ 512
    pub late : 0 < at
    pub kept : length d.0 ≡ length d₀.0
    pub stays : length d.1 ≡ length d₀.1

  pub relating : {d : Both} {at m : ℕ} → Clear n d.0 → m ≤ 512 → 0 < at → Relating d at m d at 0
  relating {d} {at} {m} c h l =
      record { used = []; work = left_start; names = used-none c; many = omega arith; few = h; late = l; kept = refl; stays = refl }

  -- the relation of a turn, by the names used before
  pub its-turn : {d₀ d : Both} {at₀ m₀ at i : ℕ} (g : Relating d₀ at₀ m₀ d at i) {y : Step} {d' : Both} → Noted name_of (relation n (entered d.0)) (note_both i at) ws at d y d'
      → Noted name_of (fresh g.used) (note_both g.work.i at) ws at d y d'
  its-turn {d = d} {at = at} {i = i} g {y} {d'} k =
      let same_turn : i ≡ g.work.i = omega (arith, g.many, g.work.many) in
      subst (λ (x : ℕ). Noted name_of (fresh g.used) (note_both x at) ws at d y d') same_turn (noted-used n i g.names k)

  pub relating_on : {d₀ d : Both} {at₀ m₀ at i : ℕ} → Relating d₀ at₀ m₀ d at i → i < m₀ → {v : ℕ} {k : Cursor} {d' : Both} → Noted name_of (relation n (entered d.0)) (note_both i at) ws at d (on v k) d'
      → length d'.1 ≡ length d.1 → Relating d₀ at₀ m₀ d' k.at (i + 1)
  unfolding note_both
  relating_on {d = d} {at = at} {i = i} g h {v} {d' = d'} k s =
      let z = noted-used n i g.names k in
      let p = noted-there z refl in
      let q : d'.0 ≡ note_relation i at p.0.value d.0 = ap (λ (x : Both). x.0) p.1 in
      let b = relation-below n (λ v. among v g.used) ws at z.answers refl in
      record {
        used = v ∷ g.used;
        work = left_next g.work h (its-turn g k) (λ a e. ap (λ (x : ℕ). x ∷ g.used) e);
        names = subst (λ (x : ℕ). Used n d'.0 (x ∷ g.used)) p.0.kept (used-more i at p.0.value (omega (arith, g.many, g.few)) g.late (omega (arith, p.0.kept)) g.names q);
        many = omega arith;
        few = g.few;
        late = omega (arith, p.0.on, g.late);
        kept = ap length q ∙ note-long i at p.0.value d.0 ∙ g.kept;
        stays = s ∙ g.stays;
      }

-- the count of relations that was read
pub record CountRead (at v : ℕ) (k : Cursor) : Type 0 where
  pub few : v ≤ 512
  pub late : 0 < k.at

pub count-read : (n : ℕ) (ws : List ℕ) (at : ℕ) {x : Step} {v : ℕ} {k : Cursor} → x ≡ field_step n 5 ws at → x ≡ on v k → CountRead at v k
unfolding entry_of table words_by
count-read n ws at {v = v} e o = record { few = at_most n 5 512 refl v (field-fine n 5 ws at e o).1; late = omega (arith, (there itself (field n 5) ws at e o).on) }

-- ---- all records

-- what is noted in both is noted in each
pub both_apart : (n : ℕ) (l : List Relation) (i at : ℕ) (d e : List ℕ)
    → notes_all (relation_words n) note_both i at l (d, e) ≡ (notes_all (relation_words n) note_relation i at l d, notes_all (relation_words n) note_predicate i at l e)
unfolding notes_all note_both
both_apart n [] i at d e = refl
both_apart n (r ∷ l) i at d e = both_apart n l (i + 1) (at + length (relation_words n r)) (note_relation i at r d) (note_predicate i at r e)

layout_alike : (n e : ℕ) {a b c f g x y z u v : ℕ} → a ≡ x → b ≡ y → c ≡ z → f ≡ u → g ≡ v
    → ◌≡◌ {A = Laid} (Ok (record { names = n; relations = a; rules = b; blocks = c; end = e; noted = f; all = g }))
    (Ok (record { names = n; relations = x; rules = y; blocks = z; end = e; noted = u; all = v }))
layout_alike n e p q r s t = rw (p, q, r, s, t) refl

module _ (n : ℕ) (ws : List ℕ) (at : ℕ) (d e : List ℕ) {d' e' : List ℕ} where
  pub laid_no : {w : Refusal} {r : Laid} → Err w ≡ skip_over (records undated n) ws at → r ≡ Err w → LaidOut n ws at d e r d' e'
  unfolding step_of
  laid_no {w} {r} y q =
      let no = step_no (λ a. 0) (read_by (records undated n) at (drop at ws)) (sym y) in
      record {
        answers = ap step_in q ∙ y;
        lays = λ t next rest h. absurd (clash (sym no ∙ h));
        enters = λ t next rest h. absurd (clash (sym no ∙ h));
        notes = λ t next rest h. absurd (clash (sym no ∙ h));
      }

  module _ {y₁ y₂ y₃ y₄ : Step} {v₁ v₂ v₃ v₄ : ℕ} {k₁ k₂ k₃ k₄ : Cursor} {e₁ : List ℕ} {first all : ℕ} where
    pub laid_yes : y₁ ≡ skip_over (defaulted n) ws at → y₁ ≡ on v₁ k₁ → Noted (count list) (relations n) (note_all n k₁.at) ws k₁.at (d, e) y₂ (d', e₁) → y₂ ≡ on v₂ k₂
        → Noted (count list) (rules n) (note_rules n k₂.at) ws k₂.at e₁ y₃ e' → y₃ ≡ on v₃ k₃ → y₄ ≡ skip_over (blocks n) ws k₃.at → y₄ ≡ on v₄ k₄
        → first ≡ get_or e₁ 0 0 → all ≡ get_or e' 0 0
        → LaidOut n ws at d e (Ok (record { names = n; relations = v₂; rules = k₂.at; blocks = k₃.at; end = k₄.at; noted = first; all = all })) d' e'
    unfolding records read_by step_of layout_of directory_of relations_at rules_at blocks_at relations_left notes_left count
    laid_yes x₁ o₁ n₂ o₂ n₃ o₃ x₄ o₄ c₁ c₂ =
        let a = there (λ a. 0) (defaulted n) ws at x₁ o₁ in
        let p = noted-there n₂ o₂ in
        let b = p.0 in
        let s = noted-there n₃ o₃ in
        let c = s.0 in
        let f = there (λ a. 0) (blocks n) ws k₃.at x₄ o₄ in
        let t : RecordsRow = (a.value, (b.value, (c.value, f.value))) in
        let w : read_by (records undated n) at (drop at ws) ≡ got t k₄.at (drop k₄.at ws) = rw a.found (rw b.found (rw c.found (rw f.found refl))) in
        let r : k₂.at ≡ at + length (words_by (defaulted n) a.value) + length (words_by (relations n) b.value) = omega (arith, a.on, b.on) in
        let q : k₃.at ≡ at + length (words_by (defaulted n) a.value) + length (words_by (relations n) b.value) + length (words_by (rules n) c.value) = omega (arith, c.on) in
        let g = p.1 ∙ both_apart n b.value 0 (k₁.at + 1) d e in
        let gd : d' ≡ directory_of n at t d = ap (λ (x : Both). x.0) g ∙ ap (λ (x : ℕ). note_relations n x b.value d) a.on in
        let ge : e₁ ≡ relations_left n at t e = ap (λ (x : Both). x.1) g ∙ ap (λ (x : ℕ). note_predicates n x b.value e) a.on in
        let gn : e' ≡ notes_left n at t e = s.1 ∙ (λ i. note_rules n (r i) c.value (ge i)) in
        record {
          answers = sym (rw w refl);
          lays = λ u next rest h.
              (let z : t ≡ u = cc (w, h) in let m : k₄.at ≡ next = cc (w, h) in
              rw (← z, ← m) (layout_alike n k₄.at (sym b.kept) r q (c₁ ∙ ap (λ (x : List ℕ). get_or x 0 0) ge) (c₂ ∙ ap (λ (x : List ℕ). get_or x 0 0) gn)));
          enters = λ u next rest h. (let z : t ≡ u = cc (w, h) in rw (← z) gd);
          notes = λ u next rest h. (let z : t ≡ u = cc (w, h) in rw (← z) gn);
        }
