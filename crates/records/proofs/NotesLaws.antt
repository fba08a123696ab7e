-- Laws of the notes that readers of records leave: bodies, members, derivations and relations.
use Prim.Native.Nat.{ℕ, ◌+◌, ◌-◌, ◌*◌, ◌≤◌}
use native.Mathlib.Omega.{arith}
use mathlib.Core.Path.{◌≡◌, refl, ap, sym, ◌∙◌, subst}
use mathlib.Core.List.{List, [], ◌∷◌}
use mathlib.Core.Option.{some}
use lib.ListN.{length, set}
use Rattle.pack.specs.declared.cursor.Cursor.{Cursor}
use Rattle.pack.specs.Readers.{Step}
use Rattle.pack.specs.Readers.{on}
use Rattle.definitions.specs.Form.{list, count, items, words_all, field, words_by}
use Rattle.definitions.specs.Tree.{root}
use Rattle.definitions.specs.FieldRows.{MemberRow, RelationTail, to_body, to_derivation, to_relation, to_rule}
use Rattle.definitions.specs.Pack.{body, bodies, rule, name_list, chain, member, derivation, optional_derivation, relation_tail}
use Rattle.definitions.specs.Places.{hops}
use Rattle.pack.specs.Readers.{step_of, skip_over, itself, field_step}
use Rattle.reading.specs.Noting.{note_tree, NotedStep}
use Rattle.records.specs.Directory.{Noted, chain_lead, derived_note, member_note, note_in, tail_note, note_relation}
use Rattle.records.specs.Notes.{opened, inside, note_body, note_member, note_derivation, note_optional, note_tail, note_predicate, Both, note_both, note_bodies, note_rule}
use Rattle.records.proofs.KeptLaws.{there, within, noted_then, noted-via, noted_as, noted-last, tree-noted}
use Rattle.records.proofs.DirectoryLaws.{chain-words, derived-note}

-- a tree in the context of a body or predicate
pub rooted : (n : ℕ) (ws : List ℕ) (sort context at : ℕ) (d : List ℕ) {r : Step} {e : List ℕ} → NotedStep (root n sort) (λ u. note_tree context u) ws at d r e
    → Noted (λ a. 0) (root n sort) (λ u d. (note_tree context u (at, d)).1) ws at d r e
rooted n ws sort context at d h = tree-noted (root n sort) (λ u. note_tree context u) ws at d h

-- a body: its sort and its tree
pub body-noted : (n context : ℕ) (ws : List ℕ) (at : ℕ) (d : List ℕ) {y : Step} {v : ℕ} {k : Cursor} → y ≡ field_step n 27 ws at → y ≡ on v k → {x : Step} {e : List ℕ}
    → Noted (λ u. 0) (root n v) (λ u d. (note_tree context u (k.at, d)).1) ws k.at d x e → Noted (λ b. 0) (body n) (note_body context at) ws at d x e
unfolding body words_by
body-noted n context ws at d {k = k} q o {x} {e} h =
    noted-via _ _ _ _ (λ b. 0) _ (note_body context at) ws at d
    (noted_then itself (field n 27) ws at q o (λ sort. root n sort) (λ t. 0) (λ t. note_body context at (to_body t)) d
    (λ t. subst (λ (s : ℕ). Noted (λ b. 0) (root n s) (λ b d. (note_tree context b (at + 1, d)).1) ws k.at d x e) (sym t.kept)
    (noted_as h (λ u. ap (λ (i : ℕ). (note_tree context u (i, d)).1) t.on))))

names-words : (n : ℕ) (l : List ℕ) → length (words_all {S = Unit {0}} (λ s a. s) (λ s a. words_by (field n 10) a) tt l) ≡ length l
unfolding words_by
names-words n [] = refl
names-words n (h ∷ l) = let e = names-words n l in omega arith

pub list-words : (n kind : ℕ) (l : List ℕ) → length (words_by (name_list n kind) l) ≡ 1 + length l
unfolding name_list words_by count items
list-words n kind l = let e = names-words n l in omega arith

-- what follows the chain of a derivation: its predicate is noted
module _ (n context : ℕ) (ws : List ℕ) (at : ℕ) (d : List ℕ) {y₁ y₂ y₃ : Step} {v₁ v₂ v₃ : ℕ} {k₁ k₂ k₃ : Cursor} where
  pub member-noted : y₁ ≡ skip_over (field n 19) ws at → y₁ ≡ on v₁ k₁ → y₂ ≡ skip_over (field n 20) ws k₁.at → y₂ ≡ on v₂ k₂ → y₃ ≡ step_of (count list) (name_list n 21) ws k₂.at → y₃ ≡ on v₃ k₃
      → (kinds slots lead : ℕ) {s : ℕ} → s ≡ derived_note kinds slots v₃ lead
      → {x : Step} {e : List ℕ} → Noted (λ u. 0) (root n 1) (λ u d. (note_tree context u (k₃.at, d)).1) ws k₃.at d x e → {v : ℕ} {k : Cursor} → x ≡ on v k
      → Noted (member_note kinds slots lead) (member n) (note_member context at) ws at d (on s k) e
  unfolding member words_by count
  member-noted q₁ o₁ q₂ o₂ q₃ o₃ kinds slots lead {s} m h o =
      noted_then (λ a. 0) (field n 19) ws at q₁ o₁ _ _ (note_member context at) d
      (λ a. noted_then (λ a. 0) (field n 20) ws k₁.at q₂ o₂ _ _ (λ t. note_member context at (a.value, t)) d
      (λ b. noted_then (count list) (name_list n 21) ws k₂.at q₃ o₃ _ _ (λ t. note_member context at (a.value, (b.value, t))) d
      (λ l. let w = list-words n 21 l.value in
      let p : k₃.at ≡ at + 3 + length l.value = omega (arith, a.on, b.on, l.on, w) in
      noted_as (noted-last h o (λ u. derived_note kinds slots (length l.value) lead) (λ t. ap (λ (i : ℕ). derived_note kinds slots i lead) l.kept ∙ sym m)) (λ u. ap (λ (i : ℕ). (note_tree context u (i, d)).1) p))))

-- a derivation, of a relation that starts at a place
module _ (n kinds start : ℕ) (ws : List ℕ) (at : ℕ) (d : List ℕ) {y : Step} {lead : ℕ} {k : Cursor} where
  pub derivation-noted : y ≡ step_of chain_lead (chain n) ws at → y ≡ on lead k → {context : ℕ} {d₁ : List ℕ} → context ≡ inside d → d₁ ≡ opened start d
      → (slots : ℕ) → slots ≡ 3 + kinds + (k.at - at)
      → {x : Step} {e : List ℕ} → Noted (member_note kinds slots lead) (member n) (note_member context k.at) ws k.at d₁ x e
      → Noted (λ a. note_in kinds (some a)) (derivation n) (note_derivation start at) ws at d x e
  unfolding derivation
  derivation-noted q o {context} {d₁} c p slots z {x} {e} h =
      noted-via to_derivation _ _ _ (λ a. note_in kinds (some a)) _ (note_derivation start at) ws at d
      (noted_then chain_lead (chain n) ws at q o _ _ (λ t. note_derivation start at (to_derivation t)) d
      (λ a. let long = chain-words n a.value in
      let at₁ : (x : ℕ) → k.at + 3 + x ≡ at + 4 + 3 * hops a.value.1.0 + 3 + x = λ x. omega (arith, a.on, long) in
      let same-note : (b : MemberRow) → member_note kinds slots lead b ≡ note_in kinds (some (to_derivation (a.value, b)))
      = λ b. sym (derived-note n kinds a.value b (omega (arith, a.on, z)) a.kept refl refl) in
      noted_as (subst (λ (f : MemberRow → ℕ). Noted f (member n) (note_member context k.at) ws k.at d₁ x e) (λ i. λ b. same-note b i) h)
      (λ b. λ i. (note_tree (c i) b.1.1.1 (at₁ (length b.1.1.0) i, p i)).1)))

-- what follows the name of a relation
module _ (n start : ℕ) (ws : List ℕ) (at : ℕ) (d : List ℕ) {y₁ y₂ y₃ : Step} {v₁ v₂ v₃ : ℕ} {k₁ k₂ k₃ : Cursor} where
  pub tail_noted : y₁ ≡ skip_over (field n 7) ws at → y₁ ≡ on v₁ k₁ → y₂ ≡ skip_over (field n 8) ws k₁.at → y₂ ≡ on v₂ k₂ → y₃ ≡ step_of (count list) (name_list n 9) ws k₂.at → y₃ ≡ on v₃ k₃
      → {x : Step} {e : List ℕ} → Noted (note_in v₃) (optional_derivation n) (note_optional start k₃.at) ws k₃.at d x e
      → Noted tail_note (relation_tail n) (note_tail start at) ws at d x e
  unfolding relation_tail words_by count
  tail_noted q₁ o₁ q₂ o₂ q₃ o₃ {x} {e} h =
      noted_then (λ a. 0) (field n 7) ws at q₁ o₁ _ _ (note_tail start at) d
      (λ a. noted_then (λ a. 0) (field n 8) ws k₁.at q₂ o₂ _ _ (λ t. note_tail start at (a.value, t)) d
      (λ b. noted_then (count list) (name_list n 9) ws k₂.at q₃ o₃ _ _ (λ t. note_tail start at (a.value, (b.value, t))) d
      (λ l. let w = list-words n 9 l.value in
      let p : k₃.at ≡ at + 3 + length l.value = omega (arith, a.on, b.on, l.on, w) in
      subst (λ (m : ℕ). Noted (note_in m) (optional_derivation n) (note_optional start (at + 3 + length l.value)) ws k₃.at d x e) (sym l.kept)
      (noted_as h (λ u. ap (λ (i : ℕ). note_optional start i u d) p)))))

-- ---- where words stand that were read

pub field_on : (n kind : ℕ) (ws : List ℕ) (at : ℕ) {y : Step} {v : ℕ} {k : Cursor} → y ≡ skip_over (field n kind) ws at → y ≡ on v k → k.at ≡ at + 1
unfolding words_by
field_on n kind ws at e o = (there (λ a. 0) (field n kind) ws at e o).on

pub flag_on : (n : ℕ) (ws : List ℕ) (at : ℕ) {y : Step} {v : ℕ} {k : Cursor} → y ≡ field_step n 11 ws at → y ≡ on v k → k.at ≡ at + 1
unfolding words_by
flag_on n ws at e o = (there itself (field n 11) ws at e o).on

pub list_on : (n : ℕ) (ws : List ℕ) (at : ℕ) {y : Step} {v : ℕ} {k : Cursor} → y ≡ step_of (count list) (name_list n 9) ws at → y ≡ on v k → at ≤ k.at
list_on n ws at e o = omega (arith, (there (count list) (name_list n 9) ws at e o).on)

pub rule-place : (n : ℕ) (ws : List ℕ) (at : ℕ) {y : Step} {v : ℕ} {k : Cursor} → y ≡ skip_over (field n 23) ws at → y ≡ on v k → length ws ≤ 8192 → at ≤ 8192
unfolding words_by
rule-place n ws at e o m = omega (arith, field_on n 23 ws at e o, within (λ a. 0) (field n 23) ws at e o (λ a. omega arith))

-- ---- a rule, and a relation

module _ (n i : ℕ) (ws : List ℕ) (at : ℕ) (d : List ℕ) {y₁ y₂ y₃ : Step} {v₁ v₂ v₃ : ℕ} {k₁ k₂ k₃ : Cursor} where
  pub rule-noted : y₁ ≡ skip_over (field n 23) ws at → y₁ ≡ on v₁ k₁ → y₂ ≡ skip_over (field n 24) ws k₁.at → y₂ ≡ on v₂ k₂ → y₃ ≡ skip_over (field n 25) ws k₂.at → y₃ ≡ on v₃ k₃
      → {context : ℕ} {d₁ : List ℕ} → context ≡ inside d → d₁ ≡ opened at d → {x : Step} {e : List ℕ}
      → Noted (λ t. 0) (bodies n) (note_bodies n context k₃.at) ws k₃.at d₁ x e → Noted (λ r. 0) (rule n) (note_rule n i at) ws at d x e
  unfolding rule note_rule
  rule-noted q₁ o₁ q₂ o₂ q₃ o₃ {context} {d₁} c p h =
      let f₁ = field_on n 23 ws at q₁ o₁ in
      let f₂ = field_on n 24 ws k₁.at q₂ o₂ in
      let f₃ = field_on n 25 ws k₂.at q₃ o₃ in
      let at₁ : k₃.at ≡ at + 3 = omega (arith, f₁, f₂, f₃) in
      noted-via to_rule _ _ _ (λ r. 0) _ (note_rule n i at) ws at d
      (noted_then (λ a. 0) (field n 23) ws at q₁ o₁ _ _ (λ t. note_rule n i at (to_rule t)) d
      (λ a. noted_then (λ a. 0) (field n 24) ws k₁.at q₂ o₂ _ _ (λ t. note_rule n i at (to_rule (a.value, t))) d
      (λ b. noted_then (λ a. 0) (field n 25) ws k₂.at q₃ o₃ _ _ (λ t. note_rule n i at (to_rule (a.value, (b.value, t)))) d
      (λ f. noted_as h (λ t. λ j. note_bodies n (c j) (at₁ j) t (p j))))))

pub both_noted : (i at k : ℕ) (d e : List ℕ) → k ≡ at + 1 → {x v w : ℕ} (s : RelationTail) → x ≡ v → tail_note s ≡ w → {e' : List ℕ} → e' ≡ note_tail at k s e
    → ◌≡◌ {A = Both} (set (set d i v) (512 + v) (at + 8192 * w), e') (note_both i at (to_relation (x, s)) (d, e))
unfolding note_both note_relation note_predicate
both_noted i at k d e p s q r h =
    let z : k + 3 + length s.1.1.0 ≡ at + 4 + length s.1.1.0 = omega arith in
    let g = h ∙ ap (λ (y : ℕ). note_optional at y s.1.1.1 e) z in
    λ j. (set (set d i (sym q j)) (512 + sym q j) (at + 8192 * (sym r j)), g j)
