-- The operations on chains over a pack dealt out again; and All kinds' steps as a sum.
use Prim.Native.Nat.{ℕ, ◌+◌, ◌≤◌}
use mathlib.Core.Path.{◌≡◌, refl, ap, sym, ◌∙◌, fun_ext}
use mathlib.Core.List.{List}
use lib.ListN.{length}
use borrow.Author.Tests.{le-leb}
use Rattle.definitions.specs.Answers.{gives}
use Rattle.definitions.specs.Records.{Pack}
use Rattle.definitions.specs.Pack.{yes, read}
use Rattle.definitions.specs.Dealt.{Dealt}
use Rattle.pack.proofs.PackLaws.{words-read}
use Rattle.theorems.proofs.DealtLaws.{shuffled_length}
use Rattle.definitions.specs.Kinds.{declared, undeclared_sources, own_answer, kinds_of}
use Rattle.definitions.specs.Places.{place_of, names_at, all_kinds_words}
use Rattle.definitions.specs.Operations.{all_kinds_answer, lean_answer, filter_answer, filter_buffer}
use Rattle.definitions.specs.Answers.{table_from}
use Rattle.definitions.specs.Filtered.{filter_says, filter_words}
use Rattle.definitions.specs.declared.operation.Filter.{Filter}
use Rattle.definitions.specs.declared.operation.Filter.TheVariants.{Direct, Innermost, Alias, Unresolved}
use Rattle.definitions.specs.Chain.{Distinct}
use Rattle.theorems.proofs.LeanDealt.{leans_dealt}
use Rattle.filtered.proofs.FilteredLaws.{filtered_dealt}
use Rattle.chains.proofs.ListAt.{place-holds}
use Rattle.chains.proofs.KindLaws.{kinds_dealt, kinds-steps, distinct_names, words_count}
use Rattle.theorems.specs.ChainsDealt.{DealtAlike}

-- the steps are an exact sum: the relations, and the undeclared sources that inheriting relations name, each once
pub all_kinds-steps : (ws : List ℕ) (p : Pack) → read ws ≡ yes p → (room : ℕ) → length p.relations ≤ room
    → all_kinds_answer ws room ≡ gives (length p.relations) (length p.relations + length (undeclared_sources p.relations))
unfolding all_kinds_answer
all_kinds-steps ws p h room r =
    simp (h, words_count p, le-leb (length p.relations) room r, kinds-steps p.relations (distinct_names p (words-read ws p h).fine))

filter_alike : (p q : Pack) → Distinct (declared p.relations) → Dealt p q → (f : Filter) (e : ℕ) → filter_says f p e ≡ filter_says f q e
filter_alike p q u d Direct e = rw ((filtered_dealt d.relations u).directs e) refl
filter_alike p q u d Innermost e = rw (d.names, (filtered_dealt d.relations u).innermosts q.names e) refl
filter_alike p q u d Alias e = rw ((filtered_dealt d.relations u).aliases e) refl
filter_alike p q u d Unresolved e = rw ((filtered_dealt d.relations u).unresolveds e) refl

pub chains_dealt : (ws vs : List ℕ) (p q : Pack) → read ws ≡ yes p → read vs ≡ yes q → Dealt p q → DealtAlike ws vs p q
unfolding all_kinds_answer lean_answer filter_answer filter_buffer
chains_dealt ws vs p q h k d =
    let u = distinct_names p (words-read ws p h).fine in
    let a = kinds_dealt d.relations u in
    let l : length (all_kinds_words p) ≡ length (all_kinds_words q) = words_count p ∙ shuffled_length d.relations ∙ sym (words_count q) in
    let t : (f : Filter) → filter_words f p ≡ filter_words f q = λ f. ap (λ (g : ℕ → ℕ). table_from g 0 p.names) (fun_ext (filter_alike p q u d f)) ∙ ap (table_from (filter_says f q) 0) d.names in
    record {
      all_kinds = λ room. simp (h, k, l, a.steps);
      own-kinds = λ n. kinds_at ws p h n ∙ a.kinds n ∙ sym (kinds_at vs q k n);
      owners = a.own-answers;
      lean = λ x y. simp (h, k, d.names, leans_dealt d.relations u x y);
      filters = λ f room. simp (h, k, t f);
      tables = λ f lent. simp (h, k, t f);
    }
  where
    kinds_at : (ws : List ℕ) (p : Pack) → read ws ≡ yes p → (n : ℕ) → names_at ws (place_of p (own_answer p.relations n)) ≡ kinds_of p.relations n
    kinds_at ws p h n = let r = words-read ws p h in rw (← r.same) (place-holds p r.fine n)
