-- The result: a pack whose trees are resolved, with its relations stamped, written out if there is room for it.
use Prim.Native.Nat.{ℕ, zero, suc, ◌+◌, ◌-◌, ◌<◌, ◌≤◌}
use native.Mathlib.Omega.{arith}
use mathlib.Core.Path.{◌≡◌, refl, ap, sym, ◌∙◌, subst}
use mathlib.Core.List.{List, [], ◌∷◌, ◌++◌, map, map-append}
use mathlib.Core.Bool.{Bool, true, false, ◌&&◌}
use lib.ListN.{length, get_or, take, drop, replicate, length-append, length-map, length-replicate}
use lib.Seq.{take_at, take-append-add}
use lib.Dec.{leb}
use borrow.Author.Tests.{le-leb, lt-leb}
use borrow.Rule.Slice.PartMut.{mid_of, put_mid, same_len_mid, mid_len}
use Rattle.std.proofs.lemmas.Bool.{and_right}
use Rattle.std.proofs.lemmas.List.{drop-replicate, take-replicate}
use Rattle.chains.proofs.AnswerLaws.{front_length}
use Rattle.definitions.specs.Table.{pick, word_of}
use Rattle.definitions.specs.Form.{count, items, says, words_by, Fine}
use Rattle.definitions.specs.Records.{Relation, Rule, Pack}
use Rattle.definitions.specs.FieldRows.{to_row}
use Rattle.definitions.specs.Pack.{WellFormed, yes, read, words, total, relations, rules, blocks, records, inner, rule}
use Rattle.definitions.specs.Answers.{Answer, gives, out_of_room, Outcome, done, refused, and_then, map_done}
use Rattle.pack.proofs.PackLaws.{words-read, words-length}
use Rattle.definitions.specs.Kinds.{all_kinds}
use Rattle.definitions.specs.Places.{relation_words, first_relation, relations_end}
use Rattle.chains.proofs.RelationForm.{RelationsFine}
use Rattle.chains.proofs.PackParts.{parts, all_found}
use Rattle.chains.proofs.CheckedLaws.{same-pack}
use Rattle.definitions.specs.Resolving.{stamp, rule_words, resolve_rule, resolve_rules, resolve_relation, resolve_relations, first_rule}
use Rattle.chains.specs.Record.{Recorded}
use Rattle.stamping.specs.Stamping.{lists_for, added_by, Listed}
use Rattle.definitions.specs.WrittenRecords.{sums, lengths, beginnings, other_pieces, pieces_of}
use Rattle.resolve.specs.Pieces.{Stamped, WriteAsked, WriteCame}
use Rattle.directions.specs.RecordRuns.{places_from, run_words, run_by, RelationKeeps, with_records, trees_resolved, places_in, TablesFilled}
use Rattle.resolve.specs.Finish.{stamp_all, AskedOf, ClearFor, FinishAsked, given_out, written_out, FinishCame}
use Rattle.directions.proofs.KeepsForm.{Good}
use Rattle.directions.proofs.ResolvedFine.{RulesFine, rules_good}
use Rattle.resolve.proofs.ResolvedPack.{least-words, rules-fine}
use Rattle.directions.proofs.RunLaws.{RunPairs, run-words, run_pairs, run_length}
use Rattle.directions.proofs.RuleLaws.{rule-long}
use Rattle.directions.proofs.RelationLaws.{relation-long, places_many}
use Rattle.directions.proofs.TurnedPack.{front, front_long, pack-words, rules_on, again_words, total-same, rules_run, relations_run, rules_keep, relations_keep}
use Rattle.directions.proofs.CheckedTables.{settled}
use Rattle.resolve.proofs.StampedPack.{still_fine, all_starting, all-stamped, same-lengths}
use Rattle.resolve.proofs.OrderLaws.{sums-many, others-few, begin_relations, begin_pieces}
use Rattle.resolve.proofs.WrittenPack.{longer}

-- ---- a pack whose trees are resolved

record TurnedAs (p q : Pack) : Type 0 where
  rels : List Relation
  rls : List Rule
  rules-are : resolve_rules p (first_rule p) p.rules ≡ done rls
  relations-are : resolve_relations p (first_relation p) p.relations ≡ done rels
  same : with_records p rels rls ≡ q

turned_as : (p q : Pack) → trees_resolved p ≡ done q → TurnedAs p q
unfolding trees_resolved
turned_as p q e = go (resolve_rules p (first_rule p) p.rules) refl e
  where
    more : (rls : List Rule) → resolve_rules p (first_rule p) p.rules ≡ done rls → (o : Outcome (List Relation)) → resolve_relations p (first_relation p) p.relations ≡ o → map_done (λ rels. with_records p rels rls) o ≡ done q → TurnedAs p q
    more rls a (refused r) b e = let z : ◌≡◌ {A = ℕ} 0 1 = cc in absurd (omega arith)
    more rls a (done rels) b e = record { rels = rels; rls = rls; rules-are = a; relations-are = b; same = cc }

    go : (o : Outcome (List Rule)) → resolve_rules p (first_rule p) p.rules ≡ o → and_then o (λ rules. map_done (λ relations. with_records p relations rules) (resolve_relations p (first_relation p) p.relations)) ≡ done q → TurnedAs p q
    go (refused r) a e = let z : ◌≡◌ {A = ℕ} 0 1 = cc in absurd (omega arith)
    go (done rls) a e = more rls a (resolve_relations p (first_relation p) p.relations) refl e

module _ (p : Pack) (w : WellFormed p) (rels : List Relation) (rls : List Rule) (rules-are : resolve_rules p (first_rule p) p.rules ≡ done rls) (relations-are : resolve_relations p (first_relation p) p.relations ≡ done rels) where
  abbrev n : ℕ
  n = p.names

  abbrev q : Pack
  q = with_records p rels rls

  rules_ran : run_by (rule_words n) (λ at r. resolve_rule p at r) (first_rule p) p.rules ≡ done rls
  rules_ran = sym (rules_run p (first_rule p) p.rules) ∙ rules-are

  relations_ran : run_by (relation_words n) (λ at r. resolve_relation p at r) (first_relation p) p.relations ≡ done rels
  relations_ran = sym (relations_run p (first_relation p) p.relations) ∙ relations-are

  many : length rels ≡ length p.relations
  many = run_length (relation_words n) (λ at r. resolve_relation p at r) (first_relation p) p.relations rels relations_ran

  rules-many : length rls ≡ length p.rules
  rules-many = run_length (rule_words n) (λ at r. resolve_rule p at r) (first_rule p) p.rules rls rules_ran

  long : length (run_words (relation_words n) rels) ≡ length (run_words (relation_words n) p.relations)
  long = run-words (relation_words n) (λ at r. resolve_relation p at r) (RelationKeeps p) (relation-long p w) (first_relation p) p.relations rels (relations_keep p w).all relations_ran

  rules-long : length (run_words (rule_words n) rls) ≡ length (run_words (rule_words n) p.rules)
  rules-long = run-words (rule_words n) (λ at r. resolve_rule p at r) (λ r. Fine (rule n) r) (rule-long p w) (first_rule p) p.rules rls (rules_keep p w).all rules_ran

  fine-relations : RelationsFine n [] rels
  fine-relations = still_fine p w (first_relation p) [] p.relations rels (parts p w).relations-fine (run_pairs (relation_words n) (λ at r. resolve_relation p at r) (RelationKeeps p) (relation-long p w) (first_relation p) p.relations rels relations_ran)

  fine-rules : RulesFine p w rls
  fine-rules = (subst (Good (λ m. RulesFine p w m × (length m ≡ length p.rules))) rules-are (rules_good p w (first_rule p) p.rules (rules-fine p w))).0

  whole-fine : Fine (inner p.edition) (to_row q)
  unfolding inner records relations rules Fine items count says
  whole-fine =
      let f = w.parts in
      (f.0, (f.1.0, ((rw many f.1.1.0.0, refl, fine-relations), ((rw rules-many f.1.1.1.0.0, refl, fine-rules), f.1.1.1.1))))

  -- it keeps to the description
  well : WellFormed q
  well = record { least = least-words q; most = (let m = w.most in omega (arith, total-same p rels rls many rules-many long rules-long)); parts = whole-fine }

  pairs : RunPairs (relation_words n) (λ at r. resolve_relation p at r) (RelationKeeps p) (relation-long p w) (first_relation p) p.relations rels
  pairs = run_pairs (relation_words n) (λ at r. resolve_relation p at r) (RelationKeeps p) (relation-long p w) (first_relation p) p.relations rels relations_ran

  -- its pieces begin where they began
  relations-same : lengths (map (relation_words n) p.relations) ≡ lengths (map (relation_words n) rels)
  relations-same = same-lengths (relation_words n) (λ at r. resolve_relation p at r) (RelationKeeps p) (relation-long p w) (first_relation p) p.relations rels (relations_keep p w).all pairs

  rules-same : lengths (map (rule_words n) p.rules) ≡ lengths (map (rule_words n) rls)
  rules-same =
      same-lengths (rule_words n) (λ at r. resolve_rule p at r) (λ r. Fine (rule n) r) (rule-long p w) (first_rule p) p.rules rls (rules_keep p w).all
      (run_pairs (rule_words n) (λ at r. resolve_rule p at r) (λ r. Fine (rule n) r) (rule-long p w) (first_rule p) p.rules rls rules_ran)

  others_same : lengths (other_pieces p) ≡ lengths (other_pieces q)
  unfolding other_pieces
  others_same = simp (map-append, rules-same)

  pieces_same : beginnings 0 (pieces_of p) ≡ beginnings 0 (pieces_of q)
  pieces_same =
      ap (sums 0) (rw (map-append (λ (w : List ℕ). length w), map-append (λ (w : List ℕ). length w), relations-same, others_same) (ap (λ (x : ℕ). x ∷ (lengths (map (relation_words n) rels) ++ lengths (other_pieces q))) (front_long p ∙ sym (front_long q))))

  module _ {ws starts acts taken : List ℕ} {steps : ℕ} (a : TablesFilled ws starts acts taken steps) (h : read ws ≡ yes p) {asked : List Bool} {work order lists : List ℕ} {added : ℕ} (asks : AskedOf p asked)
      (stands : work ≡ words q) (places : order ≡ places_in p) (listed : Listed ws work acts asked order lists added) where
    stamps : Stamped ws lists rels (map (stamp p) rels)
    stamps =
        subst (λ (l : List ℕ). Stamped ws l rels (map (stamp p) rels)) (ap (lists_for ws work acts asked) (sym places) ∙ sym listed.each)
        (all-stamped p w ws acts asked work h (parts p w).most a.filled.says (settled a) asks (word_of 22 (length p.rules) ∷ (run_words (rule_words n) rls ++ words_by (blocks n) p.blocks)) (first_relation p) p.relations rels (front p) (front_long p) (relations_keep p w).all (all_found p w) (all_starting p w) pairs
        (stands ∙ again_words p rels rls many rules-many long rules-long))

    placed : order ≡ places_in q
    placed = places ∙ sym (begin_relations n (first_relation p) p.relations) ∙ ap (sums (first_relation p)) relations-same ∙ begin_relations n (first_relation p) rels

    its-length : length work + added ≡ length (words (stamp_all p q))
    its-length =
        let q' : Pack = stamp_all p q in
        let R : List ℕ = run_words (relation_words n) rels in
        let R' : List ℕ = run_words (relation_words n) (map (stamp p) rels) in
        let after : List ℕ = word_of 22 (length rls) ∷ rules_on q in
        let more : length R' ≡ length R + added =
        longer ws work n (parts p w).most after (front q) [] fine-relations stamps (stands ∙ pack-words q)
        ∙ ap (λ (x : ℕ). length R + added_by ws work (places_from n x rels) lists) (front_long q) ∙ ap (λ (x : List ℕ). length R + added_by ws work x lists) (sym placed) ∙ ap (λ (x : ℕ). length R + x) (sym listed.adds) in
        omega (arith, ap length (stands ∙ pack-words q), length-append (front q) (R ++ after), length-append R after, ap length (pack-words q'), length-append (front q') (R' ++ after), length-append R' after, front_long q, front_long q')

    module _ {table found : List ℕ} (begins : table ≡ beginnings 0 (pieces_of p)) (stamped : found ≡ 0 ∷ (lists ++ replicate (length (other_pieces p)) 0)) {room : ℕ} (e : room ≡ length work + added) (f : room ≤ 8192) where
      its-asked : WriteAsked ws table found work room
      its-asked =
          record {
            whole = q;
            fine = well;
            stands = stands;
            begins = begins ∙ pieces_same;
            its = lists;
            stamped = map (stamp p) rels;
            stamps = stamps;
            listed = stamped ∙ ap (λ (x : ℕ). 0 ∷ (lists ++ replicate x 0)) (sym (length-map (other_pieces p) (λ (x : List ℕ). length x)) ∙ ap length others_same ∙ length-map (other_pieces q) (λ (x : List ℕ). length x));
            size = e ∙ its-length;
            few = f;
          }

      its-words : {left : List ℕ} → WriteCame ws table found work room left → left ≡ words (stamp_all p q)
      unfolding its-asked
      its-words c = c its-asked

-- ---- for the code

done-same : {A : Type 0} {a b : A} → ◌≡◌ {A = Outcome A} (done a) (done b) → a ≡ b
done-same e = cc

-- lists in a table of zeros
in_zeros : (most after all more : ℕ) (lists : List ℕ) → length lists + 1 ≡ after → all ≡ after + more → all ≤ most → mid_of 0 (all - 0) (put_mid 1 (after - 1) (replicate most 0) lists) ≡ 0 ∷ (lists ++ replicate more 0)
in_zeros zero after all more lists l e h = absurd (omega arith)
in_zeros (suc m) after all more lists l e h =
    let k : ℕ = length lists in
    let a : after - 1 ≡ k = omega arith in
    let b : all - 0 ≡ suc (k + more) = omega arith in
    rw (a, b) (ap (λ (x : List ℕ). 0 ∷ x) (ap (λ (x : List ℕ). take (k + more) (lists ++ x)) (drop-replicate k m 0) ∙ take-append-add lists (replicate (m - k) 0) more ∙ ap (λ (x : List ℕ). lists ++ x) (take-replicate more (m - k) 0 (omega arith))))

module _ {ws places acts : List ℕ} {asked : List Bool} {work : List ℕ} {relations steps : ℕ} (a : FinishAsked ws places acts asked work relations steps) where
  abbrev p : Pack
  p = a.tabled.checked.pack

  abbrev h : read ws ≡ yes p
  h = a.tabled.checked.reads

  w : WellFormed p
  w = (words-read ws p h).fine

  abbrev T : TurnedAs p a.whole
  T = turned_as p a.whole a.resolves

  pub whole-short : length work ≤ 8192
  whole-short = let m = (well p w T.rels T.rls T.rules-are T.relations-are).most in omega (arith, ap length a.stands, words-length a.whole, ap total T.same)

  places_inside : (n at : ℕ) (l : List Relation) (i : ℕ) → get_or (places_from n at l) i 0 ≤ at + length (run_words (relation_words n) l)
  unfolding places_from
  places_inside n at [] i = omega arith
  places_inside n at (r ∷ l) zero = omega arith
  places_inside n at (r ∷ l) (suc i) = omega (arith, places_inside n (at + length (relation_words n r)) l i, length-append (relation_words n r) (run_words (relation_words n) l))

  pub few_starts : relations ≤ 512
  few_starts = omega (arith, a.counts, (parts p w).few-relations)

  -- the pieces, of which those after the first are the relations
  abbrev others : List (List ℕ)
  others = other_pieces p

  table-long : length places ≡ relations + 1 + length others
  table-long = ap length (a.begins ∙ begin_pieces p) ∙ omega (arith, length-append (places_in p) (beginnings (relations_end p.names (first_relation p) p.relations) others), places_many p.names (first_relation p) p.relations, a.counts, sums-many (relations_end p.names (first_relation p) p.relations) (lengths others), length-map others (λ (x : List ℕ). length x))

  pub table-room : (relations + 1 ≤ length places) × (length places ≤ 1603)
  table-room = (omega (arith, table-long), omega (arith, table-long, few_starts, others-few p w))

  abbrev order : List ℕ
  order = mid_of 1 (relations + 1 - 1) places

  their_places : order ≡ places_in p
  their_places =
      let k : relations + 1 - 1 ≡ relations = omega arith in
      let P : List ℕ = places_in p in
      rw k (ap (λ (x : List ℕ). take relations (drop 1 x)) (a.begins ∙ begin_pieces p) ∙ take_at P (beginnings (relations_end p.names (first_relation p) p.relations) others) relations (places_many p.names (first_relation p) p.relations ∙ sym a.counts))

  order_long : length order ≡ relations
  order_long = ap length their_places ∙ places_many p.names (first_relation p) p.relations ∙ sym a.counts

  place-within : (i : ℕ) → get_or order i 0 < length ws
  place-within i =
      let R : List ℕ = run_words (relation_words p.names) p.relations in
      let l = ap length (pack-words p) ∙ length-append (front p) (R ++ (word_of 22 (length p.rules) ∷ rules_on p)) in
      let k = length-append R (word_of 22 (length p.rules) ∷ rules_on p) in
      let e : get_or order i 0 ≡ get_or (places_in p) i 0 = ap (λ (o : List ℕ). get_or o i 0) their_places in
      omega (arith, places_inside p.names (first_relation p) p.relations i, front_long p, ap length (words-read ws p h).same)

  finish_recorded : Recorded ws order
  finish_recorded = record { within = place-within; few = (let m = w.most in omega (arith, words-length p, ap length (words-read ws p h).same)) }

  -- lists in a cleared table
  module _ {t : List ℕ} (z : ClearFor places t) where
    pub table_fits : relations + 1 ≤ length t
    table_fits = omega (arith, table-room.0, z.room, ap length z.zeros, length-replicate {A = ℕ} z.most 0)

    pub finish_lists : Recorded ws order × (length (mid_of 1 (relations + 1 - 1) t) ≡ length order) × (length order ≤ 512)
    finish_lists = (finish_recorded, mid_len 1 (relations + 1) t (omega (arith, table_fits)) ∙ omega (arith, order_long), omega (arith, order_long, few_starts))

    pub found-room : (lists : List ℕ) → length lists ≡ length (mid_of 1 (relations + 1 - 1) t) → length places ≤ length (put_mid 1 (relations + 1 - 1) t lists)
    found-room lists kept = omega (arith, same_len_mid 1 (relations + 1 - 1) t lists kept, z.room, ap length z.zeros, length-replicate {A = ℕ} z.most 0)

  -- the words written
  module _ {lists : List ℕ} {added : ℕ} (listed : Listed ws work acts asked order lists added) where
    stands_so : work ≡ words (with_records p T.rels T.rls)
    stands_so = a.stands ∙ ap words (sym T.same)

    module _ {len : ℕ} (size : len ≡ length work + added) (lent : List ℕ) where
      total-is : total (stamp_all p a.whole) ≡ len
      total-is =
          sym (words-length (stamp_all p a.whole)) ∙ sym (ap (λ (q : Pack). length (words (stamp_all p q))) T.same)
          ∙ sym (its-length p w T.rels T.rls T.rules-are T.relations-are a.tabled h a.asks stands_so their_places listed) ∙ sym size

      -- of whichever pack the words are
      of_pack : {answer : Answer} {left : List ℕ} → answer ≡ given_out (all_kinds p.relations).steps (length lent) (done (stamp_all p a.whole)) → left ≡ written_out lent (done (stamp_all p a.whole)) → FinishCame ws lent answer left
      of_pack {answer} {left} x y =
          record {
            answers = λ r q e f. subst (λ (t : Pack). trees_resolved t ≡ done q → answer ≡ given_out (all_kinds t.relations).steps (length lent) (done (stamp_all t q))) (same-pack ws h e)
                (λ g. x ∙ ap (λ (t : Pack). given_out (all_kinds p.relations).steps (length lent) (done (stamp_all p t))) (done-same (sym a.resolves ∙ g))) f;
            leaves = λ r q e f. subst (λ (t : Pack). trees_resolved t ≡ done q → left ≡ written_out lent (done (stamp_all t q))) (same-pack ws h e)
                (λ g. y ∙ ap (λ (t : Pack). written_out lent (done (stamp_all p t))) (done-same (sym a.resolves ∙ g))) f;
          }

      both_no : (b : Bool) → leb len 8192 ≡ false → (leb len 8192 && b) ≡ false
      both_no b e = rw e refl

      no_room_came : (leb len 8192 && leb len (length lent)) ≡ false → {answer : Answer} → answer ≡ out_of_room → FinishCame ws lent answer lent
      no_room_came e s =
          of_pack
          (s ∙ sym (ap (λ (t : ℕ). pick (leb t 8192 && leb t (length lent)) (gives t (all_kinds p.relations).steps) out_of_room) total-is ∙ ap (λ (b : Bool). pick b (gives len (all_kinds p.relations).steps) out_of_room) e))
          (sym (ap (λ (t : ℕ). pick (leb t 8192 && leb t (length lent)) (words (stamp_all p a.whole) ++ drop t lent) lent) total-is ∙ ap (λ (b : Bool). pick b (words (stamp_all p a.whole) ++ drop len lent) lent) e))

      pub too_long : 8192 < len → {answer : Answer} → answer ≡ out_of_room → FinishCame ws lent answer lent
      too_long k s = no_room_came (both_no (leb len (length lent)) (lt-leb len 8192 k)) s

      pub too_short : length lent < len → {answer : Answer} → answer ≡ out_of_room → FinishCame ws lent answer lent
      too_short k s = no_room_came (and_right (leb len 8192) _ (lt-leb len (length lent) k)) s

      module _ (few : len ≤ 8192) (room : len ≤ length lent) where
        lent-long : length (mid_of 0 (len - 0) lent) ≡ len
        lent-long = front_length lent len room

        fits : (leb len 8192 && leb len (length lent)) ≡ true
        fits = rw (le-leb len 8192 few, le-leb len (length lent) room) refl

        module _ {t found : List ℕ} {all : ℕ} (z : ClearFor places t) (of-table : all ≡ length places) (kept : length lists ≡ length (mid_of 1 (relations + 1 - 1) t)) (stamped : found ≡ put_mid 1 (relations + 1 - 1) t lists) where
          table-stamped : mid_of 0 (all - 0) found ≡ 0 ∷ (lists ++ replicate (length others) 0)
          table-stamped =
              ap (mid_of 0 (all - 0)) (stamped ∙ ap (λ (l : List ℕ). put_mid 1 (relations + 1 - 1) l lists) z.zeros)
              ∙ in_zeros z.most (relations + 1) all (length others) lists (omega (arith, kept, (finish_lists z).1, order_long)) (of-table ∙ table-long) (omega (arith, z.room))

          pub finish_asked : WriteAsked ws places (mid_of 0 (all - 0) found) work (length (mid_of 0 (len - 0) lent))
          finish_asked = its-asked p w T.rels T.rls T.rules-are T.relations-are a.tabled h a.asks stands_so their_places listed a.begins table-stamped (lent-long ∙ size) (omega (arith, lent-long))

          pub finish_done : {out : List ℕ} → WriteCame ws places (mid_of 0 (all - 0) found) work (length (mid_of 0 (len - 0) lent)) out → FinishCame ws lent (gives len steps) (put_mid 0 (len - 0) lent out)
          finish_done {out} c =
              let whole : len - 0 ≡ len = omega arith in
              let s : steps ≡ (all_kinds p.relations).steps = a.tabled.filled.counts p h in
              let e : out ≡ words (stamp_all p a.whole) =
              its-words p w T.rels T.rls T.rules-are T.relations-are a.tabled h a.asks stands_so their_places listed a.begins table-stamped (lent-long ∙ size) (omega (arith, lent-long)) c ∙ ap (λ (q : Pack). words (stamp_all p q)) T.same in
              of_pack
              (ap (gives len) s ∙ sym (ap (λ (t : ℕ). pick (leb t 8192 && leb t (length lent)) (gives t (all_kinds p.relations).steps) out_of_room) total-is ∙ ap (λ (b : Bool). pick b (gives len (all_kinds p.relations).steps) out_of_room) fits))
              (ap (λ (t : ℕ). put_mid 0 t lent out) whole ∙ ap (λ (x : List ℕ). x ++ drop len lent) e
              ∙ sym (ap (λ (t : ℕ). pick (leb t 8192 && leb t (length lent)) (words (stamp_all p a.whole) ++ drop t lent) lent) total-is ∙ ap (λ (b : Bool). pick b (words (stamp_all p a.whole) ++ drop len lent) lent) fits))
