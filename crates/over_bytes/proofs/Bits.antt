-- No answer is too large for its bits: the number that a function of the host answers gives the operation's answer back (`answers_again`, over bytes by `over_bytes-fits`).
use Prim.Native.Nat.{ℕ, ◌/◌, ◌^◌, ◌<◌, ◌≤◌}
use native.Mathlib.Omega.{arith}
use mathlib.Core.Path.{◌≡◌, refl}
use mathlib.Core.Bool.{Bool, true, false, ◌||◌, ◌&&◌}
use mathlib.Core.List.{List, [], ◌∷◌}
use mathlib.Core.Option.{none}
use lib.ListN.{length, length-map}
use lib.Dec.{leb, ltb}
use borrow.Author.Tests.{leb-true}
use Rattle.definitions.specs.Table.{pick}
use Rattle.definitions.specs.Form.{among}
use Rattle.definitions.specs.Records.{Relation, Pack}
use Rattle.definitions.specs.Pack.{WellFormed, Reading, yes, refuse, read, total, words}
use Rattle.definitions.specs.Answers.{Answer, gives, answer, out_of_room, write_answer, unknown, yes_no, Outcome, done, refused}
use Rattle.definitions.specs.Checking.{check_answer, rewrite_answer}
use Rattle.pack.proofs.PackLaws.{words-read}
use Rattle.pack.proofs.Refusals.{read_numbers}
use Rattle.definitions.specs.Chain.{Link, end, next, same, with_next, outside}
use Rattle.definitions.specs.Kinds.{kind_step, declared, own_answer, all_kinds}
use Rattle.definitions.specs.Places.{place_of, all_kinds_words}
use Rattle.definitions.specs.Operations.{all_kinds_answer, kinds_of_answer, lean_answer, filter_answer, resolve_answer}
use Rattle.resolve.specs.Finish.{given_out}
use Rattle.definitions.specs.Filtered.{filter_words}
use Rattle.definitions.specs.Lean.{leans}
use Rattle.definitions.specs.declared.operation.Filter.{Filter}
use Rattle.chains.proofs.KindLaws.{kinds-steps, distinct_names}
use Rattle.chains.proofs.PackParts.{parts}
use Rattle.chains.proofs.PlaceBounds.{end-small}
use Rattle.chains.proofs.ListAt.{own-holds}
use Rattle.definitions.specs.Resolving.{resolved}
use Rattle.directions.proofs.Numbers.{refused_number}
use Rattle.resolve.proofs.RefusalNames.{Told, resolved_told}
use Rattle.definitions.specs.Bytes.{encode, decode, in_room, FitsBits}
use Rattle.wire.proofs.DecodingLaws.{decode_again, over_bytes-fits}
use Rattle.over_bytes.proofs.Writes.{few_words, few_places, few-names}

-- Check's refusals, and what is answered for a pack
reads : (ws : List ℕ) (f : Pack → Answer) → ((p : Pack) → read ws ≡ yes p → FitsBits (f p)) → FitsBits (answer (read ws) f)
reads ws f h = go (read ws) refl
  where
    go : (m : Reading) → read ws ≡ m → FitsBits (answer m f)
    go (yes p) e = h p e
    go (refuse r) e = let b = read_numbers ws r e in (omega arith, omega arith, omega arith, omega arith, omega arith)

writes : (out : List ℕ) (steps room : ℕ) → length out < 2 ^ 32 → steps < 2 ^ 12 → FitsBits (write_answer out steps room)
writes out steps room h k = go (leb (length out) room)
  where
    go : (b : Bool) → FitsBits (pick b (gives (length out) steps) out_of_room)
    go true = (h, k)
    go false = (omega arith, omega arith, omega arith, omega arith, omega arith)

pub check_fits : (ws : List ℕ) → FitsBits (check_answer ws)
unfolding check_answer
check_fits ws = reads ws _ (λ p e. (omega arith, omega arith))

pub rewrite_fits : (ws : List ℕ) (room : ℕ) → FitsBits (rewrite_answer ws room)
unfolding rewrite_answer
rewrite_fits ws room = reads ws _ (λ p e. writes (words p) 0 room (omega (arith, few_words ws p e)) (omega arith))

-- a relation inherits from one name, so there are no more undeclared sources than relations
few-outside : {R : Type 0} (step : ℕ → Link R) (ds ns : List ℕ) → length (outside step ds ns) ≤ length ns
unfolding outside
few-outside step ds [] = omega arith
few-outside {R} step ds (n ∷ ns) = go (step n) (few-outside step ds ns)
  where
    rest : List ℕ
    rest = outside step ds ns

    added : (b : Bool) (m : ℕ) → length rest ≤ length ns → length (pick b rest (m ∷ rest)) ≤ length (n ∷ ns)
    added true m h = omega arith
    added false m h = omega arith

    go : (s : Link R) → length rest ≤ length ns → length (with_next ds s rest) ≤ length (n ∷ ns)
    go (end r) h = omega arith
    go (next m) h = added (among m ds || among m rest) m h

few-steps : (p : Pack) → WellFormed p → (all_kinds p.relations).steps ≤ 1024
few-steps p w =
    let rs = p.relations in
    let l : length (declared rs) ≡ length rs = length-map rs (λ (r : Relation). r.name) in
    omega (arith, kinds-steps rs (distinct_names p w), few-outside (kind_step rs) (declared rs) (declared rs), (parts p w).few-relations)

pub all_kinds-fits : (ws : List ℕ) (room : ℕ) → FitsBits (all_kinds_answer ws room)
unfolding all_kinds_answer
all_kinds-fits ws room =
    reads ws _ (λ p e. writes (all_kinds_words p) (all_kinds p.relations).steps room (omega (arith, few_places ws p e)) (omega (arith, few-steps p (words-read ws p e).fine)))

-- Resolve refuses by names and a place of the pack, and gives no more than 8,192 words
resolve_gives : (ws : List ℕ) (room : ℕ) (p : Pack) → read ws ≡ yes p → FitsBits (given_out (all_kinds p.relations).steps room (resolved p))
resolve_gives ws room p e = go (resolved p) refl (resolved_told p fine)
  where
    fine : WellFormed p
    fine = (words-read ws p e).fine

    steps : ℕ
    steps = (all_kinds p.relations).steps

    given : (a b : Bool) (n : ℕ) → leb n 8192 ≡ a → FitsBits (pick (a && b) (gives n steps) out_of_room)
    given true true n h = (let k = leb-true n 8192 h in omega arith, omega (arith, few-steps p fine))
    given true false n h = (omega arith, omega arith, omega arith, omega arith, omega arith)
    given false b n h = (omega arith, omega arith, omega arith, omega arith, omega arith)

    go : (o : Outcome Pack) → resolved p ≡ o → Told p.names (total p) o → FitsBits (given_out steps room o)
    go (done q) s t = given (leb (total q) 8192) (leb (total q) room) (total q) refl
    go (refused r) s t =
        let few : p.names ≤ 4096 = (parts p fine).most in
        (omega (arith, (refused_number p r s).0), omega (arith, t.0.number), omega (arith, t.0.place, fine.most), omega (arith, t.1), omega (arith, t.0.other))

pub resolve-fits : (ws : List ℕ) (room : ℕ) → FitsBits (resolve_answer ws room)
unfolding resolve_answer
resolve-fits ws room = reads ws _ (resolve_gives ws room)

-- a place is that of a step's end, and those are small
no_place : (p : Pack) → place_of p none < 65536
unfolding place_of
no_place p = omega arith

place-small : (p : Pack) → WellFormed p → (n : ℕ) → place_of p (own_answer p.relations n) < 65536
place-small p w n =
    own-holds (λ a. place_of p a < 65536) none (no_place p) same (λ a h. h) (kind_step p.relations) (end-small p w) (declared p.relations) n

unknown-fits : (name : ℕ) → name < 2 ^ 32 → FitsBits (unknown name)
unknown-fits name h = (omega arith, omega arith, omega arith, h, omega arith)

pub kinds_of-fits : (ws : List ℕ) (name : ℕ) → name < 2 ^ 32 → FitsBits (kinds_of_answer ws name)
unfolding kinds_of_answer
kinds_of-fits ws name h = reads ws _ (λ p e. go p (words-read ws p e).fine (ltb name p.names))
  where
    go : (p : Pack) → WellFormed p → (b : Bool) → FitsBits (pick b (gives (place_of p (own_answer p.relations name)) 0) (unknown name))
    go p w true = (omega (arith, place-small p w name), omega arith)
    go p w false = unknown-fits name h

yes_no-fits : (b : Bool) → FitsBits (gives (yes_no b) 0)
yes_no-fits true = (omega arith, omega arith)
yes_no-fits false = (omega arith, omega arith)

pub lean-fits : (ws : List ℕ) (a b : ℕ) → a < 2 ^ 32 → b < 2 ^ 32 → FitsBits (lean_answer ws a b)
unfolding lean_answer
lean-fits ws a b h k = reads ws _ (λ p e. go p (ltb a p.names) (ltb b p.names))
  where
    go : (p : Pack) (s t : Bool) → FitsBits (pick s (pick t (gives (yes_no (leans p.relations a b)) 0) (unknown b)) (unknown a))
    go p true true = yes_no-fits (leans p.relations a b)
    go p true false = unknown-fits b k
    go p false t = unknown-fits a h

pub filtered_fits : (f : Filter) (ws : List ℕ) (room : ℕ) → FitsBits (filter_answer f ws room)
unfolding filter_answer
filtered_fits f ws room = reads ws _ (λ p e. writes (filter_words f p) 0 room (omega (arith, few-names f ws p e)) (omega arith))

-- so a program that has the number has Resolve's answer
pub resolve-decoded : (b : ℕ) (bytes : List ℕ) → decode (encode (in_room resolve_answer b bytes)) ≡ in_room resolve_answer b bytes
resolve-decoded b bytes = decode_again (in_room resolve_answer b bytes) (over_bytes-fits (λ ws. resolve_answer ws (b / 4)) (λ ws. resolve-fits ws (b / 4)) bytes)
