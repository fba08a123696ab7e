-- `wire::bytes::load` meets its contract: the words loaded and those of the bytes that are left are the words of all bytes.
use Prim.Native.Nat.{ℕ, ◌≤◌}
use native.Mathlib.Omega.{arith}
use mathlib.Core.Path.{◌≡◌, refl, ap, sym, ◌∙◌}
use mathlib.Core.List.{map}
use lib.ListN.{length, take}
use lib.Seq.{take_all, length-take-le}
use Rattle.std.specs.Int.{w32, from_le_bytes}
use Rattle.std.proofs.lemmas.Bool.{not_from_false, not_from_true}
use Rattle.wire.proofs.OverBytes.{few, none_loaded, all_loaded, at_front}
use Rattle.wire.proofs.ByteLaws.{words-fours}
use Rattle.wire.proofs.bytes.load.Goals as goal

pub returns-then-not-are_words : goal.returns-then-not-are_words
returns-then-not-are_words c = at_front (omega arith) (none_loaded _ (length c.args.words.now) c.are_words.ensures (not_from_false _ c.if-not-are_words.true))

pub returns : goal.returns
returns c =
    let l = c.loop-i in
    let fours = c.as_chunks.result.0.now in
    let e : l.i ≡ length fours = omega arith in
    let yes = not_from_true _ c.if-not-are_words.false in
    let fit : length fours ≤ length l.words = omega (arith, few (length c.args.bytes.now) c.are_words.ensures yes, c.requires, c.as_chunks.ensures.front_len, l.auto.words) in
    at_front fit
    (all_loaded c.args.bytes.now _ c.are_words.ensures yes (length-take-le (length fours) l.words fit ∙ c.as_chunks.ensures.front_len) c.requires
    (ap (λ (n : ℕ). take n l.words) (sym e) ∙ l.invariant ∙ ap (map (from_le_bytes w32)) (take_all l.i fours (omega arith) ∙ c.as_chunks.ensures.front) ∙ words-fours c.args.bytes.now _ refl))
