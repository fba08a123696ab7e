-- Resolve over bytes: what stands at the front of its slice is given to the output.
use Prim.Native.Nat.{ℕ, ◌+◌, ◌*◌, ◌/◌, ◌≤◌, min}
use native.Mathlib.Omega.{arith}
use mathlib.Core.Path.{◌≡◌, refl, ap, sym, ◌∙◌}
use mathlib.Core.List.{List, ◌++◌}
use lib.ListN.{length, drop, replicate, length-replicate, get_or-replicate}
use Rattle.std.specs.Prelude.{Ok, Err}
use Rattle.definitions.specs.Answers.{Answer}
use Rattle.definitions.specs.Operations.{resolve_answer, resolve_buffer}
use Rattle.resolve.specs.Finish.{RoomFor, front_of, Into}
use Rattle.resolve.proofs.ResolveLaws.{answer-within}
use Rattle.definitions.specs.Bytes.{words_of, bytes_of, out_after}
use Rattle.wire.specs.Loading.{loaded_of, Loaded, Tried, FitsOutput}
use Rattle.wire.proofs.ByteLaws.{words-length}
use Rattle.over_bytes.specs.BytesPromises.{RoomIn}
use Rattle.definitions.specs.declared.operation.Writing.TheVariants.{Resolve}
use Rattle.over_bytes.proofs.Writes.{writes}

after_front : (a : Answer) (x y out : List ℕ) → front_of a x ≡ front_of a y → out_after a x out ≡ out_after a y out
unfolding out_after
after_front (Ok g) x y out e = ap (λ (l : List ℕ). bytes_of l ++ drop (4 * g.value) out) e
after_front (Err r) x y out e = refl

module _ {bytes words : List ℕ} {room : ℕ} (l : Loaded bytes room words) {made : List ℕ} {most : ℕ} (r : RoomIn room made most) (out : List ℕ) {m : ℕ} (e : m ≡ min (length out / 4) most) where
  pub room_into : RoomFor words made m
  room_into =
      record { first = omega (arith, r.fits); blank = r.blank; noted = λ h. omega (arith, l.fits, r.noted, r.fits); fits = omega (arith, r.fits) }

  abbrev own : List ℕ
  own = replicate m 0

  own-long : length own ≡ m
  own-long = length-replicate {A = ℕ} m 0

  module _ {a : Answer} {left : List ℕ} (t : Into words m a left) where
    here : a ≡ resolve_answer words (length own)
    here = (t.each own own-long).0

    pub fits_into : length left ≡ length made → FitsOutput a (length left) (length out)
    fits_into k = go a refl
      where
        go : (b : Answer) → a ≡ b → FitsOutput b (length left) (length out)
        go (Ok g) f =
            let w = answer-within words (length own) (sym here ∙ f) in
            (omega (arith, w, own-long, e, r.fits, k), omega (arith, w, own-long, e))
        go (Err x) f = tt

    pub tried_into : {after : List ℕ} → after ≡ out_after a left out → Tried resolve_answer resolve_buffer bytes most out a after
    tried_into h =
        let ws = loaded_of bytes in
        let at : a ≡ resolve_answer ws (length own) = here ∙ ap (λ (x : List ℕ). resolve_answer x (length own)) l.are in
        let m₂ : length own ≡ min (length out / 4) most = own-long ∙ e in
        let wide : length own ≤ length (words_of out) = omega (arith, words-length out, m₂) in
        record {
          answers = at ∙ ap (resolve_answer ws) m₂;
          leaves = h
              ∙ after_front a left (resolve_buffer words own) out (t.each own own-long).1
              ∙ (λ i. out_after (at i) (resolve_buffer (l.are i) own) out)
              ∙ (writes Resolve).own ws own (words_of out) out wide
              ∙ ap (λ (x : Answer). out_after x (resolve_buffer ws (words_of out)) out) (sym at);
        }

-- of cleared words
pub made_room : (words most : ℕ) {made : ℕ} → made ≡ most + 1 → words ≤ most → RoomIn words (replicate made 0) most
made_room words most {made} e h =
    let l = length-replicate {A = ℕ} made 0 in
    record { blank = get_or-replicate {A = ℕ} made 0 0 0 (omega arith); noted = h; fits = omega arith }
