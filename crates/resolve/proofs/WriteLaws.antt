-- Laws of writing: what is put, and what is left to write.
use Prim.Native.Nat.{ℕ, ◌+◌, ◌-◌, ◌<◌, ◌≤◌}
use native.Mathlib.Omega.{arith}
use mathlib.Core.Path.{◌≡◌, refl, ap, sym, ◌∙◌, subst}
use mathlib.Core.List.{List, [], ◌∷◌, ◌++◌, map, append_assoc, append-nil}
use lib.ListN.{length, get_or, take, drop, length-append, length-map, drop_of_length-le}
use lib.Seq.{get_or-drop, drop-cons, drop-drop, drop_at, take_at, take_all}
use borrow.Author.Tests.{ne_eqb}
use Rattle.definitions.specs.Table.{value_of, word_of}
use Rattle.definitions.specs.Places.{names_at}
use Rattle.chains.specs.Record.{slots_place}
use Rattle.stamping.specs.Stamping.{names_or}
use Rattle.filtered.specs.Taking.{ListFound}
use Rattle.std.proofs.lemmas.List.{map_more}
use Rattle.std.proofs.lemmas.Simd.{map-map}
use Rattle.definitions.specs.WrittenRecords.{joined, sums, beginnings}
use Rattle.resolve.specs.declared.writer.Writer.{Writer}
use Rattle.resolve.specs.Writing.{written_so_far, HasRoom, Begins, Writes}
use Rattle.resolve.specs.Pieces.{from_to, list_words, put_for, piece_out, Stampable, Put, Written, RecordPut}

pub writes_then : {w w' w'' : Writer} {a b : List ℕ} → Writes w a w' → Writes w' b w'' → Writes w (a ++ b) w''
writes_then {w} {w'} {w''} {a} {b} p q =
    record {
      same_reference = q.same_reference ∙ p.same_reference;
      long = q.long ∙ p.long;
      after = q.after ∙ omega (arith, p.after, length-append a b);
      holds = q.holds ∙ ap (λ (l : List ℕ). l ++ b) p.holds ∙ append_assoc (written_so_far w) a b;
    }

-- room for words and for those after them
pub room-first : (w : Writer) (a b : List ℕ) → HasRoom w (a ++ b) → HasRoom w a
room-first w a b r = omega (arith, length-append a b)

pub room_then : {w w' : Writer} {a : List ℕ} (b : List ℕ) → HasRoom w (a ++ b) → Writes w a w' → HasRoom w' b
room_then {a = a} b r p = omega (arith, length-append a b, p.after, p.long)

pub mapped_next : (f : ℕ → ℕ) {w w' w'' : Writer} (names : List ℕ) {i : ℕ} → i < length names → Writes w (map f (take i names)) w' → Writes w' (f (get_or names i 0) ∷ []) w'' → Writes w (map f (take (i + 1) names)) w''
mapped_next f {w} {w'' = w''} names {i} h p q = subst (λ (l : List ℕ). Writes w l w'') (sym (map_more f names i 0 h)) (writes_then p q)

-- words that fill a slice
pub all_written : {w w' : Writer} {out more : List ℕ} → Begins w out → Writes w more w' → length more ≡ length out → w'.out.now ≡ more
all_written {w} {w'} {out} {more} b p l =
    let none : written_so_far w ≡ [] = ap (λ (n : ℕ). take n w.out.now) b.start in
    sym (take_all w'.to w'.out.now (omega (arith, p.after, b.start, l, p.long, ap length b.slice))) ∙ p.holds ∙ ap (λ (x : List ℕ). x ++ more) none

-- ---- the names of a list

-- the word for the name that a word holds
abbrev pub name_word : ℕ → ℕ
name_word w = word_of 10 (value_of w)

-- so the list is written
pub list_put : (kind : ℕ) (names : List ℕ) → list_words kind (map value_of names) ≡ word_of kind (length names) ∷ map name_word names
list_put kind names = rw (length-map names value_of, map-map (word_of 10) value_of names) refl

-- ---- a record

pub piece_stays : (ws : List ℕ) {list : ℕ} (w : List ℕ) → list ≡ 0 → piece_out ws list w ≡ w
unfolding piece_out
piece_stays ws w z = rw z refl

pub piece_stamped : (ws : List ℕ) {list : ℕ} (w : List ℕ) {place : ℕ} → (list ≡ 0 → ⊥) → place ≡ slots_place w 0 + 4 → piece_out ws list w ≡ put_for (names_or (names_at ws list)) w place ++ from_to (place + 1) (length w) w
unfolding piece_out
piece_stamped ws {list} w z e = rw (ne_eqb list 0 z, e) refl

-- by the words of the list
pub piece_found : {ws : List ℕ} {list : ℕ} (w : List ℕ) {place : ℕ} {names : List ℕ} → ListFound ws list names → (list ≡ 0 → ⊥) → place ≡ slots_place w 0 + 4 → piece_out ws list w ≡ put_for (map value_of names) w place ++ from_to (place + 1) (length w) w
piece_found {ws} w f z e = rw f.names (piece_stamped ws w z e)

pub list_inside : (list : ℕ) (w : List ℕ) {place : ℕ} → Stampable list w → (list ≡ 0 → ⊥) → place ≡ slots_place w 0 + 4 → place < length w
unfolding Stampable
list_inside list w s z e = rw e (s z)

-- ---- pieces one after the other

pub joined-append : (a b : List (List ℕ)) → joined (a ++ b) ≡ joined a ++ joined b
joined-append [] b = refl
joined-append (w ∷ a) b = ap (λ (l : List ℕ). w ++ l) (joined-append a b) ∙ sym (append_assoc w (joined a) (joined b))

joined_one : (a : List (List ℕ)) (w : List ℕ) → joined (a ++ (w ∷ [])) ≡ joined a ++ w
joined_one a w = joined-append a (w ∷ []) ∙ ap (λ (l : List ℕ). joined a ++ l) (append-nil w)

-- words put at the running place are one record more
pub record-put : {out r left : List ℕ} {to next : ℕ} → Put out to r left next → RecordPut out to r left next
record-put {out} {r} {left} {to} {next} p =
    record {
      carried = λ before w. record { given = w.counts; handed_on = p.after };
      writes = λ before w. record {
        counts = p.after ∙ ap (λ (n : ℕ). n + length r) w.counts ∙ sym (ap length (joined_one before r) ∙ length-append (joined before) r);
        holds = p.holds ∙ ap (λ (l : List ℕ). l ++ r) w.holds ∙ sym (joined_one before r);
      };
    }

-- so are words that a writer writes
pub writer-put : {w w' : Writer} {r : List ℕ} → Writes w r w' → RecordPut w.out.now w.to r w'.out.now w'.to
writer-put p = record-put (record { after = p.after; holds = p.holds })

pub data Pieces (ws : List ℕ) : List ℕ → List (List ℕ) → List (List ℕ) → Type 0 where
  no_piece : Pieces ws [] [] []
  piece : {list : ℕ} {w w' : List ℕ} {lists : List ℕ} {l l' : List (List ℕ)} → Stampable list w → w' ≡ piece_out ws list w → Pieces ws lists l l' → Pieces ws (list ∷ lists) (w ∷ l) (w' ∷ l')

-- the first begins where those before it end, and past the last there is the end
begins-here : (work B : List ℕ) (l : List (List ℕ)) → work ≡ B ++ joined l → get_or (beginnings (length B) l) 0 (length work) ≡ length B
unfolding sums
begins-here work B [] e = ap length (e ∙ append-nil B)
begins-here work B (w ∷ l) e = refl

module _ (ws work places lists : List ℕ) (rs : List (List ℕ)) where
  -- of `rs` so many are written, `done`; of the words `B` are behind, and `l` are to come and become `l'`
  pub record Writing (i start to : ℕ) (out : List ℕ) : Type 0 where
    pub B : List ℕ
    pub l : List (List ℕ)
    pub l' : List (List ℕ)
    pub its : List ℕ
    pub stands : work ≡ B ++ joined l
    pub starts : start ≡ length B
    pub begins : drop i places ≡ beginnings (length B) l
    pub listed : drop i lists ≡ its
    pub comes : Pieces ws its l l'
    pub done : List (List ℕ)
    pub written : Written done out to
    pub all : done ++ l' ≡ rs
    pub size : length out ≡ length (joined rs)

  -- the next piece
  record Facing (i start to : ℕ) (out : List ℕ) : Type 0 where
    B : List ℕ
    w : List ℕ
    l : List (List ℕ)
    l' : List (List ℕ)
    its : List ℕ
    stands : work ≡ (B ++ w) ++ joined l
    starts : start ≡ length B
    begins : drop (i + 1) places ≡ beginnings (length (B ++ w)) l
    listed : drop (i + 1) lists ≡ its
    fits : Stampable (get_or lists i 0) w
    comes : Pieces ws its l l'
    done : List (List ℕ)
    written : Written done out to
    all : (done ++ (piece_out ws (get_or lists i 0) w ∷ [])) ++ l' ≡ rs

  tail_of : (i : ℕ) (xs : List ℕ) {x : ℕ} {ys : List ℕ} → drop i xs ≡ x ∷ ys → drop (i + 1) xs ≡ ys
  tail_of i xs e = sym (drop-drop 1 i xs) ∙ ap (drop 1) e

  face : {i start to : ℕ} {out : List ℕ} → Writing i start to out → i < length lists → Facing i start to out
  unfolding sums
  face {i} {start} {to} {out} s h = go s.comes s.stands s.begins s.listed s.all
    where
      go : {its : List ℕ} {l l' : List (List ℕ)} → Pieces ws its l l' → work ≡ s.B ++ joined l → drop i places ≡ beginnings (length s.B) l → drop i lists ≡ its → s.done ++ l' ≡ rs → Facing i start to out
      go no_piece e b q t = let x = drop-cons lists i 0 h in let z : ◌≡◌ {A = ℕ} 0 1 = cc in absurd (omega arith)
      go (piece {list = list} {w = w} {w' = w'} {lists = ls} {l = l} {l' = l'} f o more) e b q t =
          let x = drop-cons lists i 0 h in
          let list-is : list ≡ get_or lists i 0 = cc in
          record {
            B = s.B;
            w = w;
            l = l;
            l' = l';
            its = ls;
            stands = e ∙ sym (append_assoc s.B w (joined l));
            starts = s.starts;
            begins = tail_of i places b ∙ ap (λ (x : ℕ). beginnings x l) (sym (length-append s.B w));
            listed = tail_of i lists q;
            fits = subst (λ (v : ℕ). Stampable v w) list-is f;
            comes = more;
            done = s.done;
            written = s.written;
            all = append_assoc s.done (piece_out ws (get_or lists i 0) w ∷ []) l' ∙ ap (λ (v : List ℕ). s.done ++ (v ∷ l')) (sym (o ∙ ap (λ (v : ℕ). piece_out ws v w) list-is)) ∙ t;
          }

  module _ {i start to : ℕ} {out : List ℕ} (s : Writing i start to out) (h : i < length lists) {end : ℕ} (e : end ≡ get_or places (i + 1) (length work)) where
    abbrev F : Facing i start to out
    F = face s h

    ends : end ≡ length (F.B ++ F.w)
    ends =
        let zero_more : i + 1 + 0 ≡ i + 1 = omega arith in
        e ∙ ap (λ (x : ℕ). get_or places x (length work)) (sym zero_more) ∙ sym (get_or-drop (i + 1) places 0 (length work)) ∙ ap (λ (x : List ℕ). get_or x 0 (length work)) F.begins ∙ begins-here work (F.B ++ F.w) F.l F.stands

    pub part_within : (start ≤ end) × (end ≤ length work)
    part_within = (omega (arith, ends, F.starts, length-append F.B F.w), omega (arith, ends, ap length F.stands, length-append (F.B ++ F.w) (joined F.l)))

    part_is : from_to start end work ≡ F.w
    part_is =
        ap (from_to start end) (F.stands ∙ append_assoc F.B F.w (joined F.l)) ∙ ap (take (end - start)) (drop_at F.B (F.w ++ joined F.l) start (sym F.starts))
        ∙ take_at F.w (joined F.l) (end - start) (omega (arith, ends, F.starts, length-append F.B F.w))

    abbrev more : List ℕ
    more = piece_out ws (get_or lists i 0) F.w

    -- it and what is written before it are within the slice
    fits : to + length more ≤ length out
    fits =
        omega (
          arith,
          F.written.counts,
          s.size,
          ap (λ (l : List (List ℕ)). length (joined l)) F.all,
          ap length (joined-append (F.done ++ (more ∷ [])) F.l'),
          length-append (joined (F.done ++ (more ∷ []))) (joined F.l'),
          ap length (joined_one F.done more),
          length-append (joined F.done) more,
        )

    pub part_asked : Stampable (get_or lists i 0) (from_to start end work) × (to + length (piece_out ws (get_or lists i 0) (from_to start end work)) ≤ length out)
    part_asked = rw part_is (F.fits, fits)

    pub part_put : {next : ℕ} {left : List ℕ} → RecordPut out to (piece_out ws (get_or lists i 0) (from_to start end work)) left next → length left ≡ length out → Writing (i + 1) end next left
    part_put {next} {left} p same =
        let q : RecordPut out to more left next = rw part_is at p in
        record {
          B = F.B ++ F.w;
          l = F.l;
          l' = F.l';
          its = F.its;
          stands = F.stands;
          starts = ends;
          begins = F.begins;
          listed = F.listed;
          comes = F.comes;
          done = F.done ++ (more ∷ []);
          written = q.writes F.done F.written;
          all = F.all;
          size = same ∙ s.size;
        }

  -- no piece is left
  pub all-put : {i start to : ℕ} {out : List ℕ} → Writing i start to out → length lists ≤ i → Written rs out to
  all-put {i} {to = to} {out} s h = go s.comes (sym (drop_of_length-le lists h) ∙ s.listed) s.all
    where
      go : {its : List ℕ} {l l' : List (List ℕ)} → Pieces ws its l l' → [] ≡ its → s.done ++ l' ≡ rs → Written rs out to
      go no_piece q t = subst (λ (l : List (List ℕ)). Written l out to) (sym (append-nil s.done) ∙ t) s.written
      go (piece f o more) q t = let z : ◌≡◌ {A = ℕ} 0 1 = cc in absurd (omega arith)

-- so they fill the slice
pub all-filled : {rs : List (List ℕ)} {out : List ℕ} {to : ℕ} → Written rs out to → length out ≡ length (joined rs) → out ≡ joined rs
all-filled {rs} {out} {to} w l = sym (take_all to out (omega (arith, w.counts))) ∙ w.holds
