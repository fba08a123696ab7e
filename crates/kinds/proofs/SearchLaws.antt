-- Laws of the search along edges: what is reached is led to, and where nothing in the queue is left to enter, all that is led to is reached.
use Prim.Native.Nat.{ℕ, zero, suc, ◌+◌, ◌-◌, ◌<◌, ◌≤◌}
use native.Mathlib.Omega.{arith}
use mathlib.Core.Path.{◌≡◌, refl, ap, sym, ◌∙◌, subst}
use mathlib.Core.Logic.{◌⊎◌, inl, inr}
use mathlib.Core.List.{List, [], ◌∷◌, ◌++◌}
use mathlib.Core.Bool.{Bool, true, false, ◌||◌, or-false}
use lib.ListN.{length, get_or, set, length-set}
use lib.Seq.{get_or-set_same, get_or-set_other}
use lib.Dec.{eqb}
use borrow.Author.Tests.{eq-eqb, ne_eqb, eqb-true, eqb-false}
use Rattle.std.proofs.lemmas.Bool.{or_left, or_right}
use Rattle.definitions.specs.Form.{among, repeats}
use Rattle.definitions.specs.Lean.{Leads, straight, onward, source_name}
use Rattle.chains.specs.Record.{value_at, steps_in, path_in}
use Rattle.chains.proofs.Names.{apart, among-append}
use Rattle.chains.specs.DirectoryWord.{Reaches, starts_in}
use Rattle.kinds.specs.Edges.{derived_edges, edges_in, edges_by}
use Rattle.kinds.proofs.EdgeLaws.{at_none}
use Rattle.kinds.specs.Search.{Search, searched, reached, reached_all, unmarked, QueueHasRoom, Reachable, Searchable, Computes}

-- ---- marks that are clear

unmarked-clear : (l : List Bool) → ((m : ℕ) → get_or l m false ≡ false) → unmarked l ≡ length l
unfolding unmarked
unmarked-clear [] h = refl
unmarked-clear (true ∷ l) h = apart refl (h 0)
unmarked-clear (false ∷ l) h = ap suc (unmarked-clear l (λ m. h (suc m)))

-- a mark that was clear is one fewer
unmarked-set : (l : List Bool) (n : ℕ) → n < length l → get_or l n false ≡ false → unmarked l ≡ suc (unmarked (set l n true))
unfolding unmarked
unmarked-set [] n h z = absurd (omega arith)
unmarked-set (true ∷ l) zero h z = apart refl z
unmarked-set (false ∷ l) zero h z = refl
unmarked-set (true ∷ l) (suc n) h z = unmarked-set l n (omega arith) z
unmarked-set (false ∷ l) (suc n) h z = ap suc (unmarked-set l n (omega arith) z)

-- ---- a name reached

abbrev pub Marked : Search → ℕ → Type 0
Marked s m = get_or s.marks m false ≡ true

module _ (n : ℕ) (s : Search) where
  pub reached-before : Marked s n → reached n s ≡ s
  unfolding reached
  reached-before h = rw h refl

  pub reached_now : get_or s.marks n false ≡ false → reached n s ≡ searched (set s.marks n true) (set s.queue s.count n) (s.count + 1) s.entered
  unfolding reached
  reached_now z = rw z refl

pub reached-more : (ns ms : List ℕ) (s : Search) → reached_all (ns ++ ms) s ≡ reached_all ms (reached_all ns s)
unfolding reached_all
reached-more [] ms s = refl
reached-more (n ∷ ns) ms s = reached-more ns ms (reached n s)

-- what a search keeps
pub record Onward (s t : Search) : Type 0 where
  pub more : s.count ≤ t.count
  pub queued : (j : ℕ) → j < s.count → get_or t.queue j 0 ≡ get_or s.queue j 0
  pub marked : (m : ℕ) → Marked s m → Marked t m
  pub marks : length t.marks ≡ length s.marks
  pub queue : length t.queue ≡ length s.queue
  pub room : unmarked t.marks + t.count ≡ unmarked s.marks + s.count
  pub entered : t.entered ≡ s.entered

stays : (s : Search) → Onward s s
stays s = record { more = omega arith; queued = λ j h. refl; marked = λ m h. h; marks = refl; queue = refl; room = refl; entered = refl }

after : {s t u : Search} → Onward s t → Onward t u → Onward s u
after f g =
    record {
      more = omega (arith, f.more, g.more);
      queued = λ j h. g.queued j (omega (arith, f.more)) ∙ f.queued j h;
      marked = λ m h. g.marked m (f.marked m h);
      marks = g.marks ∙ f.marks;
      queue = g.queue ∙ f.queue;
      room = g.room ∙ f.room;
      entered = g.entered ∙ f.entered;
    }

pub room_kept : {s t : Search} → QueueHasRoom s → Onward s t → QueueHasRoom t
room_kept r o = omega (arith, r, o.room, o.queue)

-- there are marks and a queue for so many names: those queued and those unmarked are no more than the marks; so many of those queued are entered
pub record SearchRoom (names long i : ℕ) (s : Search) : Type 0 where
  pub most : unmarked s.marks + s.count ≤ names
  pub room : names ≤ long
  pub marks : length s.marks ≡ names
  pub queue : length s.queue ≡ long
  pub now : s.entered ≡ i
  pub sofar : i ≤ s.count

module _ {names long i : ℕ} {s : Search} (f : SearchRoom names long i s) where
  room-on : {t : Search} → Onward s t → SearchRoom names long i t
  room-on o =
      record {
        most = omega (arith, f.most, o.room);
        room = f.room;
        marks = o.marks ∙ f.marks;
        queue = o.queue ∙ f.queue;
        now = o.entered ∙ f.now;
        sofar = omega (arith, f.sofar, o.more);
      }

  room-next : s.entered < s.count → SearchRoom names long (i + 1) (searched s.marks s.queue s.count (s.entered + 1))
  room-next h =
      record {
        most = f.most;
        room = f.room;
        marks = f.marks;
        queue = f.queue;
        now = omega (arith, f.now);
        sofar = omega (arith, f.now, h);
      }

  -- by its own numbers
  own-room : SearchRoom (length s.marks) (length s.queue) i s
  own-room =
      record {
        most = omega (arith, f.most, f.marks);
        room = omega (arith, f.room, f.marks, f.queue);
        marks = refl;
        queue = refl;
        now = f.now;
        sofar = f.sofar;
      }

  pub own-entered : SearchRoom names long s.entered s
  own-entered = subst (λ (k : ℕ). SearchRoom names long k s) (sym f.now) f

-- the marks after a store
module _ (l : List Bool) (n : ℕ) (inside : n < length l) where
  set-marks : get_or (set l n true) n false ≡ true
  set-marks = get_or-set_same l n true false inside

  -- a mark that is there is the new one, or was there before
  set-marked : (m : ℕ) → get_or (set l n true) m false ≡ true → (m ≡ n) ⊎ (get_or l m false ≡ true)
  set-marked m h = go (eqb m n) refl
    where
      go : (t : Bool) → eqb m n ≡ t → (m ≡ n) ⊎ (get_or l m false ≡ true)
      go true e = inl (eqb-true m n e)
      go false e = inr (sym (get_or-set_other l n m true false (eqb-false m n e)) ∙ h)

  set_keeps : (m : ℕ) → get_or l m false ≡ true → get_or (set l n true) m false ≡ true
  set_keeps m h = go (eqb m n) refl
    where
      go : (t : Bool) → eqb m n ≡ t → get_or (set l n true) m false ≡ true
      go true e = ap (λ (k : ℕ). get_or (set l n true) k false) (eqb-true m n e) ∙ set-marks
      go false e = get_or-set_other l n m true false (eqb-false m n e) ∙ h

-- what is asked for one name
module _ (n : ℕ) (s : Search) (asked : Reachable (n ∷ []) s) where
  pub inside : n < length s.marks
  inside = asked.below n (or_left _ false (eq-eqb n n refl))

  pub fits : QueueHasRoom s → get_or s.marks n false ≡ false → s.count < length s.queue
  fits r z = omega (arith, r, unmarked-set s.marks n inside z)

  pub added : get_or s.marks n false ≡ false → Onward s (searched (set s.marks n true) (set s.queue s.count n) (s.count + 1) s.entered)
  added z =
      record {
        more = omega arith;
        queued = λ j h. get_or-set_other s.queue s.count j n 0 (λ e. omega arith);
        marked = set_keeps s.marks n inside;
        marks = length-set s.marks n true;
        queue = length-set s.queue s.count n;
        room = omega (arith, unmarked-set s.marks n inside z);
        entered = refl;
      }

  -- whether it was reached before or is now
  either_way : (P : Search → Type 0) → (Marked s n → P s) → (get_or s.marks n false ≡ false → P (searched (set s.marks n true) (set s.queue s.count n) (s.count + 1) s.entered)) → P (reached n s)
  either_way P before now = go (get_or s.marks n false) refl
    where
      go : (t : Bool) → get_or s.marks n false ≡ t → P (reached n s)
      go true h = subst P (sym (reached-before n s h)) (before h)
      go false z = subst P (sym (reached_now n s z)) (now z)

  pub reach_onward : Onward s (reached n s)
  reach_onward = either_way (λ t. Onward s t) (λ h. stays s) added

  reach_marks : Marked (reached n s) n
  reach_marks = either_way (λ t. Marked t n) (λ h. h) (λ z. set-marks s.marks n inside)

-- of a row of names the first, and the others once it is reached
pub first-asked : {n : ℕ} {ns : List ℕ} {s : Search} → Reachable (n ∷ ns) s → Reachable (n ∷ []) s
first-asked {n} {ns} r = record { below = λ m i. r.below m (or_left _ (among m ns) (sym (or-false (eqb m n)) ∙ i)) }

pub others-asked : {ns ms : List ℕ} {s t : Search} → Reachable ns s → Onward s t → ((m : ℕ) → among m ms ≡ true → among m ns ≡ true) → Reachable ms t
others-asked r o h = record { below = λ m i. omega (arith, r.below m (h m i), o.marks) }

pub rest-asked : {n : ℕ} {ns : List ℕ} {s : Search} → Reachable (n ∷ ns) s → Reachable ns (reached n s)
rest-asked {n} {s = s} r = others-asked r (reach_onward n s (first-asked r)) (λ m i. or_right (eqb m n) _ i)

pub all-onward : (ns : List ℕ) (s : Search) → Reachable ns s → Onward s (reached_all ns s)
unfolding reached_all
all-onward [] s r = stays s
all-onward (n ∷ ns) s r = after (reach_onward n s (first-asked r)) (all-onward ns (reached n s) (rest-asked r))

all-marks : (ns : List ℕ) (s : Search) → Reachable ns s → (m : ℕ) → among m ns ≡ true → Marked (reached_all ns s) m
unfolding reached_all
all-marks [] s r m i = apart i refl
all-marks (n ∷ ns) s r m i = go (eqb m n) refl i (all-marks ns (reached n s) (rest-asked r) m)
  where
    go : (t : Bool) → eqb m n ≡ t → (t || among m ns) ≡ true → (among m ns ≡ true → Marked (reached_all ns (reached n s)) m) → Marked (reached_all ns (reached n s)) m
    go true e j rest = (all-onward ns (reached n s) (rest-asked r)).marked m (subst (Marked (reached n s)) (sym (eqb-true m n e)) (reach_marks n s (first-asked r)))
    go false e j rest = rest j

-- ---- a source

module _ {source : ℕ} (s : Search) where
  pub no_source : source ≡ 16777215 → s ≡ reached_all (source_name source) s
  unfolding reached_all
  no_source z = sym (rw (eq-eqb source 16777215 z) refl)

  module _ (u : source ≡ 16777215 → ⊥) where
    named : source_name source ≡ source ∷ []
    named = rw (ne_eqb source 16777215 u) refl

    pub a_source : {t : Search} → t ≡ reached source s → t ≡ reached_all (source_name source) s
    unfolding reached_all
    a_source e = e ∙ ap (λ (ns : List ℕ). reached_all ns s) (sym named)

-- ---- the steps of a path

module _ (ws : List ℕ) (at : ℕ) (s₀ : Search) where
  pub no_path : {steps : ℕ} → steps ≡ value_at ws at → steps ≡ 16777215 → s₀ ≡ reached_all (path_in ws at) s₀
  unfolding path_in steps_in reached_all
  no_path {steps} e z = sym (rw (← e, eq-eqb steps 16777215 z) refl)

  -- so many steps are left to reach, from a place on
  pub record Reaching (s : Search) (place left : ℕ) : Type 0 where
    pub asked : Reachable (steps_in ws place left) s
    pub todo : reached_all (steps_in ws place left) s ≡ reached_all (path_in ws at) s₀

  pub path_begin : {steps place left : ℕ} → steps ≡ value_at ws at → (steps ≡ 16777215 → ⊥) → Reachable (path_in ws at) s₀ → place ≡ at + 1 → left ≡ steps → Reaching s₀ place left
  unfolding path_in
  path_begin {steps} e u r p l =
      let q : repeats (value_at ws at) ≡ steps = rw (← e, ne_eqb steps 16777215 u) refl in
      rw (p, l)
      (record {
        asked = subst (λ (n : ℕ). Reachable (steps_in ws (at + 1) n) s₀) q r;
        todo = ap (λ (n : ℕ). reached_all (steps_in ws (at + 1) n) s₀) (sym q);
      })

  module _ {s : Search} {place left : ℕ} (f : Reaching s place left) where
    pub path-end : left ≡ 0 → s ≡ reached_all (path_in ws at) s₀
    unfolding steps_in reached_all
    path-end h = sym (ap (λ (k : ℕ). reached_all (steps_in ws place k) s) h) ∙ f.todo

    module _ {x : ℕ} (q : x ≡ value_at ws place) {place' left' : ℕ} (on : place' ≡ place + 3) (one : left ≡ suc left') where
      -- the next of them
      next_step : steps_in ws place left ≡ x ∷ steps_in ws place' left'
      unfolding steps_in
      next_step = rw (on, one, ← q) refl

      both_asked : Reachable (x ∷ steps_in ws place' left') s
      both_asked = subst (λ (ns : List ℕ). Reachable ns s) next_step f.asked

      pub step_reached : {t : Search} → t ≡ reached x s → Reaching t place' left'
      unfolding reached_all
      step_reached {t} e =
          subst (λ (u : Search). Reaching u place' left') (sym e)
          (record { asked = rest-asked both_asked; todo = ap (λ (ns : List ℕ). reached_all ns s) (sym next_step) ∙ f.todo })

    pub step_asked : {x : ℕ} → x ≡ value_at ws place → 0 < left → Reachable (x ∷ []) s
    step_asked q h = first-asked (both_asked q refl (let e : left ≡ suc (left - 1) = omega arith in e))

-- ---- a record entered

pub nothing-there : {ns : List ℕ} (s : Search) → ns ≡ [] → s ≡ reached_all ns s
unfolding reached_all
nothing-there s e = sym (rw (e) refl)

module _ (ws : List ℕ) (at : ℕ) {ns : List ℕ} {source : ℕ} (s : Search) (e : ns ≡ derived_edges ws at) (q : source ≡ value_at ws (at + 1)) where
  apart_there : ns ≡ source_name source ++ path_in ws (at + 2)
  unfolding derived_edges
  apart_there = e ∙ ap (λ (v : ℕ). source_name v ++ path_in ws (at + 2)) (sym q)

  module _ (r : Reachable ns s) where
    joined : Reachable (source_name source ++ path_in ws (at + 2)) s
    joined = subst (λ (l : List ℕ). Reachable l s) apart_there r

    pub source_first : Reachable (source_name source) s
    source_first = others-asked joined (stays s) (λ m i. among-append m (source_name source) (path_in ws (at + 2)) ∙ or_left _ (among m (path_in ws (at + 2))) i)

    pub path_then : {t : Search} → t ≡ reached_all (source_name source) s → Reachable (path_in ws (at + 2)) t
    path_then {t} d =
        subst (Reachable (path_in ws (at + 2))) (sym d)
        (others-asked joined (all-onward (source_name source) s source_first) (λ m i. among-append m (source_name source) (path_in ws (at + 2)) ∙ or_right (among m (source_name source)) _ i))

    pub both_entered : {t u : Search} → t ≡ reached_all (source_name source) s → u ≡ reached_all (path_in ws (at + 2)) t → u ≡ reached_all ns s
    both_entered {t} {u} d f =
        f ∙ ap (reached_all (path_in ws (at + 2))) d ∙ sym (reached-more (source_name source) (path_in ws (at + 2)) s) ∙ ap (λ (l : List ℕ). reached_all l s) (sym apart_there)

-- ---- what is reached is led to

module _ (edges : ℕ → List ℕ) (a : ℕ) where
  pub record Sound (s : Search) : Type 0 where
    pub leads : (m : ℕ) → Marked s m → Leads edges a m
    pub listed : (m : ℕ) → Marked s m → (j : ℕ) × (j < s.count) × (get_or s.queue j 0 ≡ m)
    pub queued : (j : ℕ) → j < s.count → Leads edges a (get_or s.queue j 0)

  -- a name that is led to may be reached
  reach_sound : (n : ℕ) (s : Search) → QueueHasRoom s → Reachable (n ∷ []) s → Leads edges a n → Sound s → Sound (reached n s)
  reach_sound n s room r l w = either_way n s r Sound (λ h. w) new
    where
      new : get_or s.marks n false ≡ false → Sound (searched (set s.marks n true) (set s.queue s.count n) (s.count + 1) s.entered)
      new z =
          let here : get_or (set s.queue s.count n) s.count 0 ≡ n = get_or-set_same s.queue s.count n 0 (fits n s r room z) in
          record { leads = λ m h. led m (old m h); listed = λ m h. place here m (old m h); queued = λ j h. entry here j (eqb j s.count) refl h }
        where
          old : (m : ℕ) → get_or (set s.marks n true) m false ≡ true → (m ≡ n) ⊎ Marked s m
          old m h = set-marked s.marks n (inside n s r) m h

          led : (m : ℕ) → (m ≡ n) ⊎ Marked s m → Leads edges a m
          led m (inl e) = subst (Leads edges a) (sym e) l
          led m (inr h) = w.leads m h

          kept : (j : ℕ) → j < s.count → get_or (set s.queue s.count n) j 0 ≡ get_or s.queue j 0
          kept j h = get_or-set_other s.queue s.count j n 0 (λ e. omega arith)

          place : get_or (set s.queue s.count n) s.count 0 ≡ n → (m : ℕ) → (m ≡ n) ⊎ Marked s m → (j : ℕ) × (j < s.count + 1) × (get_or (set s.queue s.count n) j 0 ≡ m)
          place here m (inl e) = (s.count, omega arith, here ∙ sym e)
          place here m (inr h) = let p = w.listed m h in (p.0, omega (arith, p.1), kept p.0 p.1 ∙ p.2)

          entry : get_or (set s.queue s.count n) s.count 0 ≡ n → (j : ℕ) (t : Bool) → eqb j s.count ≡ t → j < s.count + 1 → Leads edges a (get_or (set s.queue s.count n) j 0)
          entry here j true e h = subst (Leads edges a) (sym here ∙ ap (λ (k : ℕ). get_or (set s.queue s.count n) k 0) (sym (eqb-true j s.count e))) l
          entry here j false e h =
              let u = eqb-false j s.count e in
              let v : j < s.count = omega (arith, u) in
              subst (Leads edges a) (sym (kept j v)) (w.queued j v)

  all_sound : (ns : List ℕ) (s : Search) → QueueHasRoom s → Reachable ns s → ((m : ℕ) → among m ns ≡ true → Leads edges a m) → Sound s → Sound (reached_all ns s)
  unfolding reached_all
  all_sound [] s room r l w = w
  all_sound (n ∷ ns) s room r l w =
      all_sound ns (reached n s) (room_kept room (reach_onward n s (first-asked r))) (rest-asked r) (λ m i. l m (or_right (eqb m n) _ i))
      (reach_sound n s room (first-asked r) (l n (or_left _ (among n ns) (eq-eqb n n refl))) w)

-- one edge more
leads_on : {edges : ℕ → List ℕ} {a n m : ℕ} → Leads edges a n → among m (edges n) ≡ true → Leads edges a m
leads_on (straight e) i = onward e (straight i)
leads_on (onward e l) i = onward e (leads_on l i)

-- ---- the search from a name to another

by_start : (ws dir : List ℕ) (n : ℕ) {start : ℕ} → start ≡ get_or (starts_in dir) n 0 → edges_in ws start ≡ edges_by ws dir n
unfolding edges_by
by_start ws dir n e = ap (edges_in ws) e

module _ (ws dir : List ℕ) (a b : ℕ) where
  abbrev edges : ℕ → List ℕ
  edges = edges_by ws dir

  pub undeclared : {start : ℕ} → start ≡ get_or (starts_in dir) a 0 → start ≡ 0 → Computes false edges a b
  undeclared {start} p z = record { sound = λ e. apart e refl; complete = λ l. absurd (leaves l) }
    where
      none-there : edges a ≡ []
      none-there = sym (by_start ws dir a p) ∙ at_none ws start z

      leaves : Leads edges a b → ⊥
      leaves (straight e) = apart (sym (ap (among b) none-there) ∙ e) refl
      leaves (onward {m = m} e l) = apart (sym (ap (among m) none-there) ∙ e) refl

  -- the names of the queue that are entered
  pub record Searching (s : Search) : Type 0 where
    pub sound : Sound edges a s
    pub room : QueueHasRoom s
    pub first : (m : ℕ) → among m (edges a) ≡ true → Marked s m
    pub entered : (j : ℕ) → j < s.entered → (m : ℕ) → among m (edges (get_or s.queue j 0)) ≡ true → Marked s m
    pub reaches : Reaches dir (length s.marks)
    pub to : b < length s.marks
    pub low : (n m : ℕ) → among m (edges n) ≡ true → m < length s.marks

  module _ {marks₀ : List Bool} {queue₀ : List ℕ} (asked : Searchable ws dir a b marks₀ queue₀) where
    abbrev s₀ : Search
    s₀ = searched marks₀ queue₀ 0 0

    pub room-first : QueueHasRoom s₀
    room-first = omega (arith, unmarked-clear marks₀ asked.clear, asked.room)

    begun-room : SearchRoom (length marks₀) (length queue₀) 0 s₀
    begun-room =
        record {
          most = omega (arith, unmarked-clear marks₀ asked.clear);
          room = asked.room;
          marks = refl;
          queue = refl;
          now = refl;
          sofar = omega arith;
        }

    all_asked : Reachable (edges a) s₀
    all_asked = record { below = λ n i. asked.edges a n i }

    start_reached : Searching (reached_all (edges a) s₀)
    start_reached =
        let o = all-onward (edges a) s₀ all_asked in
        record {
          sound = all_sound edges a (edges a) s₀ room-first all_asked (λ m i. straight i)
              (record { leads = λ m h. apart h (asked.clear m); listed = λ m h. apart h (asked.clear m); queued = λ j h. absurd (omega arith) });
          room = room_kept room-first o;
          first = all-marks (edges a) s₀ all_asked;
          entered = λ j h. absurd (omega (arith, o.entered));
          reaches = subst (Reaches dir) (sym o.marks) asked.reaches;
          to = omega (arith, o.marks, asked.to);
          low = λ n m e. omega (arith, o.marks, asked.edges n m e);
        }

    module _ {start : ℕ} (p : start ≡ get_or (starts_in dir) a 0) where
      pub asked-first : Reachable (edges_in ws start) s₀
      asked-first = subst (λ (ns : List ℕ). Reachable ns s₀) (sym (by_start ws dir a p)) all_asked

      pub begun : {s : Search} → s ≡ reached_all (edges_in ws start) s₀ → Searching s × SearchRoom (length s.marks) (length s.queue) 0 s
      begun {s} q =
          subst (λ (t : Search). Searching t × SearchRoom (length t.marks) (length t.queue) 0 t) (sym (q ∙ ap (λ (ns : List ℕ). reached_all ns s₀) (by_start ws dir a p)))
          (start_reached, own-room (room-on begun-room (all-onward (edges a) s₀ all_asked)))

  module _ {s : Search} (f : Searching s) where
    pub arrived : Marked s b → Computes true edges a b
    arrived h = record { sound = λ e. f.sound.leads b h; complete = λ l. refl }

    -- where all are entered, all that is led to is marked
    pub not_there : s.count ≤ s.entered → get_or s.marks b false ≡ false → Computes false edges a b
    not_there h z = record { sound = λ e. apart e refl; complete = λ l. apart (on f.first l) z }
      where
        on : {n : ℕ} → ((m : ℕ) → among m (edges n) ≡ true → Marked s m) → Leads edges n b → Marked s b
        on all (straight e) = all b e
        on all (onward {m = m} e l) =
            let p = f.sound.listed m (all m e) in
            on (λ k j. f.entered p.0 (omega (arith, p.1)) k (subst (λ (n : ℕ). among k (edges n) ≡ true) (sym p.2) j)) l

    module _ {n : ℕ} (h : s.entered < s.count) (q : n ≡ get_or s.queue s.entered 0) {s' : Search} (step : s' ≡ searched s.marks s.queue s.count (s.entered + 1)) where
      led : Leads edges a n
      led = subst (Leads edges a) (sym q) (f.sound.queued s.entered h)

      -- what is led to has a mark
      pub queued_below : n < length s.marks
      queued_below = go led
        where
          go : {k : ℕ} → Leads edges k n → n < length s.marks
          go {k} (straight e) = f.low k n e
          go (onward e l) = go l

      abbrev t : Search
      t = searched s.marks s.queue s.count (s.entered + 1)

      next-asked : Reachable (edges n) t
      next-asked = record { below = λ m j. f.low n m j }

      next-reached : Searching (reached_all (edges n) t)
      next-reached =
          let o = all-onward (edges n) t next-asked in
          record {
            sound = all_sound edges a (edges n) t f.room next-asked (λ m j. leads_on led j) (record { leads = f.sound.leads; listed = f.sound.listed; queued = f.sound.queued });
            room = room_kept f.room o;
            first = λ m j. o.marked m (f.first m j);
            entered = λ j k m e. ways o j (omega (arith, o.entered)) m e (eqb j s.entered) refl;
            reaches = subst (Reaches dir) (sym o.marks) f.reaches;
            to = omega (arith, o.marks, f.to);
            low = λ n m e. omega (arith, o.marks, f.low n m e);
          }
        where
          ways : Onward t (reached_all (edges n) t) → (j : ℕ) → j < s.entered + 1 → (m : ℕ) → among m (edges (get_or (reached_all (edges n) t).queue j 0)) ≡ true → (b : Bool) → eqb j s.entered ≡ b → Marked (reached_all (edges n) t) m
          ways o j k m e true u =
              let v = eqb-true j s.entered u in
              all-marks (edges n) t next-asked m (subst (λ (x : ℕ). among m (edges x) ≡ true) (o.queued j (omega (arith, v)) ∙ ap (λ (x : ℕ). get_or s.queue x 0) v ∙ sym q) e)
          ways o j k m e false u =
              let v = eqb-false j s.entered u in
              let w : j < s.entered = omega (arith, v) in
              o.marked m (f.entered j w m (subst (λ (x : ℕ). among m (edges x) ≡ true) (o.queued j (omega arith)) e))

      module _ {start : ℕ} (p : start ≡ get_or (starts_in dir) n 0) where
        pub asked-next : Reachable (edges_in ws start) s'
        asked-next = rw step (subst (λ (ns : List ℕ). Reachable ns t) (sym (by_start ws dir n p)) next-asked)

        module _ {u : Search} (r : u ≡ reached_all (edges_in ws start) s') where
          same : u ≡ reached_all (edges n) t
          unfolding reached_all
          same = r ∙ ap (reached_all (edges_in ws start)) step ∙ ap (λ (ns : List ℕ). reached_all ns t) (by_start ws dir n p)

          pub entered_one : Searching u × ((names long i : ℕ) → SearchRoom names long i s → SearchRoom names long (i + 1) u)
          entered_one = (
            subst Searching (sym same) next-reached,
            λ names long i w. subst (SearchRoom names long (i + 1)) (sym same) (room-on (room-next w h) (all-onward (edges n) t next-asked)),
          )

          -- one fewer of the queue is left
          pub fewer : length u.queue - u.entered < length s.queue - s.entered
          fewer =
              let o = all-onward (edges n) t next-asked in
              rw same (omega (arith, o.queue, o.entered, f.room, h))
