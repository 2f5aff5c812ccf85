-- The coordinate walk, unrolled by one turn of the loop that says it, and the windows that it walks.
use Rattle.std.specs.Borrow.{Bor}
use Rattle.std.specs.Prelude.{◌≡◌, refl, Option as OptionR, Some, None, Result, Bool, ◌&&◌, List, [], ◌∷◌, ℕ, zero, suc, ◌+◌, ◌-◌, ◌*◌, ◌/◌, ◌%◌, ◌<◌, ◌≤◌, min, drop, get_or, ltb, eqb}
use Rattle.std.proofs.Math.Path.{ap}
use Rattle.std.proofs.Common.{Ok, Err, sym, ◌∙◌, add-one, drop-cons, eqb-true}
use Rattle.std.proofs.Math.Bool.{true, false, cond}
use Rattle.std.proofs.Math.Option.{Option, none, some}
use native.Mathlib.Omega.{arith}
use Rattle.std.proofs.Math.ListN.{length, take, drop_of_length-le, length-drop}
use Rattle.std.proofs.Math.Seq.{take_all, take-nil}
use Rattle.laws.specs.Every.{never}
use Rattle.laws.specs.Framed.{framed, seq_seq}
use Rattle.laws.specs.Script.{Script, stop, say, one, ◌⨟◌, run, run_stop, seq_done}
use Rattle.kinds.specs.declared.event.Event.{Event}
use Rattle.kinds.specs.Event.{xy_e}
use Rattle.kinds.specs.declared.refusal.Refusal.{Refusal}
use Rattle.kinds.specs.Refusal.{number_of, answer_of}
use Rattle.coords.specs.declared.lists.Window.{Window}
use Rattle.coords.specs.Coords.{Value, Absent, Past, Present, Lanes, Coords, head_of, dropped, tails, taken, coordinate_s, pair_s, coords_s, between_s}
use Rattle.coords.specs.Views.{list_in, pairs_in, window_s, told, Windowed, Numbered}
use Rattle.coords.specs.PairLaws.{tails-dropped}
use Rattle.event_log.specs.declared.log.Log.{Log}
use Rattle.event_log.specs.Pairs.{xy_s}
use Rattle.event_log.specs.declared.layouts.Events.{Events}
use Rattle.event_log.specs.Says.{Says, of_events}
use Rattle.std.proofs.Math.Decide.{dec_le}

pub drop-one : (l : List ℕ) (i : ℕ) → i < length l → drop i l ≡ get_or l i 0 ∷ drop (i + 1) l
drop-one l i h = rw (add-one, drop-cons l i 0)

module _ (many : Bool) (L : Lanes) (l : List ℕ) (i idx last : ℕ) where
  pub coords_end : length l ≤ i → coords_s many L (drop i l) idx last ≡ stop last
  unfolding coords_s
  coords_end h = rw (drop_of_length-le l h)

  pub coords_odd : i < length l → length l - i < 2 → coords_s many L (drop i l) idx last ≡ stop 7
  unfolding coords_s
  coords_odd h k =
      let p : length l ≤ i + 1 = omega arith in
      rw (drop-one l i h, drop_of_length-le l p)

  pub coords_two : 2 ≤ length l - i → coords_s many L (drop i l) idx last ≡ pair_s many L (get_or l i 0) (get_or l (i + 1) 0) idx (coords_s many (tails L) (drop (i + 2) l) (idx + 1) last)
  unfolding coords_s
  coords_two k =
      let h : i < length l = omega arith in
      let p : i + 1 < length l = omega arith in
      let q : i + 1 + 1 ≡ i + 2 = omega arith in
      rw (drop-one l i h, drop-one l (i + 1) p, q)

-- ---- the pairs of a stretch from number i on, where the stretch begins at the record's pair `from`
abbrev pub pairs_s : Bool → Lanes → List ℕ → ℕ → ℕ → ℕ → Script Event
pairs_s many L l from last i = coords_s many (dropped (from + i) L) (drop (2 * i) l) i last

module _ (many : Bool) (L : Lanes) (l : List ℕ) (from last i : ℕ) where
  pub pairs_over : length l / 2 ≤ i → (length l % 2 ≡ 0) → pairs_s many L l from last i ≡ stop last
  pairs_over h e = coords_end many (dropped (from + i) L) l (2 * i) i last (omega arith)

  pub pairs_odd : i ≡ length l / 2 → (length l % 2 ≡ 0 → ⊥) → pairs_s many L l from last i ≡ stop 7
  pairs_odd h e = coords_odd many (dropped (from + i) L) l (2 * i) i last (omega arith) (omega arith)

  -- the next pair
  module _ (there : i < length l / 2) where
    two : pairs_s many L l from last i ≡ pair_s many (dropped (from + i) L) (get_or l (2 * i) 0) (get_or l (2 * i + 1) 0) i (coords_s many (tails (dropped (from + i) L)) (drop (2 * i + 2) l) (i + 1) last)
    two = coords_two many (dropped (from + i) L) l (2 * i) i last (omega arith)

    pub pairs_short : (e : Refusal) → ((k : Script Event) → pair_s many (dropped (from + i) L) (get_or l (2 * i) 0) (get_or l (2 * i + 1) 0) i k ≡ told (Err e) k) → pairs_s many L l from last i ≡ stop (number_of e)
    pairs_short e says = two ∙ says _

    pub pairs_next : (e : Event) → ((k : Script Event) → pair_s many (dropped (from + i) L) (get_or l (2 * i) 0) (get_or l (2 * i + 1) 0) i k ≡ told (Ok e) k) → pairs_s many L l from last i ≡ one e ⨟ pairs_s many L l from last (i + 1)
    unfolding ◌⨟◌
    pairs_next e says =
        let n : from + i + 1 ≡ from + (i + 1) = omega arith in
        let d : 2 * i + 2 ≡ 2 * (i + 1) = omega arith in
        two ∙ says _
        ∙ ap (λ (L' : Lanes). say e (coords_s many L' (drop (2 * i + 2) l) (i + 1) last)) (tails-dropped (from + i) L ∙ ap (λ (k : ℕ). dropped k L) n)
        ∙ ap (λ (j : ℕ). say e (coords_s many (dropped (from + (i + 1)) L) (drop j l) (i + 1) last)) d

-- ---- with no flag set
pub plain-pairs : (L : Lanes) (l : List ℕ) (idx last : ℕ) → coords_s false L l idx last ≡ xy_s l idx last
unfolding coords_s pair_s xy_s
plain-pairs L [] idx last = refl
plain-pairs L (x ∷ []) idx last = refl
plain-pairs L (x ∷ (y ∷ l)) idx last = ap (λ (s : Script Event). say (xy_e x y idx) s) (plain-pairs (tails L) l (idx + 1) last)

-- ---- what stands after the pairs of a window, apart from them
taken-then : (v : Value) (f g : Option ℕ → Script Event) (t : Script Event) → ((o : Option ℕ) → f o ≡ g o ⨟ t) → taken v f ≡ taken v g ⨟ t
unfolding taken ◌⨟◌
taken-then Absent f g t h = h none
taken-then Past f g t h = refl
taken-then (Present v) f g t h = h (some v)

pair-then : (many : Bool) (L : Lanes) (x y idx : ℕ) (k t : Script Event) → pair_s many L x y idx (k ⨟ t) ≡ pair_s many L x y idx k ⨟ t
unfolding pair_s coordinate_s ◌⨟◌
pair-then false L x y idx k t = refl
pair-then true L x y idx k t =
    taken-then (head_of L.z) _ _ t (λ a. taken-then (head_of L.m) _ _ t (λ b. taken-then (head_of L.t) _ _ t (λ c. taken-then (head_of L.tm) _ _ t (λ d. refl))))

coords-then : (many : Bool) (L : Lanes) (l : List ℕ) (idx last : ℕ) → coords_s many L l idx last ≡ coords_s many L l idx 0 ⨟ stop last
unfolding coords_s ◌⨟◌
coords-then many L [] idx last = refl
coords-then many L (x ∷ []) idx last = refl
coords-then many L (x ∷ (y ∷ l)) idx last =
    ap (pair_s many L x y idx) (coords-then many (tails L) l (idx + 1) last)
    ∙ pair-then many L x y idx (coords_s many (tails L) l (idx + 1) 0) (stop last)

pub window_framed : {A : Type 0} (number : A → ℕ) (C : Coords) (w : Window A) (x z : Event)
    → framed x (window_s number C w) z ≡ (one x ⨟ pairs_in C w.from w.words.now) ⨟ (stop (number w.last) ⨟ one z)
unfolding framed ◌⨟◌
window_framed number C w x z =
    let p = pairs_in C w.from w.words.now in
    ap (λ (s : Script Event). say x (s ⨟ one z)) (coords-then C.many (dropped w.from C.lanes) w.words.now 0 (number w.last))
    ∙ ap (say x) (seq_seq p (stop (number w.last)) (one z))

pub stands : (n : ℕ) (t : Script Event) → eqb n 0 ≡ false → stop n ⨟ t ≡ stop n
unfolding ◌⨟◌
stands zero t h = absurd (never (sym h))
stands (suc n) t h = refl

pub none_stands : (n : ℕ) (t : Script Event) → eqb n 0 ≡ true → stop n ⨟ t ≡ t
unfolding ◌⨟◌
none_stands n t h = rw (eqb-true n 0 h)

-- ---- an answer and its number
pub numbered : {R : Type 0} {s : Script Event} {a b : Log Events} {r : Result R Refusal} {n : ℕ} → n ≡ answer_of r → Says of_events s a b r → Numbered s a b n
numbered e h = record { memory = h.memory; layout = h.layout; said = rw e h.said }

pub answered : {s : Script Event} {a b : Log Events} {r : Result Unit Refusal} → Numbered s a b (answer_of r) → Says of_events s a b r
answered h = record { memory = h.memory; layout = h.layout; said = h.said }

pub number_alone : (n : ℕ) (a : Log Events) → Numbered (stop n) a a n
number_alone n a = record { memory = refl; layout = refl; said = run_stop (of_events a.layout) n a.bytes.now a.count }

pub and_then : {R : Type 0} {u : R} {s t : Script Event} {a b c : Log Events} {n : ℕ} → Says of_events s a b (Ok u) → Numbered t b c n → Numbered (s ⨟ t) a c n
and_then {s = s} {t = t} {a = a} {b = b} first second =
    record {
      memory = second.memory ∙ first.memory;
      layout = second.layout ∙ first.layout;
      said = seq_done (of_events a.layout) s t a.bytes.now a.count first.said ∙ ap (λ (l : Events). run (of_events l) t b.bytes.now b.count) (sym first.layout) ∙ second.said;
    }

-- ---- windows
same_words : (from to : ℕ) (l : List ℕ) → from ≤ to → take (min (length l) (2 * to) - min (length l) (2 * from)) (drop (min (length l) (2 * from)) l) ≡ take (2 * to - 2 * from) (drop (2 * from) l)
same_words from to l h = go (dec_le (2 * from) (length l)) (dec_le (2 * to) (length l))
  where
    go : Dec (2 * from ≤ length l) → Dec (2 * to ≤ length l) → take (min (length l) (2 * to) - min (length l) (2 * from)) (drop (min (length l) (2 * from)) l) ≡ take (2 * to - 2 * from) (drop (2 * from) l)
    go (yes a) (yes b) =
        let p : min (length l) (2 * from) ≡ 2 * from = omega arith in
        let q : min (length l) (2 * to) ≡ 2 * to = omega arith in
        rw (p, q)
    go (yes a) (no b) =
        let p : min (length l) (2 * from) ≡ 2 * from = omega arith in
        let q : min (length l) (2 * to) ≡ length l = omega arith in
        rw (p, q, take_all (length l - 2 * from) (drop (2 * from) l) (omega (arith, length-drop (2 * from) l)), take_all (2 * to - 2 * from) (drop (2 * from) l) (omega (arith, length-drop (2 * from) l)))
    go (no a) d =
        let p : min (length l) (2 * from) ≡ length l = omega arith in
        let j : length l ≤ 2 * from = omega arith in
        let k : length l ≤ length l = omega arith in
        rw (p, drop_of_length-le l j, drop_of_length-le l k, take-nil, take-nil)

module _ (many : Bool) (L : Lanes) (from to : ℕ) {o : OptionR (Bor (List ℕ))} where
  pub window_none : o ≡ None → between_s many (list_in o) L from to ≡ coords_s many (dropped from L) [] 0 1
  unfolding between_s coords_s
  window_none h = rw h

  pub window_some : {l : Bor (List ℕ)} {start end : ℕ} (last : Result Unit Refusal) → o ≡ Some l → from ≤ to → start ≡ min (length l.now) (2 * from) → end ≡ min (length l.now) (2 * to)
      → answer_of last ≡ cond (ltb from to && ltb (length l.now) (2 * to)) 7 0 → between_s many (list_in o) L from to ≡ coords_s many (dropped from L) (take (end - start) (drop start l.now)) 0 (answer_of last)
  unfolding between_s
  window_some {l} last h k p q e = rw (h, p, q, same_words from to l.now k, e)

-- the window that holds them says what is between two pairs of a record's lists
pub between_is : {A : Type 0} {number : A → ℕ} (C : Coords) {xy : OptionR (Bor (List ℕ))} {from to : ℕ} {w : Window A} → list_in xy ≡ C.xy → Windowed number xy from to w
    → between_s C.many C.xy C.lanes from to ≡ window_s number C w
between_is {number = number} C {from = from} {to = to} {w = w} of_it h =
    ap (λ (o : Option (List ℕ)). between_s C.many o C.lanes from to) (sym of_it) ∙ h.says C.many C.lanes
    ∙ ap (λ (k : ℕ). coords_s C.many (dropped k C.lanes) w.words.now 0 (number w.last)) (sym h.from_is)
