-- An event laid down under a feature's number reads back as itself, and the number with it; what reads as an event is what laying that event down under that number gives.
use Rattle.std.specs.Prelude.{◌≡◌, refl, Bool, true, false, cond, ◌&&◌, List, ℕ, ◌+◌, ◌*◌, ◌≤◌, ◌<◌, length, get_or, take, drop}
use Rattle.std.proofs.Math.Path.{sym, ap}
use Rattle.std.proofs.Common.{◌∙◌, arith, lit≤}
use Rattle.std.proofs.Math.Seq.{take_all}
use Rattle.std.proofs.Math.Dec.{leb, eqb}
use borrow.Author.Tests.{eqb-true, eqb-false, eq-eqb, leb-true}
use Rattle.laws.specs.Every.{both}
use Rattle.laws.specs.Bytes.{le, word_at, Bytes, unle-le, le_part, unle, joined, four-at, eight_at}
use Rattle.kinds.specs.declared.event.Event.{Event}
use Rattle.kinds.specs.Event.{WellFormed, Malformed, well_formed, parsed, EventSized, xy_e, OwnPair}
use Rattle.event_layout.specs.Head.{head_bytes}
use Rattle.event_layout.specs.Event.{bit, double_bytes, event_bytes, event_of, feature_of, spare_zero, read_event}

pub event-length : (feature : ℕ) (e : Event) → length (event_bytes feature e) ≡ 64
unfolding event_bytes
event-length feature e = refl

-- ---- there and back
bit_back : (b : Bool) → eqb (bit b) 1 ≡ b
bit_back true = refl
bit_back false = refl

fields_back : (feature : ℕ) (e : Event) → EventSized e → event_of (event_bytes feature e) ≡ e
unfolding event_bytes event_of
fields_back feature e h =
    λ i. record {
      kind = e.kind;
      tagged = bit_back e.tagged i;
      present = e.present;
      size = unle-le 4 e.size h.size i;
      idx = unle-le 4 e.idx h.idx i;
      x = unle-le 8 e.x h.x i;
      y = unle-le 8 e.y h.y i;
      z = unle-le 8 e.z h.z i;
      m = unle-le 8 e.m h.m i;
      t = unle-le 8 e.t h.t i;
      tm = unle-le 8 e.tm h.tm i;
    }

bit_small : (b : Bool) → leb (bit b) 1 ≡ true
bit_small true = refl
bit_small false = refl

spare_back : (feature : ℕ) (e : Event) → spare_zero (event_bytes feature e) ≡ true
unfolding event_bytes spare_zero
spare_back feature e = rw (bit_small e.tagged)

pub event_back : (feature : ℕ) (e : Event) → EventSized e → well_formed e ≡ true → read_event (event_bytes feature e) ≡ WellFormed e
unfolding read_event
event_back feature e h w = rw (event-length feature e, spare_back feature e, fields_back feature e h, w)

pub feature_back : (feature : ℕ) (e : Event) → feature < 4294967296 → feature_of (event_bytes feature e) ≡ feature
unfolding event_bytes feature_of
feature_back feature e h = unle-le 4 feature h

-- ---- back and there
byte_bit : (t : ℕ) → leb t 1 ≡ true → bit (eqb t 1) ≡ t
byte_bit t h = go (eqb t 1) refl (leb-true t 1 h)
  where
    go : (b : Bool) → eqb t 1 ≡ b → t ≤ 1 → bit b ≡ t
    go true e k = sym (eqb-true t 1 e)
    go false e k = omega (arith, eqb-false t 1 e)

module _ (l : List ℕ) (bytes : Bytes l) (long : length l ≡ 64) where
  number : (n i : ℕ) → i + n ≤ 64 → le n (word_at n l i) ≡ take n (drop i l)
  number n i h = le_part n i l bytes (omega arith)

  doubles : double_bytes (event_of l) ≡ take 48 (drop 16 l)
  unfolding event_of
  doubles =
      joined l 16 40 8
      (joined l 16 32 8
      (joined l 16 24 8
      (joined l 16 16 8
      (joined l 16 8 8 (number 8 16 (lit≤ tt)) (number 8 24 (lit≤ tt)))
      (number 8 32 (lit≤ tt)))
      (number 8 40 (lit≤ tt)))
      (number 8 48 (lit≤ tt)))
      (number 8 56 (lit≤ tt))

  module _ (spare : spare_zero l ≡ true) where
    head : head_bytes (get_or l 0 0) (bit (eqb (get_or l 1 0) 1)) (get_or l 2 0) ≡ take 4 l
    unfolding spare_zero
    head =
        let t = both (leb (get_or l 1 0) 1) (eqb (get_or l 3 0) 0) spare in
        sym (four-at l 0 (omega arith) ∙ rw (byte_bit (get_or l 1 0) t.0, eqb-true (get_or l 3 0) 0 t.1))

    fields_forth : event_bytes (feature_of l) (event_of l) ≡ l
    unfolding event_bytes event_of feature_of
    fields_forth =
        joined l 0 16 48
        (joined l 0 12 4
        (joined l 0 8 4
        (joined l 0 4 4 head (number 4 4 (lit≤ tt)))
        (number 4 8 (lit≤ tt)))
        (number 4 12 (lit≤ tt)))
        doubles
        ∙ take_all 64 l (omega arith)

pub record Reads (l : List ℕ) (e : Event) : Type 0 where
  pub bytes : event_bytes (feature_of l) e ≡ l
  pub formed : well_formed e ≡ true

pub event_forth : (l : List ℕ) (e : Event) → Bytes l → read_event l ≡ WellFormed e → Reads l e
unfolding read_event
event_forth l e b h = go (eqb (length l) 64) (spare_zero l) (well_formed (event_of l)) refl refl refl h
  where
    go : (p q r : Bool) → eqb (length l) 64 ≡ p → spare_zero l ≡ q → well_formed (event_of l) ≡ r → cond (p && (q && r)) (WellFormed (event_of l)) Malformed ≡ WellFormed e → Reads l e
    go true true true p q r h =
        let same : event_of l ≡ e = cc in
        record { bytes = rw same at (fields_forth l b (eqb-true (length l) 64 p) q); formed = rw same at r }
    go true true false p q r h = let z : ◌≡◌ {A = ℕ} 0 1 = cc in absurd (omega arith)
    go true false r p q s h = let z : ◌≡◌ {A = ℕ} 0 1 = cc in absurd (omega arith)
    go false q r p s t h = let z : ◌≡◌ {A = ℕ} 0 1 = cc in absurd (omega arith)

-- ---- 64 bytes are judged by their spare byte and by the event that their fields are
pub whole_read : (l : List ℕ) → length l ≡ 64 → read_event l ≡ parsed (spare_zero l) (event_of l)
unfolding read_event parsed
whole_read l long = rw (eq-eqb (length l) 64 long)

-- ---- a pair's bytes
-- the first eight as one number
record XyHead (l : List ℕ) : Type 0 where
  kind : get_or l 0 0 ≡ 64
  tagged : get_or l 1 0 ≡ 0
  present : get_or l 2 0 ≡ 0
  spare : get_or l 3 0 ≡ 0
  size : word_at 4 l 4 ≡ 0

xy_head : (l : List ℕ) → length l ≡ 64 → word_at 8 l 0 ≡ 64 → XyHead l
xy_head l long h =
    let halves : word_at 8 l 0 ≡ word_at 4 l 0 + 4294967296 * word_at 4 l 4 = eight_at l 0 (omega arith) in
    let low : word_at 4 l 0 ≡ get_or l 0 0 + 256 * (get_or l 1 0 + 256 * (get_or l 2 0 + 256 * (get_or l 3 0 + 256 * 0))) = ap unle (four-at l 0 (omega arith)) in
    record { kind = omega (arith, halves, low, h); tagged = omega (arith, halves, low, h); present = omega (arith, halves, low, h); spare = omega (arith, halves, low, h); size = omega (arith, halves, low, h) }

xy_formed : (x y idx : ℕ) → parsed true (xy_e x y idx) ≡ WellFormed (xy_e x y idx)
unfolding parsed well_formed xy_e
xy_formed x y idx = refl

module _ (l : List ℕ) (long : length l ≡ 64) (e : Event) (is : e ≡ event_of l) where
  xy_sound : XyHead l → spare_zero l ≡ true
  unfolding spare_zero
  xy_sound h = λ i. leb (h.tagged i) 1 && eqb (h.spare i) 0

  xy_fields : {idx : ℕ} → XyHead l → e.idx ≡ idx → e.z ≡ 0 → e.m ≡ 0 → e.t ≡ 0 → e.tm ≡ 0 → event_of l ≡ xy_e e.x e.y idx
  unfolding event_of xy_e
  xy_fields {idx} h idx-is z m t tm = λ i. record {
    kind = h.kind i;
    tagged = eqb (h.tagged i) 1;
    present = h.present i;
    size = h.size i;
    idx = (sym (ap (λ (v : Event). v.idx) is) ∙ idx-is) i;
    x = ap (λ (v : Event). v.x) (sym is) i;
    y = ap (λ (v : Event). v.y) (sym is) i;
    z = (sym (ap (λ (v : Event). v.z) is) ∙ z) i;
    m = (sym (ap (λ (v : Event). v.m) is) ∙ m) i;
    t = (sym (ap (λ (v : Event). v.t) is) ∙ t) i;
    tm = (sym (ap (λ (v : Event). v.tm) is) ∙ tm) i;
  }

  -- an index and a feature's number, as one number
  numbers_are : {idx feature : ℕ} → word_at 8 l 8 ≡ idx + 4294967296 * feature → idx < 4294967296 → e.idx < 4294967296 → (e.idx ≡ idx) × (feature_of l ≡ feature)
  unfolding event_of feature_of
  numbers_are h fits e-fits =
      let halves : word_at 8 l 8 ≡ word_at 4 l 8 + 4294967296 * word_at 4 l 12 = eight_at l 8 (omega arith) in
      let here : e.idx ≡ word_at 4 l 8 = ap (λ (v : Event). v.idx) is in
      (omega (arith, h, halves, here, fits, e-fits), omega (arith, h, halves, here, fits, e-fits))

  pub own_pair : {head numbers feature idx : ℕ} → head ≡ word_at 8 l 0 → numbers ≡ word_at 8 l 8 → idx < 4294967296 → e.idx < 4294967296 → e.x < 18446744073709551616 → e.y < 18446744073709551616
      → (eqb head 64 && eqb numbers (idx + 4294967296 * feature) && eqb e.z 0 && eqb e.m 0 && eqb e.t 0 && eqb e.tm 0) ≡ true → OwnPair (read_event l) (feature_of l) feature idx
  own_pair {head} {numbers} {feature} {idx} head-is numbers-is fits e-fits x y h =
      let due : ℕ = idx + 4294967296 * feature in
      let no-tm = both (eqb head 64 && eqb numbers due && eqb e.z 0 && eqb e.m 0 && eqb e.t 0) (eqb e.tm 0) h in
      let no-t = both (eqb head 64 && eqb numbers due && eqb e.z 0 && eqb e.m 0) (eqb e.t 0) no-tm.0 in
      let no-m = both (eqb head 64 && eqb numbers due && eqb e.z 0) (eqb e.m 0) no-t.0 in
      let no-z = both (eqb head 64 && eqb numbers due) (eqb e.z 0) no-m.0 in
      let front = both (eqb head 64) (eqb numbers due) no-z.0 in
      let first = xy_head l long (sym head-is ∙ eqb-true head 64 front.0) in
      let second = numbers_are {idx = idx} {feature = feature} (sym numbers-is ∙ eqb-true numbers due front.1) fits e-fits in
      let fields = xy_fields first second.0 (eqb-true e.z 0 no-z.1) (eqb-true e.m 0 no-m.1) (eqb-true e.t 0 no-t.1) (eqb-true e.tm 0 no-tm.1) in
      record {
        x = e.x;
        y = e.y;
        x_fits = x;
        y_fits = y;
        is = whole_read l long ∙ (λ i. parsed (xy_sound first i) (fields i)) ∙ xy_formed e.x e.y idx;
        own = second.1;
      }
