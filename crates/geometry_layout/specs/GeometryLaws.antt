-- A geometry laid down reads back as itself, and what reads as a geometry is what laying that geometry down gives.
use Rattle.std.specs.Prelude.{◌≡◌, refl, Some, None, Bool, true, false, cond, ◌&&◌, ◌||◌, List, ◌++◌, ℕ, ◌+◌, ◌*◌, ◌/◌, ◌%◌, ◌<◌, ◌≤◌, length, get_or, take, drop, ltb, eqb}
use Rattle.std.proofs.Common.{sym, ap, ◌∙◌, zero-le, arith, mul-zero, mul-one, lit≤}
use Rattle.std.proofs.Math.Seq.{take_all}
use borrow.Author.Tests.{eq-eqb, ne_eqb, eqb-true, eqb-false, lt-ltb, ltb-true}
use Rattle.laws.specs.Every.{both, every-at}
use Rattle.laws.specs.Bytes.{le, unle, word_at, Bytes, unle-le, le_part, joined, four-at}
use Rattle.kinds.specs.Geometry.{Span, start_of, count_of, SpanSized, GeometrySized}
use Rattle.kinds.specs.declared.geometry.Geometry.{Geometry}
use Rattle.geometry_layout.specs.Geometry.{head_bytes, shown, present_of, span_bytes, geometry_bytes, span_if, present, span_at, geometry_of, absent_zero, sound_geometry, read_geometry}

pub geometry_length : (g : Geometry) → length (geometry_bytes g) ≡ 64
unfolding geometry_bytes
geometry_length g = refl

-- ---- there and back
abbrev there : Span → Bool
there None = false
there (Some s) = true

abbrev one : Span → ℕ
one s = cond (there s) 1 0

one-le : (s : Span) → one s ≤ 1
one-le None = omega arith
one-le (Some s) = omega arith

shown-one : (s : Span) (bit : ℕ) → shown s bit ≡ bit * one s
shown-one None bit = sym (mul-zero bit)
shown-one (Some s) bit = sym (mul-one bit)

record Bits (p a b c d e f g : ℕ) : Type 0 where
  xy : p / 1 % 2 ≡ a
  ends : p / 2 % 2 ≡ b
  z : p / 4 % 2 ≡ c
  m : p / 8 % 2 ≡ d
  t : p / 16 % 2 ≡ e
  tm : p / 32 % 2 ≡ f
  parts : p / 64 % 2 ≡ g
  small : p < 128

bits : (a b c d e f g : ℕ) → a ≤ 1 → b ≤ 1 → c ≤ 1 → d ≤ 1 → e ≤ 1 → f ≤ 1 → g ≤ 1 → Bits (1 * a + 2 * b + 4 * c + 8 * d + 16 * e + 32 * f + 64 * g) a b c d e f g
bits a b c d e f g h i j k l m n = record { xy = omega arith; ends = omega arith; z = omega arith; m = omega arith; t = omega arith; tm = omega arith; parts = omega arith; small = omega arith }

present-bits : (g : Geometry) → Bits (present_of g) (one g.xy) (one g.ends) (one g.z) (one g.m) (one g.t) (one g.tm) (one g.parts)
unfolding present_of
present-bits g =
    rw (shown-one g.xy 1, shown-one g.ends 2, shown-one g.z 4, shown-one g.m 8, shown-one g.t 16, shown-one g.tm 32, shown-one g.parts 64)
    (bits _ _ _ _ _ _ _ (one-le g.xy) (one-le g.ends) (one-le g.z) (one-le g.m) (one-le g.t) (one-le g.tm) (one-le g.parts))

-- a list's pair of numbers under its present bit, where that says whether it is there
one-there : (s : Span) (x : ℕ) → x ≡ one s → eqb x 1 ≡ there s
one-there None x e = ne_eqb x 1 (λ z. omega arith)
one-there (Some s) x e = eq-eqb x 1 e

back : (s : Span) (b : Bool) (x y : ℕ) → b ≡ there s → x ≡ start_of s → y ≡ count_of s → (span_if b x y ≡ s) × ((b || (eqb x 0 && eqb y 0)) ≡ true)
back None b x y e f g = (rw e, rw (e, f, g))
back (Some s) b x y e f g = (rw (e, f, g), rw e)

module _ (g : Geometry) (sized : GeometrySized g) where
  span_back : (s : Span) → SpanSized s → (x : ℕ) → x ≡ one s
      → (span_if (eqb x 1) (unle (le 4 (start_of s))) (unle (le 4 (count_of s))) ≡ s)
      × ((eqb x 1 || (eqb (unle (le 4 (start_of s))) 0 && eqb (unle (le 4 (count_of s))) 0)) ≡ true)
  span_back s h x e = back s (eqb x 1) _ _ (one-there s x e) (unle-le 4 (start_of s) h.start) (unle-le 4 (count_of s) h.count)

  lists_back : geometry_of (geometry_bytes g) ≡ g
  unfolding geometry_bytes geometry_of
  lists_back =
      let p = present-bits g in
      λ i. record {
        kind = g.kind;
        xy = (span_back g.xy sized.xy _ p.xy).0 i;
        ends = (span_back g.ends sized.ends _ p.ends).0 i;
        z = (span_back g.z sized.z _ p.z).0 i;
        m = (span_back g.m sized.m _ p.m).0 i;
        t = (span_back g.t sized.t _ p.t).0 i;
        tm = (span_back g.tm sized.tm _ p.tm).0 i;
        parts = (span_back g.parts sized.parts _ p.parts).0 i;
      }

  sound_back : sound_geometry (geometry_bytes g) ≡ true
  unfolding geometry_bytes sound_geometry
  sound_back =
      let p = present-bits g in
      rw (
        lt-ltb (present_of g) 128 p.small,
        (span_back g.xy sized.xy _ p.xy).1,
        (span_back g.ends sized.ends _ p.ends).1,
        (span_back g.z sized.z _ p.z).1,
        (span_back g.m sized.m _ p.m).1,
        (span_back g.t sized.t _ p.t).1,
        (span_back g.tm sized.tm _ p.tm).1,
        (span_back g.parts sized.parts _ p.parts).1,
      )

  pub geometry_back : read_geometry (geometry_bytes g) ≡ Some g
  unfolding read_geometry
  geometry_back = rw (geometry_length g, sound_back, lists_back)

-- ---- back and there
shown-bit : (p bit x y : ℕ) → shown (span_if (eqb (p / bit % 2) 1) x y) bit ≡ bit * (p / bit % 2)
shown-bit p bit x y = go (eqb (p / bit % 2) 1) refl
  where
    go : (b : Bool) → eqb (p / bit % 2) 1 ≡ b → shown (span_if b x y) bit ≡ bit * (p / bit % 2)
    go true e = rw (eqb-true (p / bit % 2) 1 e) (sym (mul-one bit))
    go false e =
        let z : p / bit % 2 ≡ 0 = omega (arith, eqb-false (p / bit % 2) 1 e) in
        rw z (sym (mul-zero bit))

abbrev sum_of_bits : ℕ → ℕ
sum_of_bits p = 1 * (p / 1 % 2) + 2 * (p / 2 % 2) + 4 * (p / 4 % 2) + 8 * (p / 8 % 2) + 16 * (p / 16 % 2) + 32 * (p / 32 % 2) + 64 * (p / 64 % 2)

binary : (p : ℕ) → p < 128 → sum_of_bits p ≡ p
binary p h = eqb-true (sum_of_bits p) p (every-at (λ n. eqb (sum_of_bits n) n) 0 128 p refl zero-le (omega arith))

present_forth : (l : List ℕ) → get_or l 1 0 < 128 → present_of (geometry_of l) ≡ get_or l 1 0
unfolding present_of geometry_of
present_forth l h =
    let p : ℕ = get_or l 1 0 in
    rw (shown-bit p 1 (word_at 4 l 4) (word_at 4 l 8), shown-bit p 2 (word_at 4 l 12) (word_at 4 l 16), shown-bit p 4 (word_at 4 l 20) (word_at 4 l 24), shown-bit p 8 (word_at 4 l 28) (word_at 4 l 32), shown-bit p 16 (word_at 4 l 36) (word_at 4 l 40), shown-bit p 32 (word_at 4 l 44) (word_at 4 l 48), shown-bit p 64 (word_at 4 l 52) (word_at 4 l 56))
    (binary p h)

module _ (l : List ℕ) (bytes : Bytes l) (long : length l ≡ 64) where
  number : (i : ℕ) → i + 4 ≤ 64 → le 4 (word_at 4 l i) ≡ take 4 (drop i l)
  number i h = le_part 4 i l bytes (omega arith)

  span_forth : (bit i : ℕ) → i + 8 ≤ 64 → absent_zero l bit i ≡ true → span_bytes (span_at l bit i) ≡ take 8 (drop i l)
  span_forth bit i h a = pair (present l bit) a ∙ joined l i 4 4 (number i (omega arith)) (number (i + 4) (omega arith))
    where
      pair : (b : Bool) → (b || (eqb (word_at 4 l i) 0 && eqb (word_at 4 l (i + 4)) 0)) ≡ true
          → span_bytes (span_if b (word_at 4 l i) (word_at 4 l (i + 4))) ≡ le 4 (word_at 4 l i) ++ le 4 (word_at 4 l (i + 4))
      pair true e = refl
      pair false e =
          let z = both (eqb (word_at 4 l i) 0) (eqb (word_at 4 l (i + 4)) 0) e in
          rw (eqb-true (word_at 4 l i) 0 z.0, eqb-true (word_at 4 l (i + 4)) 0 z.1)

  module _ (sound : sound_geometry l ≡ true) where
    record Sound : Type 0 where
      second : get_or l 2 0 ≡ 0
      third : get_or l 3 0 ≡ 0
      last : word_at 4 l 60 ≡ 0
      small : get_or l 1 0 < 128
      xy : absent_zero l 1 4 ≡ true
      ends : absent_zero l 2 12 ≡ true
      z : absent_zero l 4 20 ≡ true
      m : absent_zero l 8 28 ≡ true
      t : absent_zero l 16 36 ≡ true
      tm : absent_zero l 32 44 ≡ true
      parts : absent_zero l 64 52 ≡ true

    said : Sound
    unfolding sound_geometry
    said =
        let parts = both _ (absent_zero l 64 52) sound in
        let tm = both _ (absent_zero l 32 44) parts.0 in
        let t = both _ (absent_zero l 16 36) tm.0 in
        let m = both _ (absent_zero l 8 28) t.0 in
        let z = both _ (absent_zero l 4 20) m.0 in
        let ends = both _ (absent_zero l 2 12) z.0 in
        let xy = both _ (absent_zero l 1 4) ends.0 in
        let small = both _ (ltb (get_or l 1 0) 128) xy.0 in
        let last = both _ (eqb (word_at 4 l 60) 0) small.0 in
        let spare = both (eqb (get_or l 2 0) 0) (eqb (get_or l 3 0) 0) last.0 in
        record {
          second = eqb-true _ 0 spare.0;
          third = eqb-true _ 0 spare.1;
          last = eqb-true _ 0 last.1;
          small = ltb-true _ 128 small.1;
          xy = xy.1;
          ends = ends.1;
          z = z.1;
          m = m.1;
          t = t.1;
          tm = tm.1;
          parts = parts.1;
        }

    head : head_bytes (get_or l 0 0) (present_of (geometry_of l)) ≡ take 4 l
    head = sym (four-at l 0 (omega arith) ∙ rw (present_forth l said.small, said.second, said.third))

    lists_forth : geometry_bytes (geometry_of l) ≡ l
    unfolding geometry_bytes geometry_of
    lists_forth =
        joined l 0 60 4
        (joined l 0 52 8
        (joined l 0 44 8
        (joined l 0 36 8
        (joined l 0 28 8
        (joined l 0 20 8
        (joined l 0 12 8
        (joined l 0 4 8 head (span_forth 1 4 (lit≤ tt) said.xy))
        (span_forth 2 12 (lit≤ tt) said.ends))
        (span_forth 4 20 (lit≤ tt) said.z))
        (span_forth 8 28 (lit≤ tt) said.m))
        (span_forth 16 36 (lit≤ tt) said.t))
        (span_forth 32 44 (lit≤ tt) said.tm))
        (span_forth 64 52 (lit≤ tt) said.parts))
        (ap (le 4) (sym said.last) ∙ number 60 (lit≤ tt))
        ∙ take_all 64 l (omega arith)

pub geometry_forth : (l : List ℕ) (g : Geometry) → Bytes l → read_geometry l ≡ Some g → geometry_bytes g ≡ l
unfolding read_geometry
geometry_forth l g b h = go (eqb (length l) 64) (sound_geometry l) refl refl h
  where
    go : (p q : Bool) → eqb (length l) 64 ≡ p → sound_geometry l ≡ q → cond (p && q) (Some (geometry_of l)) None ≡ Some g → geometry_bytes g ≡ l
    go true true p q h = let same : geometry_of l ≡ g = cc in rw same at (lists_forth l b (eqb-true (length l) 64 p) q)
    go true false p q h = let z : ◌≡◌ {A = ℕ} 0 1 = cc in absurd (omega arith)
    go false q p r h = let z : ◌≡◌ {A = ℕ} 0 1 = cc in absurd (omega arith)
