-- A geometry record that has an xy list and no other, known by a few of its words.
use Rattle.std.specs.Prelude.{◌≡◌, Some, None, Bool, true, cond, ◌&&◌, List, ℕ, ◌+◌, ◌≤◌, length, get_or, eqb}
use Rattle.std.proofs.Common.{arith, lit≤}
use borrow.Author.Tests.{eq-eqb, eqb-true}
use Rattle.laws.specs.Every.{both}
use Rattle.laws.specs.Bytes.{word_at, eight_at}
use Rattle.kinds.specs.Geometry.{Span, stretch, lone_geometry}
use Rattle.geometry_layout.specs.Geometry.{geometry_of, sound_geometry, read_geometry}

-- present bit 1 alone is set, and all from the second pair on is zero
unfoldable pub is_lone : List ℕ → Bool
is_lone l =
    eqb (get_or l 1 0) 1 && eqb (get_or l 2 0) 0 && eqb (get_or l 3 0) 0
    && eqb (word_at 8 l 12) 0 && eqb (word_at 8 l 20) 0 && eqb (word_at 8 l 28) 0
    && eqb (word_at 8 l 36) 0 && eqb (word_at 8 l 44) 0 && eqb (word_at 8 l 52) 0 && eqb (word_at 4 l 60) 0

unfoldable pub lone_in : List ℕ → Span
lone_in l = cond (is_lone l) (Some (stretch (word_at 4 l 4) (word_at 4 l 8))) None

-- ---- such a record reads as the geometry of its list
module _ (l : List ℕ) (long : length l ≡ 64) (lone : is_lone l ≡ true) where
  record Zeros : Type 0 where
    present : get_or l 1 0 ≡ 1
    second : get_or l 2 0 ≡ 0
    third : get_or l 3 0 ≡ 0
    ends : word_at 8 l 12 ≡ 0
    z : word_at 8 l 20 ≡ 0
    m : word_at 8 l 28 ≡ 0
    t : word_at 8 l 36 ≡ 0
    tm : word_at 8 l 44 ≡ 0
    parts : word_at 8 l 52 ≡ 0
    last : word_at 4 l 60 ≡ 0

  zeros : Zeros
  unfolding is_lone
  zeros =
      let last = both _ (eqb (word_at 4 l 60) 0) lone in
      let parts = both _ (eqb (word_at 8 l 52) 0) last.0 in
      let tm = both _ (eqb (word_at 8 l 44) 0) parts.0 in
      let t = both _ (eqb (word_at 8 l 36) 0) tm.0 in
      let m = both _ (eqb (word_at 8 l 28) 0) t.0 in
      let z = both _ (eqb (word_at 8 l 20) 0) m.0 in
      let ends = both _ (eqb (word_at 8 l 12) 0) z.0 in
      let third = both _ (eqb (get_or l 3 0) 0) ends.0 in
      let head = both (eqb (get_or l 1 0) 1) (eqb (get_or l 2 0) 0) third.0 in
      record {
        present = eqb-true _ 1 head.0;
        second = eqb-true _ 0 head.1;
        third = eqb-true _ 0 third.1;
        ends = eqb-true _ 0 ends.1;
        z = eqb-true _ 0 z.1;
        m = eqb-true _ 0 m.1;
        t = eqb-true _ 0 t.1;
        tm = eqb-true _ 0 tm.1;
        parts = eqb-true _ 0 parts.1;
        last = eqb-true _ 0 last.1;
      }

  halves : (i : ℕ) → i + 8 ≤ 64 → word_at 8 l i ≡ 0 → (word_at 4 l i ≡ 0) × (word_at 4 l (i + 4) ≡ 0)
  halves i h e =
      let s = eight_at l i (omega arith) in
      (omega (arith, s, e), omega (arith, s, e))

  lone_sound : sound_geometry l ≡ true
  unfolding sound_geometry
  lone_sound =
      let w = zeros in
      let ends = halves 12 (lit≤ tt) w.ends in
      let z = halves 20 (lit≤ tt) w.z in
      let m = halves 28 (lit≤ tt) w.m in
      let t = halves 36 (lit≤ tt) w.t in
      let tm = halves 44 (lit≤ tt) w.tm in
      let parts = halves 52 (lit≤ tt) w.parts in
      rw (w.present, w.second, w.third, w.last, ends.0, ends.1, z.0, z.1, m.0, m.1, t.0, t.1, tm.0, tm.1, parts.0, parts.1)

  lone_lists : geometry_of l ≡ lone_geometry (get_or l 0 0) (word_at 4 l 4) (word_at 4 l 8)
  unfolding geometry_of
  lone_lists = rw zeros.present

  pub lone_read : read_geometry l ≡ Some (lone_geometry (get_or l 0 0) (word_at 4 l 4) (word_at 4 l 8))
  unfolding read_geometry
  lone_read = rw (eq-eqb (length l) 64 long, lone_sound, lone_lists)
