-- What the floors above may know of records.
use Rattle.std.specs.Prelude.{◌≡◌, refl, Some, None, Bool, true, false, cond, ◌&&◌, List, ℕ, ◌+◌, ◌*◌, ◌<◌, ◌≤◌, length, drop, leb, ltb, eqb}
use Rattle.std.proofs.Math.Path.{ap}
use Rattle.std.proofs.Common.{◌∙◌, arith, length-take, length-take-le, length-drop, leb-true, ltb-true, eqb-true, le-ltb}
use Rattle.std.proofs.Math.Seq.{length-sets}
use Rattle.laws.specs.Every.{never, both}
use Rattle.laws.specs.Blocks.{block, block_same, block-other}
use Rattle.geometry_layout.specs.Geometry.{geometry_bytes, geometry_of, sound_geometry, read_geometry}
use Rattle.geometry_layout.specs.GeometryLaws.{geometry_length, geometry_back}
use Rattle.kinds.specs.Geometry.{Span, GeometrySized}
use Rattle.kinds.specs.LaneLaws.{lane_of_every}
use Rattle.kinds.specs.Lanes.{Lane, Lent, usable, span_in, lent_in, every_lane}
use Rattle.kinds.specs.declared.geometry.Geometry.{Geometry}
use Rattle.store.specs.Records.{Judged, records_lent, table_good, has_record, record_in, in_pool, in_table, lists_in, judged, record_at, put_record}

-- a table that has a record has room for its 64 bytes
pub record_room : (table : List ℕ) (n : ℕ) → has_record table n ≡ true → (n < records_lent table) × (n < 4096)
unfolding has_record
record_room table n h =
    let a = both (table_good table && ltb n (records_lent table)) (ltb n 4096) h in
    (ltb-true n (records_lent table) (both (table_good table) (ltb n (records_lent table)) a.0).1, ltb-true n 4096 a.1)

pub record_long : (table : List ℕ) (n : ℕ) → n < records_lent table → length (block 64 table n) ≡ 64
record_long table n h = length-take-le 64 (drop (64 * n) table) (omega (arith, length-drop (64 * n) table))

pub record_is : (table : List ℕ) (pools : Lent) (n : ℕ) → has_record table n ≡ true → record_at table pools n ≡ judged (record_in table n) pools n (records_lent table)
unfolding record_at
record_is table pools n h = rw h

pub record_none : (table : List ℕ) (pools : Lent) (n : ℕ) → has_record table n ≡ false → record_at table pools n ≡ None
unfolding record_at
record_none table pools n h = rw h

-- ---- a record that a table has, by what its bytes read as
pub record_unread : (table : List ℕ) (pools : Lent) (n : ℕ) → has_record table n ≡ true → record_in table n ≡ None → record_at table pools n ≡ None
record_unread table pools n has e = record_is table pools n has ∙ ap (λ (r : Judged). judged r pools n (records_lent table)) e

pub record_read : (table : List ℕ) (pools : Lent) (n : ℕ) (g : Geometry) → has_record table n ≡ true → record_in table n ≡ Some g
    → record_at table pools n ≡ cond (lists_in g pools n (records_lent table)) (Some g) None
record_read table pools n g has e = record_is table pools n has ∙ ap (λ (r : Judged). judged r pools n (records_lent table)) e

-- a number that is not usable is no record's
pub past-usable : (table : List ℕ) (pools : Lent) (n : ℕ) → 4096 ≤ n → record_at table pools n ≡ None
unfolding has_record
past-usable table pools n h = record_none table pools n (no_record (table_good table && ltb n (records_lent table)) (ltb n 4096) (le-ltb n 4096 h))
  where
    no_record : (p q : Bool) → q ≡ false → (p && q) ≡ false
    no_record true q e = e
    no_record false q e = refl

-- ---- what a good record's lists are bounded by
abbrev pub InPool : Span → ℕ → ℕ → Type 0
InPool None lent most = Unit
InPool (Some s) lent most = (s.start + s.count ≤ lent) × (s.start + s.count ≤ most)

abbrev pub InTable : Span → ℕ → ℕ → Type 0
InTable None n lent = Unit
InTable (Some s) n lent = (n < s.start) × (s.start + s.count ≤ lent) × (s.start + s.count ≤ 4096)

pub pool_bounds : (s : Span) (lent most : ℕ) → in_pool s lent most ≡ true → InPool s lent most
pool_bounds None lent most h = tt
pool_bounds (Some s) lent most h =
    let t = both (leb (s.start + s.count) lent) (leb (s.start + s.count) most) h in
    (leb-true (s.start + s.count) lent t.0, leb-true (s.start + s.count) most t.1)

table_bounds : (s : Span) (n lent : ℕ) → in_table s n lent ≡ true → InTable s n lent
table_bounds None n lent h = tt
table_bounds (Some s) n lent h =
    let t = both (ltb n s.start && leb (s.start + s.count) lent) (leb (s.start + s.count) 4096) h in
    let u = both (ltb n s.start) (leb (s.start + s.count) lent) t.0 in
    (ltb-true n s.start u.0, leb-true (s.start + s.count) lent u.1, leb-true (s.start + s.count) 4096 t.1)

pub record Within (table : List ℕ) (pools : Lent) (n : ℕ) (g : Geometry) : Type 0 where
  pub lent : n < records_lent table
  pub usable-number : n < 4096
  pub read : record_in table n ≡ Some g
  pub lists : (k : Lane) → InPool (span_in g k) (lent_in pools k) (usable k)
  pub parts : InTable g.parts n (records_lent table)

pub within : (table : List ℕ) (pools : Lent) (n : ℕ) (g : Geometry) → record_at table pools n ≡ Some g → Within table pools n g
unfolding record_at lists_in
within table pools n g h = by_number (has_record table n) refl h
  where
    by_lists : (b : Bool) (f : Geometry) → lists_in f pools n (records_lent table) ≡ b → record_in table n ≡ Some f → has_record table n ≡ true → cond b (Some f) None ≡ Some g → Within table pools n g
    by_lists true f l r e h =
        let same : f ≡ g = cc in
        let a = both (every_lane (λ k. in_pool (span_in g k) (lent_in pools k) (usable k))) (in_table g.parts n (records_lent table)) (rw same at l) in
        let room = record_room table n e in
        record {
          lent = room.0;
          usable-number = room.1;
          read = rw same at r;
          lists = λ k. pool_bounds (span_in g k) (lent_in pools k) (usable k) (lane_of_every (λ k. in_pool (span_in g k) (lent_in pools k) (usable k)) a.0 k);
          parts = table_bounds g.parts n (records_lent table) a.1;
        }
    by_lists false f l r e h = absurd (never (cc))

    by_record : (r : Judged) → record_in table n ≡ r → has_record table n ≡ true → judged r pools n (records_lent table) ≡ Some g → Within table pools n g
    by_record None r e h = absurd (never (cc))
    by_record (Some f) r e h = by_lists (lists_in f pools n (records_lent table)) f refl r e h

    by_number : (b : Bool) → has_record table n ≡ b → cond b (judged (record_in table n) pools n (records_lent table)) None ≡ Some g → Within table pools n g
    by_number true e h = by_record (record_in table n) refl e h
    by_number false e h = absurd (never (cc))

-- a record that reads good is in the table
pub good_lent : (table : List ℕ) (n : ℕ) (g : Geometry) → record_in table n ≡ Some g → n < records_lent table
unfolding record_in read_geometry
good_lent table n g h = go (eqb (length (block 64 table n)) 64 && sound_geometry (block 64 table n)) refl h
  where
    go : (b : Bool) → (eqb (length (block 64 table n)) 64 && sound_geometry (block 64 table n)) ≡ b → cond b (Some (geometry_of (block 64 table n))) None ≡ Some g → n < records_lent table
    go true t h =
        let e = eqb-true (length (block 64 table n)) 64 (both (eqb (length (block 64 table n)) 64) (sound_geometry (block 64 table n)) t).0 in
        omega (arith, e, length-take 64 (drop (64 * n) table), length-drop (64 * n) table)
    go false t h = absurd (never (cc))

-- ---- putting record n down leaves every other record as it was
pub put-length : (table : List ℕ) (n : ℕ) (g : Geometry) → length (put_record table n g) ≡ length table
unfolding put_record
put-length table n g = length-sets table (64 * n) (geometry_bytes g)

module _ (table : List ℕ) (n : ℕ) (g : Geometry) (room : n < records_lent table) where
  pub put_same : GeometrySized g → record_in (put_record table n g) n ≡ Some g
  unfolding put_record record_in
  put_same sized = ap read_geometry (block_same 64 table (geometry_bytes g) n (geometry_length g) (omega arith)) ∙ geometry_back g sized

  pub put_other : (m : ℕ) → (m ≡ n → ⊥) → record_in (put_record table n g) m ≡ record_in table m
  unfolding put_record record_in
  put_other m h = ap read_geometry (block-other 64 table (geometry_bytes g) n (geometry_length g) (omega arith) m h)

  pub put_other_at : (pools : Lent) (m : ℕ) → (m ≡ n → ⊥) → record_at (put_record table n g) pools m ≡ record_at table pools m
  unfolding record_at has_record
  put_other_at pools m h = rw (put-length table n g, put_other m h)

  pub put_same_at : (pools : Lent) → GeometrySized g → has_record table n ≡ true → lists_in g pools n (records_lent table) ≡ true → record_at (put_record table n g) pools n ≡ Some g
  unfolding record_at has_record
  put_same_at pools sized has lists = rw (put-length table n g, put_same sized, has, lists)
