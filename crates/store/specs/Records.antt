-- SPEC 3.8, 3.9: geometry records by number, and which are bad.
use Rattle.std.specs.Prelude.{Option, Some, None, Bool, true, cond, not, ◌&&◌, List, ℕ, ◌+◌, ◌*◌, ◌/◌, ◌%◌, length, leb, ltb, eqb}
use Rattle.std.proofs.lemmas.List.Edits.{sets}
use Rattle.laws.specs.Blocks.{block}
use Rattle.geometry_layout.specs.Geometry.{geometry_bytes, read_geometry}
use Rattle.kinds.specs.Geometry.{Span}
use Rattle.kinds.specs.Lanes.{Lent, usable, span_in, lent_in, every_lane}
use Rattle.kinds.specs.declared.geometry.Geometry.{Geometry}

-- the geometry of a record that was judged, if it is good
abbrev pub Judged : Type 0
Judged = Option Geometry

-- how many whole records a table has
abbrev pub records_lent : List ℕ → ℕ
records_lent table = length table / 64

-- a table that is read has whole records, and at least one (SPEC 3.8)
abbrev pub table_good : List ℕ → Bool
table_good table = eqb (length table % 64) 0 && not (eqb (records_lent table) 0)

-- SPEC 3.9: a good record is in the table, and usable,
unfoldable pub has_record : List ℕ → ℕ → Bool
has_record table n = table_good table && ltb n (records_lent table) && ltb n 4096

-- its own bytes are sound, which is the layout's matter,
unfoldable pub record_in : List ℕ → ℕ → Judged
record_in table n = read_geometry (block 64 table n)

-- its lists lie within their pools, lent and usable,
abbrev pub in_pool : Span → ℕ → ℕ → Bool
in_pool None lent most = true
in_pool (Some s) lent most = leb (s.start + s.count) lent && leb (s.start + s.count) most

-- and its parts stand above it, within the table, lent and usable
abbrev pub in_table : Span → ℕ → ℕ → Bool
in_table None n lent = true
in_table (Some s) n lent = ltb n s.start && leb (s.start + s.count) lent && leb (s.start + s.count) 4096

unfoldable pub lists_in : Geometry → Lent → ℕ → ℕ → Bool
lists_in g pools n lent = every_lane (λ k. in_pool (span_in g k) (lent_in pools k) (usable k)) && in_table g.parts n lent

abbrev pub judged : Judged → Lent → ℕ → ℕ → Judged
judged None pools n lent = None
judged (Some g) pools n lent = cond (lists_in g pools n lent) (Some g) None

unfoldable pub record_at : List ℕ → Lent → ℕ → Judged
record_at table pools n = cond (has_record table n) (judged (record_in table n) pools n (records_lent table)) None

-- ---- a record put down
unfoldable pub put_record : List ℕ → ℕ → Geometry → List ℕ
put_record table n g = sets table (64 * n) (geometry_bytes g)
