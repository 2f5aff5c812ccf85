-- SPEC 12.1 to 12.3: B1 to B14 in one table, under every number of a feature. A tree is what the calls make of the events' bytes on lent memory, read off record by record; a reading is the script that `read` says, and the bytes of a log in which it was said under a number.
use Rattle.std.specs.Prelude.{◌≡◌, refl, Bool, true, false, List, [], ◌∷◌, ◌++◌, ℕ, ◌≤◌, length, replicate}
use Rattle.std.proofs.Math.Option.{Option, none, some}
use Rattle.laws.specs.Script.{Script, stop, say, ◌⨟◌, out, run}
use Rattle.laws.specs.Framed.{framed}
use Rattle.laws.specs.Cut.{records_of, room_of, Said, Whole, said_whole}
use Rattle.geometry_layout.specs.Geometry.{geometry_of, sound_geometry, read_geometry}
use Rattle.kinds.specs.Event.{begin_e, end_e, xy_e}
use Rattle.kinds.specs.declared.event.Event.{Event}
use Rattle.store.specs.Lists.{Rec, Pools, pools_of, record_with}
use Rattle.event_log.specs.Log.{events}
use Rattle.store.specs.Records.{has_record, record_in, lists_in, record_at}
use Rattle.coords.specs.Coords.{pair_s, coords_s, between_s}
use Rattle.lines.specs.Lines.{stretch_s, lines_s, flat_o, flat_s, rings_s, stretches_s, polygon_s, multi_line_s, point_s}
use Rattle.reader.specs.Reading.{span_s, parts_s, kind_s, geometry_s, root_s, read_s}
use Rattle.reader.specs.Examples.{no_flags}
use Rattle.property_reader.specs.Reading.{reading}
use Rattle.event_log.specs.Values.{values}
use Rattle.properties.specs.Examples as Properties
use Rattle.writing.specs.State.{Mem}
use Rattle.writing.specs.Calls.{started, event_call}
use Rattle.writer_model.specs.Bench.{line, lines, polygon, two, three, four, rec, root}
use Rattle.writer_model.proofs.BenchCalls as Called
use Rattle.writer_model.specs.BenchCalls.{blank, Makes, b6_called}
use Rattle.writer_model.specs.Feature.{finished_mem}
use Rattle.writer_model.specs.Tree.{Holds}
use Rattle.geometries.specs.Told.{told}

-- reading a table and pools under a declared type says s; and whatever `read` under any number answers and leaves by its contract, from a log with room: s's number, its events with that number, and the rest of the log untouched
pub record Says (table : List ℕ) (P : Pools) (declared : ℕ) (s : Script Event) : Type 0 where
  pub script : read_s no_flags (record_with table P) declared ≡ s
  pub logged : (n : ℕ) (L : List ℕ) (number count : ℕ) (M : List ℕ) → length (records_of s) ≤ room_of 64 L
      → Said (events n) (read_s no_flags (record_with table P) declared) L number count M → Whole (events n) s L number count M

says : (table : List ℕ) (P : Pools) (declared : ℕ) (s : Script Event) → read_s no_flags (record_with table P) declared ≡ s → Says table P declared s
unfolding events
says table P declared s e = record { script = e; logged = λ n L number count M room said. said_whole (events n) s L number count M room (rw e at said) }

-- under every number every call is accepted, the finished tree is t, and reading it under the declared type says s
abbrev Gives : ℕ → Bool → Bool → Mem → List Event → List Rec → Script Event → Type 0
Gives declared detect promote k es t s =
    (n : ℕ) → Makes declared detect promote n k es t
    × Says (finished_mem (started declared detect promote) n k es).table (finished_mem (started declared detect promote) n k es).pools declared s

-- ---- what is said of the trees of B1 to B9, wherever they stand
module _ (get : ℕ → Option Rec) where
  b1_says : Holds get 0 (rec 0 (1 ∷ 2 ∷ 3 ∷ 4 ∷ 5 ∷ 6 ∷ 1 ∷ 2 ∷ []) none ∷ []) → read_s no_flags get 3 ≡ (told (polygon (four ∷ [])))
  unfolding read_s root_s geometry_s kind_s polygon_s stretches_s rings_s flat_s flat_o framed coords_s pair_s ◌⨟◌
  b1_says h = rw h.0

  b2_says : Holds get 0 (rec 0 (1 ∷ 2 ∷ 3 ∷ 4 ∷ 5 ∷ 6 ∷ 1 ∷ 2 ∷ 1 ∷ 2 ∷ 3 ∷ 4 ∷ 5 ∷ 6 ∷ 1 ∷ 2 ∷ []) (some (4 ∷ 8 ∷ [])) ∷ []) → read_s no_flags get 3 ≡ (told (polygon (four ∷ four ∷ [])))
  unfolding read_s root_s geometry_s kind_s polygon_s stretches_s rings_s lines_s stretch_s framed between_s coords_s pair_s ◌⨟◌
  b2_says h = rw h.0

  b3_says : Holds get 0 (rec 0 [] none ∷ []) → read_s no_flags get 3 ≡ (told (polygon ([] ∷ [])))
  unfolding read_s root_s geometry_s kind_s polygon_s stretches_s rings_s flat_s flat_o framed coords_s ◌⨟◌
  b3_says h = rw h.0

  b4_says : Holds get 0 (rec 0 (1 ∷ 2 ∷ 3 ∷ 4 ∷ 1 ∷ 2 ∷ 3 ∷ 4 ∷ 5 ∷ 6 ∷ []) (some (2 ∷ 2 ∷ 5 ∷ [])) ∷ []) → read_s no_flags get 5 ≡ (told (begin_e 5 false 3 0 ∷ (lines (two ∷ [] ∷ three ∷ []) 0 ++ (end_e 5 false 0 ∷ []))))
  unfolding read_s root_s geometry_s kind_s multi_line_s stretches_s rings_s lines_s stretch_s framed between_s coords_s pair_s ◌⨟◌
  b4_says h = rw h.0

  b5_says : Holds get 0 (rec 0 (1 ∷ 2 ∷ 3 ∷ 4 ∷ []) none ∷ []) → read_s no_flags get 5 ≡ (told (begin_e 5 false 1 0 ∷ (lines (two ∷ []) 0 ++ (end_e 5 false 0 ∷ []))))
  unfolding read_s root_s geometry_s kind_s multi_line_s stretches_s rings_s flat_s flat_o framed coords_s pair_s ◌⨟◌
  b5_says h = rw h.0

  b7_says : Holds get 0 (rec 0 [] none ∷ []) → read_s no_flags get 6 ≡ (stop 2)
  unfolding read_s root_s geometry_s kind_s span_s
  b7_says h = rw h.0

  b8_says : Holds get 0 (root 3 2 ∷ rec 3 (1 ∷ 2 ∷ 3 ∷ 4 ∷ 5 ∷ 6 ∷ 1 ∷ 2 ∷ []) none ∷ rec 3 [] none ∷ []) → read_s no_flags get 7 ≡ (told (begin_e 7 false 2 0 ∷ (polygon (four ∷ []) ++ (begin_e 3 true 1 1 ∷ (line false [] 0 ++ (end_e 3 true 1 ∷ end_e 7 false 0 ∷ []))))))
  unfolding read_s root_s geometry_s kind_s span_s parts_s polygon_s stretches_s rings_s flat_s flat_o framed coords_s pair_s ◌⨟◌
  b8_says h = rw (h.0, h.1.0, h.1.1.0)

  b9_says : Holds get 0 (root 1 1 ∷ rec 1 (1 ∷ 2 ∷ []) none ∷ []) → read_s no_flags get 0 ≡ (say (begin_e 1 false 0 0) (stop 1))
  unfolding read_s root_s geometry_s kind_s point_s framed between_s ◌⨟◌
  b9_says h = rw h.0

-- ---- the table
-- B1. Polygon, one ring of 4 pairs: 8 words, no ends.
pub b1 : Gives 3 false false (blank 1 8 1) (polygon (four ∷ [])) (rec 0 (1 ∷ 2 ∷ 3 ∷ 4 ∷ 5 ∷ 6 ∷ 1 ∷ 2 ∷ []) none ∷ []) (told (polygon (four ∷ [])))
b1 n = (Called.b1_called n, says _ _ _ _ (b1_says _ (Called.b1_called n).1))

-- B2. Two rings of 4: ends 4, 8.
pub b2 : Gives 3 false false (blank 1 16 2) (polygon (four ∷ four ∷ [])) (rec 0 (1 ∷ 2 ∷ 3 ∷ 4 ∷ 5 ∷ 6 ∷ 1 ∷ 2 ∷ 1 ∷ 2 ∷ 3 ∷ 4 ∷ 5 ∷ 6 ∷ 1 ∷ 2 ∷ []) (some (4 ∷ 8 ∷ [])) ∷ []) (told (polygon (four ∷ four ∷ [])))
b2 n = (Called.b2_called n, says _ _ _ _ (b2_says _ (Called.b2_called n).1))

-- B3. No ring: empty xy; reads as one empty ring, 4 events.
pub b3 : Gives 3 false false (blank 1 0 0) (polygon []) (rec 0 [] none ∷ []) (told (polygon ([] ∷ [])))
b3 n = (Called.b3_called n, says _ _ _ _ (b3_says _ (Called.b3_called n).1))

-- B4. MultiLineString of 2, 0, 3 pairs: ends 2, 2, 5.
pub b4 : Gives 5 false false (blank 1 10 3) (begin_e 5 false 3 0 ∷ (lines (two ∷ [] ∷ three ∷ []) 0 ++ (end_e 5 false 0 ∷ []))) (rec 0 (1 ∷ 2 ∷ 3 ∷ 4 ∷ 1 ∷ 2 ∷ 3 ∷ 4 ∷ 5 ∷ 6 ∷ []) (some (2 ∷ 2 ∷ 5 ∷ [])) ∷ []) (told (begin_e 5 false 3 0 ∷ (lines (two ∷ [] ∷ three ∷ []) 0 ++ (end_e 5 false 0 ∷ []))))
b4 n = (Called.b4_called n, says _ _ _ _ (b4_says _ (Called.b4_called n).1))

-- B5. Declared MultiLineString, tagged LineString of 2 pairs, promote: no ends, reads as one line.
pub b5 : Gives 5 false true (blank 1 4 1) (line true two 0) (rec 0 (1 ∷ 2 ∷ 3 ∷ 4 ∷ []) none ∷ []) (told (begin_e 5 false 1 0 ∷ (lines (two ∷ []) 0 ++ (end_e 5 false 0 ∷ []))))
b5 n = (Called.b5_called n, says _ _ _ _ (b5_says _ (Called.b5_called n).1))

-- B6. Without promote: 5, on any memory.
pub b6 : (n : ℕ) (k : Mem) → (event_call (started 5 false false) k ((events n).bytes (begin_e 2 true 2 0))).wrote.number ≡ 5
b6 = b6_called

-- B7. MultiPolygon, no polygon: empty xy, no parts; reads 2, no event.
pub b7 : Gives 6 false false (blank 1 0 0) (begin_e 6 false 0 0 ∷ end_e 6 false 0 ∷ []) (rec 0 [] none ∷ []) (stop 2)
b7 n = (Called.b7_called n, says _ _ _ _ (b7_says _ (Called.b7_called n).1))

-- B8. Declared GeometryCollection with a Polygon of one 4-pair ring: a root of type 3 over two parts of type 3, with 4 pairs and none.
pub b8 : Gives 7 false false (blank 3 8 1) (begin_e 7 false 1 0 ∷ (polygon (four ∷ []) ++ (end_e 7 false 0 ∷ []))) (root 3 2 ∷ rec 3 (1 ∷ 2 ∷ 3 ∷ 4 ∷ 5 ∷ 6 ∷ 1 ∷ 2 ∷ []) none ∷ rec 3 [] none ∷ []) (told (begin_e 7 false 2 0 ∷ (polygon (four ∷ []) ++ (begin_e 3 true 1 1 ∷ (line false [] 0 ++ (end_e 3 true 1 ∷ end_e 7 false 0 ∷ []))))))
b8 n = (Called.b8_called n, says _ _ _ _ (b8_says _ (Called.b8_called n).1))

-- B9. Unknown, no detect, no promote, a collection of one Point: root type 1; reads point_begin, then 1.
pub b9 : Gives 0 false false (blank 2 2 0) (begin_e 7 false 1 0 ∷ begin_e 1 false 0 0 ∷ xy_e 1 2 0 ∷ end_e 1 false 0 ∷ end_e 7 false 0 ∷ []) (root 1 1 ∷ rec 1 (1 ∷ 2 ∷ []) none ∷ []) (say (begin_e 1 false 0 0) (stop 1))
b9 n = (Called.b9_called n, says _ _ _ _ (b9_says _ (Called.b9_called n).1))

-- ---- B10 and B11: a table of one record, from its bytes
abbrev no_pair : List ℕ
no_pair = 1 ∷ 1 ∷ replicate 62 0

abbrev falling : List ℕ
falling = 5 ∷ 3 ∷ 0 ∷ 0 ∷ 0 ∷ 0 ∷ 0 ∷ 0 ∷ 6 ∷ 0 ∷ 0 ∷ 0 ∷ 0 ∷ 0 ∷ 0 ∷ 0 ∷ 2 ∷ 0 ∷ 0 ∷ 0 ∷ replicate 44 0

-- B10. Point without a pair: point_begin, then 7.
pub b10 : Says no_pair (pools_of [] [] [] [] [] []) 1 (say (begin_e 1 false 0 0) (stop 7))
unfolding read_s root_s geometry_s kind_s point_s framed between_s coords_s ◌⨟◌ record_with record_at has_record record_in lists_in read_geometry sound_geometry geometry_of
b10 = says _ _ _ _ refl

-- B11. MultiLineString, 6 words, ends 3, 2: six events, then 8.
pub b11 : Says falling (pools_of (10 ∷ 11 ∷ 12 ∷ 13 ∷ 14 ∷ 15 ∷ []) (3 ∷ 2 ∷ []) [] [] [] []) 5
    (say (begin_e 5 false 2 0) (say (begin_e 2 false 3 0) (say (xy_e 10 11 0) (say (xy_e 12 13 1) (say (xy_e 14 15 2) (say (end_e 2 false 0) (stop 8)))))))
unfolding read_s root_s geometry_s kind_s multi_line_s stretches_s rings_s lines_s stretch_s framed between_s coords_s pair_s ◌⨟◌ record_with record_at has_record record_in lists_in read_geometry sound_geometry geometry_of
b11 = says _ _ _ _ refl

-- ---- B12 to B14: property bytes, read to a log of one record and four bytes that stay as they are
abbrev log : List ℕ
log = replicate 20 0xee

abbrev rest : List ℕ
rest = replicate 4 0xee

-- B12. Bytes 00 00 FF, column Byte: -1, by its bits.
pub b12 : run values (reading (0x00 ∷ 0x00 ∷ 0xff ∷ []) true (0 ∷ []) 65536) log 0 ≡ out 0 1 ((0 ∷ 0 ∷ 0 ∷ 0 ∷ 1 ∷ 0 ∷ 0 ∷ 0 ∷ 0xff ∷ 0 ∷ 0 ∷ 0 ∷ 0 ∷ 0 ∷ 0 ∷ 0 ∷ []) ++ rest)
b12 = Properties.b12

-- B13. 00 00 05 07, UByte: 5, done.
pub b13 : run values (reading (0x00 ∷ 0x00 ∷ 0x05 ∷ 0x07 ∷ []) true (1 ∷ []) 65536) log 0 ≡ out 0 1 ((0 ∷ 0 ∷ 1 ∷ 0 ∷ 1 ∷ 0 ∷ 0 ∷ 0 ∷ 5 ∷ 0 ∷ 0 ∷ 0 ∷ 0 ∷ 0 ∷ 0 ∷ 0 ∷ []) ++ rest)
b13 = Properties.b13

-- B14. 01 00, one column: 2.
pub b14 : run values (reading (0x01 ∷ 0x00 ∷ []) true (0 ∷ []) 65536) log 0 ≡ out 2 0 log
b14 = Properties.b14
