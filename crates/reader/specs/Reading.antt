-- SPEC 7.3 to 7.5 and 7.18 to 7.20, beside geometry_reader.rs: what reading a tree says. The walks over a record's own lists are those of `lines`.
use Rattle.std.specs.Prelude.{true, false, cond, not, ◌&&◌, ◌||◌, ℕ, zero, suc, ◌+◌, leb, eqb}
use Rattle.std.proofs.Math.Option.{Option, none, some}
use Rattle.laws.specs.Script.{Script, stop, ◌⨟◌}
use Rattle.laws.specs.Framed.{framed}
use Rattle.kinds.specs.Event.{begin_e, end_e}
use Rattle.kinds.specs.declared.event.Event.{Event}
use Rattle.kinds.specs.declared.flags.Flags.{Flags}
use Rattle.store.specs.Lists.{Rec}
use Rattle.coords.specs.Coords.{coords_of}
use Rattle.lines.specs.Lines.{or_none, flat_s, polygon_s, multi_line_s, triangle_s, tin_s, point_s}

-- ---- parts: `part n i` is what the record of number n says as part i
unfoldable pub parts_s : (ℕ → ℕ → Script Event) → ℕ → ℕ → ℕ → Script Event
parts_s part zero n i = stop 0
parts_s part (suc k) n i = part n i ⨟ parts_s part k (n + 1) (i + 1)

-- a begin, the parts, an end: 2 where there is no list of parts
unfoldable pub span_s : (ℕ → ℕ → Script Event) → Option (ℕ × ℕ) → ℕ → ℕ → Script Event
span_s part none type idx = stop 2
span_s part (some p) type idx = framed (begin_e type false p.1 idx) (parts_s part p.1 p.0 0) (end_e type false idx)

-- a record that may be bad
abbrev pub found : Option Rec → (Rec → Script Event) → Script Event
found none f = stop 10
found (some r) f = f r

module _ (F : Flags) where
  -- read_multipolygon_type: any part is read as a polygon. `left` levels are left below the record: with none, 13
  unfoldable pub polygon_part : ℕ → (ℕ → Option Rec) → ℕ → ℕ → Script Event
  polygon_part zero get n i = stop 13
  polygon_part (suc left) get n i = found (get n) (λ p. polygon_s F p false i)

  -- ---- read_curve: by the stored type of the part and of the record above it
  unfoldable pub curve_of : (Rec → ℕ → ℕ → Script Event) → ℕ → Rec → ℕ → Script Event
  curve_of deeper above p i =
      cond (eqb p.kind 2) (flat_s (coords_of F p) 2 false i)
      (cond (eqb p.kind 8) (flat_s (coords_of F p) 8 false i)
      (cond (eqb p.kind 9 && not (eqb above 9)) (deeper p 9 i)
      (cond (eqb p.kind 3 && eqb above 12) (polygon_s F p true i)
      (cond (eqb p.kind 10 && eqb above 12) (deeper p 10 i) (stop 4)))))

  unfoldable pub curve_s : ℕ → (ℕ → Option Rec) → Rec → ℕ → ℕ → Script Event
  curve_s zero get r type idx = span_s (λ n i. stop 13) r.parts type idx
  curve_s (suc left) get r type idx = span_s (λ n i. found (get n) (λ p. curve_of (curve_s left get) r.kind p i)) r.parts type idx

  -- ---- read_geometry_n: a record under a type; `deeper n i` is a collection's part
  unfoldable pub kind_s : (ℕ → ℕ → Script Event) → ℕ → (ℕ → Option Rec) → Rec → ℕ → ℕ → Script Event
  kind_s deeper left get r type idx =
      cond (eqb type 1) (point_s (coords_of F r) idx)
      (cond (eqb type 2) (flat_s (coords_of F r) 2 true idx)
      (cond (eqb type 3) (polygon_s F r true idx)
      (cond (eqb type 4) (flat_s (coords_of F r) 4 false idx)
      (cond (eqb type 5) (multi_line_s (coords_of F r) (or_none r.ends) idx)
      (cond (eqb type 6 || eqb type 15) (span_s (polygon_part left get) r.parts type idx)
      (cond (eqb type 7) (span_s deeper r.parts 7 idx)
      (cond (eqb type 8) (flat_s (coords_of F r) 8 false idx)
      (cond (leb 9 type && leb type 12) (curve_s left get r type idx)
      (cond (eqb type 16) (tin_s (coords_of F r) (or_none r.ends) idx)
      (cond (eqb type 17) (triangle_s (coords_of F r) (or_none r.ends) true idx)
      (stop 3)))))))))))

  -- read_geometrycollection: a part under its own type
  unfoldable pub geometry_s : ℕ → (ℕ → Option Rec) → Rec → ℕ → ℕ → Script Event
  geometry_s zero get r type idx = kind_s (λ n i. stop 13) zero get r type idx
  geometry_s (suc left) get r type idx = kind_s (λ n i. found (get n) (λ p. geometry_s left get p p.kind i)) (suc left) get r type idx

  -- read_geometry: the root is record 0, at level 1 of 16; under declared type 0 its own type counts (SPEC 7.3)
  unfoldable pub root_s : (ℕ → Option Rec) → Option Rec → ℕ → Script Event
  root_s get none declared = stop 10
  root_s get (some r) declared = geometry_s 15 get r (cond (eqb declared 0) r.kind declared) 0

  unfoldable pub read_s : (ℕ → Option Rec) → ℕ → Script Event
  read_s get declared = root_s get (get 0) declared
