-- The events of a geometry that fits, as records: each is well-formed, has fields that a record holds, and is read back as itself.
use Rattle.std.specs.Prelude.{◌≡◌, refl, Bool, true, false, List, [], ◌∷◌, map, ℕ, zero, suc, ◌+◌, ◌<◌, ◌≤◌, length}
use Rattle.std.proofs.Common.{sym, ap, ◌∙◌, subst, arith, lit<}
use Rattle.kinds.specs.Event.{begin_e, end_e, xy_e, well_formed, EventSized}
use Rattle.kinds.specs.declared.event.Event.{Event as Flat}
use Rattle.planar.specs.Geometry.{Coord, point, line_string, polygon, multi_point, multi_line_string, multi_polygon, simple, collection, Geometry}
use Rattle.planar.specs.Within.{planar_events}
use Rattle.planar.specs.Fits.{Each, Row, FitsCoord, FitsLine, FitsRings, FitsSimple, Fits}
use Rattle.nesting.specs.declared.geometry_type.GeometryType.{GeometryType}
use Rattle.nesting.specs.declared.geometry_type.GeometryType.TheVariants.{Point, LineString, Polygon, MultiPoint, MultiLineString, MultiPolygon, Collection}
use Rattle.nesting.specs.Events.{Event, begin, end, pair, Tells, each, group, coord_of, line_of, rings_of, simple_of, geometry_of, events_of}
use Rattle.nesting.specs.Rules.{limit, limit64}
use Rattle.nesting.specs.Flat.{read, flat}
use Rattle.nesting.specs.FlatEvents.{events-flat}
use Rattle.nesting.specs.FlatLaws.{WellFormed}

-- a flat event that a record holds
pub record Sized (e : Flat) : Type 0 where
  pub sized : EventSized e
  pub formed : WellFormed e

record Kept (e : Event) : Type 0 where
  as_flat : Sized (flat e)
  back : read (flat e) ≡ e

-- ---- one event
begin-sized : (kind : ℕ) (tagged : Bool) (size idx : ℕ) → size < limit → idx < limit → EventSized (begin_e kind tagged size idx)
unfolding begin_e
begin-sized kind tagged size idx s i = record { size = s; idx = i; x = lit< tt; y = lit< tt; z = lit< tt; m = lit< tt; t = lit< tt; tm = lit< tt }

end-sized : (kind : ℕ) (tagged : Bool) (idx : ℕ) → idx < limit → EventSized (end_e kind tagged idx)
unfolding end_e
end-sized kind tagged idx i = record { size = lit< tt; idx = i; x = lit< tt; y = lit< tt; z = lit< tt; m = lit< tt; t = lit< tt; tm = lit< tt }

pair-sized : (x y idx : ℕ) → x < limit64 → y < limit64 → idx < limit → EventSized (xy_e x y idx)
unfolding xy_e
pair-sized x y idx h k i = record { size = lit< tt; idx = i; x = h; y = k; z = lit< tt; m = lit< tt; t = lit< tt; tm = lit< tt }

begin_back : (type : GeometryType) (tagged : Bool) (size idx : ℕ) → read (flat (begin type tagged size idx)) ≡ begin type tagged size idx
unfolding begin_e
begin_back Point tagged size idx = refl
begin_back LineString tagged size idx = refl
begin_back Polygon tagged size idx = refl
begin_back MultiPoint tagged size idx = refl
begin_back MultiLineString tagged size idx = refl
begin_back MultiPolygon tagged size idx = refl
begin_back Collection tagged size idx = refl

end_back : (type : GeometryType) (tagged : Bool) (idx : ℕ) → read (flat (end type tagged idx)) ≡ end type tagged idx
unfolding end_e
end_back Point tagged idx = refl
end_back LineString tagged idx = refl
end_back Polygon tagged idx = refl
end_back MultiPoint tagged idx = refl
end_back MultiLineString tagged idx = refl
end_back MultiPolygon tagged idx = refl
end_back Collection tagged idx = refl

pair-kept : (x y idx : ℕ) → x < limit64 → y < limit64 → idx < limit → Kept (pair x y idx)
unfolding xy_e well_formed
pair-kept x y idx h k i = record { as_flat = record { sized = pair-sized x y idx h k i; formed = refl }; back = refl }

-- a begin of so many things and its end are well-formed: only lines and polygons may be tagged
record Frames (type : GeometryType) (tagged : Bool) (size : ℕ) : Type 0 where
  begins : (idx : ℕ) → WellFormed (flat (begin type tagged size idx))
  ends : (idx : ℕ) → WellFormed (flat (end type tagged idx))

begin-kept : (type : GeometryType) (tagged : Bool) (size idx : ℕ) → Frames type tagged size → size < limit → idx < limit → Kept (begin type tagged size idx)
begin-kept type tagged size idx f s i = record { as_flat = record { sized = begin-sized _ tagged size idx s i; formed = f.begins idx }; back = begin_back type tagged size idx }

end_kept : (type : GeometryType) (tagged : Bool) (size idx : ℕ) → Frames type tagged size → idx < limit → Kept (end type tagged idx)
end_kept type tagged size idx f i = record { as_flat = record { sized = end-sized _ tagged idx i; formed = f.ends idx }; back = end_back type tagged idx }

-- ---- events before others
abbrev Keeps : {A : Type 0} → (A → Type 0) → Tells A → Type 0
Keeps {A} P f = (a : A) → P a → (i : ℕ) → i < limit → (k : List Event) → Each Kept k → Each Kept (f a i k)

module _ {A : Type 0} (P : A → Type 0) (f : Tells A) (one : Keeps P f) where
  each-kept : (xs : List A) → Each P xs → (i : ℕ) → i + length xs ≤ limit → (k : List Event) → Each Kept k → Each Kept (each f xs i k)
  each-kept [] ps i h k rest = rest
  each-kept (a ∷ xs) ps i h k rest = one a ps.0 i (omega arith) _ (each-kept xs ps.1 (i + 1) (omega arith) k rest)

  group-kept : (type : GeometryType) (tagged : Bool) → ((size : ℕ) → Frames type tagged size) → Keeps (Row P) (group type tagged f)
  group-kept type tagged frames xs ps i h k rest =
      let frame = frames (length xs) in
      (begin-kept type tagged (length xs) i frame ps.0 h, each-kept xs ps.1 0 (omega (arith, ps.0)) _ (end_kept type tagged (length xs) i frame h, rest))

coord_kept : Keeps FitsCoord coord_of
coord_kept c fits i h k rest = (pair-kept c.x c.y i fits.0 fits.1 h, rest)

line_frames : (tagged : Bool) (size : ℕ) → Frames LineString tagged size
unfolding begin_e end_e well_formed
line_frames tagged size = record { begins = λ idx. refl; ends = λ idx. refl }

polygon_frames : (tagged : Bool) (size : ℕ) → Frames Polygon tagged size
unfolding begin_e end_e well_formed
polygon_frames tagged size = record { begins = λ idx. refl; ends = λ idx. refl }

line_kept : (tagged : Bool) → Keeps FitsLine (group LineString tagged coord_of)
line_kept tagged = group-kept FitsCoord coord_of coord_kept LineString tagged (line_frames tagged)

polygon-kept : (tagged : Bool) → Keeps FitsRings (group Polygon tagged line_of)
polygon-kept tagged = group-kept FitsLine line_of (line_kept false) Polygon tagged (polygon_frames tagged)

point-kept : (c : Coord) → FitsCoord c → (i : ℕ) → i < limit → (k : List Event) → Each Kept k → Each Kept (simple_of (point c) i k)
unfolding begin_e end_e well_formed
point-kept c fits i h k rest =
    let frame : Frames Point false 0 = record { begins = λ idx. refl; ends = λ idx. refl } in
    (begin-kept Point false 0 i frame (lit< tt) h, coord_kept c fits 0 (lit< tt) (end Point false i ∷ k) (end_kept Point false 0 i frame h, rest))

simple_kept : Keeps FitsSimple simple_of
unfolding begin_e end_e well_formed
simple_kept (point c) fits = point-kept c fits
simple_kept (line_string l) fits = line_kept true l fits
simple_kept (polygon rs) fits = polygon-kept true rs fits
simple_kept (multi_point cs) fits = group-kept FitsCoord coord_of coord_kept MultiPoint false (λ size. record { begins = λ idx. refl; ends = λ idx. refl }) cs fits
simple_kept (multi_line_string ls) fits = group-kept FitsLine line_of (line_kept false) MultiLineString false (λ size. record { begins = λ idx. refl; ends = λ idx. refl }) ls fits
simple_kept (multi_polygon ps) fits = group-kept FitsRings rings_of (polygon-kept false) MultiPolygon false (λ size. record { begins = λ idx. refl; ends = λ idx. refl }) ps fits

geometry_kept : (n : ℕ) → Keeps (Fits n) (geometry_of n)
unfolding begin_e end_e well_formed
geometry_kept zero s fits = simple_kept s fits
geometry_kept (suc n) (simple s) fits = simple_kept s fits
geometry_kept (suc n) (collection gs) fits = group-kept (Fits n) (geometry_of n) (geometry_kept n) Collection false (λ size. record { begins = λ idx. refl; ends = λ idx. refl }) gs fits

events-kept : (n : ℕ) (g : Geometry n) → Fits n g → Each Kept (events_of n g)
events-kept n g fits = geometry_kept n g fits 0 (lit< tt) [] tt

-- ---- the whole
all-sized : (es : List Event) → Each Kept es → Each Sized (map flat es)
all-sized [] k = tt
all-sized (e ∷ es) k = (k.0.as_flat, all-sized es k.1)

all_back : (es : List Event) → Each Kept es → map read (map flat es) ≡ es
all_back [] k = refl
all_back (e ∷ es) k = let first = k.0.back in let others = all_back es k.1 in λ i. first i ∷ others i

pub planar_sized : (n : ℕ) (g : Geometry n) → Fits n g → Each Sized (planar_events n g)
planar_sized n g fits = subst (λ (es : List Flat). Each Sized es) (events-flat n g) (all-sized (events_of n g) (events-kept n g fits))

pub planar_read : (n : ℕ) (g : Geometry n) → Fits n g → map read (planar_events n g) ≡ events_of n g
planar_read n g fits = ap (λ (es : List Flat). map read es) (sym (events-flat n g)) ∙ all_back (events_of n g) (events-kept n g fits)
