-- What is written of some lists of events, by the definitions alone.
use Rattle.std.specs.Prelude.{◌≡◌, refl, true, false, List, [], ◌∷◌, ◌++◌, ℕ, zero, suc}
use Rattle.std.proofs.Math.Option.{some}
use Rattle.laws.specs.Cut.{bytes_of}
use Rattle.kinds.specs.Event.{begin_e, end_e, xy_e, coordinate_e, well_formed}
use Rattle.kinds.specs.declared.event.Event.{Event}
use Rattle.event_layout.specs.Event.{event_bytes, event_of, feature_of, spare_zero, read_event}
use Rattle.event_log.specs.Log.{events, heard, feature_in}
use Rattle.wkb_written.specs.Spelling.{spelled}
use Rattle.wkb_written.specs.Writing.{listed, alike, nested, Written, refused_with, written_of, writing}

-- of one feature, with all records well-formed
abbrev written : ℕ → List Event → Written
written room es = written_of (some es) true room

abbrev done : List ℕ → Written
done bytes = record { number = 0; bytes = bytes }

-- 1.0 and 2.0
abbrev here : ℕ → Event
here idx = xy_e 4607182418800017408 4611686018427387904 idx

abbrev point_bytes : List ℕ
point_bytes = 1 ∷ 1 ∷ 0 ∷ 0 ∷ 0 ∷ 0 ∷ 0 ∷ 0 ∷ 0 ∷ 0 ∷ 0 ∷ 240 ∷ 63 ∷ 0 ∷ 0 ∷ 0 ∷ 0 ∷ 0 ∷ 0 ∷ 0 ∷ 64 ∷ []

abbrev point_events : List Event
point_events = begin_e 1 false 0 0 ∷ here 0 ∷ end_e 1 false 0 ∷ []

-- POINT(1 2), into as many bytes as it has and into one less
pub point-written : written 21 point_events ≡ done point_bytes
unfolding written_of nested spelled begin_e end_e xy_e
point-written = refl

pub one_short : written 20 point_events ≡ refused_with 12
unfolding written_of nested spelled begin_e end_e xy_e
one_short = refl

-- its records
pub point-records : writing (bytes_of (events 7) point_events) 21 ≡ done point_bytes
unfolding writing listed alike heard feature_in events bytes_of event_bytes event_of feature_of spare_zero read_event well_formed written_of nested spelled begin_e end_e xy_e
point-records = refl

-- 11: a rest under one record, and a record of a kind that is none, before whatever else is wrong
pub rest-left : writing (7 ∷ []) 21 ≡ refused_with 11
unfolding writing listed heard read_event written_of
rest-left = refl

pub no_such_kind : writing (bytes_of (events 7) (end_e 1 false 0 ∷ begin_e 200 false 0 0 ∷ [])) 21 ≡ refused_with 11
unfolding writing listed heard events bytes_of event_bytes event_of spare_zero read_event well_formed written_of begin_e end_e
no_such_kind = refl

-- a Polygon without rings
pub no_rings : written 9 (begin_e 3 true 0 0 ∷ end_e 3 true 0 ∷ []) ≡ done (1 ∷ 3 ∷ 0 ∷ 0 ∷ 0 ∷ 0 ∷ 0 ∷ 0 ∷ 0 ∷ [])
unfolding written_of nested spelled begin_e end_e
no_rings = refl

-- a ring inside a Polygon has no head, a line inside a MultiLineString has one, and so has a pair inside a MultiPoint
pub ring_no_head : written 13 (begin_e 3 true 1 0 ∷ begin_e 2 false 0 0 ∷ end_e 2 false 0 ∷ end_e 3 true 0 ∷ []) ≡ done (1 ∷ 3 ∷ 0 ∷ 0 ∷ 0 ∷ 1 ∷ 0 ∷ 0 ∷ 0 ∷ 0 ∷ 0 ∷ 0 ∷ 0 ∷ [])
unfolding written_of nested spelled begin_e end_e
ring_no_head = refl

pub line-head : written 18 (begin_e 5 false 1 0 ∷ begin_e 2 false 0 0 ∷ end_e 2 false 0 ∷ end_e 5 false 0 ∷ []) ≡ done (1 ∷ 5 ∷ 0 ∷ 0 ∷ 0 ∷ 1 ∷ 0 ∷ 0 ∷ 0 ∷ 1 ∷ 2 ∷ 0 ∷ 0 ∷ 0 ∷ 0 ∷ 0 ∷ 0 ∷ 0 ∷ [])
unfolding written_of nested spelled begin_e end_e
line-head = refl

pub pair-head : written 30 (begin_e 4 false 1 0 ∷ here 0 ∷ end_e 4 false 0 ∷ []) ≡ done (1 ∷ 4 ∷ 0 ∷ 0 ∷ 0 ∷ 1 ∷ 0 ∷ 0 ∷ 0 ∷ point_bytes)
unfolding written_of nested spelled begin_e end_e xy_e
pair-head = refl

-- a Polygon and then a MultiLineString in a collection: its line is no ring
pub line_behind_ring : written 45 (begin_e 7 false 2 0 ∷ begin_e 3 true 1 0 ∷ begin_e 2 false 0 0 ∷ end_e 2 false 0 ∷ end_e 3 true 0 ∷ begin_e 5 false 1 1 ∷ begin_e 2 false 0 0 ∷ end_e 2 false 0 ∷ end_e 5 false 1 ∷ end_e 7 false 0 ∷ [])
    ≡ done (1 ∷ 7 ∷ 0 ∷ 0 ∷ 0 ∷ 2 ∷ 0 ∷ 0 ∷ 0 ∷ 1 ∷ 3 ∷ 0 ∷ 0 ∷ 0 ∷ 1 ∷ 0 ∷ 0 ∷ 0 ∷ 0 ∷ 0 ∷ 0 ∷ 0 ∷ 1 ∷ 5 ∷ 0 ∷ 0 ∷ 0 ∷ 1 ∷ 0 ∷ 0 ∷ 0 ∷ 1 ∷ 2 ∷ 0 ∷ 0 ∷ 0 ∷ 0 ∷ 0 ∷ 0 ∷ 0 ∷ [])
unfolding written_of nested spelled begin_e end_e
line_behind_ring = refl

-- ---- 21: no events, an index from one, a missing end, two geometries, a kind 65, two features
pub no_events : (room : ℕ) → writing [] room ≡ refused_with 21
unfolding writing listed alike written_of nested
no_events room = refl

pub index_from_one : written 21 (begin_e 1 false 0 0 ∷ here 1 ∷ end_e 1 false 0 ∷ []) ≡ refused_with 21
unfolding written_of nested begin_e end_e xy_e
index_from_one = refl

pub no_end : written 21 (begin_e 1 false 0 0 ∷ here 0 ∷ []) ≡ refused_with 21
unfolding written_of nested begin_e xy_e
no_end = refl

pub two_geometries : written 18 (begin_e 3 true 0 0 ∷ end_e 3 true 0 ∷ begin_e 3 true 0 0 ∷ end_e 3 true 0 ∷ []) ≡ refused_with 21
unfolding written_of nested begin_e end_e
two_geometries = refl

pub with_height : written 21 (begin_e 1 false 0 0 ∷ coordinate_e 1 2 1 3 0 0 0 0 ∷ end_e 1 false 0 ∷ []) ≡ refused_with 21
unfolding written_of nested begin_e end_e coordinate_e
with_height = refl

pub two_features : writing (bytes_of (events 7) (begin_e 3 true 0 0 ∷ []) ++ bytes_of (events 8) (end_e 3 true 0 ∷ [])) 9 ≡ refused_with 21
unfolding writing listed alike heard feature_in events bytes_of event_bytes event_of feature_of spare_zero read_event well_formed written_of begin_e end_e
two_features = refl

-- ---- 13: collections of one member, each in the one before, the innermost without members
abbrev around : ℕ → List Event → List Event → List Event
around zero es k = es ++ k
around (suc n) es k = begin_e 7 false 1 0 ∷ around n es (end_e 7 false 0 ∷ k)

abbrev empty_collection : ℕ → List Event
empty_collection idx = begin_e 7 false 0 idx ∷ end_e 7 false idx ∷ []

pub sixteen-levels : (written 144 (around 15 (empty_collection 0) [])).number ≡ 0
unfolding written_of nested spelled begin_e end_e
sixteen-levels = refl

pub seventeen_levels : written 153 (around 16 (empty_collection 0) []) ≡ refused_with 13
unfolding written_of nested begin_e end_e
seventeen_levels = refl

-- before the room is asked for, and behind whatever is wrong at any depth
pub level_before_room : written 0 (around 16 (empty_collection 0) []) ≡ refused_with 13
unfolding written_of nested begin_e end_e
level_before_room = refl

pub wrong_at_any_depth : written 153 (around 16 (empty_collection 1) []) ≡ refused_with 21
unfolding written_of nested begin_e end_e
wrong_at_any_depth = refl

-- twenty collections are 13; the same with a wrong index at level 19, or with one end missing, are 21
pub twenty_levels : written 180 (around 19 (empty_collection 0) []) ≡ refused_with 13
unfolding written_of nested begin_e end_e
twenty_levels = refl

pub wrong_at_nineteen : written 180 (around 18 (begin_e 7 false 1 1 ∷ empty_collection 0 ++ end_e 7 false 1 ∷ []) []) ≡ refused_with 21
unfolding written_of nested begin_e end_e
wrong_at_nineteen = refl

pub one_end_missing : written 180 (around 19 (begin_e 7 false 0 0 ∷ []) []) ≡ refused_with 21
unfolding written_of nested begin_e end_e
one_end_missing = refl
