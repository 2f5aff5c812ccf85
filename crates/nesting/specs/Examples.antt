-- Geometries, their events, and the machine's answers to some rows of events, computed.
use Rattle.std.specs.Prelude.{◌≡◌, refl, true, false, List, [], ◌∷◌, map, ℕ, zero, suc, ◌<◌, ◌≤◌, length}
use Rattle.std.proofs.Common.{sym, ap, arith}
use Rattle.laws.specs.Every.{never}
use Rattle.kinds.specs.Event.{begin_e, end_e, xy_e}
use Rattle.planar.specs.Geometry.{Coord, point, polygon, multi_polygon, simple, collection, Geometry}
use Rattle.nesting.specs.declared.geometry_type.GeometryType.TheVariants.{LineString, Polygon, MultiPoint, MultiPolygon, Collection}
use Rattle.nesting.specs.Events.{Event, begin, end, pair, events_of}
use Rattle.nesting.specs.Rules.{Rules, limit, SimpleRule, GeometryRule}
use Rattle.nesting.specs.Machine.{frame, within, outside, start, closed, Answer, taken, refused, run}
use Rattle.nesting.specs.Flat.{read}
use Rattle.planar.specs.Levels.{levels}
use Rattle.nesting.specs.Levels.{any_depth, sixteen}

abbrev at : ℕ → ℕ → Coord
at x y = record { x = x; y = y }

-- a Polygon, a MultiPolygon and an empty collection in a collection
abbrev field : Geometry 2
field = collection (simple (polygon ((at 1 2 ∷ []) ∷ [])) ∷ simple (multi_polygon (([] ∷ []) ∷ [])) ∷ collection [] ∷ [])

field-events : events_of 2 field ≡
    begin Collection false 3 0
    ∷ begin Polygon true 1 0 ∷ begin LineString false 1 0 ∷ pair 1 2 0 ∷ end LineString false 0 ∷ end Polygon true 0
    ∷ begin MultiPolygon false 1 1 ∷ begin Polygon false 1 0 ∷ begin LineString false 0 0 ∷ end LineString false 0 ∷ end Polygon false 0 ∷ end MultiPolygon false 1
    ∷ begin Collection false 0 2 ∷ end Collection false 2
    ∷ end Collection false 0 ∷ []
field-events = refl

any_size : (n : ℕ) → n < limit → (true ≡ false → 1 ≤ n) × (n < limit)
any_size n h = (λ e. absurd (never (sym e)), h)

field_rule : GeometryRule any_depth 2 1 field
field_rule =
    let none = any_size 0 (omega arith) in
    let single = any_size 1 (omega arith) in
    let a_polygon : SimpleRule any_depth 2 (polygon ((at 1 2 ∷ []) ∷ [])) = (single, ((single, ((omega arith, omega arith), tt)), tt)) in
    let polygons : SimpleRule any_depth 2 (multi_polygon (([] ∷ []) ∷ [])) = (single, λ opened some. refl, ((single, ((none, tt), tt)), tt)) in
    (any_size 3 (omega arith), λ opened some. refl, (a_polygon, (polygons, ((none, λ opened some. refl, tt), tt))))

field-taken : run any_depth (events_of 2 field) start ≡ taken closed
field-taken = refl

-- a member of a MultiPolygon is one level deeper, its rings are not
field-levels : levels 2 field ≡ 3
field-levels = refl

-- a Point, over the events of `kinds`
flat-point : run any_depth (map read (begin_e 1 false 0 0 ∷ xy_e 1 2 0 ∷ end_e 1 false 0 ∷ [])) start ≡ taken closed
unfolding begin_e end_e xy_e
flat-point = refl

-- ---- n collections of one, each in the one before, and a point in the last
abbrev nested : (n : ℕ) → Geometry n
nested zero = point (at 1 2)
nested (suc n) = collection (nested n ∷ [])

twenty_any : run any_depth (events_of 20 (nested 20)) start ≡ taken closed
twenty_any = refl

twenty_sixteen : run sixteen (events_of 20 (nested 20)) start ≡ refused 13
twenty_sixteen = refl

-- sixteen levels are taken, seventeen are not
fifteen_nested : run sixteen (events_of 15 (nested 15)) start ≡ taken closed
fifteen_nested = refl

sixteen-nested : run sixteen (events_of 16 (nested 16)) start ≡ refused 13
sixteen-nested = refl

-- a geometry at the sixteenth level may be empty; and 13 is due before 21, where its index is wrong too
abbrev inside : ℕ → List Event → List Event
inside zero es = es
inside (suc n) es = begin Collection false 1 0 ∷ inside n es

around : Answer → ℕ
around (taken (within f fs)) = length fs
around (refused n) = 0

empty_sixteenth : around (run sixteen (inside 15 (begin MultiPoint false 0 0 ∷ [])) start) ≡ 16
unfolding around
empty_sixteenth = refl

deep_and_wrong : run sixteen (inside 15 (begin MultiPoint false 1 7 ∷ [])) start ≡ refused 13
deep_and_wrong = refl

-- ---- 21
wrong_index : run any_depth (begin LineString true 1 0 ∷ pair 1 2 1 ∷ []) start ≡ refused 21
wrong_index = refl

-- what is not ended is not closed
not_ended : run any_depth (begin MultiPoint false 0 0 ∷ []) start ≡ taken (within (frame MultiPoint false 0 0 0) (outside 0 ∷ []))
not_ended = refl

not-closed : run any_depth (begin MultiPoint false 0 0 ∷ []) start ≡ taken closed → ⊥
unfolding around
not-closed e = let one-open : ◌≡◌ {A = ℕ} 1 0 = ap around e in omega arith

-- an empty polygon, where types may be empty and where they may not
abbrev filled : Rules
filled = record { may_be_empty = λ type. false; opens = λ type. false; too_deep = λ level. false }

empty-taken : run any_depth (events_of 0 (polygon [])) start ≡ taken closed
empty-taken = refl

empty_refused : run filled (events_of 0 (polygon [])) start ≡ refused 21
empty_refused = refl
