-- A record's own lists, lent from the pools, and the walks over them by name.
use Rattle.std.specs.Prelude.{Some, None, Bool, true, false, List, ℕ, take, drop}
use Rattle.std.proofs.Math.Option.{Option, none, some}
use Rattle.laws.specs.Script.{Script}
use Rattle.kinds.specs.Geometry.{Span}
use Rattle.kinds.specs.Lanes.{Lane, usable, span_in, lent_in}
use Rattle.kinds.specs.declared.event.Event.{Event}
use Rattle.kinds.specs.declared.geometry.Geometry.{Geometry}
use Rattle.store.specs.Lists.{Pools, lent_of}
use Rattle.store.specs.RecordLaws.{InPool}
use Rattle.own_lists.specs.declared.own.Own.{Own}
use Rattle.own_lists.specs.declared.own.Own.TheVariants.{Point, LineString, MultiPoint, CircularString, Polygon, MultiLineString, Tin, Triangle}
use Rattle.coords.specs.Coords.{Coords}
use Rattle.lines.specs.Lines.{flat_s, stretches_s, multi_line_s, triangle_s, tin_s, point_s}

unfoldable pub own_s : Own → Coords → List ℕ → ℕ → Script Event
own_s Point C ends idx = point_s C idx
own_s (LineString tagged) C ends idx = flat_s C 2 tagged idx
own_s MultiPoint C ends idx = flat_s C 4 false idx
own_s CircularString C ends idx = flat_s C 8 false idx
own_s (Polygon tagged) C ends idx = stretches_s 3 tagged idx C ends
own_s MultiLineString C ends idx = multi_line_s C ends idx
own_s Tin C ends idx = tin_s C ends idx
own_s Triangle C ends idx = triangle_s C ends true idx

-- every list of a record lies within its pool
abbrev pub InPools : Pools → Geometry → Type 0
InPools P g = (k : Lane) → InPool (span_in g k) (lent_in (lent_of P) k) (usable k)

-- a list of a pool, if it is there
abbrev pub list_at : {A : Type 0} → List A → Span → Option (List A)
list_at pool None = none
list_at pool (Some s) = some (take s.count (drop s.start pool))

-- where a list stands, if the flag lets it be seen
abbrev pub seen_list : Bool → Span → Span
seen_list true place = place
seen_list false place = None
