-- A geometry's events are those that `geometries` tells of it.
use Rattle.kinds.specs.declared.event.Event.{Event as Flat}
use Rattle.std.specs.Prelude.{◌≡◌, refl, Bool, true, false, List, [], ◌∷◌, map, ℕ, zero, suc, ◌+◌, length}
use Rattle.std.proofs.Common.{sym, ap, ◌∙◌}
use Rattle.std.proofs.lemmas.List.{length-map}
use Rattle.kinds.specs.Event.{begin_e, end_e}
use Rattle.geometries.specs.Events as Told
use Rattle.planar.specs.Geometry.{point, line_string, polygon, multi_point, multi_line_string, multi_polygon, simple, collection, Geometry}
use Rattle.planar.specs.Within.{coord_in, line_in, rings_in, simple_in, geometry_in, plain, planar_events}
use Rattle.nesting.specs.declared.geometry_type.GeometryType.{GeometryType}
use Rattle.nesting.specs.declared.geometry_type.GeometryType.TheVariants.{LineString, Polygon, MultiPoint, MultiLineString, MultiPolygon, Collection}
use Rattle.nesting.specs.Events.{Event, end, Tells, each, group, coord_of, line_of, rings_of, simple_of, geometry_of, events_of}
use Rattle.nesting.specs.Machine.{number}
use Rattle.nesting.specs.Flat.{flat}

abbrev Same : {A B : Type 0} → (A → B) → Tells A → Told.Tells B → Type 0
Same {A} {B} q f g = (a : A) (i : ℕ) (k : List Event) → map flat (f a i k) ≡ g (q a) i (map flat k)

each-flat : {A B : Type 0} (q : A → B) (f : Tells A) (g : Told.Tells B) → Same q f g → Same (map q) (each f) (Told.each g)
each-flat q f g h [] i k = refl
each-flat q f g h (a ∷ xs) i k = h a i (each f xs (i + 1) k) ∙ ap (g (q a) i) (each-flat q f g h xs (i + 1) k)

group-flat : {A B : Type 0} (q : A → B) (type : GeometryType) (tagged : Bool) (f : Tells A) (g : Told.Tells B) → Same q f g → Same (map q) (group type tagged f) (Told.group (number type) tagged g)
group-flat q type tagged f g h xs i k =
    ap (λ (l : List Flat). begin_e (number type) tagged (length xs) i ∷ l) (each-flat q f g h xs 0 (end type tagged i ∷ k))
    ∙ ap (λ (n : ℕ). begin_e (number type) tagged n i ∷ Told.each g (map q xs) 0 (end_e (number type) tagged i ∷ map flat k)) (sym (length-map xs q))

coord_flat : Same coord_in coord_of (Told.coord_of plain)
coord_flat c i k = refl

line-flat : Same line_in line_of (Told.line_of plain)
line-flat = group-flat coord_in LineString false coord_of (Told.coord_of plain) coord_flat

rings_flat : Same rings_in rings_of (Told.group 3 false (Told.line_of plain))
rings_flat = group-flat line_in Polygon false line_of (Told.line_of plain) line-flat

simple_flat : Same simple_in simple_of (Told.simple_of plain)
simple_flat (point c) i k = refl
simple_flat (line_string l) i k = group-flat coord_in LineString true coord_of (Told.coord_of plain) coord_flat l i k
simple_flat (polygon rs) i k = group-flat line_in Polygon true line_of (Told.line_of plain) line-flat rs i k
simple_flat (multi_point cs) i k = group-flat coord_in MultiPoint false coord_of (Told.coord_of plain) coord_flat cs i k
simple_flat (multi_line_string ls) i k = group-flat line_in MultiLineString false line_of (Told.line_of plain) line-flat ls i k
simple_flat (multi_polygon ps) i k = group-flat rings_in MultiPolygon false rings_of (Told.group 3 false (Told.line_of plain)) rings_flat ps i k

geometry_flat : (n : ℕ) → Same (geometry_in n) (geometry_of n) (Told.geometry_of plain n)
geometry_flat zero s i k = simple_flat s i k
geometry_flat (suc n) (simple s) i k = simple_flat s i k
geometry_flat (suc n) (collection gs) i k = group-flat (geometry_in n) Collection false (geometry_of n) (Told.geometry_of plain n) (geometry_flat n) gs i k

pub events-flat : (n : ℕ) (g : Geometry n) → map flat (events_of n g) ≡ planar_events n g
unfolding planar_events Told.events_of
events-flat n g = geometry_flat n g 0 []
