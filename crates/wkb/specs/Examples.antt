-- Well-known binary, byte by byte.
use Rattle.std.specs.Prelude.{◌≡◌, refl, [], ◌∷◌}
use Rattle.planar.specs.Geometry.{Coord, point, line_string, polygon, multi_point, multi_line_string, collection}
use Rattle.wkb.specs.Wkb.{wkb, little_bytes}
use Rattle.wkb.specs.declared.order.Order.TheVariants.{Big, Little}

-- 1.0 and 2.0 as doubles
abbrev here : Coord
here = record { x = 4607182418800017408; y = 4611686018427387904 }

-- POINT(1 2)
pub point-little : little_bytes 0 (point here) ≡ 1 ∷ 1 ∷ 0 ∷ 0 ∷ 0 ∷ 0 ∷ 0 ∷ 0 ∷ 0 ∷ 0 ∷ 0 ∷ 240 ∷ 63 ∷ 0 ∷ 0 ∷ 0 ∷ 0 ∷ 0 ∷ 0 ∷ 0 ∷ 64 ∷ []
unfolding little_bytes
point-little = refl

pub point_big : wkb 0 (point here) Big [] ≡ 0 ∷ 0 ∷ 0 ∷ 0 ∷ 1 ∷ 63 ∷ 240 ∷ 0 ∷ 0 ∷ 0 ∷ 0 ∷ 0 ∷ 0 ∷ 64 ∷ 0 ∷ 0 ∷ 0 ∷ 0 ∷ 0 ∷ 0 ∷ 0 ∷ []
point_big = refl

-- a Polygon without rings: no more than a count of 0
pub no_rings : little_bytes 0 (polygon []) ≡ 1 ∷ 3 ∷ 0 ∷ 0 ∷ 0 ∷ 0 ∷ 0 ∷ 0 ∷ 0 ∷ []
unfolding little_bytes
no_rings = refl

-- a ring has a count and no head
pub empty-ring : little_bytes 0 (polygon ([] ∷ [])) ≡ 1 ∷ 3 ∷ 0 ∷ 0 ∷ 0 ∷ 1 ∷ 0 ∷ 0 ∷ 0 ∷ 0 ∷ 0 ∷ 0 ∷ 0 ∷ []
unfolding little_bytes
empty-ring = refl

-- a member has an order of its own: a big-endian collection of a little-endian line and a big-endian MultiPoint, both empty
pub both_orders : wkb 1 (collection (line_string [] ∷ multi_point [] ∷ [])) (Big, (Little, ((Big, tt), tt))) []
    ≡ 0 ∷ 0 ∷ 0 ∷ 0 ∷ 7 ∷ 0 ∷ 0 ∷ 0 ∷ 2 ∷ 1 ∷ 2 ∷ 0 ∷ 0 ∷ 0 ∷ 0 ∷ 0 ∷ 0 ∷ 0 ∷ 0 ∷ 0 ∷ 0 ∷ 0 ∷ 4 ∷ 0 ∷ 0 ∷ 0 ∷ 0 ∷ []
both_orders = refl

-- a member of a Multi has a head of its own: MULTIPOINT((1 2)), big-endian with a little-endian member
pub point-member : wkb 0 (multi_point (here ∷ [])) (Big, (Little, tt)) []
    ≡ 0 ∷ 0 ∷ 0 ∷ 0 ∷ 4 ∷ 0 ∷ 0 ∷ 0 ∷ 1 ∷ 1 ∷ 1 ∷ 0 ∷ 0 ∷ 0 ∷ 0 ∷ 0 ∷ 0 ∷ 0 ∷ 0 ∷ 0 ∷ 240 ∷ 63 ∷ 0 ∷ 0 ∷ 0 ∷ 0 ∷ 0 ∷ 0 ∷ 0 ∷ 64 ∷ []
point-member = refl

-- and so has a line of a MultiLineString, whose pairs have none: MULTILINESTRING((1 2))
pub line-member : wkb 0 (multi_line_string ((here ∷ []) ∷ [])) (Little, (Big, tt)) []
    ≡ 1 ∷ 5 ∷ 0 ∷ 0 ∷ 0 ∷ 1 ∷ 0 ∷ 0 ∷ 0 ∷ 0 ∷ 0 ∷ 0 ∷ 0 ∷ 2 ∷ 0 ∷ 0 ∷ 0 ∷ 1 ∷ 63 ∷ 240 ∷ 0 ∷ 0 ∷ 0 ∷ 0 ∷ 0 ∷ 0 ∷ 64 ∷ 0 ∷ 0 ∷ 0 ∷ 0 ∷ 0 ∷ 0 ∷ 0 ∷ []
line-member = refl
