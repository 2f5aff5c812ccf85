-- What is read of some bytes, by the definitions alone.
use Rattle.std.specs.Prelude.{◌≡◌, refl, true, false, List, [], ◌∷◌, ℕ, zero, suc, length}
use Rattle.laws.specs.Script.{stop, say}
use Rattle.laws.specs.Cut.{records_of, number_of}
use Rattle.kinds.specs.Event.{begin_e, end_e, xy_e}
use Rattle.wkb_reader.specs.Reading.{field, several, pair_r, group_r, line_r, polygon_r, point_r, type_r, head_r, part_r, member_r, multi_r, simple_r, geometry_r, reading_r}

-- POINT(1 2), little-endian
pub point-read : reading_r (1 ∷ 1 ∷ 0 ∷ 0 ∷ 0 ∷ 0 ∷ 0 ∷ 0 ∷ 0 ∷ 0 ∷ 0 ∷ 240 ∷ 63 ∷ 0 ∷ 0 ∷ 0 ∷ 0 ∷ 0 ∷ 0 ∷ 0 ∷ 64 ∷ []) ≡ say (begin_e 1 false 0 0) (say (xy_e 4607182418800017408 4611686018427387904 0) (say (end_e 1 false 0) (stop 0)))
unfolding reading_r geometry_r head_r type_r field simple_r point_r pair_r
point-read = refl

-- a big-endian MultiPoint whose point is little-endian: a member goes by its own mark
pub own_order : reading_r (0 ∷ 0 ∷ 0 ∷ 0 ∷ 4 ∷ 0 ∷ 0 ∷ 0 ∷ 1 ∷ 1 ∷ 1 ∷ 0 ∷ 0 ∷ 0 ∷ 0 ∷ 0 ∷ 0 ∷ 0 ∷ 0 ∷ 0 ∷ 240 ∷ 63 ∷ 0 ∷ 0 ∷ 0 ∷ 0 ∷ 0 ∷ 0 ∷ 0 ∷ 64 ∷ []) ≡ say (begin_e 4 false 1 0) (say (xy_e 4607182418800017408 4611686018427387904 0) (say (end_e 4 false 0) (stop 0)))
unfolding reading_r geometry_r head_r type_r field simple_r multi_r group_r several member_r part_r pair_r
own_order = refl

-- a Polygon without rings
pub no_rings : reading_r (1 ∷ 3 ∷ 0 ∷ 0 ∷ 0 ∷ 0 ∷ 0 ∷ 0 ∷ 0 ∷ []) ≡ say (begin_e 3 true 0 0) (say (end_e 3 true 0) (stop 0))
unfolding reading_r geometry_r head_r type_r field simple_r polygon_r group_r several
no_rings = refl

-- there is no byte at all
pub no_bytes : reading_r [] ≡ stop 18
unfolding reading_r geometry_r head_r type_r field
no_bytes = refl

-- type 8 is none of the seven
pub type_eight : reading_r (1 ∷ 8 ∷ 0 ∷ 0 ∷ 0 ∷ []) ≡ stop 19
unfolding reading_r geometry_r head_r type_r field
type_eight = refl

-- an order mark is 0 or 1, and is judged before the type is there
pub mark-two : reading_r (2 ∷ []) ≡ stop 19
unfolding reading_r geometry_r head_r type_r field
mark-two = refl

-- a LineString's head without its count: its begin would have the count
pub no_count : reading_r (1 ∷ 2 ∷ 0 ∷ 0 ∷ 0 ∷ []) ≡ stop 18
unfolding reading_r geometry_r head_r type_r field simple_r line_r group_r
no_count = refl

-- a Point's head alone: its begin is said before its pair is read
pub no_pair_lem : reading_r (1 ∷ 1 ∷ 0 ∷ 0 ∷ 0 ∷ []) ≡ say (begin_e 1 false 0 0) (stop 18)
unfolding reading_r geometry_r head_r type_r field simple_r point_r pair_r
no_pair_lem = refl

-- a MultiLineString with a Polygon
pub other-member : reading_r (1 ∷ 5 ∷ 0 ∷ 0 ∷ 0 ∷ 1 ∷ 0 ∷ 0 ∷ 0 ∷ 1 ∷ 3 ∷ 0 ∷ 0 ∷ 0 ∷ 0 ∷ 0 ∷ 0 ∷ 0 ∷ []) ≡ say (begin_e 5 false 1 0) (stop 19)
unfolding reading_r geometry_r head_r type_r field simple_r multi_r group_r several member_r part_r
other-member = refl

-- and with three of the four bytes of its type
pub cut-member : reading_r (1 ∷ 5 ∷ 0 ∷ 0 ∷ 0 ∷ 1 ∷ 0 ∷ 0 ∷ 0 ∷ 1 ∷ 3 ∷ 0 ∷ 0 ∷ []) ≡ say (begin_e 5 false 1 0) (stop 18)
unfolding reading_r geometry_r head_r type_r field simple_r multi_r group_r several member_r part_r
cut-member = refl

-- an empty collection and a byte more
pub byte_more : reading_r (1 ∷ 7 ∷ 0 ∷ 0 ∷ 0 ∷ 0 ∷ 0 ∷ 0 ∷ 0 ∷ 0 ∷ []) ≡ say (begin_e 7 false 0 0) (say (end_e 7 false 0) (stop 20))
unfolding reading_r geometry_r head_r type_r field group_r several
byte_more = refl

-- collections of one member, each in the one before
abbrev nested : ℕ → List ℕ → List ℕ
nested zero l = l
nested (suc n) l = 1 ∷ 7 ∷ 0 ∷ 0 ∷ 0 ∷ 1 ∷ 0 ∷ 0 ∷ 0 ∷ nested n l

abbrev empty_collection : List ℕ
empty_collection = 1 ∷ 7 ∷ 0 ∷ 0 ∷ 0 ∷ 0 ∷ 0 ∷ 0 ∷ 0 ∷ []

-- 16 levels are read; of 17 the 16 begins are said, and then the type of the innermost is judged before its level
pub sixteen-levels : number_of (reading_r (nested 15 empty_collection)) ≡ 0
unfolding reading_r geometry_r head_r type_r field group_r several number_of
sixteen-levels = refl

pub seventeen_levels : number_of (reading_r (nested 16 empty_collection)) ≡ 13
unfolding reading_r geometry_r head_r type_r field group_r several number_of
seventeen_levels = refl

pub sixteen-said : length (records_of (reading_r (nested 16 empty_collection))) ≡ 16
unfolding reading_r geometry_r head_r type_r field group_r several records_of
sixteen-said = refl

pub type_before_level : number_of (reading_r (nested 16 (1 ∷ 8 ∷ 0 ∷ 0 ∷ 0 ∷ []))) ≡ 19
unfolding reading_r geometry_r head_r type_r field group_r several number_of
type_before_level = refl
