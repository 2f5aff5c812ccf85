use Rattle.std.proofs.Common.{refl}
use Rattle.coords.specs.Views.{coords_in}
use Rattle.coords.specs.CoordLaws.{answered, between_is}
use Rattle.lines.specs.Lines.{point_s}
use Rattle.own_lists.specs.Own.{own_s}
use Rattle.own_lists.proofs.own.read_lists.Goals as goal

pub read_window-requires : goal.read_window-requires
read_window-requires c = c.between.ensures.within 131072 c.args.lists.now.few_words

pub returns-in-Point : goal.returns-in-Point
unfolding own_s point_s
returns-in-Point c = rw (c.in-Point.is, between_is (coords_in c.args.lists.now) refl c.between.ensures) (answered (rw c.number.ensures.is at c.read_window.ensures))

pub returns-in-LineString : goal.returns-in-LineString
unfolding own_s
returns-in-LineString c = rw c.in-LineString.is (rw c.number-in-LineString.ensures.is at c.read_line.ensures)

pub returns-in-MultiPoint : goal.returns-in-MultiPoint
unfolding own_s
returns-in-MultiPoint c = rw c.in-MultiPoint.is (rw c.number-in-MultiPoint.ensures.is at c.read_line-in-MultiPoint.ensures)

pub returns-in-CircularString : goal.returns-in-CircularString
unfolding own_s
returns-in-CircularString c = rw c.in-CircularString.is (rw c.number-in-CircularString.ensures.is at c.read_line-in-CircularString.ensures)

pub returns-in-Polygon : goal.returns-in-Polygon
unfolding own_s
returns-in-Polygon c = rw c.in-Polygon.is (rw c.number-in-Polygon.ensures.is at c.read_stretches.ensures)

pub returns-in-MultiLineString : goal.returns-in-MultiLineString
unfolding own_s
returns-in-MultiLineString c = rw c.in-MultiLineString.is c.read_multilinestring.ensures

pub returns-in-Tin : goal.returns-in-Tin
unfolding own_s
returns-in-Tin c = rw c.in-Tin.is c.read_tin.ensures

pub returns-in-Triangle : goal.returns-in-Triangle
unfolding own_s
returns-in-Triangle c = rw c.in-Triangle.is c.read_triangle.ensures
