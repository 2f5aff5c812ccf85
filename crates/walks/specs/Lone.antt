-- A part that is read as a polygon, where its record has an xy list and no other and no flag is set.
use Rattle.std.specs.Prelude.{◌≡◌, Some, None, false, List, ℕ}
use Rattle.kinds.specs.declared.flags.Flags.{Flags}
use Rattle.kinds.specs.Geometry.{Span}
use Rattle.geometries.specs.Coordinate.{multi}
use Rattle.store.specs.Lone.{LoneList, LoneAt}
use Rattle.walks.specs.declared.walk.Role.{Role}
use Rattle.walks.specs.declared.walk.Role.TheVariants.{Polygon as AsPolygon}

-- a list is told of a part that is read as a polygon, under no flag, whose record has that list and no other; of any other part nothing is told
abbrev pub LonePart : Flags → Role → List ℕ → ℕ → ℕ → Span → Type 0
LonePart F role table lent n (Some s) = (role ≡ AsPolygon) × (multi F ≡ false) × LoneList table lent n s.start s.count
LonePart F role table lent n None = Unit

pub plain_part : (F : Flags) (role : Role) (table : List ℕ) (lent n : ℕ) (part : Span) → role ≡ AsPolygon → multi F ≡ false → LoneAt table lent n part → LonePart F role table lent n part
plain_part F role table lent n (Some s) polygon plain h = (polygon, plain, h)
plain_part F role table lent n None polygon plain h = tt
