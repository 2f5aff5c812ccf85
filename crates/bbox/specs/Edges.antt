-- A box as words.
use Rattle.std.specs.Prelude.{List, [], ◌∷◌, ℕ}
use Rattle.bbox.specs.declared.Box.{Box}
use Rattle.bbox.specs.Box.{bits_of}

-- the bit patterns of least x, least y, greatest x and greatest y
unfoldable pub edges_of : Box → List ℕ
edges_of b = bits_of b.least_x ∷ bits_of b.least_y ∷ bits_of b.greatest_x ∷ bits_of b.greatest_y ∷ []
