-- SPEC 8.1 to 8.3: a box's four edges, and what moves them.
use Rattle.std.specs.Prelude.{Bool, cond, true, false, List, [], ◌∷◌, ℕ, Float}
use Rattle.std.specs.Float.{inf, binary64}
use Rattle.std.specs.Float.Ieee.{of_bits, to_bits, lt}
use Rattle.bbox.specs.declared.Box.{Box}

pub data Side : Type 0 where
  least greatest : Side

-- whether a value is strictly beyond an edge, compared as doubles: a NaN is beyond none
abbrev pub beyond : Side → Float → Float → Bool
beyond least value edge = lt value edge
beyond greatest value edge = lt edge value

-- an edge after a value: replaced only when the value is strictly beyond it
abbrev pub moved : Side → Float → Float → Float
moved side edge value = cond (beyond side value edge) value edge

-- plus infinity twice, minus infinity twice
unfoldable pub beginning : Box
beginning = record { least_x = inf false; least_y = inf false; greatest_x = inf true; greatest_y = inf true }

-- the double that a word is the pattern of
abbrev pub double : ℕ → Float
double word = of_bits binary64 word

-- the box after a pair
unfoldable pub widen : Box → ℕ → ℕ → Box
widen b x y =
    record {
      least_x = moved least b.least_x (double x);
      least_y = moved least b.least_y (double y);
      greatest_x = moved greatest b.greatest_x (double x);
      greatest_y = moved greatest b.greatest_y (double y);
    }

-- the box after a list's pairs, an odd last word not taken
unfoldable pub box_from : Box → List ℕ → Box
box_from b [] = b
box_from b (x ∷ []) = b
box_from b (x ∷ y ∷ words) = box_from (widen b x y) words

-- an edge as a bit pattern
abbrev pub bits_of : Float → ℕ
bits_of edge = to_bits binary64 edge
