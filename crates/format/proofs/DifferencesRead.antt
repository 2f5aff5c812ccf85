-- Where the reader and the format part: trees that are read though they mean nothing, and trees that mean something and are refused. Each is the smallest, computed.
use Rattle.std.specs.Prelude.{refl, [], ◌∷◌}
use Rattle.std.proofs.Math.Option.{some}
use Rattle.std.proofs.Common.{arith}
use Rattle.std.proofs.Math.ListN.{get_elem?}
use Rattle.store.specs.Lists.{Rec}
use Rattle.geometries.specs.Geometry.{Simple, polygon, multi_line_string}
use Rattle.geometries.specs.Events.{events_of}
use Rattle.format.specs.Format.{Is}
use Rattle.format.specs.Once.{OfType, of_polygon, of_lines}
use Rattle.format.specs.NoMeaning.{meaningless}
use Rattle.format.proofs.NoMeaning.{ends-count}
use Rattle.format.specs.Cases.{plain, here, table, read_under}
use Rattle.format.specs.DifferencesRead.{Stray}

-- pairs after the last end are not looked at
abbrev past_end : Rec
past_end = table 5 (1 ∷ 2 ∷ 3 ∷ 4 ∷ []) (some (0 ∷ 1 ∷ []))

pub past_end_lem : Stray plain (past_end ∷ []) 5 (events_of plain 0 (multi_line_string ([] ∷ (here ∷ []) ∷ [])))
unfolding read_under events_of
past_end_lem = record { read = refl; no_meaning = meaningless past_end [] 5 refl refl go }
  where
    go : (s : Simple) → OfType 5 s → Is (get_elem? (past_end ∷ [])) past_end s → ⊥
    go s (of_lines ls) h = omega (arith, ends-count past_end ls (1 ∷ 2 ∷ 3 ∷ 4 ∷ []) 0 (1 ∷ []) refl refl h)

-- nor is an only end
abbrev one_end : Rec
one_end = table 3 (1 ∷ 2 ∷ []) (some (7 ∷ []))

pub one_end_lem : Stray plain (one_end ∷ []) 3 (events_of plain 0 (polygon ((here ∷ []) ∷ [])))
unfolding read_under events_of
one_end_lem = record { read = refl; no_meaning = meaningless one_end [] 3 refl refl go }
  where
    go : (s : Simple) → OfType 3 s → Is (get_elem? (one_end ∷ [])) one_end s → ⊥
    go s (of_polygon ls) h = omega (arith, ends-count one_end ls (1 ∷ 2 ∷ []) 7 [] refl refl h)
