-- The examples of SPEC 12.1: the trees that the writer on lists makes.
use Rattle.std.specs.Prelude.{◌≡◌, refl, List, [], ◌∷◌, ◌++◌, Bool, true, false, ℕ, ◌+◌, length}
use Rattle.std.proofs.Math.Option.{Option, none, some}
use Rattle.kinds.specs.Event.{begin_e, end_e, xy_e}
use Rattle.kinds.specs.declared.event.Event.{Event}
use Rattle.store.specs.Lists.{Rec}
use Rattle.asking.specs.SetType.{set_type, unknown_type, collected}
use Rattle.asking.specs.Ask.{begun}
use Rattle.writer_model.specs.Writer.{fresh, longer, part_of, finish_part, coordinate, end_pushed, line_end, polygon_end, after, after_all, nay, tree}

-- ---- events of lines and polygons; pairs are numbered from zero in each line
abbrev pub pairs : List (ℕ × ℕ) → ℕ → List Event
pairs [] i = []
pairs (p ∷ ps) i = xy_e p.0 p.1 i ∷ pairs ps (i + 1)

abbrev pub line : Bool → List (ℕ × ℕ) → ℕ → List Event
line tagged ps i = begin_e 2 tagged (length ps) i ∷ (pairs ps 0 ++ (end_e 2 tagged i ∷ []))

abbrev pub lines : List (List (ℕ × ℕ)) → ℕ → List Event
lines [] i = []
lines (l ∷ ls) i = line false l i ++ lines ls (i + 1)

abbrev pub polygon : List (List (ℕ × ℕ)) → List Event
polygon rings = begin_e 3 true (length rings) 0 ∷ (lines rings 0 ++ (end_e 3 true 0 ∷ []))

abbrev pub two : List (ℕ × ℕ)
two = (1, 2) ∷ (3, 4) ∷ []

abbrev pub three : List (ℕ × ℕ)
three = (1, 2) ∷ (3, 4) ∷ (5, 6) ∷ []

abbrev pub four : List (ℕ × ℕ)
four = (1, 2) ∷ (3, 4) ∷ (5, 6) ∷ (1, 2) ∷ []

-- ---- what finish gives
abbrev pub tree_from : ℕ → Bool → Bool → List Event → List Rec
tree_from declared detect promote es = tree (after_all (fresh declared detect promote) es)

abbrev pub rec : ℕ → List ℕ → Option (List ℕ) → Rec
rec kind xy ends = record { kind = kind; xy = some xy; ends = ends; z = none; m = none; t = none; tm = none; parts = none }

abbrev pub root : ℕ → ℕ → Rec
root kind count = record { kind = kind; xy = none; ends = none; z = none; m = none; t = none; tm = none; parts = some (1, count) }

-- Polygon, one ring of 4 pairs: 8 words, no ends
pub b1 : tree_from 3 false false (polygon (four ∷ [])) ≡ rec 0 (1 ∷ 2 ∷ 3 ∷ 4 ∷ 5 ∷ 6 ∷ 1 ∷ 2 ∷ []) none ∷ []
unfolding fresh after_all after begun set_type coordinate end_pushed line_end polygon_end part_of longer begin_e end_e xy_e
b1 = refl

-- two rings of 4: ends 4, 8
pub b2 : tree_from 3 false false (polygon (four ∷ four ∷ [])) ≡ rec 0 (1 ∷ 2 ∷ 3 ∷ 4 ∷ 5 ∷ 6 ∷ 1 ∷ 2 ∷ 1 ∷ 2 ∷ 3 ∷ 4 ∷ 5 ∷ 6 ∷ 1 ∷ 2 ∷ []) (some (4 ∷ 8 ∷ [])) ∷ []
unfolding fresh after_all after begun set_type coordinate end_pushed line_end polygon_end part_of longer begin_e end_e xy_e
b2 = refl

-- no ring: empty xy
pub b3 : tree_from 3 false false (polygon []) ≡ rec 0 [] none ∷ []
unfolding fresh after_all after begun set_type polygon_end part_of longer begin_e end_e
b3 = refl

-- MultiLineString of 2, 0, 3 pairs: ends 2, 2, 5
pub b4 : tree_from 5 false false (begin_e 5 false 3 0 ∷ (lines (two ∷ [] ∷ three ∷ []) 0 ++ (end_e 5 false 0 ∷ []))) ≡ rec 0 (1 ∷ 2 ∷ 3 ∷ 4 ∷ 1 ∷ 2 ∷ 3 ∷ 4 ∷ 5 ∷ 6 ∷ []) (some (2 ∷ 2 ∷ 5 ∷ [])) ∷ []
unfolding fresh after_all after begun set_type coordinate end_pushed line_end part_of longer begin_e end_e xy_e
b4 = refl

-- declared MultiLineString, tagged LineString of 2 pairs, promote: no ends
pub b5 : tree_from 5 false true (line true two 0) ≡ rec 0 (1 ∷ 2 ∷ 3 ∷ 4 ∷ []) none ∷ []
unfolding fresh after_all after begun set_type coordinate end_pushed line_end part_of longer begin_e end_e xy_e
b5 = refl

-- without promote: 5
pub b6 : nay (fresh 5 false false) (begin_e 2 true 2 0) ≡ 5
unfolding nay fresh begun set_type begin_e
b6 = refl

-- MultiPolygon, no polygon: empty xy, no parts
pub b7 : tree_from 6 false false (begin_e 6 false 0 0 ∷ end_e 6 false 0 ∷ []) ≡ rec 0 [] none ∷ []
unfolding fresh after_all after begun set_type part_of longer begin_e end_e
b7 = refl

-- declared GeometryCollection with a Polygon of one 4-pair ring: two parts of type 3, with 4 pairs and none
pub b8 : tree_from 7 false false (begin_e 7 false 1 0 ∷ (polygon (four ∷ []) ++ (end_e 7 false 0 ∷ []))) ≡ root 3 2 ∷ rec 3 (1 ∷ 2 ∷ 3 ∷ 4 ∷ 5 ∷ 6 ∷ 1 ∷ 2 ∷ []) none ∷ rec 3 [] none ∷ []
unfolding fresh after_all after begun set_type collected coordinate end_pushed line_end polygon_end finish_part part_of longer begin_e end_e xy_e
b8 = refl

-- Unknown, no detect, no promote, a collection of one Point: root type 1
pub b9 : tree_from 0 false false (begin_e 7 false 1 0 ∷ begin_e 1 false 0 0 ∷ xy_e 1 2 0 ∷ end_e 1 false 0 ∷ end_e 7 false 0 ∷ []) ≡ root 1 1 ∷ rec 1 (1 ∷ 2 ∷ []) none ∷ []
unfolding fresh after_all after begun set_type unknown_type collected coordinate finish_part part_of longer begin_e end_e xy_e
b9 = refl
