-- Rules where every geometry may be empty and those inside another are one level deeper: any depth, or sixteen levels.
use Rattle.std.specs.Prelude.{◌≡◌, refl, ◌↔◌, Bool, true, false, List, [], ◌∷◌, ℕ, zero, suc, ◌+◌, ◌≤◌, leb, length}
use Rattle.std.proofs.Common.{arith, leb-false}
use Rattle.std.proofs.lemmas.Bool.{lt-leb}
use Rattle.planar.specs.Geometry.{Simple, point, line_string, polygon, multi_point, multi_line_string, multi_polygon, simple, collection, Geometry}
use Rattle.planar.specs.Levels.{deepest, alone, simple_levels, levels}
use Rattle.nesting.specs.declared.geometry_type.GeometryType.{GeometryType}
use Rattle.nesting.specs.declared.geometry_type.GeometryType.TheVariants.{Point, LineString, Polygon, MultiPoint, MultiLineString, MultiPolygon, Collection}
use Rattle.planar.specs.Fits.{Each}
use Rattle.nesting.specs.Rules.{Rules, PairRule, LineRule, RingsRule, MayHold, Clear, SimpleRule, GeometryRule}

-- the types that hold geometries: rings, and the pairs of a line, are none
abbrev pub of_geometries : GeometryType → Bool
of_geometries Point = false
of_geometries LineString = false
of_geometries Polygon = false
of_geometries MultiPoint = true
of_geometries MultiLineString = true
of_geometries MultiPolygon = true
of_geometries Collection = true

abbrev pub rules_of : (ℕ → Bool) → Rules
rules_of too_deep = record { may_be_empty = λ type. true; opens = of_geometries; too_deep = too_deep }

abbrev pub any_depth : Rules
any_depth = rules_of (λ level. false)

abbrev pub sixteen : Rules
sixteen = rules_of (λ level. leb 17 level)

-- ---- the same rules among those that a use may choose
-- which types may be empty: a Polygon, a MultiLineString and a MultiPolygon where the use says so, any other always
abbrev pub empty_where : Bool → GeometryType → Bool
empty_where empty Point = true
empty_where empty LineString = true
empty_where empty Polygon = empty
empty_where empty MultiPoint = true
empty_where empty MultiLineString = empty
empty_where empty MultiPolygon = empty
empty_where empty Collection = true

-- whose members lie one level deeper: a MultiPoint's and a MultiLineString's where the use says so
abbrev pub opens_where : Bool → GeometryType → Bool
opens_where deeper Point = false
opens_where deeper LineString = false
opens_where deeper Polygon = false
opens_where deeper MultiPoint = deeper
opens_where deeper MultiLineString = deeper
opens_where deeper MultiPolygon = true
opens_where deeper Collection = true

abbrev pub rules_for : Bool → Bool → (ℕ → Bool) → Rules
rules_for empty deeper too_deep = record { may_be_empty = empty_where empty; opens = opens_where deeper; too_deep = too_deep }

all-empty : (type : GeometryType) → empty_where true type ≡ true
all-empty Point = refl
all-empty LineString = refl
all-empty Polygon = refl
all-empty MultiPoint = refl
all-empty MultiLineString = refl
all-empty MultiPolygon = refl
all-empty Collection = refl

pub all_open : (type : GeometryType) → opens_where true type ≡ of_geometries type
all_open Point = refl
all_open LineString = refl
all_open Polygon = refl
all_open MultiPoint = refl
all_open MultiLineString = refl
all_open MultiPolygon = refl
all_open Collection = refl

pub rules_of_lem : (too_deep : ℕ → Bool) → rules_for true true too_deep ≡ rules_of too_deep
rules_of_lem too_deep = λ i. record { may_be_empty = λ type. all-empty type i; opens = λ type. all_open type i; too_deep = too_deep }

-- ---- the rule of sixteen levels is the rule of any depth, and levels that are few enough
simple_some : (s : Simple) → 1 ≤ simple_levels s
simple_some (point c) = omega arith
simple_some (line_string l) = omega arith
simple_some (polygon rs) = omega arith
simple_some (multi_point cs) = omega arith
simple_some (multi_line_string ls) = omega arith
simple_some (multi_polygon ps) = omega arith

some-levels : (n : ℕ) (g : Geometry n) → 1 ≤ levels n g
some-levels zero s = simple_some s
some-levels (suc n) (simple s) = simple_some s
some-levels (suc n) (collection gs) = omega arith

-- A list of members, one level deeper: `d` counts the levels of each. Where that level is not too deep, P is Q and levels that are few enough.
module _ {A : Type 0} (level : ℕ) (P Q : A → Type 0) (d : A → ℕ) (least : (a : A) → 1 ≤ d a) (same : suc level ≤ 16 → (a : A) → P a ↔ (Q a × (suc level + d a ≤ 17))) where
  few_each : suc level ≤ 16 → (xs : List A) → Each P xs → Each Q xs × (level + suc (deepest d xs) ≤ 17)
  few_each h [] k = (tt, omega arith)
  few_each h (a ∷ xs) k =
      let first = (same h a).0 k.0 in
      let others = few_each h xs k.1 in
      ((first.0, others.0), omega (arith, first.1, others.1))

  few : level ≤ 16 → (type : GeometryType) → of_geometries type ≡ true → (xs : List A) → Clear sixteen type level (length xs) → Each P xs → Each Q xs × (level + suc (deepest d xs) ≤ 17)
  few h type opened [] clear k = (tt, omega arith)
  few h type opened (a ∷ xs) clear k = few_each (omega (arith, leb-false 17 (suc level) (clear opened (omega arith)))) (a ∷ xs) k

  few_clear : (type : GeometryType) (xs : List A) → level + suc (deepest d xs) ≤ 17 → Clear sixteen type level (length xs)
  few_clear type [] h opened some = absurd (omega arith)
  few_clear type (a ∷ xs) h opened some = lt-leb 17 (suc level) (omega (arith, least a))

  each_few : (xs : List A) → Each Q xs → level + suc (deepest d xs) ≤ 17 → Each P xs
  each_few [] k h = tt
  each_few (a ∷ xs) k h = let l = least a in ((same (omega arith) a).1 (k.0, omega arith), each_few xs k.1 (omega arith))

  -- with a fact of the size, which is the same in both
  list_levels : (S : Type 0) (type : GeometryType) → of_geometries type ≡ true → level ≤ 16 → (xs : List A) → (S × Clear sixteen type level (length xs) × Each P xs) ↔ ((S × Clear any_depth type level (length xs) × Each Q xs) × (level + suc (deepest d xs) ≤ 17))
  list_levels S type opened h xs = (
    λ k. let f = few h type opened xs k.1 k.2 in ((k.0, λ o some. refl, f.0), f.1),
    λ k. (k.0.0, few_clear type xs k.1, each_few xs k.0.2 k.1),
  )

by_itself : (P : Type 0) (level : ℕ) → level ≤ 16 → P ↔ (P × (level + 1 ≤ 17))
by_itself P level h = (λ p. (p, omega arith), λ k. k.0)

simple_levels_lem : (level : ℕ) → level ≤ 16 → (s : Simple) → SimpleRule sixteen level s ↔ (SimpleRule any_depth level s × (level + simple_levels s ≤ 17))
simple_levels_lem level h (point c) = by_itself (PairRule c) level h
simple_levels_lem level h (line_string l) = by_itself (LineRule any_depth l) level h
simple_levels_lem level h (polygon rs) = by_itself (RingsRule any_depth rs) level h
simple_levels_lem level h (multi_point cs) = list_levels level PairRule PairRule alone (λ c. omega arith) (λ k c. by_itself (PairRule c) (suc level) k) (MayHold any_depth MultiPoint (length cs)) MultiPoint refl h cs
simple_levels_lem level h (multi_line_string ls) = list_levels level (LineRule any_depth) (LineRule any_depth) alone (λ l. omega arith) (λ k l. by_itself (LineRule any_depth l) (suc level) k) (MayHold any_depth MultiLineString (length ls)) MultiLineString refl h ls
simple_levels_lem level h (multi_polygon ps) = list_levels level (RingsRule any_depth) (RingsRule any_depth) alone (λ rs. omega arith) (λ k rs. by_itself (RingsRule any_depth rs) (suc level) k) (MayHold any_depth MultiPolygon (length ps)) MultiPolygon refl h ps

levels-at : (n level : ℕ) → level ≤ 16 → (g : Geometry n) → GeometryRule sixteen n level g ↔ (GeometryRule any_depth n level g × (level + levels n g ≤ 17))
levels-at zero level h s = simple_levels_lem level h s
levels-at (suc n) level h (simple s) = simple_levels_lem level h s
levels-at (suc n) level h (collection gs) = list_levels level (GeometryRule sixteen n (suc level)) (GeometryRule any_depth n (suc level)) (levels n) (some-levels n) (λ k g. levels-at n (suc level) k g) (MayHold any_depth Collection (length gs)) Collection refl h gs

pub sixteen-levels : (n : ℕ) (g : Geometry n) → GeometryRule sixteen n 1 g ↔ (GeometryRule any_depth n 1 g × (levels n g ≤ 16))
sixteen-levels n g =
    let t = levels-at n 1 (omega arith) g in
    (λ r. let q = t.0 r in (q.0, omega (arith, q.1)), λ q. t.1 (q.0, omega (arith, q.1)))
