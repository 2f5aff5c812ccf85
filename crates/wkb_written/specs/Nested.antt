-- Events nest exactly where a geometry that fits has them, and nest within sixteen levels exactly where one of at most sixteen has.
use Rattle.std.specs.Prelude.{◌≡◌, refl, ◌↔◌, Bool, true, false, cond, ℕ, zero, suc, ◌<◌, ◌≤◌, length}
use Rattle.std.proofs.Common.{sym, ◌∙◌, eqb-true}
use Rattle.std.proofs.Math.Path.{ap}
use mathlib.Core.List.{List, [], ◌∷◌, map}
use Rattle.laws.specs.Every.{never}
use Rattle.kinds.specs.declared.event.Event.{Event as Flat}
use Rattle.planar.specs.Geometry.{Line, Rings, Simple, point, line_string, polygon, multi_point, multi_line_string, multi_polygon, simple, collection, Geometry}
use Rattle.planar.specs.Within.{planar_events}
use Rattle.planar.specs.Fits.{Each, Row, FitsCoord, FitsLine, FitsRings, FitsSimple, Fits}
use Rattle.planar.specs.Levels.{levels}
use Rattle.nesting.specs.declared.geometry_type.GeometryType.{GeometryType}
use Rattle.nesting.specs.declared.geometry_type.GeometryType.TheVariants.{MultiPoint, MultiLineString, MultiPolygon, Collection}
use Rattle.nesting.specs.Events.{Event, begin, end, pair, strange}
use Rattle.nesting.specs.Rules.{Rules, limit, PairRule, LineRule, RingsRule, Clear, SimpleRule, GeometryRule}
use Rattle.nesting.specs.Machine.{Frame, frame, outside, within, start, closed, Answer, taken, refused, count, Place, here, too_deep, nowhere, place, one_more, begin_fits, end_fits, pair_fits, begin_at, end_at, step, and_then, run}
use Rattle.nesting.specs.Flat.{read}
use Rattle.nesting.specs.FlatLaws.{WellFormed, FlatWhole}
use Rattle.nesting.proofs.FlatLaws.{flat_exactly}
use Rattle.nesting.specs.Levels.{any_depth, sixteen, sixteen-levels}
use Rattle.wkb_written.specs.Writing.{is_closed, nested}

-- a geometry that fits, with these events
pub record Told (es : List Flat) : Type 0 where
  pub n : ℕ
  pub geometry : Geometry n
  pub fits : Fits n geometry
  pub tell : planar_events n geometry ≡ es

-- and at most sixteen levels
pub record ToldWithin (es : List Flat) : Type 0 where
  pub told : Told es
  pub within : levels told.n told.geometry ≤ 16

-- ---- where any depth will do, the rules of a geometry are that it fits
all_same : {A : Type 0} (P Q : A → Type 0) → ((a : A) → P a ↔ Q a) → (xs : List A) → Each P xs ↔ Each Q xs
all_same P Q same [] = (λ k. tt, λ k. tt)
all_same P Q same (a ∷ xs) =
    let first = same a in
    let others = all_same P Q same xs in
    (λ k. (first.0 k.0, others.0 k.1), λ k. (first.1 k.0, others.1 k.1))

-- every list may be empty, and none is too deep
module _ {A : Type 0} (P Q : A → Type 0) (same : (a : A) → P a ↔ Q a) (xs : List A) where
  row_fits : (((true ≡ false → 1 ≤ length xs) × (length xs < limit)) × Each P xs) ↔ Row Q xs
  row_fits =
      let all = all_same P Q same xs in
      (λ k. (k.0.1, all.0 k.1), λ k. ((λ e. absurd (never (sym e)), k.0), all.1 k.1))

  members_fit : (type : GeometryType) (level : ℕ) → (((true ≡ false → 1 ≤ length xs) × (length xs < limit)) × Clear any_depth type level (length xs) × Each P xs) ↔ Row Q xs
  members_fit type level = (λ k. row_fits.0 (k.0, k.2), λ k. let r = row_fits.1 k in (r.0, λ opened some. refl, r.1))

same_itself : (P : Type 0) → P ↔ P
same_itself P = (λ p. p, λ p. p)

line_fits : (l : Line) → LineRule any_depth l ↔ FitsLine l
line_fits l = row_fits PairRule FitsCoord (λ c. same_itself (FitsCoord c)) l

rings_fit : (rs : Rings) → RingsRule any_depth rs ↔ FitsRings rs
rings_fit rs = row_fits (LineRule any_depth) FitsLine line_fits rs

simple_fits : (level : ℕ) (s : Simple) → SimpleRule any_depth level s ↔ FitsSimple s
simple_fits level (point c) = same_itself (FitsCoord c)
simple_fits level (line_string l) = line_fits l
simple_fits level (polygon rs) = rings_fit rs
simple_fits level (multi_point cs) = members_fit PairRule FitsCoord (λ c. same_itself (FitsCoord c)) cs MultiPoint level
simple_fits level (multi_line_string ls) = members_fit (LineRule any_depth) FitsLine line_fits ls MultiLineString level
simple_fits level (multi_polygon ps) = members_fit (RingsRule any_depth) FitsRings rings_fit ps MultiPolygon level

pub rule_fits : (n level : ℕ) (g : Geometry n) → GeometryRule any_depth n level g ↔ Fits n g
rule_fits zero level s = simple_fits level s
rule_fits (suc n) level (simple s) = simple_fits level s
rule_fits (suc n) level (collection gs) = members_fit (GeometryRule any_depth n (suc level)) (Fits n) (rule_fits n (suc level)) gs Collection level

-- ---- the outermost frame is always the feature's, so the machine is closed where its one thing is done and nothing else is open
abbrev Featured : Frame → List Frame → Type 0
Featured f [] = f ≡ outside f.done
Featured f (p ∷ fs) = Featured p fs

abbrev FeaturedAfter : Answer → Type 0
FeaturedAfter (taken (within f fs)) = Featured f fs
FeaturedAfter (refused n) = Unit {0}

one_more_lem : (f : Frame) (fs : List Frame) → Featured f fs → Featured (one_more f) fs
one_more_lem f [] h = ap one_more h
one_more_lem f (p ∷ fs) h = h

tested : (b : Bool) (f : Frame) (fs : List Frame) → Featured f fs → FeaturedAfter (cond b (taken (within f fs)) (refused 21))
tested true f fs h = h
tested false f fs h = tt

end_featured : (f : Frame) (fs : List Frame) (type : GeometryType) (tagged : Bool) (idx : ℕ) → Featured f fs → FeaturedAfter (end_at f fs type tagged idx)
end_featured f [] type tagged idx h = tt
end_featured f (p ∷ fs) type tagged idx h = tested (end_fits f type tagged idx) (one_more p) fs (one_more_lem p fs h)

closed_is : (a : Answer) → FeaturedAfter a → is_closed a ≡ true → a ≡ taken closed
closed_is (refused n) h e = absurd (never e)
closed_is (taken (within f [])) h e = ap (λ (f : Frame). taken (within f [])) (h ∙ ap outside (eqb-true f.done 1 e))
closed_is (taken (within f (p ∷ fs))) h e = absurd (never e)

module _ (R : Rules) where
  begin_featured : (p : Place) (f : Frame) (fs : List Frame) (type : GeometryType) (tagged : Bool) (size idx : ℕ) → Featured f fs → FeaturedAfter (begin_at R p f fs type tagged size idx)
  begin_featured (here tag) f fs type tagged size idx h = tested (begin_fits R f tag type tagged size idx) (frame type tagged idx (count type size) 0) (f ∷ fs) h
  begin_featured too_deep f fs type tagged size idx h = tt
  begin_featured nowhere f fs type tagged size idx h = tt

  step_featured : (f : Frame) (fs : List Frame) (e : Event) → Featured f fs → FeaturedAfter (step R (within f fs) e)
  step_featured f fs (begin type tagged size idx) h = begin_featured (place R f.type (suc (length fs)) type size) f fs type tagged size idx h
  step_featured f fs (end type tagged idx) h = end_featured f fs type tagged idx h
  step_featured f fs (pair x y idx) h = tested (pair_fits f x y idx) (one_more f) fs (one_more_lem f fs h)
  step_featured f fs (strange kind) h = tt

  run_featured : (es : List Event) (f : Frame) (fs : List Frame) → Featured f fs → FeaturedAfter (run R es (within f fs))
  run_featured [] f fs h = h
  run_featured (e ∷ es) f fs h = go (step R (within f fs) e) (step_featured f fs e h) (λ g gs. run_featured es g gs)
    where
      go : (a : Answer) → FeaturedAfter a → ((g : Frame) (gs : List Frame) → Featured g gs → FeaturedAfter (run R es (within g gs))) → FeaturedAfter (and_then a (λ t. run R es t))
      go (taken (within g gs)) h later = later g gs h
      go (refused n) h later = tt

  pub nested_exactly : (es : List Flat) → Each WellFormed es → (nested R es ≡ true) ↔ FlatWhole R es
  unfolding nested
  nested_exactly es formed =
      let whole = flat_exactly R es formed in
      (λ h. whole.0 (closed_is (run R (map read es) start) (run_featured (map read es) (outside 0) [] refl) h), λ w. ap is_closed (whole.1 w))

-- ---- in plain words
pub geometry_nested : (es : List Flat) → Each WellFormed es → (nested any_depth es ≡ true) ↔ Told es
geometry_nested es formed =
    let whole = nested_exactly any_depth es formed in (
      λ h. let w = whole.0 h in record { n = w.n; geometry = w.geometry; fits = (rule_fits w.n 1 w.geometry).0 w.rule; tell = w.tell },
      λ t. whole.1 (record { n = t.n; geometry = t.geometry; rule = (rule_fits t.n 1 t.geometry).1 t.fits; tell = t.tell }),
    )

pub shallow_nested : (es : List Flat) → Each WellFormed es → (nested sixteen es ≡ true) ↔ ToldWithin es
shallow_nested es formed = (
  λ h.
      let w = (nested_exactly sixteen es formed).0 h in
      let r = (sixteen-levels w.n w.geometry).0 w.rule in
      record { told = record { n = w.n; geometry = w.geometry; fits = (rule_fits w.n 1 w.geometry).0 r.0; tell = w.tell }; within = r.1 },
  λ s.
      let t = s.told in
      (nested_exactly sixteen es formed).1 (record { n = t.n; geometry = t.geometry; rule = (sixteen-levels t.n t.geometry).1 ((rule_fits t.n 1 t.geometry).1 t.fits, s.within); tell = t.tell }),
)
