-- What a thing inside an open geometry is: a pair, or a begin that may stand there, things inside it and an end.
use Rattle.std.specs.Prelude.{◌≡◌, refl, Bool, true, false, cond, List, [], ◌∷◌, map, ℕ, zero, suc, ◌<◌, length}
use Rattle.std.proofs.Common.{sym, ap, ◌∙◌, arith}
use Rattle.std.proofs.Math.Path.{subst⁻¹}
use Rattle.std.proofs.lemmas.List.{length-map}
use Rattle.planar.specs.Geometry.{Simple, point, line_string, polygon, multi_point, multi_line_string, multi_polygon, simple, collection, Geometry}
use Rattle.planar.specs.Any.{Any, any}
use Rattle.nesting.specs.declared.geometry_type.GeometryType.{GeometryType}
use Rattle.nesting.specs.declared.geometry_type.GeometryType.TheVariants.{Point, LineString, Polygon, MultiPoint, MultiLineString, MultiPolygon, Collection}
use Rattle.nesting.specs.Events.{Event, begin, end, pair, each, simple_of}
use Rattle.planar.specs.Fits.{Each}
use Rattle.nesting.specs.Rules.{Rules, limit64, MayHold, Clear, SimpleRule, GeometryRule}
use Rattle.nesting.specs.Machine.{here, too_deep, parts, place, count, of_pairs}
use Rattle.nesting.specs.Inside.{Inside, tells, Keeps, any_of}
use Rattle.nesting.specs.Gathered.{group-through, each-through}
use Rattle.nesting.specs.Tests.{false_exceeds}

-- how deep a thing of a type can nest
abbrev pub rank : (type : GeometryType) → Inside type → ℕ
rank Point c = 0
rank LineString c = 0
rank Polygon l = 1
rank MultiPoint c = 0
rank MultiLineString l = 1
rank MultiPolygon rs = 2
rank Collection a = suc (suc (suc a.n))

each_with : {A : Type 0} (P Q : A → Type 0) (xs : List A) → ((a : A) → Q a) → Each P xs → Each (λ a. P a × Q a) xs
each_with P Q [] q h = tt
each_with P Q (a ∷ xs) q h = ((h.0, q a), each_with P Q xs q h.1)

module _ (R : Rules) where
  pub record Group (outer : GeometryType) (level : ℕ) (a : Inside outer) : Type 0 where
    pub type : GeometryType
    pub tagged : Bool
    pub size : ℕ
    pub things : List (Inside type)
    pub stands : place R outer level type size ≡ here tagged
    pub ok : MayHold R type size
    pub long : length things ≡ count type size
    pub keep : Each (λ b. Keeps R type (suc level) b × (rank type b < rank outer a)) things
    pub tell : (i : ℕ) (k : List Event) → tells outer a i k ≡ begin type tagged size i ∷ each (tells type) things 0 (end type tagged i ∷ k)

  pub data Seen (outer : GeometryType) (level : ℕ) (a : Inside outer) : Type 0 where
    a_pair : (x y : ℕ) → of_pairs outer ≡ true → x < limit64 → y < limit64 → ((i : ℕ) (k : List Event) → tells outer a i k ≡ pair x y i ∷ k) → Seen outer level a
    a_group : Group outer level a → Seen outer level a

  parts-here : (type : GeometryType) (level n : ℕ) → Clear R type level n → parts R type level n ≡ here false
  parts-here type level n clear = ap (λ (b : Bool). cond b too_deep (here false)) (false_exceeds R type level n clear)

  -- a thing whose things are of a lower rank, whatever they are
  lower : (type : GeometryType) (level n : ℕ) → ((b : Inside type) → rank type b < n) → (xs : List (Inside type)) → Each (Keeps R type level) xs → Each (λ b. Keeps R type level b × (rank type b < n)) xs
  lower type level n h xs keep = each_with (Keeps R type level) (λ b. rank type b < n) xs h keep

  seen_simple : (level : ℕ) (a : Any) (s : Simple) → ((i : ℕ) (k : List Event) → any_of a i k ≡ simple_of s i k) → SimpleRule R level s → Seen Collection level a
  seen_simple level a (point c) tell h = a_group (record { type = Point; tagged = false; size = 0; things = c ∷ []; stands = refl; ok = refl; long = refl; keep = ((h, omega arith), tt); tell = tell })
  seen_simple level a (line_string l) tell h = a_group (record { type = LineString; tagged = true; size = length l; things = l; stands = refl; ok = h.0; long = refl; keep = lower LineString (suc level) _ (λ b. omega arith) l h.1; tell = tell })
  seen_simple level a (polygon rs) tell h = a_group (record { type = Polygon; tagged = true; size = length rs; things = rs; stands = refl; ok = h.0; long = refl; keep = lower Polygon (suc level) _ (λ b. omega arith) rs h.1; tell = tell })
  seen_simple level a (multi_point cs) tell h = a_group (record { type = MultiPoint; tagged = false; size = length cs; things = cs; stands = parts-here MultiPoint level (length cs) h.1; ok = h.0; long = refl; keep = lower MultiPoint (suc level) _ (λ b. omega arith) cs h.2; tell = tell })
  seen_simple level a (multi_line_string ls) tell h = a_group (record { type = MultiLineString; tagged = false; size = length ls; things = ls; stands = parts-here MultiLineString level (length ls) h.1; ok = h.0; long = refl; keep = lower MultiLineString (suc level) _ (λ b. omega arith) ls h.2; tell = tell })
  seen_simple level a (multi_polygon ps) tell h = a_group (record { type = MultiPolygon; tagged = false; size = length ps; things = ps; stands = parts-here MultiPolygon level (length ps) h.1; ok = h.0; long = refl; keep = lower MultiPolygon (suc level) _ (λ b. omega arith) ps h.2; tell = tell })

  seen-member : (level n : ℕ) (g : Geometry n) → GeometryRule R n level g → Seen Collection level (any n g)
  seen-member level zero s h = seen_simple level (any zero s) s (λ i k. refl) h
  seen-member level (suc n) (simple s) h = seen_simple level (any (suc n) (simple s)) s (λ i k. refl) h
  seen-member level (suc n) (collection gs) h =
      let P : Any → Type 0 = λ b. Keeps R Collection (suc level) b × (rank Collection b < suc (suc (suc (suc n)))) in
      a_group (record {
        type = Collection;
        tagged = false;
        size = length gs;
        things = map (any n) gs;
        stands = parts-here Collection level (length gs) h.1;
        ok = h.0;
        long = length-map gs (any n);
        keep = subst⁻¹ (λ (X : Type 0). X) (each-through (any n) P gs) (each_with (GeometryRule R n (suc level)) (λ g. rank Collection (any n g) < suc (suc (suc (suc n)))) gs (λ g. omega arith) h.2);
        tell = λ i k. sym (group-through (any n) Collection false any_of gs i k) ∙ ap (λ (m : ℕ). begin Collection false m i ∷ each any_of (map (any n) gs) 0 (end Collection false i ∷ k)) (length-map gs (any n));
      })

  pub seen : (outer : GeometryType) (level : ℕ) (a : Inside outer) → Keeps R outer level a → Seen outer level a
  seen Point level c h = a_pair c.x c.y refl h.0 h.1 (λ i k. refl)
  seen LineString level c h = a_pair c.x c.y refl h.0 h.1 (λ i k. refl)
  seen MultiPoint level c h = a_pair c.x c.y refl h.0 h.1 (λ i k. refl)
  seen Polygon level l h = a_group (record { type = LineString; tagged = false; size = length l; things = l; stands = refl; ok = h.0; long = refl; keep = lower LineString (suc level) _ (λ b. omega arith) l h.1; tell = λ i k. refl })
  seen MultiLineString level l h = a_group (record { type = LineString; tagged = false; size = length l; things = l; stands = refl; ok = h.0; long = refl; keep = lower LineString (suc level) _ (λ b. omega arith) l h.1; tell = λ i k. refl })
  seen MultiPolygon level rs h = a_group (record { type = Polygon; tagged = false; size = length rs; things = rs; stands = refl; ok = h.0; long = refl; keep = lower Polygon (suc level) _ (λ b. omega arith) rs h.1; tell = λ i k. refl })
  seen Collection level a h = seen-member level a.n a.geometry h
