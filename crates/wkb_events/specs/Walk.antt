-- What a pass counts, event by event.
use Rattle.std.specs.Prelude.{◌≡◌, refl, Bool, true, false, not, cond, ◌&&◌, ◌||◌, ◌++◌, ℕ, suc, ◌+◌, ◌*◌, ◌≤◌, max, leb, length}
use Rattle.std.proofs.Common.{sym, ap, ◌∙◌, subst, arith, leb-true, leb-false, le-leb}
use Rattle.std.proofs.lemmas.Bool.{lt-leb}
use Rattle.nesting.specs.declared.geometry_type.GeometryType.{GeometryType}
use Rattle.nesting.specs.declared.geometry_type.GeometryType.TheVariants.{Point, LineString, Polygon, MultiPoint, MultiLineString, MultiPolygon, Collection}
use Rattle.nesting.specs.Events.{Event, begin, pair}
use Rattle.nesting.specs.Levels.{of_geometries, opens_where, all_open}
use Rattle.wkb_written.specs.declared.around.Around.{Around}
use Rattle.wkb_written.specs.Spelling.{outermost, head_bytes, pair_of, after, begin_bytes, bytes_of}
use Rattle.wkb_events.specs.Course.{deepens}
use Rattle.wkb_events.specs.declared.walk.Walk.{Walk}

-- An event was counted, and so many geometries are open then.
pub record Moved (w : Walk) (e : Event) (height : ℕ) (r : Walk) : Type 0 where
  pub tall : r.height ≡ height
  pub highest : w.height ≤ w.highest → r.height ≤ r.highest
  pub grows : w.highest ≤ r.highest
  pub most : (n : ℕ) → w.highest ≤ n → height ≤ n → r.highest ≤ n
  pub deep : r.deep ≡ (deepens w.height e || w.deep)
  pub around : r.around ≡ after w.around e
  pub long : r.length ≡ w.length + length (bytes_of w.around e)

abbrev pub begin_long : GeometryType → Bool → ℕ
begin_long Point bare = 5
begin_long LineString bare = cond bare 4 9
begin_long Polygon bare = 9
begin_long MultiPoint bare = 9
begin_long MultiLineString bare = 9
begin_long MultiPolygon bare = 9
begin_long Collection bare = 9

-- ---- how many bytes
line-bytes : (k : Around) (tagged bare : Bool) (size : ℕ) → bare ≡ (k.rings && not tagged) → cond bare 4 9 ≡ length (begin_bytes k LineString tagged size)
line-bytes k tagged true size e = rw (sym e)
line-bytes k tagged false size e = rw (sym e)

begin-bytes : (k : Around) (type : GeometryType) (tagged : Bool) (size : ℕ) → begin_long type (k.rings && not tagged) ≡ length (begin_bytes k type tagged size)
begin-bytes k Point tagged size = refl
begin-bytes k LineString tagged size = line-bytes k tagged (k.rings && not tagged) size refl
begin-bytes k Polygon tagged size = refl
begin-bytes k MultiPoint tagged size = refl
begin-bytes k MultiLineString tagged size = refl
begin-bytes k MultiPolygon tagged size = refl
begin-bytes k Collection tagged size = refl

pair-bytes : (k : Around) (x y idx : ℕ) → cond k.points 21 16 ≡ length (bytes_of k (pair x y idx))
pair-bytes k x y idx = go k.points
  where
    go : (points : Bool) → cond points 21 16 ≡ length (cond points (head_bytes 1 ++ pair_of x y) (pair_of x y))
    go true = refl
    go false = refl

-- a begin at the height h stands at the level h + 1
last_level : (h : ℕ) → leb 16 (h + 1) ≡ leb 17 (suc (suc h))
last_level h = go (leb 17 (suc (suc h))) refl
  where
    go : (b : Bool) → leb 17 (suc (suc h)) ≡ b → leb 16 (h + 1) ≡ b
    go true e = le-leb 16 (h + 1) (omega (arith, leb-true 17 (suc (suc h)) e))
    go false e = lt-leb 16 (h + 1) (omega (arith, leb-false 17 (suc (suc h)) e))

-- ---- each kind of event
pub pair-moved : (w : Walk) (n : ℕ) → n ≡ cond w.around.points 21 16 → (x y idx : ℕ)
    → Moved w (pair x y idx) w.height (record { height = w.height; highest = w.highest; deep = w.deep; around = w.around; length = w.length + n })
pair-moved w n e x y idx = record { tall = refl; highest = λ h. h; grows = omega arith; most = λ n h k. h; deep = refl; around = refl; long = ap (λ (n : ℕ). w.length + n) (e ∙ pair-bytes w.around x y idx) }

-- so many pairs were counted
abbrev pub pairs_on : Walk → ℕ → Walk
pairs_on w n = record { height = w.height; highest = w.highest; deep = w.deep; around = w.around; length = w.length + cond w.around.points 21 16 * n }

one-longer : (points : Bool) (long n : ℕ) → long + cond points 21 16 * n + cond points 21 16 ≡ long + cond points 21 16 * (n + 1)
one-longer true long n = omega arith
one-longer false long n = omega arith

pub pairs-moved : (w : Walk) (n x y idx : ℕ) → Moved (pairs_on w n) (pair x y idx) w.height (pairs_on w (n + 1))
pairs-moved w n x y idx =
    subst (λ (long : ℕ). Moved (pairs_on w n) (pair x y idx) w.height (record { height = w.height; highest = w.highest; deep = w.deep; around = w.around; length = long }))
    (one-longer w.around.points w.length n) (pair-moved (pairs_on w n) (cond w.around.points 21 16) refl x y idx)

pub begin-moved : (w : Walk) (type : GeometryType) (tagged : Bool) (size idx highest : ℕ) (opens : Bool) (around : Around) (n : ℕ) → highest ≡ max w.highest (w.height + 1) → opens ≡ opens_where true type → around ≡ after w.around (begin type tagged size idx) → n ≡ begin_long type (w.around.rings && not tagged)
    → Moved w (begin type tagged size idx) (w.height + 1)
    (record { height = w.height + 1; highest = highest; deep = (opens && leb 1 size && leb 16 (w.height + 1)) || w.deep; around = around; length = w.length + n })
begin-moved w type tagged size idx highest opens around n high o around_is long = record {
  tall = refl;
  highest = λ h. omega arith;
  grows = omega arith;
  most = λ n h k. omega arith;
  deep = ap (λ (b : Bool). (b && leb 1 size && leb 16 (w.height + 1)) || w.deep) (o ∙ all_open type) ∙ ap (λ (b : Bool). (of_geometries type && leb 1 size && b) || w.deep) (last_level w.height);
  around = around_is;
  long = ap (λ (n : ℕ). w.length + n) (long ∙ begin-bytes w.around type tagged size);
}

-- nothing was counted
abbrev pub started : Walk
started = record { height = 0; highest = 0; deep = false; around = outermost; length = 0 }
