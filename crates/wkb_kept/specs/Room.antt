-- A buffer with 21 bytes for each record has room for whatever is written of the list: that is what a Point of a MultiPoint comes to, and no event comes to more.
use Rattle.std.specs.Prelude.{◌≡◌, refl, Bool, true, false, not, cond, ◌&&◌, List, [], ◌∷◌, ◌++◌, map, ℕ, zero, suc, ◌+◌, ◌*◌, ◌≤◌, length}
use Rattle.std.proofs.Common.{sym, ap, ◌∙◌, arith, lit≤, length-append}
use Rattle.std.proofs.Math.Option.{Option, none, some}
use Rattle.laws.specs.Bytes.{le}
use Rattle.kinds.specs.Event.{Parsed, WellFormed, Malformed}
use Rattle.kinds.specs.declared.event.Event.{Event}
use Rattle.event_log.specs.Log.{heard, record_of, records_in}
use Rattle.nesting.specs.declared.geometry_type.GeometryType.{GeometryType}
use Rattle.nesting.specs.declared.geometry_type.GeometryType.TheVariants.{Point, LineString, Polygon, MultiPoint, MultiLineString, MultiPolygon, Collection}
use Rattle.nesting.specs.Events.{Event as Read, begin, end, pair, strange}
use Rattle.nesting.specs.Flat.{read}
use Rattle.wkb_written.specs.declared.around.Around.{Around}
use Rattle.wkb_written.specs.Spelling.{outermost, head_bytes, pair_of, after, begin_bytes, bytes_of, spelled}
use Rattle.wkb_written.specs.Writing.{before, listed, events_in, writing}
use Rattle.wkb_written.specs.Listed.{not_some}
use Rattle.wkb_kept.specs.Means.{spelled-told, eleven, twelve}

-- ---- an event's bytes
line_most : (ring : Bool) (size : ℕ) → length (cond ring (le 4 size) (head_bytes 2 ++ le 4 size)) ≤ 21
line_most true size = lit≤ tt
line_most false size = lit≤ tt

pair_most : (point : Bool) (x y : ℕ) → length (cond point (head_bytes 1 ++ pair_of x y) (pair_of x y)) ≤ 21
pair_most true x y = lit≤ tt
pair_most false x y = lit≤ tt

begin_most : (k : Around) (type : GeometryType) (tagged : Bool) (size : ℕ) → length (begin_bytes k type tagged size) ≤ 21
begin_most k Point tagged size = lit≤ tt
begin_most k LineString tagged size = line_most (k.rings && not tagged) size
begin_most k Polygon tagged size = lit≤ tt
begin_most k MultiPoint tagged size = lit≤ tt
begin_most k MultiLineString tagged size = lit≤ tt
begin_most k MultiPolygon tagged size = lit≤ tt
begin_most k Collection tagged size = lit≤ tt

event_most : (k : Around) (e : Read) → length (bytes_of k e) ≤ 21
event_most k (begin type tagged size idx) = begin_most k type tagged size
event_most k (end type tagged idx) = lit≤ tt
event_most k (pair x y idx) = pair_most k.points x y
event_most k (strange kind) = lit≤ tt

-- ---- a list's
spelled_most : (k : Around) (es : List Event) → length (spelled k (map read es)) ≤ 21 * length es
unfolding spelled
spelled_most k [] = lit≤ tt
spelled_most k (e ∷ es) = omega (arith, length-append (bytes_of k (read e)) (spelled (after k (read e)) (map read es)), event_most k (read e), spelled_most (after k (read e)) es)

-- a record for each event
listed_long : (left i : ℕ) (bytes : List ℕ) (es : List Event) → listed left i bytes ≡ some es → length es ≡ left
unfolding listed
listed_long zero i bytes es is = let empty : [] ≡ es = cc in ap length (sym empty)
listed_long (suc left) i bytes es is = go (heard (record_of bytes i)) (listed left (i + 1) bytes) (listed_long left (i + 1) bytes) is
  where
    go : (p : Parsed) (o : Option (List Event)) → ((l : List Event) → o ≡ some l → length l ≡ left) → before p o ≡ some es → length es ≡ suc left
    go Malformed o later k = absurd (not_some es k)
    go (WellFormed e) none later k = absurd (not_some es k)
    go (WellFormed e) (some l) later k = let all : e ∷ l ≡ es = cc in ap length (sym all) ∙ ap suc (later l refl)

pub room_for_all : (bytes : List ℕ) (room : ℕ) → 21 * records_in bytes ≤ room → (writing bytes room).number ≡ 12 → ⊥
room_for_all bytes room enough h = go (events_in bytes) refl
  where
    go : (o : Option (List Event)) → events_in bytes ≡ o → ⊥
    go none is = let z : ◌≡◌ {A = ℕ} 12 11 = sym h ∙ (eleven bytes room).1 is in omega arith
    go (some es) is =
        let t = ((twelve bytes room es is).0 h).1 in
        omega (arith, t.short, ap length (spelled-told t.shallow.told), spelled_most outermost es, listed_long (records_in bytes) 0 bytes es is)
