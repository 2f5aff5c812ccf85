-- The passes one above the other: an event that was refused stood at no height of those so far. And what a list that has no records, or no
-- whole ones, comes to.
use Rattle.std.specs.Prelude.{◌≡◌, refl, Bool, true, not, List, [], map, ℕ, ◌+◌, ◌/◌, ◌<◌, ◌≤◌, length}
use Rattle.std.proofs.Common.{sym, ap, subst, arith}
use Rattle.std.proofs.Math.Bool.{and-false}
use Rattle.std.proofs.Math.Option.{Option, some}
use Rattle.std.proofs.Math.Decide.{dec_lt}
use Rattle.kinds.specs.declared.event.Event.{Event as Flat}
use Rattle.event_log.specs.Log.{records_in}
use Rattle.nesting.specs.Machine.{State, start}
use Rattle.nesting.specs.Flat.{read}
use Rattle.nesting.specs.Levels.{any_depth, sixteen}
use Rattle.wkb_written.specs.Spelling.{outermost, spelled}
use Rattle.wkb_written.specs.Writing.{listed, nested, events_in, one_feature}
use Rattle.wkb_events.specs.Course.{Course, reached, fell, course}
use Rattle.wkb_judge.specs.Passing.{Faulty, In, Ends, stood, beyond, Passed}

-- all events were taken, or one was refused at a height that no pass has judged yet
pub data Left (events : List Flat) (low highest : ℕ) (deep : Bool) : Type 0 where
  closed : nested any_depth events ≡ true → deep ≡ not (nested sixteen events) → Left events low highest deep
  above : (height : ℕ) → course any_depth (map read events) start ≡ fell height → low ≤ height → height ≤ highest → Left events low highest deep

pub record Rising (bytes : List ℕ) (low highest : ℕ) (deep : Bool) (long : ℕ) : Type 0 where
  pub events : List Flat
  pub listing : events_in bytes ≡ some events
  pub one : one_feature bytes ≡ true
  pub few : highest ≤ length bytes / 64
  pub long_is : long ≡ length (spelled outermost (map read events))
  pub left : Left events low highest deep

not_seen : (low height : ℕ) → (In low height → ⊥) → low ≤ height → low + 256 ≤ height
not_seen low height unseen h = go (dec_lt height (low + 256))
  where
    go : Dec (height < low + 256) → low + 256 ≤ height
    go (yes less) = absurd (unseen (h, less))
    go (no more) = omega arith

pub first-passed : {bytes : List ℕ} {highest : ℕ} {deep : Bool} {long : ℕ} → Passed bytes 0 highest deep long → Rising bytes 256 highest deep long
first-passed {highest = highest} {deep = deep} p = record { events = p.events; listing = p.listing; one = p.one; few = p.few; long_is = p.long_is; left = go p.ends }
  where
    go : Ends p.events 0 highest deep → Left p.events 256 highest deep
    go (stood s is k) = let t = k refl in closed t.0 t.1
    go (beyond height is unseen most) = above height is (not_seen 0 height unseen (omega arith)) most

same-events : {l m : List Flat} {o : Option (List Flat)} → o ≡ some l → o ≡ some m → l ≡ m
same-events h k = cc

same_height : {c : Course} {m n : ℕ} → c ≡ fell m → c ≡ fell n → m ≡ n
same_height h k = cc

not_both : {c : Course} {n : ℕ} {s : State} → c ≡ fell n → c ≡ reached s → ⊥
not_both h k = let z : ◌≡◌ {A = ℕ} 0 1 = cc in omega arith

pub one-passed : {bytes : List ℕ} {low highest : ℕ} {deep : Bool} {long : ℕ} {most : ℕ} {any : Bool} {size : ℕ} → Rising bytes low highest deep long → Passed bytes low most any size → Rising bytes (low + 256) highest deep long
one-passed {low = low} {highest = highest} {deep = deep} {most = most} {any = any} r p = record { events = r.events; listing = r.listing; one = r.one; few = r.few; long_is = r.long_is; left = go r.left }
  where
    seen : (height : ℕ) → course any_depth (map read r.events) start ≡ fell height → low ≤ height → height ≤ highest → Ends r.events low most any → Left r.events (low + 256) highest deep
    seen height is h k (stood s at-end closes) = absurd (not_both is at-end)
    seen height is h k (beyond other falls unseen m) =
        let e : other ≡ height = same_height falls is in
        above height is (not_seen low height (λ i. unseen (subst (λ (n : ℕ). In low n) (sym e) i)) h) k

    go : Left r.events low highest deep → Left r.events (low + 256) highest deep
    go (closed good is) = closed good is
    go (above height is h k) = seen height is h k (subst (λ (l : List Flat). Ends l low most any) (same-events p.listing r.listing) p.ends)

-- ---- no records
pub none_nested : (bytes : List ℕ) → length bytes ≡ 0 → Faulty bytes
unfolding listed nested
none_nested bytes h =
    let e : records_in bytes ≡ 0 = omega arith in
    record { events = []; listing = ap (λ (n : ℕ). listed n 0 bytes) e; bad = and-false (one_feature bytes) }
