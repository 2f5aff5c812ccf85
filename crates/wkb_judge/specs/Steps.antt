-- Each turn of a pass, from what the code asked and was told.
use Rattle.std.specs.Prelude.{◌≡◌, refl, Bool, true, false, not, cond, ◌&&◌, ◌||◌, List, [], ◌∷◌, map, ℕ, suc, ◌+◌, ◌-◌, ◌*◌, ◌/◌, ◌%◌, ◌<◌, ◌≤◌, eqb, ltb, length, take, drop, get_or, set}
use Rattle.std.proofs.Common.{sym, ap, ◌∙◌, subst, arith, ltb-true, lt-ltb, eqb-true, ne_eqb}
use Rattle.std.proofs.Math.Bool.{and-false}
use Rattle.std.proofs.Math.Option.{some}
use Rattle.std.proofs.Math.Nat.{sub-zero}
use Rattle.std.proofs.lemmas.Bool.{eqb-false, not-true, not-false}
use Rattle.laws.specs.Every.{never, both, other, neither}
use Rattle.kinds.specs.Event.{Malformed as Unheard, WellFormed}
use Rattle.kinds.specs.declared.event.Event.{Event as Flat}
use Rattle.event_log.specs.Log.{heard, feature_in, record_of, records_in}
use Rattle.nesting.specs.declared.geometry_type.GeometryType.{GeometryType}
use Rattle.nesting.specs.Events.{Event, begin, end, pair, strange}
use Rattle.nesting.specs.Rules.{limit64}
use Rattle.nesting.specs.Machine.{Frame, frame, outside, State, within, start, taken, refused, count, of_pairs, one_more, end_fits, pair_fits, place, step}
use Rattle.nesting.specs.Flat.{read}
use Rattle.nesting.specs.Levels.{any_depth, sixteen, rules_of_lem}
use Rattle.nesting.specs.Rules.{Rules}
use Rattle.nesting.proofs.Sound.{reached_sound}
use Rattle.nesting.specs.Tests.{five}
use Rattle.nesting.specs.Taking.{Is, ample, begins, begin_goes, begin_stops as begin-refused, Refused}
use Rattle.nesting.specs.declared.frame.Frame.{Frame as FrameR}
use Rattle.wkb_written.specs.declared.around.Around.{Around}
use Rattle.wkb_written.specs.Spelling.{spelled}
use Rattle.wkb_written.specs.Writing.{listed, alike, nested, events_in, one_feature}
use Rattle.wkb_events.specs.Course.{reached, closes, course, course_none, nested-course, run-reached}
use Rattle.wkb_events.specs.Told.{Behind}
use Rattle.wkb_events.specs.Walk.{Moved, started}
use Rattle.wkb_judge.specs.Rows.{lifted, lifted_self, part_is, whole_records, listed_on, listed_none, alike_off, listed-ends, alike-ends}
use Rattle.wkb_judge.specs.Passing.{In, SlotOf, RefusedAs, malformed, faulty, Ends, stood, beyond, Passed, LaterOf, later_malformed, later_events}
use Rattle.wkb_judge.specs.Along.{Shallow, On, Stands, on, off, Along, kept_on, taken_on, refused_on, refused_here, Counted, counted}
use Rattle.wkb_events.specs.declared.walk.Walk.{Walk}
use Rattle.wkb_events.specs.declared.told.Told.{Told}
use Rattle.wkb_events.specs.declared.told.Told.TheVariants.{Pair, Begin, End, Strange}
use Rattle.kinds.specs.declared.refusal.Refusal.{Refusal}
use Rattle.kinds.specs.declared.refusal.Refusal.TheVariants.{Malformed, BadlyNested}

-- what the record `i` was told to be
pub told_here : (bytes : List ℕ) (feature i : ℕ) (t u : Told) → Behind (take (64 * i + 64 - 64 * i) (drop (64 * i) bytes)) feature t → t ≡ u → Behind (record_of bytes i) feature u
told_here bytes feature i t u h e = subst (λ (t : Told). Behind (record_of bytes i) feature t) e (subst (λ (l : List ℕ). Behind l feature t) (part_is bytes i) h)

-- ---- a test that is made inside the window only
seen_passes : (low height k : ℕ) → SlotOf low height k → In low height → (ok : Bool) → (ltb k 256 && not ok) ≡ false → ok ≡ true
seen_passes low height k s seen ok h = not-false ok (sym (ap (λ (b : Bool). b && not ok) (lt-ltb k 256 (omega (arith, s.seen seen, seen.0, seen.1)))) ∙ h)

record Failed (low height : ℕ) (ok : Bool) : Type 0 where
  seen : In low height
  fails : ok ≡ false

seen_fails : (low height k : ℕ) → SlotOf low height k → (ok : Bool) → (ltb k 256 && not ok) ≡ true → Failed low height ok
seen_fails low height k s ok h = let t = both (ltb k 256) (not ok) h in record { seen = s.back (ltb-true k 256 t.0); fails = not-true ok t.1 }

module _ {K : Type 0} {numbered : K → ℕ} {bytes : List ℕ} {low feature i : ℕ} {w : Walk} {top : FrameR K} {stored : List (FrameR K)} (whole : length bytes % 64 ≡ 0) (first : feature ≡ feature_in (record_of bytes 0)) (less : i < length bytes / 64) (a : Along numbered bytes low feature i w top stored) where
  within_list : i < records_in bytes
  within_list = omega (arith, whole_records bytes whole)

  -- ---- a fault, behind which only a malformed record is looked for
  fault_at : (e : Flat) → heard (record_of bytes i) ≡ WellFormed e → ((l : List Flat) → (alike (records_in bytes) 0 bytes feature && nested any_depth (a.puts (e ∷ l))) ≡ false) → {r : Refusal} → LaterOf bytes (i + 1) r → RefusedAs bytes r
  fault_at e is bad (later_malformed h) = malformed (listed_on bytes i within_list (events_in bytes) a.puts a.listing e is ∙ ap (lifted (λ l. a.puts (e ∷ l))) h)
  fault_at e is bad (later_events events h) = faulty (record {
    events = a.puts (e ∷ events);
    listing = listed_on bytes i within_list (events_in bytes) a.puts a.listing e is ∙ ap (lifted (λ l. a.puts (e ∷ l))) h;
    bad = subst (λ (n : ℕ). (alike (records_in bytes) 0 bytes n && nested any_depth (a.puts (e ∷ events))) ≡ false) first (bad events);
  })

  -- one that the machine refuses
  refused_at : (e : Flat) (v : Event) → heard (record_of bytes i) ≡ WellFormed e → read e ≡ v → ((f : Frame) (fs : List Frame) → On numbered low a.puts w top stored f fs → Refused (step any_depth (within f fs) v)) → {r : Refusal} → LaterOf bytes (i + 1) r → RefusedAs bytes r
  refused_at e v is reads stops = fault_at e is (λ l. ap (λ (b : Bool). alike (records_in bytes) 0 bytes feature && b) (falls a.stands l) ∙ and-false (alike (records_in bytes) 0 bytes feature))
    where
      falls : Stands numbered low a.puts w top stored → (l : List Flat) → nested any_depth (a.puts (e ∷ l)) ≡ false
      falls (on f fs o) l = refused_here o e v reads (stops f fs o) l
      falls (off o) l = nested-course any_depth (a.puts (e ∷ l)) ∙ ap closes (o.falls (e ∷ l))

  pub strange_stops : Behind (record_of bytes i) feature Strange → {r : Refusal} → LaterOf bytes (i + 1) r → RefusedAs bytes r
  strange_stops b = by-feature (eqb (feature_in (record_of bytes i)) feature) refl
    where
      by-feature : (own : Bool) → eqb (feature_in (record_of bytes i)) feature ≡ own → {r : Refusal} → LaterOf bytes (i + 1) r → RefusedAs bytes r
      by-feature true own = refused_at b.event (strange b.event.kind) b.is (b.sorted own) (λ f fs o. record { number = 21; is = refl })
      by-feature false own =
          fault_at b.event b.is (λ l. ap (λ (one : Bool). one && nested any_depth (a.puts (b.event ∷ l))) (alike_off bytes i within_list feature (alike (records_in bytes) 0 bytes feature) a.one own))

  pub malformed_stops : heard (take (64 * i + 64 - 64 * i) (drop (64 * i) bytes)) ≡ Unheard → RefusedAs bytes Malformed
  malformed_stops h = malformed (listed_none bytes i within_list (events_in bytes) a.puts a.listing (sym (ap heard (part_is bytes i)) ∙ h))

  counted_as : {t : Told} (b : Behind (record_of bytes i) feature t) {v : Event} → eqb (feature_in (record_of bytes i)) feature ≡ true → read b.event ≡ v → Counted bytes i feature b.event v
  counted_as b own reads = record { less = within_list; is = b.is; own = own; reads = reads }

  -- a pair that the machine takes, if its innermost frame is seen
  pub pair_on : {idx : ℕ} (b : Behind (record_of bytes i) feature (Pair idx)) → ((f : Frame) (fs : List Frame) → On numbered low a.puts w top stored f fs → In low (length fs) → pair_fits f b.sorted.1.x b.sorted.1.y idx ≡ true)
      → {r : Walk} → ((x y idx : ℕ) → Moved w (pair x y idx) w.height r) → {next : FrameR K} → ((g : Frame) → Is numbered top g → g.done < g.size → Is numbered next (one_more g)) → Along numbered bytes low feature (i + 1) r next stored
  pair_on {idx} b seen-fits {r} moved {next} more =
      let p = b.sorted.1 in
      counted a (counted_as b b.sorted.0 p.reads) (moved p.x p.y idx) (omega (arith, a.high, a.few)) (λ f fs o. go f fs o (pair_fits f p.x p.y idx) refl)
    where
      go : (f : Frame) (fs : List Frame) → On numbered low a.puts w top stored f fs → (fits : Bool) → pair_fits f b.sorted.1.x b.sorted.1.y idx ≡ fits → Stands numbered low (λ l. a.puts (b.event ∷ l)) r next stored
      go f fs o true fit =
          let p = b.sorted.1 in
          let room = ltb-true f.done f.size (five (of_pairs f.type) (ltb f.done f.size) (eqb idx f.done) (ltb p.x limit64) (ltb p.y limit64) fit).1 in
          taken_on o b.event (pair p.x p.y idx) p.reads (moved p.x p.y idx) (one_more f) fs (ap (λ (t : Bool). cond t (taken (within (one_more f) fs)) (refused 21)) fit) o.tall (λ seen. more f (o.innermost seen) room) o.kept
      go f fs o false fit =
          let p = b.sorted.1 in
          refused_on o b.event (pair p.x p.y idx) p.reads (moved p.x p.y idx) (record { number = 21; is = ap (λ (t : Bool). cond t (taken (within (one_more f) fs)) (refused 21)) fit })
          (λ seen. never (sym fit ∙ seen-fits f fs o seen)) a.high

  module _ {k : ℕ} (s : SlotOf low w.height k) (ok : Bool) where
    -- where the machine's innermost frame is seen, the test was made on it
    seen_here : (f : Frame) (fs : List Frame) → On numbered low a.puts w top stored f fs → In low (length fs) → In low w.height
    seen_here f fs o seen = subst (λ (n : ℕ). In low n) (sym o.tall) seen

    passed : (f : Frame) (fs : List Frame) (fits : Bool) → On numbered low a.puts w top stored f fs → (Is numbered top f → ok ≡ fits) → (ltb k 256 && not ok) ≡ false → fits ≡ false → In low (length fs) → ⊥
    passed f fs fits o asked passes no-fit seen = never (sym no-fit ∙ sym (asked (o.innermost seen)) ∙ seen_passes low w.height k s (seen_here f fs o seen) ok passes)

    failed : (f : Frame) (fs : List Frame) (fits : Bool) → On numbered low a.puts w top stored f fs → (Is numbered top f → ok ≡ fits) → (ltb k 256 && not ok) ≡ true → fits ≡ false
    failed f fs fits o asked fails =
        let t = seen_fails low w.height k s ok fails in
        sym (asked (o.innermost (subst (λ (n : ℕ). In low n) o.tall t.seen))) ∙ t.fails

    -- ---- a pair
    module _ {idx : ℕ} (b : Behind (record_of bytes i) feature (Pair idx)) (asked : (g : Frame) → Is numbered top g → (x y : ℕ) → x < limit64 → y < limit64 → ok ≡ pair_fits g x y idx) where
      pub pair_stops : (ltb k 256 && not ok) ≡ true → {r : Refusal} → LaterOf bytes (i + 1) r → RefusedAs bytes r
      pair_stops fails =
          let p = b.sorted.1 in
          refused_at b.event (pair p.x p.y idx) b.is p.reads (λ f fs o. record {
            number = 21;
            is = ap (λ (t : Bool). cond t (taken (within (one_more f) fs)) (refused 21)) (failed f fs (pair_fits f p.x p.y idx) o (λ is. asked f is p.x p.y p.x_fits p.y_fits) fails);
          })

      pub pair_counts : (ltb k 256 && not ok) ≡ false → {r : Walk} → ((x y idx : ℕ) → Moved w (pair x y idx) w.height r) → {next : FrameR K} → ((g : Frame) → Is numbered top g → g.done < g.size → Is numbered next (one_more g)) → Along numbered bytes low feature (i + 1) r next stored
      pair_counts passes moved more =
          let p = b.sorted.1 in
          pair_on b (λ f fs o seen. sym (asked f (o.innermost seen) p.x p.y p.x_fits p.y_fits) ∙ seen_passes low w.height k s (seen_here f fs o seen) ok passes) moved more

    -- ---- a begin
    module _ {kind : GeometryType} {tagged : Bool} {size idx : ℕ} (b : Behind (record_of bytes i) feature (Begin kind tagged size idx))
        (asked : (g : Frame) → Is numbered top g → (level : ℕ) → ok ≡ begins (ample true true) level g kind tagged size idx) where
      asked_so : (f : Frame) (level : ℕ) → Is numbered top f → ok ≡ begins any_depth level f kind tagged size idx
      asked_so f level is = asked f is level ∙ ap (λ (R : Rules). begins R level f kind tagged size idx) (rules_of_lem (λ level. false))

      pub begin_stops : (ltb k 256 && not ok) ≡ true → {r : Refusal} → LaterOf bytes (i + 1) r → RefusedAs bytes r
      begin_stops fails =
          refused_at b.event (begin kind tagged size idx) b.is b.sorted.1
          (λ f fs o. begin-refused any_depth (place any_depth f.type (suc (length fs)) kind size) f fs kind tagged size idx (failed f fs (begins any_depth (suc (length fs)) f kind tagged size idx) o (asked_so f (suc (length fs))) fails))

      pub begin_counts : (ltb k 256 && not ok) ≡ false → k < length stored → {r : Walk} → ((idx : ℕ) → Moved w (begin kind tagged size idx) (w.height + 1) r)
          → {next : FrameR K} → Is numbered next (frame kind tagged idx (count kind size) 0) → Along numbered bytes low feature (i + 1) r next (set stored k top)
      begin_counts passes room {r} moved {next} opened =
          counted a (counted_as b b.sorted.0 b.sorted.1) (moved idx) (omega (arith, a.high, a.few)) (λ f fs o. go f fs o (begins any_depth (suc (length fs)) f kind tagged size idx) refl)
        where
          go : (f : Frame) (fs : List Frame) → On numbered low a.puts w top stored f fs → (fits : Bool) → begins any_depth (suc (length fs)) f kind tagged size idx ≡ fits → Stands numbered low (λ l. a.puts (b.event ∷ l)) r next (set stored k top)
          go f fs o true fit =
              taken_on o b.event (begin kind tagged size idx) b.sorted.1 (moved idx) (frame kind tagged idx (count kind size) 0) (f ∷ fs)
              (begin_goes any_depth (place any_depth f.type (suc (length fs)) kind size) f fs kind tagged size idx fit)
              (omega (arith, o.tall)) (λ seen. opened)
              (kept_on numbered low k top stored f fs room (subst (λ (n : ℕ). SlotOf low n k) o.tall s) o.innermost o.kept)
          go f fs o false fit =
              refused_on o b.event (begin kind tagged size idx) b.sorted.1 (moved idx)
              (begin-refused any_depth (place any_depth f.type (suc (length fs)) kind size) f fs kind tagged size idx fit)
              (passed f fs (begins any_depth (suc (length fs)) f kind tagged size idx) o (asked_so f (suc (length fs))) passes fit) a.high

    -- ---- an end
    module _ {kind : GeometryType} {tagged : Bool} {idx : ℕ} (b : Behind (record_of bytes i) feature (End kind tagged idx)) (asked : (g : Frame) → Is numbered top g → ok ≡ end_fits g kind tagged idx) where
      pub end_stops : (eqb w.height 0 || (ltb k 256 && not ok)) ≡ true → {r : Refusal} → LaterOf bytes (i + 1) r → RefusedAs bytes r
      end_stops fails = refused_at b.event (end kind tagged idx) b.is b.sorted.1 stops
        where
          stops : (f : Frame) (fs : List Frame) → On numbered low a.puts w top stored f fs → Refused (step any_depth (within f fs) (end kind tagged idx))
          stops f [] o = record { number = 21; is = refl }
          stops f (g ∷ fs) o =
              let open_still : eqb w.height 0 ≡ false = ne_eqb w.height 0 (λ z. omega (arith, o.tall, z)) in
              record {
                number = 21;
                is = ap (λ (t : Bool). cond t (taken (within (one_more g) fs)) (refused 21)) (failed f (g ∷ fs) (end_fits f kind tagged idx) o (asked f) (other (eqb w.height 0) (ltb k 256 && not ok) open_still fails));
              }

      pub end_counts : (eqb w.height 0 || (ltb k 256 && not ok)) ≡ false → {j : ℕ} → SlotOf low (w.height - 1) j → {r : Walk} → ((kind : GeometryType) (tagged : Bool) (idx : ℕ) → Moved w (end kind tagged idx) (w.height - 1) r)
          → {next : FrameR K} (d : FrameR K) → ((g : Frame) → Is numbered (get_or stored j d) g → g.done < g.size → Is numbered next (one_more g)) → Along numbered bytes low feature (i + 1) r next stored
      end_counts passes {j} below {r} moved {next} d more =
          counted a (counted_as b b.sorted.0 b.sorted.1) (moved kind tagged idx) (omega (arith, a.high, a.few)) go
        where
          sound : (f g : Frame) (fs : List Frame) → On numbered low a.puts w top stored f (g ∷ fs) → g.done < g.size
          sound f g fs o = (reached_sound any_depth (map read (a.puts [])) (within f (g ∷ fs)) (run-reached any_depth (map read (a.puts [])) (within f (g ∷ fs)) (o.goes [] ∙ course_none any_depth (within f (g ∷ fs))))).1.1

          again : (f g : Frame) (fs : List Frame) → On numbered low a.puts w top stored f (g ∷ fs) → In low (length fs) → Is numbered next (one_more g)
          again f g fs o seen =
              let lower : w.height - 1 ≡ length fs = omega (arith, o.tall) in
              let place : j ≡ length fs - low = below.seen (subst (λ (n : ℕ). In low n) (sym lower) seen) ∙ ap (λ (n : ℕ). n - low) lower in
              more g (subst (λ (n : ℕ). Is numbered (get_or stored n d) g) (sym place) (o.kept.0 seen d)) (sound f g fs o)

          by-test : (f g : Frame) (fs : List Frame) → On numbered low a.puts w top stored f (g ∷ fs) → (fits : Bool) → end_fits f kind tagged idx ≡ fits → Stands numbered low (λ l. a.puts (b.event ∷ l)) r next stored
          by-test f g fs o true fit =
              taken_on o b.event (end kind tagged idx) b.sorted.1 (moved kind tagged idx) (one_more g) fs (ap (λ (t : Bool). cond t (taken (within (one_more g) fs)) (refused 21)) fit) (omega (arith, o.tall)) (again f g fs o) o.kept.1
          by-test f g fs o false fit =
              refused_on o b.event (end kind tagged idx) b.sorted.1 (moved kind tagged idx) (record { number = 21; is = ap (λ (t : Bool). cond t (taken (within (one_more g) fs)) (refused 21)) fit })
              (passed f (g ∷ fs) (end_fits f kind tagged idx) o (asked f) (neither (eqb w.height 0) (ltb k 256 && not ok) passes).1 fit) a.high

          go : (f : Frame) (fs : List Frame) → On numbered low a.puts w top stored f fs → Stands numbered low (λ l. a.puts (b.event ∷ l)) r next stored
          go f [] o = absurd (eqb-false w.height 0 (neither (eqb w.height 0) (ltb k 256 && not ok) passes).0 o.tall)
          go f (g ∷ fs) o = by-test f g fs o (end_fits f kind tagged idx) refl

-- ---- where it starts
pub begun : {K : Type 0} {numbered : K → ℕ} {bytes : List ℕ} {low feature : ℕ} {w : Walk} {top : FrameR K} {stored : List (FrameR K)} → w ≡ started → Is numbered top (outside 0) → Along numbered bytes low feature 0 w top stored
begun {K} {numbered} {bytes} {low} {feature} {w} {top} {stored} e is = subst (λ (w : Walk). Along numbered bytes low feature 0 w top stored) (sym e) (record {
  puts = λ l. l;
  listing = ap (λ (n : ℕ). listed n 0 bytes) (sym (sub-zero (records_in bytes))) ∙ lifted_self (listed (records_in bytes - 0) 0 bytes);
  one = ap (λ (n : ℕ). alike n 0 bytes feature) (sym (sub-zero (records_in bytes)));
  long = λ l. omega arith;
  high = omega arith;
  few = omega arith;
  short = omega arith;
  stands = on (outside 0) [] (record { goes = λ l. refl; shallow = λ l. refl; tall = refl; innermost = λ seen. is; kept = tt });
})

-- ---- where it ends
spelled_none : (n : ℕ) (k : Around) → n + length (spelled k []) ≡ n
unfolding spelled
spelled_none n k = omega arith

deep_is : (puts : List Flat → List Flat) (s : State) → closes (reached s) ≡ true → (deep : Bool) → Shallow deep puts s → deep ≡ not (nested sixteen (puts []))
deep_is puts s done true h = sym (ap not (nested-course sixteen (puts []) ∙ h []))
deep_is puts s done false h = sym (ap not (nested-course sixteen (puts []) ∙ ap closes (h [] ∙ course_none sixteen s) ∙ done))

module _ {K : Type 0} {numbered : K → ℕ} {bytes : List ℕ} {low feature i : ℕ} {w : Walk} {top : FrameR K} {stored : List (FrameR K)} (whole : length bytes % 64 ≡ 0) (first : feature ≡ feature_in (record_of bytes 0)) (few : i ≤ length bytes / 64) (over : length bytes / 64 ≤ i) (a : Along numbered bytes low feature i w top stored) where
  no_more : records_in bytes ≤ i
  no_more = omega (arith, whole_records bytes whole)

  all_listed : events_in bytes ≡ some (a.puts [])
  all_listed = listed-ends bytes i no_more (events_in bytes) a.puts a.listing

  stood_at : (f : Frame) (fs : List Frame) → On numbered low a.puts w top stored f fs → course any_depth (map read (a.puts [])) start ≡ reached (within f fs)
  stood_at f fs o = o.goes [] ∙ course_none any_depth (within f fs)

  -- the lowest window sees whether the machine is closed
  closed-by : low ≡ 0 → (f : Frame) (fs : List Frame) → On numbered low a.puts w top stored f fs → closes (reached (within f fs)) ≡ (eqb w.height 0 && eqb top.done 1)
  closed-by zero-low f [] o =
      let seen : In low 0 = (omega (arith, zero-low), omega arith) in
      sym (ap (λ (n : ℕ). eqb n 0 && eqb top.done 1) o.tall ∙ ap (λ (n : ℕ). eqb n 1) (o.innermost seen).done)
  closed-by zero-low f (g ∷ fs) o = sym (ap (λ (b : Bool). b && eqb top.done 1) (ne_eqb w.height 0 (λ z. omega (arith, o.tall, z))))

  pub ends_open : (eqb low 0 && not (eqb w.height 0 && eqb top.done 1)) ≡ true → RefusedAs bytes BadlyNested
  ends_open h =
      let t = both (eqb low 0) (not (eqb w.height 0 && eqb top.done 1)) h in
      faulty (record {
        events = a.puts [];
        listing = all_listed;
        bad = ap (λ (b : Bool). one_feature bytes && b) (nested-course any_depth (a.puts []) ∙ falls (eqb-true low 0 t.0) (not-true (eqb w.height 0 && eqb top.done 1) t.1) a.stands) ∙ and-false (one_feature bytes);
      })
    where
      falls : low ≡ 0 → (eqb w.height 0 && eqb top.done 1) ≡ false → Stands numbered low a.puts w top stored → closes (course any_depth (map read (a.puts [])) start) ≡ false
      falls zero-low not_yet (on f fs o) = ap closes (stood_at f fs o) ∙ closed-by zero-low f fs o ∙ not_yet
      falls zero-low not_yet (off o) = ap closes (o.falls [])

  pub ends_sound : (eqb low 0 && not (eqb w.height 0 && eqb top.done 1)) ≡ false → Passed bytes low w.highest w.deep w.length
  ends_sound h = record {
    events = a.puts [];
    listing = all_listed;
    one = subst (λ (n : ℕ). alike (records_in bytes) 0 bytes n ≡ true) first (alike-ends bytes i no_more feature (alike (records_in bytes) 0 bytes feature) a.one);
    few = omega (arith, a.few);
    long_is = sym (a.long [] ∙ spelled_none w.length w.around);
    ends = by_state a.stands;
  }
    where
      closed_so : low ≡ 0 → (eqb w.height 0 && eqb top.done 1) ≡ true
      closed_so zero-low = not-false (eqb w.height 0 && eqb top.done 1) (sym (ap (λ (n : ℕ). eqb n 0 && not (eqb w.height 0 && eqb top.done 1)) zero-low) ∙ h)

      by_state : Stands numbered low a.puts w top stored → Ends (a.puts []) low w.highest w.deep
      by_state (on f fs o) =
          stood (within f fs) (stood_at f fs o) (λ zero-low.
          let done = closed-by zero-low f fs o ∙ closed_so zero-low in
          (nested-course any_depth (a.puts []) ∙ ap closes (stood_at f fs o) ∙ done, deep_is a.puts (within f fs) done w.deep o.shallow))
      by_state (off o) = beyond o.height (o.falls []) o.unseen o.most
