-- A run of plain events: where a writer is ready, each is held to one number, and asks for room in the pools that it adds to and for nothing else.
use Rattle.std.specs.Prelude.{◌≡◌, Bool, ◌&&◌, List, [], ◌∷◌, ℕ, suc, ◌+◌, ◌-◌, ◌*◌, ◌/◌, ◌≤◌, ◌<◌, eqb, length, take, drop}
use Rattle.std.proofs.Math.Path.{refl, sym, ap}
use Rattle.std.proofs.Common.{subst, ◌∙◌, arith, eqb-true, ne_eqb}
use Rattle.std.proofs.Math.Bool.{true, false, cond}
use Rattle.std.proofs.lemmas.List.Edits.{sets}
use Rattle.std.proofs.Math.Seq.{length-sets}
use Rattle.laws.specs.Every.{both}
use Rattle.kinds.specs.LaneLaws.{by_lane}
use Rattle.kinds.specs.Event.{WellFormed, Malformed}
use Rattle.kinds.specs.Lanes.{xyL, endsL, zL, mL, tL, tmL, Lent}
use Rattle.kinds.specs.declared.event.Event.{Event}
use Rattle.store.specs.Lists.{pools_of, lent_of}
use Rattle.event_log.specs.Log.{heard, feature_in, record_of, records_in}
use Rattle.event_log.specs.LogLaws.{HeardPair, HeardCoordinate, HeardQuiet}
use Rattle.store.specs.Records.{records_lent}
use Rattle.asking.specs.Ask.{Added, no_words, pair_with}
use Rattle.runs.specs.declared.run.Reached.{Reached}
use Rattle.runs.specs.declared.run.Stop.{Stop}
use Rattle.runs.specs.declared.run.Stop.TheVariants.{End, Blocked, Other, Malformed as Unheard}
use Rattle.pending.specs.Words.{Pending, words, used}
use Rattle.writing.specs.declared.state.State.{State}
use Rattle.pending.specs.declared.words.Words.{Words}
use Rattle.writing.specs.State.{Wrote, records_used, Mem, mem_of, Outcome, outcome, settled, wrote}
use Rattle.writing.specs.Feature.{belongs}
use Rattle.pending.specs.Room.{room_in, has_room, and_true, room_tested, room_apart, ValuesFit, room_in_lem}
use Rattle.writing.specs.Calls.{is_ready, table_after, mem_after, event_with, event_call}
use Rattle.pending.specs.Growth.{grown, grown_all, grown_values}
use Rattle.pools.specs.declared.pools_mut.PoolsMut.{PoolsMut}
use Rattle.runs.specs.declared.values_mut.ValuesMut.{ValuesMut}
use Rattle.writing.specs.Ends.{well_formed_lem, another_feature}
use Rattle.runs.specs.Events.{events_from, went_on}
use Rattle.runs.specs.Plain.{blocked_by, blocked_refuses, blocked_number, amid, PlainEvent, pair-plain, coordinate-plain, quiet_plain, plain_decides}
use Rattle.writing.specs.Ready.{same-ready, event-ready}
use Rattle.writing.specs.Apart.{is-ready}

-- ---- the lent memory as a run has it: the pools of pairs and values, apart from the table and the ends
pub record Values : Type 0 where
  pub xy : List ℕ
  pub z : List ℕ
  pub m : List ℕ
  pub t : List ℕ
  pub tm : List ℕ

abbrev pub values_of : List ℕ → List ℕ → List ℕ → List ℕ → List ℕ → Values
values_of xy z m t tm = record { xy = xy; z = z; m = m; t = t; tm = tm }

abbrev pub values_in : PoolsMut → Values
values_in p = values_of p.xy.now p.z.now p.m.now p.t.now p.tm.now

abbrev pub values_now : ValuesMut → Values
values_now v = values_of v.xy.now v.z.now v.m.now v.t.now v.tm.now

-- the same slices
pub record SameValues (before after : ValuesMut) : Type 0 where
  pub xy : after.xy.ghost_name ≡ before.xy.ghost_name
  pub z : after.z.ghost_name ≡ before.z.ghost_name
  pub m : after.m.ghost_name ≡ before.m.ghost_name
  pub t : after.t.ghost_name ≡ before.t.ghost_name
  pub tm : after.tm.ghost_name ≡ before.tm.ghost_name

abbrev pub mem_with : List ℕ → List ℕ → Values → Mem
mem_with table ends v = mem_of table v.xy ends v.z v.m v.t v.tm

abbrev pub lent_with : List ℕ → Values → Lent
lent_with ends v = lent_of (pools_of v.xy ends v.z v.m v.t v.tm)

-- no plain event adds an end
abbrev values_with : Bool → Bool → Bool → Bool → Bool → Added
values_with xy z m t tm = record { xy = xy; ends = false; z = z; m = m; t = t; tm = tm }

-- a pair and its values laid down behind the pending words
abbrev pub pushed : Values → Pending → Added → Event → Values
pushed v p a e =
    values_of
    (sets v.xy (used p.xy) (cond a.xy (e.x ∷ e.y ∷ []) []))
    (sets v.z (used p.z) (cond a.z (e.z ∷ []) []))
    (sets v.m (used p.m) (cond a.m (e.m ∷ []) []))
    (sets v.t (used p.t) (cond a.t (e.t ∷ []) []))
    (sets v.tm (used p.tm) (cond a.tm (e.tm ∷ []) []))

-- ---- the tests of room: for a coordinate,
abbrev pub values_room : Pending → Added → ℕ → ℕ → ℕ → ℕ → ℕ → Bool
values_room p a xy z m t tm =
    room_in (used p.xy + cond a.xy 2 0) xy 131072
    && room_in (used p.z + cond a.z 1 0) z 65536
    && room_in (used p.m + cond a.m 1 0) m 65536
    && room_in (used p.t + cond a.t 1 0) t 65536
    && room_in (used p.tm + cond a.tm 1 0) tm 65536

-- in pools that hold such values
abbrev pub lent_values : Values → Pending → Added → Bool
lent_values v p a = values_room p a (length v.xy) (length v.z) (length v.m) (length v.t) (length v.tm)

-- room for a pair
abbrev pub pair_room : Pending → ℕ → Bool
pair_room p xy = room_in (used p.xy + 2) xy 131072

-- what they tell
pub record ValuesTold (p : Pending) (a : Added) (xy z m t tm : ℕ) : Type 0 where
  pub fits : ValuesFit p a
  pub in_xy : used p.xy + cond a.xy 2 0 ≤ xy
  pub in_z : used p.z + cond a.z 1 0 ≤ z
  pub in_m : used p.m + cond a.m 1 0 ≤ m
  pub in_t : used p.t + cond a.t 1 0 ≤ t
  pub in_tm : used p.tm + cond a.tm 1 0 ≤ tm

pub values-told : (p : Pending) (a : Added) (xy z m t tm : ℕ) → values_room p a xy z m t tm ≡ true → ValuesTold p a xy z m t tm
values-told p a xy z m t tm h =
    let t-tm = both _ (room_in (used p.tm + cond a.tm 1 0) tm 65536) h in
    let t-t = both _ (room_in (used p.t + cond a.t 1 0) t 65536) t-tm.0 in
    let t-m = both _ (room_in (used p.m + cond a.m 1 0) m 65536) t-t.0 in
    let t-z = both (room_in (used p.xy + cond a.xy 2 0) xy 131072) (room_in (used p.z + cond a.z 1 0) z 65536) t-m.0 in
    let in_xy = room_in_lem _ _ _ t-z.0 in
    let in_z = room_in_lem _ _ _ t-z.1 in
    let in_m = room_in_lem _ _ _ t-m.1 in
    let in_t = room_in_lem _ _ _ t-t.1 in
    let in_tm = room_in_lem _ _ _ t-tm.1 in
    record {
      fits = record { xy = in_xy.1; z = in_z.1; m = in_m.1; t = in_t.1; tm = in_tm.1 };
      in_xy = in_xy.0;
      in_z = in_z.0;
      in_m = in_m.0;
      in_t = in_t.0;
      in_tm = in_tm.0;
    }

-- ---- a test is what a plain event's room comes to, where the writer has room for what it uses
abbrev Apart : Pending → Values → Added → Bool → Type 0
Apart p v a test =
    (records : ℕ) (table ends : List ℕ)
    → has_room p a records (records_lent table) (lent_with ends v) ≡ (has_room p no_words records (records_lent table) (lent_with ends v) && test)

quiet_apart : (p : Pending) (v : Values) → Apart p v no_words true
quiet_apart p v records table ends = room_apart p no_words records records _ _ true (omega arith) (λ r. refl) (λ r t. r)

pair_apart : (p : Pending) (v : Values) → Apart p v (pair_with 0) (pair_room p (length v.xy))
pair_apart p v records table ends =
    room_apart p (pair_with 0) records records _ _ _ (omega arith)
    (λ r. room_tested (r.words xyL) (r.fits xyL))
    (λ r t.
    let xy = room_in_lem _ _ _ t in
    record {
      table = r.table;
      records_fit = r.records_fit;
      words = by_lane _ xy.0 (r.words endsL) (r.words zL) (r.words mL) (r.words tL) (r.words tmL);
      fits = by_lane _ xy.1 (r.fits endsL) (r.fits zL) (r.fits mL) (r.fits tL) (r.fits tmL);
    })

values_apart : (p : Pending) (v : Values) (xy z m t tm : Bool) → Apart p v (values_with xy z m t tm) (values_room p (values_with xy z m t tm) (length v.xy) (length v.z) (length v.m) (length v.t) (length v.tm))
values_apart p v xy z m t tm records table ends =
    room_apart p (values_with xy z m t tm) records records _ _ _ (omega arith)
    (λ r. and_true (and_true (and_true (and_true (room_tested (r.words xyL) (r.fits xyL)) (room_tested (r.words zL) (r.fits zL))) (room_tested (r.words mL) (r.fits mL))) (room_tested (r.words tL) (r.fits tL))) (room_tested (r.words tmL) (r.fits tmL)))
    (λ r test.
    let told = values-told p (values_with xy z m t tm) _ _ _ _ _ test in
    let fit = told.fits in
    record {
      table = r.table;
      records_fit = r.records_fit;
      words = by_lane _ told.in_xy (r.words endsL) told.in_z told.in_m told.in_t told.in_tm;
      fits = by_lane _ fit.xy (r.fits endsL) fit.z fit.m fit.t fit.tm;
    })

-- ---- what a plain event comes to, from the test of readiness and its own
refused_so : (s : State) (n : ℕ) (k after : Mem) → settled (wrote (blocked_number s n) s) k after ≡ outcome (wrote (blocked_number s n) s) k
refused_so s n k after = ap (λ (done : Bool). outcome (wrote (blocked_number s n) s) (cond done after k)) (ne_eqb (blocked_number s n) 0 (blocked_refuses s.waiting (belongs s.feature n)))

module _ (s : State) (table ends : List ℕ) (v : Values) (xy z m t tm : Bool) (ready test : Bool) (tells : is_ready s (records_lent table) (lent_with ends v) ≡ ready) (apart : Apart s.pending v (values_with xy z m t tm) test) where
  comes_to : (bytes : List ℕ) (n : ℕ) (e : Event) → n ≡ feature_in bytes → PlainEvent bytes (values_with xy z m t tm) e
      → cond (belongs s.feature n && ready && test)
      (outcome (wrote 0 (amid s n (grown_all s.pending (values_with xy z m t tm)))) (mem_with table ends (pushed v s.pending (values_with xy z m t tm) e)))
      (outcome (wrote (blocked_number s n) s) (mem_with table ends v))
      ≡ event_call s (mem_with table ends v) bytes
  unfolding event_with mem_after table_after
  comes_to bytes n e number event =
      by_tests (belongs s.feature n && ready && test)
      ∙ ap (λ (w : Wrote). settled w (mem_with table ends v) (mem_with table ends (pushed v s.pending (values_with xy z m t tm) e))) (plain_decides s n (values_with xy z m t tm) (records_lent table) (lent_with ends v) ready test tells (apart (records_used s) table ends))
      ∙ (λ i. event_with s (number i) (sym (event.asks s) i) e (mem_with table ends v))
      ∙ well_formed_lem s (mem_with table ends v) e bytes (sym event.is) refl refl
    where
      by_tests : (b : Bool)
          → cond b
          (outcome (wrote 0 (amid s n (grown_all s.pending (values_with xy z m t tm)))) (mem_with table ends (pushed v s.pending (values_with xy z m t tm) e)))
          (outcome (wrote (blocked_number s n) s) (mem_with table ends v))
          ≡ settled (cond b (wrote 0 (amid s n (grown_all s.pending (values_with xy z m t tm)))) (wrote (blocked_number s n) s)) (mem_with table ends v) (mem_with table ends (pushed v s.pending (values_with xy z m t tm) e))
      by_tests true = refl
      by_tests false = sym (refused_so s n (mem_with table ends v) (mem_with table ends (pushed v s.pending (values_with xy z m t tm) e)))

-- the bytes of a whole record
pub whole_record : (bytes : List ℕ) (i : ℕ) → take (64 * i + 64 - 64 * i) (drop (64 * i) bytes) ≡ record_of bytes i
whole_record bytes i = let wide : 64 * i + 64 - 64 * i ≡ 64 = omega arith in ap (λ (n : ℕ). take n (drop (64 * i) bytes)) wide

-- ---- a run of the events of the feature in hand, from a record on: what is left to do comes to the same, in every state and memory that the run knows nothing of
pub record Run (bytes : List ℕ) (ready : Bool) (held from : ℕ) (p : Pending) (v : Values) (taken : ℕ) (p' : Pending) (v' : Values) : Type 0 where
  pub begun : from ≤ taken
  pub within : taken ≤ length bytes / 64
  pub long_xy : length v'.xy ≡ length v.xy
  pub long_z : length v'.z ≡ length v.z
  pub long_m : length v'.m ≡ length v.m
  pub long_t : length v'.t ≡ length v.t
  pub long_tm : length v'.tm ≡ length v.tm
  pub still : (s : State) (table ends : List ℕ) → is_ready (amid s held p) (records_lent table) (lent_with ends v) ≡ ready → is_ready (amid s held p') (records_lent table) (lent_with ends v') ≡ ready
  pub rest : (s : State) (table ends : List ℕ) → is_ready (amid s held p) (records_lent table) (lent_with ends v) ≡ ready
      → events_from (records_in bytes - taken) taken bytes (amid s held p') (mem_with table ends v') ≡ events_from (records_in bytes - from) from bytes (amid s held p) (mem_with table ends v)

-- why it stops
pub record BlockedAt (bytes : List ℕ) (ready : Bool) (held taken : ℕ) (own : Bool) (p : Pending) (v : Values) : Type 0 where
  pub more_left : taken < length bytes / 64
  pub answers : (s : State) (table ends : List ℕ) → is_ready (amid s held p) (records_lent table) (lent_with ends v) ≡ ready
      → outcome (wrote (blocked_by s.waiting own) (amid s held p)) (mem_with table ends v) ≡ event_call (amid s held p) (mem_with table ends v) (record_of bytes taken)

abbrev pub Stopped : List ℕ → Bool → ℕ → ℕ → Pending → Values → Stop → Type 0
Stopped bytes ready held taken p v End = taken ≡ length bytes / 64
Stopped bytes ready held taken p v (Blocked own) = BlockedAt bytes ready held taken own p v
Stopped bytes ready held taken p v (Other e) = (taken < length bytes / 64) × (heard (record_of bytes taken) ≡ WellFormed e) × (e.kind < 64) × (held ≡ feature_in (record_of bytes taken))
Stopped bytes ready held taken p v Unheard = (taken < length bytes / 64) × (heard (record_of bytes taken) ≡ Malformed)

pub record Ran (bytes : List ℕ) (ready : Bool) (held from : ℕ) (p : Pending) (v : Values) (r : Reached) (v' : Values) : Type 0 where
  pub run : Run bytes ready held from p v r.taken r.pending v'
  pub stop : Stopped bytes ready held r.taken r.pending v' r.stop

-- with the reason known
pub stopped_by : {bytes : List ℕ} {ready : Bool} {held from : ℕ} {p : Pending} {v : Values} {r : Reached} {v' : Values} {stop : Stop} → Ran bytes ready held from p v r v' → r.stop ≡ stop → Stopped bytes ready held r.taken r.pending v' stop
stopped_by {bytes} {ready} {held} {r = r} {v' = v'} ran is = subst (λ (x : Stop). Stopped bytes ready held r.taken r.pending v' x) is ran.stop

pub none_taken : (bytes : List ℕ) (ready : Bool) (held from : ℕ) (p : Pending) (v : Values) → from ≤ length bytes / 64 → Run bytes ready held from p v from p v
none_taken bytes ready held from p v within =
    record { begun = omega arith; within = within; long_xy = refl; long_z = refl; long_m = refl; long_t = refl; long_tm = refl; still = λ s table ends tells. tells; rest = λ s table ends tells. refl }

module _ {bytes : List ℕ} {ready : Bool} {held from : ℕ} {p : Pending} {v : Values} {taken : ℕ} {p' : Pending} {v' : Values} (so_far : Run bytes ready held from p v taken p' v') (more_left : taken < length bytes / 64) where
  module _ (xy z m t tm : Bool) (n : ℕ) (e : Event) (test : Bool) (number : n ≡ feature_in (record_of bytes taken)) (event : PlainEvent (record_of bytes taken) (values_with xy z m t tm) e) (apart : Apart p' v' (values_with xy z m t tm) test) where
    one_more_lem : (eqb n held && ready && test) ≡ true → Run bytes ready held from p v (taken + 1) (grown_all p' (values_with xy z m t tm)) (pushed v' p' (values_with xy z m t tm) e)
    one_more_lem ok =
        record {
          begun = omega (arith, so_far.begun);
          within = omega (arith, more_left);
          long_xy = same_xy ∙ so_far.long_xy;
          long_z = same_z ∙ so_far.long_z;
          long_m = same_m ∙ so_far.long_m;
          long_t = same_t ∙ so_far.long_t;
          long_tm = same_tm ∙ so_far.long_tm;
          still = λ s table ends tells.
              let is = taken_so s table ends (so_far.still s table ends tells) in
              is-ready (amid s held (grown_all p' (values_with xy z m t tm))) (records_lent table) (lent_with ends (pushed v' p' (values_with xy z m t tm) e))
              (same-ready (ap (λ (o : Outcome). o.wrote.state) (sym is)) refl (same_lent ends)
              (event-ready (amid s held p') (mem_with table ends v') (record_of bytes taken) (ap (λ (o : Outcome). o.wrote.number) (sym is))))
              ∙ sym (both (eqb n held) ready (both (eqb n held && ready) test ok).0).1;
          rest = λ s table ends tells.
              let is = taken_so s table ends (so_far.still s table ends tells) in
              let left : ℕ = records_in bytes - (taken + 1) in
              let one_less : suc left ≡ records_in bytes - taken = omega (arith, more_left) in
              went_on left taken bytes (amid s held p') (mem_with table ends v') is refl
              ∙ ap (λ (n : ℕ). events_from n taken bytes (amid s held p') (mem_with table ends v')) one_less
              ∙ so_far.rest s table ends tells;
        }
      where
        same_xy : length (sets v'.xy (used p'.xy) (cond xy (e.x ∷ e.y ∷ []) [])) ≡ length v'.xy
        same_xy = length-sets v'.xy (used p'.xy) (cond xy (e.x ∷ e.y ∷ []) [])

        same_z : length (sets v'.z (used p'.z) (cond z (e.z ∷ []) [])) ≡ length v'.z
        same_z = length-sets v'.z (used p'.z) (cond z (e.z ∷ []) [])

        same_m : length (sets v'.m (used p'.m) (cond m (e.m ∷ []) [])) ≡ length v'.m
        same_m = length-sets v'.m (used p'.m) (cond m (e.m ∷ []) [])

        same_t : length (sets v'.t (used p'.t) (cond t (e.t ∷ []) [])) ≡ length v'.t
        same_t = length-sets v'.t (used p'.t) (cond t (e.t ∷ []) [])

        same_tm : length (sets v'.tm (used p'.tm) (cond tm (e.tm ∷ []) [])) ≡ length v'.tm
        same_tm = length-sets v'.tm (used p'.tm) (cond tm (e.tm ∷ []) [])

        same_lent : (ends : List ℕ) → lent_with ends v' ≡ lent_with ends (pushed v' p' (values_with xy z m t tm) e)
        same_lent ends = sym (λ i. record { xy = same_xy i; ends = length ends; z = same_z i; m = same_m i; t = same_t i; tm = same_tm i })

        same_number : n ≡ held
        same_number = eqb-true n held (both (eqb n held) ready (both (eqb n held && ready) test ok).0).0

        taken_so : (s : State) (table ends : List ℕ) → is_ready (amid s held p') (records_lent table) (lent_with ends v') ≡ ready
            → outcome (wrote 0 (amid s held (grown_all p' (values_with xy z m t tm)))) (mem_with table ends (pushed v' p' (values_with xy z m t tm) e)) ≡ event_call (amid s held p') (mem_with table ends v') (record_of bytes taken)
        taken_so s table ends tells =
            ap (λ (k : ℕ). outcome (wrote 0 (amid s k (grown_all p' (values_with xy z m t tm)))) (mem_with table ends (pushed v' p' (values_with xy z m t tm) e))) (sym same_number)
            ∙ ap (λ (b : Bool). cond b (outcome (wrote 0 (amid s n (grown_all p' (values_with xy z m t tm)))) (mem_with table ends (pushed v' p' (values_with xy z m t tm) e))) (outcome (wrote (blocked_number (amid s held p') n) (amid s held p')) (mem_with table ends v'))) (sym ok)
            ∙ comes_to (amid s held p') table ends v' xy z m t tm ready test tells apart (record_of bytes taken) n e number event

    blocked : (eqb n held && ready && test) ≡ false → BlockedAt bytes ready held taken (eqb n held) p' v'
    blocked not_so =
        record {
          more_left = more_left;
          answers = λ s table ends tells.
              ap (λ (b : Bool). cond b (outcome (wrote 0 (amid s n (grown_all p' (values_with xy z m t tm)))) (mem_with table ends (pushed v' p' (values_with xy z m t tm) e))) (outcome (wrote (blocked_number (amid s held p') n) (amid s held p')) (mem_with table ends v'))) (sym not_so)
              ∙ comes_to (amid s held p') table ends v' xy z m t tm ready test tells apart (record_of bytes taken) n e number event;
        }

-- ---- each of the three: a pair,
same : (p : Words) → p ≡ grown p 0
same p = let is : p.count ≡ p.count + 0 = omega arith in λ i. words p.start (is i)

grown_lanes : (p : Pending) (a : Added) → a.ends ≡ false → grown_values p a ≡ grown_all p a
unfolding grown_all
grown_lanes p a no_end =
    let ends : p.ends ≡ grown p.ends (cond a.ends 1 0) = same p.ends ∙ ap (λ (b : Bool). grown p.ends (cond b 1 0)) (sym no_end) in
    λ i. record { xy = grown p.xy (cond a.xy 2 0); ends = ends i; z = grown p.z (cond a.z 1 0); m = grown p.m (cond a.m 1 0); t = grown p.t (cond a.t 1 0); tm = grown p.tm (cond a.tm 1 0) }

-- what is pending after a pair
abbrev pub with_pair : Pending → Pending
with_pair p = record { xy = words p.xy.start (p.xy.count + 2); ends = p.ends; z = p.z; m = p.m; t = p.t; tm = p.tm }

pair-grown : (p : Pending) → with_pair p ≡ grown_all p (pair_with 0)
pair-grown p = (λ i. record { xy = words p.xy.start (p.xy.count + 2); ends = p.ends; z = same p.z i; m = same p.m i; t = same p.t i; tm = same p.tm i }) ∙ grown_lanes p (pair_with 0) refl

none_grown : (p : Pending) → p ≡ grown_all p no_words
none_grown p = (λ i. record { xy = same p.xy i; ends = p.ends; z = same p.z i; m = same p.m i; t = same p.t i; tm = same p.tm i }) ∙ grown_lanes p no_words refl

same-run : {bytes : List ℕ} {ready : Bool} {held from : ℕ} {p : Pending} {v : Values} {taken : ℕ} {p' p'' : Pending} {v' v'' : Values} → p' ≡ p'' → v' ≡ v'' → Run bytes ready held from p v taken p'' v'' → Run bytes ready held from p v taken p' v'
same-run {bytes} {ready} {held} {from} {p} {v} {taken} {p'} {p''} {v'} {v''} pending values run = rw (pending, values) run

module _ {bytes : List ℕ} {ready : Bool} {held from : ℕ} {p : Pending} {v : Values} {taken : ℕ} {p' : Pending} {v' : Values} (so_far : Run bytes ready held from p v taken p' v') (more_left : taken < length bytes / 64) {n : ℕ} (number : n ≡ feature_in (record_of bytes taken)) where
  pub pair-taken : {x y : ℕ} → HeardPair (record_of bytes taken) x y → (eqb n held && ready && pair_room p' (length v'.xy)) ≡ true → {xy : List ℕ} → xy ≡ sets v'.xy (used p'.xy) (x ∷ y ∷ [])
      → Run bytes ready held from p v (taken + 1) (with_pair p') (values_of xy v'.z v'.m v'.t v'.tm)
  pair-taken h ok xy_is =
      same-run (pair-grown p') (λ i. values_of ((xy_is ∙ sym (λ j. sets v'.xy (used p'.xy) (h.x_is j ∷ h.y_is j ∷ []))) i) v'.z v'.m v'.t v'.tm)
      (one_more_lem so_far more_left true false false false false n h.event (pair_room p' (length v'.xy)) number (pair-plain h) (pair_apart p' v') ok)

  pub pair_blocked : {x y : ℕ} → HeardPair (record_of bytes taken) x y → (eqb n held && ready && pair_room p' (length v'.xy)) ≡ false → BlockedAt bytes ready held taken (eqb n held) p' v'
  pair_blocked h not_so = blocked so_far more_left true false false false false n h.event (pair_room p' (length v'.xy)) number (pair-plain h) (pair_apart p' v') not_so

  -- ---- a begin that sets no type,
  pub quiet_taken : HeardQuiet (record_of bytes taken) → (eqb n held && ready) ≡ true → Run bytes ready held from p v (taken + 1) p' v'
  quiet_taken h ok = same-run (none_grown p') refl (one_more_lem so_far more_left false false false false false n h.event true number (quiet_plain h) (quiet_apart p' v') (and_true ok refl))

  pub quiet_blocked : HeardQuiet (record_of bytes taken) → (eqb n held && ready) ≡ false → BlockedAt bytes ready held taken (eqb n held) p' v'
  quiet_blocked h not_so = blocked so_far more_left false false false false false n h.event true number (quiet_plain h) (quiet_apart p' v') (ap (λ (b : Bool). b && true) not_so)

  -- ---- and a coordinate
  module _ (e : Event) (h : HeardCoordinate (record_of bytes taken) e) where
    abbrev test : Bool
    test = values_room p' (pair_with e.present) (length v'.xy) (length v'.z) (length v'.m) (length v'.t) (length v'.tm)

    pub coordinate-taken : (eqb n held && ready && test) ≡ true → {p'' : Pending} {v'' : Values} → p'' ≡ grown_values p' (pair_with e.present) → v'' ≡ pushed v' p' (pair_with e.present) e → Run bytes ready held from p v (taken + 1) p'' v''
    coordinate-taken ok pending-is values-are =
        same-run (pending-is ∙ grown_lanes p' (pair_with e.present) refl) values-are
        (one_more_lem so_far more_left true _ _ _ _ n e test number (coordinate-plain e h) (values_apart p' v' true _ _ _ _) ok)

    pub coordinate_blocked : (eqb n held && ready && test) ≡ false → BlockedAt bytes ready held taken (eqb n held) p' v'
    coordinate_blocked not_so = blocked so_far more_left true _ _ _ _ n e test number (coordinate-plain e h) (values_apart p' v' true _ _ _ _) not_so

  -- ---- an event of another feature, whatever it is
  pub another_blocked : (e : Event) → heard (record_of bytes taken) ≡ WellFormed e → eqb n held ≡ false → BlockedAt bytes ready held taken (eqb n held) p' v'
  another_blocked e is differs =
      record {
        more_left = more_left;
        answers = λ s table ends tells.
            ap (λ (own : Bool). outcome (wrote (blocked_by s.waiting own) (amid s held p')) (mem_with table ends v')) differs
            ∙ another_feature (amid s held p') (mem_with table ends v') e (record_of bytes taken) is (ap (λ (k : ℕ). eqb k held) (sym number) ∙ differs);
      }

-- ---- a pair by itself: what a run of one comes to
one_or_other : (b : Bool) (after s : State) (number : ℕ) (table xy xy' ends z m t tm : List ℕ)
    → outcome (cond b (wrote 0 after) (wrote number s)) (mem_of table (cond b xy' xy) ends z m t tm) ≡ cond b (outcome (wrote 0 after) (mem_of table xy' ends z m t tm)) (outcome (wrote number s) (mem_of table xy ends z m t tm))
one_or_other true after s number table xy xy' ends z m t tm = refl
one_or_other false after s number table xy xy' ends z m t tm = refl

pub pair-alone : (s : State) (table xy ends z m t tm bytes : List ℕ) {n x y : ℕ} {ready : Bool} {r : Wrote} {xy' : List ℕ} → n ≡ feature_in bytes → HeardPair bytes x y
    → is_ready s (records_lent table) (lent_of (pools_of xy ends z m t tm)) ≡ ready
    → r ≡ cond (belongs s.feature n && ready && pair_room s.pending (length xy)) (wrote 0 (amid s n (with_pair s.pending))) (wrote (blocked_number s n) s)
    → xy' ≡ cond (belongs s.feature n && ready && pair_room s.pending (length xy)) (sets xy (used s.pending.xy) (x ∷ y ∷ [])) xy
    → outcome r (mem_of table xy' ends z m t tm) ≡ event_call s (mem_of table xy ends z m t tm) bytes
pair-alone s table xy ends z m t tm bytes {n} {x} {y} {ready} number h tells answer xy_is =
    let room : Bool = belongs s.feature n && ready && pair_room s.pending (length xy) in
    let same-pair : sets xy (used s.pending.xy) (x ∷ y ∷ []) ≡ sets xy (used s.pending.xy) (h.event.x ∷ h.event.y ∷ []) = sym (λ i. sets xy (used s.pending.xy) (h.x_is i ∷ h.y_is i ∷ [])) in
    (λ i. outcome (answer i) (mem_of table (xy_is i) ends z m t tm))
    ∙ (λ i. outcome (cond room (wrote 0 (amid s n (pair-grown s.pending i))) (wrote (blocked_number s n) s)) (mem_of table (cond room (same-pair i) xy) ends z m t tm))
    ∙ one_or_other room (amid s n (grown_all s.pending (pair_with 0))) s (blocked_number s n) table xy (sets xy (used s.pending.xy) (h.event.x ∷ h.event.y ∷ [])) ends z m t tm
    ∙ comes_to s table ends (values_of xy z m t tm) true false false false false ready (pair_room s.pending (length xy)) tells (pair_apart s.pending (values_of xy z m t tm)) bytes n h.event number (pair-plain h)
