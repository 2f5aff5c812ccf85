-- Rows of the calls there are: two fields one after the other, the first with a keep-out ring, each under a number of its own; a field in two blocks, behind a refused call and a property; many events in one call, which stops at a refusal, of mixed types or of another feature.
use Rattle.std.specs.Prelude.{◌≡◌, refl, true, false, List, [], ◌∷◌, ◌++◌, ℕ, ◌<◌, replicate}
use Rattle.std.proofs.Common.{sym, ap, ◌∙◌, append-nil, append_assoc, arith, eq-eqb}
use Rattle.std.proofs.Math.Option.{none}
use Rattle.laws.specs.Every.{both}
use Rattle.laws.specs.Cut.{bytes_of}
use Rattle.kinds.specs.Event.{begin_e, end_e, xy_e, well_formed, WellFormed}
use Rattle.kinds.specs.declared.event.Event.{Event}
use Rattle.event_layout.specs.Event.{event_bytes, event_of, feature_of, spare_zero, read_event}
use Rattle.store.specs.Lists.{lent_of}
use Rattle.event_log.specs.Log.{events, heard, feature_in}
use Rattle.store.specs.Records.{records_lent, table_good}
use Rattle.reader.specs.Examples.{no_flags}
use Rattle.writing.specs.declared.state.State.{State}
use Rattle.writing.specs.State.{Mem, Outcome}
use Rattle.asking.specs.SetType.{set_type}
use Rattle.asking.specs.Ask.{ask_of, begun}
use Rattle.pending.specs.Room.{has_room}
use Rattle.pending.specs.Growth.{grown_all, past_all}
use Rattle.writing.specs.Calls.{started, state_after, if_due, decide_event, table_after, mem_after, event_with, event_call, finished, decide_finish, finish_call, renewed, decide_next, next_call}
use Rattle.property_value.specs.Column.{width_of, is_text}
use Rattle.property_value.specs.Value.{malformed, text_ok}
use Rattle.property_writer.specs.Writing.{laid_down, property_bytes, refusal_of, put_of, bytes_after}
use Rattle.properties.specs.RoundTrip.{Property}
use Rattle.writer.specs.Property.{property_call}
use Rattle.runs.specs.Events.{events_from, events_call}
use Rattle.as_words.specs.Words.{state_of, words_of}
use Rattle.as_words.specs.WordLaws.{state-words}
use Rattle.as_words.specs.Stays.{started-bytes}
use Rattle.bintolage.specs.Calls.{yes, kept_of, taken_of}
use Rattle.writer_model.specs.Writer.{fresh}
use Rattle.writer_model.specs.BenchCalls.{blank}
use Rattle.writer_model.specs.Example.{start-agrees}
use Rattle.writer_model.specs.Call.{event_c, finish_c, next_c}
use Rattle.writer_model.specs.Pairs.{pair_of, pending_at}
use Rattle.writer_model.specs.Rows.{Reached, start as begins}
use Rattle.writer_model.specs.Feature.{finishes_in, finished_mem, next_mem, finishes-same, whole_same, done, finished-is, finish_lengths, goes_on, renewed-is, next_lengths}
use Rattle.writer_model.specs.Fed.{given, takes, fed_to, fed_mem, pairs_of, first_done, first-heard, first-numbered, takes-rest, fed_rest}
use Rattle.geometries.specs.Geometry.{Coord, Line, Simple, polygon, multi_polygon}
use Rattle.geometries.specs.Events.{events_of}
use Rattle.format.specs.Writable.{All, Has, a_polygon, many_polygons}
use Rattle.least.specs.Sized.{InWords, words_tested}
use Rattle.claims.specs.Row.{Lends, lends, event, events as many, property, finish, next, leaves, accepts, heard_from, events_in, all_under, Accepted, nothing, with_events, with_property, with_finish, with_next, took_all, put, bytes_put, Row, start, lent, call, untaken}
use Rattle.claims.specs.Linked.{made, call_state, put-state, untaken_state, row-reached}
use Rattle.claims.specs.Demand.{Demanded, AllDemanded, Repeats, feature_steps, passed, demand_three}

-- ---- a row that comes to a state
module _ (declared detect promote : ℕ) where
  record At (s : State) (l : Lends) (a : Accepted) : Type 0 where
    words : List ℕ
    holds : state_of words ≡ s
    row : Row declared detect promote words l a

  at-start : (l : Lends) → declared < 256 → At (started declared (yes detect) (yes promote)) l nothing
  at-start l small = record { words = _; holds = state-words _ (started-bytes declared (yes detect) (yes promote) small); row = start l small }

  event-done : {words : List ℕ} {l : Lends} {a : Accepted} (n : ℕ) (e : Event) (bytes : List ℕ) → heard bytes ≡ WellFormed e → feature_in bytes ≡ n → (event_call (state_of words) l.mem bytes).wrote.number ≡ 0 → Row declared detect promote words l a
      → At (event_call (state_of words) l.mem bytes).wrote.state (lends (event_call (state_of words) l.mem bytes).mem l.buffer) (with_events a ((n, e) ∷ []))
  unfolding kept_of
  event-done {words} {l} {a} n e bytes hears number done row = record {
    words = _;
    holds = call_state words l.mem (event_c bytes);
    row = rw (eq-eqb _ 0 done, hears, number) at (call (event bytes) row);
  }

  finish-done : {words : List ℕ} {l : Lends} {a : Accepted} → (finish_call (state_of words) l.mem).wrote.number ≡ 0 → Row declared detect promote words l a
      → At (finish_call (state_of words) l.mem).wrote.state (lends (finish_call (state_of words) l.mem).mem l.buffer) (with_finish a)
  unfolding kept_of
  finish-done {words} {l} {a} done row = record { words = _; holds = call_state words l.mem finish_c; row = rw (eq-eqb _ 0 done) at (call finish row) }

  next-done : {words : List ℕ} {l : Lends} {a : Accepted} → (next_call (state_of words) l.mem).wrote.number ≡ 0 → Row declared detect promote words l a
      → At (next_call (state_of words) l.mem).wrote.state (lends (next_call (state_of words) l.mem).mem l.buffer) (with_next a (pending_at (state_of words).pending.xy l.mem.pools.xy))
  unfolding kept_of
  next-done {words} {l} {a} done row = record { words = _; holds = call_state words l.mem next_c; row = rw (eq-eqb _ 0 done) at (call next row) }

  put-done : {words : List ℕ} {l : Lends} {a : Accepted} (p : Property) → (put words p l.buffer).number ≡ 0 → Row declared detect promote words l a
      → At (put words p l.buffer).state (lends l.mem (bytes_put words p l.buffer)) (with_property a p)
  put-done {words} {l} {a} p done row = record { words = _; holds = put-state words p l.buffer; row = rw (eq-eqb _ 0 done) at (call (property p) row) }

  -- a refused call may be lent anything
  at_refused : {s : State} {l : Lends} {a : Accepted} (k : Mem) → ((event_call s k []).wrote.number ≡ 0 → ⊥) → At s l a → At s l a
  unfolding kept_of
  at_refused {l = l} k nay r = record {
    words = _;
    holds = untaken_state r.words (lends k l.buffer) (event []) (rw r.holds nay) ∙ r.holds;
    row = untaken {words = r.words} (lends k l.buffer) (event []) (rw r.holds nay) r.row;
  }

  -- a fresh state uses nothing, so whatever is lent next will do
  at_lent : {l : Lends} {a : Accepted} (l' : Lends) → At (started declared (yes detect) (yes promote)) l a → At (started declared (yes detect) (yes promote)) l' a
  unfolding started
  at_lent {l} l' r = record {
    words = r.words;
    holds = r.holds;
    row = lent {words = r.words} {l = l} l' (record { mem = rw r.holds (start-agrees declared (yes detect) (yes promote) l.mem l'.mem); properties = rw r.holds }) r.row;
  }

  at_property : {s : State} {l : Lends} {a : Accepted} (p : Property) → (property_call s p.column p.kind p.bits p.text l.buffer).number ≡ 0 → At s l a
      → At (property_call s p.column p.kind p.bits p.text l.buffer).state (lends l.mem (bytes_after s.waiting s.properties p.column p.kind p.bits p.text l.buffer)) (with_property a p)
  at_property {s} {l} {a} p done r = rw r.holds at (put-done {words = r.words} {l = l} {a = a} p (rw r.holds done) r.row)

  -- ---- events that pass the test of lengths, each lent what the last one left
  with_none : (a : Accepted) → a ≡ with_events a []
  with_none a = λ i. record { steps = sym (append-nil a.steps) i; pairs = sym (append-nil a.pairs) i; properties = a.properties }

  with_more : (a : Accepted) (e : ℕ × Event) (es : List (ℕ × Event)) → with_events (with_events a (e ∷ [])) es ≡ with_events a (e ∷ es)
  with_more a e es = λ i. record {
    steps = append_assoc a.steps (took_all (e ∷ [])) (took_all es) i;
    pairs = (ap (λ (l : List ℕ). (a.pairs ++ l) ++ pairs_of (events_in es)) (append-nil (pair_of e.1)) ∙ append_assoc a.pairs (pair_of e.1) (pairs_of (events_in es))) i;
    properties = a.properties;
  }

  -- the first of several
  module _ (n : ℕ) (fits : n < 4294967296) where
    module _ (e : Event) (es : List Event) (s : State) (k : Mem) (h : takes s n (records_lent k.table) (lent_of k.pools) (e ∷ es) ≡ true) (buffer : List ℕ) (a : Accepted) where
      abbrev one : Outcome
      one = given s n k e

      at_first : At s (lends k buffer) a → At one.wrote.state (lends one.mem buffer) (with_events a ((n, e) ∷ []))
      unfolding event_call
      at_first r =
          let hears = first-heard e es s n k h in
          let number = first-numbered e es s n k h fits in
          rw (r.holds, hears, number) at (event-done n e ((events n).bytes e) hears number (rw (r.holds, hears, number) (first_done e es s n k h)) r.row)

      at_rest : At (fed_to one.wrote.state n one.mem es) (lends (fed_mem one.wrote.state n one.mem es) buffer) (with_events (with_events a ((n, e) ∷ [])) (all_under n es))
          → At (fed_to s n k (e ∷ es)) (lends (fed_mem s n k (e ∷ es)) buffer) (with_events a (all_under n (e ∷ es)))
      at_rest r = rw (fed_rest e es s n k h, with_more a (n, e) (all_under n es)) at r

    at_all : (es : List Event) (s : State) (k : Mem) (buffer : List ℕ) (a : Accepted) → takes s n (records_lent k.table) (lent_of k.pools) es ≡ true → At s (lends k buffer) a
        → At (fed_to s n k es) (lends (fed_mem s n k es) buffer) (with_events a (all_under n es))
    at_all [] s k buffer a h r = rw (← (with_none a)) r
    at_all (e ∷ es) s k buffer a h r =
        at_rest e es s k h buffer a (at_all es (given s n k e).wrote.state (given s n k e).mem buffer (with_events a ((n, e) ∷ [])) (takes-rest e es s n k h) (at_first e es s k h buffer a r))

    -- ---- a feature up to its finish, and next
    module _ (es : List Event) (s : State) (k : Mem) (buffer : List ℕ) (a : Accepted) (ok : finishes_in s n k es ≡ true) (r : At s (lends k buffer) a) where
      reached-at : Reached s k (made (fresh declared (yes detect) (yes promote)) a.steps) a.pairs
      reached-at = rw r.holds at (row-reached declared detect promote r.row)

      at-finish : At (finished (fed_to s n k es)) (lends (finished_mem s n k es) buffer) (with_finish (with_events a (all_under n es)))
      at-finish =
          let all = at_all es s k buffer a (both (takes s n (records_lent k.table) (lent_of k.pools) es) _ ok).0 r in
          rw (all.holds, finished-is s n k _ _ es fits ok reached-at) at (finish-done (rw all.holds (done s n k _ _ es fits ok reached-at)) all.row)

      at_next : (decide_next (finished (fed_to s n k es)) (records_lent k.table) (lent_of k.pools)).number ≡ 0
          → At (renewed (finished (fed_to s n k es))) (lends (next_mem s n k es) buffer) (with_next (with_finish (with_events a (all_under n es))) (pending_at (finished (fed_to s n k es)).pending.xy (finished_mem s n k es).pools.xy))
      at_next goes = rw (at-finish.holds, renewed-is s n k _ _ es fits ok reached-at goes) at (next-done (rw at-finish.holds (goes_on s n k _ _ es fits ok reached-at goes)) at-finish.row)

      repeats : (fs : List (ℕ × Simple)) (f : Simple) → AllDemanded declared fs → Demanded declared f → (with_finish (with_events a (all_under n es))).steps ≡ passed fs ++ feature_steps n f → table_good k.table ≡ true → Repeats declared n f (finished_mem s n k es)
      repeats fs f ds d so_far whole = demand_three declared detect promote fs n f ds d at-finish.row so_far (whole_same k _ (finish_lengths s n k _ _ es fits ok reached-at) whole)

-- ---- two fields
abbrev at : ℕ → ℕ → Coord
at x y = record { x = x; y = y; z = none; m = none; t = none; tm = none }

abbrev ring : Line
ring = at 1 2 ∷ at 3 4 ∷ at 5 6 ∷ at 1 2 ∷ []

flat : (x y : ℕ) → Has no_flags (at x y)
flat x y = record { z = refl; m = refl; t = refl; tm = refl }

ring-flat : All (Has no_flags) ring
ring-flat = (flat 1 2, (flat 3 4, (flat 5 6, (flat 1 2, tt))))

abbrev pub field : Simple
field = polygon (ring ∷ ring ∷ [])

abbrev pub other : Simple
other = polygon (ring ∷ [])

field_demanded : Demanded 3 field
field_demanded = (refl, omega arith, _, a_polygon (ring ∷ ring ∷ []) (tt, (ring-flat, (ring-flat, tt))))

other_demanded : Demanded 3 other
other_demanded = (refl, omega arith, _, a_polygon (ring ∷ []) (tt, (ring-flat, tt)))

abbrev begin : State
begin = started 3 false false

abbrev room : Mem
room = blank 1 16 2

abbrev first : List Event
first = events_of no_flags 0 field

-- the first under number 7, the second under number 8
first_ok : finishes_in begin 7 room first ≡ true
unfolding events_of started ask_of begun set_type has_room grown_all past_all state_after decide_event if_due decide_finish well_formed begin_e end_e xy_e
first_ok = refl

goes : (decide_next (finished (fed_to begin 7 room first)) (records_lent room.table) (lent_of room.pools)).number ≡ 0
unfolding events_of started ask_of begun set_type has_room grown_all past_all state_after decide_event if_due finished decide_next begin_e end_e xy_e
goes = refl

-- after the first field's next
abbrev again : State
again = renewed (finished (fed_to begin 7 room first))

abbrev over : Mem
over = next_mem begin 7 room first

again_ok : finishes_in again 8 over (events_of no_flags 0 other) ≡ true
unfolding events_of started ask_of begun set_type has_room grown_all past_all state_after decide_event if_due finished decide_finish renewed well_formed begin_e end_e xy_e
again_ok = finishes-same again 8 (events_of no_flags 0 other) room over (next_lengths begin 7 room _ _ first (omega arith) first_ok (begins 3 false false room) goes) refl

pub field_repeats : Repeats 3 7 field (finished_mem begin 7 room first)
field_repeats = repeats 3 0 0 7 (omega arith) first begin room [] nothing first_ok (at-start 3 0 0 (lends room []) (omega arith)) [] field tt field_demanded refl refl

pub other_repeats : Repeats 3 8 other (finished_mem again 8 over (events_of no_flags 0 other))
unfolding events_of
other_repeats =
    let so_far = at_next 3 0 0 7 (omega arith) first begin room [] nothing first_ok (at-start 3 0 0 (lends room []) (omega arith)) goes in
    repeats 3 0 0 8 (omega arith) (events_of no_flags 0 other) again over [] _ again_ok so_far ((7, field) ∷ []) other (field_demanded, tt) other_demanded refl (whole_same room over (next_lengths begin 7 room _ _ first (omega arith) first_ok (begins 3 false false room) goes) refl)

-- ---- a field in two blocks, the first with a keep-out ring
abbrev pub blocks : Simple
blocks = multi_polygon ((ring ∷ ring ∷ []) ∷ (ring ∷ []) ∷ [])

blocks_demanded : Demanded 6 blocks
blocks_demanded = (refl, omega arith, _, many_polygons ((ring ∷ ring ∷ []) ∷ (ring ∷ []) ∷ []) tt ((tt, (ring-flat, (ring-flat, tt))), ((tt, (ring-flat, tt)), tt)))

-- a depth of 7, behind what is no event at all
abbrev depth : Property
depth = record { column = 0; kind = 5; bits = 7; text = [] }

abbrev fresh_buffer : List ℕ
fresh_buffer = replicate 6 0

abbrev wide : Mem
wide = blank 3 24 3

abbrev declared_blocks : State
declared_blocks = started 6 false false

abbrev after-depth : State
after-depth = (property_call declared_blocks 0 5 7 [] fresh_buffer).state

no_event : (k : Mem) → (event_call declared_blocks k []).wrote.number ≡ 0 → ⊥
unfolding event_call heard read_event
no_event k e = let malformed-is : (event_call declared_blocks k []).wrote.number ≡ 11 = refl in omega arith

depth-taken : (property_call declared_blocks 0 5 7 [] fresh_buffer).number ≡ 0
unfolding property_call put_of refusal_of malformed text_ok property_bytes laid_down width_of is_text started
depth-taken = refl

blocks_ok : finishes_in after-depth 4294967295 wide (events_of no_flags 0 blocks) ≡ true
unfolding events_of property_call put_of started ask_of begun set_type has_room grown_all past_all state_after decide_event if_due decide_finish well_formed begin_e end_e xy_e
blocks_ok = refl

pub blocks_repeat : Repeats 6 4294967295 blocks (finished_mem after-depth 4294967295 wide (events_of no_flags 0 blocks))
blocks_repeat =
    let begun-row = at_lent 6 0 0 (lends wide fresh_buffer) (at_refused 6 0 0 (blank 0 0 0) (no_event (blank 0 0 0)) (at-start 6 0 0 (lends (blank 0 0 0) []) (omega arith))) in
    repeats 6 0 0 4294967295 (omega arith) (events_of no_flags 0 blocks) after-depth wide _ _ blocks_ok (at_property 6 0 0 depth depth-taken begun-row) [] blocks tt blocks_demanded refl refl

-- what the first field is read from is words
pub field-words : InWords (finished_mem begin 7 room first).pools
unfolding events_of started ask_of begun set_type has_room grown_all past_all state_after decide_event if_due event_with mem_after table_after finish_call decide_finish begin_e end_e xy_e
field-words =
    let P = (finished_mem begin 7 room first).pools in
    record { xy = words_tested P.xy refl; z = words_tested P.z refl; m = words_tested P.m refl; t = words_tested P.t refl; tm = words_tested P.tm refl }

-- ---- many events in one call: a Point's three, and then the begin of a Polygon, which is refused with 5
abbrev point-events : List Event
point-events = begin_e 1 false 0 0 ∷ xy_e 3 4 0 ∷ end_e 1 false 0 ∷ []

pub records : List ℕ
records = bytes_of (events 258) (point-events ++ begin_e 3 true 1 0 ∷ [])

abbrev declared_point : List ℕ
declared_point = words_of (started 1 false false)

four-given : ((events_call (started 1 false false) (blank 0 2 0) records).took.number ≡ 5) × ((events_call (started 1 false false) (blank 0 2 0) records).took.taken ≡ 3)
unfolding events_call events_from started event_call event_with ask_of begun set_type decide_event if_due has_room state_after grown_all mem_after table_after heard feature_in feature_of read_event event_of spare_zero well_formed event_bytes events bytes_of begin_e xy_e end_e records
four-given = (refl, refl)

three-heard : heard_from 3 0 records ≡ all_under 258 point-events
unfolding heard feature_in feature_of read_event event_of spare_zero well_formed event_bytes events bytes_of begin_e xy_e end_e records
three-heard = refl

pub stops : let o = leaves declared_point (lends (blank 0 2 0) []) (many records) in let a = accepts declared_point (lends (blank 0 2 0) []) (many records) nothing in
    (o.number ≡ 5) × (a.steps ≡ took_all (all_under 258 point-events)) × Row 1 0 0 o.words o.lends a
unfolding taken_of
stops =
    let state : state_of declared_point ≡ started 1 false false = state-words (started 1 false false) (started-bytes 1 false false (omega arith)) in
    (rw state four-given.0, rw (state, four-given.1) (ap took_all three-heard), call (many records) (start (lends (blank 0 2 0) []) (omega arith)))

-- ---- the same three under number 258, and then a pair under number 2, which agrees with it in the low byte: it is refused with 17
pub two_features : List ℕ
two_features = bytes_of (events 258) point-events ++ (events 2).bytes (xy_e 5 6 1)

another_given : ((events_call (started 1 false false) (blank 0 2 0) two_features).took.number ≡ 17) × ((events_call (started 1 false false) (blank 0 2 0) two_features).took.taken ≡ 3)
unfolding events_call events_from started event_call event_with ask_of begun set_type decide_event if_due has_room state_after grown_all mem_after table_after heard feature_in feature_of read_event event_of spare_zero well_formed event_bytes events bytes_of begin_e xy_e end_e two_features
another_given = (refl, refl)

own-heard : heard_from 3 0 two_features ≡ all_under 258 point-events
unfolding heard feature_in feature_of read_event event_of spare_zero well_formed event_bytes events bytes_of begin_e xy_e end_e two_features
own-heard = refl

pub stops_at_another : let o = leaves declared_point (lends (blank 0 2 0) []) (many two_features) in let a = accepts declared_point (lends (blank 0 2 0) []) (many two_features) nothing in
    (o.number ≡ 17) × (a.steps ≡ took_all (all_under 258 point-events)) × Row 1 0 0 o.words o.lends a
unfolding taken_of
stops_at_another =
    let state : state_of declared_point ≡ started 1 false false = state-words (started 1 false false) (started-bytes 1 false false (omega arith)) in
    (rw state another_given.0, rw (state, another_given.1) (ap took_all own-heard), call (many two_features) (start (lends (blank 0 2 0) []) (omega arith)))
