-- After any row of the calls that a machine links, the first bytes of the property buffer, as many as the state counts, are the accepted properties since next, in order, and they are read back as they were given.
use Rattle.std.specs.Prelude.{◌≡◌, Bool, cond, ℕ, ◌+◌, ◌≤◌, length, take, drop}
use Rattle.std.proofs.Math.Path.{refl, ap}
use Rattle.std.proofs.Common.{sym, ◌∙◌, eqb-true}
use Rattle.std.proofs.Math.Bool.{true, false}
use mathlib.Core.List.{List, [], ◌∷◌, ◌++◌}
use Rattle.std.proofs.Math.Dec.{eqb}
use Rattle.std.proofs.lemmas.Bool.{eqb-false}
use Rattle.laws.specs.Script.{say}
use Rattle.laws.specs.Cut.{room_of, Said}
use Rattle.kinds.specs.declared.value.Value.{Value}
use Rattle.event_log.specs.Log.{heard, feature_in, record_of, records_in}
use Rattle.event_log.specs.Values.{values}
use Rattle.geometries.specs.Told.{told, Complete, said_complete}
use Rattle.property_writer.specs.Writing.{put_of}
use Rattle.property_writer.specs.WritingLaws.{accepted, refused as untouched}
use Rattle.property_reader.specs.Reading.{reading}
use Rattle.properties.specs.RoundTrip.{Property, Wrote, none, one_more_lem, Typed, bytes_of, values_from, value_after, saying, joined, bytes-joined, text_there, round_trip}
use Rattle.writing.specs.declared.state.State.{State}
use Rattle.writing.specs.State.{Mem}
use Rattle.writing.specs.Calls.{started, event_call, finish_call, next_call}
use Rattle.runs.specs.Events.{events_from, events_call, by-records}
use Rattle.writer.specs.Property.{property_call}
use Rattle.as_words.specs.Words.{state_of, words_after}
use Rattle.as_words.specs.WordLaws.{state-words}
use Rattle.as_words.specs.Stays.{started-bytes, taken-state}
use Rattle.bintolage.specs.Calls.{yes, kept_of, taken_of}
use Rattle.writer_model.specs.Call.{Call as Inner, event_c, finish_c, next_c, called}
use Rattle.writer_model.specs.Properties.{properties_after, properties_after_lem}
use Rattle.writer_model.specs.Refused.{refused as unchanged}
use Rattle.claims.specs.Row.{Call, event, events, property, finish, next, Lends, Accepted, with_events, with_property, with_finish, with_next, carried_by, heard_in, put, bytes_put, leaves, accepts, Row, start, lent, call, untaken}
use Rattle.claims.specs.Linked.{call_state, put-state, put_unchanged, untaken_state}

-- so many bytes of the buffer are those of a row of writes
record Stored (buffer : List ℕ) (used : ℕ) (ps : List Property) : Type 0 where
  before : List ℕ
  after : List ℕ
  wrote : Wrote before 0 ps after used
  same : take used buffer ≡ take used after

counts : {buffer : List ℕ} {used used' : ℕ} {ps : List Property} → used ≡ used' → Stored buffer used ps → Stored buffer used' ps
counts e h = rw e at h

empty : {used : ℕ} (buffer : List ℕ) → used ≡ 0 → Stored buffer used []
empty buffer e = rw e (record { before = buffer; after = buffer; wrote = none; same = refl })

-- ---- how many bytes the state counts: only a property adds to them, and only next empties them
module _ (words : List ℕ) (k : Mem) where
  kept-count : (c : Inner) → properties_after c (state_of words).properties ≡ (state_of words).properties → (state_of (words_after words (called (state_of words) k c).wrote)).properties ≡ (state_of words).properties
  kept-count c keeps = ap (λ (s : State). s.properties) (call_state words k c) ∙ go (eqb (called (state_of words) k c).wrote.number 0) refl
    where
      go : (b : Bool) → eqb (called (state_of words) k c).wrote.number 0 ≡ b → (called (state_of words) k c).wrote.state.properties ≡ (state_of words).properties
      go true is = properties_after_lem (state_of words) k c (eqb-true _ 0 is) ∙ keeps
      go false is = ap (λ (s : State). s.properties) (unchanged (state_of words) k c (eqb-false _ 0 is)).state

all-count : (bytes : List ℕ) (left i : ℕ) (s : State) (k : Mem) → (events_from left i bytes s k).took.state.properties ≡ s.properties
all-count bytes = by-records bytes (λ i s k p. p.took.state.properties ≡ s.properties) (λ number i s k. refl) (λ i s k p taken more. more ∙ properties_after_lem s k (event_c (record_of bytes i)) taken)

events-count : (words : List ℕ) (k : Mem) (bytes : List ℕ) → (state_of (taken_of words (events_call (state_of words) k bytes)).words).properties ≡ (state_of words).properties
unfolding taken_of events_call
events-count words k bytes = ap (λ (s : State). s.properties) (taken-state words bytes k) ∙ all-count bytes (records_in bytes) 0 (state_of words) k

-- ---- any row
module _ (declared detect promote : ℕ) where
  module _ (words : List ℕ) (l : Lends) (a : Accepted) (h : Stored l.buffer (state_of words).properties a.properties) where
    abbrev Then : Call → Type 0
    Then c = let o = leaves words l c in Stored o.lends.buffer (state_of o.words).properties (accepts words l c a).properties

    put_then : (p : Property) → (put words p l.buffer).number ≡ 0 → Stored (bytes_put words p l.buffer) (state_of (words_after words (put words p l.buffer))).properties (a.properties ++ p ∷ [])
    unfolding property_call put_of
    put_then p done =
        let s = state_of words in
        let turn : s.waiting ≡ false = (accepted s.waiting s.properties p.column p.kind p.bits p.text (length l.buffer) done).turn in
        counts (ap (λ (s : State). s.properties) (sym (put-state words p l.buffer))) (
        record {
          before = h.before;
          after = bytes_put words p l.buffer;
          wrote = rw turn (one_more_lem p l.buffer h.wrote h.same (rw turn at done));
          same = refl;
        }
        )

    put_stays : (p : Property) → ((put words p l.buffer).number ≡ 0 → ⊥) → Stored (bytes_put words p l.buffer) (state_of (words_after words (put words p l.buffer))).properties a.properties
    unfolding property_call put_of
    put_stays p nay =
        let s = state_of words in
        let bytes : l.buffer ≡ bytes_put words p l.buffer = (untouched s.waiting s.properties p.column p.kind p.bits p.text l.buffer _ refl nay).1 in
        rw (← bytes) (counts (ap (λ (s : State). s.properties) (sym (put-state words p l.buffer ∙ put_unchanged words p l.buffer nay))) h)

    call_then : (c : Call) → Then c
    unfolding kept_of
    call_then (event bytes) = go (eqb (event_call (state_of words) l.mem bytes).wrote.number 0)
      where
        go : (b : Bool) → Stored l.buffer (state_of (words_after words (event_call (state_of words) l.mem bytes).wrote)).properties (cond b (with_events a (heard_in (feature_in bytes) (heard bytes))) a).properties
        go true = counts (sym (kept-count words l.mem (event_c bytes) refl)) h
        go false = counts (sym (kept-count words l.mem (event_c bytes) refl)) h
    call_then (events bytes) = counts (sym (events-count words l.mem bytes)) h
    call_then (property p) = go (eqb (put words p l.buffer).number 0) refl
      where
        go : (b : Bool) → eqb (put words p l.buffer).number 0 ≡ b → Stored (bytes_put words p l.buffer) (state_of (words_after words (put words p l.buffer))).properties (cond b (with_property a p) a).properties
        go true is = put_then p (eqb-true _ 0 is)
        go false is = put_stays p (eqb-false _ 0 is)
    call_then finish = go (eqb (finish_call (state_of words) l.mem).wrote.number 0)
      where
        go : (b : Bool) → Stored l.buffer (state_of (words_after words (finish_call (state_of words) l.mem).wrote)).properties (cond b (with_finish a) a).properties
        go true = counts (sym (kept-count words l.mem finish_c refl)) h
        go false = counts (sym (kept-count words l.mem finish_c refl)) h
    call_then next = go (eqb (next_call (state_of words) l.mem).wrote.number 0) refl
      where
        state : state_of (words_after words (next_call (state_of words) l.mem).wrote) ≡ (next_call (state_of words) l.mem).wrote.state
        state = call_state words l.mem next_c

        go : (b : Bool) → eqb (next_call (state_of words) l.mem).wrote.number 0 ≡ b
            → Stored l.buffer (state_of (words_after words (next_call (state_of words) l.mem).wrote)).properties (cond b (with_next a (carried_by words l.mem)) a).properties
        go true is = empty l.buffer (ap (λ (s : State). s.properties) state ∙ properties_after_lem (state_of words) l.mem next_c (eqb-true _ 0 is))
        go false is = counts (ap (λ (s : State). s.properties) (sym (state ∙ (unchanged (state_of words) l.mem next_c (eqb-false _ 0 is)).state))) h

  row-stored : {words : List ℕ} {l : Lends} {a : Accepted} → Row declared detect promote words l a → Stored l.buffer (state_of words).properties a.properties
  unfolding started
  row-stored (start l small) = empty l.buffer (ap (λ (s : State). s.properties) (state-words (started declared (yes detect) (yes promote)) (started-bytes declared (yes detect) (yes promote) small)))
  row-stored (lent l' same row) = let h = row-stored row in record { before = h.before; after = h.after; wrote = h.wrote; same = same.properties ∙ h.same }
  row-stored (call {words} {l} {a} c row) = call_then words l a (row-stored row) c
  row-stored (untaken {words} l' c nay row) = counts (ap (λ (s : State). s.properties) (sym (untaken_state words l' c nay))) (row-stored row)

  module _ {words : List ℕ} {l : Lends} {a : Accepted} (row : Row declared detect promote words l a) where
    abbrev pub stored_bytes : List ℕ
    stored_bytes = take (state_of words).properties l.buffer

    pub linked_properties : stored_bytes ≡ joined a.properties
    linked_properties = let h = row-stored row in h.same ∙ bytes-joined h.wrote

    -- a text is found where its value says
    pub linked_text : (before : List Property) (p : Property) (behind : List Property) → a.properties ≡ before ++ p ∷ behind → 11 ≤ p.kind
        → (let v = value_after before p in (values_from 0 a.properties ≡ values_from 0 before ++ v ∷ values_from (length (joined before) + length (bytes_of p)) behind) × (take v.len (drop v.word stored_bytes) ≡ p.text))
    linked_text before p behind is text = rw (linked_properties, is) (text_there before p behind text)

    -- read with the columns' own types, from a log with room, the values come in order, and nothing else
    pub linked_values : (columns : List ℕ) (last : ℕ) (L : List ℕ) (number count : ℕ) (M : List ℕ) → Typed columns a.properties → 65536 ≤ last → length (values_from 0 a.properties) ≤ room_of 16 L
        → Said values (reading stored_bytes true columns last) L number count M → Complete values (values_from 0 a.properties) L number count M
    unfolding values
    linked_values columns last L number count M typed none_named room h =
        let s = row-stored row in
        let reads : reading stored_bytes true columns last ≡ told (values_from 0 a.properties) = rw s.same (round_trip s.wrote columns typed last none_named ∙ saying-told (values_from 0 a.properties)) in
        said_complete values _ (values_from 0 a.properties) L number count M reads room h
      where
        saying-told : (vs : List Value) → saying vs ≡ told vs
        saying-told [] = refl
        saying-told (v ∷ vs) = ap (say v) (saying-told vs)
