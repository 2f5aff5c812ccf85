-- The calls keep a state's three bytes bytes, so the words that a call leaves hold the very state that it hands back.
use Rattle.std.specs.Prelude.{◌≡◌, cond, ◌&&◌, ◌||◌, List, ℕ, ◌+◌, ◌≤◌, ◌<◌, ltb, leb, Some, None}
use Rattle.std.proofs.Math.Path.{refl, sym}
use Rattle.std.proofs.Common.{◌∙◌, arith, ltb-true, eqb-true}
use Rattle.std.proofs.Math.Bool.{Bool, true, false, not}
use Rattle.std.proofs.Math.Dec.{eqb}
use Rattle.std.proofs.lemmas.Bool.{eqb-false}
use Rattle.kinds.specs.Event.{is_tagged_type, Parsed, WellFormed, Malformed}
use Rattle.kinds.specs.declared.event.Event.{Event}
use Rattle.kinds.specs.Lanes.{Lent}
use Rattle.store.specs.Lists.{lent_of}
use Rattle.store.specs.Records.{records_lent}
use Rattle.event_log.specs.Log.{heard, feature_in, record_of, records_in}
use Rattle.asking.specs.declared.typing.Typing.{Typing}
use Rattle.asking.specs.SetType.{Typed, with_declared, with_current, with_mode, promoted, detected, detected_or, unknown_type, collected, lifts, set_type}
use Rattle.asking.specs.Ask.{Added, ask, no_words, begun, calmed, in_collection, ask_of}
use Rattle.asking.specs.declared.ask.Ask.{Ask}
use Rattle.writing.specs.declared.state.State.{State}
use Rattle.writing.specs.State.{Wrote, Mem, wrote}
use Rattle.pending.specs.Room.{has_room}
use Rattle.writing.specs.Due.{each-due}
use Rattle.writing.specs.Calls.{started, records_for, state_after, room_or, decide_typed, decide_event, event_with, event_of, event_call, finished, decide_finish, finish_call, renewed, decide_next, next_call}
use Rattle.runs.specs.Events.{Progress, events_from, events_call, by-records}
use Rattle.as_words.specs.Words.{typing_of, state_of, words_of, words_after, words_after_all}
use Rattle.as_words.specs.WordLaws.{InBytes, state-words, done-state, refused_state}

-- ---- what an event asks for
abbrev InBytesIfSet : Typed → Type 0
InBytesIfSet None = Unit {0}
InBytesIfSet (Some h) = InBytes h

either : {A : Type 0} (P : A → Type 0) (b : Bool) (x y : A) → P x → P y → P (cond b x y)
either P true x y h k = h
either P false x y h k = k

module _ (h : Typing) (bytes : InBytes h) where
  declared_bytes : (type : ℕ) → type < 256 → InBytes (with_declared h type)
  declared_bytes type small = record { declared = small; current = bytes.current; mode = bytes.mode }

  current-bytes : (type : ℕ) → type < 256 → InBytes (with_current h type)
  current-bytes type small = record { declared = bytes.declared; current = small; mode = bytes.mode }

  mode_bytes : (mode : ℕ) → mode < 256 → InBytes (with_mode h mode)
  mode_bytes mode small = record { declared = bytes.declared; current = bytes.current; mode = small }

detected-bytes : (h : Typing) (type : ℕ) → InBytes h → type < 256 → InBytes (detected_or h type)
detected-bytes h type bytes small =
    either InBytes h.detect (detected h type) (with_current h type) (either InBytes (not (eqb h.mode 1) || eqb type 7) (with_declared h type) h (declared_bytes h bytes type small) bytes) (current-bytes h bytes type small)

unknown_bytes : (h : Typing) (type : ℕ) → InBytes h → type + 3 < 256 → InBytes (unknown_type h type)
unfolding unknown_type
unknown_bytes h type bytes small =
    either InBytes (promoted h type) _ _ (detected-bytes (with_mode h 2) (type + 3) (mode_bytes h bytes 2 (omega arith)) small) (detected-bytes h type bytes (omega arith))

collected-bytes : (h : Typing) (type : ℕ) → InBytes h → type < 256 → InBytes (collected h type)
unfolding collected
collected-bytes h type bytes small = either InBytes (eqb h.mode 1) _ h (current-bytes h bytes type small) bytes

set-bytes : (h : Typing) (type : ℕ) → InBytes h → type + 3 < 256 → InBytesIfSet (set_type h type)
unfolding set_type
set-bytes h type bytes small =
    either InBytesIfSet (eqb type h.declared) (Some h) _ bytes
    (either InBytesIfSet (eqb h.declared 0) (Some (collected (unknown_type h type) type)) _ (collected-bytes _ type (unknown_bytes h type bytes small) (omega arith))
    (either InBytesIfSet (eqb h.declared 7 && eqb h.mode 1) (Some (with_current h type)) _ (current-bytes h bytes type (omega arith))
    (either InBytesIfSet (lifts h type) (Some (with_mode h 2)) None (mode_bytes h bytes 2 (omega arith)) tt)))

collection_bytes : (o : Typed) → InBytesIfSet o → InBytesIfSet (in_collection o)
collection_bytes None h = tt
collection_bytes (Some h) bytes = mode_bytes h bytes 1 (omega arith)

module _ (h : Typing) (e : Event) (bytes : InBytes h) where
  begun-bytes : e.kind < 32 → InBytesIfSet (begun h e)
  unfolding begun
  begun-bytes small =
      either InBytesIfSet (is_tagged_type e.kind && not e.tagged) (Some h) _ bytes
      (either InBytesIfSet (eqb e.kind 7) _ _ (collection_bytes (set_type h 7) (set-bytes h 7 bytes (omega arith))) (set-bytes h e.kind bytes (omega arith)))

  calmed-bytes : InBytes (calmed h e.tagged)
  calmed-bytes = either InBytes (e.tagged && eqb h.mode 2) (with_mode h 0) h (mode_bytes h bytes 0 (omega arith)) bytes

  abbrev Asked : Ask → Type 0
  Asked a = InBytesIfSet a.typed

  begin-or : (b : Bool) (a : Ask) → ltb e.kind 32 ≡ b → Asked a → (added : Added) (part : Bool) → Asked (cond b (ask (begun h e) added part) a)
  begin-or true a is k added part = begun-bytes (ltb-true e.kind 32 is)
  begin-or false a is k added part = k

  asked_bytes : Asked (ask_of h e)
  unfolding ask_of
  asked_bytes =
      begin-or (ltb e.kind 32) _ refl
      (either Asked (leb 64 e.kind) _ _ bytes
      (either Asked (eqb e.kind 33) _ _ bytes
      (either Asked (eqb e.kind 34) _ _ calmed-bytes
      (either Asked (eqb e.kind 35) _ _ calmed-bytes
      (either Asked (eqb e.kind 39) _ _ (mode_bytes h bytes 0 (omega arith)) bytes)))))
      _ _

-- ---- what a call hands back
abbrev Bytes : State → Type 0
Bytes s = InBytes s.typing

module _ (s : State) (bytes : Bytes s) where
  room-bytes : (room : Bool) (t : State) → Bytes t → Bytes (room_or s room t).state
  room-bytes true t h = h
  room-bytes false t h = bytes

  turn-bytes : (b : Bool) (r : Wrote) → Bytes r.state → Bytes (cond b (wrote 15 s) r).state
  turn-bytes true r h = bytes
  turn-bytes false r h = h

  wait_bytes : (b : Bool) (r : Wrote) → Bytes r.state → Bytes (cond b r (wrote 15 s)).state
  wait_bytes true r h = h
  wait_bytes false r h = bytes

  after-bytes : (n : ℕ) (typed : Typed) (added : Added) (part : Bool) (h : Typing) → InBytes h → Bytes (state_after s n (ask typed added part) h)
  unfolding state_after
  after-bytes n typed added true h k = k
  after-bytes n typed added false h k = k

  typed-bytes : (n : ℕ) (a : Ask) (room : Bool) (o : Typed) → InBytesIfSet o → Bytes (decide_typed s n a room o).state
  typed-bytes n a room None h = bytes
  typed-bytes n a room (Some g) h = room-bytes room (state_after s n a g) (after-bytes n a.typed a.added a.part g h)

  decided-bytes : (n : ℕ) (a : Ask) (records : ℕ) (pools : Lent) → InBytesIfSet a.typed → Bytes (decide_event s n a records pools).state
  unfolding decide_event
  decided-bytes n a records pools h =
      let room : Bool = has_room s.pending a.added (records_for s a) records pools in
      each-due s n (decide_typed s n a room a.typed) (λ (r : Wrote). Bytes r.state) bytes bytes (typed-bytes n a room a.typed h)

  heard-bytes : (k : Mem) (n : ℕ) (p : Parsed) → Bytes (event_of s k n p).wrote.state
  unfolding event_with
  heard-bytes k n Malformed = bytes
  heard-bytes k n (WellFormed e) = decided-bytes n (ask_of s.typing e) (records_lent k.table) (lent_of k.pools) (asked_bytes s.typing e bytes)

  pub event-bytes : (k : Mem) (event : List ℕ) → Bytes (event_call s k event).wrote.state
  unfolding event_call
  event-bytes k event = heard-bytes k (feature_in event) (heard event)

  pub finish-bytes : (k : Mem) → Bytes (finish_call s k).wrote.state
  unfolding finish_call decide_finish finished
  finish-bytes k =
      let room : Bool = has_room s.pending no_words (s.parts + 1) (records_lent k.table) (lent_of k.pools) in
      turn-bytes s.waiting (room_or s room (finished s)) (room-bytes room (finished s) bytes)

  pub next-bytes : (k : Mem) → Bytes (next_call s k).wrote.state
  unfolding next_call decide_next renewed
  next-bytes k =
      let room : Bool = has_room s.pending no_words (s.parts + 1) (records_lent k.table) (lent_of k.pools) in
      wait_bytes s.waiting (room_or s room (renewed s)) (room-bytes room (renewed s) bytes)

pub started-bytes : (declared : ℕ) (detect promote : Bool) → declared < 256 → Bytes (started declared detect promote)
unfolding started
started-bytes declared detect promote small = record { declared = small; current = omega arith; mode = omega arith }

-- whatever the words are, the typing that they hold is of bytes
pub words-bytes : (words : List ℕ) → Bytes (state_of words)
unfolding state_of typing_of
words-bytes words = record { declared = omega arith; current = omega arith; mode = omega arith }

-- ---- the words that a call leaves
module _ (words : List ℕ) (r : Wrote) (bytes : Bytes r.state) (unchanged : (r.number ≡ 0 → ⊥) → r.state ≡ state_of words) where
  pub kept-state : state_of (words_after words r) ≡ r.state
  kept-state = go (eqb r.number 0) refl
    where
      go : (b : Bool) → eqb r.number 0 ≡ b → state_of (words_after words r) ≡ r.state
      go true is = done-state words r bytes (eqb-true r.number 0 is)
      go false is = refused_state words r (eqb-false r.number 0 is) ∙ sym (unchanged (eqb-false r.number 0 is))

-- ---- many events
-- from record i on: where none was taken, state and memory are as they were
record Went (i : ℕ) (s : State) (k : Mem) (p : Progress) : Type 0 where
  in_bytes : Bytes p.took.state
  counted : i ≤ p.took.taken
  untaken : p.took.taken ≡ i → (p.took.state ≡ s) × (p.mem ≡ k)

went : (records : List ℕ) (left i : ℕ) (s : State) (k : Mem) → Bytes s → Went i s k (events_from left i records s k)
went records = by-records records (λ i s k p. Bytes s → Went i s k p)
    (λ number i s k h. record { in_bytes = h; counted = omega arith; untaken = λ e. (refl, refl) })
    (λ i s k p taken more h. let w = more (event-bytes s h k (record_of records i)) in record { in_bytes = w.in_bytes; counted = omega (arith, w.counted); untaken = λ e. absurd (omega (arith, w.counted)) })

module _ (words records : List ℕ) (k : Mem) where
  abbrev came : Progress
  came = events_call (state_of words) k records

  all_went : Went 0 (state_of words) k came
  unfolding events_call
  all_went = went records (records_in records) 0 (state_of words) k (words-bytes words)

  pub taken-state : state_of (words_after_all words came.took) ≡ came.took.state
  unfolding words_after_all
  taken-state = go (eqb came.took.taken 0) refl
    where
      go : (b : Bool) → eqb came.took.taken 0 ≡ b → state_of (cond b words (words_of came.took.state)) ≡ came.took.state
      go true is = sym (all_went.untaken (eqb-true came.took.taken 0 is)).0
      go false is = state-words came.took.state all_went.in_bytes

  pub untaken_same : came.took.taken ≡ 0 → (came.took.state ≡ state_of words) × (came.mem ≡ k)
  untaken_same h = all_went.untaken h
