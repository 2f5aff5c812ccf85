-- SPEC 6.4 to 6.24, the writer's calls on lent memory: the number, the next state, and what every pool and the table hold afterwards.
use Rattle.std.specs.Prelude.{Bool, true, false, cond, not, ◌&&◌, List, [], ◌∷◌, ◌++◌, ℕ, ◌+◌, ◌/◌, take, drop, eqb, Some, None}
use Rattle.std.proofs.lemmas.List.Edits.{sets}
use Rattle.kinds.specs.Event.{Parsed, WellFormed, Malformed}
use Rattle.kinds.specs.Lanes.{Lane, xyL, endsL, zL, mL, tL, tmL, Lent}
use Rattle.kinds.specs.declared.event.Event.{Event}
use Rattle.kinds.specs.declared.geometry.Geometry.{Geometry}
use Rattle.store.specs.Lists.{Pools, lent_of}
use Rattle.event_log.specs.Log.{heard, feature_in}
use Rattle.store.specs.Records.{records_lent, put_record}
use Rattle.asking.specs.declared.typing.Typing.{Typing}
use Rattle.writing.specs.declared.state.State.{State}
use Rattle.asking.specs.declared.ask.Ask.{Ask}
use Rattle.asking.specs.SetType.{typing, Typed}
use Rattle.pending.specs.Words.{words_in, pending_of, used}
use Rattle.writing.specs.State.{fresh, with_typing, with_waiting, with_parts, with_properties, with_feature, with_pending, records_used, pool_in, pools_by, Mem, memory, Outcome, wrote, outcome, settled, Wrote}
use Rattle.writing.specs.Feature.{belongs}
use Rattle.asking.specs.Ask.{adds_to, no_words, ask_of, Added}
use Rattle.pending.specs.Growth.{grown_all, past_all, part_of, root_over, fronted}
use Rattle.pending.specs.Room.{has_room}

-- ---- the words for each pool; an end counts the pairs of the pending list
abbrev pub values_of : State → Event → Lane → List ℕ
values_of s e xyL = e.x ∷ e.y ∷ []
values_of s e endsL = s.pending.xy.count / 2 ∷ []
values_of s e zL = e.z ∷ []
values_of s e mL = e.m ∷ []
values_of s e tL = e.t ∷ []
values_of s e tmL = e.tm ∷ []

abbrev pub gives : State → Added → Event → Lane → List ℕ
gives s a e n = cond (adds_to a n) (values_of s e n) []

-- a writer is ready where it is its turn, and all that it uses is lent and usable
abbrev pub is_ready : State → ℕ → Lent → Bool
is_ready s records pools = not s.waiting && has_room s.pending no_words (records_used s) records pools

-- ---- start
unfoldable pub started : ℕ → Bool → Bool → State
started declared detect promote = with_typing fresh (typing declared detect promote 0 0)

-- ---- an event: 11, 15, 17, 5, 12
abbrev pub records_for : State → Ask → ℕ
records_for s a = cond a.part (s.parts + 2) (records_used s)

-- the feature in hand is then that of number n
unfoldable pub state_after : State → ℕ → Ask → Typing → State
state_after s n a h =
    let t : State = with_feature (with_typing s h) (Some n) in
    cond a.part
    (with_parts (with_pending t (past_all (grown_all s.pending a.added))) (s.parts + 1))
    (with_pending t (grown_all s.pending a.added))

abbrev pub room_or : State → Bool → State → Wrote
room_or s room after = cond room (wrote 0 after) (wrote 12 s)

abbrev pub decide_typed : State → ℕ → Ask → Bool → Typed → Wrote
decide_typed s n a room None = wrote 5 s
decide_typed s n a room (Some h) = room_or s room (state_after s n a h)

-- in its turn, and of the feature in hand
unfoldable pub if_due : State → ℕ → Wrote → Wrote
if_due s n r = cond s.waiting (wrote 15 s) (cond (belongs s.feature n) r (wrote 17 s))

unfoldable pub decide_event : State → ℕ → Ask → ℕ → Lent → Wrote
decide_event s n a records pools = if_due s n (decide_typed s n a (has_room s.pending a.added (records_for s a) records pools) a.typed)

-- part i is record i + 1
unfoldable pub table_after : State → Ask → List ℕ → List ℕ
table_after s a table = cond a.part (put_record table (s.parts + 1) (part_of s.typing.current (grown_all s.pending a.added))) table

abbrev pub pool_after : State → Ask → Event → Pools → Lane → List ℕ
pool_after s a e P n = sets (pool_in P n) (used (words_in s.pending n)) (gives s a.added e n)

unfoldable pub mem_after : State → Ask → Event → Mem → Mem
mem_after s a e k = memory (table_after s a k.table) (pools_by (pool_after s a e k.pools))

unfoldable pub event_with : State → ℕ → Ask → Event → Mem → Outcome
event_with s n a e k = settled (decide_event s n a (records_lent k.table) (lent_of k.pools)) k (mem_after s a e k)

abbrev pub event_of : State → Mem → ℕ → Parsed → Outcome
event_of s k n Malformed = outcome (wrote 11 s) k
event_of s k n (WellFormed e) = event_with s n (ask_of s.typing e) e k

unfoldable pub event_call : State → Mem → List ℕ → Outcome
event_call s k bytes = event_of s k (feature_in bytes) (heard bytes)

-- ---- finish: 15, 12. Where there are no parts the root takes what is pending; typing, and what is pending beside parts, stay
unfoldable pub finished : State → State
finished s = with_waiting (with_pending s (cond (eqb s.parts 0) (past_all s.pending) s.pending)) true

unfoldable pub root_of : State → Geometry
root_of s = cond (eqb s.parts 0) (part_of s.typing.current s.pending) (root_over s.typing.current s.parts)

unfoldable pub decide_finish : State → ℕ → Lent → Wrote
decide_finish s records pools = cond s.waiting (wrote 15 s) (room_or s (has_room s.pending no_words (s.parts + 1) records pools) (finished s))

unfoldable pub finish_call : State → Mem → Outcome
finish_call s k = settled (decide_finish s (records_lent k.table) (lent_of k.pools)) k (memory (put_record k.table 0 (root_of s)) k.pools)

-- ---- next: 15, 12. Parts and properties are emptied, no feature is in hand, the pending words are moved to the front; other words stay
unfoldable pub renewed : State → State
renewed s = with_pending (with_feature (with_properties (with_parts (with_waiting s false) 0) 0) None) (pending_of (λ n. fronted (words_in s.pending n)))

unfoldable pub decide_next : State → ℕ → Lent → Wrote
decide_next s records pools = cond s.waiting (room_or s (has_room s.pending no_words (s.parts + 1) records pools) (renewed s)) (wrote 15 s)

abbrev pub moved : {A : Type 0} → List A → ℕ → ℕ → List A
moved l start count = take count (drop start l) ++ drop count l

abbrev pub pool_moved : State → Pools → Lane → List ℕ
pool_moved s P n = moved (pool_in P n) (words_in s.pending n).start (words_in s.pending n).count

unfoldable pub next_call : State → Mem → Outcome
next_call s k = settled (decide_next s (records_lent k.table) (lent_of k.pools)) k (memory k.table (pools_by (pool_moved s k.pools)))
