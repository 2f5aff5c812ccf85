-- One outcome: whatever meets a call's contract on the same entry is the same, answer, state and every lent slice. The premises are the calls' own `ensures`, word for word, over what an answer comes to; of the readings and of properties, over the answer itself too.
use Rattle.std.specs.Prelude.{◌≡◌, refl, Result, Bool, List, ◌++◌, ℕ, ◌*◌, take, drop}
use Rattle.std.proofs.Common.{Ok, Err, sym, ap, ◌∙◌, arith}
use Rattle.laws.specs.Script.{Script, out, Format, run}
use Rattle.laws.specs.Cut.{records_of, room_of, bytes_of, Said}
use Rattle.kinds.specs.declared.flags.Flags.{Flags}
use Rattle.kinds.specs.declared.refusal.Refusal.{Refusal}
use Rattle.kinds.specs.declared.refusal.Refusal.TheVariants.{NotUtf8 as Unspelt}
use Rattle.kinds.specs.Refusal.{number_of, answer_of, refused}
use Rattle.store.specs.Lists.{Pools, record_with}
use Rattle.event_log.specs.Log.{events}
use Rattle.event_log.specs.declared.log.Log.{Log}
use Rattle.event_log.specs.declared.layouts.Events.{Events}
use Rattle.event_log.specs.Says.{Says, of_events}
use Rattle.kinds.specs.declared.event.Event.{Event}
use Rattle.record_box.specs.Boxed.{Boxed, box_of, boxed_of}
use Rattle.reader.specs.Reading.{read_s}
use Rattle.wkb_reader.specs.Reading.{reading_r}
use Rattle.wkb_written.specs.Writing.{Written, Did}
use Rattle.property_writer.specs.Writing.{bytes_after}
use Rattle.property_value.specs.Value.{placed}
use Rattle.property_value.specs.declared.refused.PropertyRefusal.{PropertyRefusal}
use Rattle.property_value.specs.declared.refused.PropertyRefusal.TheVariants.{NotUtf8, Other}
use Rattle.property_value.specs.Refused.{refusal_of, place_of, answer_of as number_in, answer_place, Proper, Told}
use Rattle.property_reader.specs.Reading.{reading, bad_in, stopped, has_stopped}
use Rattle.property_reader.specs.declared.PropertiesRead.{PropertiesRead}
use Rattle.event_log.specs.Values.{values}
use Rattle.writing.specs.declared.state.State.{State}
use Rattle.writing.specs.State.{Mem, mem_of, outcome, Outcome, Wrote, wrote_of, wrote-number}
use Rattle.writing.specs.Calls.{started, event_call, finish_call, next_call}
use Rattle.runs.specs.declared.took.Took.{Took as Came}
use Rattle.runs.specs.Events.{Took, took_of, Progress, progress, events_call}
use Rattle.writer.specs.Property.{property_call, property_place, wrote_as}
use Rattle.bintolage.specs.Calls.{Kept, kept, Taken, taken}

-- ---- a log: its bytes, and the answer's number and count
pub said_once : {A : Type 0} (F : Format A) (s : Script A) (L : List ℕ) (number number' count count' : ℕ) (M M' : List ℕ)
    → Said F s L number count M → Said F s L number' count' M' → (number ≡ number') × (count ≡ count') × (M ≡ M')
said_once F s L number number' count count' M M' h k =
    let c : count ≡ count' = h.count-is ∙ sym k.count-is in
    (h.number_is ∙ sym k.number_is, c, h.log_is ∙ ap (λ (n : ℕ). bytes_of F (take (room_of F.wide L) (records_of s)) ++ drop (F.wide * n) L) c ∙ sym k.log_is)

ran_once : {A : Type 0} (F : Format A) (s : Script A) (L : List ℕ) (number number' count count' : ℕ) (M M' : List ℕ)
    → run F s L 0 ≡ out number count M → run F s L 0 ≡ out number' count' M' → (number ≡ number') × (count ≡ count') × (M ≡ M')
ran_once F s L number number' count count' M M' h k = let e = sym h ∙ k in (cc, cc, cc)

-- ---- what an answer comes to says which answer it is: a number is that of one refusal, and 0 is that of none. Of a property's refusal its number and its place say so, since it is told as it is to be.
refusal_once : (a b : Refusal) → number_of a ≡ number_of b → a ≡ b
refusal_once a b h = grind arith

pub answer_once : {A : Type 0} (a b : Result A Refusal) → answer_of a ≡ answer_of b → ((x y : A) → a ≡ Ok x → b ≡ Ok y → x ≡ y) → a ≡ b
answer_once (Ok x) (Ok y) h same = ap Ok (same x y refl refl)
answer_once (Ok x) (Err q) h same = absurd (refused q (sym h))
answer_once (Err p) (Ok y) h same = absurd (refused p h)
answer_once (Err p) (Err q) h same = ap Err (refusal_once p q h)

pub wrote_once : (s : State) (a b : Result State Refusal) → wrote_of s a ≡ wrote_of s b → a ≡ b
wrote_once s a b h = answer_once a b (sym (wrote-number s a) ∙ ap (λ (w : Wrote). w.number) h ∙ wrote-number s b)
    (λ x y p q. ap (λ (w : Wrote). w.state) (rw (p, q) at h))

proper_once : (a b : PropertyRefusal) → Proper a → Proper b → number_of (refusal_of a) ≡ number_of (refusal_of b) → place_of a ≡ place_of b → a ≡ b
proper_once (NotUtf8 place) (NotUtf8 other) p q h k = ap NotUtf8 k
proper_once (NotUtf8 place) (Other refusal) p q h k = absurd (q (refusal_once refusal Unspelt (sym h)))
proper_once (Other refusal) (NotUtf8 place) p q h k = absurd (p (refusal_once refusal Unspelt h))
proper_once (Other refusal) (Other other) p q h k = ap Other (refusal_once refusal other h)

pub told_once : {A : Type 0} (a b : Result A PropertyRefusal) → Told a → Told b → number_in a ≡ number_in b → answer_place a ≡ answer_place b → ((x y : A) → a ≡ Ok x → b ≡ Ok y → x ≡ y) → a ≡ b
told_once (Ok x) (Ok y) p q h k same = ap Ok (same x y refl refl)
told_once (Ok x) (Err e) p q h k same = absurd (refused (refusal_of e) (sym h))
told_once (Err d) (Ok y) p q h k same = absurd (refused (refusal_of d) h)
told_once (Err d) (Err e) p q h k same = ap Err (proper_once d e p q h k)

abbrev came : ℕ → State → Result (Unit {0}) Refusal → Came
came taken state answer = record { taken = taken; state = state; answer = answer }

pub took_once : (a b : Came) → took_of a ≡ took_of b → a ≡ b
took_once a b h =
    ap (λ (n : ℕ). came n a.state a.answer) (ap (λ (t : Took). t.taken) h)
    ∙ ap (λ (s : State). came b.taken s a.answer) (ap (λ (t : Took). t.state) h)
    ∙ ap (came b.taken b.state) (answer_once a.answer b.answer (ap (λ (t : Took). t.number) h) (λ x y p q. refl))

-- ---- a writing call: number, state, and the seven lent slices
module _ (r r' : Wrote) (table table' xy xy' ends ends' z z' m m' t t' tm tm' : List ℕ) where
  abbrev left : Outcome
  left = outcome r (mem_of table xy ends z m t tm)

  abbrev left' : Outcome
  left' = outcome r' (mem_of table' xy' ends' z' m' t' tm')

  abbrev pub Same : Type 0
  Same = (r ≡ r') × (table ≡ table') × (xy ≡ xy') × (ends ≡ ends') × (z ≡ z') × (m ≡ m') × (t ≡ t') × (tm ≡ tm')

  same : left ≡ left' → Same
  same e = (
    ap (λ (o : Outcome). o.wrote) e,
    ap (λ (o : Outcome). o.mem.table) e,
    ap (λ (o : Outcome). o.mem.pools.xy) e,
    ap (λ (o : Outcome). o.mem.pools.ends) e,
    ap (λ (o : Outcome). o.mem.pools.z) e,
    ap (λ (o : Outcome). o.mem.pools.m) e,
    ap (λ (o : Outcome). o.mem.pools.t) e,
    ap (λ (o : Outcome). o.mem.pools.tm) e,
  )

  pub event_once : (s : State) (k : Mem) (bytes : List ℕ) → left ≡ event_call s k bytes → left' ≡ event_call s k bytes → Same
  event_once s k bytes h h' = same (h ∙ sym h')

  pub finish_once : (s : State) (k : Mem) → left ≡ finish_call s k → left' ≡ finish_call s k → Same
  finish_once s k h h' = same (h ∙ sym h')

  pub next_once : (s : State) (k : Mem) → left ≡ next_call s k → left' ≡ next_call s k → Same
  next_once s k h h' = same (h ∙ sym h')

-- ---- events: how many were taken, too
module _ (r r' : Took) (table table' xy xy' ends ends' z z' m m' t t' tm tm' : List ℕ) where
  pub events_once : (s : State) (k : Mem) (bytes : List ℕ) → progress r (mem_of table xy ends z m t tm) ≡ events_call s k bytes → progress r' (mem_of table' xy' ends' z' m' t' tm') ≡ events_call s k bytes
      → (r ≡ r') × (table ≡ table') × (xy ≡ xy') × (ends ≡ ends') × (z ≡ z') × (m ≡ m') × (t ≡ t') × (tm ≡ tm')
  events_once s k bytes h h' =
      let e : progress r (mem_of table xy ends z m t tm) ≡ progress r' (mem_of table' xy' ends' z' m' t' tm') = h ∙ sym h' in (
        ap (λ (p : Progress). p.took) e,
        ap (λ (p : Progress). p.mem.table) e,
        ap (λ (p : Progress). p.mem.pools.xy) e,
        ap (λ (p : Progress). p.mem.pools.ends) e,
        ap (λ (p : Progress). p.mem.pools.z) e,
        ap (λ (p : Progress). p.mem.pools.m) e,
        ap (λ (p : Progress). p.mem.pools.t) e,
        ap (λ (p : Progress). p.mem.pools.tm) e,
      )

pub start_once : (declared : ℕ) (detect promote : Bool) (s s' : State) → s ≡ started declared detect promote → s' ≡ started declared detect promote → s ≡ s'
start_once declared detect promote s s' h h' = h ∙ sym h'

pub property_once : (s : State) (column kind bits : ℕ) (text buffer : List ℕ) (r r' : Wrote) (after after' : List ℕ) (place place' : ℕ)
    → r ≡ property_call s column kind bits text buffer → after ≡ bytes_after s.waiting s.properties column kind bits text buffer → place ≡ property_place s column kind bits text buffer
    → r' ≡ property_call s column kind bits text buffer → after' ≡ bytes_after s.waiting s.properties column kind bits text buffer → place' ≡ property_place s column kind bits text buffer
    → (r ≡ r') × (after ≡ after') × (place ≡ place')
property_once s column kind bits text buffer r r' after after' place place' h k l h' k' l' = (h ∙ sym h', k ∙ sym k', l ∙ sym l')

number_as : (s : State) (answer : Result State PropertyRefusal) → (wrote_as s answer).number ≡ number_in answer
number_as s (Ok after) = refl
number_as s (Err refusal) = refl

-- and the answer of the code itself
pub property_answer_once : (s : State) (column kind bits : ℕ) (text buffer : List ℕ) (a b : Result State PropertyRefusal) (after after' : List ℕ)
    → wrote_as s a ≡ property_call s column kind bits text buffer → after ≡ bytes_after s.waiting s.properties column kind bits text buffer → answer_place a ≡ property_place s column kind bits text buffer → Told a
    → wrote_as s b ≡ property_call s column kind bits text buffer → after' ≡ bytes_after s.waiting s.properties column kind bits text buffer → answer_place b ≡ property_place s column kind bits text buffer → Told b
    → (a ≡ b) × (after ≡ after')
property_answer_once s column kind bits text buffer a b after after' h k l t h' k' l' t' =
    let o = property_once s column kind bits text buffer (wrote_as s a) (wrote_as s b) after after' (answer_place a) (answer_place b) h k l h' k' l' in
    let numbers = sym (number_as s a) ∙ ap (λ (w : Wrote). w.number) o.0 ∙ number_as s b in
    (told_once a b t t' numbers o.2 (λ x y p q. ap (λ (w : Wrote). w.state) (rw (p, q) at o.0)), o.1)

-- ---- the readers. Whatever a call says to a log, however many records it holds, it leaves one log and gives one answer.
pub says_once : {L A R : Type 0} (format : L → Format A) (s : Script A) (a b b' : Log L) (r r' : Result R Refusal)
    → Says format s a b r → Says format s a b' r' → (answer_of r ≡ answer_of r') × (b.count ≡ b'.count) × (b.bytes.now ≡ b'.bytes.now) × (b.bytes.ghost_name ≡ b'.bytes.ghost_name) × (b.layout ≡ b'.layout)
says_once format s a b b' r r' h h' =
    let e = sym h.said ∙ h'.said in
    (cc, cc, cc, h.memory ∙ sym h'.memory, h.layout ∙ sym h'.layout)

done_once : (r r' : Result (Unit {0}) Refusal) → answer_of r ≡ answer_of r' → r ≡ r'
done_once r r' h = answer_once r r' h (λ x y p q. refl)

-- from any count on
module _ (a b b' : Log Events) (r r' : Result (Unit {0}) Refusal) where
  abbrev pub OneLog : Type 0
  OneLog = (r ≡ r') × (b.count ≡ b'.count) × (b.bytes.now ≡ b'.bytes.now) × (b.bytes.ghost_name ≡ b'.bytes.ghost_name) × (b.layout ≡ b'.layout)

  one_log : (s : Script Event) → Says of_events s a b r → Says of_events s a b' r' → OneLog
  one_log s h h' =
      let o = says_once of_events s a b b' r r' h h' in
      (done_once r r' o.0, o.1, o.2, o.3, o.4)

  pub read_once : (F : Flags) (table : List ℕ) (P : Pools) (declared : ℕ)
      → Says of_events (read_s F (record_with table P) declared) a b r → Says of_events (read_s F (record_with table P) declared) a b' r' → OneLog
  read_once F table P declared = one_log (read_s F (record_with table P) declared)

  pub read_wkb_once : (bytes : List ℕ) → Says of_events (reading_r bytes) a b r → Says of_events (reading_r bytes) a b' r' → OneLog
  read_wkb_once bytes = one_log (reading_r bytes)

-- as they are exported, from the log's start
module _ (number number' count count' : ℕ) (log log' : List ℕ) where
  pub bintolage_read_once : (F : Flags) (feature : ℕ) (table : List ℕ) (P : Pools) (declared : ℕ) (L : List ℕ)
      → Said (events feature) (read_s F (record_with table P) declared) L number count log → Said (events feature) (read_s F (record_with table P) declared) L number' count' log'
      → (number ≡ number') × (count ≡ count') × (log ≡ log')
  bintolage_read_once F feature table P declared L = said_once (events feature) (read_s F (record_with table P) declared) L number number' count count' log log'

  pub bintolage_read_wkb_once : (feature : ℕ) (bytes L : List ℕ)
      → Said (events feature) (reading_r bytes) L number count log → Said (events feature) (reading_r bytes) L number' count' log'
      → (number ≡ number') × (count ≡ count') × (log ≡ log')
  bintolage_read_wkb_once feature bytes L = said_once (events feature) (reading_r bytes) L number number' count count' log log'

  pub read_properties_once : (bytes : List ℕ) (has-columns : Bool) (columns : List ℕ) (stop : ℕ) (L : List ℕ) (at at' : Bool) (place place' : ℕ)
      → run values (reading bytes has-columns columns stop) L 0 ≡ out number count log → at ≡ stopped stop (reading bytes has-columns columns stop) number → place ≡ placed number (bad_in bytes has-columns columns stop)
      → run values (reading bytes has-columns columns stop) L 0 ≡ out number' count' log' → at' ≡ stopped stop (reading bytes has-columns columns stop) number' → place' ≡ placed number' (bad_in bytes has-columns columns stop)
      → (number ≡ number') × (count ≡ count') × (log ≡ log') × (at ≡ at') × (place ≡ place')
  read_properties_once bytes has-columns columns stop L at at' place place' h k l h' k' l' =
      let o = ran_once values (reading bytes has-columns columns stop) L number number' count count' log log' h h' in
      (o.0, o.1, o.2, k ∙ ap (stopped stop (reading bytes has-columns columns stop)) o.0 ∙ sym k', l ∙ ap (λ (n : ℕ). placed n (bad_in bytes has-columns columns stop)) o.0 ∙ sym l')

abbrev read_as : ℕ → Result Bool PropertyRefusal → PropertiesRead
read_as count stopped = record { count = count; stopped = stopped }

-- and the answer of the code itself
pub read_properties_answer_once : (bytes : List ℕ) (has-columns : Bool) (columns : List ℕ) (stop : ℕ) (L : List ℕ) (a b : PropertiesRead) (log log' : List ℕ)
    → run values (reading bytes has-columns columns stop) L 0 ≡ out (number_in a.stopped) a.count log
    → has_stopped a.stopped ≡ stopped stop (reading bytes has-columns columns stop) (number_in a.stopped) → answer_place a.stopped ≡ placed (number_in a.stopped) (bad_in bytes has-columns columns stop) → Told a.stopped
    → run values (reading bytes has-columns columns stop) L 0 ≡ out (number_in b.stopped) b.count log'
    → has_stopped b.stopped ≡ stopped stop (reading bytes has-columns columns stop) (number_in b.stopped) → answer_place b.stopped ≡ placed (number_in b.stopped) (bad_in bytes has-columns columns stop) → Told b.stopped
    → (a ≡ b) × (log ≡ log')
read_properties_answer_once bytes has-columns columns stop L a b log log' h k l t h' k' l' t' =
    let o = read_properties_once (number_in a.stopped) (number_in b.stopped) a.count b.count log log' bytes has-columns columns stop L (has_stopped a.stopped) (has_stopped b.stopped) (answer_place a.stopped) (answer_place b.stopped) h k l h' k' l' in
    let answers = told_once a.stopped b.stopped t t' o.0 o.4 (λ x y p q. rw (p, q) at o.3) in
    (ap (λ (n : ℕ). read_as n a.stopped) o.1 ∙ ap (read_as b.count) answers, o.2)

-- ---- well-known binary written: the answer, how many bytes, and the buffer
pub write_wkb_once : (w : Written) (room : List ℕ) (number number' long long' : ℕ) (after after' : List ℕ)
    → Did w room number long after → Did w room number' long' after' → (number ≡ number') × (long ≡ long') × (after ≡ after')
write_wkb_once w room number number' long long' after after' h k = (h.number_is ∙ sym k.number_is, h.long_is ∙ sym k.long_is, h.laid ∙ sym k.laid)

pub boxed_once : (a b : Result _ Refusal) → boxed_of a ≡ boxed_of b → a ≡ b
boxed_once (Ok x) (Ok y) h = ap Ok (ap (λ (b : Boxed). b.bbox) h)
boxed_once (Ok x) (Err q) h = absurd (refused q (sym (ap (λ (b : Boxed). b.number) h)))
boxed_once (Err p) (Ok y) h = absurd (refused p (ap (λ (b : Boxed). b.number) h))
boxed_once (Err p) (Err q) h = ap Err (refusal_once p q (ap (λ (b : Boxed). b.number) h))

pub box_once : (table : List ℕ) (P : Pools) (n : ℕ) (b b' : Boxed) → b ≡ box_of (record_with table P) n → b' ≡ box_of (record_with table P) n → b ≡ b'
box_once table P n b b' h h' = h ∙ sym h'

-- ---- the exported calls: the writing ones keep the state as words; the readings have their own above (bintolage_read_once, bintolage_read_wkb_once), and the others' contracts are equations
pub kept_once : (number number' : ℕ) (words words' : List ℕ) (mem mem' : Mem) (o : Kept) → kept number words mem ≡ o → kept number' words' mem' ≡ o → (number ≡ number') × (words ≡ words') × (mem ≡ mem')
kept_once number number' words words' mem mem' o h h' =
    let e = h ∙ sym h' in
    (ap (λ (k : Kept). k.number) e, ap (λ (k : Kept). k.words) e, ap (λ (k : Kept). k.mem) e)

pub taken_once : (number number' count count' : ℕ) (words words' : List ℕ) (mem mem' : Mem) (o : Taken) → taken number count words mem ≡ o → taken number' count' words' mem' ≡ o
    → (number ≡ number') × (count ≡ count') × (words ≡ words') × (mem ≡ mem')
taken_once number number' count count' words words' mem mem' o h h' =
    let e = h ∙ sym h' in
    (ap (λ (k : Taken). k.number) e, ap (λ (k : Taken). k.taken) e, ap (λ (k : Taken). k.words) e, ap (λ (k : Taken). k.mem) e)
