-- SPEC 11.21: programs that a contract rules out. Each is any program of its kind, taken as what it answers and leaves; that it met the call's contract is absurd.
use Rattle.std.proofs.Math.Path.{◌≡◌, refl, sym, ap}
use Rattle.std.proofs.Common.{◌∙◌, length-take}
use Rattle.std.specs.Prelude.{true, ℕ, ◌≤◌, ◌<◌, length, take}
use Rattle.std.proofs.Math.Bool.{false}
use mathlib.Core.List.{List, [], ◌∷◌}
use Rattle.std.proofs.Math.Option.{Option, none, some}
use native.Mathlib.Omega.{arith}
use Rattle.laws.specs.Every.{both}
use Rattle.laws.specs.Script.{Script, say}
use Rattle.laws.specs.Cut.{records_of, room_of, Said}
use Rattle.kinds.specs.Event.{EventSized, begin_e, xy_e, end_e, well_formed}
use Rattle.kinds.specs.declared.event.Event.{Event}
use Rattle.kinds.specs.declared.flags.Flags.{Flags}
use Rattle.store.specs.Lists.{Rec, Pools, lent_of, record_with}
use Rattle.event_log.specs.Log.{events, hear_said}
use Rattle.lines.specs.Lines.{or_none}
use Rattle.reader.specs.Reading.{read_s}
use Rattle.reader.specs.Examples.{no_flags}
use Rattle.writing.specs.declared.state.State.{State}
use Rattle.writing.specs.State.{Mem}
use Rattle.asking.specs.SetType.{set_type}
use Rattle.writing.specs.Calls.{started, event_call, event_with, if_due, decide_event, finished, finish_call, renewed, decide_next, next_call}
use Rattle.asking.specs.Ask.{ask_of, begun}
use Rattle.pending.specs.Room.{has_room}
use Rattle.writer_model.specs.Bench.{polygon, four, rec}
use Rattle.writer_model.specs.BenchCalls.{blank}
use Rattle.writer_model.proofs.BenchCalls.{b1_called, b2_called}
use Rattle.writer_model.specs.Writer.{Writer, fresh}
use Rattle.writer_model.specs.Call.{Call, event_c, finish_c, next_c, called}
use Rattle.writer_model.specs.Rows.{Reached, start}
use Rattle.writer_model.specs.Fed.{given, takes, fed_to, fed_mem, pairs_of, first-heard, first-numbered, takes-rest, fed_rest}
use Rattle.writer_model.specs.Feature.{finishes_in, finished_mem, next_mem, done, finished-is, renewed-is}
use Rattle.writer_model.specs.Example.{first, second, again, over}
use Rattle.writer_model.proofs.Example.{all-taken, goes_on, first-over, again-taken, second-read}
use Rattle.writer_model.specs.Example as Example
use Rattle.as_words.specs.Words.{state_of, words_of}
use Rattle.as_words.specs.WordLaws.{state-words}
use Rattle.as_words.specs.Stays.{started-bytes}
use Rattle.bintolage.specs.Calls.{Kept, kept, kept_of}
use Rattle.store.specs.Records.{records_lent}
use Rattle.claims.specs.Linked.{call_state}
use Rattle.claims.specs.Bench.{b1}
use Rattle.claims.specs.Outcome.{bintolage_read_once}

-- a Point's begin is taken
point : List ℕ
point = (events 0).bytes (begin_e 1 false 0 0)

point-begins : (event_call (started 1 false false) (blank 0 0 0) point).wrote.number ≡ 0
unfolding started event_call event_with ask_of begun set_type decide_event if_due has_room well_formed begin_e point
point-begins = rw (hear_said 0 (begin_e 1 false 0 0) small refl)
  where
    small : EventSized (begin_e 1 false 0 0)
    small = record { size = omega arith; idx = omega arith; x = omega arith; y = omega arith; z = omega arith; m = omega arith; t = omega arith; tm = omega arith }

end_count : Option Rec → ℕ
end_count none = 0
end_count (some r) = length (or_none r.ends)

-- ---- a writer, as what its calls answer and leave; that it meets the contracts of those that a machine links
pub record Program : Type 0 where
  pub event : List ℕ → Mem → List ℕ → Kept
  pub finish : List ℕ → Mem → Kept
  pub next : List ℕ → Mem → Kept

pub record Meets (p : Program) : Type 0 where
  pub event : (words : List ℕ) (k : Mem) (bytes : List ℕ) → p.event words k bytes ≡ kept_of words (event_call (state_of words) k bytes)
  pub finish : (words : List ℕ) (k : Mem) → p.finish words k ≡ kept_of words (finish_call (state_of words) k)
  pub next : (words : List ℕ) (k : Mem) → p.next words k ≡ kept_of words (next_call (state_of words) k)

-- what it leaves of events, each given as its record under the feature's number, of a feature that is finished, and of one that next leaves behind
abbrev pub given_to : Program → ℕ → List ℕ → Mem → List Event → Kept
given_to p n words k [] = kept 0 words k
given_to p n words k (e ∷ es) = let o = p.event words k ((events n).bytes e) in given_to p n o.words o.mem es

abbrev pub finished_by : Program → ℕ → List ℕ → Mem → List Event → Kept
finished_by p n words k es = let o = given_to p n words k es in p.finish o.words o.mem

abbrev pub passed_by : Program → ℕ → List ℕ → Mem → List Event → Kept
passed_by p n words k es = let o = finished_by p n words k es in p.next o.words o.mem

-- the records of a tree that was left
abbrev pub record_left : Kept → ℕ → Option Rec
record_left o n = record_with o.mem.table o.mem.pools n

record Comes (o : Kept) (s : State) (k : Mem) : Type 0 where
  state : state_of o.words ≡ s
  mem : o.mem ≡ k

abbrev started_words : ℕ → List ℕ
started_words declared = words_of (started declared false false)

started-state : (declared : ℕ) → declared < 256 → state_of (started_words declared) ≡ started declared false false
started-state declared small = state-words (started declared false false) (started-bytes declared false false small)

module _ (p : Program) (meets : Meets p) where
  -- a call of it, on words and memory that come to s and k
  module _ (words : List ℕ) (k' : Mem) (s : State) (k : Mem) (h : Comes (kept 0 words k') s k) where
    called_comes : (c : Call) (o : Kept) → o ≡ kept_of words (called (state_of words) k' c) → Comes o (called s k c).wrote.state (called s k c).mem
    unfolding kept_of
    called_comes c o e =
        let now : Comes o (called (state_of words) k' c).wrote.state (called (state_of words) k' c).mem = record { state = ap (λ (o : Kept). state_of o.words) e ∙ call_state words k' c; mem = ap (λ (o : Kept). o.mem) e } in
        rw (h.state, h.mem) at now

  module _ (n : ℕ) (fits : n < 4294967296) where
    given_comes : (e : Event) (es : List Event) (words : List ℕ) (k' : Mem) (s : State) (k : Mem) → Comes (kept 0 words k') s k → takes s n (records_lent k.table) (lent_of k.pools) (e ∷ es) ≡ true
        → Comes (p.event words k' ((events n).bytes e)) (given s n k e).wrote.state (given s n k e).mem
    unfolding event_call
    given_comes e es words k' s k c h = rw (first-heard e es s n k h, first-numbered e es s n k h fits) at (called_comes words k' s k c (event_c ((events n).bytes e)) _ (meets.event words k' ((events n).bytes e)))

    all_comes : (es : List Event) (words : List ℕ) (k' : Mem) (s : State) (k : Mem) → Comes (kept 0 words k') s k → takes s n (records_lent k.table) (lent_of k.pools) es ≡ true → Comes (given_to p n words k' es) (fed_to s n k es) (fed_mem s n k es)
    all_comes [] words k' s k c h = c
    all_comes (e ∷ es) words k' s k c h =
        let one = given_comes e es words k' s k c h in
        rw (fed_rest e es s n k h) at (all_comes es _ _ _ _ (record { state = one.state; mem = one.mem }) (takes-rest e es s n k h))

  module _ (n : ℕ) (fits : n < 4294967296) (words : List ℕ) (k' : Mem) (s : State) (k : Mem) (w : Writer) (l : List ℕ) (es : List Event) (c : Comes (kept 0 words k') s k) (ok : finishes_in s n k es ≡ true) (r : Reached s k w l) where
    all-given : Comes (given_to p n words k' es) (fed_to s n k es) (fed_mem s n k es)
    all-given = all_comes n fits es words k' s k c (both (takes s n (records_lent k.table) (lent_of k.pools) es) _ ok).0

    finished-done : (finished_by p n words k' es).number ≡ 0
    unfolding kept_of
    finished-done = ap (λ (o : Kept). o.number) (meets.finish _ _) ∙ rw (all-given.state, all-given.mem) (done s n k w l es fits ok r)

    finished_comes : Comes (finished_by p n words k' es) (finished (fed_to s n k es)) (finished_mem s n k es)
    finished_comes = rw (finished-is s n k w l es fits ok r) at (called_comes _ _ _ _ (record { state = all-given.state; mem = all-given.mem }) finish_c _ (meets.finish _ _))

    passed_comes : (decide_next (finished (fed_to s n k es)) (records_lent k.table) (lent_of k.pools)).number ≡ 0 → Comes (passed_by p n words k' es) (renewed (finished (fed_to s n k es))) (next_mem s n k es)
    passed_comes goes =
        let all = finished_comes in
        rw (renewed-is s n k w l es fits ok r goes) at (called_comes _ _ _ _ (record { state = all.state; mem = all.mem }) next_c _ (meets.next _ _))

  -- ---- one that refuses everything
  pub refuses_everything : ((words : List ℕ) (k : Mem) (bytes : List ℕ) → (p.event words k bytes).number ≡ 0 → ⊥) → ⊥
  unfolding kept_of
  refuses_everything refuses = refuses (started_words 1) (blank 0 0 0) point (ap (λ (o : Kept). o.number) (meets.event (started_words 1) (blank 0 0 0) point) ∙ rw (started-state 1 (omega arith)) point-begins)

  -- ---- one with a constant tree: B1 and B2 leave different roots, under whichever number
  module _ (n : ℕ) (fits : n < 4294967296) where
    module _ (k : Mem) (es : List Event) (ok : finishes_in (started 3 false false) n k es ≡ true) where
      abbrev alone : Comes (kept 0 (started_words 3) k) (started 3 false false) k
      alone = record { state = started-state 3 (omega arith); mem = refl }

      polygon-done : (finished_by p n (started_words 3) k es).number ≡ 0
      polygon-done = finished-done n fits (started_words 3) k (started 3 false false) k (fresh 3 false false) [] es alone ok (start 3 false false k)

      polygon-left : (root : Rec) → record_with (finished_mem (started 3 false false) n k es).table (finished_mem (started 3 false false) n k es).pools 0 ≡ some root → record_left (finished_by p n (started_words 3) k es) 0 ≡ some root
      polygon-left root is = rw (finished_comes n fits (started_words 3) k (started 3 false false) k (fresh 3 false false) [] es alone ok (start 3 false false k)).mem is

    pub constant_tree : (root : Option Rec) → ((k : Mem) (es : List Event) → (finished_by p n (started_words 3) k es).number ≡ 0 → record_left (finished_by p n (started_words 3) k es) 0 ≡ root) → ⊥
    unfolding end_count
    constant_tree root always =
        let b1 = b1_called n in
        let b2 = b2_called n in
        let one = always (blank 1 8 1) (polygon (four ∷ [])) (polygon-done (blank 1 8 1) (polygon (four ∷ [])) b1.0) in
        let two = always (blank 1 16 2) (polygon (four ∷ four ∷ [])) (polygon-done (blank 1 16 2) (polygon (four ∷ four ∷ [])) b2.0) in
        let z : ◌≡◌ {A = ℕ} 0 2 = ap end_count (sym (polygon-left (blank 1 8 1) (polygon (four ∷ [])) b1.0 _ b1.1.0) ∙ one ∙ sym two ∙ polygon-left (blank 1 16 2) (polygon (four ∷ four ∷ [])) b2.0 _ b2.1.0) in
        omega arith

  -- ---- one honest only for its first feature, of number n: this second feature's pair, under number m and behind the one that is carried in, is not in record 1
  pub first_feature_alone : (n m : ℕ) → n < 4294967296 → m < 4294967296
      → ((r : Rec) → let o = passed_by p n (started_words 7) Example.blank first in record_left (finished_by p m o.words o.mem second) 1 ≡ some r → r.xy ≡ some (3 ∷ 4 ∷ pairs_of second) → ⊥) → ⊥
  unfolding begin_e xy_e end_e
  first_feature_alone n m n-fits m-fits loses =
      let s = started 7 false false in
      let c = passed_comes n n-fits (started_words 7) Example.blank s Example.blank (fresh 7 false false) [] first (record { state = started-state 7 (omega arith); mem = refl }) (all-taken n) (start 7 false false Example.blank) (goes_on n) in
      let d = finished_comes m m-fits _ _ (again n) (over n) _ _ second (record { state = c.state; mem = c.mem }) (again-taken n n-fits m) (first-over n n-fits) in
      loses (rec 1 (3 ∷ 4 ∷ 5 ∷ 6 ∷ []) none) (rw d.mem (second-read n n-fits m m-fits).1.0) refl

-- ---- a reader that says nothing, whatever it answers and leaves: B1's tree has something to say
something_said : (feature : ℕ) (s rest : Script Event) (e : Event) (L : List ℕ) (number : ℕ) (M : List ℕ) → s ≡ say e rest → 1 ≤ room_of 64 L → Said (events feature) s L number 0 M → ⊥
unfolding events records_of
something_said feature s rest e L number M q room said =
    let n : 0 ≡ length (take (room_of 64 L) (e ∷ records_of rest)) = rw q at said.count-is in
    omega (arith, n, length-take (room_of 64 L) (e ∷ records_of rest))

pub reads_nothing : (n : ℕ) (L : List ℕ) (number : ℕ) (M : List ℕ) → 1 ≤ room_of 64 L
    → (let k = finished_mem (started 3 false false) n (blank 1 8 1) (polygon (four ∷ [])) in Said (events n) (read_s no_flags (record_with k.table k.pools) 3) L number 0 M) → ⊥
reads_nothing n L number M room said = something_said n _ _ _ L number M (b1 n).1.script room said

-- ---- a record count that isn't the log's
pub another_count : (F : Flags) (feature : ℕ) (table : List ℕ) (P : Pools) (declared : ℕ) (L : List ℕ) (number count another : ℕ) (M : List ℕ)
    → Said (events feature) (read_s F (record_with table P) declared) L number count M → (another ≡ count → ⊥) → Said (events feature) (read_s F (record_with table P) declared) L number another M → ⊥
another_count F feature table P declared L number count another M said differs told = differs (bintolage_read_once number number another count M M F feature table P declared L told said).1
