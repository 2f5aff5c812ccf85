-- Events given one after another, in their own bytes, under one number: that all are accepted is one test, which looks at no memory but the lent lengths.
use Rattle.std.specs.Prelude.{◌≡◌, refl, Bool, true, ◌&&◌, List, [], ◌∷◌, ◌++◌, ℕ, ◌<◌, ltb}
use Rattle.std.proofs.Common.{◌∙◌, append-nil, append_assoc}
use Rattle.std.proofs.Math.Dec.{eqb}
use borrow.Author.Tests.{ltb-true, eqb-true}
use Rattle.laws.specs.Every.{both}
use Rattle.kinds.specs.Event.{well_formed, EventSized, WellFormed}
use Rattle.kinds.specs.declared.event.Event.{Event}
use Rattle.kinds.specs.Lanes.{Lent}
use Rattle.store.specs.Lists.{lent_of}
use Rattle.event_log.specs.Log.{events, heard, feature_in, hear_said, feature-said}
use Rattle.store.specs.Records.{records_lent}
use Rattle.writing.specs.declared.state.State.{State}
use Rattle.writing.specs.State.{Wrote, Mem, Outcome}
use Rattle.asking.specs.Ask.{ask_of}
use Rattle.writing.specs.Calls.{decide_event, event_with, event_call}
use Rattle.writer_model.specs.Writer.{Writer, after, after_all}
use Rattle.writer_model.specs.Stands.{Agrees}
use Rattle.writer_model.specs.Call.{event_c}
use Rattle.writer_model.specs.Pairs.{pair_of}
use Rattle.writer_model.specs.Lengths.{SameLengths, lent_same, event_lengths}
use Rattle.writer_model.specs.Rows.{Reached, accepted}

pub agrees_self : (s : State) (k : Mem) → Agrees s k k
agrees_self s k = record { pools = λ n. refl; table = λ i a b. refl }

-- ---- an event that is well-formed, with fields that fit their bytes
abbrev pub sized : Event → Bool
sized e =
    ltb e.size 4294967296 && ltb e.idx 4294967296 && ltb e.x 18446744073709551616 && ltb e.y 18446744073709551616
    && ltb e.z 18446744073709551616 && ltb e.m 18446744073709551616 && ltb e.t 18446744073709551616 && ltb e.tm 18446744073709551616

pub sized-is : (e : Event) → sized e ≡ true → EventSized e
sized-is e h =
    let tm = both _ (ltb e.tm 18446744073709551616) h in
    let t = both _ (ltb e.t 18446744073709551616) tm.0 in
    let m = both _ (ltb e.m 18446744073709551616) t.0 in
    let z = both _ (ltb e.z 18446744073709551616) m.0 in
    let y = both _ (ltb e.y 18446744073709551616) z.0 in
    let x = both _ (ltb e.x 18446744073709551616) y.0 in
    let idx = both (ltb e.size 4294967296) (ltb e.idx 4294967296) x.0 in
    record {
      size = ltb-true _ _ idx.0;
      idx = ltb-true _ _ idx.1;
      x = ltb-true _ _ x.1;
      y = ltb-true _ _ y.1;
      z = ltb-true _ _ z.1;
      m = ltb-true _ _ m.1;
      t = ltb-true _ _ t.1;
      tm = ltb-true _ _ tm.1;
    }

-- ---- one event
abbrev pub given : State → ℕ → Mem → Event → Outcome
given s n k e = event_with s n (ask_of s.typing e) e k

said-reached : {s : State} {k : Mem} {w : Writer} {l : List ℕ} (n : ℕ) (e : Event) → heard ((events n).bytes e) ≡ WellFormed e → feature_in ((events n).bytes e) ≡ n → (given s n k e).wrote.number ≡ 0 → Reached s k w l
    → Reached (given s n k e).wrote.state (given s n k e).mem (after w e) (l ++ pair_of e)
unfolding event_call
said-reached {s} {k} {w} {l} n e hears numbered q r = rw (hears, numbered) at (accepted {s = s} {k = k} {w = w} {l = l} (event_c ((events n).bytes e)) (rw (hears, numbered) q) r)

-- ---- a row of events, each lent what the last one left; the tests see the numbers of records and words that are lent
abbrev pub decided : State → ℕ → ℕ → Lent → Event → Wrote
decided s n records pools e = decide_event s n (ask_of s.typing e) records pools

abbrev pub takes : State → ℕ → ℕ → Lent → List Event → Bool
takes s n records pools [] = true
takes s n records pools (e ∷ es) = well_formed e && sized e && eqb (decided s n records pools e).number 0 && takes (decided s n records pools e).state n records pools es

abbrev pub fed_state : State → ℕ → ℕ → Lent → List Event → State
fed_state s n records pools [] = s
fed_state s n records pools (e ∷ es) = fed_state (decided s n records pools e).state n records pools es

abbrev pub fed_to : State → ℕ → Mem → List Event → State
fed_to s n k es = fed_state s n (records_lent k.table) (lent_of k.pools) es

abbrev pub fed_mem : State → ℕ → Mem → List Event → Mem
fed_mem s n k [] = k
fed_mem s n k (e ∷ es) = fed_mem (given s n k e).wrote.state n (given s n k e).mem es

abbrev pub pairs_of : List Event → List ℕ
pairs_of [] = []
pairs_of (e ∷ es) = pair_of e ++ pairs_of es

pub record Fed (s : State) (n : ℕ) (k : Mem) (w : Writer) (l : List ℕ) (es : List Event) : Type 0 where
  pub reached : Reached (fed_to s n k es) (fed_mem s n k es) (after_all w es) (l ++ pairs_of es)
  pub lengths : SameLengths k (fed_mem s n k es)

-- what the test of a row says of its first event, and of those behind it
module _ (e : Event) (es : List Event) (s : State) (n : ℕ) (k : Mem) (h : takes s n (records_lent k.table) (lent_of k.pools) (e ∷ es) ≡ true) where
  abbrev one : Outcome
  one = given s n k e

  apart : (well_formed e ≡ true) × (sized e ≡ true) × (one.wrote.number ≡ 0) × (takes one.wrote.state n (records_lent k.table) (lent_of k.pools) es ≡ true)
  unfolding event_with
  apart =
      let b = both (well_formed e && sized e && eqb one.wrote.number 0) (takes one.wrote.state n (records_lent k.table) (lent_of k.pools) es) h in
      let c = both (well_formed e && sized e) (eqb one.wrote.number 0) b.0 in
      let d = both (well_formed e) (sized e) c.0 in
      (d.0, d.1, eqb-true _ 0 c.1, b.1)

  pub first_done : one.wrote.number ≡ 0
  first_done = apart.2

  pub first-heard : heard ((events n).bytes e) ≡ WellFormed e
  first-heard = hear_said n e (sized-is e apart.1) apart.0

  pub first-numbered : n < 4294967296 → feature_in ((events n).bytes e) ≡ n
  first-numbered fits = feature-said n e fits

  pub first_lengths : SameLengths k one.mem
  first_lengths = event_lengths s k n e first_done

  pub takes-rest : takes one.wrote.state n (records_lent one.mem.table) (lent_of one.mem.pools) es ≡ true
  takes-rest = rw (first_lengths.table, lent_same k one.mem first_lengths) apart.3

  -- the state that the row comes to
  pub fed_rest : fed_to one.wrote.state n one.mem es ≡ fed_to s n k (e ∷ es)
  unfolding event_with
  fed_rest = rw (first_lengths.table, lent_same k one.mem first_lengths)

pub fed : (es : List Event) (s : State) (n : ℕ) (k : Mem) (w : Writer) (l : List ℕ) → n < 4294967296 → takes s n (records_lent k.table) (lent_of k.pools) es ≡ true → Reached s k w l → Fed s n k w l es
unfolding after_all
fed [] s n k w l fits h r = record { reached = rw (append-nil l) r; lengths = record { table = refl; pools = λ m. refl } }
fed (e ∷ es) s n k w l fits h r =
    let kept = first_lengths e es s n k h in
    let o : Outcome = given s n k e in
    let one = said-reached n e (first-heard e es s n k h) (first-numbered e es s n k h fits) (first_done e es s n k h) r in
    let f = fed es o.wrote.state n o.mem (after w e) (l ++ pair_of e) fits (takes-rest e es s n k h) one in
    record {
      reached = rw (fed_rest e es s n k h, append_assoc) at f.reached;
      lengths = record { table = f.lengths.table ∙ kept.table; pools = λ m. f.lengths.pools m ∙ kept.pools m };
    }
