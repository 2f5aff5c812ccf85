-- In the course of laying a list's bytes down: what is left to lay down, from a record and a place on, comes to the whole.
use Rattle.std.specs.Prelude.{◌≡◌, Bool, true, false, cond, eqb, drop}
use Rattle.std.proofs.Math.Path.{refl, sym, ap}
use Rattle.std.proofs.Common.{ap₂, ◌∙◌, length-take, length-drop, eqb-true, eq-eqb, ne_eqb}
use mathlib.Core.List.{List, [], ◌∷◌, ◌++◌, map, append_assoc}
use Rattle.std.proofs.Math.Option.{Option, none, some}
use Prim.Native.Nat.{ℕ, zero, suc, ◌+◌, ◌-◌, ◌*◌, ◌/◌, ◌<◌, ◌≤◌}
use native.Mathlib.Omega.{arith}
use Rattle.std.proofs.Math.Decide.{dec_le}
use Rattle.std.proofs.Math.Nat.{sub-zero}
use Rattle.std.proofs.Math.ListN.{length, length-append}
use Rattle.std.proofs.Math.Seq.{sets}
use Rattle.laws.specs.Runs.{sets-append}
use Rattle.kinds.specs.Event.{Parsed, WellFormed, Malformed}
use Rattle.kinds.specs.declared.event.Event.{Event}
use Rattle.event_log.specs.Log.{heard, record_of, records_in}
use Rattle.event_log.specs.LogLaws.{not_whole}
use Rattle.nesting.specs.Flat.{read}
use Rattle.wkb_written.specs.declared.around.Around.{Around}
use Rattle.wkb_written.specs.Spelling.{outermost, pair_of, spelled}
use Rattle.wkb_written.specs.Writing.{before, listed, events_in}
use Rattle.wkb_put.specs.Put.{laid_of, later_than, or_none, heard_events, spelled_of, events_from, HeardFrom, run_bytes, behind_run, RunLaid}
use Rattle.wkb_put.specs.PutEvent.{laid-pair, later-pair}
use Rattle.wkb_put.specs.declared.output.Output.{Output}
use Rattle.wkb_put.specs.Output.{Laid}

-- ---- the next record of a list that is heard whole
pub record NextHeard (bytes : List ℕ) (i : ℕ) : Type 0 where
  pub event : Event
  pub is : heard (record_of bytes i) ≡ WellFormed event
  pub events : events_from bytes i ≡ event ∷ events_from bytes (i + 1)
  pub later : HeardFrom bytes (i + 1)

not_some : {A : Type 0} (a : A) → none ≡ some a → ⊥
not_some a e = let z : ◌≡◌ {A = ℕ} 0 1 = cc in omega arith

not_both : (e : Event) → Malformed ≡ WellFormed e → ⊥
not_both e h = let z : ◌≡◌ {A = ℕ} 0 1 = cc in omega arith

module _ (bytes : List ℕ) (i : ℕ) where
  -- a record that is heard is 64 bytes long
  heard_whole : (e : Event) → heard (record_of bytes i) ≡ WellFormed e → 64 * i + 64 ≤ length bytes
  heard_whole e h = go (dec_le (64 * i + 64) (length bytes))
    where
      go : Dec (64 * i + 64 ≤ length bytes) → 64 * i + 64 ≤ length bytes
      go (yes a) = a
      go (no a) =
          let cut : length (record_of bytes i) ≡ 64 → ⊥ = λ w. omega (arith, length-take 64 (drop (64 * i) bytes), length-drop (64 * i) bytes) in
          absurd (not_both e (sym (not_whole (record_of bytes i) cut) ∙ h))

  pub next-heard : i < records_in bytes → HeardFrom bytes i → NextHeard bytes i
  unfolding HeardFrom events_from listed
  next-heard less h = go (heard (record_of bytes i)) refl (listed (records_in bytes - (i + 1)) (i + 1) bytes) refl (rw one at h)
    where
      one : records_in bytes - i ≡ suc (records_in bytes - (i + 1))
      one = omega arith

      go : (p : Parsed) → heard (record_of bytes i) ≡ p → (o : Option (List Event)) → listed (records_in bytes - (i + 1)) (i + 1) bytes ≡ o
          → before p o ≡ some (or_none (before p o)) → NextHeard bytes i
      go Malformed is o rest h = absurd (not_some _ h)
      go (WellFormed e) is none rest h = absurd (not_some _ h)
      go (WellFormed e) is (some es) rest h = record {
        event = e;
        is = is;
        events = ap (λ (n : ℕ). or_none (listed n i bytes)) one ∙ rw (is, rest);
        later = rest ∙ ap some (sym (ap or_none rest));
      }

  pub none_left : length bytes / 64 ≤ i → HeardFrom bytes i → events_from bytes i ≡ []
  unfolding events_from listed
  none_left more h = go (records_in bytes - i) refl
    where
      go : (left : ℕ) → records_in bytes - i ≡ left → events_from bytes i ≡ []
      go zero e = ap (λ (n : ℕ). or_none (listed n i bytes)) e
      go (suc left) e = let next = next-heard (omega arith) h in absurd (omega (arith, heard_whole next.event next.is))

-- ---- a run of pairs
-- what is left of a run, from a record and a place on, comes to the whole of it
pub record RunLeft (bytes : List ℕ) (from : ℕ) (a b : Output) (next : ℕ) : Type 0 where
  pub memory : b.bytes.ghost_name ≡ a.bytes.ghost_name
  pub long : length b.bytes.now ≡ length a.bytes.now
  pub comes : sets b.bytes.now b.at (run_bytes (events_from bytes next)) ≡ sets a.bytes.now a.at (run_bytes (events_from bytes from))
  pub place : b.at + length (run_bytes (events_from bytes next)) ≡ a.at + length (run_bytes (events_from bytes from))
  pub behind : behind_run (events_from bytes next) ≡ behind_run (events_from bytes from)
  pub heard : HeardFrom bytes next
  pub past : from ≤ next

run-pair : (e : Event) (es : List Event) → e.kind ≡ 64 → run_bytes (e ∷ es) ≡ pair_of e.x e.y ++ run_bytes es
unfolding run_bytes
run-pair e es h = ap (λ (b : Bool). cond b (pair_of e.x e.y ++ run_bytes es) []) (eq-eqb e.kind 64 h)

behind_pair : (e : Event) (es : List Event) → e.kind ≡ 64 → behind_run (e ∷ es) ≡ behind_run es
unfolding behind_run
behind_pair e es h = ap (λ (b : Bool). cond b (behind_run es) (e ∷ es)) (eq-eqb e.kind 64 h)

run-other : (e : Event) (es : List Event) → (e.kind ≡ 64 → ⊥) → run_bytes (e ∷ es) ≡ []
unfolding run_bytes
run-other e es h = ap (λ (b : Bool). cond b (pair_of e.x e.y ++ run_bytes es) []) (ne_eqb e.kind 64 h)

behind_other : (e : Event) (es : List Event) → (e.kind ≡ 64 → ⊥) → behind_run (e ∷ es) ≡ e ∷ es
unfolding behind_run
behind_other e es h = ap (λ (b : Bool). cond b (behind_run es) (e ∷ es)) (ne_eqb e.kind 64 h)

-- stores that are left, the first of them done
pub rest_of : {L L' : List ℕ} (l b rest : List ℕ) (at : ℕ) → L ≡ sets l at b → sets l at (b ++ rest) ≡ L' → sets L (at + length b) rest ≡ L'
rest_of l b rest at h w = ap (λ (x : List ℕ). sets x (at + length b) rest) h ∙ sets-append b rest l at ∙ w

module _ {bytes : List ℕ} {from : ℕ} {a : Output} where
  run_ends : {b : Output} {next : ℕ} → RunLeft bytes from a b next → run_bytes (events_from bytes next) ≡ [] → behind_run (events_from bytes next) ≡ events_from bytes next → RunLaid bytes from a b next
  run_ends {b} {next} r empty same = record {
    laid = record {
      memory = r.memory;
      laid = ap (sets b.bytes.now b.at) (sym empty) ∙ r.comes;
      place = omega (arith, ap length empty, r.place);
      long = r.long;
    };
    behind = sym same ∙ r.behind;
    heard = r.heard;
    past = r.past;
  }

  -- there is no record left
  pub run_ended : {b : Output} {next : ℕ} → length bytes / 64 ≤ next → RunLeft bytes from a b next → RunLaid bytes from a b next
  unfolding run_bytes behind_run
  run_ended {next = next} more r = let gone = none_left bytes next more r.heard in run_ends r (ap run_bytes gone) (ap behind_run gone ∙ sym gone)

  -- the next record is a pair
  module _ {b : Output} {next : ℕ} {e : Event} (less : next < length bytes / 64) (r : RunLeft bytes from a b next)
      (is : (v : Event) → heard (record_of bytes next) ≡ WellFormed v → e ≡ v) where
    ahead : events_from bytes next ≡ e ∷ events_from bytes (next + 1)
    ahead = let n = next-heard bytes next (omega arith) r.heard in n.events ∙ ap (λ (v : Event). v ∷ events_from bytes (next + 1)) (sym (is n.event n.is))

    run_ahead : e.kind ≡ 64 → run_bytes (events_from bytes next) ≡ pair_of e.x e.y ++ run_bytes (events_from bytes (next + 1))
    run_ahead pair = ap run_bytes ahead ∙ run-pair e (events_from bytes (next + 1)) pair

    run_length : e.kind ≡ 64 → length (run_bytes (events_from bytes next)) ≡ 16 + length (run_bytes (events_from bytes (next + 1)))
    run_length pair = ap length (run_ahead pair) ∙ length-append (pair_of e.x e.y) (run_bytes (events_from bytes (next + 1)))

    pub pair-room : e.kind ≡ 64 → b.at + 16 ≤ a.at + length (run_bytes (events_from bytes from))
    pair-room pair = omega (arith, run_length pair, r.place)

    pub run_on : {c : Output} → e.kind ≡ 64 → Laid b c (pair_of e.x e.y) → RunLeft bytes from a c (next + 1)
    run_on {c} pair h = record {
      memory = h.memory ∙ r.memory;
      long = h.long ∙ r.long;
      comes = ap (λ (n : ℕ). sets c.bytes.now n (run_bytes (events_from bytes (next + 1)))) h.place
          ∙ rest_of b.bytes.now (pair_of e.x e.y) (run_bytes (events_from bytes (next + 1))) b.at h.laid (ap (sets b.bytes.now b.at) (sym (run_ahead pair)) ∙ r.comes);
      place = omega (arith, run_length pair, h.place, r.place);
      behind = sym (ap behind_run ahead ∙ behind_pair e (events_from bytes (next + 1)) pair) ∙ r.behind;
      heard = (next-heard bytes next (omega arith) r.heard).later;
      past = omega (arith, r.past);
    }

    -- it is another event
    pub run-stopped : (e.kind ≡ 64 → ⊥) → RunLaid bytes from a b next
    run-stopped other =
        run_ends r (ap run_bytes ahead ∙ run-other e (events_from bytes (next + 1)) other) (ap behind_run ahead ∙ behind_other e (events_from bytes (next + 1)) other ∙ sym ahead)

-- ---- the whole list
-- what is left of it, from a record on, in a place
unfoldable pub spelled_from : Around → List ℕ → ℕ → List ℕ
spelled_from k bytes i = spelled k (map read (events_from bytes i))

pub record Left (bytes L : List ℕ) (k : Around) (o : Output) (next : ℕ) : Type 0 where
  pub comes : sets o.bytes.now o.at (spelled_from k bytes next) ≡ sets L 0 (spelled_of bytes)
  pub place : o.at + length (spelled_from k bytes next) ≡ length (spelled_of bytes)
  pub long : length o.bytes.now ≡ length L
  pub heard : HeardFrom bytes next

-- an event by itself, and a run of pairs that are no Points, before the others
one-first : (k : Around) (e : Event) (es : List Event) → spelled k (map read (e ∷ es)) ≡ laid_of k e ++ spelled (later_than k e) (map read es)
unfolding spelled laid_of later_than
one-first k e es = refl

run-first : (k : Around) → k.points ≡ false → (es : List Event) → spelled k (map read es) ≡ run_bytes es ++ spelled k (map read (behind_run es))
unfolding run_bytes behind_run
run-first k bare [] = refl
run-first k bare (e ∷ es) = go (eqb e.kind 64) refl (run-first k bare es)
  where
    go : (pair : Bool) → eqb e.kind 64 ≡ pair → spelled k (map read es) ≡ run_bytes es ++ spelled k (map read (behind_run es))
        → spelled k (map read (e ∷ es)) ≡ cond pair (pair_of e.x e.y ++ run_bytes es) [] ++ spelled k (map read (cond pair (behind_run es) (e ∷ es)))
    go true pair later =
        let kind = eqb-true e.kind 64 pair in
        one-first k e es
        ∙ ap₂ (λ (b : List ℕ) (k : Around). b ++ spelled k (map read es)) (laid-pair k e kind bare) (sym (later-pair k e kind))
        ∙ ap (λ (l : List ℕ). pair_of e.x e.y ++ l) later
        ∙ sym (append_assoc (pair_of e.x e.y) (run_bytes es) (spelled k (map read (behind_run es))))
    go false pair later = refl

module _ {bytes L : List ℕ} where
  pub began : {o : Output} → events_in bytes ≡ some (heard_events bytes) → o.bytes.now ≡ L → o.at ≡ 0 → Left bytes L outermost o 0
  unfolding HeardFrom events_from heard_events spelled_from spelled_of
  began {o} h memory start =
      let all : events_from bytes 0 ≡ heard_events bytes = ap (λ (n : ℕ). or_none (listed n 0 bytes)) (sub-zero (records_in bytes)) in
      record {
        comes = ap₂ (λ (l : List ℕ) (n : ℕ). sets l n (spelled_from outermost bytes 0)) memory start ∙ ap (λ (es : List Event). sets L 0 (spelled outermost (map read es))) all;
        place = omega (arith, start, ap (λ (es : List Event). length (spelled outermost (map read es))) all);
        long = ap length memory;
        heard = ap (λ (n : ℕ). listed n 0 bytes) (sub-zero (records_in bytes)) ∙ h ∙ ap some (sym all);
      }

  pub ended : {k : Around} {o : Output} {next : ℕ} → length bytes / 64 ≤ next → Left bytes L k o next → o.bytes.now ≡ sets L 0 (spelled_of bytes)
  unfolding spelled_from spelled
  ended {k} {o} {next} more r = ap (λ (es : List Event). sets o.bytes.now o.at (spelled k (map read es))) (sym (none_left bytes next more r.heard)) ∙ r.comes

  -- an event by itself was laid down
  module _ {k : Around} {o : Output} {next : ℕ} {e : Event} (less : next < length bytes / 64) (r : Left bytes L k o next)
      (is : (v : Event) → heard (record_of bytes next) ≡ WellFormed v → e ≡ v) where
    event-first : spelled_from k bytes next ≡ laid_of k e ++ spelled_from (later_than k e) bytes (next + 1)
    unfolding spelled_from
    event-first =
        let n = next-heard bytes next (omega arith) r.heard in
        ap (λ (es : List Event). spelled k (map read es)) (n.events ∙ ap (λ (v : Event). v ∷ events_from bytes (next + 1)) (sym (is n.event n.is)))
        ∙ one-first k e (events_from bytes (next + 1))

    event-length : length (spelled_from k bytes next) ≡ length (laid_of k e) + length (spelled_from (later_than k e) bytes (next + 1))
    event-length = ap length event-first ∙ length-append (laid_of k e) (spelled_from (later_than k e) bytes (next + 1))

    pub event-room : o.at + length (laid_of k e) ≤ length (spelled_of bytes)
    event-room = omega (arith, event-length, r.place)

    pub event_on : {k' : Around} {o' : Output} → k' ≡ later_than k e → Laid o o' (laid_of k e) → Left bytes L k' o' (next + 1)
    event_on {o' = o'} later h = rw later (record {
      comes = ap (λ (n : ℕ). sets o'.bytes.now n (spelled_from (later_than k e) bytes (next + 1))) h.place
          ∙ rest_of o.bytes.now (laid_of k e) (spelled_from (later_than k e) bytes (next + 1)) o.at h.laid (ap (sets o.bytes.now o.at) (sym event-first) ∙ r.comes);
      place = omega (arith, event-length, h.place, r.place);
      long = h.long ∙ r.long;
      heard = (next-heard bytes next (omega arith) r.heard).later;
    })

  -- a run of pairs was laid down
  module _ {k : Around} {o : Output} {next : ℕ} (bare : k.points ≡ false) (r : Left bytes L k o next) where
    pairs-length : length (spelled_from k bytes next) ≡ length (run_bytes (events_from bytes next)) + length (spelled k (map read (behind_run (events_from bytes next))))
    unfolding spelled_from
    pairs-length = ap length (run-first k bare (events_from bytes next)) ∙ length-append (run_bytes (events_from bytes next)) (spelled k (map read (behind_run (events_from bytes next))))

    pub pairs-room : o.at + length (run_bytes (events_from bytes next)) ≤ length (spelled_of bytes)
    pairs-room = omega (arith, pairs-length, r.place)

    pub pairs_on : {o' : Output} {next' : ℕ} → RunLaid bytes next o o' next' → Left bytes L k o' next'
    unfolding spelled_from
    pairs_on {o'} {next'} ran =
        let behind : spelled_from k bytes next' ≡ spelled k (map read (behind_run (events_from bytes next))) = ap (λ (es : List Event). spelled k (map read es)) ran.behind in
        record {
          comes = ap (λ (n : ℕ). sets o'.bytes.now n (spelled_from k bytes next')) ran.laid.place
              ∙ rest_of o.bytes.now (run_bytes (events_from bytes next)) (spelled_from k bytes next') o.at ran.laid.laid
              (ap (λ (l : List ℕ). sets o.bytes.now o.at (run_bytes (events_from bytes next) ++ l)) behind ∙ ap (sets o.bytes.now o.at) (sym (run-first k bare (events_from bytes next))) ∙ r.comes);
          place = omega (arith, ap length behind, pairs-length, ran.laid.place, r.place);
          long = ran.laid.long ∙ r.long;
          heard = ran.heard;
        }
