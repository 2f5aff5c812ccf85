-- Where a part of a reading has led: on, with the bytes that are left, or off, with a refusal; and what it has said to the log by then. Code
-- reads part by part, and each law here is one way in which parts make a whole.
use Rattle.std.specs.Prelude.{◌≡◌, refl, ℕ, suc, ◌+◌, ◌-◌, ◌<◌, ◌≤◌, List, length, drop, Result}
use Rattle.std.proofs.Common.{ap, sym, ◌∙◌, Ok, Err, arith, le-leb, length-drop, drop-drop}
use Rattle.std.proofs.Math.Decide.{dec_le}
use Rattle.std.proofs.lemmas.Bool.{lt-leb}
use Rattle.laws.specs.Script.{Script, stop, one, Out, out, run, ◌⨟◌, seq_done, seq_refused, run_stop}
use Rattle.kinds.specs.Event.{xy_e}
use Rattle.kinds.specs.declared.event.Event.{Event}
use Rattle.kinds.specs.declared.event.Xy.{Xy}
use Rattle.kinds.specs.declared.refusal.Refusal.{Refusal}
use Rattle.kinds.specs.Refusal.{number_of, refused}
use Rattle.event_log.specs.Says.{Says, of_events}
use Rattle.event_log.specs.declared.log.Log.{Log}
use Rattle.event_log.specs.declared.layouts.Events.{Events}
use Rattle.wkb.specs.declared.order.Order.{Order}
use Rattle.wkb_reader.specs.declared.input.Input.{Input}
use Rattle.wkb_reader.specs.Fields.{FieldIs, PairIs}
use Rattle.wkb_reader.specs.Reading.{Next, Reads, saying, refuse, ◌⊳◌, field, several, pair_r}

-- what a log comes to: whatever follows is said of the bytes that are left, or a refusal is all
abbrev pub onward : {T : Type 0} → Result T Refusal → Next → List ℕ → Log Events → Out
onward (Ok _) next rest b = run (of_events b.layout) (next rest) b.bytes.now b.count
onward (Err e) next rest b = out (number_of e) b.count b.bytes.now

-- The reading R of what is left of an input, said to a log, whatever follows it.
pub record Leads {T : Type 0} (R : Reads) (a : Log Events) (i : Input) (b : Log Events) (j : Input) (r : Result T Refusal) : Type 0 where
  pub memory : b.bytes.ghost_name ≡ a.bytes.ghost_name
  pub layout : b.layout ≡ a.layout
  pub runs : (next : Next) → run (of_events a.layout) (R i.left.now next) a.bytes.now a.count ≡ onward r next j.left.now b

-- In the course of a call: what the whole reading R says is what the rest of it, S, says of what is left by now to the log as it is by now.
pub record Left (R : Reads) (a : Log Events) (i : Input) (S : Reads) (b : Log Events) (j : Input) : Type 0 where
  pub memory : b.bytes.ghost_name ≡ a.bytes.ghost_name
  pub layout : b.layout ≡ a.layout
  pub runs : (next : Next) → run (of_events a.layout) (R i.left.now next) a.bytes.now a.count ≡ run (of_events b.layout) (S j.left.now next) b.bytes.now b.count

-- ---- a refusal, a record, a field
pub refused_leads : {T : Type 0} (e : Refusal) (a : Log Events) (i j : Input) → Leads {T = T} (refuse (number_of e)) a i a j (Err e)
refused_leads e a i j = record { memory = refl; layout = refl; runs = λ next. run_stop (of_events a.layout) (number_of e) a.bytes.now a.count }

module _ {T : Type 0} (e : Event) (a b : Log Events) (i : Input) where
  pub said_leads : (r : Result T Refusal) → Says of_events (one e) a b r → Leads (saying e) a i b i r
  unfolding ◌⨟◌
  said_leads (Ok u) h =
      record {
        memory = h.memory;
        layout = h.layout;
        runs = λ next.
            seq_done (of_events a.layout) (one e) (next i.left.now) a.bytes.now a.count h.said
            ∙ ap (λ (f : Events). run (of_events f) (next i.left.now) b.bytes.now b.count) (sym h.layout);
      }
  said_leads (Err d) h = record { memory = h.memory; layout = h.layout; runs = λ next. seq_refused (of_events a.layout) (one e) (next i.left.now) a.bytes.now a.count h.said (refused d) }

module _ (order : Order) (wide : ℕ) (f : ℕ → Reads) (i j : Input) where
  pub field_is : {v : ℕ} (next : Next) → FieldIs order wide i j (Ok v) → field order wide f i.left.now next ≡ f v j.left.now next
  unfolding field
  field_is {v} next (there, value, rest) = rw (le-leb wide (length i.left.now) there, rest, value)

  pub field_cut : {e : Refusal} (next : Next) → FieldIs order wide i j (Err e) → field order wide f i.left.now next ≡ stop (number_of e)
  unfolding field
  field_cut {e} next (short, cut) = rw (lt-leb wide (length i.left.now) short, cut)

  pub field_leads : {T : Type 0} {v : ℕ} {a b : Log Events} {k : Input} {r : Result T Refusal} → FieldIs order wide i j (Ok v) → Leads (f v) a j b k r → Leads (field order wide f) a i b k r
  field_leads {a = a} there h = record { memory = h.memory; layout = h.layout; runs = λ next. ap (λ (s : Script Event). run (of_events a.layout) s a.bytes.now a.count) (field_is next there) ∙ h.runs next }

  pub cut_leads : {T : Type 0} {e : Refusal} (a : Log Events) (k : Input) → FieldIs order wide i j (Err e) → Leads {T = T} (field order wide f) a i a k (Err e)
  cut_leads {e = e} a k cut = record { memory = refl; layout = refl; runs = λ next. ap (λ (s : Script Event). run (of_events a.layout) s a.bytes.now a.count) (field_cut next cut) ∙ run_stop (of_events a.layout) (number_of e) a.bytes.now a.count }

-- ---- a pair: its two fields at once
module _ (order : Order) (idx : ℕ) (i j : Input) where
  pair_is : {p : Xy} (next : Next) → PairIs order i j (Ok p) → pair_r order idx i.left.now next ≡ saying (xy_e p.x p.y idx) j.left.now next
  unfolding pair_r field
  pair_is {p} next (there, x, y, rest) =
      let l : List ℕ = i.left.now in
      let first : 8 ≤ length l = omega arith in
      let second : 8 ≤ length (drop 8 l) = omega (arith, length-drop 8 l) in
      rw (le-leb 8 (length l) first, le-leb 8 (length (drop 8 l)) second, rest, x, y, drop-drop 8 8 l)

  pair_cut : {e : Refusal} (next : Next) → PairIs order i j (Err e) → pair_r order idx i.left.now next ≡ stop (number_of e)
  unfolding pair_r field
  pair_cut next (short, cut) = rw cut (go (dec_le 8 (length i.left.now)))
    where
      go : Dec (8 ≤ length i.left.now) → pair_r order idx i.left.now next ≡ stop 18
      go (yes h) = rw (le-leb 8 (length i.left.now) h, lt-leb 8 (length (drop 8 i.left.now)) (omega (arith, length-drop 8 i.left.now)))
      go (no h) = rw (lt-leb 8 (length i.left.now) (omega arith))

  pub pair_leads : {T : Type 0} {p : Xy} {a b : Log Events} {k : Input} {r : Result T Refusal} → PairIs order i j (Ok p) → Leads (saying (xy_e p.x p.y idx)) a j b k r → Leads (pair_r order idx) a i b k r
  pair_leads {a = a} there h = record { memory = h.memory; layout = h.layout; runs = λ next. ap (λ (s : Script Event). run (of_events a.layout) s a.bytes.now a.count) (pair_is next there) ∙ h.runs next }

  pub pair_cut_leads : {T : Type 0} {e : Refusal} (a : Log Events) (k : Input) → PairIs order i j (Err e) → Leads {T = T} (pair_r order idx) a i a k (Err e)
  pair_cut_leads {e = e} a k cut = record { memory = refl; layout = refl; runs = λ next. ap (λ (s : Script Event). run (of_events a.layout) s a.bytes.now a.count) (pair_cut next cut) ∙ run_stop (of_events a.layout) (number_of e) a.bytes.now a.count }

-- ---- one part after the other
pub then_leads : {T U : Type 0} {R S : Reads} {a b c : Log Events} {i j k : Input} {u : T} {r : Result U Refusal} → Leads R a i b j (Ok u) → Leads S b j c k r → Leads (R ⊳ S) a i c k r
then_leads {S = S} h g = record { memory = g.memory ∙ h.memory; layout = g.layout ∙ h.layout; runs = λ next. h.runs (λ rest. S rest next) ∙ g.runs next }

pub stops_leads : {T U : Type 0} {R : Reads} (S : Reads) {a b : Log Events} {i j : Input} {e : Refusal} → Leads {T = T} R a i b j (Err e) → Leads {T = U} (R ⊳ S) a i b j (Err e)
stops_leads S h = record { memory = h.memory; layout = h.layout; runs = λ next. h.runs (λ rest. S rest next) }

pub same_leads : {T : Type 0} {R S : Reads} {a b : Log Events} {i j : Input} {r : Result T Refusal} → R ≡ S → Leads S a i b j r → Leads R a i b j r
same_leads e h = rw e h

-- behind a refusal nothing is said of what is left
pub refused_anywhere : {T : Type 0} {R : Reads} {a b : Log Events} {i j : Input} {e : Refusal} (k : Input) → Leads {T = T} R a i b j (Err e) → Leads {T = T} R a i b k (Err e)
refused_anywhere k h = record { memory = h.memory; layout = h.layout; runs = h.runs }

-- ---- in the course of a call
pub then_left : {T : Type 0} {R : Reads} (S : Reads) {a b : Log Events} {i j : Input} {u : T} → Leads R a i b j (Ok u) → Left (R ⊳ S) a i S b j
then_left S h = record { memory = h.memory; layout = h.layout; runs = λ next. h.runs (λ rest. S rest next) }

pub field_left : (order : Order) (wide : ℕ) (f : ℕ → Reads) (i j : Input) {v : ℕ} {S : Reads} {a b : Log Events} {k : Input} → FieldIs order wide i j (Ok v) → Left (f v) a j S b k → Left (field order wide f) a i S b k
field_left order wide f i j {a = a} there h = record { memory = h.memory; layout = h.layout; runs = λ next. ap (λ (s : Script Event). run (of_events a.layout) s a.bytes.now a.count) (field_is order wide f i j next there) ∙ h.runs next }

pub left_leads : {T : Type 0} {R S : Reads} {a b c : Log Events} {i j k : Input} {r : Result T Refusal} → Left R a i S b j → Leads S b j c k r → Leads R a i c k r
left_leads h g = record { memory = g.memory ∙ h.memory; layout = g.layout ∙ h.layout; runs = λ next. h.runs next ∙ g.runs next }

-- ---- so many things, and what stands behind them
module _ {R : Reads} (f : ℕ → Reads) (S : Reads) {a b : Log Events} {i j : Input} {n size : ℕ} (so : Left R a i (several f (size - n) n ⊳ S) b j) where
  next-of : n < size → Left R a i (f n ⊳ (several f (size - (n + 1)) (n + 1) ⊳ S)) b j
  unfolding several
  next-of less =
      let e : size - n ≡ suc (size - (n + 1)) = omega arith in
      rw e at so

  -- one thing led on
  pub went_on : {T : Type 0} {c : Log Events} {k : Input} {u : T} → n < size → Leads (f n) b j c k (Ok u) → Left R a i (several f (size - (n + 1)) (n + 1) ⊳ S) c k
  went_on less h =
      let p = next-of less in
      record { memory = h.memory ∙ p.memory; layout = h.layout ∙ p.layout; runs = λ next. p.runs next ∙ h.runs (λ rest. several f (size - (n + 1)) (n + 1) rest (λ rest'. S rest' next)) }

  -- one thing was refused
  pub broke_off : {T U : Type 0} {c : Log Events} {k : Input} {e : Refusal} → n < size → Leads {T = T} (f n) b j c k (Err e) → Leads {T = U} R a i c k (Err e)
  broke_off less h = left_leads (next-of less) (stops_leads (several f (size - (n + 1)) (n + 1) ⊳ S) h)

  -- all things led on
  pub ended : {T : Type 0} {c : Log Events} {k : Input} {r : Result T Refusal} → size ≤ n → Leads S b j c k r → Leads R a i c k r
  unfolding several
  ended more h =
      let e : size - n ≡ 0 = omega arith in
      left_leads (rw e at so) h
