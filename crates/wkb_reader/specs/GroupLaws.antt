-- A group: its count and begin, and then its things and its end.
use Rattle.std.specs.Prelude.{◌≡◌, ℕ, Bool}
use Rattle.std.proofs.Common.{Ok, Err}
use Rattle.laws.specs.Script.{one}
use Rattle.kinds.specs.Event.{begin_e, end_e}
use Rattle.kinds.specs.declared.event.Event.{Event}
use Rattle.kinds.specs.declared.refusal.Refusal.{Refusal}
use Rattle.event_log.specs.Says.{Says, of_events}
use Rattle.event_log.specs.declared.log.Log.{Log}
use Rattle.event_log.specs.declared.layouts.Events.{Events}
use Rattle.wkb.specs.declared.order.Order.{Order}
use Rattle.wkb_reader.specs.declared.input.Input.{Input}
use Rattle.wkb_reader.specs.Reading.{Reads, saying, ◌⊳◌, several, group_r}
use Rattle.wkb_reader.specs.Fields.{FieldIs}
use Rattle.wkb_reader.specs.Onward.{Leads, Left, said_leads, stops_leads, then_left, field_leads, field_left, cut_leads}

module _ (order : Order) (type : ℕ) (tagged : Bool) (f : ℕ → Reads) (idx : ℕ) (i j : Input) where
  abbrev rest : ℕ → Reads
  rest n = several f n 0 ⊳ saying (end_e type tagged idx)

  abbrev counted : ℕ → Reads
  counted n = saying (begin_e type tagged n idx) ⊳ rest n

  pub no_count : {T : Type 0} {e : Refusal} (a : Log Events) → FieldIs order 4 i j (Err e) → Leads {T = T} (group_r order type tagged f idx) a i a j (Err e)
  unfolding group_r
  no_count a cut = cut_leads order 4 counted i j a j cut

  module _ {size : ℕ} {a b : Log Events} (there : FieldIs order 4 i j (Ok size)) {e : Event} (is : e ≡ begin_e type tagged size idx) where
    pub no_begin : {T U : Type 0} {d : Refusal} → Says {R = U} of_events (one e) a b (Err d) → Leads {T = T} (group_r order type tagged f idx) a i b j (Err d)
    unfolding group_r
    no_begin {d = d} h = field_leads order 4 counted i j there (stops_leads (rest size) (said_leads (begin_e type tagged size idx) a b j (Err d) (rw is at h)))

    pub begun : {U : Type 0} {u : U} → Says of_events (one e) a b (Ok u) → Left (group_r order type tagged f idx) a i (several f size 0 ⊳ saying (end_e type tagged idx)) b j
    unfolding group_r
    begun {u = u} h = field_left order 4 counted i j there (then_left (rest size) (said_leads (begin_e type tagged size idx) a b j (Ok u) (rw is at h)))
