-- The whole reading: refused, with bytes left over, or done.
use Rattle.std.specs.Prelude.{◌≡◌, Bool, cond, length}
use Rattle.std.proofs.Common.{ap, ◌∙◌, Ok, Err, ne_eqb}
use borrow.Author.Tests.{eq-eqb}
use Rattle.laws.specs.Script.{stop, run, run_stop}
use Rattle.kinds.specs.declared.refusal.Refusal.{Refusal}
use Rattle.kinds.specs.declared.refusal.Refusal.TheVariants.{WkbLeftOver}
use Rattle.event_log.specs.Says.{Says, of_events}
use Rattle.event_log.specs.declared.log.Log.{Log}
use Rattle.event_log.specs.declared.layouts.Events.{Events}
use Rattle.wkb_reader.specs.declared.input.Input.{Input}
use Rattle.wkb_reader.specs.Reading.{geometry_r, at_end, reading_r}
use Rattle.wkb_reader.specs.Onward.{Leads}

module _ {T U : Type 0} {a b : Log Events} {i j : Input} where
  pub whole_refused : {e : Refusal} → Leads {T = T} (geometry_r 16 0) a i b j (Err e) → Says {R = U} of_events (reading_r i.left.now) a b (Err e)
  unfolding reading_r
  whole_refused h = record { memory = h.memory; layout = h.layout; said = h.runs at_end }

  module _ {u : T} (h : Leads (geometry_r 16 0) a i b j (Ok u)) where
    pub whole_over : (length j.left.now ≡ 0 → ⊥) → Says {R = U} of_events (reading_r i.left.now) a b (Err WkbLeftOver)
    unfolding reading_r
    whole_over some =
        record {
          memory = h.memory;
          layout = h.layout;
          said = h.runs at_end ∙ ap (λ (c : Bool). run (of_events b.layout) (cond c (stop 0) (stop 20)) b.bytes.now b.count) (ne_eqb (length j.left.now) 0 some) ∙ run_stop (of_events b.layout) 20 b.bytes.now b.count;
        }

    pub whole_read : {v : U} → length j.left.now ≡ 0 → Says of_events (reading_r i.left.now) a b (Ok v)
    unfolding reading_r
    whole_read none =
        record {
          memory = h.memory;
          layout = h.layout;
          said = h.runs at_end ∙ ap (λ (c : Bool). run (of_events b.layout) (cond c (stop 0) (stop 20)) b.bytes.now b.count) (eq-eqb (length j.left.now) 0 none) ∙ run_stop (of_events b.layout) 0 b.bytes.now b.count;
        }
