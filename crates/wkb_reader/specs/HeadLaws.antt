-- A head, test by test, and what stands behind it.
use Rattle.std.specs.Prelude.{◌≡◌, refl, Bool, true, false, cond, ◌&&◌, ℕ, zero, suc, ◌<◌, ◌≤◌, leb, Result}
use Rattle.std.proofs.Common.{ap, subst, ◌∙◌, Ok, Err, arith, le-leb, leb-true}
use Rattle.std.proofs.lemmas.Bool.{lt-leb}
use Rattle.laws.specs.Every.{both}
use Rattle.laws.specs.Script.{Script, run, run_stop}
use Rattle.kinds.specs.declared.event.Event.{Event}
use Rattle.kinds.specs.declared.refusal.Refusal.{Refusal}
use Rattle.kinds.specs.declared.refusal.Refusal.TheVariants.{WkbUnknown, TooDeep}
use Rattle.kinds.specs.Refusal.{number_of}
use Rattle.event_log.specs.Says.{of_events}
use Rattle.event_log.specs.declared.log.Log.{Log}
use Rattle.event_log.specs.declared.layouts.Events.{Events}
use Rattle.wkb.specs.declared.order.Order.{Order}
use Rattle.wkb.specs.declared.order.Order.TheVariants.{Big, Little}
use Rattle.wkb.specs.Wkb.{mark}
use Rattle.wkb_reader.specs.declared.input.Input.{Input}
use Rattle.wkb_reader.specs.declared.head.Head.{Head}
use Rattle.wkb_reader.specs.Reading.{Next, Reads, refuse, order_of, type_r, head_r, below}
use Rattle.wkb_reader.specs.Fields.{FieldIs}
use Rattle.wkb_reader.specs.Onward.{Leads, field_is, field_cut, refused_leads}
use Rattle.wkb_reader.specs.Parts.{TypeIs, HeadIs}

-- a byte that marks an order is 0 or 1, and the reading goes by that order
pub marked_by : (order : Order) {byte : ℕ} → mark order ≡ byte → (byte ≤ 1) × (order ≡ order_of byte)
marked_by Big is = subst (λ (n : ℕ). (n ≤ 1) × (Big ≡ order_of n)) is (omega arith, refl)
marked_by Little is = subst (λ (n : ℕ). (n ≤ 1) × (Little ≡ order_of n)) is (omega arith, refl)

module _ (order : Order) (least most : ℕ) (i j : Input) where
  abbrev held : (Order → ℕ → Reads) → ℕ → Reads
  held f type = cond (leb least type && leb type most) (f order type) (refuse 19)

  pub type_cut : {e : Refusal} → FieldIs order 4 i j (Err e) → TypeIs order least most i j (Err e)
  unfolding type_r
  type_cut cut = λ f next. field_cut order 4 (held f) i j next cut

  module _ {type : ℕ} (there : FieldIs order 4 i j (Ok type)) where
    pub other_type : (leb least type && leb type most) ≡ false → TypeIs order least most i j (Err WkbUnknown)
    unfolding type_r
    other_type h = λ f next. field_is order 4 (held f) i j next there ∙ ap (λ (b : Bool). cond b (f order type) (refuse 19) j.left.now next) h

    pub good_type : (leb least type && leb type most) ≡ true → TypeIs order least most i j (Ok type)
    unfolding type_r
    good_type h =
        let t = both (leb least type) (leb type most) h in
        (leb-true least type t.0, leb-true type most t.1, λ f next. field_is order 4 (held f) i j next there ∙ ap (λ (b : Bool). cond b (f order type) (refuse 19) j.left.now next) h)

module _ (least most : ℕ) (i j : Input) where
  abbrev marked : (Order → ℕ → Reads) → ℕ → Reads
  marked f mark = cond (leb mark 1) (type_r least most f (order_of mark)) (refuse 19)

  pub mark_cut : {e : Refusal} (k : Input) → FieldIs Little 1 i j (Err e) → HeadIs least most i k (Err e)
  unfolding head_r
  mark_cut k cut = λ f next. field_cut Little 1 (marked f) i j next cut

  module _ {mark : ℕ} (there : FieldIs Little 1 i j (Ok mark)) where
    pub bad_mark : (k : Input) → 1 < mark → HeadIs least most i k (Err WkbUnknown)
    unfolding head_r
    bad_mark k h = λ f next. field_is Little 1 (marked f) i j next there ∙ rw (lt-leb mark 1 h)

    module _ (good : mark ≤ 1) {order : Order} (is : order ≡ order_of mark) (k : Input) where
      behind : (f : Order → ℕ → Reads) (next : Next) → head_r least most f i.left.now next ≡ type_r least most f order j.left.now next
      unfolding head_r
      behind f next = field_is Little 1 (marked f) i j next there ∙ rw (le-leb mark 1 good, is)

      pub head_cut : (e : Refusal) → TypeIs order least most j k (Err e) → HeadIs least most i k (Err e)
      head_cut e h = λ f next. behind f next ∙ h f next

      pub head_is : {kind : ℕ} → TypeIs order least most j k (Ok kind) → HeadIs least most i k (Ok (record { order = order; kind = kind }))
      head_is h = (h.0, h.1, λ f next. behind f next ∙ h.2 f next)

-- ---- behind a head
module _ (least most : ℕ) (f : Order → ℕ → Reads) (i j : Input) where
  pub head_refused : {T : Type 0} {e : Refusal} (a : Log Events) → HeadIs least most i j (Err e) → Leads {T = T} (head_r least most f) a i a j (Err e)
  head_refused {e = e} a h = record { memory = refl; layout = refl; runs = λ next. ap (λ (s : Script Event). run (of_events a.layout) s a.bytes.now a.count) (h f next) ∙ run_stop (of_events a.layout) (number_of e) a.bytes.now a.count }

  pub head_leads : {T : Type 0} {head : Head} {a b : Log Events} {k : Input} {r : Result T Refusal} → HeadIs least most i j (Ok head) → Leads (f head.order head.kind) a j b k r → Leads (head_r least most f) a i b k r
  head_leads {a = a} h g = record { memory = g.memory; layout = g.layout; runs = λ next. ap (λ (s : Script Event). run (of_events a.layout) s a.bytes.now a.count) (h.2 f next) ∙ g.runs next }

-- ---- one level deeper, where one is left
pub below-none : {T : Type 0} {left : ℕ} (R : Reads) (a : Log Events) (i : Input) → left ≡ 0 → Leads {T = T} (below left R) a i a i (Err TooDeep)
below-none R a i e = rw e (refused_leads TooDeep a i i)

pub below_some : {T : Type 0} {left : ℕ} {R : Reads} {a b : Log Events} {i j : Input} {r : Result T Refusal} → (left ≡ 0 → ⊥) → Leads R a i b j r → Leads (below left R) a i b j r
below_some {left = zero} h k = absurd (h refl)
below_some {left = suc _} h k = k
