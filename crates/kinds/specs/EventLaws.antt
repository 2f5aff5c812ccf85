-- Laws of events.
use Rattle.std.specs.Prelude.{◌≡◌, refl, Bool, true, false, cond, not, ◌&&◌, ◌||◌, ℕ, ◌+◌, ◌-◌, ◌≤◌, ◌<◌, ltb, eqb}
use Rattle.std.proofs.Common.{sym, ap, ◌∙◌, arith, eqb-true, ne_eqb, le-leb}
use Rattle.std.specs.Bool.{beq}
use Rattle.std.proofs.lemmas.Bool.{eqb-false, lt-leb}
use Rattle.laws.specs.Every.{never, both, other, every, every-at}
use Rattle.kinds.specs.declared.event.Event.{Event}
use Rattle.kinds.specs.declared.event.Heard.TheVariants.{Pair, Coordinate, Quiet, Other, Malformed as Unheard}
use Rattle.kinds.specs.declared.event.Uses.{Uses}
use Rattle.kinds.specs.Event.{WellFormed, Malformed, uses_idx, uses_of, keeps_uses, bit_set, is_quiet, well_formed, parsed, told_apart, is_event}

-- ---- what a range of kinds uses, by a test that antt computes over the range
abbrev pub same : Uses → Uses → Bool
same u v = beq u.idx v.idx && (beq u.tagged v.tagged && (beq u.size v.size && (beq u.pair v.pair && beq u.present v.present)))

beq_eq : (a b : Bool) → beq a b ≡ true → a ≡ b
beq_eq true true t = refl
beq_eq true false t = absurd (never t)
beq_eq false true t = absurd (never t)
beq_eq false false t = refl

same_eq : (u v : Uses) → same u v ≡ true → u ≡ v
same_eq u v t =
    let a = both (beq u.idx v.idx) _ t in
    let b = both (beq u.tagged v.tagged) _ a.1 in
    let c = both (beq u.size v.size) _ b.1 in
    let d = both (beq u.pair v.pair) _ c.1 in
    λ i. record {
      idx = beq_eq u.idx v.idx a.0 i;
      tagged = beq_eq u.tagged v.tagged b.0 i;
      size = beq_eq u.size v.size c.0 i;
      pair = beq_eq u.pair v.pair d.0 i;
      present = beq_eq u.present v.present d.1 i;
    }

pub uses_in : (from n : ℕ) (u : Uses) (kind : ℕ) → every (λ x. same u (uses_of x)) from n ≡ true → from ≤ kind → kind < from + n → u ≡ uses_of kind
uses_in from n u kind t h k = same_eq u (uses_of kind) (every-at (λ x. same u (uses_of x)) from n kind t h k)

abbrev pair : ℕ → Bool
pair kind = eqb kind 64 || eqb kind 65

-- what the kinds past the last end use, but for xy and coordinate: one test over the range
pub uses_past : (u : Uses) (kind : ℕ) → every (λ x. pair x || same u (uses_of x)) 50 206 ≡ true → 50 ≤ kind → kind < 256 → (kind ≡ 64 → ⊥) → (kind ≡ 65 → ⊥) → u ≡ uses_of kind
uses_past u kind t h k a b =
    same_eq u (uses_of kind)
    (other (pair kind) (same u (uses_of kind)) (rw (ne_eqb kind 64 a, ne_eqb kind 65 b)) (every-at (λ x. pair x || same u (uses_of x)) 50 206 kind t h k))

event_if : (b : Bool) (e : Event) → b ≡ is_event (cond b (WellFormed e) Malformed)
event_if true e = refl
event_if false e = refl

-- ---- an event is judged by what its kind uses, and then told apart by its kind
module _ (sound : Bool) (e : Event) (uses : Uses) {kept : Bool} (is : uses ≡ uses_of e.kind) (keeps : kept ≡ keeps_uses e uses) where
  judged-by : parsed sound e ≡ cond (sound && kept) (WellFormed e) Malformed
  unfolding parsed well_formed
  judged-by = rw (keeps, is)

  pub event-by : (sound && kept) ≡ is_event (parsed sound e)
  event-by = event_if (sound && kept) e ∙ sym (ap is_event judged-by)

  pub told-malformed : (sound && kept) ≡ false → Unheard ≡ told_apart (parsed sound e)
  told-malformed h = rw (judged-by, h)

  pub told-pair : e.kind ≡ 64 → (sound && kept) ≡ true → Pair e.x e.y ≡ told_apart (parsed sound e)
  told-pair kind h = rw (judged-by, h, kind)

  pub told-coordinate : e.kind ≡ 65 → (sound && kept) ≡ true → Coordinate e ≡ told_apart (parsed sound e)
  told-coordinate kind h = rw (judged-by, h, kind)

  pub told-frame : (e.kind ≡ 64 → ⊥) → (e.kind ≡ 65 → ⊥) → (sound && kept) ≡ true → cond (is_quiet e) Quiet (Other e) ≡ told_apart (parsed sound e)
  told-frame not_xy not-coordinate h = rw (judged-by, h, ne_eqb e.kind 64 not_xy, ne_eqb e.kind 65 not-coordinate)

-- ---- past the coordinates there is no kind
pub no_kind : (kind : ℕ) → 64 ≤ kind → (kind ≡ 64 → ⊥) → (kind ≡ 65 → ⊥) → uses_idx kind ≡ false
no_kind kind far not_xy not-coordinate =
    rw (
      lt-leb kind 12 (omega (arith, far)),
      lt-leb kind 17 (omega (arith, far)),
      lt-leb (kind - 32) 12 (omega (arith, far)),
      lt-leb (kind - 32) 17 (omega (arith, far)),
      le-leb 1 kind (omega (arith, far)),
      le-leb 15 kind (omega (arith, far)),
      le-leb 1 (kind - 32) (omega (arith, far)),
      le-leb 15 (kind - 32) (omega (arith, far)),
      ne_eqb kind 64 not_xy,
      ne_eqb kind 65 not-coordinate,
    )

never_both : (a : Bool) → (a && false) ≡ false
never_both true = refl
never_both false = refl

unsound : (sound : Bool) (e : Event) → Unheard ≡ told_apart (cond (sound && false) (WellFormed e) Malformed)
unsound true e = refl
unsound false e = refl

pub told_unsound : (e : Event) → Unheard ≡ told_apart (parsed false e)
unfolding parsed
told_unsound e = refl

pub told_none : (sound : Bool) (e : Event) (kept : Bool) → 64 ≤ e.kind → (e.kind ≡ 64 → ⊥) → kept ≡ keeps_uses e (uses_of 65) → (eqb e.kind 65 && kept) ≡ false → Unheard ≡ told_apart (parsed sound e)
unfolding parsed well_formed
told_none sound e kept far not_xy keeps h = by_kind (eqb e.kind 65) refl h
  where
    by_kind : (b : Bool) → eqb e.kind 65 ≡ b → (b && kept) ≡ false → Unheard ≡ told_apart (parsed sound e)
    by_kind true is none = told-malformed sound e (uses_of 65) (ap uses_of (sym (eqb-true e.kind 65 is))) keeps (ap (λ (k : Bool). sound && k) none ∙ never_both sound)
    by_kind false is none = rw (no_kind e.kind far not_xy (eqb-false e.kind 65 is)) (unsound sound e)

-- an event of a kind that uses no present bits has none
pub none_present : (e : Event) (uses : Uses) → uses.present ≡ false → keeps_uses e uses ≡ true → e.present ≡ 0
none_present e uses unused h =
    let u : Bool = uses.present in
    let no-tm = both _ ((u && bit_set e.present 8) || eqb e.tm 0) h in
    let no-t = both _ ((u && bit_set e.present 4) || eqb e.t 0) no-tm.0 in
    let no-m = both _ ((u && bit_set e.present 2) || eqb e.m 0) no-t.0 in
    let no-z = both _ ((u && bit_set e.present 1) || eqb e.z 0) no-m.0 in
    let no-y = both _ (uses.pair || eqb e.y 0) no-z.0 in
    let no-x = both _ (uses.pair || eqb e.x 0) no-y.0 in
    let no_size = both _ (uses.size || eqb e.size 0) no-x.0 in
    let few = both _ (ltb e.present 16) no_size.0 in
    eqb-true e.present 0 (other u (eqb e.present 0) unused (both (uses.idx && (uses.tagged || not e.tagged)) (u || eqb e.present 0) few.0).1)

pub xy_alone : (e : Event) → e.kind ≡ 64 → well_formed e ≡ true → e.present ≡ 0
unfolding well_formed
xy_alone e kind formed = none_present e (uses_of e.kind) (rw kind) formed
