-- Every row of events that the machine takes is the beginning of those of a geometry that keeps the rules.
use Rattle.std.specs.Prelude.{◌≡◌, refl, Bool, true, false, cond, List, [], ◌∷◌, ◌++◌, ℕ, suc, ◌+◌, ◌<◌, eqb, ltb, length}
use Rattle.std.proofs.Common.{ap, ◌∙◌, append-nil, arith, eqb-true, ltb-true}
use Rattle.planar.specs.Geometry.{Geometry}
use Rattle.planar.specs.Any.{Any}
use Rattle.nesting.specs.declared.geometry_type.GeometryType.{GeometryType}
use Rattle.nesting.specs.declared.geometry_type.GeometryType.TheVariants.{Collection}
use Rattle.nesting.specs.Events.{Event, begin, end, pair, strange, each, events_of}
use Rattle.planar.specs.Fits.{Each}
use Rattle.nesting.specs.Rules.{Rules, limit64, GeometryRule}
use Rattle.nesting.specs.Machine.{Frame, frame, State, within, start, closed, Answer, taken, refused, number, same, of_pairs, count, allowed, Place, here, too_deep, nowhere, place, one_more, begin_fits, end_fits, pair_fits, begin_at, end_at, pair_at, step, and_then, run}
use Rattle.nesting.specs.Inside.{Inside, any_of, Keeps, Left, Rest, told}
use Rattle.nesting.specs.Tests.{five, four, same_true, number_true}
use Rattle.nesting.proofs.Tests.{allowed_true}
use Rattle.nesting.proofs.Made.{Made, OnPlace, made, Pair, paired, many, some, some-keeps}

module _ (R : Rules) where
  -- some geometry that keeps the rules has these events first
  pub record Begins (es : List Event) : Type 0 where
    pub n : ℕ
    pub geometry : Geometry n
    pub rule : GeometryRule R n 1 geometry
    pub rest : List Event
    pub tell : events_of n geometry ≡ es ++ rest

  -- and no others
  pub record Whole (es : List Event) : Type 0 where
    pub n : ℕ
    pub geometry : Geometry n
    pub rule : GeometryRule R n 1 geometry
    pub tell : events_of n geometry ≡ es

  -- `es` led from s to t: what may still come at t, behind es, is what may come at s; and something may still come.
  record Leads (s : State) (es : List Event) (t : State) : Type 0 where
    back : Rest R t → Rest R s
    tell : (r : Rest R t) → told R s (back r) ≡ es ++ told R t r
    forth : Rest R s → Rest R t

  abbrev Onward : State → List Event → Answer → Type 0
  Onward s es (taken t) = Leads s es t
  Onward s es (refused n) = Unit {0}

  -- the things behind the next
  later : (type : GeometryType) (level size i : ℕ) → i < size → Left R type level size i → Left R type level size (i + 1)
  later type level size i h r = go r.things r.fill r.keep
    where
      go : (xs : List (Inside type)) → i + length xs ≡ size → Each (Keeps R type level) xs → Left R type level size (i + 1)
      go [] e k = absurd (omega arith)
      go (a ∷ xs) e k = record { things = xs; fill = omega arith; keep = k.1 }

  -- the next and the things behind it
  abbrev before : (type : GeometryType) (level size i : ℕ) (a : Inside type) → Keeps R type level a → Left R type level size (i + 1) → Left R type level size i
  before type level size i a k r = record { things = a ∷ r.things; fill = omega (arith, r.fill); keep = (k, r.keep) }

  -- ---- an event that passes its tests
  pair-taken : (f : Frame) (fs : List Frame) (x y i : ℕ) → Pair R f.type (suc (length fs)) x y → f.done < f.size → i ≡ f.done → Leads (within f fs) (pair x y i ∷ []) (within (one_more f) fs)
  pair-taken f fs x y i p less at = record {
    back = λ r. (before f.type (suc (length fs)) f.size f.done p.thing p.keeps r.0, r.1);
    tell = λ r. rw at (p.tell f.done _);
    forth = λ r. (later f.type (suc (length fs)) f.size f.done less r.0, r.1);
  }

  begin-taken :
      (f : Frame) (fs : List Frame) (type : GeometryType) (tagged tag : Bool) (size i : ℕ)
      → Made R f.type (suc (length fs)) type tag size → f.done < f.size → i ≡ f.done → tagged ≡ tag
      → Leads (within f fs) (begin type tagged size i ∷ []) (within (frame type tagged i (count type size) 0) (f ∷ fs))
  begin-taken f fs type tagged tag size i m less at as-tag = record {
    back = λ r. (before f.type (suc (length fs)) f.size f.done (m.thing r.0) (m.keeps r.0) r.1.0, r.1.1);
    tell = λ r. rw (as-tag, at) (m.tell r.0 f.done _);
    forth = λ r. (m.default, (later f.type (suc (length fs)) f.size f.done less r.0, r.1));
  }

  end-taken :
      (f p : Frame) (fs : List Frame) (type : GeometryType) (tagged : Bool) (i : ℕ)
      → type ≡ f.type → tagged ≡ f.tagged → i ≡ f.idx → f.done ≡ f.size
      → Leads (within f (p ∷ fs)) (end type tagged i ∷ []) (within (one_more p) fs)
  end-taken f p fs type tagged i as-type as-tag at full = record {
    back = λ r. (record { things = []; fill = omega arith; keep = tt }, r);
    tell = λ r. rw (as-type, as-tag, at);
    forth = λ r. r.1;
  }

  -- ---- an event that may pass them
  pair_leads : (f : Frame) (fs : List Frame) (x y i : ℕ) → Onward (within f fs) (pair x y i ∷ []) (pair_at f fs x y i)
  pair_leads f fs x y i = go _ refl
    where
      go : (b : Bool) → pair_fits f x y i ≡ b → Onward (within f fs) (pair x y i ∷ []) (cond b (taken (within (one_more f) fs)) (refused 21))
      go false e = tt
      go true e =
          let t = five (of_pairs f.type) (ltb f.done f.size) (eqb i f.done) (ltb x limit64) (ltb y limit64) e in
          pair-taken f fs x y i (paired R f.type (suc (length fs)) x y t.0 (ltb-true x limit64 t.3) (ltb-true y limit64 t.4)) (ltb-true f.done f.size t.1) (eqb-true i f.done t.2)

  begin_leads : (f : Frame) (fs : List Frame) (type : GeometryType) (tagged : Bool) (size i : ℕ) (p : Place) → OnPlace R f.type (suc (length fs)) type size p → Onward (within f fs) (begin type tagged size i ∷ []) (begin_at R p f fs type tagged size i)
  begin_leads f fs type tagged size i too_deep m = tt
  begin_leads f fs type tagged size i nowhere m = tt
  begin_leads f fs type tagged size i (here tag) m = go _ refl
    where
      go : (b : Bool) → begin_fits R f tag type tagged size i ≡ b → Onward (within f fs) (begin type tagged size i ∷ []) (cond b (taken (within (frame type tagged i (count type size) 0) (f ∷ fs))) (refused 21))
      go false e = tt
      go true e =
          let t = four (ltb f.done f.size) (eqb i f.done) (same tagged tag) (allowed R type size) e in
          begin-taken f fs type tagged tag size i (m (allowed_true R type size t.3)) (ltb-true f.done f.size t.0) (eqb-true i f.done t.1) (same_true tagged tag t.2)

  end_leads : (f : Frame) (fs : List Frame) (type : GeometryType) (tagged : Bool) (i : ℕ) → Onward (within f fs) (end type tagged i ∷ []) (end_at f fs type tagged i)
  end_leads f [] type tagged i = tt
  end_leads f (p ∷ fs) type tagged i = go _ refl
    where
      go : (b : Bool) → end_fits f type tagged i ≡ b → Onward (within f (p ∷ fs)) (end type tagged i ∷ []) (cond b (taken (within (one_more p) fs)) (refused 21))
      go false e = tt
      go true e =
          let t = four (eqb (number type) (number f.type)) (same tagged f.tagged) (eqb i f.idx) (eqb f.done f.size) e in
          end-taken f p fs type tagged i (number_true type f.type t.0) (same_true tagged f.tagged t.1) (eqb-true i f.idx t.2) (eqb-true f.done f.size t.3)

  step_leads : (s : State) (e : Event) → Onward s (e ∷ []) (step R s e)
  step_leads (within f fs) (begin type tagged size i) = begin_leads f fs type tagged size i (place R f.type (suc (length fs)) type size) (made R f.type (suc (length fs)) type size)
  step_leads (within f fs) (end type tagged i) = end_leads f fs type tagged i
  step_leads (within f fs) (pair x y i) = pair_leads f fs x y i
  step_leads (within f fs) (strange kind) = tt

  joined : (s t : State) (e : Event) (es : List Event) (a : Answer) → Leads s (e ∷ []) t → Onward t es a → Onward s (e ∷ es) a
  joined s t e es (refused n) h k = tt
  joined s t e es (taken u) h k = record {
    back = λ r. h.back (k.back r);
    tell = λ r. h.tell (k.back r) ∙ ap (λ (l : List Event). e ∷ l) (k.tell r);
    forth = λ r. k.forth (h.forth r);
  }

  run_leads : (es : List Event) (s : State) → Onward s es (run R es s)
  run_leads [] s = record { back = λ r. r; tell = λ r. refl; forth = λ r. r }
  run_leads (e ∷ es) s = go (step R s e) (step_leads s e) (λ t. run_leads es t)
    where
      go : (a : Answer) → Onward s (e ∷ []) a → ((t : State) → Onward t es (run R es t)) → Onward s (e ∷ es) (and_then a (λ t. run R es t))
      go (taken t) h k = joined s t e es (run R es t) h (k t)
      go (refused n) h k = tt

  -- ---- what may come at the start is a geometry
  whole : (r : Rest R start) → Whole (told R start r)
  whole r = go r.0.things r.0.fill r.0.keep
    where
      go : (xs : List Any) → 0 + length xs ≡ 1 → Each (Keeps R Collection 1) xs → Whole (each any_of xs 0 [])
      go [] e k = absurd (omega arith)
      go (a ∷ []) e k = record { n = a.n; geometry = a.geometry; rule = k.0; tell = refl }
      go (a ∷ b ∷ xs) e k = absurd (omega arith)

  pub completes : (es : List Event) (s : State) → run R es start ≡ taken s → Begins es
  completes es s e =
      let h : Leads start es s = rw e at (run_leads es start) in
      let r = h.forth (many R Collection 1 (some Collection) (some-keeps R Collection 1) 1, tt) in
      let w = whole (h.back r) in
      record { n = w.n; geometry = w.geometry; rule = w.rule; rest = told R s r; tell = w.tell ∙ h.tell r }

  -- where the machine is closed, they are all of its events
  pub completed : (es : List Event) → run R es start ≡ taken closed → Whole es
  completed es e =
      let h : Leads start es closed = rw e at (run_leads es start) in
      let r : Rest R closed = (record { things = []; fill = refl; keep = tt }, tt) in
      let w = whole (h.back r) in
      record { n = w.n; geometry = w.geometry; rule = w.rule; tell = w.tell ∙ h.tell r ∙ append-nil es }
