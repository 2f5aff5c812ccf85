-- The machine takes all events of a geometry that keeps the rules, and is then closed.
use Rattle.std.specs.Prelude.{◌≡◌, refl, Bool, true, false, cond, ◌&&◌, List, [], ◌∷◌, ℕ, zero, suc, ◌+◌, ◌<◌, eqb, ltb, length}
use Rattle.std.proofs.Common.{ap, ◌∙◌, arith, eq-eqb, lt-ltb}
use Rattle.planar.specs.Geometry.{Geometry}
use Rattle.planar.specs.Any.{any}
use Rattle.nesting.specs.declared.geometry_type.GeometryType.{GeometryType}
use Rattle.nesting.specs.declared.geometry_type.GeometryType.TheVariants.{Collection}
use Rattle.nesting.specs.Events.{Event, begin, end, pair, each, events_of}
use Rattle.planar.specs.Fits.{Each}
use Rattle.nesting.specs.Rules.{Rules, limit64, MayHold, GeometryRule}
use Rattle.nesting.specs.Machine.{Frame, frame, State, within, start, closed, Answer, taken, number, same, of_pairs, count, allowed, Place, here, place, one_more, begin_at, step, and_then, run}
use Rattle.nesting.specs.Inside.{Inside, tells, Keeps}
use Rattle.nesting.specs.Tests.{same_self}
use Rattle.nesting.proofs.Tests.{true_allowed}
use Rattle.nesting.proofs.Seen.{rank, Group, Seen, a_pair, a_group, seen}

so : (b : Bool) (x y : Answer) → b ≡ true → cond b x y ≡ x
so b x y h = rw h

all_five : (p q r s t : Bool) → p ≡ true → q ≡ true → r ≡ true → s ≡ true → t ≡ true → (p && q && r && s && t) ≡ true
all_five p q r s t a b c d e = rw (a, b, c, d, e)

all-four : (p q r s : Bool) → p ≡ true → q ≡ true → r ≡ true → s ≡ true → (p && q && r && s) ≡ true
all-four p q r s a b c d = rw (a, b, c, d)

each_map : {A : Type 0} (P Q : A → Type 0) (xs : List A) → ((a : A) → P a → Q a) → Each P xs → Each Q xs
each_map P Q [] f h = tt
each_map P Q (a ∷ xs) f h = (f a h.0, each_map P Q xs f h.1)

module _ (R : Rules) where
  goes : (s t : State) (e : Event) (k : List Event) → step R s e ≡ taken t → run R (e ∷ k) s ≡ run R k t
  goes s t e k h = ap (λ (a : Answer). and_then a (λ u. run R k u)) h

  -- ---- each kind of event, where its tests pass
  takes-pair : (f : Frame) (fs : List Frame) (x y : ℕ) → of_pairs f.type ≡ true → x < limit64 → y < limit64 → f.done < f.size → step R (within f fs) (pair x y f.done) ≡ taken (within (one_more f) fs)
  takes-pair f fs x y p h k less = so _ _ _ (all_five (of_pairs f.type) (ltb f.done f.size) (eqb f.done f.done) (ltb x limit64) (ltb y limit64) p (lt-ltb f.done f.size less) (eq-eqb f.done f.done refl) (lt-ltb x limit64 h) (lt-ltb y limit64 k))

  takes_begin :
      (f : Frame) (fs : List Frame) (type : GeometryType) (tagged : Bool) (size : ℕ)
      → place R f.type (suc (length fs)) type size ≡ here tagged → MayHold R type size → f.done < f.size
      → step R (within f fs) (begin type tagged size f.done) ≡ taken (within (frame type tagged f.done (count type size) 0) (f ∷ fs))
  takes_begin f fs type tagged size stands ok less =
      ap (λ (p : Place). begin_at R p f fs type tagged size f.done) stands
      ∙ so _ _ _ (all-four (ltb f.done f.size) (eqb f.done f.done) (same tagged tagged) (allowed R type size) (lt-ltb f.done f.size less) (eq-eqb f.done f.done refl) (same_self tagged) (true_allowed R type size ok))

  takes-end : (f p : Frame) (fs : List Frame) → f.done ≡ f.size → step R (within f (p ∷ fs)) (end f.type f.tagged f.idx) ≡ taken (within (one_more p) fs)
  takes-end f p fs full = so _ _ _ (all-four (eqb (number f.type) (number f.type)) (same f.tagged f.tagged) (eqb f.idx f.idx) (eqb f.done f.size) (eq-eqb (number f.type) (number f.type) refl) (same_self f.tagged) (eq-eqb f.idx f.idx refl) (eq-eqb f.done f.size full))

  -- ---- a thing, and all things, of an open geometry
  abbrev One : (type : GeometryType) → List Frame → Inside type → Type 0
  One type fs a =
      (tagged : Bool) (idx size done : ℕ) → done < size → (k : List Event)
      → run R (tells type a done k) (within (frame type tagged idx size done) fs) ≡ run R k (within (frame type tagged idx size (done + 1)) fs)

  takes-each :
      (type : GeometryType) (fs : List Frame) (xs : List (Inside type)) → Each (One type fs) xs
      → (tagged : Bool) (idx size done : ℕ) → done + length xs ≡ size → (k : List Event)
      → run R (each (tells type) xs done k) (within (frame type tagged idx size done) fs) ≡ run R k (within (frame type tagged idx size size) fs)
  takes-each type fs [] h tagged idx size done full k =
      let e : done ≡ size = omega arith in
      ap (λ (n : ℕ). run R k (within (frame type tagged idx size n) fs)) e
  takes-each type fs (a ∷ xs) h tagged idx size done full k =
      h.0 tagged idx size done (omega arith) (each (tells type) xs (done + 1) k)
      ∙ takes-each type fs xs h.1 tagged idx size (done + 1) (omega arith) k

  takes-group : (f : Frame) (fs : List Frame) (a : Inside f.type) (g : Group R f.type (suc (length fs)) a) → Each (One g.type (f ∷ fs)) g.things → f.done < f.size → (k : List Event) → run R (tells f.type a f.done k) (within f fs) ≡ run R k (within (one_more f) fs)
  takes-group f fs a g each-one less k =
      let n = count g.type g.size in
      let last = end g.type g.tagged f.done in
      ap (λ (l : List Event). run R l (within f fs)) (g.tell f.done k)
      ∙ goes (within f fs) (within (frame g.type g.tagged f.done n 0) (f ∷ fs)) (begin g.type g.tagged g.size f.done) (each (tells g.type) g.things 0 (last ∷ k)) (takes_begin f fs g.type g.tagged g.size g.stands g.ok less)
      ∙ takes-each g.type (f ∷ fs) g.things each-one g.tagged f.done n 0 (omega (arith, g.long)) (last ∷ k)
      ∙ goes (within (frame g.type g.tagged f.done n n) (f ∷ fs)) (within (one_more f) fs) last k (takes-end (frame g.type g.tagged f.done n n) f fs refl)

  -- where every thing of a lower rank is taken
  takes-seen :
      (type : GeometryType) (fs : List Frame) (a : Inside type) → Keeps R type (suc (length fs)) a
      → ((t : GeometryType) (gs : List Frame) (b : Inside t) → rank t b < rank type a → Keeps R t (suc (length gs)) b → One t gs b)
      → One type fs a
  takes-seen type fs a keep lower tagged idx size done less k = go (seen R type (suc (length fs)) a keep)
    where
      go : Seen R type (suc (length fs)) a → run R (tells type a done k) (within (frame type tagged idx size done) fs) ≡ run R k (within (frame type tagged idx size (done + 1)) fs)
      go (a_pair x y p u v tell) =
          let f = frame type tagged idx size done in
          ap (λ (l : List Event). run R l (within f fs)) (tell done k)
          ∙ goes (within f fs) (within (one_more f) fs) (pair x y done) k (takes-pair f fs x y p u v less)
      go (a_group g) =
          let f = frame type tagged idx size done in
          let inner = each_map (λ b. Keeps R g.type (suc (length (f ∷ fs))) b × (rank g.type b < rank type a)) (One g.type (f ∷ fs)) g.things (λ b h. lower g.type (f ∷ fs) b h.1 h.0) g.keep in
          takes-group f fs a g inner less k

  -- `fuel` is more than the nesting that is left
  takes_one : (fuel : ℕ) (type : GeometryType) (fs : List Frame) (a : Inside type) → rank type a < fuel → Keeps R type (suc (length fs)) a → One type fs a
  takes_one zero type fs a h keep = absurd (omega arith)
  takes_one (suc fuel) type fs a h keep = takes-seen type fs a keep (λ t gs b q inner. takes_one fuel t gs b (omega arith) inner)

  pub accepts : (n : ℕ) (g : Geometry n) → GeometryRule R n 1 g → run R (events_of n g) start ≡ taken closed
  accepts n g rule = takes_one (suc (rank Collection (any n g))) Collection [] (any n g) (omega arith) rule false 0 1 0 (omega arith) []
