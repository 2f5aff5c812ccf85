-- What every state that is reached keeps, for code that holds it in words: each number is a u32, and an open geometry's idx need not be stored.
use Rattle.std.specs.Prelude.{◌≡◌, refl, Bool, true, false, cond, List, [], ◌∷◌, ℕ, suc, ◌<◌, ◌≤◌, eqb, ltb, length}
use Rattle.std.proofs.Common.{arith, eqb-true, ltb-true}
use Rattle.nesting.specs.declared.geometry_type.GeometryType.{GeometryType}
use Rattle.nesting.specs.declared.geometry_type.GeometryType.TheVariants.{Point, LineString, Polygon, MultiPoint, MultiLineString, MultiPolygon, Collection}
use Rattle.nesting.specs.Events.{Event, begin, end, pair, strange}
use Rattle.nesting.specs.Rules.{Rules, limit, limit64, MayHold}
use Rattle.nesting.specs.Machine.{Frame, frame, State, within, start, Answer, taken, refused, same, of_pairs, count, allowed, Place, here, too_deep, nowhere, place, one_more, begin_fits, end_fits, pair_fits, begin_at, end_at, pair_at, step, and_then, run}
use Rattle.nesting.specs.Tests.{five, four}
use Rattle.nesting.proofs.Tests.{allowed_true}

pub record Sound (f : Frame) : Type 0 where
  pub done : f.done ≤ f.size
  pub size : f.size < limit

-- those around the one of this index: each has it as its next thing
abbrev pub Enclosed : ℕ → List Frame → Type 0
Enclosed idx [] = Unit {0}
Enclosed idx (f ∷ fs) = (idx ≡ f.done) × (f.done < f.size) × Sound f × Enclosed f.idx fs

abbrev pub SoundState : State → Type 0
SoundState (within f fs) = Sound f × Enclosed f.idx fs

abbrev SoundAfter : Answer → Type 0
SoundAfter (taken s) = SoundState s
SoundAfter (refused n) = Unit {0}

pair_sound : (f : Frame) (fs : List Frame) (x y i : ℕ) → SoundState (within f fs) → SoundAfter (pair_at f fs x y i)
pair_sound f fs x y i h = go _ refl
  where
    go : (b : Bool) → pair_fits f x y i ≡ b → SoundAfter (cond b (taken (within (one_more f) fs)) (refused 21))
    go false e = tt
    go true e =
        let t = five (of_pairs f.type) (ltb f.done f.size) (eqb i f.done) (ltb x limit64) (ltb y limit64) e in
        (record { done = omega (arith, ltb-true f.done f.size t.1); size = h.0.size }, h.1)

end_sound : (f : Frame) (fs : List Frame) (type : GeometryType) (tagged : Bool) (i : ℕ) → SoundState (within f fs) → SoundAfter (end_at f fs type tagged i)
end_sound f [] type tagged i h = tt
end_sound f (p ∷ fs) type tagged i h = go (end_fits f type tagged i)
  where
    go : (b : Bool) → SoundAfter (cond b (taken (within (one_more p) fs)) (refused 21))
    go false = tt
    go true = (record { done = omega (arith, h.1.1); size = h.1.2.size }, h.1.3)

module _ (R : Rules) where
  held : (type : GeometryType) (size : ℕ) → MayHold R type size → count type size < limit
  held Point size ok = omega arith
  held LineString size ok = ok.1
  held Polygon size ok = ok.1
  held MultiPoint size ok = ok.1
  held MultiLineString size ok = ok.1
  held MultiPolygon size ok = ok.1
  held Collection size ok = ok.1

  begin_sound : (f : Frame) (fs : List Frame) (type : GeometryType) (tagged : Bool) (size i : ℕ) (p : Place) → SoundState (within f fs) → SoundAfter (begin_at R p f fs type tagged size i)
  begin_sound f fs type tagged size i too_deep h = tt
  begin_sound f fs type tagged size i nowhere h = tt
  begin_sound f fs type tagged size i (here tag) h = go _ refl
    where
      go : (b : Bool) → begin_fits R f tag type tagged size i ≡ b → SoundAfter (cond b (taken (within (frame type tagged i (count type size) 0) (f ∷ fs))) (refused 21))
      go false e = tt
      go true e =
          let t = four (ltb f.done f.size) (eqb i f.done) (same tagged tag) (allowed R type size) e in
          (record { done = omega arith; size = held type size (allowed_true R type size t.3) }, (eqb-true i f.done t.1, ltb-true f.done f.size t.0, h.0, h.1))

  step_sound : (s : State) (e : Event) → SoundState s → SoundAfter (step R s e)
  step_sound (within f fs) (begin type tagged size i) h = begin_sound f fs type tagged size i (place R f.type (suc (length fs)) type size) h
  step_sound (within f fs) (end type tagged i) h = end_sound f fs type tagged i h
  step_sound (within f fs) (pair x y i) h = pair_sound f fs x y i h
  step_sound (within f fs) (strange kind) h = tt

  run_sound : (es : List Event) (s : State) → SoundState s → SoundAfter (run R es s)
  run_sound [] s h = h
  run_sound (e ∷ es) s h = go (step R s e) (step_sound s e h) (λ t. run_sound es t)
    where
      go : (a : Answer) → SoundAfter a → ((t : State) → SoundState t → SoundAfter (run R es t)) → SoundAfter (and_then a (λ t. run R es t))
      go (taken t) h k = k t h
      go (refused n) h k = tt

  pub reached_sound : (es : List Event) (s : State) → run R es start ≡ taken s → SoundState s
  reached_sound es s e = rw e at (run_sound es start (record { done = omega arith; size = omega arith }, tt))
