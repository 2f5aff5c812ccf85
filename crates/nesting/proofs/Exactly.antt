-- An event is taken exactly where a geometry that keeps the rules goes on so.
use Rattle.std.specs.Prelude.{◌≡◌, refl, List, [], ◌∷◌, ◌++◌, ◌↔◌, Bool, true, false, cond, ℕ, suc, length}
use Rattle.std.proofs.Common.{sym, ap, ◌∙◌, arith}
use Rattle.nesting.specs.declared.geometry_type.GeometryType.{GeometryType}
use Rattle.nesting.specs.Events.{Event, begin, end, pair, strange}
use Rattle.nesting.specs.Rules.{Rules}
use Rattle.nesting.specs.Machine.{Frame, Place, here, too_deep, nowhere, place, begin_fits, end_fits, pair_fits, begin_at, end_at, State, within, start, closed, Answer, taken, refused, step, and_then, run}
use Rattle.nesting.proofs.Accepts.{accepts}
use Rattle.nesting.proofs.Completes.{Begins, completes, Whole, completed}

-- the machine reached a state
pub record Taken (a : Answer) : Type 0 where
  pub state : State
  pub is : a ≡ taken state

pub not_both : (n : ℕ) (t : State) → refused n ≡ taken t → ⊥
not_both n t e = let z : ◌≡◌ {A = ℕ} 0 1 = ap (λ (a : Answer). elim a [ taken s ↦ 1 | refused n ↦ 0 ]) e in omega arith

first_part : (a : Answer) (f : State → Answer) (t : State) → and_then a f ≡ taken t → Taken a
first_part (taken s) f t e = record { state = s; is = refl }
first_part (refused n) f t e = absurd (not_both n t e)

-- an event is refused with 13 or 21
data Either (n : ℕ) : Type 0 where
  is_13 : n ≡ 13 → Either n
  is_21 : n ≡ 21 → Either n

abbrev Numbers : Answer → Type 0
Numbers (taken s) = Unit {0}
Numbers (refused n) = Either n

tested : (b : Bool) (s : State) → Numbers (cond b (taken s) (refused 21))
tested true s = tt
tested false s = is_21 refl

end-numbers : (f : Frame) (fs : List Frame) (type : GeometryType) (tagged : Bool) (idx : ℕ) → Numbers (end_at f fs type tagged idx)
end-numbers f [] type tagged idx = is_21 refl
end-numbers f (p ∷ fs) type tagged idx = tested (end_fits f type tagged idx) _

other-number : (m n : ℕ) → (m ≡ n → ⊥) → refused m ≡ refused n → ⊥
other-number m n h e = h (cc)

module _ (R : Rules) where
  run-append : (es fs : List Event) (s : State) → run R (es ++ fs) s ≡ and_then (run R es s) (λ t. run R fs t)
  run-append [] fs s = refl
  run-append (e ∷ es) fs s = go (step R s e) (λ t. run-append es fs t)
    where
      go : (a : Answer) → ((t : State) → run R (es ++ fs) t ≡ and_then (run R es t) (λ u. run R fs u)) → and_then a (λ t. run R (es ++ fs) t) ≡ and_then (and_then a (λ t. run R es t)) (λ u. run R fs u)
      go (taken t) h = h t
      go (refused n) h = refl

  -- the beginning of a geometry's events is taken
  begins-taken : (es : List Event) → Begins R es → Taken (run R es start)
  begins-taken es b = first_part (run R es start) (λ t. run R b.rest t) closed (sym (run-append es b.rest start) ∙ ap (λ (l : List Event). run R l start) (sym b.tell) ∙ accepts R b.n b.geometry b.rule)

  one_more_lem : (es : List Event) (e : Event) (s : State) → run R es start ≡ taken s → run R (es ++ (e ∷ [])) start ≡ and_then (step R s e) (λ t. taken t)
  one_more_lem es e s h = run-append es (e ∷ []) start ∙ ap (λ (a : Answer). and_then a (λ t. run R (e ∷ []) t)) h

  -- ---- taken: exactly where a geometry has the events so far, then this one, as its first
  taken-begins : (es : List Event) (e : Event) (s : State) → run R es start ≡ taken s → Taken (step R s e) → Begins R (es ++ (e ∷ []))
  taken-begins es e s h t = completes R (es ++ (e ∷ [])) t.state (one_more_lem es e s h ∙ ap (λ (a : Answer). and_then a (λ u. taken u)) t.is)

  begins-next : (es : List Event) (e : Event) (s : State) → run R es start ≡ taken s → Begins R (es ++ (e ∷ [])) → Taken (step R s e)
  begins-next es e s h b =
      let t = begins-taken (es ++ (e ∷ [])) b in
      first_part (step R s e) (λ u. taken u) t.state (sym (one_more_lem es e s h) ∙ t.is)

  pub taken_exactly : (es : List Event) (e : Event) (s : State) → run R es start ≡ taken s → Taken (step R s e) ↔ Begins R (es ++ (e ∷ []))
  taken_exactly es e s h = (taken-begins es e s h, begins-next es e s h)

  -- ---- 21: exactly where no geometry goes on so and 13 is not due
  begin-numbers : (p : Place) (f : Frame) (fs : List Frame) (type : GeometryType) (tagged : Bool) (size idx : ℕ) → Numbers (begin_at R p f fs type tagged size idx)
  begin-numbers (here tag) f fs type tagged size idx = tested (begin_fits R f tag type tagged size idx) _
  begin-numbers too_deep f fs type tagged size idx = is_13 refl
  begin-numbers nowhere f fs type tagged size idx = is_21 refl

  numbers : (s : State) (e : Event) → Numbers (step R s e)
  numbers (within f fs) (begin type tagged size idx) = begin-numbers (place R f.type (suc (length fs)) type size) f fs type tagged size idx
  numbers (within f fs) (end type tagged idx) = end-numbers f fs type tagged idx
  numbers (within f fs) (pair x y idx) = tested (pair_fits f x y idx) _
  numbers (within f fs) (strange kind) = is_21 refl

  pub twenty_one : (es : List Event) (e : Event) (s : State) → run R es start ≡ taken s → (step R s e ≡ refused 21) ↔ ((Begins R (es ++ (e ∷ [])) → ⊥) × (step R s e ≡ refused 13 → ⊥))
  twenty_one es e s h = (to, λ q. from (step R s e) refl (numbers s e) q)
    where
      to : step R s e ≡ refused 21 → (Begins R (es ++ (e ∷ [])) → ⊥) × (step R s e ≡ refused 13 → ⊥)
      to r = (λ b. let t = begins-next es e s h b in not_both 21 t.state (sym r ∙ t.is), λ q. other-number 13 21 (omega arith) (sym q ∙ r))

      from : (a : Answer) → step R s e ≡ a → Numbers a → (Begins R (es ++ (e ∷ [])) → ⊥) × (step R s e ≡ refused 13 → ⊥) → step R s e ≡ refused 21
      from (taken t) q n k = absurd (k.0 (taken-begins es e s h (record { state = t; is = q })))
      from (refused n) q (is_13 m) k = absurd (k.1 (q ∙ ap refused m))
      from (refused n) q (is_21 m) k = q ∙ ap refused m

  -- ---- closed: exactly where the events are all of a geometry's
  pub closed_exactly : (es : List Event) (s : State) → run R es start ≡ taken s → (s ≡ closed) ↔ Whole R es
  closed_exactly es s h = (to, from)
    where
      to : s ≡ closed → Whole R es
      to q = completed R es (h ∙ ap taken q)

      from : Whole R es → s ≡ closed
      from w = let e : taken s ≡ taken closed = sym h ∙ ap (λ (l : List Event). run R l start) (sym w.tell) ∙ accepts R w.n w.geometry w.rule in cc
