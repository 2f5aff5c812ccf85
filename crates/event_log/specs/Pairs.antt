-- The pairs of a list, as events: what is said of them, and by one turn of the loop that says it.
use Rattle.std.specs.Prelude.{◌≡◌, refl, List, [], ◌∷◌, ℕ, zero, suc, ◌+◌, ◌-◌, ◌*◌, ◌/◌, ◌%◌, ◌<◌, ◌≤◌, length, drop, get_or}
use Rattle.std.proofs.Common.{◌∙◌, ap, arith, add-one, drop-cons}
use Rattle.std.proofs.Math.ListN.{drop_of_length-le}
use Rattle.laws.specs.Script.{Script, stop, say, one, ◌⨟◌}
use Rattle.kinds.specs.Event.{xy_e}
use Rattle.kinds.specs.declared.event.Event.{Event}

-- the pairs, numbered from idx; 7 at a pair of which a word is missing, and `last` after the list
unfoldable pub xy_s : List ℕ → ℕ → ℕ → Script Event
xy_s [] idx last = stop last
xy_s (x ∷ []) idx last = stop 7
xy_s (x ∷ (y ∷ l)) idx last = say (xy_e x y idx) (xy_s l (idx + 1) last)

drop-one : (l : List ℕ) (i : ℕ) → i < length l → drop i l ≡ get_or l i 0 ∷ drop (i + 1) l
drop-one l i h = rw (add-one, drop-cons l i 0)

-- the number behind the pairs, said after them
pub xy-then : (l : List ℕ) (idx last : ℕ) → xy_s l idx last ≡ xy_s l idx 0 ⨟ stop last
unfolding xy_s ◌⨟◌
xy-then [] idx last = refl
xy-then (x ∷ []) idx last = refl
xy-then (x ∷ (y ∷ l)) idx last = ap (λ (s : Script Event). say (xy_e x y idx) s) (xy-then l (idx + 1) last)

-- the pairs from number i on
module _ (l : List ℕ) (i : ℕ) where
  pub xy_over : length l / 2 ≤ i → length l % 2 ≡ 0 → xy_s (drop (2 * i) l) i 0 ≡ stop 0
  unfolding xy_s
  xy_over h e =
      let p : length l ≤ 2 * i = omega arith in
      rw (drop_of_length-le l p)

  pub xy_odd : i ≡ length l / 2 → (length l % 2 ≡ 0 → ⊥) → xy_s (drop (2 * i) l) i 0 ≡ stop 7
  unfolding xy_s
  xy_odd h e =
      let there : 2 * i < length l = omega arith in
      let p : length l ≤ 2 * i + 1 = omega arith in
      rw (drop-one l (2 * i) there, drop_of_length-le l p)

  pub xy_next : (e : Event) → i < length l / 2 → e ≡ xy_e (get_or l (2 * i) 0) (get_or l (2 * i + 1) 0) i → xy_s (drop (2 * i) l) i 0 ≡ one e ⨟ xy_s (drop (2 * (i + 1)) l) (i + 1) 0
  unfolding xy_s ◌⨟◌
  xy_next e h is =
      let first : 2 * i < length l = omega arith in
      let second : 2 * i + 1 < length l = omega arith in
      let d : 2 * (i + 1) ≡ 2 * i + 1 + 1 = omega arith in
      rw (is, d, drop-one l (2 * i) first, drop-one l (2 * i + 1) second)
