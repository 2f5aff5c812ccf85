-- A pair that is met again moves nothing, and one that moves nothing moves nothing later, whatever comes between.
use Rattle.std.specs.Prelude.{◌≡◌, refl, Bool, true, false, cond, ℕ, Float}
use Rattle.std.proofs.Common.{sym, ap, ◌∙◌}
use Rattle.laws.specs.Every.{never}
use Rattle.bbox.specs.declared.Box.{Box}
use Rattle.bbox.specs.Box.{Side, least, greatest, beyond, moved, double, widen}
use Rattle.bbox.specs.Less.{beyond_never, beyond-over}

-- ---- an edge
module _ (side : Side) where
  moved_met : (edge v : Float) → moved side (moved side edge v) v ≡ moved side edge v
  moved_met edge v = go (beyond side v edge) refl
    where
      go : (t : Bool) → beyond side v edge ≡ t → cond (beyond side v (cond t v edge)) v (cond t v edge) ≡ cond t v edge
      go true h = rw (beyond_never side v)
      go false h = rw h

  moved_stays : (edge v w : Float) → moved side edge v ≡ edge → moved side (moved side edge w) v ≡ moved side edge w
  moved_stays edge v w h = by_w (beyond side w edge) refl
    where
      not_beyond : (s : Bool) → beyond side v edge ≡ s → cond s v edge ≡ edge → beyond side v edge ≡ false
      not_beyond true e q = absurd (never (sym (ap (λ (x : Float). beyond side x edge) q ∙ beyond_never side edge) ∙ e))
      not_beyond false e q = e

      by_v : beyond side w edge ≡ true → (s : Bool) → beyond side v w ≡ s → cond s v w ≡ w
      by_v e true q = absurd (never (sym (not_beyond (beyond side v edge) refl h) ∙ beyond-over side v w edge q e))
      by_v e false q = refl

      by_w : (t : Bool) → beyond side w edge ≡ t → cond (beyond side v (cond t w edge)) v (cond t w edge) ≡ cond t w edge
      by_w true e = by_v e (beyond side v w) refl
      by_w false e = h

-- ---- all four
pub box_of_lem : {a b c d a' b' c' d' : Float} → a ≡ a' → b ≡ b' → c ≡ c' → d ≡ d'
    → ◌≡◌ {A = Box} (record { least_x = a; least_y = b; greatest_x = c; greatest_y = d }) (record { least_x = a'; least_y = b'; greatest_x = c'; greatest_y = d' })
box_of_lem p q r s = rw (p, q, r, s)

pub widen_met : (b : Box) (x y : ℕ) → widen (widen b x y) x y ≡ widen b x y
unfolding widen
widen_met b x y =
    box_of_lem (moved_met least b.least_x (double x)) (moved_met least b.least_y (double y))
    (moved_met greatest b.greatest_x (double x)) (moved_met greatest b.greatest_y (double y))

pub widen_stays : (b : Box) (x y u v : ℕ) → widen b x y ≡ b → widen (widen b u v) x y ≡ widen b u v
unfolding widen
widen_stays b x y u v h =
    box_of_lem (moved_stays least b.least_x (double x) (double u) (ap (λ (c : Box). c.least_x) h))
    (moved_stays least b.least_y (double y) (double v) (ap (λ (c : Box). c.least_y) h))
    (moved_stays greatest b.greatest_x (double x) (double u) (ap (λ (c : Box). c.greatest_x) h))
    (moved_stays greatest b.greatest_y (double y) (double v) (ap (λ (c : Box). c.greatest_y) h))
