-- The box around two boxes; and words widen a box as their own box does, taken by itself.
use Rattle.std.specs.Prelude.{◌≡◌, refl, Bool, true, false, cond, List, [], ◌∷◌, ℕ, Float}
use Rattle.std.proofs.Common.{sym, ap, ◌∙◌}
use Rattle.std.specs.Float.{nan, inf, fin}
use Rattle.std.specs.Float.Ieee.{lt, is_nan}
use Rattle.laws.specs.Every.{never}
use Rattle.bbox.specs.declared.Box.{Box}
use Rattle.bbox.specs.Box.{Side, least, greatest, beyond, moved, beginning, double, widen, box_from}
use Rattle.bbox.specs.Less.{lt_from, beyond-over}
use Rattle.bbox.specs.Again.{box_of_lem}

-- each edge of the first, replaced by the second's only where that is strictly beyond it
unfoldable pub join : Box → Box → Box
join b c =
    record {
      least_x = moved least b.least_x c.least_x;
      least_y = moved least b.least_y c.least_y;
      greatest_x = moved greatest b.greatest_x c.greatest_x;
      greatest_y = moved greatest b.greatest_y c.greatest_y;
    }

not_both : {t : Bool} → t ≡ true → t ≡ false → ⊥
not_both h k = never (sym k ∙ h)

-- where x is not beyond the number y, y is beyond all that x is beyond
beyond-from : (side : Side) (x y z : Float) → is_nan y ≡ false → beyond side x y ≡ false → beyond side x z ≡ true → beyond side y z ≡ true
beyond-from least x y z n h k = lt_from x y z n h k
beyond-from greatest x y z n h k = go (lt z y) refl
  where
    go : (t : Bool) → lt z y ≡ t → t ≡ true
    go true e = refl
    go false e = absurd (not_both (lt_from z y x n e k) h)

-- ---- the edge that a side begins with
abbrev start : Side → Float
start least = inf false
start greatest = inf true

start_beyond_none : (side : Side) (edge : Float) → beyond side (start side) edge ≡ false
unfolding lt
start_beyond_none least nan = refl
start_beyond_none least (inf t) = refl
start_beyond_none least (fin t n d) = refl
start_beyond_none greatest nan = refl
start_beyond_none greatest (inf true) = refl
start_beyond_none greatest (inf false) = refl
start_beyond_none greatest (fin t n d) = refl

start-number : (side : Side) → is_nan (start side) ≡ false
unfolding is_nan
start-number least = refl
start-number greatest = refl

-- what moves any edge moves the first
moves_first : (side : Side) (edge x : Float) → beyond side x edge ≡ true → beyond side x (start side) ≡ true
moves_first side edge x h = go (beyond side x (start side)) refl
  where
    go : (t : Bool) → beyond side x (start side) ≡ t → t ≡ true
    go true e = refl
    go false e = absurd (not_both (beyond-from side x (start side) edge (start-number side) e h) (start_beyond_none side edge))

beyond-number : (side : Side) (x edge : Float) → beyond side x edge ≡ true → is_nan x ≡ false
unfolding lt is_nan
beyond-number least nan edge h = absurd (never h)
beyond-number least (inf s) edge h = refl
beyond-number least (fin s m e) edge h = refl
beyond-number greatest nan nan h = absurd (never h)
beyond-number greatest nan (inf t) h = absurd (never h)
beyond-number greatest nan (fin t n d) h = absurd (never h)
beyond-number greatest (inf s) edge h = refl
beyond-number greatest (fin s m e) edge h = refl

-- ---- an edge moved by two values is moved by the one that moves the other, taken by itself
moved-join : (side : Side) (edge x y : Float) → moved side (moved side edge x) y ≡ moved side edge (moved side (moved side (start side) x) y)
moved-join side edge x y = by_x (beyond side x edge) refl
  where
    within : (p : Float) → is_nan p ≡ false → beyond side p edge ≡ false → moved side edge y ≡ moved side edge (moved side p y)
    within p n h = by_y (beyond side y p) refl
      where
        stays : beyond side y p ≡ false → (t : Bool) → beyond side y edge ≡ t → t ≡ false
        stays e true g = absurd (not_both (beyond-from side y p edge n e g) h)
        stays e false g = refl

        by_y : (t : Bool) → beyond side y p ≡ t → moved side edge y ≡ moved side edge (cond t y p)
        by_y true e = refl
        by_y false e = rw (stays e (beyond side y edge) refl, h)

    out : beyond side x edge ≡ true → moved side x y ≡ moved side edge (moved side x y)
    out h = by_y (beyond side y x) refl
      where
        by_y : (t : Bool) → beyond side y x ≡ t → cond t y x ≡ moved side edge (cond t y x)
        by_y true e = rw (beyond-over side y x edge e h)
        by_y false e = rw h

    by-start : beyond side x edge ≡ false → (t : Bool) → beyond side x (start side) ≡ t → moved side edge y ≡ moved side edge (moved side (cond t x (start side)) y)
    by-start h true e = within x (beyond-number side x (start side) e) h
    by-start h false e = within (start side) (start-number side) (start_beyond_none side edge)

    by_x : (t : Bool) → beyond side x edge ≡ t → moved side (cond t x edge) y ≡ moved side edge (moved side (moved side (start side) x) y)
    by_x true h = out h ∙ ap (λ (s : Bool). moved side edge (moved side (cond s x (start side)) y)) (sym (moves_first side edge x h))
    by_x false h = by-start h (beyond side x (start side)) refl

-- ---- all four
join-beginning : (b : Box) → b ≡ join b beginning
unfolding join beginning
join-beginning b = box_of_lem (none least b.least_x) (none least b.least_y) (none greatest b.greatest_x) (none greatest b.greatest_y)
  where
    none : (side : Side) (edge : Float) → edge ≡ moved side edge (start side)
    none side edge = rw (start_beyond_none side edge)

join_widened : (b c : Box) (x y : ℕ) → join (widen b x y) c ≡ join b (join (widen beginning x y) c)
unfolding join widen beginning
join_widened b c x y =
    box_of_lem (moved-join least b.least_x (double x) c.least_x) (moved-join least b.least_y (double y) c.least_y)
    (moved-join greatest b.greatest_x (double x) c.greatest_x) (moved-join greatest b.greatest_y (double y) c.greatest_y)

pub widened_by_box : (b : Box) (ws : List ℕ) → box_from b ws ≡ join b (box_from beginning ws)
unfolding box_from
widened_by_box b [] = join-beginning b
widened_by_box b (x ∷ []) = join-beginning b
widened_by_box b (x ∷ y ∷ ws) =
    widened_by_box (widen b x y) ws ∙ join_widened b (box_from beginning ws) x y ∙ ap (join b) (sym (widened_by_box (widen beginning x y) ws))
