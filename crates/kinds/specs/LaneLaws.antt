-- What holds in every lane.
use Rattle.std.specs.Prelude.{◌≡◌, refl, Bool, true, false, ◌&&◌, ◌≤◌}
use Rattle.std.proofs.Common.{arith}
use Rattle.laws.specs.Every.{both}
use Rattle.kinds.specs.declared.lanes.Lanes.{Lanes}
use Rattle.kinds.specs.Lanes.{Lane, xyL, endsL, zL, mL, tL, tmL, lane, lanes_of, usable, Lent, lent_words, every_lane}

pub lane_of_every : (f : Lane → Bool) → every_lane f ≡ true → (n : Lane) → f n ≡ true
lane_of_every f h =
    let tm = both _ (f tmL) h in
    let t = both _ (f tL) tm.0 in
    let m = both _ (f mL) t.0 in
    let z = both _ (f zL) m.0 in
    let ends = both (f xyL) (f endsL) z.0 in
    λ n. elim n as (λ k. f k ≡ true) [ xyL ↦ ends.0 | endsL ↦ ends.1 | zL ↦ z.1 | mL ↦ m.1 | tL ↦ t.1 | tmL ↦ tm.1 ]

pub every_of_lanes : (f : Lane → Bool) → ((n : Lane) → f n ≡ true) → every_lane f ≡ true
every_of_lanes f h = rw (h xyL, h endsL, h zL, h mL, h tL, h tmL)

-- what holds in each lane, by its six cases
pub by_lane : (P : Lane → Type 0) → P xyL → P endsL → P zL → P mL → P tL → P tmL → (n : Lane) → P n
by_lane P xy ends z m t tm xyL = xy
by_lane P xy ends z m t tm endsL = ends
by_lane P xy ends z m t tm zL = z
by_lane P xy ends z m t tm mL = m
by_lane P xy ends z m t tm tL = t
by_lane P xy ends z m t tm tmL = tm

-- what is said of each lane says all of them
pub lanes_are : {A : Type 0} (l : Lanes A) (f : Lane → A) → ((n : Lane) → lane l n ≡ f n) → l ≡ lanes_of f
lanes_are l f h = λ i. record { xy = h xyL i; ends = h endsL i; z = h zL i; m = h mL i; t = h tL i; tm = h tmL i }

-- what is usable, of each pool
abbrev pub usable_words : Lent
usable_words = lent_words 131072 65536 65536 65536 65536 65536

pub usable_is : (n : Lane) → lane usable_words n ≡ usable n
usable_is xyL = refl
usable_is endsL = refl
usable_is zL = refl
usable_is mL = refl
usable_is tL = refl
usable_is tmL = refl

pub usable_most : (n : Lane) → usable n ≤ 131072
usable_most xyL = omega arith
usable_most endsL = omega arith
usable_most zL = omega arith
usable_most mL = omega arith
usable_most tL = omega arith
usable_most tmL = omega arith

-- ---- a test of every lane
pub every_same : (f g : Lane → Bool) → ((n : Lane) → f n ≡ g n) → every_lane f ≡ every_lane g
every_same f g h = rw (h xyL, h endsL, h zL, h mL, h tL, h tmL)

crossed : (a b c d : Bool) → ((a && b) && (c && d)) ≡ ((a && c) && (b && d))
crossed false b c d = refl
crossed true false true d = refl
crossed true false false d = refl
crossed true true c d = refl

pub every_both : (f g : Lane → Bool) → every_lane (λ n. f n && g n) ≡ (every_lane f && every_lane g)
every_both f g =
    rw (crossed (f xyL) (g xyL) (f endsL) (g endsL))
    (rw (crossed (f xyL && f endsL) (g xyL && g endsL) (f zL) (g zL))
    (rw (crossed (f xyL && f endsL && f zL) (g xyL && g endsL && g zL) (f mL) (g mL))
    (rw (crossed (f xyL && f endsL && f zL && f mL) (g xyL && g endsL && g zL && g mL) (f tL) (g tL))
    (crossed (f xyL && f endsL && f zL && f mL && f tL) (g xyL && g endsL && g zL && g mL && g tL) (f tmL) (g tmL)))))
