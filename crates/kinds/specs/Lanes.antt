-- The six pools, one lane each: what is said once over the lane is said of every pool.
use Rattle.std.specs.Prelude.{Bool, ◌&&◌, ℕ}
use Rattle.kinds.specs.declared.geometry.Geometry.{Geometry}
use Rattle.kinds.specs.declared.lanes.Lanes.{Lanes}
use Rattle.kinds.specs.Geometry.{Span}

pub data Lane : Type 0 where
  xyL endsL zL mL tL tmL : Lane

-- what stands in a lane, and what stands in all of them
abbrev pub lane : {A : Type 0} → Lanes A → Lane → A
lane l xyL = l.xy
lane l endsL = l.ends
lane l zL = l.z
lane l mL = l.m
lane l tL = l.t
lane l tmL = l.tm

abbrev pub lanes_of : {A : Type 0} → (Lane → A) → Lanes A
lanes_of f = record { xy = f xyL; ends = f endsL; z = f zL; m = f mL; t = f tL; tm = f tmL }

-- how many words are usable (SPEC 4.2)
abbrev pub usable : Lane → ℕ
usable xyL = 131072
usable endsL = 65536
usable zL = 65536
usable mL = 65536
usable tL = 65536
usable tmL = 65536

abbrev pub span_in : Geometry → Lane → Span
span_in g xyL = g.xy
span_in g endsL = g.ends
span_in g zL = g.z
span_in g mL = g.m
span_in g tL = g.t
span_in g tmL = g.tm

abbrev pub Lent : Type 0
Lent = Lanes ℕ

-- what is lent, from the count of words in each pool
abbrev pub lent_words : ℕ → ℕ → ℕ → ℕ → ℕ → ℕ → Lent
lent_words xy ends z m t tm = record { xy = xy; ends = ends; z = z; m = m; t = t; tm = tm }

abbrev pub lent_in : Lent → Lane → ℕ
lent_in l n = lane l n

abbrev pub every_lane : (Lane → Bool) → Bool
every_lane f = f xyL && f endsL && f zL && f mL && f tL && f tmL
