-- A record's lists as stretches of the pools.
use Rattle.std.specs.Prelude.{ℕ, ◌<◌, Option, Some, None}
use Rattle.kinds.specs.declared.geometry.Geometry.{Geometry}
use Rattle.kinds.specs.declared.geometry.Stretch.{Stretch}

-- where a list stands, if it is there
abbrev pub Span : Type 0
Span = Option Stretch

abbrev pub stretch : ℕ → ℕ → Stretch
stretch start count = record { start = start; count = count }

-- an absent list has start and count 0
abbrev pub start_of : Span → ℕ
start_of None = 0
start_of (Some s) = s.start

abbrev pub count_of : Span → ℕ
count_of None = 0
count_of (Some s) = s.count

-- what every value of the types keeps
pub record SpanSized (s : Span) : Type 0 where
  pub start : start_of s < 4294967296
  pub count : count_of s < 4294967296

pub record GeometrySized (g : Geometry) : Type 0 where
  pub xy : SpanSized g.xy
  pub ends : SpanSized g.ends
  pub z : SpanSized g.z
  pub m : SpanSized g.m
  pub t : SpanSized g.t
  pub tm : SpanSized g.tm
  pub parts : SpanSized g.parts

-- the number for each case: done, or 10 (SPEC 3.9)
abbrev pub judged_number : Option Geometry → ℕ
judged_number (Some g) = 0
judged_number None = 10

-- a record that has an xy list and no other
abbrev pub lone_geometry : ℕ → ℕ → ℕ → Geometry
lone_geometry kind start count = record { kind = kind; xy = Some (stretch start count); ends = None; z = None; m = None; t = None; tm = None; parts = None }
