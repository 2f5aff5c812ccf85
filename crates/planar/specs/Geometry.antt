-- Geometries of the types 1 to 7, with x and y alone: what well-known binary has.
use Rattle.std.specs.Prelude.{List, ℕ, zero, suc}

pub record Coord : Type 0 where
  pub x : ℕ
  pub y : ℕ

abbrev pub Line : Type 0
Line = List Coord

-- a polygon: its rings, the outer one first
abbrev pub Rings : Type 0
Rings = List Line

pub data Simple : Type 0 where
  point : Coord → Simple
  line_string : Line → Simple
  polygon : Rings → Simple
  multi_point : List Coord → Simple
  multi_line_string : List Line → Simple
  multi_polygon : List Rings → Simple

pub data Shape (Part : Type 0) : Type 0 where
  simple : Simple → Shape Part
  collection : List Part → Shape Part

-- a geometry, with collections at most n deep
abbrev pub Geometry : ℕ → Type 0
Geometry zero = Simple
Geometry (suc n) = Shape (Geometry n)
