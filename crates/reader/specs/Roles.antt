-- What a record says in a role, and by its walk.
use Rattle.std.specs.Prelude.{Result, false, ℕ, zero, suc}
use Rattle.std.proofs.Common.{Ok, Err}
use Rattle.std.proofs.Math.Option.{Option}
use Rattle.laws.specs.Script.{Script, stop}
use Rattle.kinds.specs.declared.event.Event.{Event}
use Rattle.kinds.specs.declared.refusal.Refusal.{Refusal}
use Rattle.kinds.specs.Refusal.{number_of}
use Rattle.kinds.specs.GeometryType.{number}
use Rattle.kinds.specs.declared.flags.Flags.{Flags}
use Rattle.store.specs.Lists.{Rec}
use Rattle.coords.specs.Coords.{coords_of}
use Rattle.lines.specs.Lines.{or_none, polygon_s}
use Rattle.own_lists.specs.Own.{own_s}
use Rattle.walks.specs.declared.walk.Role.{Role}
use Rattle.walks.specs.declared.walk.Role.TheVariants.{Geometry as AnyGeometry, Polygon as AsPolygon, Curve}
use Rattle.walks.specs.declared.walk.Walk.{Walk}
use Rattle.walks.specs.declared.walk.Walk.TheVariants.{Own, Parts}
use Rattle.reader.specs.Reading.{span_s, found, curve_of, curve_s, geometry_s}

module _ (F : Flags) where
  unfoldable pub in_role : Role → ℕ → (ℕ → Option Rec) → Rec → ℕ → Script Event
  in_role AnyGeometry left get p i = geometry_s F left get p p.kind i
  in_role AsPolygon left get p i = polygon_s F p false i
  in_role (Curve above) left get p i = curve_of F (curve_s F left get) above p i

  unfoldable pub part_s : Role → ℕ → (ℕ → Option Rec) → ℕ → ℕ → Script Event
  part_s role zero get n i = stop 13
  part_s role (suc left) get n i = found (get n) (λ p. in_role role left get p i)

  unfoldable pub walk_s : ℕ → (ℕ → Option Rec) → Rec → Walk → ℕ → Script Event
  walk_s left get r (Own own) idx = own_s own (coords_of F r) (or_none r.ends) idx
  walk_s left get r (Parts type role) idx = span_s (part_s role left get) r.parts (number type) idx

  -- a walk, or why there is none
  abbrev pub walked : ℕ → (ℕ → Option Rec) → Rec → Result Walk Refusal → ℕ → Script Event
  walked left get r (Ok walk) idx = walk_s left get r walk idx
  walked left get r (Err refusal) idx = stop (number_of refusal)
