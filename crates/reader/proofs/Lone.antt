-- A part that is read as a polygon, where its record has an xy list and no other and no flag is set.
use Rattle.std.specs.Prelude.{◌≡◌, refl, Some, List, [], ℕ, ◌+◌, ◌-◌, length, take, drop}
use Rattle.std.proofs.Math.Path.{ap}
use Rattle.std.proofs.Common.{Ok, subst, ◌∙◌}
use Rattle.std.proofs.Math.Bool.{false}
use native.Mathlib.Omega.{arith}
use Rattle.kinds.specs.Geometry.{Span, lone_geometry}
use Rattle.kinds.specs.declared.geometry.Stretch.{Stretch}
use Rattle.kinds.specs.declared.flags.Flags.{Flags}
use Rattle.store.specs.Lists.{Rec, Pools, lent_of, lists_of, record_with, with_good}
use Rattle.coords.specs.Coords.{Coords}
use Rattle.lines.specs.Lines.{stretches_s}
use Rattle.own_lists.specs.Own.{own_s}
use Rattle.lone_ring.specs.Lone.{lone_coords, lone_coords_lem}
use Rattle.walks.specs.declared.walk.Role.{Role}
use Rattle.walks.specs.declared.walk.Role.TheVariants.{Polygon as AsPolygon}
use Rattle.walks.specs.Walks.{WalkIn}
use Rattle.walks.specs.Lone.{LonePart}
use Rattle.walks.specs.declared.walk.Walk.TheVariants.{Own}
use Rattle.own_lists.specs.declared.own.Own.TheVariants.{Polygon}
use Rattle.reader.specs.Roles.{part_s, walk_s}
use Rattle.reader.proofs.RoleLaws.{part_good}

as_polygon : (kind : ℕ) {role : Role} → role ≡ AsPolygon → WalkIn role kind (Ok (Own (Polygon false)))
as_polygon kind h = rw h

module _ (F : Flags) (role : Role) (table : List ℕ) (P : Pools) (n : ℕ) {s : Stretch} {part : Span}
    (h : LonePart F role table (length P.xy) n part) (e : part ≡ Some s) where
  lone : LonePart F role table (length P.xy) n (Some s)
  lone = subst (LonePart F role table (length P.xy) n) e h

  -- the part is the polygon whose one ring is its list
  pub part_lone : (left i : ℕ) → (left ≡ 0 → ⊥) → part_s F role left (record_with table P) n i ≡ stretches_s 3 false i (lone_coords (take (s.start + s.count - s.start) (drop s.start P.xy))) []
  unfolding walk_s own_s
  part_lone left i deep =
      let r : Rec = lists_of P (lone_geometry lone.2.kind s.start s.count) in
      let k : s.start + s.count - s.start ≡ s.count = omega arith in
      part_good F role left (record_with table P) n i deep r (with_good table P n (lone_geometry lone.2.kind s.start s.count) (lone.2.reads (lent_of P) refl)) (Ok (Own (Polygon false))) (as_polygon lone.2.kind lone.0)
      ∙ ap (λ (C : Coords). stretches_s 3 false i C []) (lone_coords_lem F P lone.2.kind s.start s.count lone.1)
      ∙ rw k
