-- A geometry whose first event is not refused is kept: as itself, or promoted.
use Rattle.std.specs.Prelude.{◌≡◌, refl, Bool, true, false, cond, ◌&&◌, [], ◌∷◌, ℕ, ◌+◌, eqb, Some, None}
use Rattle.std.proofs.Common.{sym, ◌∙◌, arith, eqb-true}
use Rattle.laws.specs.Every.{never, both}
use Rattle.kinds.specs.declared.flags.Flags.{Flags}
use Rattle.asking.specs.declared.typing.Typing.{Typing}
use Rattle.asking.specs.SetType.{typed_number, set_type}
use Rattle.writer_model.specs.Writer.{nay}
use Rattle.geometries.specs.Geometry.{Simple, multi_line_string, multi_polygon, simple, Geometry, type_of}
use Rattle.geometries.specs.Events.{begins}
use Rattle.format.specs.Writable.{Held, lines, polygons, Writable, a_point, a_line, a_polygon, many_points, many_lines, many_polygons, an_arc, a_surface, a_tin, a_triangle}
use Rattle.format.specs.Writes.{normal, resting, on_first, liftable, declared, unknown}
use Rattle.format.specs.Promoted.{line, rings}
use Rattle.format.specs.Rows.{Keeps, itself, multi}

data OneOf (a b c : Bool) : Type 0 where
  one : a ≡ true → OneOf a b c
  two : b ≡ true → OneOf a b c
  three : c ≡ true → OneOf a b c

set-by : (a b p l : Bool) (x y z u : Typing) → typed_number (cond a (Some x) (cond b (Some y) (cond (p && false) (Some z) (cond l (Some u) None)))) ≡ 0 → OneOf a b l
set-by true b p l x y z u h = one refl
set-by false true p l x y z u h = two refl
set-by false false p true x y z u h = three refl
set-by false false true false x y z u h = absurd (omega arith)
set-by false false false false x y z u h = absurd (omega arith)

-- how set_type takes a type between features
taken-by : (d c : ℕ) (detect promote : Bool) (type : ℕ) → typed_number (set_type (normal d c detect promote) type) ≡ 0 → OneOf (eqb type d) (eqb d 0) (promote && liftable type && eqb d (type + 3) && true)
unfolding set_type
taken-by d c detect promote type h = set-by (eqb type d) (eqb d 0) (eqb d 7) (promote && liftable type && eqb d (type + 3) && true) _ _ _ _ h

pub record Kept (F : Flags) (d : ℕ) (detect promote : Bool) (s : Simple) : Type 0 where
  pub as_is : Geometry 1
  pub keeps : Keeps F d detect promote (simple s) as_is

module _ (F : Flags) (d : ℕ) (detect promote : Bool) where
  no_lift : {A : Type 0} → (promote && false) ≡ true → A
  no_lift h = absurd (never (both promote false h).1)

  -- only a LineString and a Polygon are promoted
  lift : (s : Simple) (k : Held) (known : Bool) → Writable F s k → (promote && liftable (type_of s)) ≡ true → d ≡ cond known (type_of s + 3) 0 → Kept F d detect promote s
  lift s k known (a_point c q) h e = no_lift h
  lift s k known (a_line l q) h e = record { as_is = simple (multi_line_string (l ∷ [])); keeps = multi s _ (lines (l ∷ [])) known e (both promote true h).0 (line l q) }
  lift s k known (a_polygon rs q) h e = record { as_is = simple (multi_polygon (rs ∷ [])); keeps = multi s _ (polygons (rs ∷ [])) known e (both promote true h).0 (rings rs q) }
  lift s k known (many_points cs q) h e = no_lift h
  lift s k known (many_lines ls q) h e = no_lift h
  lift s k known (many_polygons ps s' q) h e = no_lift h
  lift s k known (an_arc l q) h e = no_lift h
  lift s k known (a_surface ps s' q) h e = no_lift h
  lift s k known (a_tin ts q) h e = no_lift h
  lift s k known (a_triangle l q) h e = no_lift h

  pub accepted : (c : ℕ) (s : Simple) (k : Held) → Writable F s k → nay (resting (normal d c detect promote)) (begins s) ≡ 0 → Kept F d detect promote s
  accepted c s k q h = go (taken-by d c detect promote (type_of s) (sym (on_first (normal d c detect promote) s).refused ∙ h))
    where
      unknown_type_lem : (b : Bool) → (promote && liftable (type_of s)) ≡ b → d ≡ 0 → Kept F d detect promote s
      unknown_type_lem true l e = lift s k false q l e
      unknown_type_lem false l e = record { as_is = simple s; keeps = itself s k (unknown e l) q }

      go : OneOf (eqb (type_of s) d) (eqb d 0) (promote && liftable (type_of s) && eqb d (type_of s + 3) && true) → Kept F d detect promote s
      go (one e) = record { as_is = simple s; keeps = itself s k (declared (sym (eqb-true (type_of s) d e))) q }
      go (two e) = unknown_type_lem (promote && liftable (type_of s)) refl (eqb-true d 0 e)
      go (three e) =
          let b = both (promote && liftable (type_of s)) (eqb d (type_of s + 3)) (both _ true e).0 in
          lift s k true q b.0 (eqb-true d (type_of s + 3) b.1)
