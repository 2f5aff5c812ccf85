-- What the writer makes of a geometry's events means that geometry.
use Rattle.std.specs.Prelude.{◌≡◌, Some as Set, Bool, cond, ◌&&◌, ◌||◌, ℕ, length, eqb}
use Rattle.std.proofs.Math.Path.{refl}
use Rattle.std.proofs.Common.{◌∙◌, eq-eqb}
use Rattle.std.proofs.Math.Bool.{true, false}
use mathlib.Core.List.{List, [], ◌∷◌, map}
use Rattle.std.proofs.Math.Option.{Option, some}
use Rattle.kinds.specs.Event.{begin_e}
use Rattle.store.specs.Lists.{Rec}
use Rattle.asking.specs.declared.typing.Typing.{Typing}
use Rattle.asking.specs.SetType.{typing, typed_number, unknown_type, collected, set_type}
use Rattle.asking.specs.Ask.{begun}
use Rattle.writer_model.specs.Writer.{Writer, fresh, typed_to, after, nay, finish, tree, next}
use Rattle.writer_model.specs.Tree.{Holds}
use Rattle.geometries.specs.Geometry.{Simple, point, line_string, polygon, multi_point, multi_line_string, multi_polygon, circular_string, compound_curve, curve_polygon, multi_curve, multi_surface, polyhedral_surface, tin, triangle, type_of}
use Rattle.geometries.specs.Events.{begins}
use Rattle.format.specs.Format.{joined, ends_from}
use Rattle.format.specs.Writable.{Some, Held, coords, lines, polygons}
use Rattle.format.specs.Tables.{rings_table, root_table}
use Rattle.format.specs.Amid.{amid}

-- ---- a writer between features; a fresh one is such
abbrev pub normal : ℕ → ℕ → Bool → Bool → Typing
normal declared current detect promote = typing declared detect promote current 0

abbrev pub resting : Typing → Writer
resting h = amid h [] [] []

pub fresh_rests : (d : ℕ) (detect promote : Bool) → fresh d detect promote ≡ resting (normal d 0 detect promote)
unfolding fresh amid
fresh_rests d detect promote = refl

-- ---- the end of a geometry's events
module _ (h : Typing) where
  abbrev pub ending : Held → Writer
  ending (coords cs) = amid h cs [] []
  ending (lines ls) = amid h (joined ls) (ends_from 0 ls) []
  ending (polygons ps) = amid h [] [] (map (rings_table h.current) ps)

  pub parts-typing : (rs : List Rec) → (amid h [] [] rs).typing ≡ h
  unfolding amid
  parts-typing rs = refl

  pub ending-typing : (k : Held) → (ending k).typing ≡ h
  unfolding amid
  ending-typing (coords cs) = refl
  ending-typing (lines ls) = refl
  ending-typing (polygons ps) = refl

  pub parts-rest : (rs : List Rec) → next (finish (amid h [] [] rs)) ≡ resting h
  unfolding amid finish next
  parts-rest [] = refl
  parts-rest (r ∷ rs) = refl

  pub ending_rests : (k : Held) → next (finish (ending k)) ≡ resting h
  ending_rests (coords cs) = unfold amid finish next in refl
  ending_rests (lines ls) = unfold amid finish next in refl
  ending_rests (polygons ps) = parts-rest (map (rings_table h.current) ps)

  pub parts-root : (get : ℕ → Option Rec) (rs : List Rec) → Some rs → Holds get 0 (tree (amid h [] [] rs)) → (get 0 ≡ some (root_table h.current (length rs))) × Holds get 1 rs
  unfolding amid
  parts-root get [] s o = absurd s
  parts-root get (r ∷ rs) s o = o

-- ---- the first event sets the type
module _ (h : Typing) where
  pub record First (s : Simple) : Type 0 where
    pub set : after (resting h) (begins s) ≡ typed_to (resting h) (set_type h (type_of s))
    pub refused : nay (resting h) (begins s) ≡ typed_number (set_type h (type_of s))
    pub known : eqb (type_of s) 0 ≡ false

  pub on_first : (s : Simple) → First s
  unfolding after nay amid begin_e begun
  on_first (point p) = record { set = refl; refused = refl; known = refl }
  on_first (line_string l) = record { set = refl; refused = refl; known = refl }
  on_first (polygon rs) = record { set = refl; refused = refl; known = refl }
  on_first (multi_point cs) = record { set = refl; refused = refl; known = refl }
  on_first (multi_line_string ls) = record { set = refl; refused = refl; known = refl }
  on_first (multi_polygon ps) = record { set = refl; refused = refl; known = refl }
  on_first (circular_string l) = record { set = refl; refused = refl; known = refl }
  on_first (compound_curve ss) = record { set = refl; refused = refl; known = refl }
  on_first (curve_polygon cs) = record { set = refl; refused = refl; known = refl }
  on_first (multi_curve cs) = record { set = refl; refused = refl; known = refl }
  on_first (multi_surface ss) = record { set = refl; refused = refl; known = refl }
  on_first (polyhedral_surface ps) = record { set = refl; refused = refl; known = refl }
  on_first (tin ts) = record { set = refl; refused = refl; known = refl }
  on_first (triangle l) = record { set = refl; refused = refl; known = refl }

set_same : (type c : ℕ) (detect promote : Bool) → set_type (normal type c detect promote) type ≡ Set (normal type c detect promote)
unfolding set_type
set_same type c detect promote = rw (eq-eqb type type refl)

set_unknown : (type c : ℕ) (detect promote : Bool) → eqb type 0 ≡ false → (promote && (eqb type 2 || eqb type 3)) ≡ false → set_type (normal 0 c detect promote) type ≡ Set (normal (cond detect type 0) (cond detect c type) detect promote)
unfolding set_type unknown_type collected
set_unknown type c true promote e f = rw (e, f)
set_unknown type c false promote e f = rw (e, f)

-- a LineString or Polygon
abbrev pub liftable : ℕ → Bool
liftable type = eqb type 2 || eqb type 3

-- the geometry's type is declared, or none is and it is not promoted
pub data Starts (d : ℕ) (promote : Bool) (s : Simple) : Type 0 where
  declared : d ≡ type_of s → Starts d promote s
  unknown : d ≡ 0 → (promote && liftable (type_of s)) ≡ false → Starts d promote s

-- what is declared after a geometry of a type
abbrev pub then_declared : ℕ → Bool → ℕ → ℕ
then_declared d detect type = cond (eqb d 0) (cond detect type 0) d

-- a type that is declared or current is the geometry's
pub record Typed (d c : ℕ) (detect promote : Bool) (s : Simple) : Type 0 where
  pub current : ℕ
  pub begun : after (resting (normal d c detect promote)) (begins s) ≡ resting (normal (then_declared d detect (type_of s)) current detect promote)
  pub type : cond (eqb (then_declared d detect (type_of s)) 0) current (then_declared d detect (type_of s)) ≡ type_of s

pub starts : (d c : ℕ) (detect promote : Bool) (s : Simple) → Starts d promote s → Typed d c detect promote s
unfolding amid
starts d c detect promote s (declared e) =
    let f = on_first (normal d c detect promote) s in
    record { current = c; begun = f.set ∙ rw (e, f.known, set_same (type_of s) c detect promote); type = rw (e, f.known, f.known) }
starts d c detect promote s (unknown e p) =
    let f = on_first (normal d c detect promote) s in
    record { current = cond detect c (type_of s); begun = f.set ∙ rw (e, set_unknown (type_of s) c detect promote f.known p); type = rw e (go detect) }
  where
    go : (detect : Bool) → cond (eqb (cond detect (type_of s) 0) 0) (cond detect c (type_of s)) (cond detect (type_of s) 0) ≡ type_of s
    go true = rw (on_first (normal d c true promote) s).known
    go false = refl
