-- SPEC 6.8, 6.9, the Rust's set_type: for every declared byte, detect, promote, mode and type. Mode 0 is Normal, 1 GeometryCollection, 2 ForceMulti.
use Rattle.std.specs.Prelude.{Bool, cond, not, ◌&&◌, ◌||◌, ℕ, ◌+◌, eqb, Option, Some, None}
use Rattle.asking.specs.declared.typing.Typing.{Typing}

abbrev pub typing : ℕ → Bool → Bool → ℕ → ℕ → Typing
typing declared detect promote current mode = record { declared = declared; detect = detect; promote = promote; current = current; mode = mode }

-- the typing after a type was set; none where the type does not go with the declared one
abbrev pub Typed : Type 0
Typed = Option Typing

-- the number for each case: done, or 5 (SPEC 6.8)
abbrev pub typed_number : Typed → ℕ
typed_number (Some h) = 0
typed_number None = 5

abbrev pub with_declared : Typing → ℕ → Typing
with_declared h declared = record { declared = declared; detect = h.detect; promote = h.promote; current = h.current; mode = h.mode }

abbrev pub with_current : Typing → ℕ → Typing
with_current h current = record { declared = h.declared; detect = h.detect; promote = h.promote; current = current; mode = h.mode }

abbrev pub with_mode : Typing → ℕ → Typing
with_mode h mode = record { declared = h.declared; detect = h.detect; promote = h.promote; current = h.current; mode = mode }

-- a LineString (2) or a Polygon (3) that is to be made multi; its multi type's number is 3 higher
abbrev pub promoted : Typing → ℕ → Bool
promoted h type = h.promote && (eqb type 2 || eqb type 3)

-- the declared type is replaced by the first that is detected, but not by what stands inside a collection
abbrev pub detected : Typing → ℕ → Typing
detected h type = cond (not (eqb h.mode 1) || eqb type 7) (with_declared h type) h

abbrev pub detected_or : Typing → ℕ → Typing
detected_or h type = cond h.detect (detected h type) (with_current h type)

-- nothing is declared
unfoldable pub unknown_type : Typing → ℕ → Typing
unknown_type h type = cond (promoted h type) (detected_or (with_mode h 2) (type + 3)) (detected_or h type)

-- inside a collection the current type is the part's
unfoldable pub collected : Typing → ℕ → Typing
collected h type = cond (eqb h.mode 1) (with_current h type) h

-- a declared MultiLineString (5) takes a LineString, a declared MultiPolygon (6) a Polygon, but not inside a collection
abbrev pub lifts : Typing → ℕ → Bool
lifts h type = promoted h type && eqb h.declared (type + 3) && not (eqb h.mode 1)

unfoldable pub set_type : Typing → ℕ → Typed
set_type h type =
    cond (eqb type h.declared) (Some h)
    (cond (eqb h.declared 0) (Some (collected (unknown_type h type) type))
    (cond (eqb h.declared 7 && eqb h.mode 1) (Some (with_current h type))
    (cond (lifts h type) (Some (with_mode h 2)) None)))
