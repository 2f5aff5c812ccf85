-- SPEC 2.6: column types, by the numbers of header.fbs.
use Rattle.std.specs.Prelude.{Option, Some, None, ◌≡◌, ◌≤◌, ◌<◌, Bool, cond, ◌&&◌, ◌||◌, ℕ, leb, eqb}

-- how many bytes a number has; 0 for the types that have a length first, and for no type
unfoldable pub width_of : ℕ → ℕ
width_of kind =
    cond (leb kind 2) 1
    (cond (leb kind 4) 2
    (cond (leb kind 6 || eqb kind 9) 4
    (cond (leb kind 8 || eqb kind 10) 8 0)))

-- the widths that a number may have
unfoldable pub is_width : ℕ → Bool
is_width width = eqb width 1 || eqb width 2 || eqb width 4 || eqb width 8

-- a number's width, and none of a type that has a length first
abbrev pub WidthIs : ℕ → Option ℕ → Type 0
WidthIs kind None = 11 ≤ kind
WidthIs kind (Some width) = (kind < 11) × (width ≡ width_of kind)

-- text types are checked UTF-8; Binary is not
unfoldable pub is_text : ℕ → Bool
is_text kind = leb 11 kind && leb kind 13
