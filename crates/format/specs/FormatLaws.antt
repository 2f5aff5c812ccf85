-- What follows from a table's meaning about its lists.
use Rattle.std.specs.Prelude.{◌≡◌, refl, Bool, true, false, List, [], ◌∷◌, ◌++◌, map, ℕ, suc, ◌+◌, ◌*◌, ◌/◌, ◌≤◌, length, leb}
use Rattle.std.proofs.Common.{ap, arith}
use Rattle.std.proofs.Math.Option.{Option, none, some}
use Rattle.laws.specs.Every.{never}
use Rattle.coords.specs.Coords.{tail_of, drop_o, seen}
use Rattle.lines.specs.Lines.{single}
use Rattle.geometries.specs.Geometry.{Coord, Line}
use Rattle.geometries.specs.Events.{shown}
use Rattle.format.specs.Format.{xy_of, values_of, ByCoord, ends_from, Ends}

-- ---- xy
pub xy_length : (cs : List Coord) → length (xy_of cs) ≡ 2 * length cs
xy_length [] = refl
xy_length (c ∷ cs) = omega (arith, xy_length cs)

pub half : (cs : List Coord) → length (xy_of cs) / 2 ≡ length cs
half cs = omega (arith, xy_length cs)

pub xy_append : (ps qs : List Coord) → xy_of (ps ++ qs) ≡ xy_of ps ++ xy_of qs
xy_append [] qs = refl
xy_append (p ∷ ps) qs = ap (λ (l : List ℕ). p.x ∷ p.y ∷ l) (xy_append ps qs)

-- ---- a flat array by coordinate
abbrev pub first_of : Option (List ℕ) → Option ℕ
first_of none = none
first_of (some []) = none
first_of (some (v ∷ vs)) = some v

pub lane_first : {f : Coord → Option ℕ} {o : Option (List ℕ)} {c : Coord} {cs : List Coord} → ByCoord o f (c ∷ cs) → f c ≡ first_of o
lane_first {f} {o} {c} {cs} h = go o h.is
  where
    go : (o : Option (List ℕ)) → map f (c ∷ cs) ≡ values_of o (c ∷ cs) → f c ≡ first_of o
    go none h = cc
    go (some []) h = cc
    go (some (v ∷ vs)) h = cc

-- a list that is there has a value for the first coordinate
pub lane_there : {f : Coord → Option ℕ} {c : Coord} {cs : List Coord} → ByCoord (some []) f (c ∷ cs) → ⊥
lane_there h = let e = h.is in never (cc)

pub lane_rest : {f : Coord → Option ℕ} {o : Option (List ℕ)} {c : Coord} {cs : List Coord} → ByCoord o f (c ∷ cs) → ByCoord (tail_of o) f cs
lane_rest {f} {o} {c} {cs} h = record { is = go o h.is }
  where
    go : (o : Option (List ℕ)) → map f (c ∷ cs) ≡ values_of o (c ∷ cs) → map f cs ≡ values_of (tail_of o) cs
    go none h = cc
    go (some []) h = absurd (never (cc))
    go (some (v ∷ vs)) h = cc

pub lane_drop : {f : Coord → Option ℕ} {o : Option (List ℕ)} (qs : List Coord) {cs : List Coord} → ByCoord o f (qs ++ cs) → ByCoord (drop_o (length qs) o) f cs
lane_drop {f} {o} qs {cs} h = record { is = go o qs h.is }
  where
    go : (o : Option (List ℕ)) (qs : List Coord) → map f (qs ++ cs) ≡ values_of o (qs ++ cs) → map f cs ≡ values_of (drop_o (length qs) o) cs
    go none [] h = h
    go none (q ∷ qs) h = go none qs (cc)
    go (some vs) [] h = h
    go (some []) (q ∷ qs) h = absurd (never (cc))
    go (some (v ∷ vs)) (q ∷ qs) h = go (some vs) qs (cc)

pub lane_seen : (b : Bool) {f : Coord → Option ℕ} {o : Option (List ℕ)} {cs : List Coord} → ByCoord o f cs → ByCoord (seen b o) (λ c. shown b (f c)) cs
lane_seen true h = h
lane_seen false h = record { is = refl }

-- ---- ends
pub ends-length : (n : ℕ) (ls : List Line) → length (ends_from n ls) ≡ length ls
ends-length n [] = refl
ends-length n (l ∷ ls) = ap suc (ends-length (n + length l) ls)

-- at most one end and one line; or an end for each of several
pub data Cut (es : List ℕ) (ls : List Line) : Type 0 where
  whole : (l : Line) → ls ≡ l ∷ [] → single es ≡ true → Cut es ls
  split : es ≡ ends_from 0 ls → 2 ≤ length ls → Cut es ls

pub cut : (es : List ℕ) (ls : List Line) → Ends es ls → Cut es ls
cut [] [] h = absurd (omega arith)
cut [] (l ∷ []) h = whole l refl refl
cut [] (l ∷ l' ∷ ls) h = absurd (omega arith)
cut (e ∷ es) [] h = absurd (never (cc))
cut (e ∷ es) (l ∷ []) h = whole l refl (ap (λ (x : List ℕ). leb (length x) 1) h)
cut (e ∷ es) (l ∷ l' ∷ ls) h = split h (omega arith)
