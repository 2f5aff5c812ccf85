-- The tables that the writer makes mean what was written.
use Rattle.std.specs.Prelude.{◌≡◌, Bool, true, false, cond, ℕ, ◌+◌, length, leb}
use Rattle.std.proofs.Math.Path.{refl}
use Rattle.std.proofs.Common.{ap, arith}
use mathlib.Core.List.{List, [], ◌∷◌, ◌++◌, map}
use Rattle.std.proofs.Math.Option.{Option, none, some}
use Rattle.std.proofs.lemmas.Bool.{lt-leb}
use Rattle.laws.specs.Every.{never}
use Rattle.kinds.specs.declared.flags.Flags.{Flags}
use Rattle.store.specs.Lists.{Rec}
use Rattle.geometries.specs.Coordinate.{is}
use Rattle.writer_model.specs.Writer.{longer}
use Rattle.writer_model.specs.Tree.{Holds}
use Rattle.geometries.specs.Geometry.{Coord, Line, Rings}
use Rattle.format.specs.Format.{xy_of, values_of, ByCoord, Coords, joined, ends_from, Each}
use Rattle.format.specs.Writable.{All, Has}

-- ---- the values that coordinates have
abbrev pub listed : Option ℕ → List ℕ
listed none = []
listed (some v) = v ∷ []

abbrev pub vals : (Coord → Option ℕ) → List Coord → List ℕ
vals f [] = []
vals f (c ∷ cs) = listed (f c) ++ vals f cs

-- ---- a table of coordinates and ends, of a stored type
unfoldable pub table_of : ℕ → List Coord → List ℕ → Rec
table_of type cs es = record { kind = type; xy = some (xy_of cs); ends = longer 1 es; z = longer 0 (vals (λ c. c.z) cs); m = longer 0 (vals (λ c. c.m) cs); t = longer 0 (vals (λ c. c.t) cs); tm = longer 0 (vals (λ c. c.tm) cs); parts = none }

-- a table of rings, or of lines
abbrev pub rings_table : ℕ → Rings → Rec
rings_table type rs = table_of type (joined rs) (ends_from 0 rs)

-- a root over parts
abbrev pub root_table : ℕ → ℕ → Rec
root_table type n = record { kind = type; xy = none; ends = none; z = none; m = none; t = none; tm = none; parts = some (1, n) }

-- ---- what they mean
pub is_none : (o : Option ℕ) → is o ≡ false → o ≡ none
is_none none e = refl
is_none (some v) e = absurd (never (cc))

lane_none : (f : Coord → Option ℕ) (cs : List Coord) → All (λ c. is (f c) ≡ false) cs → (vals f cs ≡ []) × (map f cs ≡ map (λ c. none) cs)
lane_none f [] q = (refl, refl)
lane_none f (c ∷ cs) q =
    let e : f c ≡ none = is_none _ q.0 in
    let r = lane_none f cs q.1 in
    (rw (e, r.0), rw (e, r.1))

lane_some : (f : Coord → Option ℕ) (cs : List Coord) → All (λ c. is (f c) ≡ true) cs → map f cs ≡ map some (vals f cs)
lane_some f [] q = refl
lane_some f (c ∷ cs) q = go (f c) q.0 (lane_some f cs q.1)
  where
    go : (o : Option ℕ) → is o ≡ true → map f cs ≡ map some (vals f cs) → o ∷ map f cs ≡ map some (listed o ++ vals f cs)
    go none e r = absurd (never (cc))
    go (some v) e r = ap (λ (l : List (Option ℕ)). some v ∷ l) r

no_coords : (f : Coord → Option ℕ) (cs : List Coord) → map f cs ≡ [] → map f cs ≡ map (λ c. none) cs
no_coords f [] e = refl
no_coords f (c ∷ cs) e = absurd (never (cc))

lane_kept : (b : Bool) (f : Coord → Option ℕ) (cs : List Coord) → All (λ c. is (f c) ≡ b) cs → ByCoord (longer 0 (vals f cs)) f cs
unfolding longer
lane_kept false f cs q = let r = lane_none f cs q in record { is = rw r.0 r.1 }
lane_kept true f cs q = record { is = go (vals f cs) (lane_some f cs q) }
  where
    go : (vs : List ℕ) → map f cs ≡ map some vs → map f cs ≡ values_of (cond (leb (length vs) 0) none (some vs)) cs
    go [] e = no_coords f cs e
    go (v ∷ vs) e = rw (lt-leb (length (v ∷ vs)) 0 (omega arith)) e

all_map : {A : Type 0} (P Q : A → Type 0) → ((a : A) → P a → Q a) → (xs : List A) → All P xs → All Q xs
all_map P Q f [] q = tt
all_map P Q f (a ∷ xs) q = (f a q.0, all_map P Q f xs q.1)

all_append : {A : Type 0} (P : A → Type 0) (xs ys : List A) → All P xs → All P ys → All P (xs ++ ys)
all_append P [] ys p q = q
all_append P (x ∷ xs) ys p q = (p.0, all_append P xs ys p.1 q)

pub all-joined : (P : Coord → Type 0) (ls : List Line) → All (All P) ls → All P (joined ls)
all-joined P [] q = tt
all-joined P (l ∷ ls) q = all_append P l (joined ls) q.0 (all-joined P ls q.1)

module _ (F : Flags) (type : ℕ) where
  pub table_coords : (cs : List Coord) (es : List ℕ) → All (Has F) cs → Coords (table_of type cs es) cs
  unfolding table_of
  table_coords cs es q = record {
    xy = refl;
    z = lane_kept F.z (λ c. c.z) cs (all_map (Has F) _ (λ c h. h.z) cs q);
    m = lane_kept F.m (λ c. c.m) cs (all_map (Has F) _ (λ c h. h.m) cs q);
    t = lane_kept F.t (λ c. c.t) cs (all_map (Has F) _ (λ c h. h.t) cs q);
    tm = lane_kept F.tm (λ c. c.tm) cs (all_map (Has F) _ (λ c h. h.tm) cs q);
  }

-- parts that stand one after another
pub parts_are : {A : Type 0} (M : Rec → A → Type 0) (P : A → Type 0) (table : A → Rec) → ((a : A) → P a → M (table a) a) → (get : ℕ → Option Rec) (xs : List A) (n : ℕ) → All P xs → Holds get n (map table xs) → Each get M n xs
parts_are M P table f get [] n q h = tt
parts_are M P table f get (a ∷ xs) n q h = ((table a, h.0, f a q.0), parts_are M P table f get xs (n + 1) q.1 h.1)
