-- Trees that mean nothing.
use Rattle.std.specs.Prelude.{◌≡◌, false, List, [], ◌∷◌, map, ℕ, zero, suc, ◌*◌, length, eqb}
use Rattle.std.proofs.Common.{sym, ap, ◌∙◌, subst, arith}
use Rattle.std.proofs.Math.Option.{Option, some}
use Rattle.std.proofs.Math.ListN.{get_elem?}
use Rattle.std.proofs.lemmas.List.{length-map}
use Rattle.std.proofs.lemmas.Bool.{eqb-false}
use Rattle.laws.specs.Script.{Script, stop, say}
use Rattle.store.specs.Lists.{Rec}
use Rattle.geometries.specs.Geometry.{Coord, Simple, simple, collection, Geometry}
use Rattle.format.specs.Format.{xy_of, Coords, Each, Parts, Is, Means, Tree}
use Rattle.format.specs.FormatLaws.{xy_length}
use Rattle.format.specs.Once.{OfType, as_type}

-- ---- what the reader refuses means nothing, but for what `agrees` and the levels ask
abbrev pub Refused : {A : Type 0} → Script A → Type 0
Refused (stop zero) = ⊥
Refused (stop (suc c)) = Unit {0}
Refused (say a s) = Refused s

-- ---- a tree of a type that is no collection's: no geometry of the type is its root
abbrev pub Meaningless : List Rec → ℕ → Type 0
Meaningless recs type = (n : ℕ) (g : Geometry n) → Tree (get_elem? recs) n type g → ⊥

module _ (r : Rec) (rest : List Rec) (type : ℕ) (known : eqb type 0 ≡ false) (one : eqb type 7 ≡ false) where
  abbrev get : ℕ → Option Rec
  get = get_elem? (r ∷ rest)

  pub meaningless : ((s : Simple) → OfType type s → Is get r s → ⊥) → Meaningless (r ∷ rest) type
  meaningless none n g t = go n g (rw known at (rw root_is at t.means))
    where
      root_is : t.root ≡ r
      root_is = let e : some t.root ≡ some r = sym t.has in cc

      go : (n : ℕ) (g : Geometry n) → Means get n type r g → ⊥
      go zero s m = none s (as_type type s m.0) m.1
      go (suc n) (simple s) m = none s (as_type type s m.0) m.1
      go (suc n) (collection gs) m = eqb-false type 7 one m.0

-- ---- what lists must keep
-- the last end is the number of coordinates
abbrev pub last_end : ℕ → List ℕ → ℕ
last_end n [] = n
last_end n (e ∷ es) = last_end e es

-- a height for each coordinate
pub heights-count : (r : Rec) (cs : List Coord) (xy zs : List ℕ) → r.xy ≡ some xy → r.z ≡ some zs → Coords r cs → length xy ≡ 2 * length zs
heights-count r cs xy zs a b h =
    let q : some xy ≡ some (xy_of cs) = sym a ∙ h.xy in
    let p : xy ≡ xy_of cs = cc in
    let f : map (λ (c : Coord). c.z) cs ≡ map some zs = rw b at h.z.is in
    omega (arith, ap (λ (l : List ℕ). length l) p, xy_length cs, ap (λ (l : List (Option ℕ)). length l) f, length-map cs (λ (c : Coord). c.z), length-map zs (λ (v : ℕ). some v))

-- an only part means one element
pub only_part : {A : Type 0} (M : Rec → A → Type 0) (r p : Rec) (xs : List A) → r.parts ≡ some (1, 1) → Parts (get_elem? (r ∷ p ∷ [])) M r xs → (a : A) × M p a
only_part {A} M r p xs e h =
    let f : ◌≡◌ {A = Option (ℕ × ℕ)} (some (1, 1)) (some (h.from, length xs)) = sym e ∙ h.parts in
    let b : ◌≡◌ {A = ℕ × ℕ} (1, 1) (h.from, length xs) = cc in
    go xs h.from (sym (ap (λ (q : ℕ × ℕ). q.0) b)) (ap (λ (q : ℕ × ℕ). q.1) b) h.each
  where
    go : (xs : List A) (n : ℕ) → n ≡ 1 → 1 ≡ length xs → Each (get_elem? (r ∷ p ∷ [])) M n xs → (a : A) × M p a
    go [] n e l h = absurd (omega arith)
    go (a ∷ xs) n e l h =
        let f : some p ≡ some h.0.0 = rw e at h.0.1 in
        let q : h.0.0 ≡ p = cc in
        (a, subst (λ (x : Rec). M x a) q h.0.2)
