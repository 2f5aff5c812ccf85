-- A geometry of any depth, and a collection of such.
use Rattle.std.specs.Prelude.{◌≡◌, refl, List, [], ◌∷◌, map, ℕ, zero, suc, max, ◌≤◌}
use Rattle.std.proofs.Common.{sym, ap, ◌∙◌, arith}
use Rattle.planar.specs.Geometry.{Simple, multi_point, simple, collection, Geometry}

pub record Any : Type 0 where
  pub n : ℕ
  pub geometry : Geometry n

abbrev pub any : (n : ℕ) → Geometry n → Any
any n g = record { n = n; geometry = g }

-- A geometry as one of another depth, so that members of several depths can stand in one list. Where it is too deep for that depth something
-- else has to stand there, and nothing is said of it.
abbrev pub raise : (m n : ℕ) → Geometry m → Geometry n
raise zero zero s = s
raise zero (suc n) s = simple s
raise (suc m) zero g = multi_point []
raise (suc m) (suc n) (simple s) = simple s
raise (suc m) (suc n) (collection gs) = collection (map (raise m n) gs)

abbrev pub deepest : List Any → ℕ
deepest [] = 0
deepest (a ∷ xs) = max a.n (deepest xs)

abbrev pub collect : List Any → Any
collect xs = any (suc (deepest xs)) (collection (map (λ a. raise a.n (deepest xs) a.geometry) xs))

-- What goes by a geometry's shape alone: a simple one comes to the same at every depth, and a collection to what `together` makes of what its
-- members come to.
pub record ByShape {ℓ} {T : Type ℓ} (F : (n : ℕ) → Geometry n → T) (together : List T → T) : Type ℓ where
  pub alone : (n : ℕ) (s : Simple) → F (suc n) (simple s) ≡ F zero s
  pub members : (n : ℕ) (gs : List (Geometry n)) → F (suc n) (collection gs) ≡ together (map (F n) gs)

map-through {ℓ} : {T : Type ℓ} {A B : Type 0} (up : A → B) (f : B → T) (g : A → T) → ((a : A) → f (up a) ≡ g a) → (xs : List A) → map f (map up xs) ≡ map g xs
map-through up f g h [] = refl
map-through up f g h (a ∷ xs) = λ i. h a i ∷ map-through up f g h xs i

module _ {ℓ} {T : Type ℓ} (F : (n : ℕ) → Geometry n → T) (together : List T → T) (S : ByShape F together) where
  raise-same : (m n : ℕ) → m ≤ n → (g : Geometry m) → F n (raise m n g) ≡ F m g
  raise-same zero zero h s = refl
  raise-same zero (suc n) h s = S.alone n s
  raise-same (suc m) zero h g = absurd (omega arith)
  raise-same (suc m) (suc n) h (simple s) = S.alone n s ∙ sym (S.alone m s)
  raise-same (suc m) (suc n) h (collection gs) =
      S.members n (map (raise m n) gs)
      ∙ ap together (map-through (raise m n) (F n) (F m) (raise-same m n (omega arith)) gs)
      ∙ sym (S.members m gs)

  members_same : (n : ℕ) (xs : List Any) → deepest xs ≤ n → map (F n) (map (λ a. raise a.n n a.geometry) xs) ≡ map (λ a. F a.n a.geometry) xs
  members_same n [] h = refl
  members_same n (a ∷ xs) h =
      let first = raise-same a.n n (omega arith) a.geometry in
      let others = members_same n xs (omega arith) in
      λ i. first i ∷ others i

  -- whatever goes by shape alone takes `collect xs` for the collection of xs
  pub collect-is : (xs : List Any) → F (collect xs).n (collect xs).geometry ≡ together (map (λ a. F a.n a.geometry) xs)
  collect-is xs =
      S.members (deepest xs) (map (λ a. raise a.n (deepest xs) a.geometry) xs)
      ∙ ap together (members_same (deepest xs) xs (omega arith))
