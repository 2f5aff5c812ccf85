-- Members gathered from several depths: the events of their collection are those of a group of them, and its rule is theirs.
use Rattle.std.specs.Prelude.{◌≡◌, refl, Bool, false, List, [], ◌∷◌, map, ℕ, suc, ◌+◌, length}
use Rattle.std.proofs.Common.{sym, ap, ◌∙◌}
use Rattle.std.proofs.lemmas.List.{length-map}
use Rattle.planar.specs.Geometry.{Geometry}
use Rattle.planar.specs.Any.{Any, collect, ByShape, collect-is}
use Rattle.nesting.specs.declared.geometry_type.GeometryType.{GeometryType}
use Rattle.nesting.specs.declared.geometry_type.GeometryType.TheVariants.{Collection}
use Rattle.nesting.specs.Events.{Event, begin, end, Tells, each, group, geometry_of}
use Rattle.planar.specs.Fits.{Each}
use Rattle.nesting.specs.Rules.{Rules, MayHold, Clear, LevelRule, GeometryRule}
use Rattle.nesting.specs.Inside.{any_of, Keeps}

-- ---- a list that is told, or kept, through another
told-through : {A B : Type 0} (q : A → B) (f : Tells B) (xs : List A) (i : ℕ) (k : List Event) → each f (map q xs) i k ≡ each (λ a. f (q a)) xs i k
told-through q f [] i k = refl
told-through q f (a ∷ xs) i k = ap (f (q a) i) (told-through q f xs (i + 1) k)

pub group-through : {A B : Type 0} (q : A → B) (type : GeometryType) (tagged : Bool) (f : Tells B) (xs : List A) (i : ℕ) (k : List Event) → group type tagged f (map q xs) i k ≡ group type tagged (λ a. f (q a)) xs i k
group-through q type tagged f xs i k = λ j. begin type tagged (length-map xs q j) i ∷ told-through q f xs 0 (end type tagged i ∷ k) j

pub each-through {ℓ} : {A : Type 0} {B : Type ℓ} (q : A → B) (P : B → Type 0) (xs : List A) → Each P (map q xs) ≡ Each (λ a. P (q a)) xs
each-through q P [] = refl
each-through q P (a ∷ xs) = λ j. P (q a) × each-through q P xs j

-- ---- its events
told_by_shape : ByShape geometry_of (group Collection false (λ t. t))
told_by_shape = record { alone = λ n s. refl; members = λ n gs j i k. sym (group-through (geometry_of n) Collection false (λ t. t) gs i k) j }

pub collect-tells : (xs : List Any) (i : ℕ) (k : List Event) → any_of (collect xs) i k ≡ group Collection false any_of xs i k
collect-tells xs i k =
    ap (λ (t : ℕ → List Event → List Event). t i k) (collect-is geometry_of (group Collection false (λ t. t)) told_by_shape xs)
    ∙ group-through any_of Collection false (λ t. t) xs i k

-- ---- its rule
module _ (R : Rules) where
  abbrev rule_of : (n : ℕ) → Geometry n → ℕ → Type 0
  rule_of n g level = GeometryRule R n level g

  abbrev all_rule : List (ℕ → Type 0) → ℕ → Type 0
  all_rule rules level = MayHold R Collection (length rules) × Clear R Collection level (length rules) × Each (λ rule. rule (suc level)) rules

  rule_through : {A : Type 0} (q : A → ℕ → Type 0) (xs : List A) (level : ℕ) → all_rule (map q xs) level ≡ LevelRule R Collection level (λ a. q a (suc level)) xs
  rule_through q xs level = λ j. MayHold R Collection (length-map xs q j) × Clear R Collection level (length-map xs q j) × each-through q (λ rule. rule (suc level)) xs j

  rule_by_shape : ByShape rule_of all_rule
  rule_by_shape = record { alone = λ n s. refl; members = λ n gs j level. sym (rule_through (rule_of n) gs level) j }

  pub collect_rule : (xs : List Any) (level : ℕ) → Keeps R Collection level (collect xs) ≡ LevelRule R Collection level (Keeps R Collection (suc level)) xs
  collect_rule xs level =
      ap (λ (rule : ℕ → Type 0). rule level) (collect-is rule_of all_rule rule_by_shape xs)
      ∙ rule_through (λ a. rule_of a.n a.geometry) xs level
