-- The box as the code takes it, from a table and what is lent of the pools, of which it has the words of xy alone.
use Rattle.std.specs.Prelude.{◌≡◌, Result, Some, None, List, [], ℕ, ◌+◌, length, get_or, set}
use Rattle.std.proofs.Math.Path.{refl, ap}
use Rattle.std.proofs.Common.{Ok, Err, sym, subst, ◌∙◌}
use Rattle.std.proofs.Math.Bool.{cond}
use Rattle.std.proofs.Math.Option.{Option, some}
use Rattle.kinds.specs.declared.geometry.Geometry.{Geometry}
use Rattle.kinds.specs.Geometry.{Span}
use Rattle.kinds.specs.Lanes.{Lent}
use Rattle.kinds.specs.Refusal.{number_of}
use Rattle.kinds.specs.declared.geometry.Stretch.{Stretch}
use Rattle.kinds.specs.declared.refusal.Refusal.{Refusal}
use Rattle.store.specs.Records.{Judged, record_at}
use Rattle.store.specs.RecordLaws.{InPool}
use Rattle.store.specs.Lone.{LoneAt, LoneList}
use Rattle.store.specs.Lists.{Pools, lent_of, list_of, parts_of, seen, record_with}
use Rattle.tree_walk.specs.declared.Parts.{Parts}
use Rattle.tree_walk.specs.Memory.{Left, left, next, is_mark, parts_kept, own_once, marking, walked}
use Rattle.tree_walk.specs.Records.{parts_from, parts_lent, bad_parts, good_parts}
use Rattle.tree_walk.specs.Steps.{in_bad, in_good}
use Rattle.bbox.specs.declared.Box.{Box}
use Rattle.bbox.specs.Box.{box_from}
use Rattle.record_box.specs.Boxed.{words_of, own_xy, own_box}

abbrev own_judged : List ℕ → Judged → List ℕ
own_judged xy None = []
own_judged xy (Some g) = words_of (list_of xy g.xy)

unfoldable pub own_lent : List ℕ → Lent → List ℕ → ℕ → Box → Box
own_lent table lent xy n b = box_from b (own_judged xy (record_at table lent n))

pub by_lent : (table : List ℕ) (P : Pools) → own_box (record_with table P) ≡ own_lent table (lent_of P) P.xy
unfolding own_box own_lent record_with
by_lent table P = λ i n b. box_from b (go (record_at table (lent_of P) n) i)
  where
    go : (j : Judged) → own_xy (seen P j) ≡ own_judged P.xy j
    go None = refl
    go (Some g) = refl

-- ---- what a walk leaves, as the code answers: a box, or a refusal and no word of the box
abbrev pub Leaves : Left Box → Result Box Refusal → List ℕ → Type 0
Leaves l (Ok b) m = l ≡ left 0 b m 0
Leaves l (Err r) m = (b : Box) × (l ≡ left (number_of r) b m 0)

pub leaves_same : {k l : Left Box} (r : Result Box Refusal) (m : List ℕ) → k ≡ l → Leaves l r m → Leaves k r m
leaves_same r m e h = subst (λ (l : Left Box). Leaves l r m) (sym e) h

-- ---- a record that the walk does not skip, as the code reads it

-- its own list is looked at where it has no mark
abbrev pub own_looked : List ℕ → ℕ → Span → Box → Box
own_looked xy mark s b = cond (is_mark mark) b (box_from b (words_of (list_of xy s)))

module _ (table : List ℕ) (lent : Lent) (xy : List ℕ) (part : ℕ → Box → List ℕ → ℕ → Left Box) (levels n : ℕ) (b : Box) (m : List ℕ) where
  pub bad_walked : {j : Judged} → j ≡ record_at table lent n → j ≡ None → walked (parts_lent table lent) (own_lent table lent xy) part levels n b m 0 ≡ left 10 b m 0
  bad_walked e h = in_bad (parts_lent table lent) (own_lent table lent xy) part levels n b m 0 (bad_parts table lent n (sym e ∙ h))

  own_is : (g : Geometry) → record_at table lent n ≡ Some g → {c : Box} → c ≡ own_looked xy (get_or m n 0) g.xy b → c ≡ own_once (own_lent table lent xy) (get_or m n 0) n b
  unfolding own_lent
  own_is g h p = p ∙ ap (λ (j : Judged). cond (is_mark (get_or m n 0)) b (box_from b (own_judged xy j))) (sym h)

  pub good_walked : {j : Judged} {g : Geometry} {r : Parts} {c : Box} → j ≡ record_at table lent n → j ≡ Some g → r ≡ parts_from n (parts_of g.parts) → c ≡ own_looked xy (get_or m n 0) g.xy b
      → walked (parts_lent table lent) (own_lent table lent xy) part levels n b m 0 ≡ next (parts_kept part r.count r.first c m 0) (marking n levels)
  good_walked {j} {g} {r} e h p o =
      in_good (parts_lent table lent) (own_lent table lent xy) part levels n b m 0 r (good_parts table lent n g (sym e ∙ h) ∙ ap {B = Option Parts} some (sym p)) (own_is g (sym e ∙ h) o)

-- ---- a record with one list and no parts
module _ (table : List ℕ) (lent : Lent) (xy : List ℕ) (n : ℕ) {l : Span} {s : Stretch} (e : l ≡ Some s) (h : LoneAt table lent.xy n l) where
  alone : LoneList table lent.xy n s.start s.count
  alone = subst (LoneAt table lent.xy n) e h

  pub lone_in_pool : lent.xy ≡ length xy → InPool (Some s) (length xy) 131072
  lone_in_pool p = subst (λ (l : ℕ). InPool (Some s) l 131072) p alone.in_pool_lem

  pub lone_walked : (part : ℕ → Box → List ℕ → ℕ → Left Box) (levels : ℕ) (b : Box) (m : List ℕ) {c : Box} → c ≡ own_looked xy (get_or m n 0) (Some s) b
      → walked (parts_lent table lent) (own_lent table lent xy) part levels n b m 0 ≡ left 0 c (set m n levels) 0
  unfolding parts_kept
  lone_walked part levels b m o = good_walked table lent xy part levels n b m {r = record { first = n + 1; count = 0 }} (sym (alone.reads lent refl)) refl refl o
