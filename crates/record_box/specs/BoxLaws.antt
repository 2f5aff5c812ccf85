-- A box is a value that pairs widen, so a walk through shared records may skip what it has cleared: the answer is the plain recursion's.
use Rattle.std.specs.Prelude.{◌≡◌, Result, refl, List, [], ◌∷◌, ℕ, ◌≤◌, replicate}
use Rattle.std.proofs.Common.{Ok, Err, sym, subst, ◌∙◌, arith}
use Rattle.std.proofs.Math.Path.{ap}
use Rattle.std.proofs.Math.Option.{Option, none}
use Rattle.kinds.specs.Refusal.{refused as number-refused}
use Rattle.kinds.specs.declared.refusal.Refusal.{Refusal}
use Rattle.store.specs.RecordLaws.{past-usable}
use Rattle.store.specs.Lists.{Rec, Pools, lent_of, record_with, with_bad}
use Rattle.tree_walk.specs.declared.Parts.{Parts}
use Rattle.tree_walk.specs.Tree.{refused, went, found, parts, through}
use Rattle.tree_walk.specs.Widen.{all, Growing, growing}
use Rattle.tree_walk.specs.Memory.{Left, left, kept, uncounted}
use Rattle.tree_walk.proofs.Remembers.{Agree, agrees, so_refused, so_went, none_marked}
use Rattle.tree_walk.specs.Records.{parts_in, parts_by, parts_lent, by_lent as parts-by-lent}
use Rattle.bbox.specs.declared.Box.{Box}
use Rattle.bbox.specs.Box.{beginning, box_from, widen}
use Rattle.bbox.specs.Again.{widen_met, widen_stays}
use Rattle.record_box.specs.Boxed.{own_xy, own_box, boxed, boxed_of, box_of}
use Rattle.record_box.specs.Lent.{Leaves, own_lent, by_lent as own-by-lent}

-- ---- the pairs of a list
unfoldable pairs_of : List ℕ → List (ℕ × ℕ)
pairs_of [] = []
pairs_of (x ∷ []) = []
pairs_of (x ∷ y ∷ ws) = (x, y) ∷ pairs_of ws

abbrev by : ℕ × ℕ → Box → Box
by p b = widen b p.0 p.1

as_pairs : (ws : List ℕ) (b : Box) → all by (pairs_of ws) b ≡ box_from b ws
unfolding all pairs_of box_from
as_pairs [] b = refl
as_pairs (x ∷ []) b = refl
as_pairs (x ∷ y ∷ ws) b = as_pairs ws (widen b x y)

pub box_grows : (get : ℕ → Option Rec) → Growing Box (own_box get)
unfolding own_box
box_grows get =
    subst (Growing Box) (λ i n b. as_pairs (own_xy (get n)) b i)
    (growing by (λ p b. widen_met b p.0 p.1) (λ p q b. widen_stays b p.0 p.1 q.0 q.1) (λ n. pairs_of (own_xy (get n))))

-- ---- a bad record
pub bad_box : (get : ℕ → Option Rec) (n : ℕ) → get n ≡ none → boxed (refused 10) ≡ box_of get n
unfolding box_of through parts_by
bad_box get n e = ap (λ (o : Option Rec). boxed (found (parts_in n o) (λ r. parts (through (parts_by get) (own_box get) 15) r.count r.first (own_box get n beginning)))) (sym e)

pub past_box : (table : List ℕ) (P : Pools) (n : ℕ) → 4096 ≤ n → boxed (refused 10) ≡ box_of (record_with table P) n
past_box table P n h = bad_box (record_with table P) n (with_bad table P n (past-usable table (lent_of P) n h))

-- ---- the answer, by what the walk with a memory left
module _ (table : List ℕ) (P : Pools) (n : ℕ) {first : Box} (q : first ≡ beginning) where
  abbrev get : ℕ → Option Rec
  get = record_with table P

  abbrev walk : (ℕ → Option Parts) → (ℕ → Box → Box) → Box → Left Box
  walk records own b = kept uncounted records own 16 n b (replicate 4096 17) 0

  abbrev by_code : Left Box
  by_code = walk (parts_lent table (lent_of P)) (own_lent table (lent_of P) P.xy) first

  agreed : Agree (box_grows get) (parts_by get) (through (parts_by get) (own_box get) 16 n beginning) (walk (parts_by get) (own_box get) beginning)
  agreed =
      agrees (box_grows get) (parts_by get) uncounted 16 n beginning (replicate 4096 17) 0 (omega arith)
      (none_marked (box_grows get) (parts_by get) 17 4096 beginning refl)

  module _ {c : ℕ} {b : Box} {m : List ℕ} (h : by_code ≡ left c b m 0) where
    went_so : walk (parts_by get) (own_box get) beginning ≡ left c b m 0
    went_so =
        (λ i. walk (parts-by-lent table P i) (own-by-lent table P i) beginning)
        ∙ ap (walk (parts_lent table (lent_of P)) (own_lent table (lent_of P) P.xy)) (sym q) ∙ h

    pub refused_box : (c ≡ 0 → ⊥) → boxed (refused c) ≡ box_of get n
    unfolding box_of
    refused_box z = ap boxed (sym (so_refused (box_grows get) (parts_by get) agreed went_so z))

    pub went_box : c ≡ 0 → boxed (went b) ≡ box_of get n
    unfolding box_of
    went_box z = ap boxed (sym (so_went (box_grows get) (parts_by get) agreed went_so z))

  pub left_box : (r : Result Box Refusal) (m : List ℕ) → Leaves by_code r m → boxed_of r ≡ box_of get n
  left_box (Ok b) m h = went_box h refl
  left_box (Err r) m h = refused_box h.1 (number-refused r)
