-- SPEC 8.6: how far the walk of a box goes. The premise is what the code of the walk ensures (`enter`), so it is met for any table, pools and number.
use Rattle.std.specs.Prelude.{◌≡◌, refl, List, ℕ, ◌+◌, ◌*◌, ◌<◌, ◌≤◌, replicate}
use Rattle.std.proofs.Math.Option.{Option, some}
use Rattle.std.proofs.Common.{arith}
use Rattle.kinds.specs.Lanes.{Lent}
use Rattle.tree_walk.specs.declared.Parts.{Parts}
use Rattle.tree_walk.specs.Memory.{left, kept, uncounted}
use Rattle.tree_walk.specs.Visits.{places}
use Rattle.tree_walk.proofs.Alike.{few_in_all}
use Rattle.tree_walk.specs.Looks.{Looks, look}
use Rattle.tree_walk.proofs.Looks.{looks_once}
use Rattle.tree_walk.specs.Records.{parts_lent, placed}
use Rattle.bbox.specs.declared.Box.{Box}
use Rattle.record_box.specs.Lent.{own_lent}

module _ (table : List ℕ) (lent : Lent) (xy : List ℕ) (n : ℕ) where
  abbrev records : ℕ → Option Parts
  records = parts_lent table lent

  abbrev own : ℕ → Box → Box
  own = own_lent table lent xy

  above : (x : ℕ) (r : Parts) → records x ≡ some r → x < r.first
  above x r e = (placed table lent x r e).above

  usable : (x : ℕ) (r : Parts) → records x ≡ some r → x < 4096
  usable x r e = (placed table lent x r e).number

  module _ (first : Box) {c : ℕ} {b : Box} {m : List ℕ} (h : kept uncounted records own 16 n first (replicate 4096 17) 0 ≡ left c b m 0) where
    -- the same walk, with the records counted that it enters, skipped or not, good or bad: at most one, and sixteen for each place in a parts list
    pub few_entered : (w : ℕ) × (kept (λ x. x + 1) records own 16 n first (replicate 4096 17) 0 ≡ left c b m w) × (w ≤ 1 + 16 * places records 4096 0)
    few_entered = few_in_all uncounted records own 16 4096 17 (omega arith) refl above usable 16 n first 0 (omega arith) h

    -- the same walk, with the looks counted at each record's own list: no list is looked at twice
    pub looked_once : (f : Looks) × (w : ℕ) × (kept uncounted records look 16 n (λ x. 0) (replicate 4096 17) 0 ≡ left c f m w) × ((x : ℕ) → f x ≤ 1)
    looked_once = looks_once 4096 uncounted records above usable own 17 16 n first 0 (omega arith) h
