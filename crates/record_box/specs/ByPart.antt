-- SPEC 8.5: a part widens a box as the part's own box does, taken by its number.
use Rattle.std.specs.Prelude.{◌≡◌, ℕ, ◌≤◌}
use Rattle.std.proofs.Common.{sym, ◌∙◌}
use Rattle.std.proofs.Math.Path.{ap}
use Rattle.std.proofs.Math.Option.{Option}
use Rattle.store.specs.Lists.{Rec}
use Rattle.tree_walk.specs.Tree.{Out, went, through}
use Rattle.tree_walk.specs.Levels.{more-levels}
use Rattle.tree_walk.specs.Anywhere.{anywhere}
use Rattle.tree_walk.specs.Reached.{reached, joined}
use Rattle.tree_walk.specs.Records.{parts_by}
use Rattle.bbox.specs.declared.Box.{Box}
use Rattle.bbox.specs.Box.{beginning, box_from}
use Rattle.bbox.specs.Join.{join, widened_by_box}
use Rattle.record_box.specs.Boxed.{own_box, boxed, box_of}
use Rattle.record_box.specs.Joined.{pairs_joined, one_by_one}

module _ (get : ℕ → Option Rec) (k n : ℕ) where
  abbrev walk : Box → Out Box
  walk = through (parts_by get) (own_box get) k n

  over : (b e : Box) → walk b ≡ went e → e ≡ box_from b (pairs_joined get (reached (parts_by get) k n))
  over b e h = sym (joined (parts_by get) (own_box get) k n b e h) ∙ sym (one_by_one get (reached (parts_by get) k n) b)

  -- where a walk comes through record n, as a part or not, from box b to box e: the record has a box, and e is b joined by it
  pub by_part : (b e : Box) → k ≤ 16 → walk b ≡ went e → (c : Box) × (box_of get n ≡ record { number = 0; bbox = c }) × (e ≡ join b c)
  unfolding box_of
  by_part b e deep h =
      let own = anywhere (parts_by get) (own_box get) k n b e beginning h in (
        own.0,
        ap boxed (more-levels (parts_by get) (own_box get) k 16 n beginning own.0 deep own.1),
        over b e h ∙ widened_by_box b (pairs_joined get (reached (parts_by get) k n)) ∙ ap (join b) (sym (over beginning own.0 own.1)),
      )
