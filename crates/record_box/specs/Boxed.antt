-- SPEC 8.3, 8.4: the box of a record, by its number, over its own pairs and then each part's.
use Rattle.std.specs.Prelude.{List, [], ℕ, Result}
use Rattle.std.proofs.Common.{Ok, Err}
use Rattle.std.proofs.Math.Option.{Option, none, some}
use Rattle.kinds.specs.Refusal.{number_of}
use Rattle.kinds.specs.declared.refusal.Refusal.{Refusal}
use Rattle.store.specs.Lists.{Rec}
use Rattle.tree_walk.specs.Tree.{Out, refused, went, through}
use Rattle.tree_walk.specs.Records.{parts_by}
use Rattle.bbox.specs.declared.Box.{Box}
use Rattle.bbox.specs.Box.{beginning, box_from}

-- a number, 0 for done, and the box
pub record Boxed : Type 0 where
  pub number : ℕ
  pub bbox : Box

-- the words of a list; one that is absent has none
abbrev pub words_of : Option (List ℕ) → List ℕ
words_of none = []
words_of (some words) = words

-- a bad record has no list of its own
abbrev pub own_xy : Option Rec → List ℕ
own_xy none = []
own_xy (some r) = words_of r.xy

-- the box after a record's own xy list
unfoldable pub own_box : (ℕ → Option Rec) → ℕ → Box → Box
own_box get n b = box_from b (own_xy (get n))

-- a refusal has the box as it began
abbrev pub boxed : Out Box → Boxed
boxed (refused number) = record { number = number; bbox = beginning }
boxed (went b) = record { number = 0; bbox = b }

-- record n is level 1, and 16 is the last
unfoldable pub box_of : (ℕ → Option Rec) → ℕ → Boxed
box_of get n = boxed (through (parts_by get) (own_box get) 16 n beginning)

-- the same of what the code answers, which has no box with a refusal
abbrev pub boxed_of : Result Box Refusal → Boxed
boxed_of (Ok b) = boxed (went b)
boxed_of (Err r) = boxed (refused (number_of r))
