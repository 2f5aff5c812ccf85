-- SPEC 8.5: a box is that of one list, with the pairs of all records that are come to joined in walk order.
use Rattle.std.specs.Prelude.{◌≡◌, List, [], ◌∷◌, ◌++◌, Bool, true, false, ◌||◌, ℕ, eqb, Float}
use Rattle.std.proofs.Math.Path.{refl, sym, ap, subst}
use Rattle.std.proofs.Common.{◌∙◌}
use Rattle.std.proofs.Math.Option.{Option, none, some}
use Rattle.std.specs.Float.Ieee.{is_nan}
use Rattle.laws.specs.Every.{never}
use Rattle.store.specs.Lists.{Rec}
use Rattle.tree_walk.specs.Tree.{Out, refused, went, found, parts, through}
use Rattle.tree_walk.specs.Refusals.{Due, through-due}
use Rattle.tree_walk.specs.Widen.{all}
use Rattle.tree_walk.specs.Reached.{reached, joined}
use Rattle.tree_walk.specs.Records.{parts_from, parts_in, parts_by}
use Rattle.bbox.specs.declared.Box.{Box}
use Rattle.bbox.specs.Box.{beginning, box_from, widen, double, bits_of}
use Rattle.bbox.specs.Laws.{Edges, never_nan, bits_tell}
use Rattle.record_box.specs.Boxed.{Boxed, own_xy, own_box, boxed, box_of}

-- a list without an odd last word
unfoldable pub whole_pairs : List ℕ → List ℕ
whole_pairs [] = []
whole_pairs (x ∷ []) = []
whole_pairs (x ∷ y ∷ words) = x ∷ y ∷ whole_pairs words

-- the pairs of a row of records, by number
unfoldable pub pairs_joined : (ℕ → Option Rec) → List ℕ → List ℕ
pairs_joined get [] = []
pairs_joined get (n ∷ ns) = whole_pairs (own_xy (get n)) ++ pairs_joined get ns

-- the pairs of all records that the walk from record n comes to, in its order, each as often as it is come to
unfoldable pub all_pairs : (ℕ → Option Rec) → ℕ → List ℕ
all_pairs get n = pairs_joined get (reached (parts_by get) 16 n)

pairs-then : (b : Box) (xs ys : List ℕ) → box_from b (whole_pairs xs ++ ys) ≡ box_from (box_from b xs) ys
unfolding box_from whole_pairs
pairs-then b [] ys = refl
pairs-then b (x ∷ []) ys = refl
pairs-then b (x ∷ y ∷ xs) ys = pairs-then (widen b x y) xs ys

pub one_by_one : (get : ℕ → Option Rec) (ns : List ℕ) (b : Box) → box_from b (pairs_joined get ns) ≡ all (own_box get) ns b
unfolding box_from pairs_joined all own_box
one_by_one get [] b = refl
one_by_one get (n ∷ ns) b = pairs-then b (own_xy (get n)) (pairs_joined get ns) ∙ one_by_one get ns (box_from b (own_xy (get n)))

module _ (get : ℕ → Option Rec) (n : ℕ) where
  outcome : (P : Boxed → Type 0) → ((c : ℕ) → Due {S = Box} (refused c) → P (boxed (refused c))) → ((b : Box) → through (parts_by get) (own_box get) 16 n beginning ≡ went b → P (boxed (went b))) → P (box_of get n)
  unfolding box_of
  outcome P refuses goes = by-outcome (through (parts_by get) (own_box get) 16 n beginning) refl (through-due (parts_by get) (own_box get) 16 n beginning)
    where
      by-outcome : (o : Out Box) → through (parts_by get) (own_box get) 16 n beginning ≡ o → Due o → P (boxed o)
      by-outcome (refused c) e d = refuses c d
      by-outcome (went b) e d = goes b e

  over-pairs : (b : Box) → through (parts_by get) (own_box get) 16 n beginning ≡ went b → b ≡ box_from beginning (all_pairs get n)
  unfolding all_pairs
  over-pairs b e = sym (joined (parts_by get) (own_box get) 16 n beginning b e) ∙ sym (one_by_one get (reached (parts_by get) 16 n) beginning)

  never_zero : (c : ℕ) → Due {S = Box} (refused c) → c ≡ 0 → ⊥
  never_zero c d e = never (subst (λ (k : ℕ). (eqb k 13 || eqb k 10) ≡ true) e d)

  -- no other number than 0, 13 and 10
  pub box_number : (eqb (box_of get n).number 0 || (eqb (box_of get n).number 13 || eqb (box_of get n).number 10)) ≡ true
  box_number = outcome (λ r. (eqb r.number 0 || (eqb r.number 13 || eqb r.number 10)) ≡ true) (λ c d. or_right (eqb c 0) (eqb c 13 || eqb c 10) d) (λ b e. refl)
    where
      or_right : (p q : Bool) → q ≡ true → (p || q) ≡ true
      or_right true q h = refl
      or_right false q h = h

  -- as though the pairs were joined
  pub as_joined : (box_of get n).number ≡ 0 → (box_of get n).bbox ≡ box_from beginning (all_pairs get n)
  as_joined = outcome (λ r. r.number ≡ 0 → r.bbox ≡ box_from beginning (all_pairs get n)) (λ c d z. absurd (never_zero c d z)) (λ b e z. over-pairs b e)

  -- a refused walk hands out nothing of what it had
  pub refused_beginning : ((box_of get n).number ≡ 0 → ⊥) → (box_of get n).bbox ≡ beginning
  refused_beginning = outcome (λ r. (r.number ≡ 0 → ⊥) → r.bbox ≡ beginning) (λ c d z. refl) (λ b e z. absurd (z refl))

  -- refused or not, the box is one over words, so its edges are numbers, and their patterns tell which
  over-words : (Q : Box → Type 0) → ((ws : List ℕ) → Q (box_from beginning ws)) → Q (box_of get n).bbox
  unfolding box_from
  over-words Q h = outcome (λ r. Q r.bbox) (λ c d. h []) (λ b e. subst Q (sym (over-pairs b e)) (h (all_pairs get n)))

  pub edges_numbers : Edges (λ (edge : Float). is_nan edge ≡ false) (box_of get n).bbox
  edges_numbers = over-words (Edges (λ (edge : Float). is_nan edge ≡ false)) never_nan

  pub edges_told : Edges (λ (edge : Float). double (bits_of edge) ≡ edge) (box_of get n).bbox
  edges_told = over-words (Edges (λ (edge : Float). double (bits_of edge) ≡ edge)) bits_tell

  -- a record without parts has the box of its own list
  pub alone : (r : Rec) → get n ≡ some r → r.parts ≡ none → box_of get n ≡ record { number = 0; bbox = box_from beginning (own_xy (some r)) }
  unfolding box_of through parts_by parts own_box
  alone r e h = ap (λ (o : Option Rec). boxed (found (parts_in n o) (λ p. parts (through (parts_by get) (own_box get) 15) p.count p.first (box_from beginning (own_xy o))))) e
      ∙ ap (λ (s : Option (ℕ × ℕ)). boxed (parts (through (parts_by get) (own_box get) 15) (parts_from n s).count (parts_from n s).first (box_from beginning (own_xy (some r))))) h
