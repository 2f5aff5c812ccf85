-- Laws of boxes.
use Rattle.std.specs.Prelude.{◌≡◌, refl, Bool, cond, true, false, List, [], ◌∷◌, ◌++◌, ℕ, ◌<◌, ◌%◌, ◌^◌, length, Float}
use Rattle.std.proofs.Common.{sym, ◌∙◌, arith}
use Rattle.std.specs.Float.{nan, inf, binary64}
use Rattle.std.specs.Float.Ieee.{is_nan, nan_bits}
use Rattle.std.specs.Float.Ieee.Bits.{nan_bits_is, of_bits-to_bits, of_bits-fits}
use Rattle.std.specs.Float.Ieee.Fits.{inf-fits}
use Rattle.bbox.specs.declared.Box.{Box}
use Rattle.bbox.specs.Box.{Side, least, greatest, beyond, moved, beginning, double, widen, box_from, bits_of}
use Rattle.bbox.specs.Doubles.{nan_of, nan_below, below_nan, bits_back}

nan_not_beyond : (side : Side) (edge : Float) → beyond side nan edge ≡ false
nan_not_beyond least edge = nan_below edge
nan_not_beyond greatest edge = below_nan edge

pub nan_moves_none : (side : Side) (edge : Float) (w : ℕ) → nan_bits binary64 w ≡ true → moved side edge (double w) ≡ edge
nan_moves_none side edge w n = rw (nan_of w n, nan_not_beyond side edge)

-- a word either leaves the edge, or is a number and becomes the edge: what holds of both holds of the outcome
outcome : (Q : Bool → Float → Type 0) (side : Side) (edge : Float) (w : ℕ) → Q false edge → (nan_bits binary64 w ≡ false → Q true (double w))
    → Q (beyond side (double w) edge) (moved side edge (double w))
outcome Q side edge w left taken = by_pattern (nan_bits binary64 w) refl
  where
    by-test : (t : Bool) → Q true (double w) → Q t (cond t (double w) edge)
    by-test true q = q
    by-test false q = left

    by_pattern : (t : Bool) → nan_bits binary64 w ≡ t → Q (beyond side (double w) edge) (moved side edge (double w))
    by_pattern true n = rw (nan_of w n, nan_not_beyond side edge) left
    by_pattern false n = by-test (beyond side (double w) edge) (taken n)

-- the exact outcome: the word's own bits where it is strictly beyond, and else the edge's
pub moved-bits : (side : Side) (edge : Float) (w : ℕ) → w < 2 ^ 64
    → bits_of (moved side edge (double w)) ≡ cond (beyond side (double w) edge) w (bits_of edge)
moved-bits side edge w h = outcome (λ (t : Bool) (e : Float). bits_of e ≡ cond t w (bits_of edge)) side edge w refl (bits_back w h)

-- the box of joined lists is the box of the second begun at the box of the first, where the first is of whole pairs
pub box_joined : (b : Box) (xs ys : List ℕ) → length xs % 2 ≡ 0 → box_from b (xs ++ ys) ≡ box_from (box_from b xs) ys
unfolding box_from
box_joined b [] ys h = refl
box_joined b (x ∷ []) ys h = absurd (odd h)
  where
    odd : ◌≡◌ {A = ℕ} 1 0 → ⊥
    odd e = omega arith
box_joined b (x ∷ y ∷ xs) ys h = box_joined (widen b x y) xs ys (omega arith)

pub odd_word_not_taken : (b : Box) (ws : List ℕ) (w : ℕ) → length ws % 2 ≡ 0 → box_from b (ws ++ (w ∷ [])) ≡ box_from b ws
unfolding box_from
odd_word_not_taken b ws w h = box_joined b ws (w ∷ []) h

pub record Edges (P : Float → Type 0) (b : Box) : Type 0 where
  pub least_x : P b.least_x
  pub least_y : P b.least_y
  pub greatest_x : P b.greatest_x
  pub greatest_y : P b.greatest_y

-- what holds of a box's edges and of every number holds of the edges after any words
edges_hold : (P : Float → Type 0) → ((w : ℕ) → nan_bits binary64 w ≡ false → P (double w)) → (b : Box) (ws : List ℕ) → Edges P b → Edges P (box_from b ws)
unfolding box_from widen
edges_hold P numbers b [] h = h
edges_hold P numbers b (x ∷ []) h = h
edges_hold P numbers b (x ∷ y ∷ ws) h =
    edges_hold P numbers (widen b x y) ws
    (record {
      least_x = after least _ x h.least_x;
      least_y = after least _ y h.least_y;
      greatest_x = after greatest _ x h.greatest_x;
      greatest_y = after greatest _ y h.greatest_y;
    })
  where
    after : (side : Side) (edge : Float) (w : ℕ) → P edge → P (moved side edge (double w))
    after side edge w p = outcome (λ (t : Bool) (e : Float). P e) side edge w p (numbers w)

pub never_nan : (ws : List ℕ) → Edges (λ (edge : Float). is_nan edge ≡ false) (box_from beginning ws)
unfolding is_nan beginning
never_nan ws =
    edges_hold (λ (edge : Float). is_nan edge ≡ false) (λ w n. sym (nan_bits_is binary64 w) ∙ n) beginning ws
    (record { least_x = refl; least_y = refl; greatest_x = refl; greatest_y = refl })

-- an edge's bits tell which double it is
pub bits_tell : (ws : List ℕ) → Edges (λ (edge : Float). double (bits_of edge) ≡ edge) (box_from beginning ws)
unfolding beginning
bits_tell ws =
    edges_hold (λ (edge : Float). double (bits_of edge) ≡ edge) (λ w n. of_bits-to_bits binary64 (double w) (of_bits-fits binary64 w)) beginning ws
    (record { least_x = infinity false; least_y = infinity false; greatest_x = infinity true; greatest_y = infinity true })
  where
    infinity : (sign : Bool) → double (bits_of (inf sign)) ≡ inf sign
    infinity sign = of_bits-to_bits binary64 (inf sign) (inf-fits binary64 sign)
