-- One pool through the calls: words are pushed, given to a part, moved to the front.
use Rattle.std.specs.Prelude.{None, ◌≡◌, Bool, List, [], ◌++◌, ℕ, ◌+◌, ◌≤◌, length, take, drop, leb}
use Rattle.std.proofs.Math.Path.{refl, ap}
use Rattle.std.proofs.Common.{sym, ◌∙◌, arith, length-append, take_at, leb-true}
use Rattle.std.proofs.Math.Bool.{true, false, cond}
use Rattle.std.proofs.Math.Option.{Option, none, some, get_or}
use Rattle.std.proofs.lemmas.List.Edits.{sets}
use Rattle.std.proofs.Math.Seq.{length-sets}
use Rattle.kinds.specs.Geometry.{SpanSized, Span}
use Rattle.store.specs.RecordLaws.{InPool}
use Rattle.store.specs.Lists.{list_of, stretch_length}
use Rattle.pending.specs.declared.words.Words.{Words}
use Rattle.pending.specs.Words.{used}
use Rattle.pending.specs.Growth.{grown, listed, shown, past, fronted}
use Rattle.writing.specs.Calls.{moved}
use Rattle.writer_model.specs.Writer.{longer}
use Rattle.writer_model.specs.Stretches.{stretch_longer}
use Rattle.writer_model.specs.Stands.{Lies}

-- what a part's record keeps of the pending words p, which is left out where it has no more than k: it ends where the next pending words begin
pub record Has (pool : List ℕ) (p : Words) (k most : ℕ) (span : Span) (kept : Option (List ℕ)) : Type 0 where
  pub list : list_of pool span ≡ kept
  pub below : InPool span (past p k).start most
  pub ends : (past p k).start ≡ p.start + length (get_or kept [])

module _ {pool : List ℕ} {p : Words} {most : ℕ} {pending : List ℕ} (h : Lies pool p most pending) where
  pub lies_count : p.count ≡ length pending
  lies_count = sym (ap length (sym h.there) ∙ stretch_length pool p.start p.count h.lent)

  pub lies_push : (vs : List ℕ) (n : ℕ) → length vs ≡ n → used p + n ≤ length pool → used p + n ≤ most → Lies (sets pool (used p) vs) (grown p n) most (pending ++ vs)
  lies_push vs n e lent fits = record {
    there = rw (← e) (stretch_longer pool vs (used p) (omega arith) p.start p.count refl ∙ ap (λ (l : List ℕ). l ++ vs) h.there);
    lent = omega (arith, length-sets pool (used p) vs);
    fits = omega arith;
  }

  pub lies_past : (k : ℕ) → Lies pool (past p k) most []
  lies_past k = record { there = refl; lent = omega (arith, h.lent, short (leb p.count k)); fits = omega (arith, h.fits, short (leb p.count k)) }
    where
      short : (b : Bool) → cond b 0 p.count ≤ p.count
      short true = omega arith
      short false = omega arith

  pub lies_move : Lies (moved pool p.start p.count) (fronted p) most pending
  lies_move =
      let n : length (take p.count (drop p.start pool)) ≡ p.count = stretch_length pool p.start p.count h.lent in
      record {
        there = take_at (take p.count (drop p.start pool)) (drop p.count pool) p.count n ∙ h.there;
        lent = omega (arith, n, length-append (take p.count (drop p.start pool)) (drop p.count pool));
        fits = omega (arith, h.fits);
      }

  -- xy is always there
  pub listed_has : Has pool p 0 most (listed p) (some pending)
  listed_has = record { list = ap some h.there; below = (omega (arith, all (leb p.count 0) refl), h.fits); ends = omega (arith, all (leb p.count 0) refl, lies_count) }
    where
      all : (b : Bool) → leb p.count 0 ≡ b → cond b 0 p.count ≡ p.count
      all true e = omega (arith, leb-true p.count 0 e)
      all false e = refl

  -- a list of another lane than xy is shown only where it is longer than the longest that is left out
  pub shown-has : (k : ℕ) → Has pool p k most (shown p k) (longer k pending)
  unfolding longer
  shown-has k = record { list = rw (← lies_count) (list (leb p.count k)); below = below (leb p.count k); ends = rw (← lies_count) (ends (leb p.count k)) }
    where
      list : (b : Bool) → list_of pool (cond b None (listed p)) ≡ cond b none (some pending)
      list true = refl
      list false = ap some h.there

      below : (b : Bool) → InPool (cond b None (listed p)) (p.start + cond b 0 p.count) most
      below true = tt
      below false = (omega arith, h.fits)

      ends : (b : Bool) → p.start + cond b 0 p.count ≡ p.start + length (get_or (cond b none (some pending)) [])
      ends true = refl
      ends false = ap (λ (n : ℕ). p.start + n) lies_count

  -- the numbers of a list that is shown fit a record
  pub listed-sized : most ≤ 131072 → SpanSized (listed p)
  listed-sized m = record { start = omega (arith, h.fits); count = omega (arith, h.fits) }

  pub shown-sized : (k : ℕ) → most ≤ 131072 → SpanSized (shown p k)
  shown-sized k m = go (leb p.count k)
    where
      go : (b : Bool) → SpanSized (cond b None (listed p))
      go true = record { start = omega arith; count = omega arith }
      go false = listed-sized m
