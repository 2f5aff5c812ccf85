-- Laws of a record's own lists.
use Rattle.std.specs.Borrow.{Bor}
use Rattle.std.specs.Option.{unwrap_or}
use Rattle.std.specs.Prelude.{◌≡◌, refl, Option as OptionR, Some, None, Bool, true, false, List, [], ℕ, ◌+◌, ◌≤◌, length, drop}
use Rattle.std.proofs.Common.{sym, ap, ◌∙◌, arith, length-take}
use Rattle.std.proofs.Math.Option.{Option, none, some}
use Rattle.kinds.specs.Geometry.{Span, start_of, count_of}
use Rattle.store.specs.Lists.{list_of}
use Rattle.store.specs.RecordLaws.{InPool}
use Rattle.coords.specs.Coords.{seen}
use Rattle.coords.specs.Views.{list_in}
use Rattle.lines.specs.Lines.{or_none}
use Rattle.own_lists.specs.Own.{list_at, seen_list}

-- ---- a place in a pool
bounds : (place : Span) (lent most : ℕ) → InPool place lent most → (start_of place + count_of place ≤ lent) × (count_of place ≤ most)
bounds None lent most h = (omega arith, omega arith)
bounds (Some s) lent most h = (h.0, omega (arith, h.1))

pub in_pool : (place : Span) (lent most : ℕ) → InPool place lent most → start_of place + count_of place ≤ lent
in_pool place lent most h = (bounds place lent most h).0

pub seen_in_pool : (flag : Bool) (place : Span) {s : Span} (lent most : ℕ) → s ≡ seen_list flag place → InPool place lent most → start_of s + count_of s ≤ lent
seen_in_pool true place lent most e h = rw e (in_pool place lent most h)
seen_in_pool false place lent most e h = rw e (omega arith)

-- ---- a list, as it is lent and as the definitions have it
at-is : (pool : List ℕ) (place : Span) → list_at pool place ≡ list_of pool place
at-is pool None = refl
at-is pool (Some s) = refl

long : Option (List ℕ) → ℕ
long none = 0
long (some l) = length l

at_long : (pool : List ℕ) (place : Span) (lent most : ℕ) → InPool place lent most → long (list_at pool place) ≤ most
unfolding long
at_long pool None lent most h = omega arith
at_long pool (Some s) lent most h = omega (arith, h.1, length-take s.count (drop s.start pool))

module _ (pool : List ℕ) (o : OptionR (Bor (List ℕ))) where
  pub lent-is : (place : Span) → list_in o ≡ list_at pool place → list_in o ≡ list_of pool place
  lent-is place e = e ∙ at-is pool place

  pub seen-is : (flag : Bool) (place : Span) {s : Span} → s ≡ seen_list flag place → list_in o ≡ list_at pool s → list_in o ≡ seen flag (list_of pool place)
  seen-is true place p e = e ∙ ap (list_at pool) p ∙ at-is pool place
  seen-is false place p e = e ∙ ap (list_at pool) p

  pub short : (place : Span) (lent most : ℕ) → list_in o ≡ list_at pool place → InPool place lent most → (l : Bor (List ℕ)) → o ≡ Some l → length l.now ≤ most
  unfolding long
  short place lent most e h l is =
      let n : length l.now ≡ long (list_at pool place) = ap (λ (x : OptionR (Bor (List ℕ))). long (list_in x)) (sym is) ∙ ap long e in
      omega (arith, n, at_long pool place lent most h)

  -- the ends, none where there is no list of them
  module _ (place : Span) (none_of : Bor (List ℕ)) {r : Bor (List ℕ)} (e : list_in o ≡ list_at pool place) (empty : none_of.now ≡ []) (is : r ≡ unwrap_or o none_of) where
    pub ends-is : r.now ≡ or_none (list_of pool place)
    ends-is = ap (λ (b : Bor (List ℕ)). b.now) is ∙ go o ∙ ap or_none (lent-is place e)
      where
        go : (o : OptionR (Bor (List ℕ))) → (unwrap_or o none_of).now ≡ or_none (list_in o)
        go None = empty
        go (Some l) = refl

    pub few_ends : (lent most : ℕ) → InPool place lent most → length r.now ≤ most
    unfolding long
    few_ends lent most h =
        let n : length r.now ≡ long (list_at pool place) = ap length ends-is ∙ go (list_of pool place) ∙ ap long (sym (at-is pool place)) in
        omega (arith, n, at_long pool place lent most h)
      where
        go : (l : Option (List ℕ)) → length (or_none l) ≡ long l
        go none = refl
        go (some l) = refl
