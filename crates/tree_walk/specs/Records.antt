-- A table's records as a walk comes to them: the parts of each, and where they lie.
use Rattle.std.specs.Prelude.{◌≡◌, Some, None, List, ℕ, ◌+◌, ◌<◌, ◌≤◌}
use Rattle.std.proofs.Math.Path.{refl, ap}
use Rattle.std.proofs.Math.Option.{Option, none, some}
use Rattle.std.proofs.Common.{arith}
use Rattle.laws.specs.Every.{never}
use Rattle.kinds.specs.Geometry.{Span}
use Rattle.kinds.specs.Lanes.{Lent}
use Rattle.kinds.specs.declared.geometry.Geometry.{Geometry}
use Rattle.store.specs.Records.{Judged, records_lent, record_at}
use Rattle.store.specs.RecordLaws.{InTable, within}
use Rattle.store.specs.Lists.{Rec, Pools, lent_of, parts_of, seen, record_with}
use Rattle.tree_walk.specs.declared.Parts.{Parts}

-- the parts of record n; where it has no such list there are none, and the next record would be the first
abbrev pub parts_from : ℕ → Option (ℕ × ℕ) → Parts
parts_from n none = record { first = n + 1; count = 0 }
parts_from n (some p) = record { first = p.0; count = p.1 }

abbrev pub parts_in : ℕ → Option Rec → Option Parts
parts_in n none = none
parts_in n (some r) = some (parts_from n r.parts)

-- a walk's records, by an accessor of records with their lists
unfoldable pub parts_by : (ℕ → Option Rec) → ℕ → Option Parts
parts_by get n = parts_in n (get n)

-- ---- the same by a table and what is lent, with no word of a list looked at
abbrev parts_judged : ℕ → Judged → Option Parts
parts_judged n None = none
parts_judged n (Some g) = some (parts_from n (parts_of g.parts))

unfoldable pub parts_lent : List ℕ → Lent → ℕ → Option Parts
parts_lent table lent n = parts_judged n (record_at table lent n)

pub by_lent : (table : List ℕ) (P : Pools) → parts_by (record_with table P) ≡ parts_lent table (lent_of P)
unfolding parts_by parts_lent record_with
by_lent table P = λ i n. go n (record_at table (lent_of P) n) i
  where
    go : (n : ℕ) (j : Judged) → parts_in n (seen P j) ≡ parts_judged n j
    go n None = refl
    go n (Some g) = refl

module _ (table : List ℕ) (lent : Lent) (n : ℕ) where
  pub bad_parts : record_at table lent n ≡ None → parts_lent table lent n ≡ none
  unfolding parts_lent
  bad_parts h = ap (parts_judged n) h

  pub good_parts : (g : Geometry) → record_at table lent n ≡ Some g → parts_lent table lent n ≡ some (parts_from n (parts_of g.parts))
  unfolding parts_lent
  good_parts g h = ap (parts_judged n) h

  -- where a good record and its parts lie
  pub record Placed (r : Parts) : Type 0 where
    pub number : n < 4096
    pub above : n < r.first
    pub below : r.first + r.count ≤ 4096

  placed_span : (s : Span) → n < 4096 → InTable s n (records_lent table) → Placed (parts_from n (parts_of s))
  placed_span None h t = record { number = h; above = omega arith; below = omega arith }
  placed_span (Some s) h t = record { number = h; above = t.0; below = t.2 }

  pub good_placed : (g : Geometry) → record_at table lent n ≡ Some g → Placed (parts_from n (parts_of g.parts))
  good_placed g h = let w = within table lent n g h in placed_span g.parts w.usable-number w.parts

  pub placed : (r : Parts) → parts_lent table lent n ≡ some r → Placed r
  unfolding parts_lent
  placed r e = go (record_at table lent n) refl e
    where
      go : (j : Judged) → record_at table lent n ≡ j → parts_judged n j ≡ some r → Placed r
      go None q e = absurd (never (cc))
      go (Some g) q e = let p : parts_from n (parts_of g.parts) ≡ r = cc in rw p at (good_placed g q)
