-- Every table and pools whatsoever: parts stand above their record and within 4,096 records, so a tree has a size.
use Rattle.std.specs.Prelude.{◌≡◌, refl, Some, None, List, ℕ, ◌+◌, ◌<◌, ◌≤◌}
use Rattle.std.proofs.Common.{ap, ◌∙◌, arith}
use Rattle.std.proofs.Math.Option.{some}
use Rattle.kinds.specs.Geometry.{Span}
use Rattle.store.specs.Lists.{Pools, Rec, lent_of, lists_of, parts_of, seen, record_with}
use Rattle.store.specs.Records.{Judged, records_lent, record_at}
use Rattle.store.specs.RecordLaws.{InTable, within}
use Rattle.least.specs.Size.{size_of, Sound}

-- the size of the tree that stands in a table and its pools
unfoldable pub tree_size : List ℕ → Pools → ℕ
tree_size table P = size_of 4096 (record_with table P)

parts_bound : (s : Span) (n lent : ℕ) (p : ℕ × ℕ) → InTable s n lent → parts_of s ≡ some p → (n < p.0) × (p.0 + p.1 ≤ 4096)
parts_bound None n lent p t e = let z : ◌≡◌ {A = ℕ} 0 1 = cc in absurd (omega arith)
parts_bound (Some s) n lent p t e = let q : (s.start, s.count) ≡ p = cc in rw (← q) (t.0, t.2)

pub table_sound : (table : List ℕ) (P : Pools) → Sound 4096 (record_with table P)
unfolding Sound record_with
table_sound table P n r p e q = go (record_at table (lent_of P) n) refl e
  where
    go : (j : Judged) → record_at table (lent_of P) n ≡ j → seen P j ≡ some r → (n < p.0) × (p.0 + p.1 ≤ 4096)
    go None a e = let z : ◌≡◌ {A = ℕ} 0 1 = cc in absurd (omega arith)
    go (Some g) a e =
        let same : lists_of P g ≡ r = cc in
        parts_bound g.parts n (records_lent table) p (within table (lent_of P) n g a).parts (ap (λ (x : Rec). x.parts) same ∙ q)
