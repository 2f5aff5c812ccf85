-- The call `read`: its contract, over a tree that means a geometry, says that the log gets that geometry's events.
use Rattle.std.specs.Prelude.{◌≡◌, Some, None, true, List, ℕ, ◌≤◌, length, drop}
use Rattle.std.proofs.Math.Path.{refl}
use Rattle.std.proofs.Math.Option.{some}
use Rattle.std.proofs.Common.{arith, length-take}
use Rattle.laws.specs.Every.{never}
use Rattle.laws.specs.Cut.{room_of, Said}
use Rattle.kinds.specs.Lanes.{xyL}
use Rattle.kinds.specs.declared.flags.Flags.{Flags}
use Rattle.kinds.specs.Geometry.{Span}
use Rattle.event_log.specs.Log.{events}
use Rattle.store.specs.Records.{Judged, record_at}
use Rattle.store.specs.RecordLaws.{InPool, within}
use Rattle.store.specs.Lists.{Pools, lent_of, list_of, seen, record_with}
use Rattle.lines.specs.Lines.{or_none}
use Rattle.reader.specs.Reading.{read_s}
use Rattle.geometries.specs.Geometry.{Geometry, depth}
use Rattle.geometries.specs.Events.{events_of}
use Rattle.format.specs.Format.{Tree}
use Rattle.geometries.specs.Told.{told, Complete, said_complete}
use Rattle.format.specs.Reads.{Small, AllSmall, agrees}
use Rattle.format.proofs.ReadLaws.{reads}

module _ (table : List ℕ) (P : Pools) where
  stretch_small : (s : Span) → InPool s (length P.xy) 131072 → length (or_none (list_of P.xy s)) ≤ 131072
  stretch_small None h = omega arith
  stretch_small (Some s) h = omega (arith, h.1, length-take s.count (drop s.start P.xy))

  -- a record of a table and pools has no more xy words than may be used
  pub usable_small : AllSmall (record_with table P)
  unfolding record_with
  usable_small n p e = go (record_at table (lent_of P) n) refl e
    where
      go : (j : Judged) → record_at table (lent_of P) n ≡ j → seen P j ≡ some p → Small p
      go None r e = absurd (never (cc))
      go (Some g) r e =
          let same : p.xy ≡ list_of P.xy g.xy = cc in
          rw same (omega (arith, stretch_small g.xy ((within table (lent_of P) n g r).lists xyL)))

  pub table_reads : (F : Flags) (n declared : ℕ) (g : Geometry n) (t : Tree (record_with table P) n declared g) → agrees declared t.root.kind ≡ true → depth n g ≤ 15 → read_s F (record_with table P) declared ≡ told (events_of F n g)
  table_reads F n declared g t a d = reads F (record_with table P) usable_small n declared g t a d

  pub reads_said : (F : Flags) (n declared : ℕ) (g : Geometry n) (feature : ℕ) (L : List ℕ) (number count : ℕ) (M : List ℕ) (t : Tree (record_with table P) n declared g) → agrees declared t.root.kind ≡ true → depth n g ≤ 15 → length (events_of F n g) ≤ room_of 64 L
      → Said (events feature) (read_s F (record_with table P) declared) L number count M → Complete (events feature) (events_of F n g) L number count M
  unfolding events
  reads_said F n declared g feature L number count M t a d room said = said_complete (events feature) _ (events_of F n g) L number count M (table_reads F n declared g t a d) room said
