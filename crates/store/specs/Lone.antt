-- A record that has an xy list and no other, by number.
use Rattle.std.specs.Prelude.{◌≡◌, Some, None, Bool, List, ℕ, ◌+◌, ◌≤◌, get_or}
use Rattle.std.proofs.Math.Path.{refl}
use Rattle.std.proofs.Common.{ap, ◌∙◌}
use Rattle.std.proofs.Math.Bool.{true, false, cond}
use Rattle.laws.specs.Every.{never}
use Rattle.laws.specs.Bytes.{word_at}
use Rattle.laws.specs.Blocks.{block}
use Rattle.geometry_layout.specs.Lone.{is_lone, lone_in, lone_read}
use Rattle.kinds.specs.Geometry.{Span, stretch, start_of, count_of, lone_geometry}
use Rattle.kinds.specs.Lanes.{Lent}
use Rattle.kinds.specs.declared.geometry.Stretch.{Stretch}
use Rattle.store.specs.Records.{Judged, records_lent, has_record, record_in, in_pool, lists_in, judged, record_at}
use Rattle.store.specs.RecordLaws.{pool_bounds, record_room, record_long, record_is}

-- record n has the xy list of such a start and count and no other list, whatever is lent of the other pools
pub record LoneList (table : List ℕ) (lent n start count : ℕ) : Type 0 where
  pub kind : ℕ
  pub reads : (pools : Lent) → pools.xy ≡ lent → record_at table pools n ≡ Some (lone_geometry kind start count)
  pub in_pool_lem : (start + count ≤ lent) × (start + count ≤ 131072)

-- of any other record, nothing is said
abbrev pub LoneAt : List ℕ → ℕ → ℕ → Span → Type 0
LoneAt table lent n (Some s) = LoneList table lent n s.start s.count
LoneAt table lent n None = Unit

-- a lone list that lies in a pool of so many words
abbrev pub in_xy_pool : Span → ℕ → Span
in_xy_pool (Some s) lent = cond (in_pool (Some s) lent 131072) (Some s) None
in_xy_pool None lent = None

-- ---- what is read as a lone list, and lies in its pool, is one
module _ (table : List ℕ) (lent n : ℕ) (has : has_record table n ≡ true) where
  record_lone : {start count : ℕ} → lone_in (block 64 table n) ≡ Some (stretch start count) → record_in table n ≡ Some (lone_geometry (get_or (block 64 table n) 0 0) start count)
  unfolding record_in lone_in
  record_lone {start} {count} e = go (is_lone (block 64 table n)) refl e
    where
      go : (b : Bool) → is_lone (block 64 table n) ≡ b → cond b (Some (stretch (word_at 4 (block 64 table n) 4) (word_at 4 (block 64 table n) 8))) None ≡ Some (stretch start count)
          → record_in table n ≡ Some (lone_geometry (get_or (block 64 table n) 0 0) start count)
      go true lone h =
          let p : word_at 4 (block 64 table n) 4 ≡ start = ap start_of h in
          let q : word_at 4 (block 64 table n) 8 ≡ count = ap count_of h in
          rw (p, q) at (lone_read (block 64 table n) (record_long table n (record_room table n has).0) lone)
      go false lone h = absurd (never (cc))

  lists_lone : (kind start count : ℕ) (pools : Lent) → in_pool (Some (stretch start count)) pools.xy 131072 ≡ true → lists_in (lone_geometry kind start count) pools n (records_lent table) ≡ true
  unfolding lists_in
  lists_lone kind start count pools h = rw h

  lone_list : (start count : ℕ) → lone_in (block 64 table n) ≡ Some (stretch start count) → in_pool (Some (stretch start count)) lent 131072 ≡ true → LoneList table lent n start count
  lone_list start count e h =
      record {
        kind = get_or (block 64 table n) 0 0;
        reads = λ pools same.
            record_is table pools n has
            ∙ ap (λ (r : Judged). judged r pools n (records_lent table)) (record_lone e)
            ∙ rw (lists_lone (get_or (block 64 table n) 0 0) start count pools (ap (λ (k : ℕ). in_pool (Some (stretch start count)) k 131072) same ∙ h));
        in_pool_lem = pool_bounds (Some (stretch start count)) lent 131072 h;
      }

  pub lone_at : LoneAt table lent n (in_xy_pool (lone_in (block 64 table n)) lent)
  lone_at = by_record (lone_in (block 64 table n)) refl
    where
      by_pool : (s : Stretch) (b : Bool) → lone_in (block 64 table n) ≡ Some s → in_pool (Some s) lent 131072 ≡ b → LoneAt table lent n (cond b (Some s) None)
      by_pool s true e h = lone_list s.start s.count e h
      by_pool s false e h = tt

      by_record : (r : Span) → lone_in (block 64 table n) ≡ r → LoneAt table lent n (in_xy_pool r lent)
      by_record (Some s) e = by_pool s (in_pool (Some s) lent 131072) e refl
      by_record None e = tt
