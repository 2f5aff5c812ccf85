-- SPEC 14.13 over the calls that a machine links: what is written is read as it was, and what is read is written as it was. The premises are the calls' own `ensures`.
use Rattle.std.specs.Prelude.{◌≡◌, refl, Bool, true, false, cond, List, ◌++◌, ℕ, ◌*◌, ◌<◌, ◌≤◌, leb, take, drop}
use Rattle.std.proofs.Common.{sym, ◌∙◌, arith, zero-add}
use Rattle.std.proofs.Math.Path.{ap}
use Rattle.std.proofs.Math.Option.{Option, none, some}
use Rattle.std.proofs.Math.ListN.{length}
use Rattle.std.proofs.lemmas.List.Edits.{sets, sets-eq}
use Rattle.std.proofs.Math.Seq.{take_at}
use borrow.Author.Tests.{leb-true}
use Rattle.laws.specs.Bytes.{Bytes}
use Rattle.laws.specs.Cut.{records_of, number_of, room_of, Said, said_whole}
use Rattle.kinds.specs.declared.event.Event.{Event}
use Rattle.event_log.specs.Log.{events, records_in}
use Rattle.geometries.specs.Told.{told, told-number, told-records}
use Rattle.planar.specs.Geometry.{Geometry}
use Rattle.planar.specs.Fits.{Fits}
use Rattle.planar.specs.Levels.{levels}
use Rattle.wkb.specs.Wkb.{little_bytes}
use Rattle.wkb_reader.specs.Reading.{reading_r}
use Rattle.wkb_meaning.specs.Backward.{MeaningWithin}
use Rattle.wkb_written.specs.Writing.{events_in, one_feature, Written, writing, Did}
use Rattle.wkb_kept.specs.Means.{eleven, done, done-bytes}
use Rattle.wkb_kept.specs.Records.{record_bytes, feature_of, said_long, said-count, records_back}
use Rattle.wkb_kept.specs.RoundTrip.{write_read, meaning_written, read_write}

-- a list that was written over from its start on
over-start : (L v : List ℕ) → length v ≤ length L → sets L 0 v ≡ v ++ drop (length v) L
over-start L v fits = sets-eq v L 0 (omega arith) ∙ ap (λ (k : ℕ). v ++ drop k L) (zero-add (length v))

-- ---- written, then read
-- a list that was written, and what is to be known of it
record Kept (E : List ℕ) (room : ℕ) : Type 0 where
  list : List Event
  is : events_in E ≡ some list
  one : one_feature E ≡ true
  fits : length (writing E room).bytes ≤ room

kept : (E : List ℕ) (room : ℕ) → (writing E room).number ≡ 0 → Kept E room
kept E room h = go (events_in E) refl
  where
    go : (o : Option (List Event)) → events_in E ≡ o → Kept E room
    go none is = let z : ◌≡◌ {A = ℕ} 0 11 = sym h ∙ (eleven E room).1 is in absurd (omega arith)
    go (some list) is =
        let d = (done E room list is).0 h in
        let t = d.1.shallow.told in
        record { list = list; is = is; one = d.0; fits = rw (done-bytes E room list is h t) d.1.enough }

-- the log has the records that were written, and behind them what it had
pub written_read : (E out out' : List ℕ) (long : ℕ) → Bytes E → Did (writing E (length out)) out 0 long out' → (L M : List ℕ) (number count : ℕ) → records_in E ≤ room_of 64 L
    → Said (events (feature_of E)) (reading_r (take long out')) L number count M → (number ≡ 0) × (count ≡ records_in E) × (M ≡ E ++ drop (length E) L)
unfolding events
written_read E out out' long all wrote L M number count room said =
    let w = writing E (length out) in
    let k = kept E (length out) (sym wrote.number_is) in
    let back : record_bytes (feature_of E) k.list ≡ E = records_back E k.list all k.is k.one in
    let many : length k.list ≡ records_in E = sym (said-count (feature_of E) k.list) ∙ ap records_in back in
    let wide : 64 * length k.list ≡ length E = sym (said_long (feature_of E) k.list) ∙ ap length back in
    let bytes : take long out' ≡ w.bytes =
    ap (take long) (wrote.laid ∙ over-start out w.bytes k.fits) ∙ take_at w.bytes (drop (length w.bytes) out) long (sym wrote.long_is) in
    let tells : reading_r (take long out') ≡ told k.list = ap reading_r bytes ∙ write_read E (length out) k.list k.is (sym wrote.number_is) in
    let whole = said_whole (events (feature_of E)) (told k.list) L number count M (rw (told-records k.list, many) room) (rw tells at said) in (
      whole.number_is ∙ told-number k.list,
      whole.count-is ∙ ap length (told-records k.list) ∙ many,
      whole.log_is ∙ rw (told-records k.list, back, wide),
    )

-- ---- read, then written
-- a reading that answered 0 has said everything, and the log's first records are all of it
module _ (l L M : List ℕ) (feature count : ℕ) (said : Said (events feature) (reading_r l) L 0 count M) where
  had_room : (enough : Bool) → 0 ≡ cond enough (number_of (reading_r l)) 9 → enough ≡ true
  had_room true h = refl
  had_room false h = absurd (omega (arith, h))

  records_are : take (64 * count) M ≡ record_bytes feature (records_of (reading_r l))
  unfolding events
  records_are =
      let all = records_of (reading_r l) in
      let fits = leb-true (length all) (room_of 64 L) (had_room (leb (length all) (room_of 64 L)) said.number_is) in
      let whole = said_whole (events feature) (reading_r l) L 0 count M fits said in
      let long : length (record_bytes feature all) ≡ 64 * count = said_long feature all ∙ ap (λ (n : ℕ). 64 * n) (sym whole.count-is) in
      ap (take (64 * count)) whole.log_is ∙ take_at (record_bytes feature all) _ (64 * count) long

  -- the buffer has these bytes at its start, where writing what was read comes to them
  again : (bytes out out' : List ℕ) (number long : ℕ) → writing (record_bytes feature (records_of (reading_r l))) (length out) ≡ record { number = 0; bytes = bytes } → length bytes ≤ length out
      → Did (writing (take (64 * count) M) (length out)) out number long out' → (number ≡ 0) × (long ≡ length bytes) × (out' ≡ bytes ++ drop (length bytes) out)
  again bytes out out' number long is fits wrote =
      let w : writing (take (64 * count) M) (length out) ≡ record { number = 0; bytes = bytes } = ap (λ (r : List ℕ). writing r (length out)) records_are ∙ is in
      (wrote.number_is ∙ ap (λ (w : Written). w.number) w, wrote.long_is ∙ ap (λ (w : Written). length w.bytes) w, wrote.laid ∙ ap (λ (w : Written). sets out 0 w.bytes) w ∙ over-start out bytes fits)

  module _ (small : feature < 4294967296) (out out' : List ℕ) (number long : ℕ) (wrote : Did (writing (take (64 * count) M) (length out)) out number long out') where
    -- bytes in whatever orders come back as those of their meaning, little-endian; the reading shows that they have one (`reading_means`)
    pub read-written : (m : MeaningWithin l) → let little = little_bytes m.meaning.n m.meaning.geometry in length little ≤ length out
        → (number ≡ 0) × (long ≡ length little) × (out' ≡ little ++ drop (length little) out)
    read-written m fits = again (little_bytes m.meaning.n m.meaning.geometry) out out' number long (meaning_written feature small l m (length out) fits) fits wrote

    -- and bytes that are little-endian throughout come back as they were
    pub read_written_same : (n : ℕ) (g : Geometry n) → Fits n g → levels n g ≤ 16 → l ≡ little_bytes n g → length l ≤ length out → (number ≡ 0) × (long ≡ length l) × (out' ≡ l ++ drop (length l) out)
    read_written_same n g fit shallow is fits = again l out out' number long (read_write feature small l n g fit shallow is (length out) fits) fits wrote
