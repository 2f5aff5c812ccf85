-- What is written is read as the events that it was written of, and what is read is written as the bytes that it was read of.
use Rattle.std.specs.Prelude.{◌≡◌, refl, List, ℕ, ◌<◌, ◌≤◌, length}
use Rattle.std.proofs.Common.{sym, ap, ◌∙◌}
use Rattle.std.proofs.Math.Option.{some}
use Rattle.laws.specs.Cut.{records_of}
use Rattle.kinds.specs.declared.event.Event.{Event}
use Rattle.geometries.specs.Told.{told, told-records}
use Rattle.planar.specs.Geometry.{Geometry}
use Rattle.planar.specs.Within.{planar_events}
use Rattle.planar.specs.Fits.{Fits}
use Rattle.planar.specs.Levels.{levels}
use Rattle.wkb.specs.Wkb.{little_bytes}
use Rattle.wkb_reader.specs.Reading.{reading_r}
use Rattle.wkb_meaning.specs.Backward.{MeaningWithin}
use Rattle.wkb_meaning.specs.Forward.{written_read}
use Rattle.wkb_meaning.specs.Exactly.{meaning_said}
use Rattle.wkb_written.specs.Writing.{writing, events_in}
use Rattle.wkb_written.specs.Sized.{planar_sized}
use Rattle.wkb_written.specs.Nested.{Told}
use Rattle.wkb_kept.specs.Means.{done, done-bytes}
use Rattle.wkb_kept.specs.Records.{record_bytes, listed-said, alike-said}

-- ---- written, then read
pub write_read : (bytes : List ℕ) (room : ℕ) (es : List Event) → events_in bytes ≡ some es → (writing bytes room).number ≡ 0 → reading_r (writing bytes room).bytes ≡ told es
write_read bytes room es is h =
    let s = ((done bytes room es is).0 h).1.shallow in
    let t = s.told in
    ap reading_r (done-bytes bytes room es is h t)
    ∙ written_read t.n t.geometry t.fits s.within
    ∙ ap (λ (l : List Event). told l) t.tell

-- ---- read, then written
module _ (feature : ℕ) (fits : feature < 4294967296) where
  pub events-written : (n : ℕ) (g : Geometry n) → Fits n g → levels n g ≤ 16 → (room : ℕ) → length (little_bytes n g) ≤ room → writing (record_bytes feature (planar_events n g)) room ≡ record { number = 0; bytes = little_bytes n g }
  events-written n g fit deep room enough =
      let es = planar_events n g in
      let is = listed-said feature es (planar_sized n g fit) in
      let t : Told es = record { n = n; geometry = g; fits = fit; tell = refl } in
      let so : (writing (record_bytes feature es) room).number ≡ 0 = (done (record_bytes feature es) room es is).1 (alike-said feature fits es, record { shallow = record { told = t; within = deep }; enough = enough }) in
      let bytes = done-bytes (record_bytes feature es) room es is so t in
      λ i. record { number = so i; bytes = bytes i }

  -- bytes that mean a geometry, in whatever orders, come back little-endian
  pub meaning_written : (l : List ℕ) (m : MeaningWithin l) (room : ℕ) → length (little_bytes m.meaning.n m.meaning.geometry) ≤ room
      → writing (record_bytes feature (records_of (reading_r l))) room ≡ record { number = 0; bytes = little_bytes m.meaning.n m.meaning.geometry }
  meaning_written l m room enough =
      let g = m.meaning in
      let same : records_of (reading_r l) ≡ planar_events g.n g.geometry = ap records_of (meaning_said l m) ∙ told-records (planar_events g.n g.geometry) in
      ap (λ (es : List Event). writing (record_bytes feature es) room) same ∙ events-written g.n g.geometry g.fits m.within room enough

  -- and little-endian ones as they were
  pub read_write : (l : List ℕ) (n : ℕ) (g : Geometry n) → Fits n g → levels n g ≤ 16 → l ≡ little_bytes n g → (room : ℕ) → length l ≤ room → writing (record_bytes feature (records_of (reading_r l))) room ≡ record { number = 0; bytes = l }
  read_write l n g fit deep is room enough =
      let same : records_of (reading_r l) ≡ planar_events n g = ap (λ (l : List ℕ). records_of (reading_r l)) is ∙ ap records_of (written_read n g fit deep) ∙ told-records (planar_events n g) in
      ap (λ (es : List Event). writing (record_bytes feature es) room) same
      ∙ events-written n g fit deep room (rw is at enough)
      ∙ λ i. record { number = 0; bytes = sym is i }
