-- 0 is the answer for the bytes of a geometry, at most 16 levels deep, and for no others; and no bytes mean two things.
use Rattle.std.specs.Prelude.{◌≡◌, ◌↔◌, List, ℕ}
use Rattle.std.proofs.Common.{sym, ap, ◌∙◌}
use Rattle.laws.specs.Bytes.{Bytes}
use Rattle.laws.specs.Cut.{records_of, number_of}
use Rattle.geometries.specs.Told.{told, told-records, told-number}
use Rattle.planar.specs.Within.{planar_events}
use Rattle.wkb_reader.specs.Reading.{reading_r}
use Rattle.wkb_meaning.specs.Forward.{reading-says}
use Rattle.wkb_meaning.specs.Backward.{MeaningWithin, reading_means}

-- the bytes are read as the events of what they mean
pub meaning_said : (l : List ℕ) (m : MeaningWithin l) → reading_r l ≡ told (planar_events m.meaning.n m.meaning.geometry)
meaning_said l m =
    let g = m.meaning in
    ap reading_r (sym g.spelled) ∙ reading-says g.n g.geometry g.orders g.fits m.within

pub zero_exactly : (l : List ℕ) → Bytes l → (number_of (reading_r l) ≡ 0) ↔ MeaningWithin l
zero_exactly l bytes = (reading_means l bytes, λ m. ap number_of (meaning_said l m) ∙ told-number (planar_events m.meaning.n m.meaning.geometry))

records_are : (l : List ℕ) (m : MeaningWithin l) → records_of (reading_r l) ≡ planar_events m.meaning.n m.meaning.geometry
records_are l m = ap records_of (meaning_said l m) ∙ told-records (planar_events m.meaning.n m.meaning.geometry)

pub one_meaning : (l : List ℕ) (m k : MeaningWithin l) → planar_events m.meaning.n m.meaning.geometry ≡ planar_events k.meaning.n k.meaning.geometry
one_meaning l m k = sym (records_are l m) ∙ records_are l k
