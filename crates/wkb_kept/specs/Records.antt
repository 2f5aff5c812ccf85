-- The records of events, one behind the other: they are heard as these events, of one feature, and what is heard of one feature is just these records.
use Rattle.std.specs.Prelude.{◌≡◌, true, eqb, take}
use Rattle.std.proofs.Math.Path.{refl, sym, ap}
use Rattle.std.proofs.Common.{◌∙◌, drop_of_length-le, drop-drop}
use mathlib.Core.List.{List, [], ◌∷◌, ◌++◌}
use Rattle.std.proofs.Math.Option.{Option, none, some}
use Prim.Native.Nat.{ℕ, zero, suc, ◌+◌, ◌*◌, ◌<◌, ◌≤◌}
use native.Mathlib.Omega.{arith}
use Rattle.std.proofs.Math.ListN.{length, drop, length-append, take-append-drop}
use Rattle.std.proofs.Math.Seq.{take_at, drop_at}
use borrow.Author.Tests.{eq-eqb, eqb-true}
use Rattle.laws.specs.Every.{both}
use Rattle.laws.specs.Bytes.{Bytes, part_bytes}
use Rattle.laws.specs.Cut.{bytes_of}
use Rattle.kinds.specs.Event.{Parsed, WellFormed, Malformed}
use Rattle.kinds.specs.declared.event.Event.{Event}
use Rattle.event_log.specs.Log.{events, heard, feature_in, hear_said, feature-said, said-heard, record_of, records_in}
use Rattle.planar.specs.Fits.{Each}
use Rattle.wkb_written.specs.Writing.{before, listed, alike, events_in, one_feature}
use Rattle.wkb_written.specs.Sized.{Sized}
use Rattle.wkb_written.specs.Listed.{not_some}

no_records : (bytes : List ℕ) (feature : ℕ) → alike 0 0 bytes feature ≡ true
unfolding alike
no_records bytes feature = refl

module _ (feature : ℕ) where
  -- the records of events, one behind the other
  abbrev pub record_bytes : List Event → List ℕ
  record_bytes = bytes_of (events feature)

  said_cons : (e : Event) (es : List Event) → record_bytes (e ∷ es) ≡ (events feature).bytes e ++ record_bytes es
  unfolding bytes_of
  said_cons e es = refl

  pub said_long : (es : List Event) → length (record_bytes es) ≡ 64 * length es
  unfolding bytes_of events
  said_long [] = refl
  said_long (e ∷ es) = length-append ((events feature).bytes e) (record_bytes es) ∙ omega (arith, (events feature).long e, said_long es)

  pub said-count : (es : List Event) → records_in (record_bytes es) ≡ length es
  said-count es = let long = said_long es in omega arith

  -- from record i on
  module _ (e : Event) (es : List Event) (i : ℕ) (bytes : List ℕ) (from : drop (64 * i) bytes ≡ record_bytes (e ∷ es)) where
    first_record : record_of bytes i ≡ (events feature).bytes e
    unfolding events
    first_record = ap (take 64) (from ∙ said_cons e es) ∙ take_at ((events feature).bytes e) (record_bytes es) 64 ((events feature).long e)

    later_records : drop (64 * (i + 1)) bytes ≡ record_bytes es
    unfolding events
    later_records =
        let next : 64 * (i + 1) ≡ 64 * i + 64 = omega arith in
        ap (λ (k : ℕ). drop k bytes) next
        ∙ sym (drop-drop 64 (64 * i) bytes)
        ∙ ap (drop 64) (from ∙ said_cons e es)
        ∙ drop_at ((events feature).bytes e) (record_bytes es) 64 ((events feature).long e)

  listed-from : (es : List Event) → Each Sized es → (i : ℕ) (bytes : List ℕ) → drop (64 * i) bytes ≡ record_bytes es → listed (length es) i bytes ≡ some es
  unfolding listed
  listed-from [] sized i bytes from = refl
  listed-from (e ∷ es) sized i bytes from =
      rw (first_record e es i bytes from, hear_said feature e sized.0.sized sized.0.formed, listed-from es sized.1 (i + 1) bytes (later_records e es i bytes from))

  pub listed-said : (es : List Event) → Each Sized es → events_in (record_bytes es) ≡ some es
  listed-said es sized = ap (λ (n : ℕ). listed n 0 (record_bytes es)) (said-count es) ∙ listed-from es sized 0 (record_bytes es) refl

  module _ (fits : feature < 4294967296) where
    alike_from : (es : List Event) (i : ℕ) (bytes : List ℕ) → drop (64 * i) bytes ≡ record_bytes es → alike (length es) i bytes feature ≡ true
    unfolding alike
    alike_from [] i bytes from = refl
    alike_from (e ∷ es) i bytes from =
        rw (first_record e es i bytes from, feature-said feature e fits, eq-eqb feature feature refl) (alike_from es (i + 1) bytes (later_records e es i bytes from))

    -- the first record has the feature's number, where there is one
    alike-first : (es : List Event) → alike (length es) 0 (record_bytes es) (feature_in (record_of (record_bytes es) 0)) ≡ true
    alike-first [] = no_records (record_bytes []) _
    alike-first (e ∷ es) =
        let first = ap feature_in (first_record e es 0 (record_bytes (e ∷ es)) refl) ∙ feature-said feature e fits in
        ap (alike (length (e ∷ es)) 0 (record_bytes (e ∷ es))) first ∙ alike_from (e ∷ es) 0 (record_bytes (e ∷ es)) refl

    pub alike-said : (es : List Event) → one_feature (record_bytes es) ≡ true
    alike-said es = ap (λ (n : ℕ). alike n 0 (record_bytes es) (feature_in (record_of (record_bytes es) 0))) (said-count es) ∙ alike-first es

-- ---- a list that is heard as events of one feature is their records
module _ (feature : ℕ) (bytes : List ℕ) (all : Bytes bytes) where
  laid-first : (i : ℕ) (e : Event) → heard (record_of bytes i) ≡ WellFormed e → feature_in (record_of bytes i) ≡ feature → (events feature).bytes e ≡ record_of bytes i
  laid-first i e h one = ap (λ (n : ℕ). (events n).bytes e) (sym one) ∙ (said-heard (record_of bytes i) e (part_bytes 64 (64 * i) bytes all) h).laid

  laid_from : (left i : ℕ) (es : List Event) → length bytes ≤ 64 * (i + left) → listed left i bytes ≡ some es → alike left i bytes feature ≡ true → record_bytes feature es ≡ drop (64 * i) bytes
  unfolding listed alike bytes_of
  laid_from zero i es few is same =
      let empty : [] ≡ es = cc in
      let over : length bytes ≤ 64 * i = omega arith in
      ap (record_bytes feature) (sym empty) ∙ sym (drop_of_length-le bytes over)
  laid_from (suc left) i es few is same =
      let behind : length bytes ≤ 64 * (i + 1 + left) = omega arith in
      let alone = both (eqb (feature_in (record_of bytes i)) feature) (alike left (i + 1) bytes feature) same in
      go (heard (record_of bytes i)) refl (listed left (i + 1) bytes) (λ l so. laid_from left (i + 1) l behind so alone.1) is (eqb-true (feature_in (record_of bytes i)) feature alone.0)
    where
      go : (p : Parsed) → heard (record_of bytes i) ≡ p → (o : Option (List Event)) → ((l : List Event) → o ≡ some l → record_bytes feature l ≡ drop (64 * (i + 1)) bytes)
          → before p o ≡ some es → feature_in (record_of bytes i) ≡ feature → record_bytes feature es ≡ drop (64 * i) bytes
      go Malformed h o later k one = absurd (not_some es k)
      go (WellFormed e) h none later k one = absurd (not_some es k)
      go (WellFormed e) h (some l) later k one =
          let all : e ∷ l ≡ es = cc in
          let next : 64 * (i + 1) ≡ 64 * i + 64 = omega arith in
          let tail : record_bytes feature l ≡ drop 64 (drop (64 * i) bytes) = later l refl ∙ ap (λ (k : ℕ). drop k bytes) next ∙ sym (drop-drop 64 (64 * i) bytes) in
          ap (record_bytes feature) (sym all)
          ∙ ap (λ (r : List ℕ). r ++ record_bytes feature l) (laid-first i e h one)
          ∙ ap (λ (r : List ℕ). record_of bytes i ++ r) tail
          ∙ take-append-drop 64 (drop (64 * i) bytes)

-- the number of the feature that a list is of
abbrev pub feature_of : List ℕ → ℕ
feature_of bytes = feature_in (record_of bytes 0)

pub records_back : (bytes : List ℕ) (es : List Event) → Bytes bytes → events_in bytes ≡ some es → one_feature bytes ≡ true → record_bytes (feature_of bytes) es ≡ bytes
records_back bytes es all is one =
    let few : length bytes ≤ 64 * (0 + records_in bytes) = omega arith in
    laid_from (feature_of bytes) bytes all (records_in bytes) 0 es few is one
