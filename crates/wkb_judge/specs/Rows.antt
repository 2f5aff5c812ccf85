-- The records of a list one behind the other: what is listed from one on comes before what is listed from a later one on.
use Rattle.std.specs.Prelude.{◌≡◌, refl, Bool, true, false, ◌&&◌, List, [], ◌∷◌, eqb, length, take, drop}
use Rattle.std.proofs.Common.{sym, ◌∙◌, length-take, length-drop}
use Rattle.std.proofs.Math.Path.{ap}
use Rattle.std.proofs.Math.Option.{Option, none, some}
use Prim.Native.Nat.{ℕ, zero, suc, ◌+◌, ◌-◌, ◌*◌, ◌/◌, ◌%◌, ◌<◌, ◌≤◌}
use native.Mathlib.Omega.{arith}
use Rattle.kinds.specs.Event.{Parsed, WellFormed, Malformed}
use Rattle.kinds.specs.declared.event.Event.{Event as Flat}
use Rattle.event_log.specs.Log.{heard, feature_in, record_of, records_in}
use Rattle.event_log.specs.LogLaws.{not_whole}
use Rattle.wkb_written.specs.Writing.{before, listed, alike, events_in}

-- events put before those that are listed, if any are
abbrev pub lifted : (List Flat → List Flat) → Option (List Flat) → Option (List Flat)
lifted puts none = none
lifted puts (some l) = some (puts l)

pub lifted_self : (o : Option (List Flat)) → o ≡ lifted (λ l. l) o
lifted_self none = refl
lifted_self (some l) = refl

lifted-before : (puts : List Flat → List Flat) (e : Flat) (o : Option (List Flat)) → lifted puts (before (WellFormed e) o) ≡ lifted (λ l. puts (e ∷ l)) o
lifted-before puts e none = refl
lifted-before puts e (some l) = refl

-- the bytes of a record
pub part_is : (bytes : List ℕ) (i : ℕ) → take (64 * i + 64 - 64 * i) (drop (64 * i) bytes) ≡ record_of bytes i
part_is bytes i = let wide : 64 * i + 64 - 64 * i ≡ 64 = omega arith in ap (λ (n : ℕ). take n (drop (64 * i) bytes)) wide

pub whole_records : (bytes : List ℕ) → length bytes % 64 ≡ 0 → records_in bytes ≡ length bytes / 64
whole_records bytes h = omega arith

module _ (bytes : List ℕ) (i : ℕ) (less : i < records_in bytes) where
  listed_next : listed (records_in bytes - i) i bytes ≡ before (heard (record_of bytes i)) (listed (records_in bytes - (i + 1)) (i + 1) bytes)
  unfolding listed
  listed_next = let e : records_in bytes - i ≡ suc (records_in bytes - (i + 1)) = omega arith in ap (λ (n : ℕ). listed n i bytes) e

  alike_next : (feature : ℕ) → alike (records_in bytes - i) i bytes feature ≡ (eqb (feature_in (record_of bytes i)) feature && alike (records_in bytes - (i + 1)) (i + 1) bytes feature)
  unfolding alike
  alike_next feature = let e : records_in bytes - i ≡ suc (records_in bytes - (i + 1)) = omega arith in ap (λ (n : ℕ). alike n i bytes feature) e

  -- in the course of a loop over records: `all` is what all of them come to
  module _ (all : Option (List Flat)) (puts : List Flat → List Flat) (so_far : all ≡ lifted puts (listed (records_in bytes - i) i bytes)) where
    pub listed_on : (e : Flat) → heard (record_of bytes i) ≡ WellFormed e → all ≡ lifted (λ l. puts (e ∷ l)) (listed (records_in bytes - (i + 1)) (i + 1) bytes)
    listed_on e h =
        let later = listed (records_in bytes - (i + 1)) (i + 1) bytes in
        so_far ∙ ap (lifted puts) (listed_next ∙ ap (λ (p : Parsed). before p later) h) ∙ lifted-before puts e later

    pub listed_none : heard (record_of bytes i) ≡ Malformed → all ≡ none
    listed_none h =
        let later = listed (records_in bytes - (i + 1)) (i + 1) bytes in
        so_far ∙ ap (lifted puts) (listed_next ∙ ap (λ (p : Parsed). before p later) h)

  module _ (feature : ℕ) (all : Bool) (so_far : all ≡ alike (records_in bytes - i) i bytes feature) where
    pub alike_on : eqb (feature_in (record_of bytes i)) feature ≡ true → all ≡ alike (records_in bytes - (i + 1)) (i + 1) bytes feature
    alike_on h = so_far ∙ alike_next feature ∙ ap (λ (b : Bool). b && alike (records_in bytes - (i + 1)) (i + 1) bytes feature) h

    pub alike_off : eqb (feature_in (record_of bytes i)) feature ≡ false → all ≡ false
    alike_off h = so_far ∙ alike_next feature ∙ ap (λ (b : Bool). b && alike (records_in bytes - (i + 1)) (i + 1) bytes feature) h

-- at the end
module _ (bytes : List ℕ) (i : ℕ) (over : records_in bytes ≤ i) where
  none_left : records_in bytes - i ≡ 0
  none_left = omega arith

  pub listed-ends : (all : Option (List Flat)) (puts : List Flat → List Flat) → all ≡ lifted puts (listed (records_in bytes - i) i bytes) → all ≡ some (puts [])
  unfolding listed
  listed-ends all puts so_far = so_far ∙ ap (λ (n : ℕ). lifted puts (listed n i bytes)) none_left

  pub alike-ends : (feature : ℕ) (all : Bool) → all ≡ alike (records_in bytes - i) i bytes feature → all ≡ true
  unfolding alike
  alike-ends feature all so_far = so_far ∙ ap (λ (n : ℕ). alike n i bytes feature) none_left

-- ---- a tail is a record too, and a malformed one
before_none : (p : Parsed) → before p none ≡ none
before_none (WellFormed e) = refl
before_none Malformed = refl

last_none : (left i : ℕ) (bytes : List ℕ) → heard (record_of bytes (left + i)) ≡ Malformed → listed (suc left) i bytes ≡ none
unfolding listed
last_none zero i bytes h =
    let e : 0 + i ≡ i = omega arith in
    ap (λ (p : Parsed). before p (some [])) (sym (ap (λ (n : ℕ). heard (record_of bytes n)) e) ∙ h)
last_none (suc left) i bytes h =
    let e : suc left + i ≡ left + (i + 1) = omega arith in
    ap (before (heard (record_of bytes i))) (last_none left (i + 1) bytes (sym (ap (λ (n : ℕ). heard (record_of bytes n)) e) ∙ h))
    ∙ before_none (heard (record_of bytes i))

pub tail_none : (bytes : List ℕ) → (length bytes % 64 ≡ 0 → ⊥) → events_in bytes ≡ none
tail_none bytes h =
    let m : ℕ = length bytes / 64 in
    let n : records_in bytes ≡ suc m = omega arith in
    let cut : length (record_of bytes (m + 0)) ≡ 64 → ⊥ = λ e. omega (arith, length-take 64 (drop (64 * (m + 0)) bytes), length-drop (64 * (m + 0)) bytes) in
    ap (λ (k : ℕ). listed k 0 bytes) n ∙ last_none m 0 bytes (not_whole (record_of bytes (m + 0)) cut)
