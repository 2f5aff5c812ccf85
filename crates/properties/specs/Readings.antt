-- What holds of every reading: what it may answer, and when it stops.
use Rattle.std.specs.Prelude.{◌≡◌, Bool, cond, ◌||◌, ℕ, zero, suc, ◌-◌, ◌^◌, ◌≤◌, ◌<◌, leb, length, take, drop}
use Rattle.std.proofs.Math.Path.{refl, ap}
use Rattle.std.proofs.Math.Bool.{true, false}
use mathlib.Core.List.{List, [], ◌∷◌, ◌++◌, Memᴰ}
use Rattle.std.proofs.Common.{arith, lit<, length-take}
use Rattle.std.proofs.Math.Nat.{pow-le-pow_right}
use Rattle.std.proofs.Math.Dec.{eqb}
use borrow.Author.Tests.{eqb-true, eqb-false, ne_eqb}
use Rattle.laws.specs.Every.{never}
use Rattle.laws.specs.Bytes.{word_at, Bytes, unle_lt, part_bytes}
use Rattle.laws.specs.Script.{Script, stop, say, out, run}
use Rattle.laws.specs.Cut.{number_of, records_of, room_of, said}
use Rattle.kinds.specs.declared.value.Value.{Value}
use Rattle.event_log.specs.Values.{values}
use Rattle.property_reader.specs.Reading.{Item, End, Refused, NotUtf8, Skipped, Found, item_at, on_item, on_up_to, on_from, on_bytes, end_script, end_place, keep_place, reading, bad_in, says, stopped}
use Rattle.property_reader.specs.ReadingLaws.{and_false, either, every_item}

-- the places that a reading comes to: the first, and the one behind a property that does not end it
pub data Reached (bytes columns : List ℕ) (last : ℕ) : ℕ → Type 0 where
  first : Reached bytes columns last 0
  skipped : {at next : ℕ} → Reached bytes columns last at → item_at bytes columns at ≡ Skipped next → Reached bytes columns last next
  found : {at next : ℕ} {value : Value} → Reached bytes columns last at → item_at bytes columns at ≡ Found value next → (value.column ≡ last → ⊥)
      → Reached bytes columns last next

-- what holds of every end, and is kept by a value that is said before it, holds of every reading, by what it has to say and the place of the bad byte
pub every-reading : (bytes : List ℕ) (has_columns : Bool) (columns : List ℕ) (last : ℕ) (P : Script Value → ℕ → Type 0) → P (stop 0) 0
    → ((at number : ℕ) → item_at (take 65536 bytes) columns at ≡ Refused number → P (stop number) 0)
    → ((at place : ℕ) → Reached (take 65536 bytes) columns last at → item_at (take 65536 bytes) columns at ≡ NotUtf8 place → P (stop 6) place)
    → ((at next : ℕ) (value : Value) (s : Script Value) (place : ℕ) → item_at (take 65536 bytes) columns at ≡ Found value next
    → (eqb value.column last ≡ true → s ≡ stop 0) → P s place → P (say value s) place)
    → P (reading bytes has_columns columns last) (bad_in bytes has_columns columns last)
unfolding on_bytes on_from on_up_to on_item
every-reading bytes has_columns columns last P ends refused bad says = with_columns has_columns
  where
    named : (t : Bool) (s : Script Value) → t ≡ true → cond t (stop 0) s ≡ stop 0
    named t s e = rw e

    unless_named : (value : Value) (t : Bool) → eqb value.column last ≡ t → {s : Script Value} {place : ℕ} → ((value.column ≡ last → ⊥) → P s place) → P (cond t (stop 0) s) (cond t 0 place)
    unless_named value true e later = ends
    unless_named value false e later = later (eqb-false value.column last e)

    on : (script : ℕ → Script Value) (place : ℕ → ℕ) → ((next : ℕ) → Reached (take 65536 bytes) columns last next → P (script next) (place next))
        → (at : ℕ) → Reached (take 65536 bytes) columns last at → (i : Item) → item_at (take 65536 bytes) columns at ≡ i
        → P (on_item end_script say last script i) (on_item end_place keep_place last place i)
    on script place p at r End e = ends
    on script place p at r (Refused number) e = refused at number e
    on script place p at r (NotUtf8 there) e = bad at there r e
    on script place p at r (Skipped next) e = p next (skipped r e)
    on script place p at r (Found value next) e =
        let t : Bool = eqb value.column last in
        says at next value (cond t (stop 0) (script next)) (cond t 0 (place next)) e (named t (script next)) (unless_named value t refl (λ other. p next (found r e other)))

    up_to : (most at : ℕ) → Reached (take 65536 bytes) columns last at
        → P (on_up_to end_script say most (take 65536 bytes) columns last at) (on_up_to end_place keep_place most (take 65536 bytes) columns last at)
    up_to zero at r = ends
    up_to (suc most) at r =
        on (on_up_to end_script say most (take 65536 bytes) columns last) (on_up_to end_place keep_place most (take 65536 bytes) columns last) (up_to most) at r
        (item_at (take 65536 bytes) columns at) refl

    with_columns : (t : Bool) → P (reading bytes t columns last) (bad_in bytes t columns last)
    with_columns true = up_to (length (take 65536 bytes) - 0) 0 first
    with_columns false = ends

-- a reading answers 0 or one of four refusals

abbrev pub refusals : List ℕ
refusals = 2 ∷ 14 ∷ 6 ∷ 9 ∷ []

RefusesAs : Item → Type 0
RefusesAs End = Unit
RefusesAs (Refused number) = Memᴰ number refusals
RefusesAs (NotUtf8 place) = Unit
RefusesAs (Skipped next) = Unit
RefusesAs (Found value next) = Unit

refuses : (bytes columns : List ℕ) (at : ℕ) → RefusesAs (item_at bytes columns at)
unfolding RefusesAs
refuses bytes columns at =
    every_item RefusesAs bytes columns at tt (Memᴰ.head refl) (Memᴰ.tail (Memᴰ.head refl)) (λ listed whole fails. tt) (λ next h l. tt) (λ kind len word next h l. tt)

-- the last of some values has this column
pub record EndsIn (column : ℕ) (l : List Value) : Type 0 where
  pub front : List Value
  pub value : Value
  pub same : l ≡ front ++ (value ∷ [])
  pub named : value.column ≡ column

module _ (bytes : List ℕ) (has_columns : Bool) (columns : List ℕ) (last : ℕ) where
  ends_as : Memᴰ (number_of (reading bytes has_columns columns last)) (0 ∷ refusals)
  unfolding number_of RefusesAs
  ends_as =
      every-reading bytes has_columns columns last (λ s place. Memᴰ (number_of s) (0 ∷ refusals)) (Memᴰ.head refl)
      (λ at number e. Memᴰ.tail (rw e at (refuses (take 65536 bytes) columns at))) (λ at place r e. Memᴰ.tail (Memᴰ.tail (Memᴰ.tail (Memᴰ.head refl))))
      (λ at next value s place e f h. h)

  pub answers_as : (log after : List ℕ) (number count : ℕ) → run values (reading bytes has_columns columns last) log 0 ≡ out number count after
      → Memᴰ number (0 ∷ refusals)
  answers_as log after number count h =
      rw (said values h).number_is
      (either (λ n. Memᴰ n (0 ∷ refusals)) (leb (length (records_of (reading bytes has_columns columns last))) (room_of values.wide log)) _ _ (λ e. ends_as)
      (λ e. Memᴰ.tail (Memᴰ.tail (Memᴰ.tail (Memᴰ.tail (Memᴰ.head refl))))))

  -- no refusal comes after the named column's value
  pub stops_done : says last (reading bytes has_columns columns last) ≡ true → number_of (reading bytes has_columns columns last) ≡ 0
  unfolding number_of says
  stops_done =
      every-reading bytes has_columns columns last (λ s place. says last s ≡ true → number_of s ≡ 0) (λ e. refl) (λ at number e h. absurd (never h)) (λ at place r e h. absurd (never h))
      (λ at next value s place e f later. go (eqb value.column last) s f later)
    where
      go : (t : Bool) (s : Script Value) → (t ≡ true → s ≡ stop 0) → (says last s ≡ true → number_of s ≡ 0) → (t || says last s) ≡ true → number_of s ≡ 0
      go true s f later h = ap number_of (f refl)
      go false s f later h = later h

  -- no value comes after the named column's value
  pub stops_last : says last (reading bytes has_columns columns last) ≡ true → EndsIn last (records_of (reading bytes has_columns columns last))
  unfolding records_of says
  stops_last =
      every-reading bytes has_columns columns last (λ s place. says last s ≡ true → EndsIn last (records_of s)) (λ h. absurd (never h)) (λ at number e h. absurd (never h)) (λ at place r e h. absurd (never h))
      (λ at next value s place e f later. go value (eqb value.column last) refl s f later)
    where
      go : (value : Value) (t : Bool) → eqb value.column last ≡ t → (s : Script Value) → (eqb value.column last ≡ true → s ≡ stop 0)
          → (says last s ≡ true → EndsIn last (records_of s)) → (t || says last s) ≡ true → EndsIn last (value ∷ records_of s)
      go value true e s f later h = record { front = []; value = value; same = rw (f e); named = eqb-true value.column last e }
      go value false e s f later h =
          let r = later h in
          record {
            front = value ∷ r.front;
            value = r.value;
            same = ap (λ (l : List Value). value ∷ l) r.same;
            named = r.named;
          }

-- from 65,536 on no column is named (SPEC 9.11): two bytes name no such column

ColumnIs : ℕ → Item → Type 0
ColumnIs column End = Unit
ColumnIs column (Refused number) = Unit
ColumnIs column (NotUtf8 place) = Unit
ColumnIs column (Skipped next) = Unit
ColumnIs column (Found value next) = value.column ≡ column

column_is : (bytes columns : List ℕ) (at : ℕ) → ColumnIs (word_at 2 bytes at) (item_at bytes columns at)
unfolding ColumnIs
column_is bytes columns at = every_item (ColumnIs (word_at 2 bytes at)) bytes columns at tt tt tt (λ listed whole fails. tt) (λ next h l. tt) (λ kind len word next h l. refl)

column_small : (bytes : List ℕ) (at : ℕ) → Bytes bytes → word_at 2 bytes at < 65536
column_small bytes at b =
    let part : List ℕ = take 2 (drop at bytes) in
    let short : length part ≤ 2 = omega (arith, length-take 2 (drop at bytes)) in
    let most : 256 ^ length part ≤ 256 ^ 2 = pow-le-pow_right (lit< tt) short in
    omega (arith, unle_lt part (part_bytes 2 at bytes b))

pub never_stops : (bytes : List ℕ) (has_columns : Bool) (columns : List ℕ) (last number : ℕ) → Bytes bytes → 65536 ≤ last
    → stopped last (reading bytes has_columns columns last) number ≡ false
unfolding stopped says ColumnIs
never_stops bytes has_columns columns last number b h =
    and_false (eqb number 0) _
    (every-reading bytes has_columns columns last (λ s place. says last s ≡ false) refl (λ at number e. refl) (λ at place r e. refl)
    (λ at next value s place e f later.
    let same : value.column ≡ word_at 2 (take 65536 bytes) at = rw e at (column_is (take 65536 bytes) columns at) in
    let small = column_small (take 65536 bytes) at (part_bytes 65536 0 bytes b) in
    rw (ne_eqb value.column last (λ named. omega arith)) later))
