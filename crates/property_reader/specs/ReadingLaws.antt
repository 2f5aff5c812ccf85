-- Laws of what may stand at a place, and of a reading that goes on from one.
use Rattle.std.specs.Prelude.{◌≡◌, Bool, true, false, cond, not, ◌&&◌, List, leb, ltb, get_or, take, drop}
use Rattle.std.proofs.Math.Path.{refl, sym}
use Rattle.std.proofs.Common.{◌∙◌, arith, take_all}
use Prim.Native.Nat.{ℕ, zero, suc, ◌+◌, ◌-◌, ◌≤◌, ◌<◌}
use Rattle.std.proofs.Math.ListN.{length}
use borrow.Author.Tests.{ltb-false, leb-false, lt-ltb, not-true}
use Rattle.laws.specs.Bytes.{word_at}
use Rattle.laws.specs.Script.{stop, say}
use Rattle.kinds.specs.declared.value.Value.{Value}
use Rattle.utf8.specs.Utf8.{first_bad}
use Rattle.property_value.specs.Column.{width_of}
use Rattle.property_value.specs.Value.{text_ok}
use Rattle.property_reader.specs.Reading.{Item, End, Refused, NotUtf8, Skipped, Found, value_of, number_at, bytes_at, text_at, value_at, item_at, on_item, on_up_to, on_from, on_bytes, end_script, properties_from, reading}

pub and_false : (t u : Bool) → u ≡ false → (t && u) ≡ false
and_false true u e = e
and_false false u e = refl

-- ---- what may stand at a place

pub either : {A : Type 0} (P : A → Type 0) (t : Bool) (x y : A) → (t ≡ true → P x) → (t ≡ false → P y) → P (cond t x y)
either P true x y f g = f refl
either P false x y f g = g refl

-- where the bytes of a text start that is a property's at a place; these bytes, by the four of their length; and its column's type
abbrev pub text_start : ℕ → ℕ
text_start at = at + 2 + 4

abbrev pub text_in : List ℕ → ℕ → List ℕ
text_in bytes at = take (word_at 4 bytes (at + 2)) (drop (text_start at) bytes)

abbrev pub type_at : List ℕ → List ℕ → ℕ → ℕ
type_at bytes columns at = get_or columns (word_at 2 bytes at) 0

-- what holds of every item that may stand at a place holds of the one that does
module _ (P : Item → Type 0) (bytes : List ℕ) (at column kind : ℕ) (room : at + 2 ≤ length bytes) (cut : P (Refused 14))
    (bad : text_start at + word_at 4 bytes (at + 2) ≤ length bytes → text_ok kind (text_in bytes at) ≡ false → P (NotUtf8 (first_bad (text_in bytes at))))
    (found : (len word next : ℕ) → at < next → next ≤ length bytes → P (Found (value_of column kind len word) next)) where
  every-number : P (number_at bytes column kind (at + 2))
  unfolding number_at
  every-number =
      either P (ltb (length bytes - (at + 2)) (width_of kind)) _ _ (λ e. cut)
      (λ e. let k = ltb-false (length bytes - (at + 2)) (width_of kind) e in found _ _ (at + 2 + width_of kind) (omega arith) (omega arith))

  every-bytes : text_start at ≤ length bytes → P (bytes_at bytes column kind (text_start at) (word_at 4 bytes (at + 2)))
  unfolding bytes_at
  every-bytes h =
      let len : ℕ = word_at 4 bytes (at + 2) in
      either P (ltb (length bytes - text_start at) len) _ _ (λ e. cut)
      (λ e.
      let k = ltb-false (length bytes - text_start at) len e in
      either P (not (text_ok kind (text_in bytes at))) _ _ (λ f. bad (omega arith) (not-true (text_ok kind (text_in bytes at)) f))
      (λ f. found _ _ (text_start at + len) (omega arith) (omega arith)))

  every_text : P (text_at bytes column kind (at + 2))
  unfolding text_at
  every_text =
      either P (ltb (length bytes - (at + 2)) 4) _ _ (λ e. cut)
      (λ e. let k = ltb-false (length bytes - (at + 2)) 4 e in every-bytes (omega arith))

  every_value : P (Skipped (at + 2)) → P (value_at bytes column kind (at + 2))
  unfolding value_at
  every_value skipped = either P (ltb 14 kind) _ _ (λ e. skipped) (λ e. either P (ltb kind 11) _ _ (λ f. every-number) (λ f. every_text))

pub every_item : (P : Item → Type 0) (bytes columns : List ℕ) (at : ℕ) → P End → P (Refused 2) → P (Refused 14)
    → (word_at 2 bytes at < length columns → text_start at + word_at 4 bytes (at + 2) ≤ length bytes → text_ok (type_at bytes columns at) (text_in bytes at) ≡ false
    → P (NotUtf8 (first_bad (text_in bytes at))))
    → ((next : ℕ) → at < next → next ≤ length bytes → P (Skipped next))
    → ((kind len word next : ℕ) → at < next → next ≤ length bytes → P (Found (value_of (word_at 2 bytes at) kind len word) next))
    → P (item_at bytes columns at)
unfolding item_at
every_item P bytes columns at ended unknown cut bad skipped found =
    either P (ltb (length bytes - at) 2) _ _ (λ e. ended)
    (λ e.
    let k = ltb-false (length bytes - at) 2 e in
    either P (leb (length columns) (word_at 2 bytes at)) _ _ (λ f. unknown)
    (λ f.
    let kind : ℕ = type_at bytes columns at in
    let listed = leb-false (length columns) (word_at 2 bytes at) f in
    every_value P bytes at (word_at 2 bytes at) kind (omega arith) cut (bad listed) (found kind) (skipped (at + 2) (omega arith) (omega arith))))

-- a reading moves on, and stays within the bytes
unfoldable pub Ahead : ℕ → ℕ → Item → Type 0
Ahead at n End = Unit
Ahead at n (Refused number) = Unit
Ahead at n (NotUtf8 place) = Unit
Ahead at n (Skipped next) = (at < next) × (next ≤ n)
Ahead at n (Found value next) = (at < next) × (next ≤ n)

pub ahead : (bytes columns : List ℕ) (at : ℕ) → Ahead at (length bytes) (item_at bytes columns at)
unfolding Ahead
ahead bytes columns at = every_item (Ahead at (length bytes)) bytes columns at tt tt tt (λ listed whole fails. tt) (λ next h l. (h, l)) (λ kind len word next h l. (h, l))

-- ---- unrolled

item_end : (bytes columns : List ℕ) (at : ℕ) → length bytes ≤ at → item_at bytes columns at ≡ End
unfolding item_at
item_end bytes columns at h = let l : length bytes - at < 2 = omega arith in rw (lt-ltb (length bytes - at) 2 l)

module _ {R : Type 0} (ended : ℕ → ℕ → R) (said : Value → R → R) where
  on_same : (last at n : ℕ) (f g : ℕ → R) (i : Item) → Ahead at n i → ((next : ℕ) → at < next → next ≤ n → f next ≡ g next)
      → on_item ended said last f i ≡ on_item ended said last g i
  unfolding on_item Ahead
  on_same last at n f g End a same = refl
  on_same last at n f g (Refused number) a same = refl
  on_same last at n f g (NotUtf8 place) a same = refl
  on_same last at n f g (Skipped next) a same = same next a.0 a.1
  on_same last at n f g (Found value next) a same = rw (same next a.0 a.1)

  module _ (bytes columns : List ℕ) (last : ℕ) where
    abbrev up_to : ℕ → ℕ → R
    up_to most = on_up_to ended said most bytes columns last

    abbrev from : ℕ → R
    from = on_from ended said bytes columns last

    up_to_end : (most at : ℕ) → length bytes ≤ at → up_to most at ≡ ended 0 0
    unfolding on_up_to on_item
    up_to_end zero at h = refl
    up_to_end (suc most) at h = rw (item_end bytes columns at h)

    -- more than enough is no more
    up_to_same : (m n at : ℕ) → length bytes ≤ at + m → length bytes ≤ at + n → up_to m at ≡ up_to n at
    unfolding on_up_to
    up_to_same zero n at h k = sym (up_to_end n at (omega arith))
    up_to_same (suc m) zero at h k = up_to_end (suc m) at (omega arith)
    up_to_same (suc m) (suc n) at h k =
        on_same last at (length bytes) (up_to m) (up_to n) (item_at bytes columns at) (ahead bytes columns at) (λ next a b. up_to_same m n next (omega arith) (omega arith))

    pub on_unrolled : (at : ℕ) → from at ≡ on_item ended said last from (item_at bytes columns at)
    unfolding on_from on_up_to
    on_unrolled at =
        up_to_same (length bytes - at) (suc (length bytes)) at (omega arith) (omega arith)
        ∙ on_same last at (length bytes) (up_to (length bytes)) from (item_at bytes columns at) (ahead bytes columns at)
        (λ next a b. up_to_same (length bytes) (length bytes - next) next (omega arith) (omega arith))

    on_end : from (length bytes) ≡ ended 0 0
    unfolding on_from
    on_end = up_to_end (length bytes - length bytes) (length bytes) (omega arith)

    -- what is no longer than the usable room is read whole
    on_whole : length bytes ≤ 65536 → on_bytes ended said bytes true columns last ≡ from 0
    unfolding on_bytes
    on_whole h = rw (take_all 65536 bytes h)

-- for what a reading has to say

pub unrolled : (bytes columns : List ℕ) (last at : ℕ) → properties_from bytes columns last at ≡ on_item end_script say last (properties_from bytes columns last) (item_at bytes columns at)
unrolled = on_unrolled end_script say

pub read-end : (bytes columns : List ℕ) (last : ℕ) → properties_from bytes columns last (length bytes) ≡ stop 0
read-end = on_end end_script say

pub read_whole : (bytes columns : List ℕ) (last : ℕ) → length bytes ≤ 65536 → reading bytes true columns last ≡ properties_from bytes columns last 0
read_whole = on_whole end_script say
