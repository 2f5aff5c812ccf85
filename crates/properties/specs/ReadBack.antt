-- What stands at a place where a written value was laid down is that value.
use Rattle.std.specs.Prelude.{◌≡◌, Bool, List, ◌++◌, eqb, get_or, take, drop}
use Rattle.std.proofs.Math.Path.{refl}
use Rattle.std.proofs.Common.{ap, ◌∙◌, append_assoc, length-append, take_at}
use Rattle.std.proofs.Math.Bool.{true, false, cond}
use Prim.Native.Nat.{ℕ, suc, ◌+◌, ◌-◌, ◌^◌, ◌≤◌, ◌<◌}
use native.Mathlib.Omega.{arith}
use Rattle.std.proofs.Math.Dec.{ltb}
use Rattle.std.proofs.Math.ListN.{length}
use Rattle.std.proofs.Math.Seq.{drop-append_seam}
use borrow.Author.Tests.{ltb-true, ltb-false, le-ltb, lt-leb}
use Rattle.laws.specs.Bytes.{le, unle, length-le, unle-le}
use Rattle.laws.specs.Script.{stop, say}
use Rattle.kinds.specs.declared.value.Value.{Value}
use Rattle.property_value.specs.Column.{width_of}
use Rattle.property_value.specs.Value.{text_ok, word_of}
use Rattle.property_value.specs.ValueLaws.{word_back}
use Rattle.property_writer.specs.Writing.{text_bytes, laid_down}
use Rattle.property_writer.specs.WritingLaws.{value_text, value_number}
use Rattle.property_reader.specs.Reading.{Found, value_of, number_at, bytes_at, text_at, value_at, item_at, on_item, properties_from}
use Rattle.property_reader.specs.ReadingLaws.{unrolled}

there : (front x : List ℕ) {n : ℕ} → length x ≡ n → length (front ++ x) ≡ length front + n
there front x e = length-append front x ∙ ap (λ (k : ℕ). length front + k) e

reaches : (front x rest : List ℕ) {n : ℕ} → length x ≡ n → n ≤ length (front ++ (x ++ rest)) - length front
reaches front x rest e = simp length-append (omega arith)

pub part_here : (front x rest : List ℕ) {n : ℕ} → length x ≡ n → take n (drop (length front) (front ++ (x ++ rest))) ≡ x
part_here front x rest {n} e = rw (drop-append_seam front (x ++ rest)) (take_at x rest n e)

module _ (column kind : ℕ) where
  number_back : (front rest : List ℕ) (bits : ℕ) → bits < 256 ^ width_of kind
      → number_at (front ++ (le (width_of kind) bits ++ rest)) column kind (length front) ≡ Found (value_of column kind (width_of kind) (word_of kind bits)) (length front + width_of kind)
  unfolding number_at
  number_back front rest bits h =
      let long = length-le (width_of kind) bits in
      rw (le-ltb _ _ (reaches front (le (width_of kind) bits) rest long), part_here front (le (width_of kind) bits) rest long, unle-le (width_of kind) bits h)

  bytes_back : (front text rest : List ℕ) → text_ok kind text ≡ true
      → bytes_at (front ++ (text ++ rest)) column kind (length front) (length text) ≡ Found (value_of column kind (length text) (length front)) (length front + length text)
  unfolding bytes_at
  bytes_back front text rest h = rw (le-ltb _ _ (reaches front text rest refl), part_here front text rest refl, h)

  text_back : (front size text rest : List ℕ) → length size ≡ 4 → unle size ≡ length text → text_ok kind text ≡ true
      → text_at (front ++ (size ++ (text ++ rest))) column kind (length front) ≡ Found (value_of column kind (length text) (length front + 4)) (length front + 4 + length text)
  unfolding text_at
  text_back front size text rest long e h =
      rw (le-ltb _ _ (reaches front size (text ++ rest) long), part_here front size (text ++ rest) long, e)
      (rw (append_assoc, there front size long) at (bytes_back (front ++ size) text rest h))

-- the value that is read where it was laid down from `start` on
unfoldable pub value_back : ℕ → ℕ → ℕ → List ℕ → ℕ → Value
value_back column kind bits text start = value_of column kind (cond (ltb kind 11) (width_of kind) (length text)) (cond (ltb kind 11) bits (start + 4))

-- what may be written of a type, with the column list that it is read by
pub record Writable (columns : List ℕ) (column kind bits : ℕ) (text : List ℕ) : Type 0 where
  pub index : column < 65536
  pub listed : column < length columns
  pub typed : get_or columns column 0 ≡ kind
  pub known : kind ≤ 14
  pub number : kind < 11 → (bits < 256 ^ width_of kind) × (kind ≡ 2 → bits ≤ 1)
  pub sound : 11 ≤ kind → (length text < 256 ^ 4) × (text_ok kind text ≡ true)

module _ (columns : List ℕ) (column kind bits : ℕ) (text : List ℕ) (w : Writable columns column kind bits text) where
  value_back_lem : (front rest : List ℕ)
      → value_at (front ++ (laid_down kind bits text ++ rest)) column kind (length front)
      ≡ Found (value_back column kind bits text (length front)) (length front + length (laid_down kind bits text))
  unfolding value_at value_back text_bytes
  value_back_lem front rest = rw (le-ltb 14 kind w.known) (go (ltb kind 11) refl)
    where
      go : (t : Bool) → ltb kind 11 ≡ t
          → cond t (number_at (front ++ (laid_down kind bits text ++ rest)) column kind (length front)) (text_at (front ++ (laid_down kind bits text ++ rest)) column kind (length front))
          ≡ Found (value_of column kind (cond t (width_of kind) (length text)) (cond t bits (length front + 4))) (length front + length (laid_down kind bits text))
      go true e =
          let h = ltb-true kind 11 e in
          let n = w.number h in
          rw (value_number kind bits text h) (number_back column kind front rest bits n.0 ∙ rw (word_back kind bits n.1, length-le (width_of kind) bits))
      go false e =
          let h = ltb-false kind 11 e in
          let s = w.sound h in
          let k : length front + 4 + length text ≡ length front + suc (suc (suc (suc (length text)))) = omega arith in
          rw (value_text kind bits text h) (text_back column kind front (le 4 (length text)) text rest refl (unle-le 4 (length text) s.0) s.1 ∙ rw k)

  item_back : (front index rest : List ℕ) → length index ≡ 2 → unle index ≡ column
      → item_at (front ++ (index ++ (laid_down kind bits text ++ rest))) columns (length front)
      ≡ Found (value_back column kind bits text (length front + 2)) (length front + 2 + length (laid_down kind bits text))
  unfolding item_at
  item_back front index rest long e =
      rw (
        le-ltb _ _ (reaches front index (laid_down kind bits text ++ rest) long),
        part_here front index (laid_down kind bits text ++ rest) long,
        e,
        lt-leb (length columns) column w.listed,
        w.typed,
      )
      (rw (append_assoc, there front index long) at (value_back_lem (front ++ index) rest))

  -- there and back: the value is said, and the reading goes on after it
  pub read_back : (last : ℕ) (front rest : List ℕ)
      → properties_from (front ++ (le 2 column ++ (laid_down kind bits text ++ rest))) columns last (length front)
      ≡ say (value_back column kind bits text (length front + 2))
      (cond (eqb column last) (stop 0)
      (properties_from (front ++ (le 2 column ++ (laid_down kind bits text ++ rest))) columns last (length front + 2 + length (laid_down kind bits text))))
  unfolding on_item value_back
  read_back last front rest =
      unrolled (front ++ (le 2 column ++ (laid_down kind bits text ++ rest))) columns last (length front)
      ∙ rw (item_back front (le 2 column) rest refl (unle-le 2 column w.index))
