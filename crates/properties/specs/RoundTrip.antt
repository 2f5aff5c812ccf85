-- Any list of accepted properties, written one behind the other and read with the columns' own types, gives the same values in order.
use Rattle.std.specs.Prelude.{◌≡◌, refl, true, List, [], ◌∷◌, ◌++◌, get_or, take, drop, replicate}
use Rattle.std.proofs.Common.{sym, ap, ◌∙◌, append_assoc, append-nil, lit<, length-append, length-take}
use Rattle.std.proofs.Math.Bool.{false}
use Prim.Native.Nat.{ℕ, suc, ◌+◌, ◌≤◌, ◌<◌}
use native.Mathlib.Omega.{arith}
use Rattle.std.proofs.Math.Dec.{eqb}
use Rattle.std.proofs.Math.ListN.{length}
use Rattle.std.proofs.Math.Seq.{length-sets}
use borrow.Author.Tests.{ne_eqb, le-ltb}
use Rattle.laws.specs.Bytes.{le}
use Rattle.laws.specs.Script.{Script, stop, say}
use Rattle.kinds.specs.declared.value.Value.{Value}
use Rattle.utf8.specs.Utf8.{is_utf8, first_bad, run, char_length, row_of, begins, has}
use Rattle.property_value.specs.Column.{width_of, is_text}
use Rattle.property_writer.specs.Writing.{PropertyPut, text_bytes, laid_down, property_bytes, refusal_of, put_of, bytes_after}
use Rattle.property_value.specs.Value.{malformed, text_ok}
use Rattle.property_writer.specs.WritingLaws.{value_text, Accepted, accepted, put-done, bytes-done, used-then}
use Rattle.property_reader.specs.Reading.{properties_from, reading}
use Rattle.properties.specs.ReadBack.{part_here, Writable, value_back, read_back}
use Rattle.property_reader.specs.ReadingLaws.{read-end, read_whole}

-- what is handed to one write
pub record Property : Type 0 where
  pub column : ℕ
  pub kind : ℕ
  pub bits : ℕ
  pub text : List ℕ

abbrev pub bytes_of : Property → List ℕ
bytes_of p = property_bytes p.column p.kind p.bits p.text

-- ---- a row of writes, each into what the last left or into any buffer that agrees with it on what is used
pub data Wrote : List ℕ → ℕ → List Property → List ℕ → ℕ → Type 0 where
  none : {buffer : List ℕ} {used : ℕ} → Wrote buffer used [] buffer used
  one : {buffer after : List ℕ} {used then : ℕ} {p : Property} {ps : List Property} (lends : List ℕ)
      → take used lends ≡ take used buffer
      → refusal_of false used p.column p.kind p.bits p.text (length lends) ≡ 0
      → Wrote (bytes_after false used p.column p.kind p.bits p.text lends) (put_of false used p.column p.kind p.bits p.text lends).used ps after then
      → Wrote buffer used (p ∷ ps) after then

-- a write more
pub one_more_lem : {buffer after : List ℕ} {used then : ℕ} {ps : List Property} (p : Property) (lends : List ℕ) → Wrote buffer used ps after then
    → take then lends ≡ take then after → refusal_of false then p.column p.kind p.bits p.text (length lends) ≡ 0
    → Wrote buffer used (ps ++ p ∷ []) (bytes_after false then p.column p.kind p.bits p.text lends) (put_of false then p.column p.kind p.bits p.text lends).used
one_more_lem p lends none same done = one lends same done none
one_more_lem p lends (one before agrees taken rest) same done = one before agrees taken (one_more_lem p lends rest same done)

-- the column list gives each property's column its type
pub data Typed (columns : List ℕ) : List Property → Type 0 where
  none : Typed columns []
  one : {p : Property} {ps : List Property} → p.column < length columns → get_or columns p.column 0 ≡ p.kind → Typed columns ps → Typed columns (p ∷ ps)

-- the values to be read, the first property's bytes starting at a place
abbrev pub values_from : ℕ → List Property → List Value
values_from at [] = []
values_from at (p ∷ ps) = value_back p.column p.kind p.bits p.text (at + 2) ∷ values_from (at + length (bytes_of p)) ps

abbrev pub saying : List Value → Script Value
saying [] = stop 0
saying (v ∷ vs) = say v (saying vs)

abbrev pub joined : List Property → List ℕ
joined [] = []
joined (p ∷ ps) = bytes_of p ++ joined ps

-- what one accepted write may be read by
writable : (columns : List ℕ) (p : Property) {used lent : ℕ} → Accepted false used p.column p.kind p.bits p.text lent
    → p.column < length columns → get_or columns p.column 0 ≡ p.kind → Writable columns p.column p.kind p.bits p.text
writable columns p a listed typed =
    record {
      index = a.index;
      listed = listed;
      typed = typed;
      known = a.known;
      number = λ h. (a.exact.number (omega arith), a.truth);
      sound = λ h. (a.exact.count h, a.utf8);
    }

-- ---- what one write leaves
module _ (used : ℕ) (p : Property) (lends : List ℕ) (done : refusal_of false used p.column p.kind p.bits p.text (length lends) ≡ 0) where
  abbrev left : List ℕ
  left = bytes_after false used p.column p.kind p.bits p.text lends

  fits : Accepted false used p.column p.kind p.bits p.text (length lends)
  fits = accepted false used p.column p.kind p.bits p.text (length lends) done

  grown : (put_of false used p.column p.kind p.bits p.text lends).used ≡ used + length (bytes_of p)
  grown = ap (λ (r : PropertyPut). r.used) (put-done false used p.column p.kind p.bits p.text lends done)

  long : length left ≡ length lends
  long = ap length (bytes-done false used p.column p.kind p.bits p.text lends done) ∙ length-sets lends used (bytes_of p)

  front : take (used + length (bytes_of p)) left ≡ take used lends ++ bytes_of p
  front = used-then false used p.column p.kind p.bits p.text lends done

-- ---- the bytes that are used at the end
record Used (buffer : List ℕ) (used : ℕ) (ps : List Property) (after : List ℕ) (then : ℕ) : Type 0 where
  bytes : take then after ≡ take used buffer ++ joined ps
  within : then ≤ length after
  usable : then ≤ 65536

used-bytes : {buffer after : List ℕ} {used then : ℕ} {ps : List Property} → Wrote buffer used ps after then → used ≤ length buffer → used ≤ 65536 → Used buffer used ps after then
used-bytes {buffer} {used = used} none h k = record { bytes = sym (append-nil (take used buffer)); within = h; usable = k }
used-bytes (one {buffer = buffer} {used = used} {p = p} {ps = ps} lends same done rest) h k =
    let a = fits used p lends done in
    let g = grown used p lends done in
    let later = used-bytes rest (omega (arith, long used p lends done, a.room)) (omega (arith, a.usable)) in
    record {
      bytes = later.bytes ∙ rw (g, front used p lends done, same) (append_assoc (take used buffer) (bytes_of p) (joined ps));
      within = later.within;
      usable = later.usable;
    }

-- they are the properties' bytes, in order
pub bytes-joined : {buffer after : List ℕ} {then : ℕ} {ps : List Property} → Wrote buffer 0 ps after then → take then after ≡ joined ps
bytes-joined wrote = (used-bytes wrote (omega arith) (omega arith)).bytes

joined_split : (before : List Property) (p : Property) (behind : List Property) → joined (before ++ p ∷ behind) ≡ joined before ++ (bytes_of p ++ joined behind)
joined_split [] p behind = refl
joined_split (q ∷ before) p behind = ap (λ (l : List ℕ). bytes_of q ++ l) (joined_split before p behind) ∙ sym (append_assoc (bytes_of q) (joined before) (bytes_of p ++ joined behind))

-- the value of a property behind others, and the values on both sides of it
abbrev pub value_after : List Property → Property → Value
value_after before p = value_back p.column p.kind p.bits p.text (length (joined before) + 2)

values_split : (at : ℕ) (before : List Property) (p : Property) (behind : List Property)
    → values_from at (before ++ p ∷ behind) ≡ values_from at before ++ values_from (at + length (joined before)) (p ∷ behind)
values_split at [] p behind = ap (λ (n : ℕ). values_from n (p ∷ behind)) (omega arith)
values_split at (q ∷ before) p behind =
    let place : at + length (bytes_of q) + length (joined before) ≡ at + length (bytes_of q ++ joined before) = omega (arith, length-append (bytes_of q) (joined before)) in
    ap (λ (vs : List Value). value_back q.column q.kind q.bits q.text (at + 2) ∷ vs)
    (values_split (at + length (bytes_of q)) before p behind ∙ ap (λ (n : ℕ). values_from (at + length (bytes_of q)) before ++ values_from n (p ∷ behind)) place)

text_bytes_lem : (before : List Property) (p : Property) (behind : List Property) → 11 ≤ p.kind → take (length p.text) (drop (length (joined before) + 6) (joined (before ++ p ∷ behind))) ≡ p.text
unfolding property_bytes text_bytes
text_bytes_lem before p behind h =
    let head : List ℕ = le 2 p.column ++ le 4 (length p.text) in
    let bytes : bytes_of p ≡ head ++ p.text = ap (λ (l : List ℕ). le 2 p.column ++ l) (value_text p.kind p.bits p.text h) in
    let all : joined (before ++ p ∷ behind) ≡ (joined before ++ head) ++ (p.text ++ joined behind)
    = joined_split before p behind ∙ ap (λ (l : List ℕ). joined before ++ (l ++ joined behind)) bytes ∙ ap (λ (l : List ℕ). joined before ++ l) (append_assoc head p.text (joined behind)) ∙ sym (append_assoc (joined before) head (p.text ++ joined behind)) in
    let long : length (joined before ++ head) ≡ length (joined before) + 6 = length-append (joined before) head in
    rw (all, ← long) (part_here (joined before ++ head) p.text (joined behind) refl)

-- a text stands where its value says
pub text_there : (before : List Property) (p : Property) (behind : List Property) → 11 ≤ p.kind
    → (let v = value_after before p in (values_from 0 (before ++ p ∷ behind) ≡ values_from 0 before ++ v ∷ values_from (length (joined before) + length (bytes_of p)) behind) × (take v.len (drop v.word (joined (before ++ p ∷ behind))) ≡ p.text))
unfolding value_back
text_there before p behind h =
    let place : length (joined before) + 2 + 4 ≡ length (joined before) + 6 = omega arith in
    let from_zero : 0 + length (joined before) ≡ length (joined before) = omega arith in (
      values_split 0 before p behind ∙ ap (λ (n : ℕ). values_from 0 before ++ values_from n (p ∷ behind)) from_zero,
      rw (le-ltb p.kind 11 h, place) (text_bytes_lem before p behind h),
    )

-- ---- read where they stand
module _ (columns : List ℕ) (last : ℕ) (none_named : 65536 ≤ last) where
  next : (p : Property) (ps : List Property) (before : List ℕ) → Writable columns p.column p.kind p.bits p.text
      → properties_from (before ++ (bytes_of p ++ joined ps)) columns last (length before + length (bytes_of p)) ≡ saying (values_from (length before + length (bytes_of p)) ps)
      → properties_from (before ++ (bytes_of p ++ joined ps)) columns last (length before) ≡ saying (values_from (length before) (p ∷ ps))
  unfolding property_bytes
  next p ps before w later =
      let value : Value = value_back p.column p.kind p.bits p.text (length before + 2) in
      let other : eqb p.column last ≡ false = ne_eqb p.column last (λ e. omega (arith, w.index)) in
      let n : ℕ = length (laid_down p.kind p.bits p.text) in
      let place : length before + 2 + n ≡ length before + suc (suc n) = omega arith in
      read_back columns p.column p.kind p.bits p.text w last before (joined ps) ∙ rw (other, place) (ap (say value) later)

  read-from : {buffer after : List ℕ} {used then : ℕ} {ps : List Property} → Wrote buffer used ps after then → Typed columns ps
      → (before : List ℕ) → properties_from (before ++ joined ps) columns last (length before) ≡ saying (values_from (length before) ps)
  read-from none none before = rw (append-nil before) (read-end before columns last)
  read-from (one {used = used} lends same done rest) (one {p = p} {ps = ps} listed typed others) before =
      let a = fits used p lends done in
      let here : properties_from (before ++ (bytes_of p ++ joined ps)) columns last (length before + length (bytes_of p)) ≡ saying (values_from (length before + length (bytes_of p)) ps)
      = rw (append_assoc before (bytes_of p) (joined ps), length-append before (bytes_of p)) at (read-from rest others (before ++ bytes_of p)) in
      next p ps before (writable columns p a listed typed) here

-- the values are said in order, and reading is done
pub round_trip : {buffer after : List ℕ} {then : ℕ} {ps : List Property} → Wrote buffer 0 ps after then → (columns : List ℕ) → Typed columns ps
    → (last : ℕ) → 65536 ≤ last → reading (take then after) true columns last ≡ saying (values_from 0 ps)
round_trip {buffer} {after} {then} {ps} wrote columns typed last h =
    let used = used-bytes wrote (omega arith) (omega arith) in
    let short : length (take then after) ≤ 65536 = omega (arith, length-take then after, used.usable) in
    read_whole (take then after) columns last short
    ∙ ap (λ (bytes : List ℕ). properties_from bytes columns last 0) used.bytes
    ∙ read-from columns last h wrote typed []

-- ---- such rows there are: an Int and a String, each into a buffer with other bytes behind what is used
abbrev int : Property
int = record { column = 0; kind = 5; bits = 7; text = [] }

abbrev name : Property
name = record { column = 1; kind = 11; bits = 0; text = 0x61 ∷ [] }

abbrev fresh : List ℕ
fresh = replicate 20 0xaa

abbrev lends_again : List ℕ
lends_again = 0 ∷ 0 ∷ 7 ∷ 0 ∷ 0 ∷ 0 ∷ replicate 10 0xbb

a_row : Wrote fresh 0 (int ∷ name ∷ []) (bytes_after false 6 1 11 0 (0x61 ∷ []) lends_again) 13
unfolding refusal_of malformed text_ok put_of bytes_after property_bytes laid_down text_bytes width_of is_text is_utf8 first_bad run char_length row_of begins has
a_row = one fresh refl refl (one lends_again refl refl none)

a_row_typed : Typed (5 ∷ 11 ∷ []) (int ∷ name ∷ [])
a_row_typed = one (lit< tt) refl (one (lit< tt) refl none)
