-- Property bytes that are read though the format has no such buffer. Each is the smallest, computed.
use Rattle.std.specs.Prelude.{◌≡◌, refl, true, List, [], ◌∷◌, ◌++◌, ℕ, ◌≤◌, ◌<◌, length}
use Rattle.std.proofs.Common.{sym, ap, ◌∙◌, append-nil, arith}
use Rattle.laws.specs.Bytes.{le}
use Rattle.laws.specs.Every.{never}
use Rattle.kinds.specs.declared.value.Value.{Value as Record}
use Rattle.property_value.specs.Column.{width_of}
use Rattle.property_value.specs.Value.{word_of}
use Rattle.property_reader.specs.Reading.{number_at, value_at, item_at, on_item, on_up_to, on_from, on_bytes, reading}
use Rattle.geometries.specs.Told.{told}
use Rattle.format.specs.Properties.{Value, number, sized, form_of, sized_type, type_of, value_bytes, Property, buffer_of, AllKeyed}
use Rattle.format.specs.PropertiesKept.{record_of, records_from, formed, sized_above, properties_read}

pub record Stray (columns bytes : List ℕ) (said : List Record) : Type 0 where
  pub read : reading bytes true columns 65536 ≡ told said
  pub no_buffer : (ps : List Property) → AllKeyed columns ps → buffer_of ps ≡ bytes → ⊥

abbrev one_byte : ℕ → ℕ → Record
one_byte kind word = record { column = 0; kind = kind; len = 1; word = word }

-- what is read as one number of one byte has, in the format, that byte for its value
byte_of : (kind word : ℕ) (v : Value) → kind < 11 → record_of 0 0 v ≡ one_byte kind word → value_bytes v ≡ le 1 word
byte_of kind word (number k n) low e =
    let wide : (form_of k).wide ≡ 1 = ap (λ (r : Record). r.len) e in
    let same : n ≡ word = ap (λ (r : Record). r.word) e in
    rw (wide, same)
byte_of kind word (sized k bytes) low e =
    let type : sized_type k ≡ kind = ap (λ (r : Record). r.kind) e in
    absurd (omega (arith, (sized_above k).0))

only_one : (columns bytes : List ℕ) (kind word : ℕ) → length bytes ≤ 65536 → kind < 11 → reading bytes true columns 65536 ≡ told (one_byte kind word ∷ []) → (ps : List Property) → AllKeyed columns ps → buffer_of ps ≡ bytes → bytes ≡ le 2 0 ++ le 1 word
only_one columns bytes kind word fit low read ps q e = sym e ∙ go ps (sym (properties_read columns 65536 (omega arith) ps q (rw e fit)) ∙ ap (λ (l : List ℕ). reading l true columns 65536) e ∙ read)
  where
    go : (ps : List Property) → told (records_from 0 ps) ≡ told (one_byte kind word ∷ []) → buffer_of ps ≡ le 2 0 ++ le 1 word
    go [] r = absurd (never (cc))
    go (p ∷ []) r =
        let same : record_of 0 p.column p.value ≡ one_byte kind word = cc in
        let column : p.column ≡ 0 = column_of p.value same in
        rw (append-nil, column, byte_of kind word p.value low (rw column at same))
      where
        column_of : (v : Value) → record_of 0 p.column v ≡ one_byte kind word → p.column ≡ 0
        column_of (number k n) e = ap (λ (r : Record). r.column) e
        column_of (sized k bytes) e = ap (λ (r : Record). r.column) e
    go (p ∷ p' ∷ ps) r = absurd (never (cc))

-- a Bool of 7 is true
pub bool_seven : Stray (2 ∷ []) (0 ∷ 0 ∷ 7 ∷ []) (one_byte 2 1 ∷ [])
unfolding on_bytes on_from on_up_to on_item item_at value_at number_at word_of width_of
bool_seven = record { read = refl; no_buffer = λ ps q e. let f = only_one (2 ∷ []) (0 ∷ 0 ∷ 7 ∷ []) 2 1 (omega arith) (omega arith) refl ps q e in let z : ◌≡◌ {A = ℕ} 7 1 = cc in omega arith }

-- a byte that is left over is not looked at
pub trailing_byte : Stray (1 ∷ []) (0 ∷ 0 ∷ 5 ∷ 7 ∷ []) (one_byte 1 5 ∷ [])
unfolding on_bytes on_from on_up_to on_item item_at value_at number_at word_of width_of
trailing_byte = record { read = refl; no_buffer = λ ps q e. let f = only_one (1 ∷ []) (0 ∷ 0 ∷ 5 ∷ 7 ∷ []) 1 5 (omega arith) (omega arith) refl ps q e in never (cc) }

-- a column of a type above 14 has no value, and takes no bytes
pub type_above : Stray (15 ∷ []) (0 ∷ 0 ∷ []) []
unfolding on_bytes on_from on_up_to on_item item_at value_at
type_above = record { read = refl; no_buffer = go }
  where
    known : (v : Value) → type_of v ≡ 15 → ⊥
    known (number k n) e = omega (arith, (formed k).least)
    known (sized k bytes) e = omega (arith, (sized_above k).1)

    go : (ps : List Property) → AllKeyed (15 ∷ []) ps → buffer_of ps ≡ 0 ∷ 0 ∷ [] → ⊥
    go [] q e = never (cc)
    go (p ∷ ps) q e =
        let column : p.column ≡ 0 = omega (arith, q.0.listed) in
        known p.value (sym q.0.typed ∙ rw column)
