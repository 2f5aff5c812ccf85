-- What put_property lays down, and what read_properties reads, is the format's.
use Rattle.std.specs.Prelude.{◌≡◌, refl, Bool, true, false, cond, ◌&&◌, List, [], ◌∷◌, ◌++◌, ℕ, ◌+◌, ◌-◌, ◌^◌, ◌≤◌, ◌<◌, min, length, get_or, ltb, eqb}
use Rattle.std.proofs.Common.{sym, ap, ◌∙◌, append_assoc, append-nil, arith, length-append, eqb-true, ne_eqb, lt-ltb, le-ltb, le-leb}
use Rattle.std.proofs.Math.Decide.{dec_lt}
use Rattle.std.proofs.lemmas.Bool.{lt-leb}
use Rattle.laws.specs.Every.{every-at}
use Rattle.laws.specs.Script.{say, out, run}
use Rattle.laws.specs.Cut.{room_of, said}
use Rattle.utf8.specs.Utf8.{is_utf8, first_bad, run as run_of, char_length, row_of, begins, has}
use Rattle.kinds.specs.declared.value.Value.{Value as Record}
use Rattle.property_value.specs.Column.{width_of, is_text}
use Rattle.property_writer.specs.Writing.{text_bytes, laid_down, property_bytes as laid, refusal_of}
use Rattle.property_value.specs.Value.{malformed, text_ok}
use Rattle.property_writer.specs.WritingLaws.{Accepted, accepted, value_number, value_text}
use Rattle.property_reader.specs.Reading.{properties_from, reading}
use Rattle.event_log.specs.Values.{values}
use Rattle.properties.specs.ReadBack.{Writable, value_back, read_back}
use Rattle.property_reader.specs.ReadingLaws.{read-end, read_whole}
use Rattle.geometries.specs.Told.{told, Complete, said_complete}
use Rattle.format.specs.Properties.{Number, byte, ubyte, bool, short, ushort, int, uint, long, ulong, float, double, Sized, string, json, date_time, binary, Value, number, sized, form_of, sized_type, type_of, Spelt, Fits, value_bytes, Property, property_bytes, buffer_of, Keyed, AllKeyed}

-- ---- types by their numbers
abbrev number_of : ℕ → Number
number_of type = get_or (byte ∷ ubyte ∷ bool ∷ short ∷ ushort ∷ int ∷ uint ∷ long ∷ ulong ∷ float ∷ double ∷ []) type byte

abbrev sized_of : ℕ → Sized
sized_of type = get_or (string ∷ json ∷ date_time ∷ []) (type - 11) binary

number_type : (type : ℕ) → type < 11 → (form_of (number_of type)).type ≡ type
number_type type h = eqb-true _ type (every-at (λ n. eqb (form_of (number_of n)).type n) 0 11 type refl (omega arith) (omega arith))

number-below : (type : ℕ) → type < 11 → (form_of (number_of type)).below ≡ cond (eqb type 2) 2 (256 ^ width_of type)
number-below type h = eqb-true _ _ (every-at (λ n. eqb (form_of (number_of n)).below (cond (eqb n 2) 2 (256 ^ width_of n))) 0 11 type (unfold width_of in refl) (omega arith) (omega arith))

sized_type_lem : (type : ℕ) → 11 ≤ type → type ≤ 14 → sized_type (sized_of type) ≡ type
sized_type_lem type h k = eqb-true _ type (every-at (λ n. eqb (sized_type (sized_of n)) n) 11 4 type refl h (omega arith))

pub record Formed (k : Number) : Type 0 where
  pub wide : width_of (form_of k).type ≡ (form_of k).wide
  pub below : (form_of k).below ≤ 256 ^ (form_of k).wide
  pub least : (form_of k).type < 11
  pub truth : (form_of k).type ≡ 2 → (form_of k).below ≡ 2

pub formed : (k : Number) → Formed k
unfolding width_of
formed byte = record { wide = refl; below = omega arith; least = omega arith; truth = λ e. absurd (omega arith) }
formed ubyte = record { wide = refl; below = omega arith; least = omega arith; truth = λ e. absurd (omega arith) }
formed bool = record { wide = refl; below = omega arith; least = omega arith; truth = λ e. refl }
formed short = record { wide = refl; below = omega arith; least = omega arith; truth = λ e. absurd (omega arith) }
formed ushort = record { wide = refl; below = omega arith; least = omega arith; truth = λ e. absurd (omega arith) }
formed int = record { wide = refl; below = omega arith; least = omega arith; truth = λ e. absurd (omega arith) }
formed uint = record { wide = refl; below = omega arith; least = omega arith; truth = λ e. absurd (omega arith) }
formed long = record { wide = refl; below = omega arith; least = omega arith; truth = λ e. absurd (omega arith) }
formed ulong = record { wide = refl; below = omega arith; least = omega arith; truth = λ e. absurd (omega arith) }
formed float = record { wide = refl; below = omega arith; least = omega arith; truth = λ e. absurd (omega arith) }
formed double = record { wide = refl; below = omega arith; least = omega arith; truth = λ e. absurd (omega arith) }

pub sized_above : (k : Sized) → (11 ≤ sized_type k) × (sized_type k ≤ 14)
sized_above string = (omega arith, omega arith)
sized_above json = (omega arith, omega arith)
sized_above date_time = (omega arith, omega arith)
sized_above binary = (omega arith, omega arith)

spelt : (k : Sized) (bytes : List ℕ) → text_ok (sized_type k) bytes ≡ true → Spelt k bytes
unfolding text_ok is_text
spelt string bytes h = h
spelt json bytes h = h
spelt date_time bytes h = h
spelt binary bytes h = tt

text_ok_lem : (k : Sized) (bytes : List ℕ) → Spelt k bytes → text_ok (sized_type k) bytes ≡ true
unfolding text_ok is_text
text_ok_lem string bytes h = h
text_ok_lem json bytes h = h
text_ok_lem date_time bytes h = h
text_ok_lem binary bytes h = refl

-- ---- a value as it is handed to put_property
abbrev pub bits_in : Value → ℕ
bits_in (number k n) = n
bits_in (sized k bytes) = 0

abbrev pub bytes_in : Value → List ℕ
bytes_in (number k n) = []
bytes_in (sized k bytes) = bytes

value_laid : (v : Value) → laid_down (type_of v) (bits_in v) (bytes_in v) ≡ value_bytes v
unfolding text_bytes
value_laid (number k n) = value_number _ n [] (formed k).least ∙ rw (formed k).wide
value_laid (sized k bytes) = value_text _ 0 bytes (sized_above k).0

-- ---- put_property: what is accepted is a value of the type, and its bytes are laid down
pub record Put (column kind bits : ℕ) (text : List ℕ) : Type 0 where
  pub value : Value
  pub type : type_of value ≡ kind
  pub fits : Fits value
  pub bytes : laid column kind bits text ≡ property_bytes (record { column = column; value = value })

pub put_is : (waiting : Bool) (used column kind bits : ℕ) (text : List ℕ) (lent : ℕ) → refusal_of waiting used column kind bits text lent ≡ 0 → Put column kind bits text
unfolding laid
put_is waiting used column kind bits text lent done = go (dec_lt kind 11)
  where
    a : Accepted waiting used column kind bits text lent
    a = accepted waiting used column kind bits text lent done

    in_range : (b : Bool) → eqb kind 2 ≡ b → kind < 11 → bits < cond b 2 (256 ^ width_of kind)
    in_range true e h = omega (arith, a.truth (eqb-true kind 2 e))
    in_range false e h = a.exact.number (omega arith)

    go : Dec (kind < 11) → Put column kind bits text
    go (yes h) =
        let f = formed (number_of kind) in
        let wide : width_of kind ≡ (form_of (number_of kind)).wide = ap width_of (sym (number_type kind h)) ∙ f.wide in
        record {
          value = number (number_of kind) bits;
          type = number_type kind h;
          fits = rw (number-below kind h) (in_range (eqb kind 2) refl h);
          bytes = rw (value_number kind bits text h, wide);
        }
    go (no h) =
        let k : 11 ≤ kind = omega arith in
        record {
          value = sized (sized_of kind) text;
          type = sized_type_lem kind k a.known;
          fits = (a.exact.count k, spelt (sized_of kind) text (ap (λ (type : ℕ). text_ok type text) (sized_type_lem kind k a.known) ∙ a.utf8));
          bytes = rw (value_text kind bits text k) (unfold text_bytes in refl);
        }

-- every value of a type is accepted, where there is room
well_formed_lem : (v : Value) → Fits v → (malformed (type_of v) (bits_in v) ≡ false) × (text_ok (type_of v) (bytes_in v) ≡ true)
unfolding malformed text_ok is_text
well_formed_lem (number k n) f =
    let g = formed k in
    let fit : n < 256 ^ width_of (form_of k).type = rw g.wide (omega (arith, g.below)) in
    let type : ℕ = (form_of k).type in
    (rw (le-ltb 14 type (omega (arith, g.least)), no_lie (eqb type 2) refl, le-leb type 10 (omega (arith, g.least)), lt-leb (256 ^ width_of type) n fit), rw (lt-leb 11 type g.least))
  where
    no_lie : (b : Bool) → eqb (form_of k).type 2 ≡ b → (b && ltb 1 n) ≡ false
    no_lie true e = le-ltb 1 n (omega (arith, (formed k).truth (eqb-true _ 2 e)))
    no_lie false e = refl
well_formed_lem (sized k bytes) f = go k f.1
  where
    go : (k : Sized) → Spelt k bytes → (malformed (sized_type k) 0 ≡ false) × (text_ok (sized_type k) bytes ≡ true)
    go string s = (refl, s)
    go json s = (refl, s)
    go date_time s = (refl, s)
    go binary s = (refl, refl)

pub put-takes : (used : ℕ) (p : Property) (lent : ℕ) → p.column < 65536 → Fits p.value → used + length (property_bytes p) ≤ lent → used + length (property_bytes p) ≤ 65536 → refusal_of false used p.column (type_of p.value) (bits_in p.value) (bytes_in p.value) lent ≡ 0
unfolding refusal_of laid
put-takes used p lent index f room usable =
    let w = well_formed_lem p.value f in
    rw (le-ltb 65535 p.column (omega arith), w.0, w.1, value_laid p.value, le-ltb (min lent 65536) (used + length (property_bytes p)) (omega arith))

-- ---- read_properties: a number is said by its bits, bytes by their place; `at` is where the property begins
abbrev pub record_of : ℕ → ℕ → Value → Record
record_of at column (number k n) = record { column = column; kind = (form_of k).type; len = (form_of k).wide; word = n }
record_of at column (sized k bytes) = record { column = column; kind = sized_type k; len = length bytes; word = at + 2 + 4 }

abbrev pub records_from : ℕ → List Property → List Record
records_from at [] = []
records_from at (p ∷ ps) = record_of at p.column p.value ∷ records_from (at + length (property_bytes p)) ps

value_back_lem : (at column : ℕ) (v : Value) → value_back column (type_of v) (bits_in v) (bytes_in v) (at + 2) ≡ record_of at column v
unfolding value_back
value_back_lem at column (number k n) = rw (lt-ltb _ 11 (formed k).least, (formed k).wide)
value_back_lem at column (sized k bytes) = rw (le-ltb _ 11 (sized_above k).0)

module _ (columns : List ℕ) where
  writable : (p : Property) → Keyed columns p → Writable columns p.column (type_of p.value) (bits_in p.value) (bytes_in p.value)
  writable p w = go p.value w.typed w.fits
    where
      go : (v : Value) → get_or columns p.column 0 ≡ type_of v → Fits v → Writable columns p.column (type_of v) (bits_in v) (bytes_in v)
      go (number k n) t f =
          let g = formed k in
          record {
            index = w.index;
            listed = w.listed;
            typed = t;
            known = omega (arith, g.least);
            number = λ h. (rw g.wide (omega (arith, g.below, f)), λ e. omega (arith, g.truth e, f));
            sound = λ h. absurd (omega (arith, g.least));
          }
      go (sized k bytes) t f =
          record {
            index = w.index;
            listed = w.listed;
            typed = t;
            known = (sized_above k).1;
            number = λ h. absurd (omega (arith, (sized_above k).0));
            sound = λ h. (f.0, text_ok_lem k bytes f.1);
          }

  -- 65,536 and above name no column to stop after
  module _ (last : ℕ) (none_named : 65536 ≤ last) where
    reads_from : (ps : List Property) (before : List ℕ) → AllKeyed columns ps → properties_from (before ++ buffer_of ps) columns last (length before) ≡ told (records_from (length before) ps)
    reads_from [] before q = rw (append-nil before) (read-end before columns last)
    reads_from (p ∷ ps) before q =
        let v : Value = p.value in
        let other : eqb p.column last ≡ false = ne_eqb p.column last (λ e. omega (arith, q.0.index)) in
        let later = rw (append_assoc before (property_bytes p) (buffer_of ps), length-append before (property_bytes p)) at (reads_from ps (before ++ property_bytes p) q.1) in
        let place : length before + 2 + length (value_bytes v) ≡ length before + length (property_bytes p) = omega arith in
        let back = rw (other, value_laid v, value_back_lem (length before) p.column v, place) at (read_back columns p.column (type_of v) (bits_in v) (bytes_in v) (writable p q.0) last before (buffer_of ps)) in
        back ∙ ap (say (record_of (length before) p.column v)) later

    -- the usable bytes are 65,536
    pub properties_read : (ps : List Property) → AllKeyed columns ps → length (buffer_of ps) ≤ 65536 → reading (buffer_of ps) true columns last ≡ told (records_from 0 ps)
    properties_read ps q fit = read_whole (buffer_of ps) columns last fit ∙ reads_from ps [] q

    -- by the call's contract: with room in the log
    pub properties_said : (ps : List Property) → AllKeyed columns ps → length (buffer_of ps) ≤ 65536 → (L : List ℕ) (refusal count : ℕ) (M : List ℕ) → length (records_from 0 ps) ≤ room_of 16 L
        → run values (reading (buffer_of ps) true columns last) L 0 ≡ out refusal count M → Complete values (records_from 0 ps) L refusal count M
    unfolding values
    properties_said ps q fit L refusal count M room h = said_complete values _ (records_from 0 ps) L refusal count M (properties_read ps q fit) room (said values h)

-- ---- such buffers there are: an Int and a String
abbrev age : Property
age = record { column = 0; value = number int 7 }

abbrev name : Property
name = record { column = 1; value = sized string (0x61 ∷ []) }

pub a_buffer : AllKeyed (5 ∷ 11 ∷ []) (age ∷ name ∷ [])
unfolding is_utf8 first_bad run_of char_length row_of begins has
a_buffer = (
  record { index = omega arith; listed = omega arith; typed = refl; fits = omega arith },
  (record { index = omega arith; listed = omega arith; typed = refl; fits = (omega arith, refl) }, tt),
)
