-- Laws of writing a property.
use Rattle.std.specs.Prelude.{◌≡◌, Bool, not, List, ◌++◌, ℕ, suc, ◌+◌, ◌≤◌, ◌<◌, min, leb, ltb, take, drop}
use Rattle.std.proofs.Math.Path.{refl}
use Rattle.std.proofs.Common.{Err, sym, ap, ◌∙◌, append_assoc, arith}
use Rattle.std.proofs.Math.Bool.{true, false, cond}
use Rattle.std.proofs.Math.Nat.{min-le_left, min-le_right, min-eq_right}
use Rattle.std.proofs.Math.Dec.{eqb}
use Rattle.std.proofs.Math.ListN.{length, length-append}
use Rattle.std.proofs.lemmas.List.Edits.{sets}
use Rattle.std.proofs.lemmas.List.{take-append-le, drop-append-le}
use borrow.Author.Tests.{eqb-true, ltb-false, le-leb, lt-leb, ne_eqb, not-false}
use Rattle.laws.specs.Bytes.{le, length-le}
use Rattle.laws.specs.Runs.{sets_split, take-sets, drop-sets}
use Rattle.utf8.specs.Utf8.{first_bad}
use Rattle.kinds.specs.Refusal.{number_of, refused as is_refusal}
use Rattle.property_value.specs.declared.refused.PropertyRefusal.{PropertyRefusal}
use Rattle.property_value.specs.Refused.{refusal_of as refused_as, place_of}
use Rattle.property_value.specs.Column.{width_of}
use Rattle.property_value.specs.ColumnLaws.{width_most}
use Rattle.property_value.specs.Value.{malformed, text_ok, placed}
use Rattle.property_value.specs.ValueLaws.{well_formed_lem}
use Rattle.property_writer.specs.Writing.{text_bytes, laid_down, property_bytes, refusal_of, PropertyPut, put_as, put_of, bytes_after, property_length, Exact}

-- ---- a property's bytes

pub value_text : (kind bits : ℕ) (text : List ℕ) → 11 ≤ kind → laid_down kind bits text ≡ text_bytes text
unfolding laid_down
value_text kind bits text h = simp (le-leb 11 kind h)

pub value_number : (kind bits : ℕ) (text : List ℕ) → kind < 11 → laid_down kind bits text ≡ le (width_of kind) bits
unfolding laid_down
value_number kind bits text h = simp (lt-leb 11 kind h)

pub length_text : (text : List ℕ) → length (text_bytes text) ≡ 4 + length text
unfolding text_bytes
length_text text = length-append (le 4 (length text)) text

pub length_property : (column kind bits : ℕ) (text : List ℕ) → length (property_bytes column kind bits text) ≡ property_length kind text
unfolding property_bytes laid_down property_length
length_property column kind bits text = go (leb 11 kind)
  where
    go : (t : Bool) → length (le 2 column ++ cond t (text_bytes text) (le (width_of kind) bits)) ≡ 2 + cond t (4 + length text) (width_of kind)
    go true = omega (arith, length_text text)
    go false = omega (arith, length-le (width_of kind) bits)

pub length_most : (kind : ℕ) (text : List ℕ) → kind < 256 → property_length kind text ≤ 10 + length text
unfolding property_length
length_most kind text h = go (leb 11 kind) (width_most kind h)
  where
    go : (t : Bool) → width_of kind ≤ 8 → 2 + cond t (4 + length text) (width_of kind) ≤ 10 + length text
    go true l = omega arith
    go false l = omega arith

-- ---- what is accepted

passed : (refused : Bool) (number later : ℕ) → cond refused (suc number) later ≡ 0 → (refused ≡ false) × (later ≡ 0)
passed false number later e = (refl, e)
passed true number later e = absurd (omega arith)

pub record Accepted (waiting : Bool) (used column kind bits : ℕ) (text : List ℕ) (lent : ℕ) : Type 0 where
  pub turn : waiting ≡ false
  pub index : column < 65536
  pub known : kind ≤ 14
  pub truth : kind ≡ 2 → bits ≤ 1
  pub exact : Exact kind bits text
  pub utf8 : text_ok kind text ≡ true
  pub room : used + length (property_bytes column kind bits text) ≤ lent
  pub usable : used + length (property_bytes column kind bits text) ≤ 65536

pub accepted : (waiting : Bool) (used column kind bits : ℕ) (text : List ℕ) (lent : ℕ) → refusal_of waiting used column kind bits text lent ≡ 0 →
    Accepted waiting used column kind bits text lent
unfolding refusal_of property_bytes
accepted waiting used column kind bits text lent done =
    let turn = passed waiting 14 _ done in
    let index = passed (ltb 65535 column) 15 _ turn.1 in
    let formed = passed (malformed kind bits) 10 _ index.1 in
    let spelt = passed (not (text_ok kind text)) 5 _ formed.1 in
    let fits = passed _ 11 0 spelt.1 in
    let value = well_formed_lem kind bits formed.0 in
    let most = ltb-false (min lent 65536) (used + length (property_bytes column kind bits text)) fits.0 in
    record {
      turn = turn.0;
      index = omega (arith, ltb-false 65535 column index.0);
      known = value.0;
      truth = value.1;
      exact = record {
        number = value.2;
        count = λ h. omega (arith, ap length (value_text kind bits text h), length_text text, min-le_right lent 65536);
      };
      utf8 = not-false (text_ok kind text) spelt.0;
      room = omega (arith, min-le_left lent 65536);
      usable = omega (arith, min-le_right lent 65536);
    }

-- ---- what a write answers and leaves

pub refused : (waiting : Bool) (used column kind bits : ℕ) (text buffer : List ℕ) (number : ℕ) →
    number ≡ refusal_of waiting used column kind bits text (length buffer) → (number ≡ 0 → ⊥) →
    (◌≡◌ {A = PropertyPut} (record { number = number; used = used; place = placed number (first_bad text) }) (put_of waiting used column kind bits text buffer))
    × (buffer ≡ bytes_after waiting used column kind bits text buffer)
unfolding put_of bytes_after
refused waiting used column kind bits text buffer number e n =
    let stays : eqb number 0 ≡ false = ne_eqb number 0 n in
    (rw (← e, stays), rw (← e, stays))

pub put-refused : (waiting : Bool) (used column kind bits : ℕ) (text buffer : List ℕ) (e : PropertyRefusal) →
    (let number = refusal_of waiting used column kind bits text (length buffer) in (number_of (refused_as e) ≡ number) × (place_of e ≡ placed number (first_bad text))) →
    (put_as used (Err e) ≡ put_of waiting used column kind bits text buffer) × (buffer ≡ bytes_after waiting used column kind bits text buffer)
put-refused waiting used column kind bits text buffer e judged =
    let stays = refused waiting used column kind bits text buffer (number_of (refused_as e)) judged.0 (is_refusal (refused_as e)) in
    (rw (judged.1, ← judged.0) stays.0, stays.1)

module _ (waiting : Bool) (used column kind bits : ℕ) (text buffer : List ℕ) (done : refusal_of waiting used column kind bits text (length buffer) ≡ 0) where
  -- what is used grows by the property's bytes
  pub put-done : put_of waiting used column kind bits text buffer ≡ record { number = 0; used = used + length (property_bytes column kind bits text); place = 0 }
  unfolding put_of placed
  put-done = rw done

  pub bytes-done : bytes_after waiting used column kind bits text buffer ≡ sets buffer used (property_bytes column kind bits text)
  unfolding bytes_after
  bytes-done = rw done

  room : used + length (property_bytes column kind bits text) ≤ length buffer
  room = (accepted waiting used column kind bits text (length buffer) done).room

  -- what is used then is what was used, and behind it the new bytes
  pub used-then : take (used + length (property_bytes column kind bits text)) (bytes_after waiting used column kind bits text buffer)
      ≡ take used buffer ++ property_bytes column kind bits text
  used-then = rw bytes-done (take-sets buffer (property_bytes column kind bits text) used room)

  pub rest-kept : drop (used + length (property_bytes column kind bits text)) (bytes_after waiting used column kind bits text buffer)
      ≡ drop (used + length (property_bytes column kind bits text)) buffer
  rest-kept = rw bytes-done (drop-sets buffer (property_bytes column kind bits text) used room)

-- ---- what is lent beyond the usable room is neither read nor changed

sets_front : (front more vs : List ℕ) (i : ℕ) → i + length vs ≤ length front → sets (front ++ more) i vs ≡ sets front i vs ++ more
sets_front front more vs i room =
    let longer : i + length vs ≤ length (front ++ more) = omega (arith, length-append front more) in
    let start : i ≤ length front = omega arith in
    sets_split (front ++ more) vs i longer
    ∙ rw (take-append-le i front more start, drop-append-le (i + length vs) front more room, sets_split front vs i room)
    (sym (append_assoc (take i front ++ vs) (drop (i + length vs) front) more))

module _ (waiting : Bool) (used column kind bits : ℕ) (text front more : List ℕ) (whole : 65536 ≤ length front) where
  same_refusal : refusal_of waiting used column kind bits text (length (front ++ more)) ≡ refusal_of waiting used column kind bits text (length front)
  unfolding refusal_of
  same_refusal =
      let longer : 65536 ≤ length (front ++ more) = omega (arith, length-append front more) in
      rw (min-eq_right longer, min-eq_right whole)

  pub beyond_unread : put_of waiting used column kind bits text (front ++ more) ≡ put_of waiting used column kind bits text front
  unfolding put_of
  beyond_unread = rw same_refusal

  pub beyond_unchanged : bytes_after waiting used column kind bits text (front ++ more) ≡ bytes_after waiting used column kind bits text front ++ more
  unfolding bytes_after
  beyond_unchanged = rw same_refusal (go (eqb (refusal_of waiting used column kind bits text (length front)) 0) refl)
    where
      go : (t : Bool) → eqb (refusal_of waiting used column kind bits text (length front)) 0 ≡ t →
          cond t (sets (front ++ more) used (property_bytes column kind bits text)) (front ++ more)
          ≡ cond t (sets front used (property_bytes column kind bits text)) front ++ more
      go true e =
          let done = eqb-true (refusal_of waiting used column kind bits text (length front)) 0 e in
          sets_front front more (property_bytes column kind bits text) used (accepted waiting used column kind bits text (length front) done).room
      go false e = refl
