-- What is computed is what is meant: the first bad place is the one where the text ends, and a list is UTF-8 exactly when it is a text.
use Rattle.std.specs.Prelude.{Option, Some, None, ◌≡◌, refl, Bool, true, false, cond, ℕ, zero, suc, ◌+◌, ◌-◌, ◌≤◌, ◌<◌, leb, eqb, length, take, drop}
use Rattle.std.proofs.Common.{sym, ◌∙◌, ap, zero-le, arith, length-append, length-drop, take-append-drop, take-add, drop-drop, length-take-le, leb-true, le-leb, eqb-true, eq-eqb, ne_eqb}
use mathlib.Core.List.{List, [], ◌∷◌, ◌++◌, append_assoc, append-nil, Memᴰ}
use Rattle.std.proofs.Math.Seq.{take-length, drop-append_seam}
use Rattle.std.proofs.lemmas.Bool.{eqb-false}
use Rattle.laws.specs.Every.{never, both, every, every-at, each_at}
use Rattle.utf8.specs.Utf8.{◌‥◌, Row, rows, Fits, Fits.end, Fits.byte, Character, Text, Text.empty, Text.more, NoCharacter, TextEnds, has, opens, find, row_of, begins, char_length, run, first_bad, is_utf8, BadIs}
use Rattle.utf8.specs.Laws.{same_row, same_row_lem, char_within, bad_here, bad_later}

-- A first byte is in one row only, and no row is empty.

abbrev own : Row → Bool
own [] = false
own (low ‥ high ∷ row) = every (λ x. same_row (row_of x) (low ‥ high ∷ row)) low (suc high - low)

owned : (row : Row) → Memᴰ row rows → own row ≡ true
unfolding rows row_of
owned row m = each_at own rows row refl m

row_of_lem : (low high b : ℕ) (row : Row) → Memᴰ (low ‥ high ∷ row) rows → low ≤ b → b ≤ high → row_of b ≡ low ‥ high ∷ row
row_of_lem low high b row m l h =
    same_row_lem (row_of b) (low ‥ high ∷ row)
    (every-at (λ x. same_row (row_of x) (low ‥ high ∷ row)) low (suc high - low) b (owned (low ‥ high ∷ row) m) l (omega arith))

-- A character is found, with its length.

fits_begins : {row : Row} {bytes : List ℕ} → Fits row bytes → (rest : List ℕ) → begins row (bytes ++ rest) ≡ true
unfolding begins has
fits_begins end rest = refl
fits_begins (byte {low} {high} {b} l h f) rest = rw (le-leb low b l, le-leb b high h) (fits_begins f rest)

fits_length : {row : Row} {bytes : List ℕ} → Fits row bytes → length row ≡ length bytes
fits_length end = refl
fits_length (byte l h f) = ap suc (fits_length f)

first-length : {row : Row} {bytes : List ℕ} → Fits row bytes → Memᴰ row rows → (rest : List ℕ) →
    (char_length (bytes ++ rest) ≡ length bytes) × (0 < length bytes)
unfolding char_length
first-length end m rest = absurd (never (owned [] m))
first-length (byte {low} {high} {b} {row} {bytes} l h f) m rest =
    (rw (row_of_lem low high b row m l h, fits_begins f rest) (ap suc (fits_length f)), omega arith)

character_length : {bytes : List ℕ} → Character bytes → (rest : List ℕ) → (char_length (bytes ++ rest) ≡ length bytes) × (0 < length bytes)
character_length c rest = first-length c.fits c.listed rest

-- What is found is a character.

has_bounds : (low high b : ℕ) → has (low ‥ high) b ≡ true → (low ≤ b) × (b ≤ high)
unfolding has
has_bounds low high b e =
    let t = both (leb low b) (leb b high) e in
    (leb-true low b t.0, leb-true b high t.1)

begins_fits : (row : Row) (s : List ℕ) → begins row s ≡ true → Fits row (take (length row) s)
unfolding begins
begins_fits [] s e = end
begins_fits (range ∷ row) [] e = absurd (never e)
begins_fits (low ‥ high ∷ row) (b ∷ s) e =
    let t = both (has (low ‥ high) b) (begins row s) e in
    let w = has_bounds low high b t.0 in
    byte w.0 w.1 (begins_fits row s t.1)

found : (listed : List Row) (b : ℕ) → (length (find listed b) ≡ 0 → ⊥) →
    Memᴰ (find listed b) listed × (opens (find listed b) b ≡ true)
unfolding find
found [] b n = absurd (n refl)
found (row ∷ others) b n = go (opens row b) refl n (found others b)
  where
    go : (t : Bool) → opens row b ≡ t → (length (cond t row (find others b)) ≡ 0 → ⊥) →
        ((length (find others b) ≡ 0 → ⊥) → Memᴰ (find others b) others × (opens (find others b) b ≡ true)) →
        Memᴰ (cond t row (find others b)) (row ∷ others) × (opens (cond t row (find others b)) b ≡ true)
    go true e n later = (Memᴰ.head refl, e)
    go false e n later = let w = later n in (Memᴰ.tail w.0, w.1)

opened : (row : Row) (b : ℕ) (s : List ℕ) → opens row b ≡ true → begins (drop 1 row) s ≡ true → Fits row (take (length row) (b ∷ s))
unfolding opens
opened [] b s o e = absurd (never o)
opened (low ‥ high ∷ row) b s o e =
    let w = has_bounds low high b o in
    byte w.0 w.1 (begins_fits row s e)

character_at : (s : List ℕ) → (char_length s ≡ 0 → ⊥) → Character (take (char_length s) s)
unfolding char_length row_of
character_at [] n = absurd (n refl)
character_at (b ∷ s) n = go (begins (drop 1 (row_of b)) s) refl n
  where
    go : (t : Bool) → begins (drop 1 (row_of b)) s ≡ t → (cond t (length (row_of b)) 0 ≡ 0 → ⊥) →
        Character (take (cond t (length (row_of b)) 0) (b ∷ s))
    go true e n =
        let w = found rows b n in
        record { row = row_of b; listed = w.0; fits = opened (row_of b) b s w.1 e }
    go false e n = absurd (n refl)

none_found : (s : List ℕ) → NoCharacter s → char_length s ≡ 0
none_found s none = go (eqb (char_length s) 0) refl
  where
    go : (t : Bool) → eqb (char_length s) 0 ≡ t → char_length s ≡ 0
    go true e = eqb-true (char_length s) 0 e
    go false e =
        absurd
        (none (take (char_length s) s) (drop (char_length s) s) (sym (take-append-drop (char_length s) s))
        (character_at s (eqb-false (char_length s) 0 e)))

none_there : (s : List ℕ) → char_length s ≡ 0 → NoCharacter s
none_there s z first rest e c =
    let w = character_length c rest in
    omega (arith, sym z ∙ ap char_length e, w.0, w.1)

-- The first bad place is the one where the text ends.

by_characters : (P : List ℕ → Type 0) → ((s : List ℕ) → char_length s ≡ 0 → P s) →
    ((s : List ℕ) → (char_length s ≡ 0 → ⊥) → P (drop (char_length s) s) → P s) → (s : List ℕ) → P s
by_characters P stop step s = up_to (length s) s (omega arith)
  where
    up_to : (most : ℕ) (s : List ℕ) → length s ≤ most → P s
    up_to zero s h = stop s (omega (arith, char_within s))
    up_to (suc most) s h = go (eqb (char_length s) 0) refl (λ n. up_to most (drop (char_length s) s) (simp length-drop (omega arith)))
      where
        go : (t : Bool) → eqb (char_length s) 0 ≡ t → ((char_length s ≡ 0 → ⊥) → P (drop (char_length s) s)) → P s
        go true e later = stop s (eqb-true (char_length s) 0 e)
        go false e later = let n = eqb-false (char_length s) 0 e in step s n (later n)

bad_within : (s : List ℕ) → first_bad s ≤ length s
bad_within =
    by_characters (λ s. first_bad s ≤ length s) (λ s z. rw (bad_here s z) zero-le)
    (λ s n r. rw (bad_later s n) (omega (arith, char_within s, simp length-drop at r)))

text_before_bad : (s : List ℕ) → Text (take (first_bad s) s)
text_before_bad =
    by_characters (λ s. Text (take (first_bad s) s)) (λ s z. rw (bad_here s z) empty)
    (λ s n r. rw (bad_later s n, take-add (char_length s) (first_bad (drop (char_length s) s)) s) (more (character_at s n) r))

none_at_bad : (s : List ℕ) → char_length (drop (first_bad s) s) ≡ 0
none_at_bad =
    by_characters (λ s. char_length (drop (first_bad s) s) ≡ 0) (λ s z. rw (bad_here s z) z)
    (λ s n r. rw (bad_later s n, ← drop-drop (first_bad (drop (char_length s) s)) (char_length s) s) r)

pub bad_ends : (s : List ℕ) → TextEnds s (first_bad s)
bad_ends s = record { within = bad_within s; before = text_before_bad s; after = none_there (drop (first_bad s) s) (none_at_bad s) }

bad_after_character : {first : List ℕ} → Character first → (rest : List ℕ) → first_bad (first ++ rest) ≡ length first + first_bad rest
bad_after_character {first} c rest =
    let w = character_length c rest in
    bad_later (first ++ rest) (λ z. omega (arith, w.0, w.1)) ∙ rw (w.0, drop-append_seam first rest)

-- a text before a list moves the list's first bad place by its length
pub bad_after : {s : List ℕ} → Text s → (rest : List ℕ) → first_bad (s ++ rest) ≡ length s + first_bad rest
bad_after empty rest = omega arith
bad_after (more {first} {rest = s} c t) rest =
    rw (append_assoc first s rest, length-append first s) (omega (arith, bad_after_character c (s ++ rest), bad_after t rest))

pub ends_bad : (s : List ℕ) (at : ℕ) → TextEnds s at → first_bad s ≡ at
ends_bad s at e =
    ap first_bad (sym (take-append-drop at s)) ∙ bad_after e.before (drop at s)
    ∙ rw (length-take-le at s e.within, bad_here (drop at s) (none_found (drop at s) e.after)) (omega arith)

-- UTF-8 is text.

pub utf8_text : (s : List ℕ) → is_utf8 s ≡ true → Text s
unfolding is_utf8
utf8_text s e = rw (eqb-true (first_bad s) (length s) e, take-length s) at (text_before_bad s)

pub text_utf8 : (s : List ℕ) → Text s → is_utf8 s ≡ true
unfolding is_utf8 char_length
text_utf8 s t = eq-eqb (first_bad s) (length s) (omega (arith, rw append-nil at (bad_after t []), bad_here [] refl))

-- The first bad byte, by computing and by the grammar.

pub bad_nowhere : (s : List ℕ) → first_bad s ≡ length s → BadIs s None
unfolding is_utf8
bad_nowhere s e = utf8_text s (eq-eqb (first_bad s) (length s) e)

pub bad_at : (s : List ℕ) (place : ℕ) → first_bad s ≡ place → place < length s → BadIs s (Some place)
bad_at s place e h = let ends : TextEnds s place = rw e at (bad_ends s) in (h, ends.before, ends.after)

pub bad_first : (s : List ℕ) → is_utf8 s ≡ false → BadIs s (Some (first_bad s))
unfolding is_utf8
bad_first s e = let n = eqb-false (first_bad s) (length s) e in bad_at s (first_bad s) refl (omega (arith, bad_within s))

pub at_bad : (s : List ℕ) (place : ℕ) → BadIs s (Some place) → (is_utf8 s ≡ false) × (place ≡ first_bad s)
unfolding is_utf8
at_bad s place (h, before, after) =
    let is : first_bad s ≡ place = ends_bad s place (record { within = omega arith; before = before; after = after }) in
    (rw (is, ne_eqb place (length s) (λ same. omega arith)), sym is)

-- there is one such answer
pub bad_once : (s : List ℕ) (a b : Option ℕ) → BadIs s a → BadIs s b → a ≡ b
bad_once s None None t u = refl
bad_once s None (Some place) t u = absurd (never (sym (at_bad s place u).0 ∙ text_utf8 s t))
bad_once s (Some place) None t u = absurd (never (sym (at_bad s place t).0 ∙ text_utf8 s u))
bad_once s (Some place) (Some other) t u = ap Some ((at_bad s place t).1 ∙ sym (at_bad s other u).1)

-- For those who put texts together.

pub utf8_empty : is_utf8 [] ≡ true
unfolding is_utf8 first_bad run
utf8_empty = refl

pub utf8_append : (s t : List ℕ) → is_utf8 s ≡ true → is_utf8 (s ++ t) ≡ is_utf8 t
unfolding is_utf8
utf8_append s t e =
    rw (bad_after (utf8_text s e) t, length-append s t) (shift (length s) (first_bad t) (length t) (eqb (first_bad t) (length t)) refl)
  where
    shift : (k m n : ℕ) (v : Bool) → eqb m n ≡ v → eqb (k + m) (k + n) ≡ eqb m n
    shift k m n true e = eq-eqb (k + m) (k + n) (ap (λ (x : ℕ). k + x) (eqb-true m n e)) ∙ sym e
    shift k m n false e = ne_eqb (k + m) (k + n) (λ same. eqb-false m n e (omega arith)) ∙ sym e
