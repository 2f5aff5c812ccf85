-- The walks of `Lines`, by the cases and turns of the functions that say them.
use Rattle.std.specs.Borrow.{Bor}
use Rattle.std.specs.Prelude.{◌≡◌, Option as OptionR, Some, None, is_some, Bool, ◌&&◌, ℕ, ◌+◌, ◌-◌, ◌/◌, ◌<◌, ◌≤◌, drop, get_or, leb, ltb}
use Rattle.std.proofs.Math.Path.{refl, sym}
use Rattle.std.proofs.Common.{◌∙◌, drop_of_length-le, le-leb, ltb-false, leb-false}
use Rattle.std.proofs.Math.Bool.{true, false, cond, not}
use mathlib.Core.List.{List}
use Rattle.std.proofs.Math.Option.{Option, none, some}
use Rattle.std.proofs.Math.ListN.{length}
use Rattle.std.proofs.lemmas.Bool.{lt-leb}
use Rattle.laws.specs.Every.{never, neither}
use Rattle.laws.specs.Script.{Script, stop, ◌⨟◌}
use Rattle.laws.specs.Framed.{framed}
use Rattle.kinds.specs.Event.{begin_e, end_e}
use Rattle.kinds.specs.declared.event.Event.{Event}
use Rattle.coords.specs.declared.lists.Lists.{Lists}
use Rattle.coords.specs.Coords.{Lanes, Coords, drop_o, dropped, coords_s, between_s}
use Rattle.coords.specs.CoordLaws.{drop-one}
use Rattle.coords.specs.Views.{list_in, coords_in}
use Rattle.lines.specs.Lines.{single, bad_end, stretch_s, lines_s, flat_o, flat_s, rings_s, stretches_s, multi_line_s, if_there}

-- ---- ends
pub good_end : (before end : ℕ) {bad : Bool} → bad ≡ bad_end before end → bad ≡ false → (before ≤ end) × (end < 2147483648)
good_end before end e h =
    let t = neither (ltb end before) (leb 2147483648 end) (sym e ∙ h) in
    (ltb-false end before t.0, leb-false 2147483648 end t.1)

-- ---- a stretch
module _ (C : Coords) (before end idx : ℕ) {bad : Bool} (e : bad ≡ bad_end before end) where
  pub stretch_bad : bad ≡ true → stretch_s C before end idx ≡ stop 8
  unfolding stretch_s
  stretch_bad h = rw (sym e ∙ h)

  pub stretch_good : {w : Script Event} → bad ≡ false → between_s C.many C.xy C.lanes before end ≡ w → stretch_s C before end idx ≡ framed (begin_e 2 false (end - before) idx) w (end_e 2 false idx)
  unfolding stretch_s
  stretch_good h k = rw (sym e ∙ h, k)

-- ---- a whole list as one line
drop_none : (o : Option (List ℕ)) → drop_o 0 o ≡ o
drop_none none = refl
drop_none (some l) = refl

dropped_none : (L : Lanes) → dropped 0 L ≡ L
dropped_none L = λ i. record { z = drop_none L.z i; m = drop_none L.m i; t = drop_none L.t i; tm = drop_none L.tm i }

module _ (l : Lists) (kind : ℕ) (tagged : Bool) (idx : ℕ) where
  pub flat_absent : l.xy ≡ None → flat_s (coords_in l) kind tagged idx ≡ stop 1
  unfolding flat_s flat_o
  flat_absent h = rw h

  pub flat_whole : {words : Bor (List ℕ)} → l.xy ≡ Some words
      → flat_s (coords_in l) kind tagged idx ≡ framed (begin_e kind tagged (length words.now / 2) idx) (coords_s l.many (dropped 0 (coords_in l).lanes) words.now 0 0) (end_e kind tagged idx)
  unfolding flat_s flat_o
  flat_whole h = rw (h, dropped_none (coords_in l).lanes)

-- ---- lines, by the end at i
module _ (C : Coords) (ends : List ℕ) (before i idx : ℕ) where
  pub lines_end : length ends ≤ i → lines_s C (drop i ends) before idx ≡ stop 0
  unfolding lines_s
  lines_end h = rw (drop_of_length-le ends h)

  pub lines_next : i < length ends → lines_s C (drop i ends) before idx ≡ stretch_s C before (get_or ends i 0) idx ⨟ lines_s C (drop (i + 1) ends) (get_or ends i 0) (idx + 1)
  unfolding lines_s
  lines_next h = rw (drop-one ends i h)

-- ---- a record with 0 or 1 ends, and with more
module _ (C : Coords) (ends : List ℕ) where
  pub rings_single : length ends ≤ 1 → rings_s C ends ≡ flat_s C 2 false 0
  unfolding rings_s
  rings_single h = rw (le-leb (length ends) 1 h)

  pub rings_many : 1 < length ends → rings_s C ends ≡ lines_s C ends 0 0
  unfolding rings_s
  rings_many h = rw (lt-leb (length ends) 1 h)

-- ---- a record that may have no list to be its one stretch
module _ (l : Lists) {nothing : Bool} (e : nothing ≡ (not (is_some l.xy) && leb (length l.ends.now) 1)) where
  pub none_there : nothing ≡ true → (s t : Script Event) → cond (single l.ends.now) (if_there (coords_in l).xy s) t ≡ stop 0
  none_there h s t = go l.xy (single l.ends.now) (sym e ∙ h)
    where
      go : (o : OptionR (Bor (List ℕ))) (one : Bool) → (not (is_some o) && one) ≡ true → cond one (if_there (list_in o) s) t ≡ stop 0
      go None true h = refl
      go None false h = absurd (never h)
      go (Some words) one h = absurd (never h)

  pub some_there : nothing ≡ false → (s t : Script Event) → cond (single l.ends.now) (if_there (coords_in l).xy s) t ≡ cond (single l.ends.now) s t
  some_there h s t = go l.xy (single l.ends.now) (sym e ∙ h)
    where
      go : (o : OptionR (Bor (List ℕ))) (one : Bool) → (not (is_some o) && one) ≡ false → cond one (if_there (list_in o) s) t ≡ cond one s t
      go None true h = absurd (never (sym h))
      go None false h = refl
      go (Some words) true h = refl
      go (Some words) false h = refl

  pub multi_nothing : (idx : ℕ) → nothing ≡ true → multi_line_s (coords_in l) l.ends.now idx ≡ stop 0
  unfolding multi_line_s
  multi_nothing idx h = none_there h _ _

  pub multi_some : (idx : ℕ) → nothing ≡ false → multi_line_s (coords_in l) l.ends.now idx ≡ stretches_s 5 false idx (coords_in l) l.ends.now
  unfolding multi_line_s
  multi_some idx h = some_there h _ _ ∙ same (single l.ends.now)
    where
      same : (b : Bool) → cond b (stretches_s 5 false idx (coords_in l) l.ends.now) (stretches_s 5 false idx (coords_in l) l.ends.now) ≡ stretches_s 5 false idx (coords_in l) l.ends.now
      same true = refl
      same false = refl
