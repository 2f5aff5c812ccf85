-- A record that is read as lines, or triangles, has their words, and an end for each where there are two or more.
use Rattle.std.proofs.Math.Path.{◌≡◌, refl}
use Rattle.std.proofs.Common.{◌∙◌}
use Rattle.std.specs.Prelude.{Bool, leb, ltb}
use Rattle.std.proofs.Math.Bool.{true, false, cond}
use mathlib.Core.List.{List, [], ◌∷◌, append-nil}
use Rattle.std.proofs.Math.Option.{Option, none, some}
use Prim.Native.Nat.{ℕ, suc, ◌+◌, ◌-◌, ◌≤◌}
use native.Mathlib.Omega.{arith}
use Rattle.std.proofs.Math.ListN.{length}
use borrow.Author.Tests.{ltb-false}
use Rattle.laws.specs.Every.{neither}
use Rattle.laws.specs.Script.{Script, stop, say, ◌⨟◌}
use Rattle.laws.specs.Framed.{framed, seq_seq}
use Rattle.kinds.specs.Event.{begin_e, end_e}
use Rattle.kinds.specs.declared.event.Event.{Event}
use Rattle.kinds.specs.declared.flags.Flags.{Flags}
use Rattle.geometries.specs.Coordinate.{multi}
use Rattle.coords.specs.Coords.{Lanes, Coords, between_s}
use Rattle.lines.specs.Lines.{single, bad_end, stretch_s, lines_s, flat_s, rings_s, stretches_s, if_there, multi_line_s, triangle_at, triangles_s, triangle_s, tin_s}
use Rattle.geometries.specs.Geometry.{Line}
use Rattle.geometries.specs.Events.{each, group, line_of, triangle_of}
use Rattle.format.specs.Format.{joined}
use Rattle.geometries.specs.Told.{told, then-done, framed_then}
use Rattle.least.specs.Least.{ends}
use Rattle.least.specs.Said.{rest, kinds, sizes, mute}
use Rattle.least.specs.Pairs.{end_low, Room, room_none, room-join, of_between, of_flat}

ends_most : (ls : List Line) → ends ls ≤ length ls
ends_most ls = go (leb (length ls) 1)
  where
    go : (b : Bool) → cond b 0 (length ls) ≤ length ls
    go true = omega arith
    go false = omega arith

module _ (F : Flags) (o : Option (List ℕ)) (L : Lanes) where
  abbrev C : Coords
  C = record { many = multi F; xy = o; lanes = L }

  -- ---- a line
  record Stretch (before end : ℕ) (t : Script Event) (l : Line) (k : List Event) : Type 0 where
    pub end_is : end ≡ before + length l
    pub room : Room F o L before l
    pub after : t ≡ told k

  of_stretch : (before end i : ℕ) (t : Script Event) (l : Line) (j : ℕ) (k : List Event) → stretch_s C before end i ⨟ t ≡ told (line_of F l j k) → Stretch before end t l k
  unfolding stretch_s
  of_stretch before end i t l j k h = go (bad_end before end) refl h
    where
      go : (bad : Bool) → bad_end before end ≡ bad → cond bad (stop 8) (framed (begin_e 2 false (end - before) i) (between_s (multi F) o L before end) (end_e 2 false i)) ⨟ t ≡ told (line_of F l j k) → Stretch before end t l k
      go true q h = unfold ◌⨟◌ in mute h
      go false q h =
          let g = rw framed_then at h in
          let s = of_between F o L before end (end_e 2 false i) (end_e 2 false j) t k l (end_low 2 false i (omega arith)) (end_low 2 false j (omega arith)) (rest g) in
          let size : end - before ≡ length l = unfold begin_e in sizes g in
          record { end_is = omega (arith, size, ltb-false end before (neither (ltb end before) _ q).0); room = s.0; after = s.1 }

  of_lines_lem : (es : List ℕ) (before i : ℕ) (t : Script Event) (ls : List Line) (j : ℕ) (k : List Event) → length es ≡ length ls → lines_s C es before i ⨟ t ≡ told (each (line_of F) ls j k) → Room F o L before (joined ls) × (t ≡ told k)
  unfolding lines_s
  of_lines_lem [] before i t [] j k c h = (room_none F o L before, unfold ◌⨟◌ in h)
  of_lines_lem [] before i t (l ∷ ls) j k c h = absurd (omega arith)
  of_lines_lem (e ∷ es) before i t [] j k c h = absurd (omega arith)
  of_lines_lem (e ∷ es) before i t (l ∷ ls) j k c h =
      let s = of_stretch before e i _ l j _ (rw seq_seq at h) in
      let later = of_lines_lem es e (i + 1) t ls (j + 1) k (omega arith) s.after in
      (room-join F o L before e l (joined ls) s.end_is s.room later.0, later.1)

  -- ---- a begin, lines, an end
  pub record HasLines (es : List ℕ) (ls : List Line) (t : Script Event) (k : List Event) : Type 0 where
    pub room : Room F o L 0 (joined ls)
    pub ends_in : ends ls ≤ length es
    pub after : t ≡ told k

  pub of_stretches : (type : ℕ) (tagged : Bool) (i : ℕ) (es : List ℕ) (t : Script Event) (ls : List Line) (j : ℕ) (k : List Event) → stretches_s type tagged i C es ⨟ t ≡ told (group type tagged (line_of F) ls j k) → HasLines es ls t k
  unfolding stretches_s rings_s flat_s
  of_stretches type tagged i es t ls j k h = go (single es) ls (rw framed_then at h)
    where
      go : (one : Bool) (ls : List Line) → say (begin_e type tagged (cond one 1 (length es)) i) (cond one (flat_s C 2 false 0) (lines_s C es 0 0) ⨟ say (end_e type tagged i) t) ≡ told (group type tagged (line_of F) ls j k) → HasLines es ls t k
      go true [] h = let z : ◌≡◌ {A = ℕ} 1 0 = unfold begin_e in sizes h in absurd (omega arith)
      go true (l ∷ []) h =
          let s = of_flat F o L 2 false 0 _ _ l 0 _ (omega arith) (rest h) in
          record { room = rw append-nil s.0; ends_in = omega arith; after = rest s.1 }
      go true (l ∷ (n ∷ ls)) h = let z : 1 ≡ suc (suc (length ls)) = unfold begin_e in sizes h in absurd (omega arith)
      go false ls h =
          let z : length es ≡ length ls = unfold begin_e in sizes h in
          let s = of_lines_lem es 0 0 _ ls 0 _ z (rest h) in
          record { room = s.0; ends_in = omega (arith, z, ends_most ls); after = rest s.1 }

  there-said : (s t : Script Event) (e : Event) (S : Script Event) → (t ≡ say e S → ⊥) → if_there o s ⨟ t ≡ say e S → s ⨟ t ≡ say e S
  there-said s t e S u h = go o h
    where
      go : (o : Option (List ℕ)) → if_there o s ⨟ t ≡ say e S → s ⨟ t ≡ say e S
      go none h = absurd (u (unfold ◌⨟◌ in h))
      go (some l) h = h

  pub of_multi : (es : List ℕ) (ls : List Line) → multi_line_s C es 0 ≡ told (group 5 false (line_of F) ls 0 []) → HasLines es ls (stop 0) []
  unfolding multi_line_s
  of_multi es ls h = of_stretches 5 false 0 es (stop 0) ls 0 [] (go (single es) (then-done _ ∙ h))
    where
      go : (one : Bool) → cond one (if_there o (stretches_s 5 false 0 C es)) (stretches_s 5 false 0 C es) ⨟ stop 0 ≡ told (group 5 false (line_of F) ls 0 []) → stretches_s 5 false 0 C es ⨟ stop 0 ≡ told (group 5 false (line_of F) ls 0 [])
      go true h = there-said _ (stop 0) _ _ (λ e. mute e) h
      go false h = h

  -- ---- triangles
  of_triangle_lem : (tagged : Bool) (before end i : ℕ) (t : Script Event) (l : Line) (j : ℕ) (k : List Event) → triangle_at C tagged before end i ⨟ t ≡ told (triangle_of F tagged l j k) → Stretch before end t l k
  unfolding triangle_at
  of_triangle_lem tagged before end i t l j k h =
      let s = of_stretch before end 0 _ l 0 _ (rest (rw framed_then at h)) in
      record { end_is = s.end_is; room = s.room; after = rest s.after }

  of_triangles : (es : List ℕ) (before i : ℕ) (t : Script Event) (ls : List Line) (j : ℕ) (k : List Event) → length es ≡ length ls → triangles_s C es false before i ⨟ t ≡ told (each (triangle_of F false) ls j k) → Room F o L before (joined ls)
  unfolding triangles_s
  of_triangles [] before i t [] j k c h = room_none F o L before
  of_triangles [] before i t (l ∷ ls) j k c h = absurd (omega arith)
  of_triangles (e ∷ es) before i t [] j k c h = absurd (omega arith)
  of_triangles (e ∷ es) before i t (l ∷ ls) j k c h =
      let s = of_triangle_lem false before e i _ l j _ (rw seq_seq at h) in
      room-join F o L before e l (joined ls) s.end_is s.room (of_triangles es e (i + 1) t ls (j + 1) k (omega arith) s.after)

  -- the whole list as one
  of_only : (tagged : Bool) (es : List ℕ) (t : Script Event) (l : Line) (k : List Event) → (t ≡ told (triangle_of F tagged l 0 k) → ⊥) → if_there o (stretches_s 17 tagged 0 C es) ⨟ t ≡ told (triangle_of F tagged l 0 k) → Room F o L 0 (joined (l ∷ []))
  of_only tagged es t l k u h = (of_stretches 17 tagged 0 es t (l ∷ []) 0 k (there-said _ t _ _ u h)).room

  pub of_one_triangle : (es : List ℕ) (l : Line) → triangle_s C es true 0 ≡ told (triangle_of F true l 0 []) → Room F o L 0 (joined (l ∷ []))
  unfolding triangle_s triangles_s
  of_one_triangle es l h = go es (single es) (then-done _ ∙ h)
    where
      go : (fs : List ℕ) (one : Bool) → cond one (if_there o (stretches_s 17 true 0 C es)) (triangles_s C fs true 0 0) ⨟ stop 0 ≡ told (triangle_of F true l 0 []) → Room F o L 0 (joined (l ∷ []))
      go fs true h = of_only true es (stop 0) l [] (λ e. mute e) h
      go [] false h = unfold ◌⨟◌ in mute h
      go (f ∷ fs) false h = rw append-nil (of_triangle_lem true 0 f 0 _ l 0 _ (rw seq_seq at h)).room

  pub of_tin_lem : (es : List ℕ) (ls : List Line) → tin_s C es 0 ≡ told (group 16 false (triangle_of F false) ls 0 []) → Room F o L 0 (joined ls) × (ends ls ≤ length es)
  unfolding tin_s triangle_s
  of_tin_lem es ls h = go (single es) ls (rw framed_then at (then-done _ ∙ h))
    where
      go : (one : Bool) (ls : List Line) → say (begin_e 16 false (cond one 1 (length es)) 0) (cond one (if_there o (stretches_s 17 false 0 C es)) (triangles_s C es false 0 0) ⨟ say (end_e 16 false 0) (stop 0)) ≡ told (group 16 false (triangle_of F false) ls 0 []) → Room F o L 0 (joined ls) × (ends ls ≤ length es)
      go true [] h = let z : ◌≡◌ {A = ℕ} 1 0 = unfold begin_e in sizes h in absurd (omega arith)
      go true (l ∷ []) h =
          let no_begin : say (end_e 16 false 0) (stop 0) ≡ told (triangle_of F false l 0 (end_e 16 false 0 ∷ [])) → ⊥ = λ e. let z : ◌≡◌ {A = ℕ} 48 17 = unfold begin_e end_e in kinds e in omega arith in
          (of_only false es _ l _ no_begin (rest h), omega arith)
      go true (l ∷ (n ∷ ls)) h = let z : 1 ≡ suc (suc (length ls)) = unfold begin_e in sizes h in absurd (omega arith)
      go false ls h =
          let z : length es ≡ length ls = unfold begin_e in sizes h in
          (of_triangles es 0 0 _ ls 0 _ z (rest h), omega (arith, z, ends_most ls))
