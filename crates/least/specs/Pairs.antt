-- A record that is read as pairs has their words.
use Rattle.std.specs.Prelude.{◌≡◌, Bool, true, false, cond, length}
use Rattle.std.proofs.Math.Path.{refl}
use Rattle.std.proofs.Common.{sym, ◌∙◌, arith, length-append, length-take, length-drop}
use mathlib.Core.List.{List, [], ◌∷◌, ◌++◌}
use Rattle.std.proofs.Math.Option.{Option, none, some}
use Prim.Native.Nat.{ℕ, zero, suc, ◌+◌, ◌-◌, ◌*◌, ◌<◌, ◌≤◌, min}
use Rattle.laws.specs.Script.{Script, stop, say, ◌⨟◌}
use Rattle.kinds.specs.Event.{end_e, xy_e, coordinate_e}
use Rattle.kinds.specs.declared.event.Event.{Event}
use Rattle.kinds.specs.declared.flags.Flags.{Flags}
use Rattle.geometries.specs.Coordinate.{multi, coord_e}
use Rattle.coords.specs.Coords.{Lanes, dropped, tails, coords_s, between_s}
use Rattle.lines.specs.Lines.{flat_o}
use Rattle.geometries.specs.Geometry.{Coord}
use Rattle.geometries.specs.Events.{shown, each, seen_as, coord_of}
use Rattle.geometries.specs.Told.{told, framed_then}
use Rattle.least.specs.Size.{count}
use Rattle.least.specs.Said.{rest, kinds, mute}
use Rattle.least.specs.Values.{Value, lane_in, tally, tally_most, tally-append, of_tails, count-dropped, pair-next, pair-gives}

-- ---- the pairs of a list
pair_kind : (F : Flags) (c : Coord) (n : ℕ) → 64 ≤ (seen_as F c n).kind
unfolding coord_e coordinate_e xy_e
pair_kind F c n = go (multi F)
  where
    go : (many : Bool) → 64 ≤ (cond many (coord_e c.x c.y (shown F.z c.z) (shown F.m c.m) (shown F.t c.t) (shown F.tm c.tm) n) (xy_e c.x c.y n)).kind
    go true = omega arith
    go false = omega arith

-- e and e' are the ends after the pairs
module _ (F : Flags) (e e' : Event) (t : Script Event) (k : List Event) (low : e.kind < 64) (low' : e'.kind < 64) where
  record HasPairs (l : List ℕ) (L : Lanes) (cs : List Coord) : Type 0 where
    pub xy : length l ≡ 2 * length cs
    pub values : (v : Value) → tally F v cs ≤ count (lane_in L v)
    pub after : t ≡ told k

  of_pairs_lem : (l : List ℕ) (cs : List Coord) (L : Lanes) (n last : ℕ) → coords_s (multi F) L l n last ⨟ say e t ≡ told (each (coord_of F) cs n (e' ∷ k)) → HasPairs l L cs
  unfolding coords_s
  of_pairs_lem [] [] L n zero h = record { xy = refl; values = λ v. omega arith; after = unfold ◌⨟◌ in rest h }
  of_pairs_lem [] [] L n (suc c) h = unfold ◌⨟◌ in mute h
  of_pairs_lem [] (c ∷ cs) L n zero h = let z : e.kind ≡ (seen_as F c n).kind = unfold ◌⨟◌ in kinds h in absurd (omega (arith, pair_kind F c n))
  of_pairs_lem [] (c ∷ cs) L n (suc d) h = unfold ◌⨟◌ in mute h
  of_pairs_lem (x ∷ []) [] L n last h = unfold ◌⨟◌ in mute h
  of_pairs_lem (x ∷ []) (c ∷ cs) L n last h = unfold ◌⨟◌ in mute h
  of_pairs_lem (x ∷ (y ∷ l)) [] L n last h = absurd (omega (arith, (pair-next L x y n _ _ (multi F) _ _ h).0))
  of_pairs_lem (x ∷ (y ∷ l)) (c ∷ cs) L n last h =
      let later = of_pairs_lem l cs (tails L) (n + 1) last (pair-next L x y n _ _ (multi F) _ _ h).1 in
      record {
        xy = omega (arith, later.xy);
        values = λ v. omega (arith, pair-gives L x y n _ _ F c _ _ (multi F) refl h v, rw of_tails at (later.values v));
        after = later.after;
      }

pub end_low : (type : ℕ) (tagged : Bool) (i : ℕ) → type < 32 → (end_e type tagged i).kind < 64
unfolding end_e
end_low type tagged i h = omega arith

no_pairs : {A : Type 0} {c : ℕ} (F : Flags) (cs : List Coord) (n : ℕ) (e : Event) (k : List Event) → stop c ≡ told (each (coord_of F) cs n (e ∷ k)) → A
no_pairs F [] n e k h = mute h
no_pairs F (c ∷ cs) n e k h = mute h

-- ---- the lists have the words of the pairs from number `from` on
pub record Room (F : Flags) (o : Option (List ℕ)) (L : Lanes) (from : ℕ) (cs : List Coord) : Type 0 where
  pub xy : 2 * length cs ≤ count o - 2 * from
  pub values : (v : Value) → tally F v cs ≤ count (lane_in L v) - from

module _ (F : Flags) (o : Option (List ℕ)) (L : Lanes) where
  pub room_none : (from : ℕ) → Room F o L from []
  room_none from = record { xy = omega arith; values = λ v. omega arith }

  pub room-join : (from to : ℕ) (cs ds : List Coord) → to ≡ from + length cs → Room F o L from cs → Room F o L to ds → Room F o L from (cs ++ ds)
  room-join from to cs ds e r s =
      record {
        xy = omega (arith, length-append cs ds, r.xy, s.xy);
        values = λ v. omega (arith, tally-append F v cs ds, tally_most F v cs, r.values v, s.values v);
      }

pub of_between : (F : Flags) (o : Option (List ℕ)) (L : Lanes) (from to : ℕ) (e e' : Event) (t : Script Event) (k : List Event) (cs : List Coord) → e.kind < 64 → e'.kind < 64
    → between_s (multi F) o L from to ⨟ say e t ≡ told (each (coord_of F) cs 0 (e' ∷ k)) → Room F o L from cs × (t ≡ told k)
unfolding between_s
of_between F none L from to e e' t k cs low low' h = no_pairs {c = 1} F cs 0 e' k (unfold ◌⨟◌ in h)
of_between F (some l) L from to e e' t k cs low low' h =
    let q = of_pairs_lem F e e' t k low low' _ cs (dropped from L) 0 _ h in
    let len : min (2 * to - 2 * from) (length l - 2 * from) ≡ 2 * length cs = sym (simp (length-take, length-drop) refl) ∙ q.xy in
    (record { xy = omega arith; values = λ v. rw count-dropped at (q.values v) }, q.after)

pub of_flat : (F : Flags) (o : Option (List ℕ)) (L : Lanes) (type : ℕ) (tagged : Bool) (i : ℕ) (t : Script Event) (b : Event) (cs : List Coord) (j : ℕ) (k : List Event) → type < 32
    → flat_o (multi F) o L type tagged i ⨟ t ≡ told (b ∷ each (coord_of F) cs 0 (end_e type tagged j ∷ k)) → Room F o L 0 cs × (t ≡ told k)
unfolding flat_o
of_flat F none L type tagged i t b cs j k low h = unfold ◌⨟◌ in mute h
of_flat F (some l) L type tagged i t b cs j k low h =
    let q = of_pairs_lem F (end_e type tagged i) (end_e type tagged j) t k (end_low type tagged i low) (end_low type tagged j low) l cs L 0 0 (rest (rw framed_then at h)) in
    (record { xy = omega (arith, q.xy); values = λ v. omega (arith, q.values v) }, q.after)
