-- Events that a record of 64 bytes holds, and scripts that say no others.
use Rattle.std.specs.Prelude.{◌≡◌, refl, Bool, true, false, cond, ◌&&◌, ◌||◌, ℕ, zero, suc, ◌<◌, leb, eqb}
use Rattle.std.proofs.Math.Option.{Option, none, some}
use Rattle.std.proofs.Common.{arith, lit<, eqb-true, leb-true}
use Rattle.laws.specs.Every.{both, every-at}
use Rattle.laws.specs.Script.{Script, stop, say, one, ◌⨟◌}
use Rattle.laws.specs.Framed.{framed}
use Rattle.kinds.specs.Event.{well_formed, EventSized, begin_e, end_e, xy_e, coordinate_e}
use Rattle.kinds.specs.declared.event.Event.{Event}
use Rattle.geometries.specs.Coordinate.{or0, coord_e}

-- ---- every record that a script says
module _ {A : Type 0} (P : A → Type 0) where
  abbrev pub AllSaid : Script A → Type 0
  AllSaid (stop c) = Unit {0}
  AllSaid (say a s) = P a × AllSaid s

  pub then-said : (s t : Script A) → AllSaid s → AllSaid t → AllSaid (s ⨟ t)
  unfolding ◌⨟◌
  then-said (stop zero) t p q = q
  then-said (stop (suc c)) t p q = tt
  then-said (say a s) t p q = (p.0, then-said s t p.1 q)

  pub framed-said : (b : A) (m : Script A) (e : A) → P b → AllSaid m → P e → AllSaid (framed b m e)
  unfolding framed
  framed-said b m e p q r = (p, then-said m (one e) q (r, tt))

  pub either_said : (b : Bool) (s t : Script A) → (b ≡ true → AllSaid s) → (b ≡ false → AllSaid t) → AllSaid (cond b s t)
  either_said true s t p q = p refl
  either_said false s t p q = q refl

-- ---- an event that keeps its kind's rules, of numbers that fit their fields
pub record Fits (e : Event) : Type 0 where
  pub sized : EventSized e
  pub formed : well_formed e ≡ true

abbrev pub Says : Script Event → Type 0
Says s = AllSaid Fits s

abbrev pub U32 : ℕ → Type 0
U32 n = n < 4294967296

abbrev pub U64 : ℕ → Type 0
U64 n = n < 18446744073709551616

-- ---- begins and ends: a type whose begin, of any size, and end keep the rules
abbrev pub Frame : ℕ → Bool → Type 0
Frame type tagged = (size idx : ℕ) → (well_formed (begin_e type tagged size idx) && well_formed (end_e type tagged idx)) ≡ true

pub begin_fits_lem : (type : ℕ) (tagged : Bool) (size idx : ℕ) → well_formed (begin_e type tagged size idx) ≡ true → U32 size → U32 idx → Fits (begin_e type tagged size idx)
unfolding begin_e
begin_fits_lem type tagged size idx formed p q = record { sized = record { size = p; idx = q; x = lit< tt; y = lit< tt; z = lit< tt; m = lit< tt; t = lit< tt; tm = lit< tt }; formed = formed }

pub end_fits_lem : (type : ℕ) (tagged : Bool) (idx : ℕ) → well_formed (end_e type tagged idx) ≡ true → U32 idx → Fits (end_e type tagged idx)
unfolding end_e
end_fits_lem type tagged idx formed q = record { sized = record { size = lit< tt; idx = q; x = lit< tt; y = lit< tt; z = lit< tt; m = lit< tt; t = lit< tt; tm = lit< tt }; formed = formed }

module _ (type : ℕ) (tagged : Bool) (frame : Frame type tagged) (size idx : ℕ) (size_fits : U32 size) (idx-fits : U32 idx) where
  pub frame_fits : Fits (begin_e type tagged size idx) × Fits (end_e type tagged idx)
  frame_fits =
      let formed = both (well_formed (begin_e type tagged size idx)) (well_formed (end_e type tagged idx)) (frame size idx) in
      (begin_fits_lem type tagged size idx formed.0 size_fits idx-fits, end_fits_lem type tagged idx formed.1 idx-fits)

  pub frame-says : (m : Script Event) → Says m → Says (framed (begin_e type tagged size idx) m (end_e type tagged idx))
  frame-says m body = framed-said Fits _ m _ frame_fits.0 body frame_fits.1

-- the types that are told apart by a test of a range
pub six_or_fifteen : (type : ℕ) → (eqb type 6 || eqb type 15) ≡ true → Frame type false
unfolding well_formed begin_e end_e
six_or_fifteen type h size idx = go (eqb type 6) refl h
  where
    go : (b : Bool) → eqb type 6 ≡ b → (b || eqb type 15) ≡ true → (well_formed (begin_e type false size idx) && well_formed (end_e type false idx)) ≡ true
    go true e h = rw (eqb-true type 6 e)
    go false e h = rw (eqb-true type 15 h)

pub nine_to_twelve : (type : ℕ) → (leb 9 type && leb type 12) ≡ true → Frame type false
unfolding well_formed begin_e end_e
nine_to_twelve type h size idx =
    let t = both (leb 9 type) (leb type 12) h in
    every-at (λ x. well_formed (begin_e x false size idx) && well_formed (end_e x false idx)) 9 4 type refl (leb-true 9 type t.0) (omega (arith, leb-true type 12 t.1))

-- ---- pairs
pub xy_fits : (x y idx : ℕ) → U64 x → U64 y → U32 idx → Fits (xy_e x y idx)
unfolding xy_e well_formed
xy_fits x y idx p q r = record { sized = record { size = lit< tt; idx = r; x = p; y = q; z = lit< tt; m = lit< tt; t = lit< tt; tm = lit< tt }; formed = refl }

-- present bits and values agree, whichever values are there
coord_formed : (x y idx : ℕ) (z m t tm : Option ℕ) → well_formed (coord_e x y z m t tm idx) ≡ true
unfolding well_formed coord_e coordinate_e
coord_formed x y idx none none none none = refl
coord_formed x y idx none none none (some d) = refl
coord_formed x y idx none none (some c) none = refl
coord_formed x y idx none none (some c) (some d) = refl
coord_formed x y idx none (some b) none none = refl
coord_formed x y idx none (some b) none (some d) = refl
coord_formed x y idx none (some b) (some c) none = refl
coord_formed x y idx none (some b) (some c) (some d) = refl
coord_formed x y idx (some a) none none none = refl
coord_formed x y idx (some a) none none (some d) = refl
coord_formed x y idx (some a) none (some c) none = refl
coord_formed x y idx (some a) none (some c) (some d) = refl
coord_formed x y idx (some a) (some b) none none = refl
coord_formed x y idx (some a) (some b) none (some d) = refl
coord_formed x y idx (some a) (some b) (some c) none = refl
coord_formed x y idx (some a) (some b) (some c) (some d) = refl

pub coord_fits : (x y idx : ℕ) (z m t tm : Option ℕ) → U64 x → U64 y → U32 idx → U64 (or0 z) → U64 (or0 m) → U64 (or0 t) → U64 (or0 tm) → Fits (coord_e x y z m t tm idx)
unfolding coord_e coordinate_e
coord_fits x y idx z m t tm p q r z-fits m-fits t-fits tm-fits =
    record { sized = record { size = lit< tt; idx = r; x = p; y = q; z = z-fits; m = m-fits; t = t-fits; tm = tm-fits }; formed = coord_formed x y idx z m t tm }
