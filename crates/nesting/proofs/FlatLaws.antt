-- The machine over flat events: well-formed ones are read without loss, so what it closes on is all of a geometry's flat events.
use Rattle.kinds.specs.declared.event.Event.{Event as Flat}
use Rattle.std.specs.Prelude.{◌≡◌, refl, ◌↔◌, Bool, true, false, not, ◌&&◌, ◌||◌, List, [], ◌∷◌, map, ℕ, zero, suc, ◌+◌, ◌-◌, ◌≤◌, eqb, leb, ltb}
use Rattle.std.proofs.Common.{sym, ap, ◌∙◌, arith, eqb-true, leb-true, ne_eqb}
use Rattle.std.proofs.lemmas.Bool.{lt-leb, not-true}
use Rattle.laws.specs.Every.{never, both, other}
use Rattle.kinds.specs.Event.{begin_e, end_e, xy_e, well_formed, keeps_uses, uses_of, bit_set, uses_tagged, uses_size, uses_pair, uses_present}
use Rattle.kinds.specs.declared.event.Uses.{Uses}
use Rattle.nesting.specs.declared.geometry_type.GeometryType.TheVariants.{Point, LineString, Polygon, MultiPoint, MultiLineString, MultiPolygon, Collection}
use Rattle.nesting.specs.Events.{Event, begin, end, pair, strange, events_of}
use Rattle.planar.specs.Fits.{Each}
use Rattle.nesting.specs.Rules.{Rules}
use Rattle.nesting.specs.Machine.{State, within, start, closed, Answer, taken, refused, number, numbered, step, and_then, run}
use Rattle.nesting.proofs.Accepts.{accepts}
use Rattle.nesting.proofs.Completes.{completed}
use Rattle.nesting.proofs.Exactly.{not_both}
use Rattle.nesting.specs.Flat.{is_type, read_as, read, flat}
use Rattle.nesting.specs.FlatEvents.{events-flat}
use Rattle.nesting.specs.FlatLaws.{WellFormed, FlatWhole}

-- ---- a flat event of an event is read as that event
abbrev Plain : Event → Type 0
Plain (begin type tagged size idx) = Unit {0}
Plain (end type tagged idx) = Unit {0}
Plain (pair x y idx) = Unit {0}
Plain (strange kind) = ⊥

read-flat : (e : Event) → Plain e → read (flat e) ≡ e
unfolding begin_e end_e xy_e
read-flat (begin Point tagged size idx) p = refl
read-flat (begin LineString tagged size idx) p = refl
read-flat (begin Polygon tagged size idx) p = refl
read-flat (begin MultiPoint tagged size idx) p = refl
read-flat (begin MultiLineString tagged size idx) p = refl
read-flat (begin MultiPolygon tagged size idx) p = refl
read-flat (begin Collection tagged size idx) p = refl
read-flat (end Point tagged idx) p = refl
read-flat (end LineString tagged idx) p = refl
read-flat (end Polygon tagged idx) p = refl
read-flat (end MultiPoint tagged idx) p = refl
read-flat (end MultiLineString tagged idx) p = refl
read-flat (end MultiPolygon tagged idx) p = refl
read-flat (end Collection tagged idx) p = refl
read-flat (pair x y idx) p = refl
read-flat (strange kind) p = absurd p

-- ---- what a kind does not use is zero
record Unused (e : Flat) (uses : Uses) : Type 0 where
  tagged : uses.tagged ≡ false → false ≡ e.tagged
  present : uses.present ≡ false → 0 ≡ e.present
  size : uses.size ≡ false → 0 ≡ e.size
  x : uses.pair ≡ false → 0 ≡ e.x
  y : uses.pair ≡ false → 0 ≡ e.y
  z : uses.present ≡ false → 0 ≡ e.z
  m : uses.present ≡ false → 0 ≡ e.m
  t : uses.present ≡ false → 0 ≡ e.t
  tm : uses.present ≡ false → 0 ≡ e.tm

zero_so : (p : Bool) (n : ℕ) → (p || eqb n 0) ≡ true → p ≡ false → 0 ≡ n
zero_so p n h q = sym (eqb-true n 0 (other p (eqb n 0) q h))

off : (p q : Bool) → p ≡ false → (p && q) ≡ false
off p q h = rw h

unused : (e : Flat) (uses : Uses) → keeps_uses e uses ≡ true → Unused e uses
unused e uses h =
    let u : Bool = uses.present in
    let no-tm = both _ ((u && bit_set e.present 8) || eqb e.tm 0) h in
    let no-t = both _ ((u && bit_set e.present 4) || eqb e.t 0) no-tm.0 in
    let no-m = both _ ((u && bit_set e.present 2) || eqb e.m 0) no-t.0 in
    let no-z = both _ ((u && bit_set e.present 1) || eqb e.z 0) no-m.0 in
    let no-y = both _ (uses.pair || eqb e.y 0) no-z.0 in
    let no-x = both _ (uses.pair || eqb e.x 0) no-y.0 in
    let no_size = both _ (uses.size || eqb e.size 0) no-x.0 in
    let few = both _ (ltb e.present 16) no_size.0 in
    let no_present = both (uses.idx && (uses.tagged || not e.tagged)) (u || eqb e.present 0) few.0 in
    let no-tag = both uses.idx (uses.tagged || not e.tagged) no_present.0 in
    record {
      tagged = λ q. sym (not-true e.tagged (other uses.tagged (not e.tagged) q no-tag.1));
      present = zero_so u e.present no_present.1;
      size = zero_so uses.size e.size no_size.1;
      x = zero_so uses.pair e.x no-x.1;
      y = zero_so uses.pair e.y no-y.1;
      z = λ q. zero_so (u && bit_set e.present 1) e.z no-z.1 (off u (bit_set e.present 1) q);
      m = λ q. zero_so (u && bit_set e.present 2) e.m no-m.1 (off u (bit_set e.present 2) q);
      t = λ q. zero_so (u && bit_set e.present 4) e.t no-t.1 (off u (bit_set e.present 4) q);
      tm = λ q. zero_so (u && bit_set e.present 8) e.tm no-tm.1 (off u (bit_set e.present 8) q);
    }

well_unused : (e : Flat) → WellFormed e → Unused e (uses_of e.kind)
unfolding well_formed
well_unused e w = unused e (uses_of e.kind) w

-- a begin or an end uses neither a pair nor present bits, an end no size
no_pair_lem : (kind : ℕ) → kind ≤ 39 → uses_pair kind ≡ false
no_pair_lem kind h = rw (ne_eqb kind 64 (omega arith), ne_eqb kind 65 (omega arith))

no_present : (kind : ℕ) → kind ≤ 39 → uses_present kind ≡ false
no_present kind h = ne_eqb kind 65 (omega arith)

no_size : (kind : ℕ) → 33 ≤ kind → uses_size kind ≡ false
no_size kind h = rw (lt-leb kind 12 (omega arith), lt-leb kind 17 (omega arith)) (nothing (leb 1 kind) (leb 15 kind) (not (eqb kind 1)))
  where
    nothing : (a b c : Bool) → (((a && false) || (b && false)) && c) ≡ false
    nothing true true c = refl
    nothing true false c = refl
    nothing false true c = refl
    nothing false false c = refl

-- ---- a well-formed flat event is that of the event read
type_range : (n : ℕ) → is_type n ≡ true → (1 ≤ n) × (n ≤ 7)
type_range n h = let t = both (leb 1 n) (leb n 7) h in (leb-true 1 n t.0, leb-true n 7 t.1)

pub number-numbered : (n : ℕ) → is_type n ≡ true → number (numbered n) ≡ n
number-numbered zero h = absurd (never h)
number-numbered (suc zero) h = refl
number-numbered (suc (suc zero)) h = refl
number-numbered (suc (suc (suc zero))) h = refl
number-numbered (suc (suc (suc (suc zero)))) h = refl
number-numbered (suc (suc (suc (suc (suc zero))))) h = refl
number-numbered (suc (suc (suc (suc (suc (suc zero)))))) h = refl
number-numbered (suc (suc (suc (suc (suc (suc (suc zero))))))) h = refl
number-numbered (suc (suc (suc (suc (suc (suc (suc (suc n)))))))) h = absurd (omega (arith, (type_range (suc (suc (suc (suc (suc (suc (suc (suc n)))))))) h).1))

begin-is : (e : Flat) → WellFormed e → is_type e.kind ≡ true → begin_e (number (numbered e.kind)) e.tagged e.size e.idx ≡ e
unfolding begin_e
begin-is e w h =
    let u = well_unused e w in
    let far : e.kind ≤ 39 = omega (arith, (type_range e.kind h).1) in
    let p = no_pair_lem e.kind far in
    let q = no_present e.kind far in
    λ i. record { kind = number-numbered e.kind h i; tagged = e.tagged; present = u.present q i; size = e.size; idx = e.idx; x = u.x p i; y = u.y p i; z = u.z q i; m = u.m q i; t = u.t q i; tm = u.tm q i }

end_is : (e : Flat) → WellFormed e → is_type (e.kind - 32) ≡ true → end_e (number (numbered (e.kind - 32))) e.tagged e.idx ≡ e
unfolding end_e
end_is e w h =
    let u = well_unused e w in
    let r = type_range (e.kind - 32) h in
    let n : number (numbered (e.kind - 32)) + 32 ≡ e.kind = omega (arith, number-numbered (e.kind - 32) h, r.0) in
    let far : e.kind ≤ 39 = omega (arith, r.1) in
    let p = no_pair_lem e.kind far in
    let q = no_present e.kind far in
    let s = no_size e.kind (omega (arith, r.0)) in
    λ i. record { kind = n i; tagged = e.tagged; present = u.present q i; size = u.size s i; idx = e.idx; x = u.x p i; y = u.y p i; z = u.z q i; m = u.m q i; t = u.t q i; tm = u.tm q i }

pair_is : (e : Flat) → WellFormed e → eqb e.kind 64 ≡ true → xy_e e.x e.y e.idx ≡ e
unfolding xy_e
pair_is e w h =
    let u = well_unused e w in
    let n = eqb-true e.kind 64 h in
    let q : uses_present e.kind ≡ false = ap uses_present n in
    λ i. record { kind = sym n i; tagged = u.tagged (ap uses_tagged n) i; present = u.present q i; size = u.size (ap uses_size n) i; idx = e.idx; x = e.x; y = e.y; z = u.z q i; m = u.m q i; t = u.t q i; tm = u.tm q i }

abbrev Is : Flat → Event → Type 0
Is e (begin type tagged size idx) = begin_e (number type) tagged size idx ≡ e
Is e (end type tagged idx) = end_e (number type) tagged idx ≡ e
Is e (pair x y idx) = xy_e x y idx ≡ e
Is e (strange kind) = Unit {0}

read_is : (e : Flat) → WellFormed e → Is e (read e)
read_is e w = go (is_type e.kind) refl (is_type (e.kind - 32)) refl (eqb e.kind 64) refl
  where
    go : (b : Bool) → is_type e.kind ≡ b → (c : Bool) → is_type (e.kind - 32) ≡ c → (d : Bool) → eqb e.kind 64 ≡ d → Is e (read_as b c d e)
    go true h c i d j = begin-is e w h
    go false h true i d j = end_is e w i
    go false h false i true j = pair_is e w j
    go false h false i false j = tt

flat-read : (e : Flat) (v : Event) → Plain v → Is e v → flat v ≡ e
flat-read e (begin type tagged size idx) p h = h
flat-read e (end type tagged idx) p h = h
flat-read e (pair x y idx) p h = h
flat-read e (strange kind) p h = absurd p

-- ---- rows that are taken
module _ (R : Rules) where
  plain : (e : Event) (s t : State) → step R s e ≡ taken t → Plain e
  plain (begin type tagged size idx) s t h = tt
  plain (end type tagged idx) s t h = tt
  plain (pair x y idx) s t h = tt
  plain (strange kind) (within f fs) t h = not_both 21 t h

  -- a row that is taken, flat and read again, is that row
  taken-row : (es : List Event) (s t : State) → run R es s ≡ taken t → map read (map flat es) ≡ es
  taken-row [] s t h = refl
  taken-row (e ∷ es) s t h = go (step R s e) refl h (λ u k. taken-row es u t k)
    where
      go : (a : Answer) → step R s e ≡ a → and_then a (λ u. run R es u) ≡ taken t → ((u : State) → run R es u ≡ taken t → map read (map flat es) ≡ es) → read (flat e) ∷ map read (map flat es) ≡ e ∷ es
      go (taken u) q k later = let p = read-flat e (plain e s u q) in let r = later u k in λ i. p i ∷ r i
      go (refused n) q k later = absurd (not_both n t k)

  -- and so is a row of well-formed flat events whose reading is taken
  read-row : (es : List Flat) (s t : State) → Each WellFormed es → run R (map read es) s ≡ taken t → map flat (map read es) ≡ es
  read-row [] s t w h = refl
  read-row (e ∷ es) s t w h = go (step R s (read e)) refl h (λ u k. read-row es u t w.1 k)
    where
      go : (a : Answer) → step R s (read e) ≡ a → and_then a (λ u. run R (map read es) u) ≡ taken t → ((u : State) → run R (map read es) u ≡ taken t → map flat (map read es) ≡ es) → flat (read e) ∷ map flat (map read es) ≡ e ∷ es
      go (taken u) q k later = let p = flat-read e (read e) (plain (read e) s u q) (read_is e w.0) in let r = later u k in λ i. p i ∷ r i
      go (refused n) q k later = absurd (not_both n t k)

  pub flat_exactly : (es : List Flat) → Each WellFormed es → (run R (map read es) start ≡ taken closed) ↔ FlatWhole R es
  flat_exactly es formed = (to, from)
    where
      to : run R (map read es) start ≡ taken closed → FlatWhole R es
      to h =
          let w = completed R (map read es) h in
          record {
            n = w.n;
            geometry = w.geometry;
            rule = w.rule;
            tell = sym (events-flat w.n w.geometry) ∙ ap (λ (l : List Event). map flat l) w.tell ∙ read-row es start closed formed h;
          }

      from : FlatWhole R es → run R (map read es) start ≡ taken closed
      from w =
          let taken-whole = accepts R w.n w.geometry w.rule in
          let read_whole : map read es ≡ events_of w.n w.geometry =
          ap (λ (l : List Flat). map read l) (sym (events-flat w.n w.geometry ∙ w.tell))
          ∙ taken-row (events_of w.n w.geometry) start closed taken-whole in
          ap (λ (l : List Event). run R l start) read_whole ∙ taken-whole
