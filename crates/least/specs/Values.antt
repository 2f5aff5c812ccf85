-- z, m, t and tm, said once over the four: a list gives up a word for each value that is said.
use Rattle.std.specs.Prelude.{◌≡◌, refl, Bool, cond, ◌||◌, List, [], ◌∷◌, ◌++◌, ℕ, ◌+◌, ◌*◌, ◌-◌, ◌≤◌, length}
use Rattle.std.proofs.Common.{ap, length-drop}
use Rattle.std.proofs.Math.Bool.{true, false}
use Rattle.std.proofs.Math.Option.{Option, none, some}
use native.Mathlib.Omega.{arith}
use Rattle.laws.specs.Every.{neither}
use Rattle.laws.specs.Script.{Script, say, ◌⨟◌}
use Rattle.kinds.specs.Event.{xy_e, coordinate_e}
use Rattle.kinds.specs.declared.event.Event.{Event}
use Rattle.kinds.specs.declared.flags.Flags.{Flags}
use Rattle.store.specs.Lists.{Rec}
use Rattle.geometries.specs.Coordinate.{multi, is, bits, coord_e}
use Rattle.coords.specs.Coords.{Lanes, head_of, tail_of, drop_o, dropped, tails, seen, coords_of, taken, coordinate_s, pair_s}
use Rattle.geometries.specs.Geometry.{Coord}
use Rattle.geometries.specs.Events.{shown}
use Rattle.least.specs.Size.{count}
use Rattle.least.specs.Least.{sum, there, words}
use Rattle.least.specs.Said.{said, rest, kinds, mute}

pub data Value : Type 0 where
  zV mV tV tmV : Value

-- what holds of each value, by its four cases
pub by_value : (P : Value → Type 0) → P zV → P mV → P tV → P tmV → (v : Value) → P v
by_value P z m t tm zV = z
by_value P z m t tm mV = m
by_value P z m t tm tV = t
by_value P z m t tm tmV = tm

abbrev pub lane_in : Lanes → Value → Option (List ℕ)
lane_in L zV = L.z
lane_in L mV = L.m
lane_in L tV = L.t
lane_in L tmV = L.tm

abbrev pub list_in : Rec → Value → Option (List ℕ)
list_in r zV = r.z
list_in r mV = r.m
list_in r tV = r.t
list_in r tmV = r.tm

abbrev pub flag_in : Flags → Value → Bool
flag_in F zV = F.z
flag_in F mV = F.m
flag_in F tV = F.t
flag_in F tmV = F.tm

abbrev pub value_in : Coord → Value → Option ℕ
value_in c zV = c.z
value_in c mV = c.m
value_in c tV = c.t
value_in c tmV = c.tm

abbrev pub shown_in : Flags → Coord → Value → Option ℕ
shown_in F c v = shown (flag_in F v) (value_in c v)

-- ---- how many of the pairs are shown with a value
abbrev pub tally : Flags → Value → List Coord → ℕ
tally F v cs = sum (λ c. there (shown_in F c v)) cs

there_most : (o : Option ℕ) → there o ≤ 1
there_most none = omega arith
there_most (some v) = omega arith

pub tally_most : (F : Flags) (v : Value) (cs : List Coord) → tally F v cs ≤ length cs
tally_most F v [] = omega arith
tally_most F v (c ∷ cs) = omega (arith, there_most (shown_in F c v), tally_most F v cs)

pub tally-append : (F : Flags) (v : Value) (cs ds : List Coord) → tally F v (cs ++ ds) ≡ tally F v cs + tally F v ds
tally-append F v [] ds = omega arith
tally-append F v (c ∷ cs) ds = omega (arith, tally-append F v cs ds)

pub words-tally : (F : Flags) (cs : List Coord) → sum (words F) cs ≡ 2 * length cs + tally F zV cs + tally F mV cs + tally F tV cs + tally F tmV cs
words-tally F [] = refl
words-tally F (c ∷ cs) = omega (arith, words-tally F cs)

-- ---- the lists of four at once
pub of_tails : (L : Lanes) (v : Value) → lane_in (tails L) v ≡ tail_of (lane_in L v)
of_tails L = by_value _ refl refl refl refl

count-drop : (n : ℕ) (o : Option (List ℕ)) → count (drop_o n o) ≡ count o - n
count-drop n none = omega arith
count-drop n (some l) = length-drop n l

pub count-dropped : (n : ℕ) (L : Lanes) (v : Value) → count (lane_in (dropped n L) v) ≡ count (lane_in L v) - n
count-dropped n L = by_value _ (count-drop n L.z) (count-drop n L.m) (count-drop n L.t) (count-drop n L.tm)

seen_most : (b : Bool) (o : Option (List ℕ)) → count (seen b o) ≤ count o
seen_most true o = omega arith
seen_most false o = omega arith

pub count-seen : (F : Flags) (r : Rec) (v : Value) → count (lane_in (coords_of F r).lanes v) ≤ count (list_in r v)
count-seen F r = by_value _ (seen_most F.z r.z) (seen_most F.m r.m) (seen_most F.t r.t) (seen_most F.tm r.tm)

-- ---- the present bits tell the values that are there
abbrev num : Bool → ℕ
num b = cond b 1 0

record Digit (b : Bool) : Type 0 where
  most : num b ≤ 1
  two : cond b 2 0 ≡ 2 * num b
  four : cond b 4 0 ≡ 4 * num b
  eight : cond b 8 0 ≡ 8 * num b

digit : (b : Bool) → Digit b
digit true = record { most = omega arith; two = refl; four = refl; eight = refl }
digit false = record { most = omega arith; two = refl; four = refl; eight = refl }

-- four digits to a number
same_digits : {a b c d a' b' c' d' : ℕ} → a ≤ 1 → b ≤ 1 → c ≤ 1 → d ≤ 1 → a' ≤ 1 → b' ≤ 1 → c' ≤ 1 → d' ≤ 1 → a + 2 * b + 4 * c + 8 * d ≡ a' + 2 * b' + 4 * c' + 8 * d' → (a ≡ a') × (b ≡ b') × (c ≡ c') × (d ≡ d')
same_digits p q r s p' q' r' s' e = (omega arith, omega arith, omega arith, omega arith)

same_bits : (a b c d a' b' c' d' : Bool) → bits a b c d ≡ bits a' b' c' d' → (num a ≡ num a') × (num b ≡ num b') × (num c ≡ num c') × (num d ≡ num d')
same_bits a b c d a' b' c' d' h =
    same_digits (digit a).most (digit b).most (digit c).most (digit d).most (digit a').most (digit b').most (digit c').most (digit d').most
    (omega (arith, h, (digit b).two, (digit c).four, (digit d).eight, (digit b').two, (digit c').four, (digit d').eight))

-- ---- a pair: what is said, and what the lists give up for it
taken_of : (o : Option (List ℕ)) (g : Option ℕ → Script Event) (T : Script Event) (e : Event) (S : Script Event) → taken (head_of o) g ⨟ T ≡ say e S
    → (a : Option ℕ) × (there a + count (tail_of o) ≤ count o) × (g a ⨟ T ≡ say e S)
unfolding taken
taken_of none g T e S h = (none, omega arith, h)
taken_of (some []) g T e S h = unfold ◌⨟◌ in mute h
taken_of (some (v ∷ l)) g T e S h = (some v, omega arith, h)

tail_most : (o : Option (List ℕ)) → count (tail_of o) ≤ count o
tail_most none = omega arith
tail_most (some []) = omega arith
tail_most (some (v ∷ l)) = omega arith

off : (b : Bool) (o : Option ℕ) → b ≡ false → there (shown b o) ≡ 0
off true o e = let z : ◌≡◌ {A = ℕ} 0 1 = cc in absurd (omega arith)
off false o e = refl

module _ (L : Lanes) (x y n : ℕ) (K T : Script Event) where
  record Taken (e : Event) (S : Script Event) : Type 0 where
    a : Option ℕ
    b : Option ℕ
    c : Option ℕ
    d : Option ℕ
    z : there a + count (tail_of L.z) ≤ count L.z
    m : there b + count (tail_of L.m) ≤ count L.m
    t : there c + count (tail_of L.t) ≤ count L.t
    tm : there d + count (tail_of L.tm) ≤ count L.tm
    says : say (coord_e x y a b c d n) (K ⨟ T) ≡ say e S

  all-taken : (e : Event) (S : Script Event) → pair_s true L x y n K ⨟ T ≡ say e S → Taken e S
  unfolding pair_s coordinate_s ◌⨟◌
  all-taken e S h =
      let p = taken_of L.z _ T e S h in
      let q = taken_of L.m _ T e S p.2 in
      let r = taken_of L.t _ T e S q.2 in
      let s = taken_of L.tm _ T e S r.2 in
      record { a = p.0; b = q.0; c = r.0; d = s.0; z = p.1; m = q.1; t = r.1; tm = s.1; says = s.2 }

  -- an event is said that is no begin and no end, and then the rest
  pub pair-next : (many : Bool) (e : Event) (S : Script Event) → pair_s many L x y n K ⨟ T ≡ say e S → (64 ≤ e.kind) × (K ⨟ T ≡ S)
  unfolding pair_s ◌⨟◌ coord_e coordinate_e xy_e
  pair-next true e S h = let v = all-taken e S h in let z : 65 ≡ e.kind = kinds v.says in (omega arith, rest v.says)
  pair-next false e S h = let z : 64 ≡ e.kind = kinds h in (omega arith, rest h)

  -- a word for each value that it is shown with
  pub pair-gives : (F : Flags) (p : Coord) (e : Event) (S : Script Event) (many : Bool) → multi F ≡ many
      → pair_s many L x y n K ⨟ T ≡ say (cond many (coord_e p.x p.y (shown F.z p.z) (shown F.m p.m) (shown F.t p.t) (shown F.tm p.tm) n) e) S
      → (v : Value) → there (shown_in F p v) + count (tail_of (lane_in L v)) ≤ count (lane_in L v)
  unfolding coord_e coordinate_e
  pair-gives F p e S false q h =
      let a = neither (F.z || F.m || F.t) F.tm q in
      let b = neither (F.z || F.m) F.t a.0 in
      let c = neither F.z F.m b.0 in
      by_value (λ v. there (shown_in F p v) + count (tail_of (lane_in L v)) ≤ count (lane_in L v)) (omega (arith, off F.z p.z c.0, tail_most L.z)) (omega (arith, off F.m p.m c.1, tail_most L.m)) (omega (arith, off F.t p.t b.1, tail_most L.t)) (omega (arith, off F.tm p.tm a.1, tail_most L.tm))
  pair-gives F p e S true q h =
      let w = all-taken _ S h in
      let same = same_bits (is w.a) (is w.b) (is w.c) (is w.d) (is (shown F.z p.z)) (is (shown F.m p.m)) (is (shown F.t p.t)) (is (shown F.tm p.tm)) (ap (λ (e : Event). e.present) (said w.says)) in
      by_value (λ v. there (shown_in F p v) + count (tail_of (lane_in L v)) ≤ count (lane_in L v)) (omega (arith, same.0, w.z)) (omega (arith, same.1, w.m)) (omega (arith, same.2, w.t)) (omega (arith, same.3, w.tm))
