-- The pairs behind a begin, as many as its frame takes: a pass knows as much behind them as if it had taken each by itself.
use Rattle.std.specs.Prelude.{◌≡◌, refl, true, cond, ◌&&◌, List, ℕ, zero, suc, ◌+◌, ◌-◌, ◌*◌, ◌/◌, ◌%◌, ◌<◌, ◌≤◌, eqb, ltb, length, take, drop}
use Rattle.std.proofs.Common.{ap, subst, arith, lt-ltb, eq-eqb}
use Rattle.std.proofs.Math.Decide.{dec_lt}
use Rattle.kinds.specs.Event.{OwnPair, xy_e}
use Rattle.event_log.specs.Log.{heard, feature_in, record_of}
use Rattle.nesting.specs.Rules.{limit64}
use Rattle.nesting.specs.Machine.{Frame, frame, of_pairs, pair_fits}
use Rattle.nesting.specs.Tests.{five}
use Rattle.nesting.specs.declared.frame.Frame.{Frame as FrameR}
use Rattle.nesting.specs.Taking.{Is}
use Rattle.wkb_events.specs.Told.{PairIn, Behind}
use Rattle.wkb_events.specs.Walk.{pairs_on, pairs-moved}
use Rattle.wkb_judge.specs.Rows.{part_is}
use Rattle.wkb_judge.specs.Along.{Along}
use Rattle.wkb_judge.specs.Steps.{pair_on}
use Rattle.wkb_events.specs.declared.walk.Walk.{Walk}
use Rattle.wkb_events.specs.declared.told.Told.TheVariants.{Pair}

-- a frame takes its first pair, whichever open geometry it stands for
abbrev pub TakesFirst : {K : Type 0} → (K → ℕ) → FrameR K → Type 0
TakesFirst numbered top = (g : Frame) → Is numbered top g → (x y : ℕ) → x < limit64 → y < limit64 → pair_fits g x y 0 ≡ true

-- the records from one on are so many pairs of a feature, with the indices from 0 on
abbrev pub PairsFrom : List ℕ → ℕ → ℕ → ℕ → Type 0
PairsFrom bytes from feature count = (j : ℕ) → j < count → Behind (record_of bytes (from + j)) feature (Pair j)

-- and a frame that has none yet takes them
pub record Inside {K : Type 0} (numbered : K → ℕ) (bytes : List ℕ) (from feature : ℕ) (top : FrameR K) (count : ℕ) : Type 0 where
  pub each : PairsFrom bytes from feature count
  pub takes : 0 < count → TakesFirst numbered top
  pub fits : count ≤ top.size
  pub last : from + count ≤ length bytes / 64

xy_pair : (x y idx : ℕ) → x < limit64 → y < limit64 → PairIn (xy_e x y idx) idx
unfolding xy_e
xy_pair x y idx x_fits y_fits = record { x = x; y = y; x_fits = x_fits; y_fits = y_fits; reads = refl }

pub no_pairs : (bytes : List ℕ) (from feature : ℕ) → PairsFrom bytes from feature 0
no_pairs bytes from feature j less = absurd (omega (arith, less))

pub one_more_pair : (bytes : List ℕ) (from feature n : ℕ) → PairsFrom bytes from feature n → Behind (record_of bytes (from + n)) feature (Pair n) → PairsFrom bytes from feature (n + 1)
one_more_pair bytes from feature n before b j h = go (dec_lt j n)
  where
    go : Dec (j < n) → Behind (record_of bytes (from + j)) feature (Pair j)
    go (yes k) = before j k
    go (no k) = let e : n ≡ j = omega (arith, h, k) in subst (λ (m : ℕ). Behind (record_of bytes (from + m)) feature (Pair m)) e b

module _ {K : Type 0} {numbered : K → ℕ} {bytes : List ℕ} {from feature : ℕ} {top : FrameR K} where
  one_less_inside : {n : ℕ} → Inside numbered bytes from feature top (suc n) → Inside numbered bytes from feature top n
  one_less_inside ins = record { each = λ j h. ins.each j (omega (arith, h)); takes = λ some. ins.takes (omega arith); fits = omega (arith, ins.fits); last = omega (arith, ins.last) }

-- what the code found at a record
pub pair_behind : (bytes : List ℕ) (feature i idx : ℕ) → (let l = take (64 * i + 64 - 64 * i) (drop (64 * i) bytes) in OwnPair (heard l) (feature_in l) feature idx) → Behind (record_of bytes i) feature (Pair idx)
pair_behind bytes feature i idx h =
    let p : OwnPair (heard (record_of bytes i)) (feature_in (record_of bytes i)) feature idx = subst (λ (l : List ℕ). OwnPair (heard l) (feature_in l) feature idx) (part_is bytes i) h in
    record { event = xy_e p.x p.y idx; is = p.is; sorted = (eq-eqb (feature_in (record_of bytes i)) feature p.own, xy_pair p.x p.y idx p.x_fits p.y_fits) }

-- ---- in all that a pass knows
abbrev pub filled : {K : Type 0} → FrameR K → ℕ → FrameR K
filled top n = record { kind = top.kind; tagged = top.tagged; idx = top.idx; size = top.size; done = n }

-- the pair behind n others
next_fits : {K : Type 0} {numbered : K → ℕ} (top : FrameR K) → top.done ≡ 0 → TakesFirst numbered top → (n : ℕ) → n < top.size → (f : Frame) → Is numbered (filled top n) f → (x y : ℕ) → x < limit64 → y < limit64 → pair_fits f x y n ≡ true
next_fits top empty takes n room f is x y x_fits y_fits =
    let first = takes (frame f.type f.tagged f.idx f.size 0) (record { kind = is.kind; tagged = is.tagged; idx = is.idx; size = is.size; done = empty }) x y x_fits y_fits in
    let of_pairs_lem = (five (of_pairs f.type) (ltb 0 f.size) (eqb 0 0) (ltb x limit64) (ltb y limit64) first).0 in
    let below : ltb f.done f.size ≡ true = lt-ltb f.done f.size (omega (arith, room, is.size, is.done)) in
    let due : eqb n f.done ≡ true = eq-eqb n f.done is.done in
    λ i. of_pairs_lem i && below i && due i && lt-ltb x limit64 x_fits i && lt-ltb y limit64 y_fits i

module _ {K : Type 0} {numbered : K → ℕ} {bytes : List ℕ} {low feature i : ℕ} {w : Walk} {top : FrameR K} {stored : List (FrameR K)} (whole : length bytes % 64 ≡ 0) (first : feature ≡ feature_in (record_of bytes 0)) (empty : top.done ≡ 0) (a : Along numbered bytes low feature i w top stored) where
  abbrev Behind-pairs : ℕ → Type 0
  Behind-pairs n = Along numbered bytes low feature (i + n) (pairs_on w n) (filled top n) stored

  pub pairs-count : (n : ℕ) → Inside numbered bytes i feature top n → Behind-pairs n
  pairs-count zero ins =
      let here : i ≡ i + 0 = omega arith in
      let long : w.length ≡ w.length + cond w.around.points 21 16 * 0 = omega arith in
      subst (λ (m : ℕ). Along numbered bytes low feature m (pairs_on w 0) (filled top 0) stored) here
      (subst (λ (m : ℕ). Along numbered bytes low feature i (record { height = w.height; highest = w.highest; deep = w.deep; around = w.around; length = m }) (filled top 0) stored) long
      (subst (λ (m : ℕ). Along numbered bytes low feature i w (filled top m) stored) empty a))
  pairs-count (suc n) ins = one_more_lem (pairs-count n (one_less_inside ins))
    where
      one_more_lem : Behind-pairs n → Behind-pairs (suc n)
      one_more_lem before =
          let b = ins.each n (omega arith) in
          let p = b.sorted.1 in
          let e : n + 1 ≡ suc n = omega arith in
          let place : i + n + 1 ≡ i + (n + 1) = omega arith in
          subst Behind-pairs e
          (subst (λ (m : ℕ). Along numbered bytes low feature m (pairs_on w (n + 1)) (filled top (n + 1)) stored) place
          (pair_on whole first (omega (arith, ins.last)) before b
          (λ f fs o seen. next_fits top empty (ins.takes (omega arith)) n (omega (arith, ins.fits)) f (o.innermost seen) p.x p.y p.x_fits p.y_fits)
          (pairs-moved w n)
          (λ g is less. record { kind = is.kind; tagged = is.tagged; idx = is.idx; size = is.size; done = ap (λ (m : ℕ). m + 1) is.done })))
