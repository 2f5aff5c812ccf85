-- What a reading that ends with 0 has read: the bytes of some thing. What follows them ends with 0 too, so that findings join as readings do.
use Rattle.std.specs.Prelude.{◌≡◌, refl, Bool, true, false, cond, ◌&&◌, List, [], ◌∷◌, ◌++◌, leb, length, take, drop}
use Rattle.std.proofs.Common.{sym, ◌∙◌, arith, take-append-drop, length-take-le, get_or-drop, leb-true}
use Rattle.std.proofs.Math.Path.{ap}
use Prim.Native.Nat.{ℕ, zero, suc, ◌+◌, ◌%◌, ◌^◌, ◌<◌, ◌≤◌}
use Rattle.laws.specs.Every.{both}
use Rattle.laws.specs.Script.{stop}
use Rattle.laws.specs.Bytes.{Bytes, part_bytes}
use Rattle.laws.specs.Cut.{number_of}
use Rattle.planar.specs.Fits.{Each, Row}
use Rattle.wkb.specs.Order.{number_bytes, value_of}
use Rattle.wkb.specs.Wkb.{Lays, uint32, head, joined_in, counted}
use Rattle.wkb.specs.declared.order.Order.{Order}
use Rattle.wkb.specs.declared.order.Order.TheVariants.{Big, Little}
use Rattle.wkb_reader.specs.Reading.{Next, Reads, refuse, field, several, group_r, order_of, type_r, head_r}
use Rattle.wkb_meaning.specs.Fields.{number_value, value_lt}
use Rattle.wkb_meaning.specs.Parts.{free, joined_free}

pub record Found (X : Type 0) (lays : X → Lays) (next : X → Next) (l : List ℕ) : Type 0 where
  pub thing : X
  pub rest : List ℕ
  pub bytes : Bytes rest
  pub is : l ≡ lays thing rest
  pub goes : number_of (next thing rest) ≡ 0

-- a thing is found behind bytes that make it another, as a head does
pub behind : {X Y : Type 0} {lays : X → Lays} {whole : Y → Lays} {next : Next} {l m : List ℕ} (before : Lays) (as-whole : X → Y) → l ≡ before m → ((x : X) (k : List ℕ) → before (lays x k) ≡ whole (as-whole x) k)
    → Found X lays (λ x. next) m → Found Y whole (λ y. next) l
behind before as-whole e same found =
    record { thing = as-whole found.thing; rest = found.rest; bytes = found.bytes; is = e ∙ ap before found.is ∙ same found.thing found.rest; goes = found.goes }

-- ---- fields and tests: a refusal is never 0, so each field was there and each test passed
pub field_found : (o : Order) (wide : ℕ) (f : ℕ → Reads) (l : List ℕ) (next : Next) → Bytes l → number_of (field o wide f l next) ≡ 0
    → Found ((v : ℕ) × (v < 256 ^ wide)) (λ v k. number_bytes o wide v.0 ++ k) (λ v rest. f v.0 rest next) l
unfolding field number_of
field_found o wide f l next bytes h = go (leb wide (length l)) refl h
  where
    go : (b : Bool) → leb wide (length l) ≡ b → number_of (cond b (f (value_of o (take wide l)) (drop wide l) next) (stop 18)) ≡ 0
        → Found ((v : ℕ) × (v < 256 ^ wide)) (λ v k. number_bytes o wide v.0 ++ k) (λ v rest. f v.0 rest next) l
    go false e h = absurd (omega arith)
    go true e h =
        let long : length (take wide l) ≡ wide = length-take-le wide l (leb-true wide (length l) e) in
        let front = part_bytes wide 0 l bytes in
        let same = ap (λ (n : ℕ). number_bytes o n (value_of o (take wide l))) (sym long) ∙ number_value o (take wide l) front in
        record {
          thing = (value_of o (take wide l), rw long at (value_lt o (take wide l) front));
          rest = drop wide l;
          bytes = λ i. rw (get_or-drop wide l i 0) (bytes (wide + i));
          is = sym (ap (λ (k : List ℕ). k ++ drop wide l) same ∙ take-append-drop wide l);
          goes = h;
        }

passed : (b : Bool) (R : Reads) (c : ℕ) (l : List ℕ) (next : Next) → number_of (cond b R (refuse (suc c)) l next) ≡ 0 → (b ≡ true) × (number_of (R l next) ≡ 0)
unfolding number_of
passed true R c l next h = (refl, h)
passed false R c l next h = absurd (omega arith)

-- ---- an order mark and a type that may stand there
pub record Head (least most : ℕ) : Type 0 where
  pub order : Order
  pub type : ℕ
  pub from : least ≤ type
  pub to : type ≤ most

abbrev pub HeadFound : ℕ → ℕ → (Order → ℕ → Reads) → Next → List ℕ → Type 0
HeadFound least most f next = Found (Head least most) (λ x. head x.order x.type) (λ x rest. f x.order x.type rest next)

type_found : (o : Order) (least most : ℕ) (f : Order → ℕ → Reads) (l : List ℕ) (next : Next) → Bytes l → number_of (type_r least most f o l next) ≡ 0
    → Found ((type : ℕ) × (least ≤ type) × (type ≤ most)) (λ x. uint32 o x.0) (λ x rest. f o x.0 rest next) l
unfolding type_r
type_found o least most f l next bytes h =
    let found = field_found o 4 _ l next bytes h in
    let v : ℕ = found.thing.0 in
    let so = passed (leb least v && leb v most) (f o v) 18 found.rest next found.goes in
    let there = both (leb least v) (leb v most) so.0 in
    record { thing = (v, leb-true least v there.0, leb-true v most there.1); rest = found.rest; bytes = found.bytes; is = found.is; goes = so.1 }

pub head-found : (least most : ℕ) (f : Order → ℕ → Reads) (l : List ℕ) (next : Next) → Bytes l → number_of (head_r least most f l next) ≡ 0 → HeadFound least most f next l
unfolding head_r
head-found least most f l next bytes h =
    let found = field_found Little 1 _ l next bytes h in
    let v : ℕ = found.thing.0 in
    let so = passed (leb v 1) (type_r least most f (order_of v)) 18 found.rest next found.goes in
    by-mark v (leb-true v 1 so.0) found.rest found.is (type_found (order_of v) least most f found.rest next found.bytes so.1)
  where
    by-mark : (v : ℕ) → v ≤ 1 → (rest : List ℕ) → l ≡ v % 256 ∷ rest → Found ((type : ℕ) × (least ≤ type) × (type ≤ most)) (λ x. uint32 (order_of v) x.0) (λ x k. f (order_of v) x.0 k next) rest → HeadFound least most f next l
    by-mark zero small rest e found =
        record { thing = record { order = Big; type = found.thing.0; from = found.thing.1; to = found.thing.2 }; rest = found.rest; bytes = found.bytes; is = e ∙ ap (λ (k : List ℕ). 0 ∷ k) found.is; goes = found.goes }
    by-mark (suc zero) small rest e found =
        record { thing = record { order = Little; type = found.thing.0; from = found.thing.1; to = found.thing.2 }; rest = found.rest; bytes = found.bytes; is = e ∙ ap (λ (k : List ℕ). 1 ∷ k) found.is; goes = found.goes }
    by-mark (suc (suc v)) small rest e found = absurd (omega arith)

-- ---- a thing that keeps a rule, with an order for each of its order marks: together they fix its bytes
pub record Part {A : Type 0} (P O : A → Type 0) : Type 0 where
  pub part : A
  pub fact : P part
  pub order : O part

abbrev pub PartFound : {A : Type 0} (P O : A → Type 0) → ((a : A) → O a → Lays) → Next → List ℕ → Type 0
PartFound P O lays next = Found (Part P O) (λ x. lays x.part x.order) (λ x. next)

abbrev pub Finds : {A : Type 0} → Reads → (P O : A → Type 0) → ((a : A) → O a → Lays) → Type 0
Finds R P O lays = (l : List ℕ) (next : Next) → Bytes l → number_of (R l next) ≡ 0 → PartFound P O lays next l

module _ {A : Type 0} (P O : A → Type 0) (lays : (a : A) → O a → Lays) (R : ℕ → Reads) (one : (i : ℕ) → Finds (R i) P O lays) where
  several-found : (n i : ℕ) → Finds (several R n i) (λ xs. (length xs ≡ n) × Each P xs) (Each O) (joined_in O lays)
  unfolding several
  several-found zero i l next bytes h = record { thing = record { part = []; fact = (refl, tt); order = tt }; rest = l; bytes = bytes; is = refl; goes = h }
  several-found (suc n) i l next bytes h =
      let first = one i l (λ rest. several R n (i + 1) rest next) bytes h in
      let others = several-found n (i + 1) first.rest next first.bytes first.goes in
      let a = first.thing in
      let xs = others.thing in
      record {
        thing = record { part = a.part ∷ xs.part; fact = (ap suc xs.fact.0, (a.fact, xs.fact.1)); order = (a.order, xs.order) };
        rest = others.rest;
        bytes = others.bytes;
        is = first.is ∙ ap (lays a.part a.order) others.is;
        goes = others.goes;
      }

  -- a count that a u32 holds, and so many things
  pub group-found : (o : Order) (type : ℕ) (tagged : Bool) (i : ℕ) → Finds (group_r o type tagged R i) (Row P) (Each O) (λ xs os k. uint32 o (length xs) (joined_in O lays xs os k))
  unfolding group_r number_of
  group-found o type tagged i l next bytes h =
      let count = field_found o 4 _ l next bytes h in
      let found = several-found count.thing.0 0 count.rest _ count.bytes count.goes in
      let xs = found.thing in
      record {
        thing = record { part = xs.part; fact = (rw xs.fact.0 count.thing.1, xs.fact.1); order = xs.order };
        rest = found.rest;
        bytes = found.bytes;
        is = count.is ∙ ap (uint32 o count.thing.0) found.is ∙ ap (λ (n : ℕ). uint32 o n (joined_in O lays xs.part xs.order found.rest)) (sym xs.fact.0);
        goes = found.goes;
      }

-- what has no order marks needs no orders to be laid down
pub counted-found : {A : Type 0} (P : A → Type 0) (f : A → Lays) (R : ℕ → Reads) → ((i : ℕ) → Finds (R i) P free (λ a u. f a))
    → (o : Order) (type : ℕ) (tagged : Bool) (i : ℕ) → Finds (group_r o type tagged R i) (Row P) free (λ xs u. counted o f xs)
counted-found P f R one o type tagged i l next bytes h =
    behind (λ k. k) (λ x. record { part = x.part; fact = x.fact; order = tt }) refl (λ x k. ap (uint32 o (length x.part)) (joined_free f x.part x.order k)) (group-found P free (λ a u. f a) R one o type tagged i l next bytes h)
