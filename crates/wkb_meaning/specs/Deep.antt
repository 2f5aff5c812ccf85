-- A geometry of more than 16 levels is refused with 13, at the first of its parts that lies too deep.
use Rattle.std.specs.Prelude.{◌≡◌, refl, Bool, true, false, ◌&&◌, ℕ, zero, suc, ◌+◌, ◌^◌, ◌<◌, leb, length}
use Rattle.std.proofs.Common.{ap, ◌∙◌, arith, lit<}
use mathlib.Core.List.{List, [], ◌∷◌, ◌++◌}
use Rattle.std.proofs.Math.Decide.{dec_lt}
use Rattle.laws.specs.Script.{Script}
use Rattle.laws.specs.Cut.{number_of}
use Rattle.kinds.specs.Event.{begin_e, end_e}
use Rattle.kinds.specs.declared.event.Event.{Event}
use Rattle.geometries.specs.Events as Told
use Rattle.planar.specs.Geometry.{Simple, point, line_string, polygon, multi_point, multi_line_string, multi_polygon, simple, collection, Geometry}
use Rattle.planar.specs.Within.{coord_in, line_in, rings_in, geometry_in, plain}
use Rattle.planar.specs.Fits.{Each, Row, FitsCoord, FitsLine, FitsRings, FitsSimple, Fits}
use Rattle.planar.specs.Levels.{deepest, alone, simple_levels, levels}
use Rattle.wkb.specs.Order.{number_bytes}
use Rattle.wkb.specs.Wkb.{Lays, uint32, head, joined_in, wkb_point, wkb_line_string, wkb_polygon, pair_bytes, ring_bytes, counted, own, SimpleOrders, Orders, wkb_simple, wkb}
use Rattle.wkb.specs.declared.order.Order.{Order}
use Rattle.wkb_reader.specs.Reading.{Next, Reads, saying, refuse, ◌⊳◌, field, several, group_r, head_r, member_r, multi_r, simple_r, geometry_r, at_end, reading_r}
use Rattle.wkb_meaning.specs.Fields.{field_at, head_at}
use Rattle.wkb_meaning.specs.Parts.{Within}
use Rattle.wkb_meaning.specs.Says.{said_then, Says, saying-says}
use Rattle.wkb_meaning.specs.Forward.{point-member, line-member, polygon-member, geometry_says}

-- bytes that a reading refuses so, whatever follows them
record TooDeep (R : Reads) (lays : Lays) : Type 0 where
  refused : (l : List ℕ) (next : Next) → number_of (R (lays l) next) ≡ 13

said-number : (es : List Event) (s : Script Event) → number_of (said_then es s) ≡ number_of s
unfolding said_then number_of
said-number [] s = refl
said-number (e ∷ es) s = said-number es s

field-deep : (o : Order) (wide v : ℕ) (f : ℕ → Reads) {b : Lays} → v < 256 ^ wide → TooDeep (f v) b → TooDeep (field o wide f) (λ l. number_bytes o wide v ++ b l)
field-deep o wide v f {b} h p = record { refused = λ l next. ap number_of (field_at o wide v f (b l) next h) ∙ p.refused l next }

-- a row is refused where its first part is, or where its first part is said and the others are refused
at_once : {R : Reads} {b : Lays} (S : Reads) (c : Lays) → TooDeep R b → TooDeep (R ⊳ S) (λ l. b (c l))
at_once S c p = record { refused = λ l next. p.refused (c l) (λ rest. S rest next) }

behind_said : {R S : Reads} {b c : Lays} {t : List Event → List Event} → Says R b t → TooDeep S c → TooDeep (R ⊳ S) (λ l. b (c l))
unfolding said_then
behind_said {S = S} {c = c} {t = t} p q =
    record { refused = λ l next. ap number_of (p.says (c l) (λ rest. S rest next) [] (S (c l) next) refl) ∙ said-number (t []) (S (c l) next) ∙ q.refused l next }

head-deep : (o : Order) (least most type : ℕ) (f : Order → ℕ → Reads) {b : Lays} → type < 4294967296 → (leb least type && leb type most) ≡ true → TooDeep (f o type) b
    → TooDeep (head_r least most f) (λ l. head o type (b l))
head-deep o least most type f {b} small there p = record { refused = λ l next. ap number_of (head_at o least most type f (b l) next small there) ∙ p.refused l next }

-- ---- the first of a row that is too deep: what stands before it is said
module _ {A : Type 0} (P O : A → Type 0) (depth : A → ℕ) (left : ℕ) (lays : (a : A) → O a → Lays) (R : ℕ → Reads) (tells : Told.Tells A)
    (said : (a : A) (o : O a) → Within P depth left a → (i : ℕ) → Says (R i) (lays a o) (tells a i))
    (deep : (a : A) (o : O a) → P a → left < depth a → (i : ℕ) → TooDeep (R i) (lays a o)) where
  several-deep : (xs : List A) (os : Each O xs) → Each P xs → left < deepest depth xs → (i : ℕ) → TooDeep (several R (length xs) i) (joined_in O lays xs os)
  unfolding several
  several-deep [] os ps h i = absurd (omega arith)
  several-deep (a ∷ xs) os ps h i = go (dec_lt left (depth a)) (λ k. several-deep xs os.1 ps.1 k (i + 1))
    where
      go : Dec (left < depth a) → (left < deepest depth xs → TooDeep (several R (length xs) (i + 1)) (joined_in O lays xs os.1)) → TooDeep (several R (length (a ∷ xs)) i) (joined_in O lays (a ∷ xs) os)
      go (yes k) later = at_once _ _ (deep a os.0 ps.0 k i)
      go (no k) later = behind_said (said a os.0 (ps.0, omega arith) i) (later (omega arith))

  group-deep : (o : Order) (type : ℕ) (tagged : Bool) (xs : List A) (os : Each O xs) → Row P xs → suc left < suc (deepest depth xs) → (i : ℕ)
      → TooDeep (group_r o type tagged R i) (λ l. uint32 o (length xs) (joined_in O lays xs os l))
  unfolding group_r
  group-deep o type tagged xs os ps h i =
      field-deep o 4 (length xs) _ ps.0 (behind_said (saying-says (begin_e type tagged (length xs) i)) (at_once (saying (end_e type tagged i)) (λ l. l) (several-deep xs os ps.1 (omega arith) 0)))

-- ---- no level is left: 13 stands behind a type that may stand there
no_level : (l : List ℕ) (next : Next) → number_of (refuse 13 l next) ≡ 13
unfolding number_of
no_level l next = refl

none_left : (b : Lays) → TooDeep (refuse 13) b
none_left b = record { refused = λ l next. no_level (b l) next }

member-deep : (left single : ℕ) (o : Order) (b : Lays) → single < 4294967296 → (leb single single && leb single single) ≡ true → left < 1 → (i : ℕ) → TooDeep (member_r left single i) (λ l. head o single (b l))
unfolding member_r
member-deep zero single o b small there deep i = head-deep o single single single _ small there (none_left b)
member-deep (suc left) single o b small there deep i = absurd (omega arith)

simple_none : (s : Simple) (os : SimpleOrders s) (i : ℕ) → TooDeep (geometry_r 0 i) (wkb_simple s os)
unfolding geometry_r
simple_none (point c) o i = head-deep o 1 7 1 _ (lit< tt) refl (none_left _)
simple_none (line_string l) o i = head-deep o 1 7 2 _ (lit< tt) refl (none_left _)
simple_none (polygon rs) o i = head-deep o 1 7 3 _ (lit< tt) refl (none_left _)
simple_none (multi_point cs) os i = head-deep os.0 1 7 4 _ (lit< tt) refl (none_left _)
simple_none (multi_line_string ls) os i = head-deep os.0 1 7 5 _ (lit< tt) refl (none_left _)
simple_none (multi_polygon ps) os i = head-deep os.0 1 7 6 _ (lit< tt) refl (none_left _)

geometry_none : (n : ℕ) (g : Geometry n) (os : Orders n g) (i : ℕ) → TooDeep (geometry_r 0 i) (wkb n g os)
unfolding geometry_r
geometry_none zero s os i = simple_none s os i
geometry_none (suc n) (simple s) os i = simple_none s os i
geometry_none (suc n) (collection gs) os i = head-deep os.0 1 7 7 _ (lit< tt) refl (none_left _)

-- ---- geometries
simple_deep : (left : ℕ) (s : Simple) (os : SimpleOrders s) → FitsSimple s → suc left < simple_levels s → (i : ℕ) → TooDeep (geometry_r (suc left) i) (wkb_simple s os)
unfolding geometry_r simple_r multi_r
simple_deep left (point c) o fits deep i = absurd (omega arith)
simple_deep left (line_string l) o fits deep i = absurd (omega arith)
simple_deep left (polygon rs) o fits deep i = absurd (omega arith)
simple_deep left (multi_point cs) os fits deep i =
    head-deep os.0 1 7 4 _ (lit< tt) refl
    (group-deep FitsCoord own alone left wkb_point (member_r left 1) (λ c. Told.coord_of plain (coord_in c)) (point-member left) (λ c o fits. member-deep left 1 o (pair_bytes o c) (lit< tt) refl) os.0 4 false cs os.1 fits deep i)
simple_deep left (multi_line_string ls) os fits deep i =
    head-deep os.0 1 7 5 _ (lit< tt) refl
    (group-deep FitsLine own alone left wkb_line_string (member_r left 2) (λ l. Told.line_of plain (line_in l)) (line-member left) (λ l o fits. member-deep left 2 o (ring_bytes o l) (lit< tt) refl) os.0 5 false ls os.1 fits deep i)
simple_deep left (multi_polygon ps) os fits deep i =
    head-deep os.0 1 7 6 _ (lit< tt) refl
    (group-deep FitsRings own alone left wkb_polygon (member_r left 3) (λ rs. Told.group 3 false (Told.line_of plain) (rings_in rs)) (polygon-member left) (λ rs o fits. member-deep left 3 o (counted o (ring_bytes o) rs) (lit< tt) refl) os.0 6 false ps os.1 fits deep i)

geometry_deep : (left n : ℕ) (g : Geometry n) (os : Orders n g) → Fits n g → left < levels n g → (i : ℕ) → TooDeep (geometry_r left i) (wkb n g os)
unfolding geometry_r
geometry_deep zero n g os fits deep i = geometry_none n g os i
geometry_deep (suc left) zero s os fits deep i = simple_deep left s os fits deep i
geometry_deep (suc left) (suc n) (simple s) os fits deep i = simple_deep left s os fits deep i
geometry_deep (suc left) (suc n) (collection gs) os fits deep i =
    head-deep os.0 1 7 7 _ (lit< tt) refl
    (group-deep (Fits n) (Orders n) (levels n) left (wkb n) (geometry_r left) (λ g. Told.geometry_of plain n (geometry_in n g)) (geometry_says left n) (geometry_deep left n) os.0 7 false gs os.1 fits deep i)

pub too_deep_lem : (n : ℕ) (g : Geometry n) (os : Orders n g) → Fits n g → 16 < levels n g → number_of (reading_r (wkb n g os [])) ≡ 13
unfolding reading_r
too_deep_lem n g os fits deep = (geometry_deep 16 n g os fits deep 0).refused [] at_end
