-- Bytes that a reading says events of, whatever follows: readings, bytes and events join piece by piece.
use Rattle.std.specs.Prelude.{◌≡◌, Bool, true, ◌&&◌, ℕ, ◌+◌, ◌^◌, ◌<◌, leb, length}
use Rattle.std.proofs.Common.{sym, ap, ◌∙◌}
use Rattle.std.proofs.Math.Path.{subst}
use mathlib.Core.List.{List, [], ◌∷◌, ◌++◌, map}
use Rattle.std.proofs.lemmas.List.{length-map}
use Rattle.laws.specs.Script.{Script, say}
use Rattle.kinds.specs.Event.{begin_e, end_e}
use Rattle.kinds.specs.declared.event.Event.{Event}
use Rattle.geometries.specs.Events.{Tells, each, group}
use Rattle.planar.specs.Fits.{Each, Row}
use Rattle.wkb.specs.Order.{number_bytes}
use Rattle.wkb.specs.Wkb.{Lays, head, uint32, joined_in}
use Rattle.wkb.specs.declared.order.Order.{Order}
use Rattle.wkb_reader.specs.Reading.{Next, Reads, saying, ◌⊳◌, field, several, group_r, head_r}
use Rattle.wkb_meaning.specs.Fields.{field_at, head_at}

-- events, and then a script
unfoldable pub said_then : List Event → Script Event → Script Event
said_then [] s = s
said_then (e ∷ es) s = say e (said_then es s)

-- bytes before others are read as events before others
pub record Says (R : Reads) (lays : Lays) (tells : List Event → List Event) : Type 0 where
  pub says : (l : List ℕ) (next : Next) (es : List Event) (s : Script Event) → next l ≡ said_then es s → R (lays l) next ≡ said_then (tells es) s

pub saying-says : (e : Event) → Says (saying e) (λ l. l) (λ es. e ∷ es)
unfolding said_then
saying-says e = record { says = λ l next es s h. ap (say e) h }

pub then-says : {R S : Reads} {b c : Lays} {t u : List Event → List Event} → Says R b t → Says S c u → Says (R ⊳ S) (λ l. b (c l)) (λ es. t (u es))
then-says {S = S} {c = c} {u = u} p q = record { says = λ l next es s h. p.says (c l) (λ rest. S rest next) (u es) s (q.says l next es s h) }

pub field-says : (o : Order) (wide v : ℕ) (f : ℕ → Reads) {b : Lays} {t : List Event → List Event} → v < 256 ^ wide → Says (f v) b t → Says (field o wide f) (λ l. number_bytes o wide v ++ b l) t
field-says o wide v f {b} h p = record { says = λ l next es s k. field_at o wide v f (b l) next h ∙ p.says l next es s k }

pub head-says : (o : Order) (least most type : ℕ) (f : Order → ℕ → Reads) {b : Lays} {t : List Event → List Event} → type < 4294967296 → (leb least type && leb type most) ≡ true → Says (f o type) b t
    → Says (head_r least most f) (λ l. head o type (b l)) t
head-says o least most type f {b} small there p = record { says = λ l next es s h. head_at o least most type f (b l) next small there ∙ p.says l next es s h }

-- ---- things one behind the other, each with an order of its own, told as others that they are
module _ {A B : Type 0} (P O : A → Type 0) (lays : (a : A) → O a → Lays) (R : ℕ → Reads) (within : A → B) (tells : Tells B)
    (one : (a : A) (o : O a) → P a → (i : ℕ) → Says (R i) (lays a o) (tells (within a) i)) where
  several-says : (xs : List A) (os : Each O xs) → Each P xs → (i : ℕ) → Says (several R (length xs) i) (joined_in O lays xs os) (each tells (map within xs) i)
  unfolding several
  several-says [] os ps i = record { says = λ l next es s h. h }
  several-says (a ∷ xs) os ps i = then-says (one a os.0 ps.0 i) (several-says xs os.1 ps.1 (i + 1))

  pub group-says : (o : Order) (type : ℕ) (tagged : Bool) (xs : List A) (os : Each O xs) → Row P xs → (i : ℕ)
      → Says (group_r o type tagged R i) (λ l. uint32 o (length xs) (joined_in O lays xs os l)) (group type tagged tells (map within xs) i)
  unfolding group_r
  group-says o type tagged xs os ps i =
      subst (λ (n : ℕ). Says (group_r o type tagged R i) (λ l. uint32 o (length xs) (joined_in O lays xs os l)) (λ es. begin_e type tagged n i ∷ each tells (map within xs) 0 (end_e type tagged i ∷ es))) (sym (length-map xs within))
      (field-says o 4 (length xs) _ ps.0 (then-says (saying-says (begin_e type tagged (length xs) i)) (then-says (several-says xs os ps.1 0) (saying-says (end_e type tagged i)))))
