-- What is read behind a head, by its type.
use Rattle.std.specs.Prelude.{◌≡◌, Bool, true, false, cond, ℕ, zero, suc, ◌-◌, eqb, Result}
use Rattle.std.proofs.Common.{ap, Ok, Err, arith, ne_eqb}
use Rattle.std.proofs.Math.Nat.{pos_of_ne-zero}
use borrow.Author.Tests.{eq-eqb}
use Rattle.kinds.specs.declared.refusal.Refusal.{Refusal}
use Rattle.kinds.specs.declared.refusal.Refusal.TheVariants.{TooDeep}
use Rattle.event_log.specs.declared.log.Log.{Log}
use Rattle.event_log.specs.declared.layouts.Events.{Events}
use Rattle.wkb.specs.declared.order.Order.{Order}
use Rattle.wkb_reader.specs.declared.input.Input.{Input}
use Rattle.wkb_reader.specs.declared.head.Head.{Head}
use Rattle.wkb_reader.specs.Reading.{Reads, refuse, pair_r, group_r, part_r, simple_r, point_r, line_r, polygon_r, multi_r, geometry_r}
use Rattle.wkb_reader.specs.Onward.{Leads, same_leads, refused_leads}
use Rattle.wkb_reader.specs.Parts.{HeadIs}
use Rattle.wkb_reader.specs.HeadLaws.{head_refused, head_leads}

-- ---- which part, by its type
module _ (order : Order) (type i : ℕ) where
  pub part_pair : type ≡ 1 → part_r order type i ≡ pair_r order i
  unfolding part_r
  part_pair e = rw e

  pub part_line : type ≡ 2 → part_r order type i ≡ line_r order false i
  unfolding part_r
  part_line e = rw e

  pub part_polygon : (type ≡ 1 → ⊥) → (type ≡ 2 → ⊥) → part_r order type i ≡ polygon_r order false i
  unfolding part_r
  part_polygon a b = rw (ne_eqb type 1 a, ne_eqb type 2 b)

  module _ (left : ℕ) where
    pub simple_point : type ≡ 1 → simple_r left order type i ≡ point_r order i
    unfolding simple_r
    simple_point e = rw e

    pub simple_line : type ≡ 2 → simple_r left order type i ≡ line_r order true i
    unfolding simple_r
    simple_line e = rw e

    pub simple_polygon : type ≡ 3 → simple_r left order type i ≡ polygon_r order true i
    unfolding simple_r
    simple_polygon e = rw e

    pub simple_multi : (type ≡ 1 → ⊥) → (type ≡ 2 → ⊥) → (type ≡ 3 → ⊥) → simple_r left order type i ≡ multi_r left order type i
    unfolding simple_r
    simple_multi a b d = rw (ne_eqb type 1 a, ne_eqb type 2 b, ne_eqb type 3 d)

-- ---- a geometry by its head
module _ (idx : ℕ) (i j : Input) where
  abbrev of_type : ℕ → Order → ℕ → Reads
  of_type left order type = cond (eqb type 7) (group_r order 7 false (geometry_r left) idx) (simple_r left order type idx)

  pub geometry_refused : {T : Type 0} {e : Refusal} (left : ℕ) (a : Log Events) → HeadIs 1 7 i j (Err e) → Leads {T = T} (geometry_r left idx) a i a j (Err e)
  unfolding geometry_r
  geometry_refused zero a h = head_refused 1 7 (λ order type. refuse 13) i j a h
  geometry_refused (suc left) a h = head_refused 1 7 (of_type left) i j a h

  module _ {head : Head} (h : HeadIs 1 7 i j (Ok head)) where
    pub geometry_deep : {T : Type 0} {left : ℕ} (a : Log Events) → left ≡ 0 → Leads {T = T} (geometry_r left idx) a i a j (Err TooDeep)
    unfolding geometry_r
    geometry_deep a z = rw z (head_leads 1 7 (λ order type. refuse 13) i j h (refused_leads TooDeep a j j))

    module _ {T : Type 0} {a b : Log Events} {k : Input} {r : Result T Refusal} where
      behind : (left less : ℕ) → left ≡ suc less → Leads (of_type less head.order head.kind) a j b k r → Leads (geometry_r left idx) a i b k r
      unfolding geometry_r
      behind left less e g = rw e (head_leads 1 7 (of_type less) i j h g)

      pub geometry_collection : {left : ℕ} → (left ≡ 0 → ⊥) → head.kind ≡ 7 → Leads (group_r head.order 7 false (geometry_r (left - 1)) idx) a j b k r → Leads (geometry_r left idx) a i b k r
      geometry_collection {left = left} some e g =
          behind left (left - 1) (omega (arith, pos_of_ne-zero some))
          (same_leads (ap (λ (b : Bool). cond b (group_r head.order 7 false (geometry_r (left - 1)) idx) (simple_r (left - 1) head.order head.kind idx)) (eq-eqb head.kind 7 e)) g)

      pub geometry_simple : {left : ℕ} → (left ≡ 0 → ⊥) → (head.kind ≡ 7 → ⊥) → Leads (simple_r (left - 1) head.order head.kind idx) a j b k r → Leads (geometry_r left idx) a i b k r
      geometry_simple {left = left} some e g =
          behind left (left - 1) (omega (arith, pos_of_ne-zero some))
          (same_leads (ap (λ (b : Bool). cond b (group_r head.order 7 false (geometry_r (left - 1)) idx) (simple_r (left - 1) head.order head.kind idx)) (ne_eqb head.kind 7 e)) g)
