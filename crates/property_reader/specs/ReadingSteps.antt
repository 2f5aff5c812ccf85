-- What the proofs of the reading code cite.
use Rattle.std.specs.Prelude.{Option, Some, None, ◌≡◌, refl, Bool, true, false, cond, List, ℕ, ◌-◌, ◌≤◌, ◌<◌, min, ltb, eqb, length, get_or, take, drop}
use Rattle.std.proofs.Math.Path.{sym}
use Rattle.std.proofs.Common.{Ok, Err, ap, ◌∙◌, arith, take_all}
use borrow.Author.Tests.{ltb-true, ltb-false, eq-eqb, ne_eqb}
use Rattle.laws.specs.Bytes.{word_at, part_cons}
use Rattle.laws.specs.Script.{Script, stop, say, one, out, run, run_stop, ◌⨟◌, seq_done, seq_refused, one_nine}
use Rattle.kinds.specs.declared.value.Value.{Value}
use Rattle.kinds.specs.declared.refusal.Refusal.{Refusal}
use Rattle.kinds.specs.Refusal.{number_of, refused}
use Rattle.event_log.specs.declared.log.Log.{Log}
use Rattle.event_log.specs.declared.layouts.Values.{Values}
use Rattle.event_log.specs.Values.{values}
use Rattle.event_log.specs.Says.{Says, of_values}
use Rattle.property_value.specs.declared.refused.PropertyRefusal.{PropertyRefusal}
use Rattle.property_value.specs.declared.refused.PropertyRefusal.TheVariants.{NotUtf8 as BadText, Other}
use Rattle.property_value.specs.Value.{placed}
use Rattle.property_value.specs.ValueLaws.{not-placed, proper}
use Rattle.property_value.specs.Refused.{Proper}
use Rattle.property_reader.specs.Reading.{Item, End, Refused, NotUtf8, Skipped, Found, Read, property_as, refused_as, item_at, on_item, on_from, end_script, properties_from, end_place, keep_place, bad_from, says, stopped}
use Rattle.property_reader.specs.ReadingLaws.{and_false, Ahead, ahead, on_unrolled, every_item}

-- ---- on the way

-- the reading goes on at a place, with the log as it is
pub record Going (bytes columns : List ℕ) (last : ℕ) (a b : Log Values) (at : ℕ) : Type 0 where
  pub inside : at ≤ length bytes
  pub memory : b.bytes.ghost_name ≡ a.bytes.ghost_name
  pub same-run : run values (properties_from bytes columns last 0) a.bytes.now a.count ≡ run values (properties_from bytes columns last at) b.bytes.now b.count
  pub same-says : says last (properties_from bytes columns last 0) ≡ says last (properties_from bytes columns last at)
  pub same_bad : bad_from bytes columns last 0 ≡ bad_from bytes columns last at

pub begun : (bytes columns : List ℕ) (last : ℕ) (a : Log Values) → Going bytes columns last a a 0
begun bytes columns last a = record { inside = omega arith; memory = refl; same-run = refl; same-says = refl; same_bad = refl }

-- the reading ends with a number, whether it stopped early, and a place
abbrev pub Ended : List ℕ → List ℕ → ℕ → Log Values → Log Values → ℕ → Bool → ℕ → Type 0
Ended bytes columns last a b number early place =
    (run values (properties_from bytes columns last 0) a.bytes.now a.count ≡ out number b.count b.bytes.now)
    × (early ≡ stopped last (properties_from bytes columns last 0) number)
    × (place ≡ placed number (bad_from bytes columns last 0))

-- 6 is refused of a text alone, with its place
unfoldable Placed : Item → Type 0
Placed End = Unit
Placed (Refused number) = number ≡ 6 → ⊥
Placed (NotUtf8 place) = Unit
Placed (Skipped next) = Unit
Placed (Found value next) = Unit

told_at : (bytes columns : List ℕ) (at : ℕ) (refusal : PropertyRefusal) → refused_as refusal ≡ item_at bytes columns at → Proper refusal
unfolding Placed
told_at bytes columns at (BadText place) e = tt
told_at bytes columns at (Other refusal) e =
    let item = every_item Placed bytes columns at tt (λ six. omega arith) (λ six. omega arith) (λ listed whole fails. tt) (λ next h l. tt) (λ kind len word next h l. tt) in
    proper refusal (rw (← e) at item)

no_place : (t : Bool) (place : ℕ) → place ≡ 0 → cond t place 0 ≡ 0
no_place true place e = e
no_place false place e = refl

module _ {bytes columns : List ℕ} {last : ℕ} {a b : Log Values} {at : ℕ} (g : Going bytes columns last a b at) where
  here : {R : Type 0} (ended : ℕ → ℕ → R) (said : Value → R → R) (i : Item) → i ≡ item_at bytes columns at
      → on_from ended said bytes columns last at ≡ on_item ended said last (on_from ended said bytes columns last) i
  here ended said i e = on_unrolled ended said bytes columns last at ∙ ap (on_item ended said last (on_from ended said bytes columns last)) (sym e)

  abbrev script : Item → Script Value
  script = on_item end_script say last (properties_from bytes columns last)

  runs_on : (i : Item) → i ≡ item_at bytes columns at → run values (properties_from bytes columns last 0) a.bytes.now a.count ≡ run values (script i) b.bytes.now b.count
  runs_on i e = g.same-run ∙ ap (λ (s : Script Value). run values s b.bytes.now b.count) (here end_script say i e)

  says_on : (i : Item) → i ≡ item_at bytes columns at → says last (properties_from bytes columns last 0) ≡ says last (script i)
  says_on i e = g.same-says ∙ ap (says last) (here end_script say i e)

  bad_on : (i : Item) → i ≡ item_at bytes columns at → bad_from bytes columns last 0 ≡ on_item end_place keep_place last (bad_from bytes columns last) i
  bad_on i e = g.same_bad ∙ here end_place keep_place i e

  pub skipped_ahead : (next : ℕ) → Skipped next ≡ item_at bytes columns at → (at < next) × (next ≤ length bytes)
  unfolding Ahead
  skipped_ahead next e = rw (← e) at (ahead bytes columns at)

  pub found_ahead : (value : Value) (next : ℕ) → Found value next ≡ item_at bytes columns at → (at < next) × (next ≤ length bytes)
  unfolding Ahead
  found_ahead value next e = rw (← e) at (ahead bytes columns at)

  -- a property leads on, with a value or with none
  pub leads : (value : Option Value) (next : ℕ) → property_as value next ≡ item_at bytes columns at → (at < next) × (next ≤ length bytes)
  leads None next e = skipped_ahead next e
  leads (Some value) next e = found_ahead value next e

  pub at-end : End ≡ item_at bytes columns at → Read bytes columns last a b (Ok false)
  unfolding on_item says stopped placed
  at-end e = record { memory = g.memory; log_value = runs_on End e ∙ run_stop values 0 b.bytes.now b.count; stopped_value = sym (says_on End e); place_value = refl; told = tt }

  pub at_refused : (number : ℕ) → Refused number ≡ item_at bytes columns at → Ended bytes columns last a b number false 0
  unfolding on_item says stopped placed
  at_refused number e = (
    runs_on (Refused number) e ∙ run_stop values number b.bytes.now b.count,
    sym (and_false (eqb number 0) _ (says_on (Refused number) e)),
    sym (no_place (eqb number 6) _ (bad_on (Refused number) e)),
  )

  pub at_not_utf8 : (place : ℕ) → NotUtf8 place ≡ item_at bytes columns at → Ended bytes columns last a b 6 false place
  unfolding on_item says stopped placed
  at_not_utf8 place e = (runs_on (NotUtf8 place) e ∙ run_stop values 6 b.bytes.now b.count, refl, sym (bad_on (NotUtf8 place) e))

  pub at_refusal : (refusal : PropertyRefusal) → refused_as refusal ≡ item_at bytes columns at → Read bytes columns last a b (Err refusal)
  at_refusal (BadText place) e =
      let ended = at_not_utf8 place e in
      record { memory = g.memory; log_value = ended.0; stopped_value = ended.1; place_value = ended.2; told = tt }
  at_refusal (Other refusal) e =
      let ended = at_refused (number_of refusal) e in
      record { memory = g.memory; log_value = ended.0; stopped_value = ended.1; place_value = ended.2; told = told_at bytes columns at (Other refusal) e }

  pub at_skipped : (next : ℕ) → Skipped next ≡ item_at bytes columns at → Going bytes columns last a b next
  unfolding on_item
  at_skipped next e =
      record {
        inside = (skipped_ahead next e).1;
        memory = g.memory;
        same-run = runs_on (Skipped next) e;
        same-says = says_on (Skipped next) e;
        same_bad = bad_on (Skipped next) e;
      }

  module _ (value : Value) (next : ℕ) (e : Found value next ≡ item_at bytes columns at) where
    later : Script Value
    later = cond (eqb value.column last) (stop 0) (properties_from bytes columns last next)

    runs_one : run values (properties_from bytes columns last 0) a.bytes.now a.count ≡ run values (one value ⨟ later) b.bytes.now b.count
    unfolding on_item ◌⨟◌ later
    runs_one = runs_on (Found value next) e

    pub at_full : (c : Log Values) {number : ℕ} → run values (one value) b.bytes.now b.count ≡ out number c.count c.bytes.now → (number ≡ 0 → ⊥) → Ended bytes columns last a c number false 0
    unfolding stopped
    at_full c {number} said h = (
      runs_one ∙ seq_refused values (one value) later b.bytes.now b.count said h,
      rw (ne_eqb number 0 h),
      sym (not-placed number _ (λ six. omega (arith, one_nine values value b.bytes.now b.count said h))),
    )

    pub at_full_log : {R : Type 0} {c : Log Values} {refusal : Refusal} → Says {R = R} of_values (one value) b c (Err refusal) → Read bytes columns last a c (Err (Other refusal))
    at_full_log {c = c} {refusal = refusal} said =
        let ended = at_full c said.said (refused refusal) in
        record {
          memory = said.memory ∙ g.memory;
          log_value = ended.0;
          stopped_value = ended.1;
          place_value = ended.2;
          told = proper refusal (λ six. omega (arith, one_nine values value b.bytes.now b.count said.said (refused refusal)));
        }

    module _ (c : Log Values) {number : ℕ} (said : run values (one value) b.bytes.now b.count ≡ out number c.count c.bytes.now) (done : number ≡ 0) where
      runs_after : run values (properties_from bytes columns last 0) a.bytes.now a.count ≡ run values later c.bytes.now c.count
      runs_after = runs_one ∙ seq_done values (one value) later b.bytes.now b.count (said ∙ ap (λ (n : ℕ). out n c.count c.bytes.now) done)

      pub at_last : value.column ≡ last → Ended bytes columns last a c 0 true 0
      unfolding on_item says stopped later placed
      at_last h =
          let t = eq-eqb value.column last h in
          (runs_after ∙ rw t (run_stop values 0 c.bytes.now c.count), sym (says_on (Found value next) e ∙ rw t), refl)

      pub at_next : (value.column ≡ last → ⊥) → c.bytes.ghost_name ≡ b.bytes.ghost_name → Going bytes columns last a c next
      unfolding on_item says later
      at_next h memory =
          let t = ne_eqb value.column last h in
          record {
            inside = (found_ahead value next e).1;
            memory = memory ∙ g.memory;
            same-run = rw t at runs_after;
            same-says = rw t at (says_on (Found value next) e);
            same_bad = rw t at (bad_on (Found value next) e);
          }

    module _ {R : Type 0} {u : R} {c : Log Values} (said : Says of_values (one value) b c (Ok u)) where
      pub at_last_said : value.column ≡ last → Read bytes columns last a c (Ok true)
      at_last_said h =
          let ended = at_last c said.said refl h in
          record { memory = said.memory ∙ g.memory; log_value = ended.0; stopped_value = ended.1; place_value = ended.2; told = tt }

      pub at_next_said : (value.column ≡ last → ⊥) → Going bytes columns last a c next
      at_next_said h = at_next c said.said refl h said.memory

-- ---- the usable bytes

pub usable_part : (bytes : List ℕ) (end : ℕ) → end ≡ min (length bytes) 65536 → take (end - 0) (drop 0 bytes) ≡ take 65536 bytes
usable_part bytes end e = go (ltb (length bytes) 65536) refl
  where
    go : (t : Bool) → ltb (length bytes) 65536 ≡ t → take (end - 0) bytes ≡ take 65536 bytes
    go true t =
        let h = ltb-true (length bytes) 65536 t in
        take_all (end - 0) bytes (omega arith) ∙ sym (take_all 65536 bytes (omega arith))
    go false t =
        let h : end - 0 ≡ 65536 = omega (arith, ltb-false (length bytes) 65536 t) in
        rw h

-- ---- how the code reads a number

pub one_at : (bytes : List ℕ) (at : ℕ) → at < length bytes → word_at 1 bytes at ≡ get_or bytes at 0
one_at bytes at h = rw (part_cons 0 at bytes h) (omega arith)
