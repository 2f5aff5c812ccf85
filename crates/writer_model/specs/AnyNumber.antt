-- What a feature comes to does not depend on its number: the same events are accepted, the memory is left the same, and the states differ in the feature in hand alone.
use Rattle.std.specs.Prelude.{None, Some, ◌≡◌, Bool, cond, ◌&&◌, ℕ, ◌+◌, eqb}
use Rattle.std.proofs.Math.Path.{refl, sym, ap, subst}
use Rattle.std.proofs.Common.{ap₂, ◌∙◌, eq-eqb}
use Rattle.std.proofs.Math.Bool.{true, false}
use mathlib.Core.List.{List, [], ◌∷◌}
use Rattle.kinds.specs.Event.{well_formed}
use Rattle.kinds.specs.declared.event.Event.{Event}
use Rattle.kinds.specs.Lanes.{Lent}
use Rattle.store.specs.Lists.{lent_of}
use Rattle.store.specs.Records.{records_lent, put_record}
use Rattle.asking.specs.declared.typing.Typing.{Typing}
use Rattle.asking.specs.SetType.{Typed}
use Rattle.asking.specs.Ask.{Added, ask, no_words, ask_of}
use Rattle.asking.specs.declared.ask.Ask.{Ask}
use Rattle.pending.specs.Room.{has_room}
use Rattle.writing.specs.Feature.{Feature, belongs}
use Rattle.writing.specs.declared.state.State.{State}
use Rattle.writing.specs.State.{Wrote, with_feature, Mem, memory, wrote}
use Rattle.writing.specs.Calls.{records_for, state_after, room_or, decide_typed, if_due, decide_event, table_after, mem_after, event_with, finished, root_of, decide_finish, finish_call, renewed, decide_next}
use Rattle.writer_model.specs.Fed.{sized, takes, fed_state, fed_to, fed_mem}
use Rattle.writer_model.specs.Feature.{finishes_in, finished_mem}

asked_after : (s : State) (f : Feature) (n : ℕ) (typed : Typed) (added : Added) (part : Bool) (h : Typing) → state_after (with_feature s f) n (ask typed added part) h ≡ with_feature (state_after s 0 (ask typed added part) h) (Some n)
unfolding state_after
asked_after s f n typed added true h = refl
asked_after s f n typed added false h = refl

after_is : (s : State) (f : Feature) (n : ℕ) (a : Ask) (h : Typing) → state_after (with_feature s f) n a h ≡ with_feature (state_after s 0 a h) (Some n)
after_is s f n a h = asked_after s f n a.typed a.added a.part h

-- ---- an event, given under n to a state that has f in hand, and under m to the same state with g in hand
module _ (n m : ℕ) where
  -- what holds of two answers with one number, whose states differ in the feature in hand alone, holds of the two that are given
  module _ (P : Wrote → Wrote → Type 0) (alike : (number : ℕ) (s : State) (f g : Feature) → belongs f n ≡ belongs g m → P (wrote number (with_feature s f)) (wrote number (with_feature s g))) where
    decided-alike : (s : State) (f g : Feature) → belongs f n ≡ belongs g m → (a : Ask) (records : ℕ) (pools : Lent)
        → P (decide_event (with_feature s f) n a records pools) (decide_event (with_feature s g) m a records pools)
    unfolding decide_event if_due
    decided-alike s f g own a records pools =
        subst (λ (b : Bool). P (decide_event (with_feature s f) n a records pools) (cond s.waiting (wrote 15 (with_feature s g)) (cond b (decide_typed (with_feature s g) m a (has_room s.pending a.added (records_for s a) records pools) a.typed) (wrote 17 (with_feature s g))))) own
        (by_tests s.waiting (belongs f n) (has_room s.pending a.added (records_for s a) records pools) a.typed)
      where
        by_tests : (waiting b room : Bool) (t : Typed)
            → P (cond waiting (wrote 15 (with_feature s f)) (cond b (decide_typed (with_feature s f) n a room t) (wrote 17 (with_feature s f)))) (cond waiting (wrote 15 (with_feature s g)) (cond b (decide_typed (with_feature s g) m a room t) (wrote 17 (with_feature s g))))
        by_tests true b room t = alike 15 s f g own
        by_tests false false room t = alike 17 s f g own
        by_tests false true room None = alike 5 s f g own
        by_tests false true false (Some h) = alike 12 s f g own
        by_tests false true true (Some h) = rw (after_is s f n a h, after_is s g m a h) (alike 0 (state_after s 0 a h) (Some n) (Some m) (eq-eqb n n refl ∙ sym (eq-eqb m m refl)))

  -- ---- a row of events
  module _ (records : ℕ) (pools : Lent) where
    takes-alike : (es : List Event) (s : State) (f g : Feature) → belongs f n ≡ belongs g m → takes (with_feature s f) n records pools es ≡ takes (with_feature s g) m records pools es
    takes-alike [] s f g own = refl
    takes-alike (e ∷ es) s f g own =
        decided-alike (λ (a b : Wrote). (well_formed e && sized e && eqb a.number 0 && takes a.state n records pools es) ≡ (well_formed e && sized e && eqb b.number 0 && takes b.state m records pools es))
        (λ number t f g own. ap (λ (rest : Bool). well_formed e && sized e && eqb number 0 && rest) (takes-alike es t f g own))
        s f g own (ask_of s.typing e) records pools

    fed_alike : (es : List Event) (s : State) (f g : Feature) → belongs f n ≡ belongs g m → with_feature (fed_state (with_feature s f) n records pools es) None ≡ with_feature (fed_state (with_feature s g) m records pools es) None
    fed_alike [] s f g own = refl
    fed_alike (e ∷ es) s f g own =
        decided-alike (λ (a b : Wrote). with_feature (fed_state a.state n records pools es) None ≡ with_feature (fed_state b.state m records pools es) None)
        (λ number t f g own. fed_alike es t f g own)
        s f g own (ask_of s.typing e) records pools

  mem_alike : (es : List Event) (k : Mem) (s : State) (f g : Feature) → belongs f n ≡ belongs g m → fed_mem (with_feature s f) n k es ≡ fed_mem (with_feature s g) m k es
  unfolding event_with mem_after table_after
  mem_alike [] k s f g own = refl
  mem_alike (e ∷ es) k s f g own =
      decided-alike (λ (a b : Wrote). fed_mem a.state n (cond (eqb a.number 0) (mem_after s (ask_of s.typing e) e k) k) es ≡ fed_mem b.state m (cond (eqb b.number 0) (mem_after s (ask_of s.typing e) e k) k) es)
      (λ number t f g own. mem_alike es _ t f g own)
      s f g own (ask_of s.typing e) (records_lent k.table) (lent_of k.pools)

-- ---- finish and next do not look at the feature in hand
module _ (s : State) (f : Feature) (records : ℕ) (pools : Lent) where
  finish-number : (decide_finish (with_feature s f) records pools).number ≡ (decide_finish s records pools).number
  unfolding decide_finish
  finish-number = by_tests s.waiting (has_room s.pending no_words (s.parts + 1) records pools)
    where
      by_tests : (waiting room : Bool) → (cond waiting (wrote 15 (with_feature s f)) (room_or (with_feature s f) room (finished (with_feature s f)))).number ≡ (cond waiting (wrote 15 s) (room_or s room (finished s))).number
      by_tests true room = refl
      by_tests false true = refl
      by_tests false false = refl

  next-number : (decide_next (with_feature s f) records pools).number ≡ (decide_next s records pools).number
  unfolding decide_next
  next-number = by_tests s.waiting (has_room s.pending no_words (s.parts + 1) records pools)
    where
      by_tests : (waiting room : Bool) → (cond waiting (room_or (with_feature s f) room (renewed (with_feature s f))) (wrote 15 (with_feature s f))).number ≡ (cond waiting (room_or s room (renewed s)) (wrote 15 s)).number
      by_tests false room = refl
      by_tests true true = refl
      by_tests true false = refl

finish_mem : (s : State) (f : Feature) (k : Mem) → (finish_call (with_feature s f) k).mem ≡ (finish_call s k).mem
unfolding finish_call root_of
finish_mem s f k = ap (λ (number : ℕ). cond (eqb number 0) (memory (put_record k.table 0 (root_of s)) k.pools) k) (finish-number s f (records_lent k.table) (lent_of k.pools))

-- ---- a feature under n, and under m: where none is in hand, these are any two numbers
module _ (s : State) (n m : ℕ) (own : belongs s.feature n ≡ belongs s.feature m) (k : Mem) (es : List Event) where
  fed_any : with_feature (fed_to s n k es) None ≡ with_feature (fed_to s m k es) None
  fed_any = fed_alike n m (records_lent k.table) (lent_of k.pools) es s s.feature s.feature own

  pub finishes-any : finishes_in s n k es ≡ finishes_in s m k es
  finishes-any =
      let records : ℕ = records_lent k.table in
      let pools : Lent = lent_of k.pools in
      let ends : (decide_finish (fed_to s n k es) records pools).number ≡ (decide_finish (fed_to s m k es) records pools).number =
      sym (finish-number (fed_to s n k es) None records pools) ∙ ap (λ (t : State). (decide_finish t records pools).number) fed_any ∙ finish-number (fed_to s m k es) None records pools in
      ap₂ (λ (all : Bool) (number : ℕ). all && eqb number 0) (takes-alike n m records pools es s s.feature s.feature own) ends

  pub finished-any : finished_mem s n k es ≡ finished_mem s m k es
  finished-any =
      sym (finish_mem (fed_to s n k es) None (fed_mem s n k es))
      ∙ ap₂ (λ (t : State) (left : Mem). (finish_call t left).mem) fed_any (mem_alike n m es k s s.feature s.feature own)
      ∙ finish_mem (fed_to s m k es) None (fed_mem s m k es)

  ends-any : with_feature (finished (fed_to s n k es)) None ≡ with_feature (finished (fed_to s m k es)) None
  unfolding finished
  ends-any = ap finished fed_any

  pub goes_any : (decide_next (finished (fed_to s n k es)) (records_lent k.table) (lent_of k.pools)).number ≡ (decide_next (finished (fed_to s m k es)) (records_lent k.table) (lent_of k.pools)).number
  goes_any =
      sym (next-number (finished (fed_to s n k es)) None _ _)
      ∙ ap (λ (t : State). (decide_next t (records_lent k.table) (lent_of k.pools)).number) ends-any
      ∙ next-number (finished (fed_to s m k es)) None _ _

  -- next leaves the very same state
  pub renewed-any : renewed (finished (fed_to s n k es)) ≡ renewed (finished (fed_to s m k es))
  unfolding renewed
  renewed-any = ap renewed ends-any
