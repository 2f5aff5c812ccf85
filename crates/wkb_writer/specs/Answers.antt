-- What is written of a list, from what was judged of it.
use Rattle.std.specs.Prelude.{◌≡◌, refl, Bool, true, false, not, List, map, ℕ, ◌<◌, ◌≤◌, leb}
use Rattle.std.proofs.Common.{sym, ◌∙◌, le-leb}
use Rattle.std.proofs.Math.Path.{ap}
use Rattle.std.proofs.Math.Bool.{cond}
use Rattle.std.proofs.Math.Option.{Option, none}
use Rattle.std.proofs.lemmas.Bool.{lt-leb}
use Rattle.kinds.specs.declared.event.Event.{Event as Flat}
use Rattle.nesting.specs.Flat.{read}
use Rattle.nesting.specs.Levels.{sixteen}
use Rattle.event_log.specs.Log.{records_in}
use Rattle.wkb_written.specs.Spelling.{outermost, spelled}
use Rattle.wkb_written.specs.Writing.{listed, events_in, one_feature, nested, refused_with, if_room, written_of, writing}
use Rattle.wkb_judge.specs.Passing.{Faulty, Whole}

module _ (bytes : List ℕ) (room : ℕ) where
  -- `writing` goes by the events that are listed
  listed_as : (o : Option (List Flat)) → listed (records_in bytes) 0 bytes ≡ o → writing bytes room ≡ written_of o (one_feature bytes) room
  unfolding writing
  listed_as o h = ap (λ (o : Option (List Flat)). written_of o (one_feature bytes) room) h

  pub malformed-written : events_in bytes ≡ none → writing bytes room ≡ refused_with 11
  unfolding written_of
  malformed-written h = listed_as _ h

  pub not_nested_written : Faulty bytes → writing bytes room ≡ refused_with 21
  unfolding written_of
  not_nested_written f =
      listed_as _ f.listing
      ∙ ap (λ (b : Bool). cond b (cond (nested sixteen f.events) (if_room room (spelled outermost (map read f.events))) (refused_with 13)) (refused_with 21)) f.bad

  module _ {deep : Bool} {long : ℕ} (w : Whole bytes deep long) where
    by-depth : writing bytes room ≡ cond (nested sixteen w.events) (if_room room (spelled outermost (map read w.events))) (refused_with 13)
    unfolding written_of
    by-depth =
        listed_as _ w.listing
        ∙ ap (λ (b : Bool). cond b (cond (nested sixteen w.events) (if_room room (spelled outermost (map read w.events))) (refused_with 13)) (refused_with 21)) w.good

    shallow : (deep inside : Bool) → deep ≡ not inside → deep ≡ false → inside ≡ true
    shallow deep true e h = refl
    shallow deep false e h = sym h ∙ e

    deep_so : (deep inside : Bool) → deep ≡ not inside → deep ≡ true → inside ≡ false
    deep_so deep true e h = sym h ∙ e
    deep_so deep false e h = refl

    within_levels : deep ≡ false → writing bytes room ≡ if_room room (spelled outermost (map read w.events))
    within_levels h = by-depth ∙ ap (λ (b : Bool). cond b (if_room room (spelled outermost (map read w.events))) (refused_with 13)) (shallow deep (nested sixteen w.events) w.deep_is h)

    pub deep-written : deep ≡ true → writing bytes room ≡ refused_with 13
    deep-written h = by-depth ∙ ap (λ (b : Bool). cond b (if_room room (spelled outermost (map read w.events))) (refused_with 13)) (deep_so deep (nested sixteen w.events) w.deep_is h)

    pub no_room_written : deep ≡ false → room < long → writing bytes room ≡ refused_with 12
    no_room_written h more =
        within_levels h
        ∙ ap (λ (b : Bool). cond b (record { number = 0; bytes = spelled outermost (map read w.events) }) (refused_with 12))
        (ap (λ (n : ℕ). leb n room) (sym w.long_is) ∙ lt-leb long room more)

    pub all-written : deep ≡ false → long ≤ room → writing bytes room ≡ record { number = 0; bytes = spelled outermost (map read w.events) }
    all-written h enough =
        within_levels h
        ∙ ap (λ (b : Bool). cond b (record { number = 0; bytes = spelled outermost (map read w.events) }) (refused_with 12))
        (ap (λ (n : ℕ). leb n room) (sym w.long_is) ∙ le-leb long room enough)
