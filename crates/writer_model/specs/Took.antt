-- What an accepted call says of the state and of what is lent.
use Rattle.std.specs.Prelude.{None, Some, ◌≡◌, refl, Bool, true, false, cond, ℕ, ◌+◌, ◌≤◌, length, leb}
use Rattle.std.proofs.Common.{arith, leb-true}
use Rattle.laws.specs.Every.{both}
use Rattle.kinds.specs.Lanes.{Lane, usable, every_lane, lent_in}
use Rattle.store.specs.Lists.{lent_of}
use Rattle.store.specs.Records.{records_lent}
use Rattle.asking.specs.declared.typing.Typing.{Typing}
use Rattle.pending.specs.Words.{Pending, words_in, used}
use Rattle.writing.specs.declared.state.State.{State}
use Rattle.asking.specs.SetType.{Typed}
use Rattle.asking.specs.Ask.{Added, no_words}
use Rattle.asking.specs.declared.ask.Ask.{Ask}
use Rattle.writing.specs.State.{pool_in, Mem, wrote}
use Rattle.writing.specs.Feature.{belongs}
use Rattle.pending.specs.Growth.{more}
use Rattle.pending.specs.Room.{room_in, lane_room, has_room}
use Rattle.writing.specs.Calls.{records_for, state_after, room_or, decide_typed, decide_event, finished, decide_finish, renewed, decide_next}
use Rattle.writing.specs.Due.{Due, was_due, is-due, due-number}
use Rattle.kinds.specs.LaneLaws.{lane_of_every}
use Rattle.writer_model.specs.Lanes.{lent_by}

-- room for all that is used, for what is added, and for a number of records
pub record Room (p : Pending) (a : Added) (records : ℕ) (k : Mem) : Type 0 where
  pub table : records ≤ records_lent k.table
  pub most : records ≤ 4096
  pub lent : (n : Lane) → used (words_in p n) + more a n ≤ length (pool_in k.pools n)
  pub fits : (n : Lane) → used (words_in p n) + more a n ≤ usable n

abbrev pub room : Pending → Added → ℕ → Mem → Bool
room p a records k = has_room p a records (records_lent k.table) (lent_of k.pools)

within : (n lent most : ℕ) → room_in n lent most ≡ true → (n ≤ lent) × (n ≤ most)
within n lent most h = let t = both (leb n lent) (leb n most) h in (leb-true n lent t.0, leb-true n most t.1)

room_of_lem : (p : Pending) (a : Added) (records : ℕ) (k : Mem) → room p a records k ≡ true → Room p a records k
unfolding has_room
room_of_lem p a records k h =
    let t = both (room_in records (records_lent k.table) 4096) (every_lane (lane_room p (lent_of k.pools) a)) h in
    let r = within records (records_lent k.table) 4096 t.0 in
    record { table = r.0; most = r.1; lent = λ n. rw (lent_by k.pools n) at (lane t.1 n).0; fits = λ n. (lane t.1 n).1 }
  where
    lane : every_lane (lane_room p (lent_of k.pools) a) ≡ true → (n : Lane) → (used (words_in p n) + more a n ≤ lent_in (lent_of k.pools) n) × (used (words_in p n) + more a n ≤ usable n)
    lane e n = within (used (words_in p n) + more a n) (lent_in (lent_of k.pools) n) (usable n) (lane_of_every (lane_room p (lent_of k.pools) a) e n)

-- ---- an event
pub record TookEvent (s : State) (n : ℕ) (a : Ask) (k : Mem) : Type 0 where
  pub to : Typing
  pub typed : a.typed ≡ Some to
  pub going : s.waiting ≡ false
  pub own : belongs s.feature n ≡ true
  pub has : Room s.pending a.added (records_for s a) k
  pub is : decide_event s n a (records_lent k.table) (lent_of k.pools) ≡ wrote 0 (state_after s n a to)

pub took-event : (s : State) (n : ℕ) (a : Ask) (k : Mem) → (decide_event s n a (records_lent k.table) (lent_of k.pools)).number ≡ 0 → TookEvent s n a k
unfolding decide_event
took-event s n a k h = go a.typed (room s.pending a.added (records_for s a) k) refl refl (was_due s n _ h) (is-due s n _ h) (due-number s n _ h)
  where
    go : (o : Typed) (r : Bool) → a.typed ≡ o → room s.pending a.added (records_for s a) k ≡ r → Due s n
        → decide_event s n a (records_lent k.table) (lent_of k.pools) ≡ decide_typed s n a r o → (decide_typed s n a r o).number ≡ 0 → TookEvent s n a k
    go None r q t due is h = absurd (omega arith)
    go (Some g) false q t due is h = absurd (omega arith)
    go (Some g) true q t due is h = record { to = g; typed = q; going = due.turn; own = due.own; has = room_of_lem s.pending a.added (records_for s a) k t; is = is }

-- ---- finish
pub record TookFinish (s : State) (k : Mem) : Type 0 where
  pub going : s.waiting ≡ false
  pub has : Room s.pending no_words (s.parts + 1) k
  pub is : decide_finish s (records_lent k.table) (lent_of k.pools) ≡ wrote 0 (finished s)

pub took-finish : (s : State) (k : Mem) → (decide_finish s (records_lent k.table) (lent_of k.pools)).number ≡ 0 → TookFinish s k
unfolding decide_finish
took-finish s k h = go s.waiting (room s.pending no_words (s.parts + 1) k) refl refl h
  where
    go : (b r : Bool) → s.waiting ≡ b → room s.pending no_words (s.parts + 1) k ≡ r → (cond b (wrote 15 s) (room_or s r (finished s))).number ≡ 0 → TookFinish s k
    go true r p t h = absurd (omega arith)
    go false false p t h = absurd (omega arith)
    go false true p t h = record { going = p; has = room_of_lem s.pending no_words (s.parts + 1) k t; is = rw (t, p) }

-- ---- next
pub record TookNext (s : State) (k : Mem) : Type 0 where
  pub waits : s.waiting ≡ true
  pub has : Room s.pending no_words (s.parts + 1) k
  pub is : decide_next s (records_lent k.table) (lent_of k.pools) ≡ wrote 0 (renewed s)

pub took-next : (s : State) (k : Mem) → (decide_next s (records_lent k.table) (lent_of k.pools)).number ≡ 0 → TookNext s k
unfolding decide_next
took-next s k h = go s.waiting (room s.pending no_words (s.parts + 1) k) refl refl h
  where
    go : (b r : Bool) → s.waiting ≡ b → room s.pending no_words (s.parts + 1) k ≡ r → (cond b (room_or s r (renewed s)) (wrote 15 s)).number ≡ 0 → TookNext s k
    go false r p t h = absurd (omega arith)
    go true false p t h = absurd (omega arith)
    go true true p t h = record { waits = p; has = room_of_lem s.pending no_words (s.parts + 1) k t; is = rw (t, p) }
