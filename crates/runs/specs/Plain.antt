-- A plain event: it changes no typing and finishes no part. Plain are a pair, a coordinate, and a begin that sets no type.
use Rattle.std.specs.Prelude.{◌≡◌, Bool, not, ◌&&◌, List, ℕ, ◌≤◌, leb, ltb, Some}
use Rattle.std.proofs.Math.Path.{refl, ap}
use Rattle.std.proofs.Common.{sym, ◌∙◌, arith, leb-true, ltb-false, le-ltb, ne_eqb}
use Rattle.std.proofs.Math.Bool.{true, false, cond}
use Rattle.laws.specs.Cond.{if_so, if_not}
use Rattle.laws.specs.Every.{never, both}
use Rattle.kinds.specs.Event.{WellFormed, is_tagged_type}
use Rattle.kinds.specs.declared.event.Event.{Event}
use Rattle.kinds.specs.Lanes.{Lent}
use Rattle.event_log.specs.Log.{heard}
use Rattle.event_log.specs.LogLaws.{HeardPair, HeardCoordinate, HeardQuiet}
use Rattle.asking.specs.Ask.{Added, ask, no_words, pair_with, begun, ask_of}
use Rattle.asking.specs.declared.ask.Ask.{Ask}
use Rattle.asking.specs.SetType.{Typed}
use Rattle.writing.specs.declared.state.State.{State}
use Rattle.pending.specs.Words.{Pending}
use Rattle.writing.specs.Feature.{belongs}
use Rattle.writing.specs.State.{with_feature, with_pending, records_used, wrote}
use Rattle.pending.specs.Room.{has_room}
use Rattle.writing.specs.Calls.{is_ready, room_or, state_after, if_due, decide_event}
use Rattle.pending.specs.Growth.{grown_all}

-- what it asks for
abbrev pub plain : State → Added → Ask
plain s added = ask (Some s.typing) added false

-- why an event is refused, where own says whether it is of the feature in hand: it is not its turn, it is of another feature, or there is no room
abbrev pub blocked_by : Bool → Bool → ℕ
blocked_by waiting own = cond waiting 15 (cond own 12 17)

pub blocked_refuses : (waiting own : Bool) → blocked_by waiting own ≡ 0 → ⊥
blocked_refuses true own h = omega (arith, h)
blocked_refuses false true h = omega (arith, h)
blocked_refuses false false h = omega (arith, h)

-- why a plain one is refused under number n, where it is
abbrev pub blocked_number : State → ℕ → ℕ
blocked_number s n = blocked_by s.waiting (belongs s.feature n)

-- a state amid a run: the feature of this number is in hand and these words are pending, and all else stays
abbrev pub amid : State → ℕ → Pending → State
amid s held p = with_pending (with_feature s (Some held)) p

-- ---- bytes that are an event which asks, in every state, for such words and no more
pub record PlainEvent (bytes : List ℕ) (added : Added) (e : Event) : Type 0 where
  pub is : heard bytes ≡ WellFormed e
  pub asks : (s : State) → ask_of s.typing e ≡ plain s added

pair-asks : (s : State) (e : Event) → leb 64 e.kind ≡ true → ask_of s.typing e ≡ plain s (pair_with e.present)
unfolding ask_of
pair-asks s e far =
    let no_begin : 32 ≤ e.kind = omega (arith, leb-true 64 e.kind far) in
    sym (if_not _ (le-ltb _ _ no_begin) (if_so _ far refl))

tagged_begins : (kind : ℕ) → is_tagged_type kind ≡ true → ltb kind 32 ≡ true
tagged_begins kind h = by-test (ltb kind 32) refl
  where
    by-test : (b : Bool) → ltb kind 32 ≡ b → ltb kind 32 ≡ true
    by-test true is = is
    by-test false is =
        let far : 32 ≤ kind = ltb-false kind 32 is in
        absurd (never (rw (ne_eqb kind 2 (λ k. omega (arith, far, k)), ne_eqb kind 3 (λ k. omega (arith, far, k)), ne_eqb kind 17 (λ k. omega (arith, far, k))) at h))

quiet_asks : (s : State) (e : Event) → (is_tagged_type e.kind && not e.tagged) ≡ true → ask_of s.typing e ≡ plain s no_words
unfolding ask_of begun
quiet_asks s e h =
    let begins = tagged_begins e.kind (both (is_tagged_type e.kind) (not e.tagged) h).0 in
    sym (if_so _ begins (ap (λ (t : Typed). ask t no_words false) (if_so _ h refl)))

pub pair-plain : {bytes : List ℕ} {x y : ℕ} (h : HeardPair bytes x y) → PlainEvent bytes (pair_with 0) h.event
pair-plain h =
    record { is = h.is; asks = λ s. pair-asks s h.event (ap (leb 64) h.kind) ∙ ap (λ (present : ℕ). plain s (pair_with present)) h.alone }

pub coordinate-plain : {bytes : List ℕ} (e : Event) → HeardCoordinate bytes e → PlainEvent bytes (pair_with e.present) e
coordinate-plain e h = record { is = h.is; asks = λ s. pair-asks s e (ap (leb 64) h.kind) }

pub quiet_plain : {bytes : List ℕ} (h : HeardQuiet bytes) → PlainEvent bytes no_words h.event
quiet_plain h = record { is = h.is; asks = λ s. quiet_asks s h.event h.quiet }

-- ---- its answer, from the test of readiness and the test of what it adds
module _ (s : State) (n : ℕ) (added : Added) (records : ℕ) (pools : Lent) (ready test : Bool) (tells : is_ready s records pools ≡ ready) (apart : has_room s.pending added (records_used s) records pools ≡ (has_room s.pending no_words (records_used s) records pools && test)) where
  abbrev after : State
  after = amid s n (grown_all s.pending added)

  by-room : (b : Bool) → cond b (wrote 0 after) (wrote 12 s) ≡ room_or s b after
  by-room true = refl
  by-room false = refl

  pub plain_decides : cond (belongs s.feature n && ready && test) (wrote 0 (amid s n (grown_all s.pending added))) (wrote (blocked_number s n) s) ≡ decide_event s n (plain s added) records pools
  unfolding decide_event if_due state_after
  plain_decides = by_turn s.waiting (belongs s.feature n) tells
    where
      by_turn : (waiting own : Bool) → (not waiting && has_room s.pending no_words (records_used s) records pools) ≡ ready
          → cond (own && ready && test) (wrote 0 after) (wrote (blocked_by waiting own) s) ≡ cond waiting (wrote 15 s) (cond own (room_or s (has_room s.pending added (records_used s) records pools) after) (wrote 17 s))
      by_turn true true tells = ap (λ (b : Bool). cond (b && test) (wrote 0 after) (wrote 15 s)) (sym tells)
      by_turn true false tells = refl
      by_turn false false tells = refl
      by_turn false true tells =
          ap (λ (b : Bool). cond (b && test) (wrote 0 after) (wrote 12 s)) (sym tells)
          ∙ ap (λ (b : Bool). cond b (wrote 0 after) (wrote 12 s)) (sym apart)
          ∙ by-room (has_room s.pending added (records_used s) records pools)
