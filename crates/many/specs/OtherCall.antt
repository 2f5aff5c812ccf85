-- What a begin that sets a type, or an end, comes to: the table and the ends are changed, if it is accepted.
use Rattle.std.specs.Prelude.{Result, ◌≡◌, refl, Bool, true, false, cond, List, ℕ, ◌<◌, eqb, length}
use Rattle.std.proofs.Common.{Ok, Err, sym, ◌∙◌}
use Rattle.std.proofs.Math.Path.{ap}
use Rattle.std.proofs.lemmas.List.Edits.{sets}
use Rattle.kinds.specs.Refusal.{answer_of}
use Rattle.kinds.specs.declared.refusal.Refusal.{Refusal}
use Rattle.kinds.specs.Event.{WellFormed}
use Rattle.kinds.specs.Lanes.{endsL}
use Rattle.kinds.specs.declared.event.Event.{Event}
use Rattle.store.specs.Lists.{pools_of, lent_of}
use Rattle.event_log.specs.Log.{heard, feature_in}
use Rattle.store.specs.Records.{records_lent}
use Rattle.asking.specs.declared.ask.Ask.{Ask}
use Rattle.asking.specs.SetType.{Typed}
use Rattle.writing.specs.declared.state.State.{State}
use Rattle.writing.specs.State.{wrote_of, Wrote, mem_of, outcome, settled}
use Rattle.pending.specs.Words.{used}
use Rattle.asking.specs.Ask.{end_if, ask, ask_of, OnlyEnds, other_adds}
use Rattle.writing.specs.Calls.{gives, is_ready, table_after, mem_after, event_with, event_call}
use Rattle.writing.specs.Other.{decide_other, other_decides}
use Rattle.writing.specs.Ends.{well_formed_lem}

all_or_none : (b : Bool) (table table' xy ends ends' z m t tm : List ℕ) → mem_of (cond b table' table) xy (cond b ends' ends) z m t tm ≡ cond b (mem_of table' xy ends' z m t tm) (mem_of table xy ends z m t tm)
all_or_none true table table' xy ends ends' z m t tm = refl
all_or_none false table table' xy ends ends' z m t tm = refl

module _ (s : State) (n : ℕ) (ready : Bool) (e : Event) (table xy ends z m t tm : List ℕ) {r : Wrote} {table' ends' : List ℕ} (tells : is_ready s (records_lent table) (lent_of (pools_of xy ends z m t tm)) ≡ ready) where
  asked_so : (typed : Typed) (end part : Bool)
      → r ≡ decide_other s n (ask typed (end_if end) part) ready (records_lent table) (length ends)
      → table' ≡ cond (eqb r.number 0) (table_after s (ask typed (end_if end) part) table) table
      → ends' ≡ cond (eqb r.number 0) (sets ends (used s.pending.ends) (gives s (end_if end) e endsL)) ends
      → outcome r (mem_of table' xy ends' z m t tm) ≡ event_with s n (ask typed (end_if end) part) e (mem_of table xy ends z m t tm)
  unfolding event_with mem_after
  asked_so typed end part answers table_is ends_is =
      (λ i. outcome r (mem_of (table_is i) xy (ends_is i) z m t tm))
      ∙ ap (outcome r) (all_or_none (eqb r.number 0) table _ xy ends _ z m t tm)
      ∙ ap (λ (w : Wrote). settled w (mem_of table xy ends z m t tm) (mem_after s (ask typed (end_if end) part) e (mem_of table xy ends z m t tm)))
      (answers ∙ other_decides s typed end part (records_lent table) (lent_of (pools_of xy ends z m t tm)) n ready tells)

  asked : (a : Ask) → OnlyEnds a
      → r ≡ decide_other s n a ready (records_lent table) (length ends)
      → table' ≡ cond (eqb r.number 0) (table_after s a table) table
      → ends' ≡ cond (eqb r.number 0) (sets ends (used s.pending.ends) (gives s a.added e endsL)) ends
      → outcome r (mem_of table' xy ends' z m t tm) ≡ event_with s n a e (mem_of table xy ends z m t tm)
  asked a only answers table_is ends_is =
      let as_ends : a ≡ ask a.typed (end_if a.added.ends) a.part = λ i. ask a.typed (only i) a.part in
      asked_so a.typed a.added.ends a.part
      (answers ∙ ap (λ (b : Ask). decide_other s n b ready (records_lent table) (length ends)) as_ends)
      (table_is ∙ ap (λ (b : Ask). cond (eqb r.number 0) (table_after s b table) table) as_ends)
      ends_is
      ∙ ap (λ (b : Ask). event_with s n b e (mem_of table xy ends z m t tm)) (sym as_ends)

  pub other_call : (bytes : List ℕ) → heard bytes ≡ WellFormed e → e.kind < 64 → n ≡ feature_in bytes
      → r ≡ decide_other s n (ask_of s.typing e) ready (records_lent table) (length ends)
      → table' ≡ cond (eqb r.number 0) (table_after s (ask_of s.typing e) table) table
      → ends' ≡ cond (eqb r.number 0) (sets ends (used s.pending.ends) (gives s (ask_of s.typing e).added e endsL)) ends
      → outcome r (mem_of table' xy ends' z m t tm) ≡ event_call s (mem_of table xy ends z m t tm) bytes
  other_call bytes is below number answers table_is ends_is =
      well_formed_lem s (mem_of table xy ends z m t tm) e bytes (sym is) refl
      (asked (ask_of s.typing e) (other_adds s.typing e below) answers table_is ends_is
      ∙ ap (λ (k : ℕ). event_with s k (ask_of s.typing e) e (mem_of table xy ends z m t tm)) number)

-- from the answer as the code has it
pub other_answered : (s : State) (n : ℕ) (ready : Bool) (e : Event) (table xy ends z m t tm : List ℕ) (answer : Result State Refusal) {table' ends' : List ℕ} → is_ready s (records_lent table) (lent_of (pools_of xy ends z m t tm)) ≡ ready
    → (bytes : List ℕ) → heard bytes ≡ WellFormed e → e.kind < 64 → n ≡ feature_in bytes
    → wrote_of s answer ≡ decide_other s n (ask_of s.typing e) ready (records_lent table) (length ends)
    → table' ≡ cond (eqb (answer_of answer) 0) (table_after s (ask_of s.typing e) table) table
    → ends' ≡ cond (eqb (answer_of answer) 0) (sets ends (used s.pending.ends) (gives s (ask_of s.typing e).added e endsL)) ends
    → outcome (wrote_of s answer) (mem_of table' xy ends' z m t tm) ≡ event_call s (mem_of table xy ends z m t tm) bytes
other_answered s n ready e table xy ends z m t tm (Ok after) tells = other_call s n ready e table xy ends z m t tm tells
other_answered s n ready e table xy ends z m t tm (Err refusal) tells = other_call s n ready e table xy ends z m t tm tells
