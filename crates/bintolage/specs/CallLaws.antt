-- What the proofs of the calls cite.
use Rattle.std.specs.Prelude.{◌≡◌, refl, Bool, true, false, List, ℕ, ◌≤◌, Option, Some, Result, eqb, length}
use Rattle.std.proofs.Common.{sym, ap, subst, ◌∙◌, arith, eqb-true, length-take}
use mir.Val.{bool_byte}
use Rattle.laws.specs.Script.{Script, Format}
use Rattle.laws.specs.Cut.{Said, records_of, room_of}
use Rattle.std.proofs.lemmas.Bool.{eqb-false}
use Rattle.kinds.specs.Refusal.{answer_of}
use Rattle.kinds.specs.declared.refusal.Refusal.{Refusal}
use Rattle.kinds.specs.Event.{WellFormed, Malformed, BareOf}
use Rattle.kinds.specs.declared.event.Xy.{Xy}
use Rattle.kinds.specs.declared.event.Heard.TheVariants.{Pair}
use Rattle.event_log.specs.Log.{heard}
use Rattle.event_log.specs.LogLaws.{HeardPair, not_whole, behind}
use Rattle.writing.specs.declared.state.State.{State}
use Rattle.writing.specs.State.{Mem, Wrote, Outcome, outcome, wrote_of, wrote-number}
use Rattle.runs.specs.Events.{Took, Progress, progress}
use Rattle.as_words.specs.Words.{state_of, words_after, words_after_all}
use Rattle.bintolage.specs.Calls.{one, kept, kept_of, taken, taken_of}

-- a writing call on the state of the words, whose answer is kept in them
pub kept_call : (call : State → Outcome) (words : List ℕ) {s : State} {r : Wrote} {number : ℕ} {after : List ℕ} (mem : Mem)
    → s ≡ state_of words → outcome r mem ≡ call s → number ≡ r.number → after ≡ words_after words r
    → kept number after mem ≡ kept_of words (call (state_of words))
unfolding kept_of
kept_call call words mem same called number_is words_are = rw (number_is, words_are) (ap (kept_of words) called ∙ ap (λ (s : State). kept_of words (call s)) same)

-- from the answer as the code has it
pub kept_answered : (call : State → Outcome) (words : List ℕ) {s : State} (answer : Result State Refusal) {number : ℕ} {after : List ℕ} (mem : Mem)
    → s ≡ state_of words → outcome (wrote_of s answer) mem ≡ call s → number ≡ answer_of answer → ((t : State) → after ≡ words_after words (wrote_of t answer))
    → kept number after mem ≡ kept_of words (call (state_of words))
kept_answered call words {s} answer mem same called number_is words_are = kept_call call words mem same called (number_is ∙ sym (wrote-number s answer)) (words_are s)

pub taken_call : (call : State → Progress) (words : List ℕ) {s : State} {r : Took} {number count : ℕ} {after : List ℕ} (mem : Mem)
    → s ≡ state_of words → progress r mem ≡ call s → number ≡ r.number → count ≡ r.taken → after ≡ words_after_all words r
    → taken number count after mem ≡ taken_of words (call (state_of words))
unfolding taken_of
taken_call call words mem same called number_is count-is words_are = rw (number_is, count-is, words_are) (ap (taken_of words) called ∙ ap (λ (s : State). taken_of words (call s)) same)

-- bytes that a quick look tells to be a pair are heard as it,
pub look-heard : (bytes : List ℕ) {look : Option Xy} {pair : Xy} → BareOf (heard bytes) look → look ≡ Some pair → HeardPair bytes pair.x pair.y
look-heard bytes {pair = pair} said is = behind bytes (Pair pair.x pair.y) (subst (λ (look : Option Xy). BareOf (heard bytes) look) is said)

-- and are a whole record
pub pair_whole : (bytes : List ℕ) {x y : ℕ} → HeardPair bytes x y → length bytes ≡ 64
pair_whole bytes h = by-test (eqb (length bytes) 64) refl
  where
    by-test : (long : Bool) → eqb (length bytes) 64 ≡ long → length bytes ≡ 64
    by-test true e = eqb-true (length bytes) 64 e
    by-test false e =
        let told : WellFormed h.event ≡ Malformed = sym h.is ∙ not_whole bytes (eqb-false (length bytes) 64 e) in
        let z : ◌≡◌ {A = ℕ} 0 1 = cc in
        absurd (omega arith)

-- a count of log records fits 32 bits
pub count_most : {A : Type 0} (F : Format A) (s : Script A) (L : List ℕ) {number count : ℕ} {M : List ℕ} → Said F s L number count M → count ≤ 1048576
unfolding room_of
count_most F s L said = omega (arith, said.count-is, length-take (room_of F.wide L) (records_of s))

-- a bool that is cast to a byte
pub stop_byte : (b : Bool) → bool_byte b ≡ one b
stop_byte true = refl
stop_byte false = refl
