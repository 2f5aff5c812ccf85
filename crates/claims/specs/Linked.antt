-- What holds after any row of the calls that a machine links: the lent memory stands for the writer on lists that the accepted steps make, with all that follows for its pairs and its tree.
use Rattle.std.specs.Prelude.{◌≡◌, Bool, true, false, cond, List, [], ◌∷◌, ◌++◌, ℕ, suc, ◌+◌, eqb}
use Rattle.std.proofs.Math.Path.{refl}
use Rattle.std.proofs.Common.{sym, ap, ◌∙◌, append-nil, append_assoc, arith, eqb-true, ne_eqb}
use Rattle.std.proofs.Math.Option.{some}
use Rattle.std.proofs.lemmas.Bool.{eqb-false}
use Rattle.kinds.specs.declared.event.Event.{Event}
use Rattle.kinds.specs.Event.{Parsed, WellFormed, Malformed}
use Rattle.store.specs.Lists.{Rec, record_with}
use Rattle.store.specs.Records.{table_good}
use Rattle.event_log.specs.Log.{heard, feature_in, record_of, records_in}
use Rattle.property_writer.specs.Writing.{put_of}
use Rattle.properties.specs.RoundTrip.{Property}
use Rattle.writing.specs.declared.state.State.{State}
use Rattle.writing.specs.State.{Mem, Outcome, Wrote}
use Rattle.writing.specs.Calls.{started, event_call, finish_call, next_call}
use Rattle.runs.specs.Events.{Progress, events_from, events_call, by-records}
use Rattle.writer.specs.Property.{property_call}
use Rattle.as_words.specs.Words.{state_of, words_after, words_after_all}
use Rattle.as_words.specs.WordLaws.{InBytes, state-words}
use Rattle.as_words.specs.Stays.{event-bytes, finish-bytes, next-bytes, started-bytes, words-bytes, kept-state, taken-state, untaken_same}
use Rattle.bintolage.specs.Calls.{yes, kept_of, taken_of}
use Rattle.writer_model.specs.Writer.{Writer, fresh, after, after_all, root_over, tree, finish as finish_w, next as next_w}
use Rattle.writer_model.specs.Call.{Call as Inner, event_c, finish_c, next_c, called, hears, after_call}
use Rattle.writer_model.specs.Refused.{refused as unchanged}
use Rattle.writer_model.specs.Pairs.{pair_of, parts_xy, all_xy_at}
use Rattle.writer_model.specs.Rows.{pair_in, pairs_after, Reached, start as begin, lent as changed, accepted, property as written}
use Rattle.writer_model.proofs.Rows.{row-pairs, accepted_pairs}
use Rattle.writer_model.specs.Tree.{Holds}
use Rattle.writer_model.proofs.Tree.{row-tree}
use Rattle.writer_model.specs.Fed.{agrees_self, pairs_of}
use Rattle.claims.specs.Row.{Call, event, events, property, finish, next, Lends, Step, took, finished, renewed, took_all, events_in, Accepted, with_events, with_property, with_finish, with_next, carried_by, heard_in, heard_from, put, leaves, accepts, Untaken, Row, start, lent, call, untaken}

-- ---- the writer on lists, after steps
abbrev pub made : Writer → List Step → Writer
made w [] = w
made w (took n e ∷ steps) = made (after w e) steps
made w (finished ∷ steps) = made (finish_w w) steps
made w (renewed ∷ steps) = made (next_w w) steps

pub made_then : (w : Writer) (first second : List Step) → made w (first ++ second) ≡ made (made w first) second
made_then w [] second = refl
made_then w (took n e ∷ first) second = made_then (after w e) first second
made_then w (finished ∷ first) second = made_then (finish_w w) first second
made_then w (renewed ∷ first) second = made_then (next_w w) first second

pub made-events : (w : Writer) (es : List (ℕ × Event)) → made w (took_all es) ≡ after_all w (events_in es)
unfolding after_all
made-events w [] = refl
made-events w (e ∷ es) = made-events (after w e.1) es

-- ---- the calls that take the table and the pools, on words
module _ (words : List ℕ) (k : Mem) where
  abbrev outcome : Inner → Outcome
  outcome c = called (state_of words) k c

  call_bytes : (c : Inner) → InBytes (outcome c).wrote.state.typing
  call_bytes (event_c bytes) = event-bytes (state_of words) (words-bytes words) k bytes
  call_bytes finish_c = finish-bytes (state_of words) (words-bytes words) k
  call_bytes next_c = next-bytes (state_of words) (words-bytes words) k

  -- the words that are kept hold the state that the call hands back
  pub call_state : (c : Inner) → state_of (words_after words (outcome c).wrote) ≡ (outcome c).wrote.state
  call_state c = kept-state words (outcome c).wrote (call_bytes c) (λ h. (unchanged (state_of words) k c h).state)

  module _ {w : Writer} {l : List ℕ} (c : Inner) (r : Reached (state_of words) k w l) where
    call_done : (outcome c).wrote.number ≡ 0 → Reached (state_of (words_after words (outcome c).wrote)) (outcome c).mem (after_call w c) (pairs_after (state_of words) k c l)
    call_done h = rw (call_state c) (accepted c h r)

    call_refused : ((outcome c).wrote.number ≡ 0 → ⊥) → Reached (state_of (words_after words (outcome c).wrote)) (outcome c).mem w l
    call_refused h = rw (call_state c, (unchanged (state_of words) k c h).state, (unchanged (state_of words) k c h).mem) r

as_is : {s : State} {k : Mem} {w w' : Writer} {l l' : List ℕ} → w ≡ w' → l ≡ l' → Reached s k w l → Reached s k w' l'
as_is e f r = rw (e, f) at r

-- ---- many events, up to the first that is refused
heard-made : (w : Writer) (n : ℕ) (p : Parsed) (es : List (ℕ × Event)) → made (hears w p) (took_all es) ≡ made w (took_all (heard_in n p ++ es))
heard-made w n Malformed es = refl
heard-made w n (WellFormed e) es = refl

heard-pairs : (l : List ℕ) (n : ℕ) (p : Parsed) (es : List (ℕ × Event)) → (l ++ pair_in p) ++ pairs_of (events_in es) ≡ l ++ pairs_of (events_in (heard_in n p ++ es))
heard-pairs l n Malformed es = ap (λ (x : List ℕ). x ++ pairs_of (events_in es)) (append-nil l)
heard-pairs l n (WellFormed e) es = append_assoc l (pair_of e) (pairs_of (events_in es))

record Given (bytes : List ℕ) (i : ℕ) (w : Writer) (l : List ℕ) (p : Progress) : Type 0 where
  count : ℕ
  counted : p.took.taken ≡ i + count
  reached : Reached p.took.state p.mem (made w (took_all (heard_from count i bytes))) (l ++ pairs_of (events_in (heard_from count i bytes)))

given-from : (bytes : List ℕ) (left i : ℕ) (s : State) (k : Mem) (w : Writer) (l : List ℕ) → Reached s k w l → Given bytes i w l (events_from left i bytes s k)
given-from bytes = by-records bytes (λ i s k p. (w : Writer) (l : List ℕ) → Reached s k w l → Given bytes i w l p)
    (λ number i s k w l r. record { count = 0; counted = omega arith; reached = rw (append-nil l) r })
    (λ i s k p taken more w l r.
    let here : Parsed = heard (record_of bytes i) in
    let n : ℕ = feature_in (record_of bytes i) in
    let g = more (hears w here) (l ++ pair_in here) (accepted (event_c (record_of bytes i)) taken r) in
    let rest : List (ℕ × Event) = heard_from g.count (i + 1) bytes in
    record { count = suc g.count; counted = omega (arith, g.counted); reached = as_is (heard-made w n here rest) (heard-pairs l n here rest) g.reached })

module _ (words : List ℕ) (k : Mem) (bytes : List ℕ) where
  abbrev came : Progress
  came = events_call (state_of words) k bytes

  events-reached : {w : Writer} {l : List ℕ} → Reached (state_of words) k w l
      → Reached (state_of (words_after_all words came.took)) came.mem (made w (took_all (heard_from came.took.taken 0 bytes))) (l ++ pairs_of (events_in (heard_from came.took.taken 0 bytes)))
  unfolding events_call
  events-reached {w} {l} r =
      let g = given-from bytes (records_in bytes) 0 (state_of words) k w l r in
      let counted : came.took.taken ≡ g.count = omega (arith, g.counted) in
      rw (taken-state words bytes k, counted) g.reached

-- ---- a property
module _ (words : List ℕ) (p : Property) (buffer : List ℕ) where
  abbrev stored : Wrote
  stored = put words p buffer

  pub put_unchanged : (stored.number ≡ 0 → ⊥) → stored.state ≡ state_of words
  unfolding property_call put_of
  put_unchanged h = rw (ne_eqb stored.number 0 h)

  pub put-state : state_of (words_after words stored) ≡ stored.state
  unfolding property_call
  put-state = kept-state words stored (words-bytes words) put_unchanged

  put-reached : {k : Mem} {w : Writer} {l : List ℕ} → Reached (state_of words) k w l → Reached (state_of (words_after words stored)) k w l
  unfolding property_call
  put-reached r = rw put-state (written _ r)

-- ---- a call of which nothing is taken leaves the state, whatever it was lent
pub untaken_state : (words : List ℕ) (l : Lends) (c : Call) → Untaken words l c → state_of (leaves words l c).words ≡ state_of words
unfolding kept_of taken_of
untaken_state words l (event bytes) h = call_state words l.mem (event_c bytes) ∙ (unchanged (state_of words) l.mem (event_c bytes) h).state
untaken_state words l (events bytes) h = taken-state words bytes l.mem ∙ (untaken_same words bytes l.mem h).0
untaken_state words l (property p) h = put-state words p l.buffer ∙ put_unchanged words p l.buffer h
untaken_state words l finish h = call_state words l.mem finish_c ∙ (unchanged (state_of words) l.mem finish_c h).state
untaken_state words l next h = call_state words l.mem next_c ∙ (unchanged (state_of words) l.mem next_c h).state

-- ---- any row
module _ (declared detect promote : ℕ) where
  abbrev pub first : Writer
  first = fresh declared (yes detect) (yes promote)

  -- a step more
  event-made : (steps : List Step) (n : ℕ) (p : Parsed) → hears (made first steps) p ≡ made first (steps ++ took_all (heard_in n p))
  event-made steps n Malformed = ap (made first) (sym (append-nil steps))
  event-made steps n (WellFormed e) = sym (made_then first steps (took n e ∷ []))

  event-pairs : (l : List ℕ) (n : ℕ) (p : Parsed) → l ++ pair_in p ≡ l ++ pairs_of (events_in (heard_in n p))
  event-pairs l n Malformed = refl
  event-pairs l n (WellFormed e) = ap (λ (x : List ℕ). l ++ x) (sym (append-nil (pair_of e)))

  module _ (words : List ℕ) (l : Lends) (a : Accepted) (r : Reached (state_of words) l.mem (made first a.steps) a.pairs) where
    abbrev Then : Call → Type 0
    Then c = let o = leaves words l c in let b = accepts words l c a in Reached (state_of o.words) o.lends.mem (made first b.steps) b.pairs

    call_then : (c : Call) → Then c
    unfolding kept_of taken_of
    call_then (event bytes) = go (eqb (event_call (state_of words) l.mem bytes).wrote.number 0) refl
      where
        o : Outcome
        o = event_call (state_of words) l.mem bytes

        go : (b : Bool) → eqb o.wrote.number 0 ≡ b → let c = cond b (with_events a (heard_in (feature_in bytes) (heard bytes))) a in Reached (state_of (words_after words o.wrote)) o.mem (made first c.steps) c.pairs
        go true is = as_is (event-made a.steps (feature_in bytes) (heard bytes)) (event-pairs a.pairs (feature_in bytes) (heard bytes)) (call_done words l.mem (event_c bytes) r (eqb-true o.wrote.number 0 is))
        go false is = call_refused words l.mem (event_c bytes) r (eqb-false o.wrote.number 0 is)
    call_then (events bytes) = as_is (sym (made_then first a.steps _)) refl (events-reached words l.mem bytes r)
    call_then (property p) = go (eqb (put words p l.buffer).number 0)
      where
        go : (b : Bool) → let c = cond b (with_property a p) a in Reached (state_of (words_after words (put words p l.buffer))) l.mem (made first c.steps) c.pairs
        go true = put-reached words p l.buffer r
        go false = put-reached words p l.buffer r
    call_then finish = go (eqb (finish_call (state_of words) l.mem).wrote.number 0) refl
      where
        o : Outcome
        o = finish_call (state_of words) l.mem

        go : (b : Bool) → eqb o.wrote.number 0 ≡ b → let c = cond b (with_finish a) a in Reached (state_of (words_after words o.wrote)) o.mem (made first c.steps) c.pairs
        go true is = as_is (sym (made_then first a.steps (finished ∷ []))) refl (call_done words l.mem finish_c r (eqb-true o.wrote.number 0 is))
        go false is = call_refused words l.mem finish_c r (eqb-false o.wrote.number 0 is)
    call_then next = go (eqb (next_call (state_of words) l.mem).wrote.number 0) refl
      where
        o : Outcome
        o = next_call (state_of words) l.mem

        go : (b : Bool) → eqb o.wrote.number 0 ≡ b → let c = cond b (with_next a (carried_by words l.mem)) a in Reached (state_of (words_after words o.wrote)) o.mem (made first c.steps) c.pairs
        go true is = as_is (sym (made_then first a.steps (renewed ∷ []))) refl (call_done words l.mem next_c r (eqb-true o.wrote.number 0 is))
        go false is = call_refused words l.mem next_c r (eqb-false o.wrote.number 0 is)

  -- after any row the lent memory is what a row of the writer's calls leaves: the writer on lists has taken the accepted steps
  pub row-reached : {words : List ℕ} {l : Lends} {a : Accepted} → Row declared detect promote words l a → Reached (state_of words) l.mem (made first a.steps) a.pairs
  row-reached (start l small) = rw (state-words (started declared (yes detect) (yes promote)) (started-bytes declared (yes detect) (yes promote) small)) (begin declared (yes detect) (yes promote) l.mem)
  row-reached (lent l' same row) = changed l'.mem same.mem (row-reached row)
  row-reached (call {words} {l} {a} c row) = call_then words l a (row-reached row) c
  row-reached (untaken {words} l' c h row) = rw (untaken_state words l' c h) (row-reached row)

  -- the accepted pairs since next, after those carried in, are the parts' xy lists joined in order, then the pending list
  pub linked_pairs : {words : List ℕ} {l : Lends} {a : Accepted} → Row declared detect promote words l a → (state_of words).waiting ≡ false → parts_xy (state_of words) l.mem ≡ a.pairs
  linked_pairs row going = accepted_pairs (row-reached row) going

  -- waiting or not, all the xy lists in use: the root's comes first while a finished feature waits
  pub linked_all_pairs : {words : List ℕ} {l : Lends} {a : Accepted} → Row declared detect promote words l a → all_xy_at (state_of words) l.mem ≡ a.pairs
  linked_all_pairs row = row-pairs (row-reached row)

  -- while a finished feature waits, a table of whole records holds its tree
  pub linked_tree : {words : List ℕ} {l : Lends} {a : Accepted} → Row declared detect promote words l a → (root : Rec) → (made first a.steps).root ≡ some root
      → table_good l.mem.table ≡ true → Holds (record_with l.mem.table l.mem.pools) 0 (root ∷ (made first a.steps).parts)
  linked_tree {words} {l} row root waits whole = row-tree (row-reached row) root waits l.mem (agrees_self (state_of words) l.mem) whole

  -- from an accepted finish until next
  pub finished-tree : {words : List ℕ} {l : Lends} {a : Accepted} → Row declared detect promote words l a → (w : Writer) → made first a.steps ≡ finish_w w
      → table_good l.mem.table ≡ true → Holds (record_with l.mem.table l.mem.pools) 0 (tree w)
  unfolding finish_w
  finished-tree {words} {l} row w e whole = row-tree (as_is e refl (row-reached row)) (root_over w w.parts) refl l.mem (agrees_self (state_of words) l.mem) whole
