-- SPEC 11.19, demand 3, over the calls that a machine links: once the steps accepted since start are those of features of the declared type, each under a number of its own, the last of them finished, reading its tree under its number into a log with room gives its events again with that number, and every tree that reads so is at least as large. Properties, refused calls and calls of many events may stand anywhere in between.
use Rattle.std.specs.Prelude.{◌≡◌, refl, true, false, cond, List, [], ◌∷◌, ◌++◌, ℕ, ◌≤◌, length, eqb}
use Rattle.std.proofs.Common.{sym, ◌∙◌, arith}
use Rattle.std.proofs.Math.Path.{ap}
use Rattle.std.proofs.Math.Option.{Option}
use Rattle.laws.specs.Cut.{room_of, Said}
use Rattle.kinds.specs.declared.event.Event.{Event}
use Rattle.store.specs.Lists.{Rec, Pools, record_with}
use Rattle.event_log.specs.Log.{events}
use Rattle.store.specs.Records.{table_good}
use Rattle.reader.specs.Reading.{read_s}
use Rattle.reader.specs.Examples.{no_flags}
use Rattle.asking.specs.declared.typing.Typing.{Typing}
use Rattle.writing.specs.State.{Mem}
use Rattle.bintolage.specs.Calls.{yes}
use Rattle.writer_model.specs.Writer.{Writer, fresh, after_all, tree, finish, next}
use Rattle.writer_model.specs.Tree.{Holds}
use Rattle.geometries.specs.Geometry.{Simple, point, line_string, polygon, multi_point, multi_line_string, multi_polygon, circular_string, compound_curve, curve_polygon, multi_curve, multi_surface, polyhedral_surface, tin, triangle, type_of, deep, flatly, depth}
use Rattle.geometries.specs.Events.{events_of}
use Rattle.format.specs.Format.{Tree}
use Rattle.geometries.specs.Told.{told, Complete}
use Rattle.format.specs.Reads.{agrees}
use Rattle.format.proofs.ReadsCall.{table_reads, reads_said}
use Rattle.format.specs.Writable.{Held, Writable}
use Rattle.format.specs.Writes.{normal, resting, fresh_rests, ending, ending_rests, declared, starts}
use Rattle.format.proofs.Writes.{ending_means, over-is}
use Rattle.least.specs.Sound.{tree_size}
use Rattle.least.proofs.Smallest.{smallest}
use Rattle.least.specs.Sized.{InWords}
use Rattle.least.specs.Logged.{told_fit, logged_reads}
use Rattle.claims.specs.Row.{Lends, Step, finished, renewed, took_all, events_in, all_under, Accepted, Row}
use Rattle.claims.specs.Linked.{made, made_then, made-events, finished-tree}

-- Point 1, LineString 2, Polygon 3, MultiPoint 4, MultiLineString 5 or MultiPolygon 6, without z, m, t and tm, with at least one line, ring or polygon wherever the type holds them
abbrev pub Demanded : ℕ → Simple → Type 0
Demanded type f = (type_of f ≡ type) × (type_of f ≤ 6) × (k : Held) × Writable no_flags f k

abbrev pub AllDemanded : ℕ → List (ℕ × Simple) → Type 0
AllDemanded type [] = Unit {0}
AllDemanded type (f ∷ fs) = Demanded type f.1 × AllDemanded type fs

-- whatever `read` under the feature's number answers and leaves by its contract, from a log with room: done, as many records as the feature has events, their bytes with that number, and the rest of the log untouched
pub record Repeats (type n : ℕ) (f : Simple) (m : Mem) : Type 0 where
  pub reads : (L : List ℕ) (number count : ℕ) (M : List ℕ) → length (events_of no_flags 0 f) ≤ room_of 64 L
      → Said (events n) (read_s no_flags (record_with m.table m.pools) type) L number count M → Complete (events n) (events_of no_flags 0 f) L number count M
  -- no table and pools whatsoever that read to these events hold less
  pub least : (table : List ℕ) (P : Pools) → read_s no_flags (record_with table P) type ≡ told (events_of no_flags 0 f) → tree_size m.table m.pools ≤ tree_size table P
  -- nor do any whose reading is done and leaves just these records in a log; both are pools of words, as whatever is lent is
  pub least_logged : InWords m.pools → (table : List ℕ) (P : Pools) → InWords P → (L : List ℕ) (number count : ℕ) (M : List ℕ)
      → Said (events n) (read_s no_flags (record_with table P) type) L number count M → Complete (events n) (events_of no_flags 0 f) L number count M → tree_size m.table m.pools ≤ tree_size table P

-- ---- a feature's steps: its events, all under its number, and finish; features that are done with, each with next behind it
abbrev pub feature_steps : ℕ → Simple → List Step
feature_steps n f = took_all (all_under n (events_of no_flags 0 f)) ++ finished ∷ []

abbrev pub passed : List (ℕ × Simple) → List Step
passed [] = []
passed (f ∷ fs) = feature_steps f.0 f.1 ++ (renewed ∷ passed fs)

-- ---- these six have few levels, and no curve rule applies to them
flat-deep : {A : Type 0} (xs : List A) → deep flatly xs ≤ 1
flat-deep [] = omega arith
flat-deep (x ∷ xs) = omega (arith, flat-deep xs)

six : (f : Simple) (stored : ℕ) → type_of f ≤ 6 → (agrees (type_of f) stored ≡ true) × (depth 0 f ≤ 15) × (eqb (type_of f) 0 ≡ false)
six (point c) stored h = (refl, omega arith, refl)
six (line_string l) stored h = (refl, omega arith, refl)
six (polygon rs) stored h = (refl, omega arith, refl)
six (multi_point cs) stored h = (refl, omega arith, refl)
six (multi_line_string ls) stored h = (refl, omega arith, refl)
six (multi_polygon ps) stored h = (refl, omega (arith, flat-deep ps), refl)
six (circular_string l) stored h = absurd (omega arith)
six (compound_curve ss) stored h = absurd (omega arith)
six (curve_polygon cs) stored h = absurd (omega arith)
six (multi_curve cs) stored h = absurd (omega arith)
six (multi_surface ss) stored h = absurd (omega arith)
six (polyhedral_surface ps) stored h = absurd (omega arith)
six (tin ts) stored h = absurd (omega arith)
six (triangle l) stored h = absurd (omega arith)

under : (type other n : ℕ) → n ≡ type → eqb n 0 ≡ false → cond (eqb type 0) other type ≡ n
under type other n e known = rw (sym e, known)

agreed : (type : ℕ) (f : Simple) (stored : ℕ) → type_of f ≡ type → type_of f ≤ 6 → agrees type stored ≡ true
agreed type f stored e h = rw (sym e) (six f stored h).0

events_under : (n : ℕ) (es : List Event) → events_in (all_under n es) ≡ es
events_under n [] = refl
events_under n (e ∷ es) = ap (λ (l : List Event). e ∷ l) (events_under n es)

feature-made : (w : Writer) (n : ℕ) (f : Simple) → made w (feature_steps n f) ≡ finish (after_all w (events_of no_flags 0 f))
feature-made w n f =
    made_then w (took_all (all_under n (events_of no_flags 0 f))) (finished ∷ [])
    ∙ ap finish (made-events w (all_under n (events_of no_flags 0 f)) ∙ ap (after_all w) (events_under n (events_of no_flags 0 f)))

module _ (type detect promote : ℕ) where
  -- a writer between two features of its declared type
  abbrev between : ℕ → Writer
  between current = resting (normal type current (yes detect) (yes promote))

  -- what it makes of one
  module _ (current : ℕ) (f : Simple) (d : Demanded type f) where
    abbrev after : Writer
    after = after_all (between current) (events_of no_flags 0 f)

    known : eqb (type_of f) 0 ≡ false
    known = (six f 0 d.1).2

    then : ℕ
    then = (starts type current (yes detect) (yes promote) f (declared (sym d.0))).current

    abbrev typed : Typing
    typed = normal type then (yes detect) (yes promote)

    after_is : after ≡ ending typed d.2
    unfolding events_of then
    after_is =
        over-is no_flags type current (yes detect) (yes promote) f d.2 (declared (sym d.0)) d.3
        ∙ ap (λ (n : ℕ). ending (normal n then (yes detect) (yes promote)) d.2) (under type (cond (yes detect) (type_of f) 0) (type_of f) d.0 known ∙ d.0)

    goes_on : next (finish after) ≡ between then
    goes_on = ap (λ (w : Writer). next (finish w)) after_is ∙ ending_rests typed d.2

    read_back : (n : ℕ) (m : Mem) → Holds (record_with m.table m.pools) 0 (tree after) → Repeats type n f m
    read_back n m held =
        let get : ℕ → Option Rec = record_with m.table m.pools in
        let here : Holds get 0 (tree (ending typed d.2)) = rw after_is at held in
        let t : Tree get 0 type f = ending_means no_flags get typed type f d.2 d.3 (under type then (type_of f) d.0 known) here in
        let agrees = agreed type f t.root.kind d.0 d.1 in
        let shallow = (six f 0 d.1).1 in
        record {
          reads = λ L number count M room said. reads_said m.table m.pools no_flags 0 type f n L number count M t agrees shallow room said;
          least = no_smaller here;
          least_logged = λ own table P words L number count M said complete.
              let fit = told_fit no_flags m.table m.pools own type (events_of no_flags 0 f) (table_reads m.table m.pools no_flags 0 type f t agrees shallow) in
              no_smaller here table P (logged_reads no_flags table P words type (events_of no_flags 0 f) fit n L number count M said complete);
        }
      where
        no_smaller : Holds (record_with m.table m.pools) 0 (tree (ending typed d.2)) → (table : List ℕ) (P : Pools) → read_s no_flags (record_with table P) type ≡ told (events_of no_flags 0 f) → tree_size m.table m.pools ≤ tree_size table P
        no_smaller here table P h = smallest no_flags f d.2 typed m.table table m.pools P d.3 here (ap (λ (n : ℕ). read_s no_flags (record_with table P) n) d.0 ∙ h)

  -- features that are done with leave it between two
  passes : (fs : List (ℕ × Simple)) (current : ℕ) → AllDemanded type fs → (later : ℕ) × (made (between current) (passed fs) ≡ between later)
  passes [] current d = (current, refl)
  passes (f ∷ fs) current d =
      let w : Writer = between current in
      let rest = passes fs (then current f.1 d.0) d.1 in (
        rest.0,
        made_then w (feature_steps f.0 f.1) (renewed ∷ passed fs)
            ∙ ap (λ (v : Writer). made (next v) (passed fs)) (feature-made w f.0 f.1)
            ∙ ap (λ (v : Writer). made v (passed fs)) (goes_on current f.1 d.0)
            ∙ rest.1,
      )

  module _ {words : List ℕ} {l : Lends} {a : Accepted} (fs : List (ℕ × Simple)) (n : ℕ) (f : Simple) (ds : AllDemanded type fs) (d : Demanded type f) (row : Row type detect promote words l a) (so_far : a.steps ≡ passed fs ++ feature_steps n f) where
    abbrev current : ℕ
    current = (passes fs 0 ds).0

    made-is : made (fresh type (yes detect) (yes promote)) a.steps ≡ finish (after current f d)
    made-is =
        ap (made (fresh type (yes detect) (yes promote))) so_far
        ∙ made_then (fresh type (yes detect) (yes promote)) (passed fs) (feature_steps n f)
        ∙ ap (λ (w : Writer). made (made w (passed fs)) (feature_steps n f)) (fresh_rests type (yes detect) (yes promote))
        ∙ ap (λ (w : Writer). made w (feature_steps n f)) (passes fs 0 ds).1
        ∙ feature-made (between current) n f

    pub demand_three : table_good l.mem.table ≡ true → Repeats type n f l.mem
    demand_three whole = read_back current f d n l.mem (finished-tree type detect promote row (after current f d) made-is whole)
