-- The parts' xy lists joined in order, then the pending list: what an event adds, and that it is read off the memory.
use Rattle.std.specs.Prelude.{Some, ◌≡◌, Bool, ℕ, zero, suc, ◌+◌, length, take, drop, leb, ltb, eqb}
use Rattle.std.proofs.Math.Path.{refl}
use Rattle.std.proofs.Common.{sym, ap, ◌∙◌, arith, ltb-true}
use Rattle.std.proofs.Math.Bool.{true, false, cond}
use mathlib.Core.List.{List, [], ◌∷◌, ◌++◌, append-nil, append_assoc}
use Rattle.std.proofs.Math.Option.{Option, none, some}
use Rattle.std.proofs.lemmas.Bool.{lt-leb}
use Rattle.kinds.specs.Lanes.{xyL}
use Rattle.kinds.specs.declared.event.Event.{Event}
use Rattle.store.specs.Lists.{Rec, seen}
use Rattle.store.specs.Records.{record_in}
use Rattle.asking.specs.declared.typing.Typing.{Typing}
use Rattle.pending.specs.declared.words.Words.{Words}
use Rattle.writing.specs.declared.state.State.{State}
use Rattle.asking.specs.SetType.{Typed}
use Rattle.asking.specs.Ask.{Added, ask, ask_of}
use Rattle.asking.specs.declared.ask.Ask.{Ask}
use Rattle.writing.specs.State.{Mem}
use Rattle.writing.specs.Calls.{gives}
use Rattle.writer_model.specs.Writer.{Writer, part_of, finish_part, after, finish, next, root_over, left_by, is_there}
use Rattle.writer_model.specs.Laid.{words_of, joined, rooted, laid, laid_snoc}
use Rattle.writer_model.specs.Each.{Each}
use Rattle.writer_model.specs.Stands.{Shows, IfThere, Stands}
use Rattle.writer_model.specs.Asked.{ask_by, counted, acted, after_is}

-- the words of an event's pair
abbrev pub pair_of : Event → List ℕ
pair_of e = cond (leb 64 e.kind) (e.x ∷ e.y ∷ []) []

-- ---- on lists; a finished root that has the pending lists stands where they did
abbrev pub all_xy : Writer → List ℕ
all_xy w = laid w xyL ++ w.pending.xy

-- a begin has no pair
begin_bare : (kind : ℕ) → ltb kind 32 ≡ true → leb 64 kind ≡ false
begin_bare kind h = lt-leb 64 kind (omega (arith, ltb-true kind 32 h))

module _ (w : Writer) (e : Event) where
  acted_xy : (h : Typing) (typed : Typed) (a : Added) (part : Bool) → all_xy (acted w (ask typed a part) e h) ≡ all_xy w ++ gives (counted w) a e xyL
  unfolding acted finish_part part_of
  acted_xy h typed a true = rw (laid_snoc w.root w.parts, append-nil) (simp append_assoc)
  acted_xy h typed a false = simp append_assoc

  asked_xy : (s : State) (h : Typing) → gives s (ask_of h e).added e xyL ≡ pair_of e
  unfolding ask_of
  asked_xy s h = go (ltb e.kind 32) (leb 64 e.kind) (eqb e.kind 33) (eqb e.kind 34) (eqb e.kind 35) (eqb e.kind 39) (begin_bare e.kind)
    where
      go : (b x i j k l : Bool) → (b ≡ true → x ≡ false) → gives s (ask_by h e b x i j k l).added e xyL ≡ cond x (e.x ∷ e.y ∷ []) []
      go true x i j k l f = rw (f refl)
      go false true i j k l f = refl
      go false false true j k l f = refl
      go false false false true k l f = refl
      go false false false false true l f = refl
      go false false false false false true f = refl
      go false false false false false false f = refl

  pub event_xy : (h : Typing) → (ask_of w.typing e).typed ≡ Some h → all_xy (after w e) ≡ all_xy w ++ pair_of e
  event_xy h q =
      let a : Ask = ask_of w.typing e in
      ap all_xy (after_is w e h q) ∙ acted_xy h a.typed a.added a.part ∙ ap (λ (l : List ℕ). all_xy w ++ l) (asked_xy (counted w) w.typing)

-- finish keeps them, next keeps what is pending
pub finish_xy : (w : Writer) → w.root ≡ none → all_xy (finish w) ≡ all_xy w
unfolding finish part_of
finish_xy w e = go w.parts ∙ ap (λ (o : Option Rec). joined (rooted o w.parts) xyL ++ w.pending.xy) (sym e)
  where
    go : (rs : List Rec) → joined (root_over w rs ∷ rs) xyL ++ (left_by w.pending rs).xy ≡ joined rs xyL ++ w.pending.xy
    go [] = append-nil (w.pending.xy ++ []) ∙ append-nil w.pending.xy
    go (r ∷ rs) = refl

pub next_xy : (w : Writer) → all_xy (next w) ≡ w.pending.xy
unfolding next
next_xy w = refl

-- ---- on lent memory
abbrev pub xy_of : Option Rec → List ℕ
xy_of none = []
xy_of (some r) = words_of r xyL

abbrev pub xy_at : Mem → ℕ → List ℕ
xy_at k n = xy_of (seen k.pools (record_in k.table n))

-- the xy lists of so many records from a number on, joined
abbrev pub joined_at : Mem → ℕ → ℕ → List ℕ
joined_at k n zero = []
joined_at k n (suc count) = xy_at k n ++ joined_at k (n + 1) count

abbrev pub pending_at : Words → List ℕ → List ℕ
pending_at p pool = take p.count (drop p.start pool)

-- the parts' xy lists joined in order, then the pending list
abbrev pub parts_xy : State → Mem → List ℕ
parts_xy s k = joined_at k 1 s.parts ++ pending_at s.pending.xy k.pools.xy

-- all xy words in use: the root's while a finished feature waits, then the parts' and the pending list
abbrev pub all_xy_at : State → Mem → List ℕ
all_xy_at s k = cond s.waiting (xy_at k 0) [] ++ parts_xy s k

shows_xy : (s : State) (k : Mem) (n : ℕ) (r : Rec) → Shows s k n r → xy_at k n ≡ words_of r xyL
shows_xy s k n r h = rw h.read (ap (λ (q : Rec). words_of q xyL) h.lists)

joined_xy : (s : State) (k : Mem) (n : ℕ) (rs : List Rec) → Each (Shows s k) n rs → joined_at k n (length rs) ≡ joined rs xyL
joined_xy s k n [] h = refl
joined_xy s k n (r ∷ rs) h = rw (shows_xy s k n r h.0, joined_xy s k (n + 1) rs h.1)

pub xy_is : (s : State) (k : Mem) (w : Writer) → Stands s k w → all_xy_at s k ≡ all_xy w
xy_is s k w h = rw (h.waiting, h.count, joined_xy s k 1 w.parts h.parts, (h.pending xyL).there) (root w.root h.root)
  where
    root : (o : Option Rec) → IfThere (Shows s k 0) o → cond (is_there o) (xy_at k 0) [] ++ (joined w.parts xyL ++ w.pending.xy) ≡ joined (rooted o w.parts) xyL ++ w.pending.xy
    root none r = refl
    root (some r) q = rw (shows_xy s k 0 r q) (sym (append_assoc (words_of r xyL) (joined w.parts xyL) w.pending.xy))
