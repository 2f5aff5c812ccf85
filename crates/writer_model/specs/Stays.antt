-- What stands at the start, and goes on to while the words and records in use are left alone.
use Rattle.std.specs.Prelude.{None, Some, ◌≡◌, refl, Bool, false, List, ℕ, ◌+◌, ◌≤◌, ◌<◌, length, take}
use Rattle.std.proofs.Common.{sym, ap, ◌∙◌, arith}
use Rattle.std.proofs.Math.Option.{Option, none, some}
use Rattle.laws.specs.Every.{never}
use Rattle.kinds.specs.Lanes.{Lane, xyL, endsL, zL, mL, tL, tmL, usable, span_in}
use Rattle.kinds.specs.declared.geometry.Geometry.{Geometry}
use Rattle.kinds.specs.Geometry.{Span}
use Rattle.store.specs.Records.{record_in}
use Rattle.store.specs.RecordLaws.{InPool, InTable}
use Rattle.store.specs.Lists.{Pools, Rec, list_of, lists_of}
use Rattle.pending.specs.declared.words.Words.{Words}
use Rattle.writing.specs.declared.state.State.{State}
use Rattle.pending.specs.Words.{words, words_in, used}
use Rattle.writing.specs.State.{with_properties, pool_in, Mem}
use Rattle.writing.specs.Calls.{started}
use Rattle.writer_model.specs.Writer.{Writer, fresh, is_there}
use Rattle.writer_model.specs.Each.{Each, each-still}
use Rattle.writer_model.specs.Lanes.{words-by, none_by}
use Rattle.writer_model.specs.Stretches.{front_same, front_long, stretch_same}
use Rattle.writer_model.specs.Stands.{Lies, Shows, IfThere, Stands, Agrees}

-- ---- a record whose lists are left alone is as it was
list_same : (span : Span) (n most : ℕ) (l l' : List ℕ) → InPool span n most → take n l' ≡ take n l → list_of l' span ≡ list_of l span
list_same None n most l l' h e = refl
list_same (Some span) n most l l' h e = ap some (stretch_same n l l' e span.start span.count h.0)

lists_same : (g : Geometry) (P P' : Pools) → ((m : Lane) → list_of (pool_in P' m) (span_in g m) ≡ list_of (pool_in P m) (span_in g m)) → lists_of P' g ≡ lists_of P g
lists_same g P P' e = λ i. record { kind = g.kind; xy = e xyL i; ends = e endsL i; z = e zL i; m = e mL i; t = e tL i; tm = e tmL i; parts = (lists_of P g).parts }

pool_wider : (span : Span) (n n' most : ℕ) → n ≤ n' → InPool span n most → InPool span n' most
pool_wider None n n' most h i = tt
pool_wider (Some span) n n' most h i = (omega (arith, i.0), i.1)

table_wider : (span : Span) (i n n' : ℕ) → n ≤ n' → InTable span i n → InTable span i n'
table_wider None i n n' h t = tt
table_wider (Some span) i n n' h t = (t.0, omega (arith, t.1), t.2)

-- a later state and memory: what stands before the pending words is the same, and no less
pub record Later (s : State) (k : Mem) (s' : State) (k' : Mem) : Type 0 where
  pub pools : (m : Lane) → take (words_in s.pending m).start (pool_in k'.pools m) ≡ take (words_in s.pending m).start (pool_in k.pools m)
  pub starts : (m : Lane) → (words_in s.pending m).start ≤ (words_in s'.pending m).start
  pub parts : s.parts ≤ s'.parts

module _ (s : State) (k : Mem) (s' : State) (k' : Mem) (later : Later s k s' k') where
  shows_still : (n : ℕ) (r : Rec) → record_in k'.table n ≡ record_in k.table n → Shows s k n r → Shows s' k' n r
  shows_still n r e h = record {
    geometry = h.geometry;
    read = e ∙ h.read;
    lists = lists_same h.geometry k.pools k'.pools (λ m. list_same (span_in h.geometry m) _ (usable m) _ _ (h.below m) (later.pools m)) ∙ h.lists;
    below = λ m. pool_wider (span_in h.geometry m) _ _ (usable m) (later.starts m) (h.below m);
    above = table_wider h.geometry.parts n (s.parts + 1) (s'.parts + 1) (omega (arith, later.parts)) h.above;
  }

  pub parts-still : (rs : List Rec) → ((i : ℕ) → 1 ≤ i → i < 1 + length rs → record_in k'.table i ≡ record_in k.table i) → Each (Shows s k) 1 rs → Each (Shows s' k') 1 rs
  parts-still rs e = each-still (Shows s k) (Shows s' k') 1 rs (λ i r a b. shows_still i r (e i a b))

-- ---- only what is used counts
lies_agree : (pool pool' : List ℕ) (p : Words) (most : ℕ) (pending : List ℕ) → take (used p) pool' ≡ take (used p) pool → Lies pool p most pending → Lies pool' p most pending
lies_agree pool pool' p most pending e h = record {
  there = stretch_same (used p) pool pool' e p.start p.count (omega arith) ∙ h.there;
  lent = front_long (used p) pool pool' e h.lent;
  fits = h.fits;
}

pub stands_agree : (s : State) (k k' : Mem) (w : Writer) → Agrees s k k' → Stands s k w → Stands s k' w
stands_agree s k k' w a h = record {
  typing = h.typing;
  waiting = h.waiting;
  count = h.count;
  most = h.most;
  starts = h.starts;
  pending = λ n. lies_agree (pool_in k.pools n) (pool_in k'.pools n) (words_in s.pending n) (usable n) (pool_in w.pending n) (a.pools n) (h.pending n);
  parts = parts-still s k s k' later w.parts (λ i b c. a.table i (omega (arith, h.count)) (λ z. absurd (omega arith))) h.parts;
  root = root w.root h.waiting h.root;
}
  where
    later : Later s k s k'
    later = record {
      pools = λ m. front_same (used (words_in s.pending m)) (pool_in k.pools m) (pool_in k'.pools m) (a.pools m) (words_in s.pending m).start (omega arith);
      starts = λ m. omega arith;
      parts = omega arith;
    }

    root : (o : Option Rec) → s.waiting ≡ is_there o → IfThere (Shows s k 0) o → IfThere (Shows s k' 0) o
    root none e r = tt
    root (some r) e q = shows_still s k s k' later 0 r (a.table 0 (omega arith) (λ z. e)) q

-- ---- a written property changes the properties' length alone
pub stands_properties : (s : State) (k : Mem) (w : Writer) (n : ℕ) → Stands s k w → Stands (with_properties s n) k w
stands_properties s k w n h = record {
  typing = h.typing;
  waiting = h.waiting;
  count = h.count;
  most = h.most;
  starts = h.starts;
  pending = h.pending;
  parts = parts-still s k (with_properties s n) k later w.parts (λ i b c. refl) h.parts;
  root = root w.root h.root;
}
  where
    later : Later s k (with_properties s n) k
    later = record { pools = λ m. refl; starts = λ m. omega arith; parts = omega arith }

    root : (o : Option Rec) → IfThere (Shows s k 0) o → IfThere (Shows (with_properties s n) k 0) o
    root none r = tt
    root (some r) q = shows_still s k (with_properties s n) k later 0 r refl q

-- ---- start: any memory
pub stands_start : (declared : ℕ) (detect promote : Bool) (k : Mem) → Stands (started declared detect promote) k (fresh declared detect promote)
unfolding started fresh
stands_start declared detect promote k = record {
  typing = refl;
  waiting = refl;
  count = refl;
  most = omega arith;
  starts = λ n. rw (words-by (λ m. words 0 0) n);
  pending = λ n. rw (words-by (λ m. words 0 0) n, none_by n) (record { there = refl; lent = omega arith; fits = omega arith });
  parts = tt;
  root = tt;
}

-- ---- while events are given there is no root
pub no_root : (s : State) (k : Mem) (w : Writer) → Stands s k w → s.waiting ≡ false → w.root ≡ none
no_root s k w h going = go w.root (sym h.waiting ∙ going)
  where
    go : (o : Option Rec) → is_there o ≡ false → o ≡ none
    go none e = refl
    go (some r) e = absurd (never (sym e))
