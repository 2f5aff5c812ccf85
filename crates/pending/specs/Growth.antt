-- The pending words as they grow, as a finished part takes them, as they go to the front; and the records that are put down for them.
use Rattle.std.specs.Prelude.{◌≡◌, false, cond, ℕ, ◌+◌, leb, Some, None}
use Rattle.std.proofs.Common.{ap, ◌∙◌, arith}
use Rattle.kinds.specs.Lanes.{Lane, xyL, endsL, zL, mL, tL, tmL}
use Rattle.kinds.specs.declared.geometry.Geometry.{Geometry}
use Rattle.kinds.specs.Geometry.{Span, stretch}
use Rattle.asking.specs.Ask.{Added, adds_to}
use Rattle.pending.specs.declared.words.Words.{Words}
use Rattle.pending.specs.Words.{Pending, words, words_in, pending_of}

-- how many words an event adds to each pool, where it adds any
abbrev pub at_once : Lane → ℕ
at_once xyL = 2
at_once endsL = 1
at_once zL = 1
at_once mL = 1
at_once tL = 1
at_once tmL = 1

abbrev pub more : Added → Lane → ℕ
more a n = cond (adds_to a n) (at_once n) 0

-- ---- a finished part (SPEC 6.14): its xy list always, its ends where there are two or more, other lists where they have a word
abbrev pub grown : Words → ℕ → Words
grown p n = words p.start (p.count + n)

unfoldable pub grown_all : Pending → Added → Pending
grown_all p a = pending_of (λ n. grown (words_in p n) (more a n))

-- what is added but to the ends
abbrev pub without_ends : Added → Added
without_ends a = record { xy = a.xy; ends = false; z = a.z; m = a.m; t = a.t; tm = a.tm }

-- after a pair and its values, which leave the ends as they are
abbrev pub grown_values : Pending → Added → Pending
grown_values p a =
    record {
      xy = grown p.xy (cond a.xy 2 0);
      ends = p.ends;
      z = grown p.z (cond a.z 1 0);
      m = grown p.m (cond a.m 1 0);
      t = grown p.t (cond a.t 1 0);
      tm = grown p.tm (cond a.tm 1 0);
    }

pub grown_by_values : (p : Pending) (a : Added) (r : Pending) → ((n : Lane) → words_in r n ≡ grown (words_in p n) (more (without_ends a) n)) → r ≡ grown_values p a
grown_by_values p a r h =
    let same : p.ends.count + 0 ≡ p.ends.count = omega arith in
    let ends : words p.ends.start (p.ends.count + 0) ≡ p.ends = ap (words p.ends.start) same in
    λ i. record { xy = h xyL i; ends = (h endsL ∙ ends) i; z = h zL i; m = h mL i; t = h tL i; tm = h tmL i }

-- the longest list that is left out
abbrev pub omitted : Lane → ℕ
omitted xyL = 0
omitted endsL = 1
omitted zL = 0
omitted mL = 0
omitted tL = 0
omitted tmL = 0

abbrev pub listed : Words → Span
listed p = Some (stretch p.start p.count)

abbrev pub shown : Words → ℕ → Span
shown p most = cond (leb p.count most) None (listed p)

-- the pending words begin after it; the word of a dropped end is used again (SPEC 6.15)
abbrev pub past : Words → ℕ → Words
past p most = words (p.start + cond (leb p.count most) 0 p.count) 0

unfoldable pub past_all : Pending → Pending
past_all p = pending_of (λ n. past (words_in p n) (omitted n))

unfoldable pub part_of : ℕ → Pending → Geometry
part_of kind p = record { kind = kind; xy = listed p.xy; ends = shown p.ends 1; z = shown p.z 0; m = shown p.m 0; t = shown p.t 0; tm = shown p.tm 0; parts = None }

-- a root over parts: its type, and where they stand (SPEC 6.21)
unfoldable pub root_over : ℕ → ℕ → Geometry
root_over kind parts = record { kind = kind; xy = None; ends = None; z = None; m = None; t = None; tm = None; parts = Some (stretch 1 parts) }

-- the pending words, moved to the front
abbrev pub fronted : Words → Words
fronted p = words 0 p.count
