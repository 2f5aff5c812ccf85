-- Room, lent and usable (SPEC 4.3, 6.19): for all that is pending, for more words, and for a number of records; and what a test of it tells.
use Rattle.std.specs.Prelude.{◌≡◌, refl, Bool, true, false, cond, ◌&&◌, ℕ, ◌+◌, ◌≤◌, ◌<◌, leb}
use Rattle.std.proofs.Common.{sym, ap, ◌∙◌, arith, leb-true, le-leb}
use Rattle.laws.specs.Every.{both}
use Rattle.kinds.specs.LaneLaws.{usable_words, usable_is, lane_of_every, every_of_lanes, every_both}
use Rattle.kinds.specs.Lanes.{Lane, xyL, endsL, zL, mL, tL, tmL, lane, usable, Lent, lent_in, every_lane}
use Rattle.asking.specs.Ask.{Added, no_words}
use Rattle.pending.specs.Words.{Pending, words_in, used}
use Rattle.pending.specs.Growth.{more, without_ends, grown_all, past_all}

abbrev pub room_in : ℕ → ℕ → ℕ → Bool
room_in n count most = leb n count && leb n most

abbrev pub lane_room : Pending → Lent → Added → Lane → Bool
lane_room p pools a n = room_in (used (words_in p n) + more a n) (lent_in pools n) (usable n)

unfoldable pub has_room : Pending → Added → ℕ → ℕ → Lent → Bool
has_room p a needed records pools = room_in needed records 4096 && every_lane (lane_room p pools a)

-- the pending words, with those that are added, stay within the usable
abbrev pub Fits : Pending → Added → Type 0
Fits p a = (n : Lane) → used (words_in p n) + more a n ≤ usable n

-- the pending pairs and values, with those that are added, stay within the usable; the ends are left as they are
pub record ValuesFit (p : Pending) (a : Added) : Type 0 where
  pub xy : used p.xy + cond a.xy 2 0 ≤ 131072
  pub z : used p.z + cond a.z 1 0 ≤ 65536
  pub m : used p.m + cond a.m 1 0 ≤ 65536
  pub t : used p.t + cond a.t 1 0 ≤ 65536
  pub tm : used p.tm + cond a.tm 1 0 ≤ 65536

-- then the counts, as they grow, fit their words
pub values_few : (p : Pending) (a : Added) → ValuesFit p a → (n : Lane) → (words_in p n).count < 4294967296 → (words_in p n).count + more (without_ends a) n < 4294967296
values_few p a h xyL small = omega (arith, h.xy)
values_few p a h endsL small = omega (arith, small)
values_few p a h zL small = omega (arith, h.z)
values_few p a h mL small = omega (arith, h.m)
values_few p a h tL small = omega (arith, h.t)
values_few p a h tmL small = omega (arith, h.tm)

-- so many records and the words that are added have room: they are lent, and usable
pub record Room (p : Pending) (a : Added) (needed records : ℕ) (pools : Lent) : Type 0 where
  pub table : needed ≤ records
  pub records_fit : needed ≤ 4096
  pub words : (n : Lane) → used (words_in p n) + more a n ≤ lent_in pools n
  pub fits : Fits p a

-- ---- the test, as it is made: the lent and the usable each for all lanes
regrouped : (a b c : Bool) → ((a && b) && c) ≡ (a && (b && c))
regrouped true b c = refl
regrouped false b c = refl

pub has_room_is : (p : Pending) (a : Added) (needed records : ℕ) (pools ends : Lent) → ((n : Lane) → lane ends n ≡ used (words_in p n) + more a n)
    → (room_in needed records 4096 && every_lane (λ n. leb (lane ends n) (lane pools n)) && every_lane (λ n. leb (lane ends n) (lane usable_words n))) ≡ has_room p a needed records pools
unfolding has_room
has_room_is p a needed records pools ends h =
    regrouped (room_in needed records 4096) _ _ ∙ ap (λ (b : Bool). room_in needed records 4096 && b) (sym both_tests)
  where
    within-lent : Lane → Bool
    within-lent n = leb (used (words_in p n) + more a n) (lent_in pools n)

    within-usable : Lane → Bool
    within-usable n = leb (used (words_in p n) + more a n) (usable n)

    both_tests : every_lane (lane_room p pools a) ≡ (every_lane (λ n. leb (lane ends n) (lane pools n)) && every_lane (λ n. leb (lane ends n) (lane usable_words n)))
    both_tests =
        every_both within-lent within-usable
        ∙ (λ i. every_lane (λ n. leb (sym (h n) i) (lane pools n)) && every_lane (λ n. leb (sym (h n) i) (sym (usable_is n) i)))

pub room_in_lem : (n count most : ℕ) → room_in n count most ≡ true → (n ≤ count) × (n ≤ most)
room_in_lem n count most h = let t = both (leb n count) (leb n most) h in (leb-true n count t.0, leb-true n most t.1)

pub room_of_lem : (p : Pending) (a : Added) (needed records : ℕ) (pools : Lent) → has_room p a needed records pools ≡ true → Room p a needed records pools
unfolding has_room
room_of_lem p a needed records pools h =
    let t = both (room_in needed records 4096) (every_lane (lane_room p pools a)) h in
    let r = room_in_lem needed records 4096 t.0 in
    let both_at : (n : Lane) → (used (words_in p n) + more a n ≤ lent_in pools n) × (used (words_in p n) + more a n ≤ usable n) = λ n. room_in_lem (used (words_in p n) + more a n) (lent_in pools n) (usable n) (lane_of_every (lane_room p pools a) t.1 n) in
    record { table = r.0; records_fit = r.1; words = λ n. (both_at n).0; fits = λ n. (both_at n).1 }

pub has_room_of : (p : Pending) (a : Added) (needed records : ℕ) (pools : Lent) → Room p a needed records pools → has_room p a needed records pools ≡ true
unfolding has_room
has_room_of p a needed records pools r =
    let lanes : every_lane (lane_room p pools a) ≡ true = every_of_lanes (lane_room p pools a) (λ n. rw (le-leb _ _ (r.words n), le-leb _ _ (r.fits n))) in
    rw (le-leb needed records r.table, le-leb needed 4096 r.records_fit) lanes

-- what has grown within a bound stays within it
pub grown_within : (p : Pending) (a : Added) (most : Lane → ℕ) → ((n : Lane) → used (words_in p n) + more a n ≤ most n) → (n : Lane) → used (words_in (grown_all p a) n) + more no_words n ≤ most n
unfolding grown_all
grown_within p a most h xyL = omega (arith, h xyL)
grown_within p a most h endsL = omega (arith, h endsL)
grown_within p a most h zL = omega (arith, h zL)
grown_within p a most h mL = omega (arith, h mL)
grown_within p a most h tL = omega (arith, h tL)
grown_within p a most h tmL = omega (arith, h tmL)

pub grown_fits : (p : Pending) (a : Added) → Fits p a → Fits (grown_all p a) no_words
grown_fits p a h = grown_within p a usable h

-- a part takes no more words than are pending
none_or_all : (b : Bool) (n : ℕ) → cond b 0 n ≤ n
none_or_all true n = omega arith
none_or_all false n = omega arith

pub past_within : (p : Pending) (most : Lane → ℕ) → ((n : Lane) → used (words_in p n) + more no_words n ≤ most n) → (n : Lane) → used (words_in (past_all p) n) + more no_words n ≤ most n
unfolding past_all
past_within p most h xyL = omega (arith, h xyL, none_or_all (leb p.xy.count 0) p.xy.count)
past_within p most h endsL = omega (arith, h endsL, none_or_all (leb p.ends.count 1) p.ends.count)
past_within p most h zL = omega (arith, h zL, none_or_all (leb p.z.count 0) p.z.count)
past_within p most h mL = omega (arith, h mL, none_or_all (leb p.m.count 0) p.m.count)
past_within p most h tL = omega (arith, h tL, none_or_all (leb p.t.count 0) p.t.count)
past_within p most h tmL = omega (arith, h tmL, none_or_all (leb p.tm.count 0) p.tm.count)

-- ---- room for what is pending, asked for once, and room for what is added, asked for apart
-- two tests that are true together are the same
pub same_truth : (a b : Bool) → (a ≡ true → b ≡ true) → (b ≡ true → a ≡ true) → a ≡ b
same_truth true b f g = sym (f refl)
same_truth false true f g = g refl
same_truth false false f g = refl

pub and_true : {a b : Bool} → a ≡ true → b ≡ true → (a && b) ≡ true
and_true h k = rw (h, k)

pub room_tested : {n count most : ℕ} → n ≤ count → n ≤ most → room_in n count most ≡ true
room_tested h k = and_true (le-leb _ _ h) (le-leb _ _ k)

-- nothing more is no more than anything
none_more : (p : Pending) (a : Added) (most : Lane → ℕ) → ((n : Lane) → used (words_in p n) + more a n ≤ most n) → (n : Lane) → used (words_in p n) + more no_words n ≤ most n
none_more p a most h xyL = omega (arith, h xyL)
none_more p a most h endsL = omega (arith, h endsL)
none_more p a most h zL = omega (arith, h zL)
none_more p a most h mL = omega (arith, h mL)
none_more p a most h tL = omega (arith, h tL)
none_more p a most h tmL = omega (arith, h tmL)

pub room-before : (p : Pending) (a : Added) (used-records needed records : ℕ) (pools : Lent) → used-records ≤ needed → has_room p a needed records pools ≡ true → has_room p no_words used-records records pools ≡ true
room-before p a used-records needed records pools fewer h =
    let r = room_of_lem p a needed records pools h in
    has_room_of p no_words used-records records pools (record { table = omega (arith, fewer, r.table); records_fit = omega (arith, fewer, r.records_fit); words = none_more p a (lent_in pools) r.words; fits = none_more p a usable r.fits })

-- the test of room is that of what is used, and a test of what is added
pub room_apart : (p : Pending) (a : Added) (used-records needed records : ℕ) (pools : Lent) (test : Bool) → used-records ≤ needed
    → (Room p a needed records pools → test ≡ true)
    → (Room p no_words used-records records pools → test ≡ true → Room p a needed records pools)
    → has_room p a needed records pools ≡ (has_room p no_words used-records records pools && test)
room_apart p a used-records needed records pools test fewer tells makes = same_truth _ _ forth back
  where
    forth : has_room p a needed records pools ≡ true → (has_room p no_words used-records records pools && test) ≡ true
    forth h = and_true (room-before p a used-records needed records pools fewer h) (tells (room_of_lem p a needed records pools h))

    back : (has_room p no_words used-records records pools && test) ≡ true → has_room p a needed records pools ≡ true
    back h =
        let t = both (has_room p no_words used-records records pools) test h in
        has_room_of p a needed records pools (makes (room_of_lem p no_words used-records records pools t.0) t.1)
