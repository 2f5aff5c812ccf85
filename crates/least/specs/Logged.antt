-- What a log's bytes tell of the script that was said to it: where they are a list's records, and all fit, the script says that list.
use Rattle.std.specs.Prelude.{◌≡◌, Bool, true, false, cond, ℕ, ◌*◌, length, take, drop, leb}
use Rattle.std.proofs.Math.Path.{refl, sym, ap, ap₂}
use Rattle.std.proofs.Common.{subst, ◌∙◌, arith, take_all, leb-true}
use mathlib.Core.List.{List, [], ◌∷◌, ◌++◌, append_assoc}
use Rattle.std.proofs.Math.Seq.{take_at, drop_at}
use Rattle.laws.specs.Script.{Script, stop, say, Format}
use Rattle.laws.specs.Cut.{records_of, number_of, room_of, bytes_of, Said}
use Rattle.kinds.specs.Event.{WellFormed}
use Rattle.kinds.specs.declared.event.Event.{Event}
use Rattle.kinds.specs.declared.flags.Flags.{Flags}
use Rattle.event_log.specs.Log.{events, heard, hear_said}
use Rattle.store.specs.Lists.{Pools, record_with}
use Rattle.reader.specs.Reading.{read_s}
use Rattle.least.specs.Fits.{AllSaid, Fits}
use Rattle.least.specs.Sized.{InWords, table-says}
use Rattle.geometries.specs.Told.{told, told-records, Complete}
use Rattle.format.specs.Writable.{All}

module _ {A : Type 0} where
  all-records : (P : A → Type 0) (s : Script A) → AllSaid P s → All P (records_of s)
  unfolding records_of
  all-records P (stop c) h = tt
  all-records P (say a s) h = (h.0, all-records P s h.1)

  -- a script that is done says its records and no more
  done-told : (s : Script A) → number_of s ≡ 0 → s ≡ told (records_of s)
  unfolding records_of number_of
  done-told (stop c) h = ap stop h
  done-told (say a s) h = ap (say a) (done-told s h)

-- ---- records that their own bytes tell apart
module _ {A : Type 0} (F : Format A) (P : A → Type 0) (apart : (a b : A) → P a → P b → F.bytes a ≡ F.bytes b → a ≡ b) where
  same-records : (l k : List A) (p q : List ℕ) → All P l → All P k → length l ≡ length k → bytes_of F l ++ p ≡ bytes_of F k ++ q → l ≡ k
  unfolding bytes_of
  same-records [] [] p q c d e h = refl
  same-records [] (b ∷ k) p q c d e h = absurd (omega arith)
  same-records (a ∷ l) [] p q c d e h = absurd (omega arith)
  same-records (a ∷ l) (b ∷ k) p q c d e h =
      let joined : F.bytes a ++ (bytes_of F l ++ p) ≡ F.bytes b ++ (bytes_of F k ++ q) = sym (append_assoc (F.bytes a) (bytes_of F l) p) ∙ h ∙ append_assoc (F.bytes b) (bytes_of F k) q in
      let first = sym (take_at (F.bytes a) _ F.wide (F.long a)) ∙ ap (take F.wide) joined ∙ take_at (F.bytes b) _ F.wide (F.long b) in
      let others = sym (drop_at (F.bytes a) _ F.wide (F.long a)) ∙ ap (drop F.wide) joined ∙ drop_at (F.bytes b) _ F.wide (F.long b) in
      ap₂ (λ (x : A) (r : List A). x ∷ r) (apart a b c.0 d.0 first) (same-records l k p q c.1 d.1 (omega arith) others)

  pub logged : (s : Script A) (l : List A) (L : List ℕ) (number count : ℕ) (M : List ℕ) → AllSaid P s → All P l → Said F s L number count M → Complete F l L number count M → s ≡ told l
  logged s l L number count M p q said complete = go (leb (length (records_of s)) (room_of F.wide L)) refl said.number_is
    where
      go : (b : Bool) → leb (length (records_of s)) (room_of F.wide L) ≡ b → number ≡ cond b (number_of s) 9 → s ≡ told l
      go true room n =
          let all = take_all (room_of F.wide L) (records_of s) (leb-true _ _ room) in
          let long = ap length (sym all) ∙ sym said.count-is ∙ complete.count-is in
          let bytes = ap (λ (r : List A). bytes_of F r ++ drop (F.wide * count) L) (sym all) ∙ sym said.log_is ∙ complete.log_is in
          done-told s (sym n ∙ complete.number_is) ∙ ap told (same-records (records_of s) l _ _ (all-records P s p) q long bytes)
      go false room n = absurd (omega (arith, n, complete.number_is))

-- ---- events
heard_apart : (feature : ℕ) (a b : Event) → Fits a → Fits b → (events feature).bytes a ≡ (events feature).bytes b → a ≡ b
heard_apart feature a b p q e =
    let same : WellFormed a ≡ WellFormed b = sym (hear_said feature a p.sized p.formed) ∙ ap heard e ∙ hear_said feature b q.sized q.formed in
    cc

module _ (F : Flags) (table : List ℕ) (P : Pools) (words : InWords P) (declared : ℕ) (es : List Event) where
  -- what a reading of words says fits
  pub told_fit : read_s F (record_with table P) declared ≡ told es → All Fits es
  told_fit e = subst (All Fits) (ap records_of e ∙ told-records es) (all-records Fits (read_s F (record_with table P) declared) (table-says table P words F declared))

  -- a reading of words that leaves events in a log, and they fit, says just these
  pub logged_reads : All Fits es → (feature : ℕ) (L : List ℕ) (number count : ℕ) (M : List ℕ) → Said (events feature) (read_s F (record_with table P) declared) L number count M → Complete (events feature) es L number count M
      → read_s F (record_with table P) declared ≡ told es
  logged_reads fit feature L number count M said complete = logged (events feature) Fits (heard_apart feature) (read_s F (record_with table P) declared) es L number count M (table-says table P words F declared) fit said complete
