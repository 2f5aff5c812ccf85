-- The events of a list are well-formed.
use Rattle.std.specs.Prelude.{◌≡◌, refl, List, [], ◌∷◌, ℕ, zero, suc, ◌+◌}
use Rattle.std.proofs.Common.{subst, arith}
use Rattle.std.proofs.Math.Option.{Option, none, some}
use Rattle.kinds.specs.Event as Kinds
use Rattle.kinds.specs.declared.event.Event.{Event}
use Rattle.event_log.specs.Log.{heard, record_of}
use Rattle.event_log.specs.LogLaws.{heard-event}
use Rattle.planar.specs.Fits.{Each}
use Rattle.nesting.specs.FlatLaws.{WellFormed}
use Rattle.wkb_written.specs.Writing.{before, listed}

pub not_some : {A : Type 0} (a : A) → none ≡ some a → ⊥
not_some a e = let z : ◌≡◌ {A = ℕ} 0 1 = cc in omega arith

pub listed_formed : (left i : ℕ) (bytes : List ℕ) (es : List Event) → listed left i bytes ≡ some es → Each WellFormed es
unfolding listed
listed_formed zero i bytes es e = let same : [] ≡ es = cc in subst (λ (l : List Event). Each WellFormed l) same tt
listed_formed (suc left) i bytes es e = go (heard (record_of bytes i)) refl (listed left (i + 1) bytes) (listed_formed left (i + 1) bytes) e
  where
    go : (p : Kinds.Parsed) → heard (record_of bytes i) ≡ p → (o : Option (List Event)) → ((l : List Event) → o ≡ some l → Each WellFormed l) → before p o ≡ some es → Each WellFormed es
    go Kinds.Malformed h o later k = absurd (not_some es k)
    go (Kinds.WellFormed e) h none later k = absurd (not_some es k)
    go (Kinds.WellFormed e) h (some l) later k =
        let same : e ∷ l ≡ es = cc in
        subst (λ (l : List Event). Each WellFormed l) same ((heard-event (record_of bytes i) e h).formed, later l refl)
