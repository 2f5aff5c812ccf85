-- SPEC 6.1, 4.5: a writer's state by lane, the lent memory, and what the state uses of it.
use Rattle.std.specs.Prelude.{◌≡◌, refl, Bool, false, cond, not, ◌||◌, List, ℕ, ◌+◌, eqb, None, Result}
use Rattle.std.proofs.Common.{Ok, Err}
use Rattle.kinds.specs.Lanes.{Lane, xyL, endsL, zL, mL, tL, tmL}
use Rattle.kinds.specs.Refusal.{number_of, answer_of}
use Rattle.kinds.specs.declared.refusal.Refusal.{Refusal}
use Rattle.store.specs.Lists.{Pools, pools_of}
use Rattle.asking.specs.declared.typing.Typing.{Typing}
use Rattle.writing.specs.Feature.{Feature}
use Rattle.writing.specs.declared.state.State.{State}
use Rattle.asking.specs.SetType.{typing}
use Rattle.pending.specs.Words.{words, pending_of, Pending}

-- ---- a writer that nothing was given; every other state is one that a call changed, field by field
abbrev pub fresh : State
fresh = record { typing = typing 0 false false 0 0; waiting = false; parts = 0; properties = 0; feature = None; pending = pending_of (λ n. words 0 0) }

abbrev pub with_typing : State → Typing → State
with_typing s h = record { typing = h; waiting = s.waiting; parts = s.parts; properties = s.properties; feature = s.feature; pending = s.pending }

abbrev pub with_waiting : State → Bool → State
with_waiting s waiting = record { typing = s.typing; waiting = waiting; parts = s.parts; properties = s.properties; feature = s.feature; pending = s.pending }

abbrev pub with_parts : State → ℕ → State
with_parts s parts = record { typing = s.typing; waiting = s.waiting; parts = parts; properties = s.properties; feature = s.feature; pending = s.pending }

abbrev pub with_properties : State → ℕ → State
with_properties s properties = record { typing = s.typing; waiting = s.waiting; parts = s.parts; properties = properties; feature = s.feature; pending = s.pending }

abbrev pub with_feature : State → Feature → State
with_feature s feature = record { typing = s.typing; waiting = s.waiting; parts = s.parts; properties = s.properties; feature = feature; pending = s.pending }

abbrev pub with_pending : State → Pending → State
with_pending s pending = record { typing = s.typing; waiting = s.waiting; parts = s.parts; properties = s.properties; feature = s.feature; pending = pending }

-- a state uses records 1 to n for its parts, and record 0 once a finished feature waits; with no part and nothing finished, no record
abbrev pub records_used : State → ℕ
records_used s = cond (s.waiting || not (eqb s.parts 0)) (s.parts + 1) 0

-- ---- the lent memory
abbrev pub pool_in : Pools → Lane → List ℕ
pool_in P xyL = P.xy
pool_in P endsL = P.ends
pool_in P zL = P.z
pool_in P mL = P.m
pool_in P tL = P.t
pool_in P tmL = P.tm

abbrev pub pools_by : (Lane → List ℕ) → Pools
pools_by f = pools_of (f xyL) (f endsL) (f zL) (f mL) (f tL) (f tmL)

pub record Mem : Type 0 where
  pub table : List ℕ
  pub pools : Pools

abbrev pub memory : List ℕ → Pools → Mem
memory table pools = record { table = table; pools = pools }

-- the seven lent slices
abbrev pub mem_of : List ℕ → List ℕ → List ℕ → List ℕ → List ℕ → List ℕ → List ℕ → Mem
mem_of table xy ends z m t tm = memory table (pools_of xy ends z m t tm)

-- ---- what a call answers: its number, 0 for done, and the state, as it stood where the number is another
pub record Wrote : Type 0 where
  pub number : ℕ
  pub state : State

abbrev pub wrote : ℕ → State → Wrote
wrote number s = record { number = number; state = s }

-- what an answer comes to, where s is the state before
abbrev pub wrote_of : State → Result State Refusal → Wrote
wrote_of s (Ok after) = wrote 0 after
wrote_of s (Err refusal) = wrote (number_of refusal) s

pub wrote-number : (s : State) (r : Result State Refusal) → (wrote_of s r).number ≡ answer_of r
wrote-number s (Ok after) = refl
wrote-number s (Err refusal) = refl

-- ---- what a call comes to: answer, state, and the final contents of all lent memory
pub record Outcome : Type 0 where
  pub wrote : Wrote
  pub mem : Mem

abbrev pub outcome : Wrote → Mem → Outcome
outcome r k = record { wrote = r; mem = k }

-- a refusal changes nothing
abbrev pub settled : Wrote → Mem → Mem → Outcome
settled r k after = outcome r (cond (eqb r.number 0) after k)
