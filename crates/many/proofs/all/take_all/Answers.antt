use mathlib.Core.Path.{◌≡◌, sym, ap, ◌∙◌}
use Prim.Native.Nat.{ℕ, ◌<◌}
use native.Mathlib.Omega.{arith}
use lib.ListN.{length}
use borrow.Author.Rules.{rules}
use Rattle.store.specs.Records.{records_lent}
use Rattle.writing.specs.State.{Wrote, wrote, wrote_of, with_pending}
use Rattle.writing.specs.Apart.{ready_of}
use Rattle.asking.specs.Ask.{ask_of}
use Rattle.writing.specs.Other.{decide_other, other-held}
use Rattle.runs.specs.Events.{took, progress}
use Rattle.runs.specs.Run.{values_in, values_now, mem_with, lent_with, stopped_by}
use Rattle.many.specs.Going.{begun, at-run, at-end, at_blocked, at-malformed, at_err, at-ok}
use Rattle.many.specs.OtherCall.{other_answered}
use Rattle.many.proofs.all.take_all.Goals as goal

pub loop-own-init : goal.loop-own-init
loop-own-init c = (begun _ _ _ c.requires c.records_lent.ensures c.lent.ensures c.is_ready-ready.ensures, search rules)

pub returns-in-End-clause-took : goal.returns-in-End-clause-took
returns-in-End-clause-took c =
    let run = c.take_plain-run in
    let held = c.loop-own.pools in
    let so_far = at-run {s = c.loop-own.state} {table = c.loop-own.table} {ends = held.ends.now} {v = values_in held} c.loop-own.invariant.0 run.ensures.ran.run in
    let told = ap (λ (n : ℕ). progress (took n run.result.taken (with_pending c.loop-own.state run.result.pending)) (mem_with c.loop-own.table held.ends.now (values_now run.new.values))) c.no_rest-answer.ensures
    ∙ at-end so_far (stopped_by run.ensures.ran c.in-End.is) in
    search (rules, told)

pub returns-in-Blocked-clause-took : goal.returns-in-Blocked-clause-took
returns-in-Blocked-clause-took c =
    let run = c.take_plain-run in
    let held = c.loop-own.pools in
    let so_far = at-run {s = c.loop-own.state} {table = c.loop-own.table} {ends = held.ends.now} {v = values_in held} c.loop-own.invariant.0 run.ensures.ran.run in
    let told = ap (λ (n : ℕ). progress (took n run.result.taken (with_pending c.loop-own.state run.result.pending)) (mem_with c.loop-own.table held.ends.now (values_now run.new.values))) c.why_blocked.ensures
    ∙ at_blocked {s = with_pending c.loop-own.state run.result.pending} {table = c.loop-own.table} {ends = held.ends.now} {v = values_now run.new.values} so_far (stopped_by run.ensures.ran c.in-Blocked.is) in
    search (rules, told)

pub returns-in-Malformed-clause-took : goal.returns-in-Malformed-clause-took
returns-in-Malformed-clause-took c =
    let run = c.take_plain-run in
    let held = c.loop-own.pools in
    let so_far = at-run {s = c.loop-own.state} {table = c.loop-own.table} {ends = held.ends.now} {v = values_in held} c.loop-own.invariant.0 run.ensures.ran.run in
    let stop = stopped_by run.ensures.ran c.in-Malformed.is in
    let told = at-malformed so_far (omega (arith, stop.0)) stop.1 in
    search (rules, told)

pub take_other-requires-clause-fits : goal.take_other-requires-clause-fits
take_other-requires-clause-fits c =
    let run = c.take_plain-run in
    let held = c.loop-own.pools in
    let so_far = at-run {s = c.loop-own.state} {table = c.loop-own.table} {ends = held.ends.now} {v = values_in held} c.loop-own.invariant.0 run.ensures.ran.run in
    λ ok. (ready_of (with_pending c.loop-own.state run.result.pending) (records_lent c.loop-own.table) (lent_with held.ends.now (values_now run.new.values)) (so_far.tells ∙ ok)).room.fits

pub returns-in-Err-clause-took : goal.returns-in-Err-clause-took
returns-in-Err-clause-took c =
    let run = c.take_plain-run in
    let held = c.loop-own.pools in
    let so_far = at-run {s = c.loop-own.state} {table = c.loop-own.table} {ends = held.ends.now} {v = values_in held} c.loop-own.invariant.0 run.ensures.ran.run in
    let told = stopped_by run.ensures.ran c.in-Other.is in
    let wrote = c.take_other.ensures in
    let v = values_now run.new.values in
    let left = at_err so_far (omega (arith, told.0))
    (other_answered (with_pending c.loop-own.state run.result.pending) c.args.held c.is_ready-ready.result c.in-Other.e c.loop-own.table v.xy held.ends.now v.z v.m v.t v.tm c.take_other.result so_far.tells _ told.1 told.2 told.3 wrote.answer wrote.records wrote.words)
    c.in-Err.is in
    search (rules, left)

pub overflow_add-taken : goal.overflow_add-taken
overflow_add-taken c =
    let told = stopped_by c.take_plain-run.ensures.ran c.in-Other.is in
    let short : length c.args.bytes.now < 18446744073709551616 = omega arith in
    omega (arith, told.0, short)

pub loop-own-smaller : goal.loop-own-smaller
loop-own-smaller c = omega (arith, (stopped_by c.take_plain-run.ensures.ran c.in-Other.is).0, c.take_plain-run.ensures.ran.run.begun)

pub loop-own-preserved : goal.loop-own-preserved
loop-own-preserved c =
    let run = c.take_plain-run in
    let held = c.loop-own.pools in
    let so_far = at-run {s = c.loop-own.state} {table = c.loop-own.table} {ends = held.ends.now} {v = values_in held} c.loop-own.invariant.0 run.ensures.ran.run in
    let s = with_pending c.loop-own.state run.result.pending in
    let told = stopped_by run.ensures.ran c.in-Other.is in
    let took_other = c.take_other in
    let v = values_now run.new.values in
    let decided : wrote 0 c.in-Ok.after ≡ decide_other s c.args.held (ask_of s.typing c.in-Other.e) c.is_ready-ready.result (records_lent c.loop-own.table) (length held.ends.now) = ap (wrote_of s) (sym c.in-Ok.is) ∙ took_other.ensures.answer in
    let going = at-ok so_far (omega (arith, told.0))
    (other_answered s c.args.held c.is_ready-ready.result c.in-Other.e c.loop-own.table v.xy held.ends.now v.z v.m v.t v.tm c.take_other.result so_far.tells _ told.1 told.2 told.3 took_other.ensures.answer took_other.ensures.records took_other.ensures.words)
    c.in-Ok.is (omega (arith, told.0)) took_other.auto.table
    (λ i. record { xy = length v.xy; ends = took_other.auto.ends i; z = length v.z; m = length v.m; t = length v.t; tm = length v.tm })
    (ap (λ (w : Wrote). w.state.feature) decided ∙ other-held _ _ _ _ _ _ (ap (λ (w : Wrote). w.number) (sym decided))) in
    (search (rules, going), search rules)
