use Rattle.std.proofs.Common.{◌≡◌, ap, arith, drop, map, subst, sym, take, List}
use Rattle.values.specs.Row.{Row}
use Rattle.op_queue.proofs.GainLemmas.{gained-none, gained-same, on_any_err}
use Rattle.windows.specs.Grown.{HasGrownAt}
use Rattle.windows.specs.Instants.{with_sign}
use Rattle.windows.proofs.LeavingLemmas.{forward_more, gained_more, rows_at, signed_part}
use Rattle.windows.proofs.outputs.put_held.Goals as goal

pub loop-done-init : goal.loop-done-init
loop-done-init c = record { le = omega arith; gained = gained-none c.args.queue.now }

pub push-requires : goal.push-requires
push-requires c =
    let rows : List Row = map (λ h. h.1) c.args.held.now.held in
    let is = signed_part c.args.enters c.args.«from» c.loop-done.done c.min-more.result rows c.in_ok-batch.batch c.in_ok-batch.ensures in
    forward_more c.args.at c.args.enters c.loop-done.done c.min-more.result c.args.count (drop c.args.«from» rows) c.args.queue.now.entries c.loop-done.queue.entries c.in_ok-batch.batch (omega arith) c.loop-done.invariant.gained.entries is c.requires.forward

pub loop-done-preserved : goal.loop-done-preserved
loop-done-preserved c =
    let rows : List Row = map (λ h. h.1) c.args.held.now.held in
    let is = signed_part c.args.enters c.args.«from» c.loop-done.done c.min-more.result rows c.in_ok-batch.batch c.in_ok-batch.ensures in
    record {
      le = omega arith;
      gained =
          gained_more c.args.at c.args.enters c.loop-done.done c.min-more.result (drop c.args.«from» rows) c.in_ok-batch.batch c.args.queue.now c.loop-done.queue c.push.new.self is c.loop-done.invariant.gained c.in_ok-push.ensures.entries c.in_ok-push.ensures.begins;
    }

pub returns-clause-gained : goal.returns-clause-gained
returns-clause-gained c =
    let done : c.loop-done.done ≡ c.args.count = omega arith in
    gained-same (ap (λ n. rows_at c.args.at c.args.enters (take n (drop c.args.«from» (map (λ h. h.1) c.args.held.now.held)))) done) c.loop-done.invariant.gained

pub returns-in_err-batch-clause-err : goal.returns-in_err-batch-clause-err
returns-in_err-batch-clause-err c =
    on_any_err c.from_residual.result (map (with_sign c.args.enters) (take c.loop-done.done (drop c.args.«from» (map (λ h. h.1) c.args.held.now.held))), c.loop-done.invariant.gained)

pub returns-in_err-push-clause-err : goal.returns-in_err-push-clause-err
returns-in_err-push-clause-err c =
    on_any_err c.from_residual-in_err-push.result
    (subst (HasGrownAt c.args.at c.args.queue.now) (sym c.in_err-push.ensures.err) (map (with_sign c.args.enters) (take c.loop-done.done (drop c.args.«from» (map (λ h. h.1) c.args.held.now.held))), c.loop-done.invariant.gained))
