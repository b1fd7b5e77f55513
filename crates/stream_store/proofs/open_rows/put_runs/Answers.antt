use Rattle.std.proofs.Common.{◌≡◌, ◌≤◌, ◌∙◌, ◌+◌, ◌*◌, drop, length, take, sym, ap, ap₂, subst, arith, ℤ, Option, List, nat_abs, replicate}
use Rattle.std.specs.List.{list_all}
use Rattle.values.specs.Window.{Element}
use Rattle.reference.specs.Commands.{is_instant, is_stream_value}
use Rattle.stream_store.specs.LateRows.{lent_rows}
use Rattle.stream_store.specs.Open.{AreAt, after_put, open_of}
use Rattle.stream_store.specs.OpenRows.{with_late}
use Rattle.stream_store.proofs.RunLemmas.{all-first, all-drop, instant_back, rest_full, put_rest, run_at}
use Rattle.stream_store.proofs.open_rows.put_runs.Goals as goal

pub put_run-requires-clause-at : goal.put_run-requires-clause-at
put_run-requires-clause-at c =
    let t = c.in-Some.instant.now in
    let k = c.count_at-count.result in
    let others = c.in-Some.others.now in
    let width = c.loop-instant.rising.width in
    let values = c.split_at-in-Some.result.0.now in
    let is = c.in-Some.ensures.cases.0 in
    let good = all-first is_instant t others (ap (list_all is_instant) (sym is) ∙ c.loop-instant.invariant.instants) in
    let back = instant_back t good in
    let same : take k others ≡ replicate k t = c.count_at-count.ensures.same ∙ ap (λ (z : ℤ). replicate k z) back in
    let first = c.split_at.ensures.front ∙ ap (λ (ts : List ℤ). take (1 + k) ts) is in
    subst (λ (z : ℤ). AreAt (nat_abs z) (lent_rows width c.split_at.result.0.now values)) (sym back)
    (subst (λ (ts : List ℤ). AreAt (nat_abs t) (lent_rows width ts values)) (sym first) (run_at width k t others values same))

pub loop-instant-preserved : goal.loop-instant-preserved
loop-instant-preserved c =
    let l = c.loop-instant in
    let n = l.number in
    let m = 1 + c.count_at-count.result in
    let width = c.width-width.result in
    let rest = l.rest.now in
    let values = l.rest_values.now in
    let within : m ≤ length rest = omega (arith, c.count_at-count.ensures.within, c.in-Some.ensures.cases.1) in
    let more = c.in_ok-put_run.ensures.ok in
    let before = with_late (open_of l.late.entries) l.rising.rows in
    let now = with_late (open_of c.put_run.new.late.entries) c.put_run.new.rising.rows in
    let put = more.put
    ∙ ap (λ k. after_put n (lent_rows k c.split_at.result.0.now c.split_at-in-Some.result.0.now) before) l.invariant.width
    ∙ ap₂ (λ (ts : List ℤ) (vs : List (Option ℤ)). after_put n (lent_rows width ts vs) before) c.split_at.ensures.front c.split_at-in-Some.ensures.front in
    record {
      put = ap₂ (λ (ts : List ℤ) (vs : List (Option ℤ)). after_put (n + m) (lent_rows width ts vs) now) c.split_at.ensures.back c.split_at-in-Some.ensures.back
          ∙ ap (λ (es : List Element). after_put (n + m) (lent_rows width (drop m rest) (drop (m * width) values)) es) put
          ∙ put_rest width m rest values l.invariant.full within n before ∙ l.invariant.put;
      parts = more.parts;
      width = more.width ∙ l.invariant.width;
      longer = omega (arith, more.longer, l.invariant.longer);
      rising = more.kept (length c.args.rising.now.rows) l.invariant.longer ∙ l.invariant.rising;
      late = more.stays c.args.first l.invariant.later ∙ l.invariant.late;
      full = ap length c.split_at-in-Some.ensures.back ∙ rest_full width m rest values l.invariant.full within ∙ ap (λ (ts : List ℤ). length ts * width) (sym c.split_at.ensures.back);
      instants = ap (list_all is_instant) c.split_at.ensures.back ∙ all-drop is_instant m rest l.invariant.instants;
      values = ap (list_all is_stream_value) c.split_at-in-Some.ensures.back ∙ all-drop is_stream_value (m * width) values l.invariant.values;
      later = omega (arith, l.invariant.later);
      room = omega (arith, c.split_at.ensures.back_len, l.invariant.room);
    }
