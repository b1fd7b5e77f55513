use Rattle.std.proofs.Common.{w64}
use Rattle.std.proofs.lemmas.Int.{to_z-of_z}
use Rattle.std.proofs.lemmas.Result.{err_from_is_err_and}
use Rattle.stream_store.specs.Arrivals.{Arrived}
use Rattle.stream_store.proofs.BesideLemmas.{closing_refused, closing_lacked, closing_found}
use Rattle.stream_store.proofs.streams.Streams.closing.Goals as goal

pub returns-in_err-rows_to_close-in-None-clause-looks : goal.returns-in_err-rows_to_close-in-None-clause-looks
returns-in_err-rows_to_close-in-None-clause-looks c =
    let p = err_from_is_err_and c.from_residual.result c.from_residual.ensures.1 in
    rw (p.1, p.2) (closing_lacked (λ (v : Arrived). v.elements) c.args.self.now c.args.stream c.args.at (simp (to_z-of_z w64 c.args.at c.ranges.at) at c.in-None.ensures.first))

pub returns-in-Some-clause-looks : goal.returns-in-Some-clause-looks
returns-in-Some-clause-looks c =
    closing_refused (λ (v : Arrived). v.elements) c.args.self.now c.args.stream c.args.at c.in-Some.fault (simp (to_z-of_z w64 c.args.at c.ranges.at) at c.in-Some.ensures.first) c.in-Some.ensures.told

pub returns-in_ok-rows_to_close-in-None-clause-looks : goal.returns-in_ok-rows_to_close-in-None-clause-looks
returns-in_ok-rows_to_close-in-None-clause-looks c =
    closing_found c.args.self.now c.args.stream c.args.at c.in_ok-rows_to_close-in-None.field-0.elements (simp (to_z-of_z w64 c.args.at c.ranges.at) at c.in-None.ensures.first)
    (simp (to_z-of_z w64 c.args.at c.ranges.at) at c.in_ok-rows_to_close-in-None.ensures)
