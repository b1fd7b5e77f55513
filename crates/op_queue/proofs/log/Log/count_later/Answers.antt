use Rattle.std.proofs.Common.{◌+◌, ap, length, nat_le, slice_range, sym, ◌∙◌}
use Rattle.std.specs.List.{filter}
use Rattle.op_queue.specs.Logs.{Closed}
use Rattle.op_queue.specs.Closings.{is_waiting}
use Rattle.op_queue.specs.Tables.{lists}
use Rattle.op_queue.proofs.PlaceLemmas.{IsRising-instants, length-waiting}
use Rattle.op_queue.proofs.log.Log.count_later.Goals as goal

pub lower_bound-first-requires-clause-rising : goal.lower_bound-first-requires-clause-rising
lower_bound-first-requires-clause-rising c =
    let log = c.self.inside in
    rw c.deref.ensures.value (IsRising-instants log.instants.items log.numbers.items (lists log.columns.items) log.len 0 c.self.invariant.ordered)

pub returns : goal.returns
returns c =
    let log = c.self.inside in
    let first = c.lower_bound-first.result in
    let start = c.args.at + 1 in
    let e =
    length-waiting log.instants.items log.numbers.items (lists log.columns.items) log.len first c.args.place start c.lower_bound-first.ensures.to c.self.invariant.table.has_numbers
    (rw c.deref.ensures.value at c.lower_bound-first.ensures.below)
    (rw c.deref.ensures.value at c.lower_bound-first.ensures.above) in
    c.count_from.ensures
    ∙ ap (λ ns. length (filter (λ m. nat_le c.args.place m) (slice_range ns first log.len))) c.deref-2.ensures.value
    ∙ sym e
    ∙ ap (λ (l : Closed). length (filter (is_waiting c.args.place start) l.elements)) c.self.view_is
