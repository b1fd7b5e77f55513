use Rattle.std.proofs.Common.{◌≡◌, ◌<◌, ◌∙◌, [], ap, arith, get_or, length, length-take-le, map, sym, take}
use Rattle.values.specs.Row.{value_at}
use Rattle.op_queue.specs.Logs.{Closed}
use Rattle.op_queue.specs.Tables.{lists}
use Rattle.op_queue.proofs.MarkLemmas.{column-found, shown-column}
use Rattle.op_queue.proofs.TableLemmas.{length-lists}
use Rattle.op_queue.proofs.log.Log.column.Goals as goal

pub slice_bounds-result-end : goal.slice_bounds-result-end
slice_bounds-result-end c =
    let l = c.self.inside in
    let k = c.args.index in
    let within : k < length (lists l.columns.items) = omega (arith, c.requires, ap (λ (l : Closed). l.width) c.self.view_is) in
    let found : get_or (lists l.columns.items) k [] ≡ c.deref.result.now = column-found l.columns.items k c.index.result.now (omega (arith, within, length-lists l.columns.items)) c.index.ensures ∙ sym c.deref.ensures.value in
    sym (length-take-le l.len c.deref.result.now (omega (arith, c.self.invariant.table.has_values k [] within, ap length found)))

pub returns : goal.returns
returns c =
    let l = c.self.inside in
    let k = c.args.index in
    let within : k < length (lists l.columns.items) = omega (arith, c.requires, ap (λ (l : Closed). l.width) c.self.view_is) in
    let found : get_or (lists l.columns.items) k [] ≡ c.deref.result.now = column-found l.columns.items k c.index.result.now (omega (arith, within, length-lists l.columns.items)) c.index.ensures ∙ sym c.deref.ensures.value in
    ap (take l.len) (sym found)
    ∙ sym (shown-column l.len l.instants.items l.numbers.items (lists l.columns.items) c.self.invariant.table k within)
    ∙ ap (λ (l : Closed). map (λ e. value_at e.row k) l.elements) c.self.view_is
