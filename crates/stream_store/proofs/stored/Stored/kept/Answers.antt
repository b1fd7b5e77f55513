use Rattle.std.proofs.Common.{◌<◌, ◌++◌, ap, arith, length, length-append, List}
use Rattle.values.specs.Window.{Element}
use Rattle.reference.specs.Machine.{Stream}
use Rattle.stream_store.proofs.KeepLemmas.{length-by_key}
use Rattle.stream_store.proofs.KeyLemmas.{each-append}
use Rattle.stream_store.proofs.stored.Stored.kept.Goals as goal

pub len-requires : goal.len-requires
len-requires c = omega (arith, c.self.invariant.0.held, c.self.invariant.0.counted)

pub overflow_add-result : goal.overflow_add-result
overflow_add-result c = omega (arith, c.self.invariant.0.held, c.self.invariant.0.counted, c.len.ensures, c.len-2.ensures)

pub returns : goal.returns
returns c =
    let s = c.self.inside in
    let closed : List Element = s.log.elements in
    let rows : List Element = s.open_rows.rows in
    let came = each-append (λ (e : Element). e.arrival < s.arrivals) closed rows c.self.invariant.0.came c.self.invariant.0.numbered in
    omega (arith, c.len.ensures, c.len-2.ensures, length-append closed rows, length-by_key (λ e. e.arrival) s.arrivals (closed ++ rows) came, ap (λ (s : Stream). length s.elements) c.self.view_is)
