use Rattle.stream_store.proofs.RisingLemmas.{IsReached}
use Rattle.stream_store.proofs.ordered_rows.OrderedRows.place_past.Given as goal

abbrev pub invariant-loop-next : goal.invariant-loop-next
invariant-loop-next l = IsReached l.until l.place l.self.rows l.next
