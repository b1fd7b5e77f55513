use Rattle.std.proofs.Common.{◌≡◌, drop}
use Rattle.serde_json.specs.View.{items_view}
use Rattle.wire.specs.Asked.{each, row_in}
use Rattle.wire.proofs.Each.{onto}
use Rattle.wire.proofs.decode.rows_of.Given as goal

abbrev pub invariant-loop-item : goal.invariant-loop-item
invariant-loop-item l = onto l.rows (each row_in (items_view (drop l.item-index l.items))) ≡ each row_in (items_view l.items)
