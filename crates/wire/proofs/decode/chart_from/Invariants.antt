use Rattle.std.proofs.Common.{◌≡◌, drop}
use Rattle.serde_json.specs.View.{items_view}
use Rattle.wire.specs.Asked.{each, pair_in}
use Rattle.wire.proofs.Each.{onto}
use Rattle.wire.proofs.decode.chart_from.Given as goal

abbrev pub invariant-loop-item : goal.invariant-loop-item
invariant-loop-item l = onto l.operators.items (each pair_in (items_view (drop l.item-index l.items))) ≡ each pair_in (items_view l.items)
