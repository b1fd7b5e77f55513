use Rattle.std.proofs.Common.{◌≡◌, drop}
use Rattle.serde_json.specs.View.{items_view}
use Rattle.serde_json.specs.Find.{as_str}
use Rattle.reference.specs.CallViews.{texts_of}
use Rattle.wire.specs.Asked.{each}
use Rattle.wire.proofs.Each.{onto}
use Rattle.wire.proofs.decode.texts_from.Given as goal

abbrev pub invariant-loop-item : goal.invariant-loop-item
invariant-loop-item l = onto (texts_of l.texts.items) (each as_str (items_view (drop l.item-index l.items))) ≡ each as_str (items_view l.items)
