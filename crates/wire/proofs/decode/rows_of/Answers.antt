use Rattle.std.proofs.Common.{◌≡◌, ◌+◌, ◌++◌, ◌∷◌, [], drop, Some, option_map, ap, sym, ◌∙◌, ℤ, to_z, of_z, w64, arith}
use Rattle.std.proofs.lemmas.Int.{ints, to_z-of_z}
use Rattle.serde_json.specs.View.{view, items_view}
use Rattle.wire.specs.Asked.{each, row_in}
use Rattle.wire.proofs.Each.{onto, each_more}
use Rattle.wire.proofs.decode.rows_of.Goals as goal

pub loop-item-preserved : goal.loop-item-preserved
loop-item-preserved c =
    let values = c.row_in.new.values.items in
    let read : row_in (view c.item-item.result) ≡ Some (c.in-Some.at, values) = sym c.in_ok-at.ensures ∙ ap (option_map (λ at. (at, values))) c.in-Some.is in
    let at : to_z w64 (of_z w64 c.in-Some.at) ≡ c.in-Some.at = grind (arith, ints, to_z-of_z) in
    let pushed : c.push_row.new.self ≡ c.loop-item.rows ++ (c.in-Some.at, values) ∷ [] = c.in_ok-push_row.ensures.ok ∙ ap (λ (z : ℤ). c.loop-item.rows ++ (z, c.deref.result.now) ∷ []) at ∙ ap (λ l. c.loop-item.rows ++ (c.in-Some.at, l) ∷ []) c.deref.ensures.value in
    ap (λ front. onto front (each row_in (items_view (drop (c.loop-item.item-index + 1) c.args.items.now)))) pushed
    ∙ each_more row_in c.args.items.now c.loop-item.item-index c.item-item.result c.loop-item.rows (c.in-Some.at, values) c.loop-item-test.true c.item-item.is read
    ∙ c.loop-item.invariant
