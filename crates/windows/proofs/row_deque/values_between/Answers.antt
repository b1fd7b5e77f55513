use Rattle.std.proofs.Common.{◌∙◌, ◌++◌, ◌∷◌, [], ap, arith, slice_range, sym}
use Rattle.column.proofs.Slices.{slice_range_more}
use Rattle.windows.proofs.row_deque.values_between.Goals as goal

pub loop-place-preserved : goal.loop-place-preserved
loop-place-preserved c =
    let xs = c.args.values.now.items in
    record {
      items =
          c.push_reserved.ensures.items ∙ ap (λ l. l ++ c.index.result.now ∷ []) c.loop-place.invariant.items
          ∙ ap (λ x. slice_range xs c.args.start c.loop-place.place ++ x ∷ []) c.index.ensures
          ∙ sym (slice_range_more xs c.args.start c.loop-place.place c.index.result.now (omega arith) (omega arith));
      len = omega (arith, c.push_reserved.ensures.len, c.loop-place.invariant.len);
      room = omega (arith, c.push_reserved.ensures.capacity, c.loop-place.invariant.room);
    }
