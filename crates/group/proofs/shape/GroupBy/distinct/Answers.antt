use Rattle.std.proofs.Common.{◌∙◌, ◌++◌, ◌∷◌, [], ℕ, List, sym, ap, arith}
use Rattle.std.proofs.lemmas.List.FromFn.{map-range_with_len_more}
use Rattle.values.specs.declared.resolved.SourceColumn.{SourceColumn}
use Rattle.values.specs.declared.resolved.ListItem.{ListItem}
use Rattle.values.specs.declared.resolved.ListItem.TheVariants.{Key}
use Rattle.group.specs.Groups.{column_at}
use Rattle.group.proofs.shape.GroupBy.distinct.Goals as goal

pub loop-column-preserved : goal.loop-column-preserved
loop-column-preserved c =
    let n = c.loop-column.column in
    record {
      by =
          c.in_ok-push.ensures.items
          ∙ ap (λ (vs : List SourceColumn). vs ++ column_at n ∷ []) c.loop-column.invariant.by
          ∙ sym (map-range_with_len_more column_at 0 n n (omega arith));
      items =
          c.in_ok-push-2.ensures.items
          ∙ ap (λ (vs : List ListItem). vs ++ Key n ∷ []) c.loop-column.invariant.items
          ∙ sym (map-range_with_len_more (λ (k : ℕ). Key k) 0 n n (omega arith));
      by_len = omega (arith, c.in_ok-push.ensures.len, c.loop-column.invariant.by_len);
      items_len = omega (arith, c.in_ok-push-2.ensures.len, c.loop-column.invariant.items_len);
    }
