use Rattle.std.proofs.Common.{◌≡◌, ◌<◌, ◌∙◌, ◌++◌, ◌∷◌, [], ℕ, List, get_or, length, sym, ap₂, arith, rules}
use Rattle.std.proofs.lemmas.List.{take_more}
use Rattle.std.proofs.lemmas.List.FromFn.{map-range_with_len_more}
use Rattle.values.specs.declared.resolved.ListItem.{ListItem}
use Rattle.values.specs.declared.resolved.ListItem.TheVariants.{Key}
use Rattle.group.proofs.shape.lists_key.Goals as goal

pub loop-place-preserved : goal.loop-place-preserved
loop-place-preserved c =
    let n = c.loop-place.place in
    let within : n < length c.args.items.now = search rules in
    let is : get_or c.args.items.now n (Key 0) ≡ Key n = search rules in
    take_more c.args.items.now n (Key 0) within
    ∙ ap₂ (λ (xs : List ListItem) (x : ListItem). xs ++ x ∷ []) c.loop-place.invariant is
    ∙ sym (map-range_with_len_more (λ (k : ℕ). Key k) 0 n n (omega arith))
