use Rattle.std.proofs.Common.{ℤ, Option, List, ◌∙◌, ap, sym, ltb-true}
use Rattle.std.specs.Borrow.{Bor}
use Rattle.values.specs.Row.{value_at}
use Rattle.needed_rows.proofs.KeyLemmas.{value_in_lists}
use Rattle.needed_rows.proofs.keys.value_in.Goals as goal

pub returns-in-Some : goal.returns-in-Some
returns-in-Some c =
    let found = c.in-Some.ensures.lookup in
    c.value_of.ensures ∙ ap (λ (v : Bor (List (Option ℤ))). value_at v.now c.args.row) found.1
    ∙ sym (value_in_lists c.args.columns.now c.args.row c.args.column c.in-Some.values.now (ltb-true _ _ (sym found.0)))
