use Rattle.std.proofs.Common.{◌∙◌, ap, sym, true, false, Bool, List}
use Rattle.values.specs.Row.{Row}
use Rattle.row_bags.specs.Deltas.{PlainDelta, delta_between, delta_after}
use Rattle.row_bags.specs.Piles.{pile_in}
use Rattle.row_bags.proofs.PileLemmas.{entered-behind, left-behind}
use Rattle.row_bags.proofs.delta.Delta.apply_one.Goals as goal

pub returns-in_ok-add-clause-ok : goal.returns-in_ok-add-clause-ok
returns-in_ok-add-clause-ok c =
    let row : Row = c.args.signed_row.row.items in
    let left : List Row = pile_in c.self.inside.left in
    let entered : List Row = pile_in c.self.inside.entered in
    ap (λ (l : List Row). delta_between left l) c.in_ok-add.ensures.ok
    ∙ entered-behind row left entered
    ∙ ap (λ (n : PlainDelta). delta_after n (true, row)) c.self.view_is
    ∙ ap (λ (b : Bool). delta_after c.args.self.now (b, row)) (sym c.if-signed_row.true)

pub returns-in_ok-add-2-clause-ok : goal.returns-in_ok-add-2-clause-ok
returns-in_ok-add-2-clause-ok c =
    let row : Row = c.args.signed_row.row.items in
    let left : List Row = pile_in c.self.inside.left in
    let entered : List Row = pile_in c.self.inside.entered in
    ap (λ (l : List Row). delta_between l entered) c.in_ok-add-2.ensures.ok
    ∙ left-behind row left entered
    ∙ ap (λ (n : PlainDelta). delta_after n (false, row)) c.self.view_is
    ∙ ap (λ (b : Bool). delta_after c.args.self.now (b, row)) (sym c.if-signed_row.false)
