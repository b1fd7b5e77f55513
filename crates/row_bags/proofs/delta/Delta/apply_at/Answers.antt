use Rattle.std.proofs.Common.{◌∙◌, ap, sym, true, false, Bool, List, [], get_or}
use Rattle.values.specs.Row.{Row}
use Rattle.row_bags.specs.Deltas.{PlainDelta, delta_between, delta_after}
use Rattle.row_bags.specs.Piles.{pile_in}
use Rattle.row_bags.proofs.PileLemmas.{entered-behind, left-behind, leaving, entering}
use Rattle.row_bags.proofs.delta.Delta.apply_at.Goals as goal

pub returns-in_ok-add_at-clause-ok : goal.returns-in_ok-add_at-clause-ok
returns-in_ok-add_at-clause-ok c =
    let s : Bool × Row = get_or c.args.batch.now c.args.place (true, []) in
    let left : List Row = pile_in c.self.inside.left in
    let entered : List Row = pile_in c.self.inside.entered in
    ap (λ (l : List Row). delta_between l entered) c.in_ok-add_at.ensures.ok
    ∙ left-behind s.1 left entered
    ∙ ap (λ (n : PlainDelta). delta_after n (false, s.1)) c.self.view_is
    ∙ ap (λ (b : Bool). delta_after c.args.self.now (b, s.1)) (sym (leaving s.0 (sym c.leaves.ensures ∙ c.if-leaves.true)))

pub returns-in_ok-add_at-2-clause-ok : goal.returns-in_ok-add_at-2-clause-ok
returns-in_ok-add_at-2-clause-ok c =
    let s : Bool × Row = get_or c.args.batch.now c.args.place (true, []) in
    let left : List Row = pile_in c.self.inside.left in
    let entered : List Row = pile_in c.self.inside.entered in
    ap (λ (l : List Row). delta_between left l) c.in_ok-add_at-2.ensures.ok
    ∙ entered-behind s.1 left entered
    ∙ ap (λ (n : PlainDelta). delta_after n (true, s.1)) c.self.view_is
    ∙ ap (λ (b : Bool). delta_after c.args.self.now (b, s.1)) (sym (entering s.0 (sym c.leaves.ensures ∙ c.if-leaves.false)))
