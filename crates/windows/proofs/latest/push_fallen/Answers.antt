use Rattle.std.proofs.Common.{◌∙◌, ◌++◌, ap, sym, subst, arith, append-nil, List, Bool, Option, length}
use Rattle.values.specs.Row.{Row}
use Rattle.windows.specs.Fallen.{IsFallenWide}
use Rattle.op_queue.specs.Flat.{with_signed}
use Rattle.windows.specs.Latest.{minus_of}
use Rattle.windows.proofs.FallenLemmas.{before_more, before_within, fallen_row, minus_none, those_few}
use Rattle.windows.proofs.latest.push_fallen.Goals as goal

pub row-requires : goal.row-requires
row-requires c = omega (arith, before_within c.args.near.now c.args.place (sym c.falls.ensures ∙ c.if-falls.true), c.requires.fell)

pub push-requires : goal.push-requires
push-requires c =
    subst (λ (f : Option Row). IsFallenWide c.args.rows.now.width f)
    (fallen_row c.args.near.now c.args.place c.args.fell.now c.row.result.now (sym c.falls.ensures ∙ c.if-falls.true) c.requires.fell c.row.ensures) c.requires.wide

pub overflow_add-fell : goal.overflow_add-fell
overflow_add-fell c = omega (arith, before_within c.args.near.now c.args.place (sym c.falls.ensures ∙ c.if-falls.true), c.requires.fell, those_few c.args.near.now, c.len-near.ensures)

pub returns-in_ok-push-clause-rows : goal.returns-in_ok-push-clause-rows
returns-in_ok-push-clause-rows c =
    c.in_ok-push.ensures.ok
    ∙ ap (λ (f : Option Row). with_signed c.args.rows.now (minus_of f)) (sym (fallen_row c.args.near.now c.args.place c.args.fell.now c.row.result.now (sym c.falls.ensures ∙ c.if-falls.true) c.requires.fell c.row.ensures))

pub returns-in_ok-push-clause-fell : goal.returns-in_ok-push-clause-fell
returns-in_ok-push-clause-fell c =
    omega (
      arith,
      c.requires.fell,
      before_more c.args.near.now c.args.place c.requires.within,
      ap (λ (f : Option Row). length (minus_of f)) (fallen_row c.args.near.now c.args.place c.args.fell.now c.row.result.now (sym c.falls.ensures ∙ c.if-falls.true) c.requires.fell c.row.ensures),
    )

pub returns-else-falls-clause-rows : goal.returns-else-falls-clause-rows
returns-else-falls-clause-rows c =
    let g = c.args.rows.now in
    ap (λ (rs : List (Bool × Row)). record { width = g.width; rows = rs }) (sym (append-nil g.rows) ∙ ap (λ (rs : List (Bool × Row)). g.rows ++ rs) (sym (minus_none _ (sym c.falls.ensures ∙ c.if-falls.false))))

pub returns-else-falls-clause-fell : goal.returns-else-falls-clause-fell
returns-else-falls-clause-fell c =
    omega (arith, c.requires.fell, before_more c.args.near.now c.args.place c.requires.within, ap (λ (rs : List (Bool × Row)). length rs) (minus_none _ (sym c.falls.ensures ∙ c.if-falls.false)))
