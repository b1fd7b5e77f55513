use Rattle.std.proofs.Common.{◌≡◌, ◌∙◌, ◌++◌, List, ap₂, sym, replicate, arith, ℕ}
use Rattle.group.specs.Cells.{TallyState, tally_zero}
use Rattle.group.proofs.TallyLemmas.{padded}
use Rattle.group.proofs.cells.add_tallies.Goals as goal

pub returns-clause-ok : goal.returns-clause-ok
returns-clause-ok c =
    let all_of_them : c.loop.counter ≡ c.args.more = omega arith in
    c.loop.invariant.all
    ∙ ap₂ (λ (ts : List TallyState) (n : ℕ). ts ++ replicate n tally_zero) c.in_ok-reserve_exact.ensures.items all_of_them
    ∙ sym (padded c.args.more c.args.tallies.now.items)
