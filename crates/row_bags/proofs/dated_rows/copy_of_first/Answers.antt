use Rattle.std.proofs.Common.{◌≤◌, ap, ◌∙◌, arith, length, take, ◌++◌, ◌-◌, List}
use Rattle.row_bags.proofs.DatedLemmas.{take-seam}
use Rattle.row_bags.proofs.dated_rows.copy_of_first.Goals as goal

pub returns : goal.returns
returns g c =
    let front : List g.row.T.Denot = c.as_slices.result.0.now in
    let back : List g.row.T.Denot = c.as_slices.result.1.now in
    let le : length front ≤ c.args.count = omega (arith, c.if-count-front.false) in
    c.in_ok-extend_from_slice-3.ensures.items
    ∙ ap (λ (l : List g.row.T.Denot). l ++ take (c.args.count - length front) back) (c.in_ok-extend_from_slice-2.ensures.items ∙ ap (λ (l : List g.row.T.Denot). l ++ front) c.in_ok-copy.ensures.items)
    ∙ take-seam c.args.count front back c.args.items.now.items c.as_slices.ensures.items le
