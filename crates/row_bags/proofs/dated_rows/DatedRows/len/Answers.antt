use Rattle.std.proofs.Common.{ap, arith, length, List, ℕ}
use Rattle.values.specs.Row.{Row}
use Rattle.row_bags.proofs.DatedLemmas.{length-dated_by}
use Rattle.row_bags.proofs.dated_rows.DatedRows.len.Goals as goal

pub returns : goal.returns
returns c =
    let s = c.self.inside in
    omega (arith, c.len.ensures, s.heads.ok, length-dated_by s.heads.items s.values.items, ap (λ (es : List (ℕ × Row)). length es) c.self.view_is)
