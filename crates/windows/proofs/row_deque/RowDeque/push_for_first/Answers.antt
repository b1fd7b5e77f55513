use Rattle.std.proofs.Common.{◌≡◌, ◌∙◌, ◌<◌, ◌++◌, ◌∷◌, [], ap, arith, drop, length, List, rules}
use Rattle.values.specs.Row.{Row}
use Rattle.windows.specs.Held.{WideRows, cut_rows}
use Rattle.windows.proofs.FlatLemmas.{cut_rows-move, rows_up_to, width_is}
use Rattle.windows.proofs.row_deque.RowDeque.push_for_first.Goals as goal

pub returns : goal.returns
returns c =
    let row : Row = c.args.row.now.items in
    let s = c.self.inside in
    let rows = c.args.self.now.rows in
    let is = ap (λ (r : WideRows). r.rows) c.self.view_is in
    let some : 0 < s.len = rows_up_to s.width s.len 1 s.values.items rows is (omega (arith, c.requires.some)) in
    let wide = width_is s.width s.len (length row) s.values.items rows c.self.invariant is some c.requires.wide in
    let values : c.enter_row.new.values.items ≡ drop (length row) s.values.items ++ row = search rules in
    ap (cut_rows s.width s.len) (values ∙ ap (λ k. drop k s.values.items ++ row) wide)
    ∙ cut_rows-move s.width s.len s.values.items row some c.self.invariant wide
    ∙ ap (λ (rs : List Row). drop 1 rs ++ row ∷ []) is
