use Rattle.std.proofs.Common.{◌∙◌, ◌<◌, ◌-◌, ◌∷◌, ap, arith, length, List}
use Rattle.values.specs.Row.{Row}
use Rattle.windows.specs.Held.{WideRows, cut_rows}
use Rattle.windows.proofs.FlatLemmas.{IsFlat-front, cut_rows-front, rows_up_to, size_before, width_is}
use Rattle.windows.proofs.LeavingLemmas.{cut_rows-last}
use Rattle.windows.proofs.row_deque.RowDeque.put_first_for_last.Goals as goal

pub enter_front-requires : goal.enter_front-requires
enter_front-requires c =
    let s = c.self.inside in
    let rows = c.args.self.now.rows in
    let is = ap (λ (r : WideRows). r.rows) c.self.view_is in
    let some : 0 < s.len = rows_up_to s.width s.len 1 s.values.items rows is (omega (arith, c.requires.some)) in
    let wide = width_is s.width s.len (length c.args.row.now.items) s.values.items rows c.self.invariant is some c.requires.wide in
    omega (arith, wide, size_before s.width s.len some, c.self.invariant.size, c.truncate.ensures.len, c.truncate.ensures.capacity)

pub invariant_of-self : goal.invariant_of-self
invariant_of-self c =
    let s = c.self.inside in
    let rows = c.args.self.now.rows in
    let is = ap (λ (r : WideRows). r.rows) c.self.view_is in
    let some : 0 < s.len = rows_up_to s.width s.len 1 s.values.items rows is (omega (arith, c.requires.some)) in
    let wide = width_is s.width s.len (length c.args.row.now.items) s.values.items rows c.self.invariant is some c.requires.wide in
    IsFlat-front s.width s.len s.values.items c.truncate.new.self.items c.enter_front.new.values.items c.args.row.now.items c.self.invariant some wide c.truncate.ensures.items c.enter_front.ensures

pub returns : goal.returns
returns c =
    let s = c.self.inside in
    let row : Row = c.args.row.now.items in
    let rows = c.args.self.now.rows in
    let is = ap (λ (r : WideRows). r.rows) c.self.view_is in
    let some : 0 < s.len = rows_up_to s.width s.len 1 s.values.items rows is (omega (arith, c.requires.some)) in
    let wide = width_is s.width s.len (length row) s.values.items rows c.self.invariant is some c.requires.wide in
    ap (cut_rows s.width s.len) c.enter_front.ensures
    ∙ cut_rows-front s.width s.len (s.len - 1) c.truncate.new.self.items row (omega (arith, some)) wide
    ∙ ap (λ (rs : List Row). row ∷ rs) (cut_rows-last s.width s.len 1 s.values.items c.truncate.new.self.items rows c.truncate.ensures.items is)
