use Rattle.std.proofs.Common.{◌≡◌, ◌+◌, ap, ◌∙◌, sym, subst, arith, map, length, ◌++◌}
use Rattle.windows.specs.Held.{WideRows, IsFlat, cut_rows}
use Rattle.windows.proofs.FlatLemmas.{IsFlat-enter, cut_rows-enter}
use Rattle.windows.proofs.row_deque.RowDeque.enter.Goals as goal

pub invariant_of-self-2 : goal.invariant_of-self-2
invariant_of-self-2 c =
    let wide = c.requires ∙ sym (ap (λ (r : WideRows). r.width) c.self.view_is) in
    let count : c.in-Some.len ≡ c.self.inside.len + length c.args.batch.now = omega arith in
    subst (λ n. IsFlat c.self.inside.width n c.enter_values.new.values.items) (sym count)
    (IsFlat-enter c.self.inside.width c.self.inside.len c.self.inside.values.items c.enter_values.new.values.items c.args.batch.now c.self.invariant wide c.len.ensures.batch c.in_ok-enter_values.ensures.ok)

pub returns-clause-rows : goal.returns-clause-rows
returns-clause-rows c =
    let wide = c.requires ∙ sym (ap (λ (r : WideRows). r.width) c.self.view_is) in
    let count : c.in-Some.len ≡ c.self.inside.len + length c.args.batch.now = omega arith in
    ap (λ n. cut_rows c.self.inside.width n c.enter_values.new.values.items) count
    ∙ cut_rows-enter c.self.inside.width c.self.inside.len c.self.inside.values.items c.enter_values.new.values.items c.args.batch.now c.self.invariant wide c.len.ensures.batch c.in_ok-enter_values.ensures.ok
    ∙ ap (λ (r : WideRows). r.rows ++ map (λ r. r.1) c.args.batch.now) c.self.view_is
