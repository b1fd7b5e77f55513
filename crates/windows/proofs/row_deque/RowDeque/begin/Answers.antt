use Rattle.std.proofs.Common.{ℕ, ◌≡◌, ◌∙◌, ◌++◌, ◌∷◌, [], ap, ap₂, refl, take, length, rules}
use Rattle.values.specs.Row.{Row}
use Rattle.windows.specs.Held.{WideRows}
use Rattle.windows.proofs.FlatLemmas.{IsFlat-none, cut_rows-push}
use Rattle.windows.proofs.row_deque.RowDeque.begin.Goals as goal

pub returns-clause-rows : goal.returns-clause-rows
returns-clause-rows c =
    let row : Row = c.args.row.now.items in
    let s = c.self.inside in
    let is = ap (λ (r : WideRows). r.rows) c.self.view_is ∙ c.requires in
    let none = IsFlat-none s.width s.len (length row) s.values.items c.self.invariant is in
    let values : c.enter_row.new.values.items ≡ s.values.items ++ row = search rules in
    let width : c.len-self-inside.result ≡ length row = search rules in
    ap₂ (λ (w : ℕ) (vs : Row). take w vs ∷ []) width values
    ∙ cut_rows-push (length row) 0 s.values.items row none.size refl
