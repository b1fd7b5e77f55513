use Rattle.std.proofs.Common.{◌≡◌, ◌-◌, ap, ap₂, sym, ◌∙◌, arith, length, take, List, ℕ, zip}
use Rattle.values.specs.Row.{Row}
use Rattle.windows.specs.Held.{HeldState, instants_in}
use Rattle.windows.proofs.HeldLemmas.{length-held, zip-take}
use Rattle.windows.proofs.held.HeldRows.drop_last.Goals as goal

pub drop_last-requires : goal.drop_last-requires
drop_last-requires c =
    omega (arith, length-held (instants_in c.self.inside.runs.items) c.self.inside.rows.rows c.self.invariant.same, ap (λ (s : HeldState). length s.held) c.self.view_is)

pub returns-clause-held : goal.returns-clause-held
returns-clause-held c =
    let ts : List ℕ = instants_in c.self.inside.runs.items in
    let rows : List Row = c.self.inside.rows.rows in
    let n : ℕ = length rows - c.args.count in
    let same : length ts ≡ length rows = c.self.invariant.same in
    let size : n ≡ length (zip ts rows) - c.args.count = omega (arith, length-held ts rows same) in
    ap₂ (λ (us : List ℕ) (rs : List Row). zip us rs) (c.shorten.ensures.instants ∙ ap (λ m. take (m - c.args.count) ts) same) c.drop_last.ensures.rows
    ∙ sym (zip-take n ts rows)
    ∙ ap (λ m. take m (zip ts rows)) size
    ∙ ap (λ (s : HeldState). take (length s.held - c.args.count) s.held) c.self.view_is
