use Rattle.std.proofs.Common.{ap, ap₂, sym, ◌∙◌, arith, length, drop, List, ℕ, zip}
use Rattle.values.specs.Row.{Row}
use Rattle.windows.specs.Held.{HeldState, instants_in}
use Rattle.windows.proofs.HeldLemmas.{length-held, zip-drop}
use Rattle.windows.proofs.held.HeldRows.leave.Goals as goal

pub leave-requires : goal.leave-requires
leave-requires c =
    omega (arith, length-held (instants_in c.self.inside.runs.items) c.self.inside.rows.rows c.self.invariant.same, ap (λ (s : HeldState). length s.held) c.self.view_is)

pub returns-clause-held : goal.returns-clause-held
returns-clause-held c =
    ap₂ (λ (ts : List ℕ) (rows : List Row). zip ts rows) c.leave-2.ensures.instants c.leave.ensures.rows
    ∙ sym (zip-drop c.args.count (instants_in c.self.inside.runs.items) c.self.inside.rows.rows c.self.invariant.same)
    ∙ ap (λ (s : HeldState). drop c.args.count s.held) c.self.view_is
