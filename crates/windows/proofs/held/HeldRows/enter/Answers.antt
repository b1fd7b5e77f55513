use Rattle.std.proofs.Common.{ap, ap₂, ◌∙◌, map, replicate, List, ℕ, ◌++◌}
use Rattle.windows.specs.Held.{HeldState, instants_in}
use Rattle.windows.specs.Instants.{held_at}
use Rattle.windows.proofs.HeldLemmas.{zip-enter}
use Rattle.windows.proofs.held.HeldRows.enter.Goals as goal

pub returns-clause-held : goal.returns-clause-held
returns-clause-held c =
    let instants = c.lengthen.ensures.instants ∙ ap₂ (λ (ts : List ℕ) (n : ℕ). ts ++ replicate n c.args.at) (ap instants_in c.in_ok-reserve.ensures.items) c.len-count.ensures.value in
    zip-enter c.args.at (instants_in c.self.inside.runs.items) (instants_in c.lengthen.new.runs.items) c.self.inside.rows.rows c.enter.new.self.rows c.args.batch.now c.self.invariant.same instants c.in_ok-enter.ensures.rows
    ∙ ap (λ (s : HeldState). s.held ++ map (held_at c.args.at) c.args.batch.now) c.self.view_is
