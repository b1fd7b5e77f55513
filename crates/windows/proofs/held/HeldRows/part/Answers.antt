use Rattle.std.proofs.Common.{ap, ◌∙◌, ◌-◌, arith, length, map, take, drop}
use Rattle.windows.specs.Held.{HeldState, instants_in}
use Rattle.windows.proofs.HeldLemmas.{length-held, middle_rows}
use Rattle.windows.proofs.held.HeldRows.part.Goals as goal

pub part-requires-clause-within : goal.part-requires-clause-within
part-requires-clause-within c =
    omega (arith, c.requires.within, length-held (instants_in c.self.inside.runs.items) c.self.inside.rows.rows c.self.invariant.same, ap (λ (s : HeldState). length s.held) c.self.view_is)

pub returns : goal.returns
returns c =
    c.in_ok-rows.ensures
    ∙ middle_rows c.args.from (c.args.to - c.args.from) (instants_in c.self.inside.runs.items) c.self.inside.rows.rows c.self.invariant.same
    ∙ ap (λ (s : HeldState). map (λ h. h.1) (take (c.args.to - c.args.from) (drop c.args.from s.held))) c.self.view_is
