use Rattle.std.proofs.Common.{ap, sym, ◌∙◌, arith, length, List, map, drop, take}
use Rattle.std.proofs.lemmas.Slice.Zip.{seconds-zip}
use Rattle.values.specs.Row.{Row}
use Rattle.windows.specs.Held.{HeldState, instants_in}
use Rattle.windows.specs.Instants.{with_sign}
use Rattle.windows.proofs.HeldLemmas.{length-held}
use Rattle.windows.proofs.held.HeldRows.signed.Goals as goal

pub signed-requires-clause-within : goal.signed-requires-clause-within
signed-requires-clause-within c =
    omega (arith, c.requires.within, length-held (instants_in c.self.inside.runs.items) c.self.inside.rows.rows c.self.invariant.same, ap (λ (s : HeldState). length s.held) c.self.view_is)

pub returns : goal.returns
returns c =
    c.in_ok-batch.ensures
    ∙ ap (λ (rows : List Row). map (with_sign c.args.enters) (take c.args.count (drop c.args.«from» rows)))
    (sym (seconds-zip (instants_in c.self.inside.runs.items) c.self.inside.rows.rows (sym c.self.invariant.same)) ∙ ap (λ (s : HeldState). map (λ h. h.1) s.held) c.self.view_is)
