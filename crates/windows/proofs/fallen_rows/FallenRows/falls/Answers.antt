use Rattle.std.proofs.Common.{◌∙◌, ap, arith, length, List, Option, None, get_or}
use Rattle.std.specs.Option.{is_some}
use Rattle.values.specs.Row.{Row}
use Rattle.windows.proofs.FallenLemmas.{falls_at, length-fallen_at}
use Rattle.windows.proofs.fallen_rows.FallenRows.falls.Goals as goal

pub index-requires : goal.index-requires
index-requires c =
    let s = c.self.inside in
    omega (arith, c.requires, length-fallen_at s.falls.items s.rows c.self.invariant, ap (λ (l : List (Option Row)). length l) c.self.view_is)

pub returns : goal.returns
returns c =
    let s = c.self.inside in
    falls_at s.falls.items s.rows c.args.place _ c.self.invariant (omega (arith, c.requires, length-fallen_at s.falls.items s.rows c.self.invariant, ap (λ (l : List (Option Row)). length l) c.self.view_is)) c.index.ensures
    ∙ ap (λ (l : List (Option Row)). is_some (get_or l c.args.place None)) c.self.view_is
