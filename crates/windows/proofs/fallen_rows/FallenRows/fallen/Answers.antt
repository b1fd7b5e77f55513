use Rattle.std.proofs.Common.{◌∙◌, ap, arith, get_or, length, sym, List, Option, []}
use Rattle.values.specs.Row.{Row}
use Rattle.windows.specs.Fallen.{those_fallen}
use Rattle.windows.proofs.FallenLemmas.{before_within, fallen_row, rows_are}
use Rattle.windows.proofs.fallen_rows.FallenRows.fallen.Goals as goal

pub copy-requires : goal.copy-requires
copy-requires c =
    let s = c.self.inside in
    omega (
      arith,
      c.count_before.ensures,
      before_within c.args.self.now c.args.place (sym c.falls.ensures ∙ c.if-not-falls.false),
      ap (λ (l : List Row). length l) (rows_are s.falls.items s.rows c.self.invariant),
      ap (λ (l : List (Option Row)). length (those_fallen l)) c.self.view_is,
    )

pub returns : goal.returns
returns c =
    let s = c.self.inside in
    let fell = c.count_before.result in
    let row =
    c.copy.ensures
    ∙ ap (λ (l : List Row). get_or l fell []) (sym (rows_are s.falls.items s.rows c.self.invariant))
    ∙ ap (λ (l : List (Option Row)). get_or (those_fallen l) fell []) c.self.view_is in
    sym (fallen_row c.args.self.now c.args.place fell c.copy.result.items (sym c.falls.ensures ∙ c.if-not-falls.false) c.count_before.ensures row)
