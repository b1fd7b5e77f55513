use Rattle.std.proofs.Common.{◌≡◌, take}
use Rattle.values.specs.Window as spec
use Rattle.values.specs.Resolved.{window_of}
use Rattle.reference.specs.Views.{elements_of, lent_of}
use Rattle.reference.proofs.ElementLemmas.{rows_where}
use Rattle.reference.proofs.evaluate.window.window_rows.Given as goal

abbrev pub invariant-loop-i : goal.invariant-loop-i
invariant-loop-i l =
    lent_of l.rows.items ≡ rows_where (spec.shows l.from (window_of l.window) l.at (elements_of l.input)) (take l.i (elements_of l.input))
