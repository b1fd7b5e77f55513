use Rattle.std.proofs.Common.{◌≡◌, ◌≤◌, take}
use Rattle.values.specs.Window as spec
use Rattle.reference.specs.Views.{elements_of, element_at}
use Rattle.reference.proofs.evaluate.window.count_later.Given as goal

abbrev pub invariant-loop-j : goal.invariant-loop-j
invariant-loop-j l =
    (l.count ≤ l.j)
    × (l.count ≡ spec.count_later l.columns l.at (take l.j (elements_of l.input)) (element_at l.input l.i))
