use Rattle.std.proofs.Common.{◌≡◌, ◌≤◌}
use Rattle.windows.specs.Fallen.{fallen_before}
use Rattle.windows.proofs.fallen_rows.FallenRows.count_before.Given as goal

abbrev pub invariant-loop-before : goal.invariant-loop-before
invariant-loop-before l = record {
  count : l.count ≡ fallen_before l.self l.before;
  few : l.count ≤ l.before;
}
