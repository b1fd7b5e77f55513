use Rattle.std.proofs.Common.{◌≡◌, ◌≤◌}
use Rattle.column.specs.Rows.{width}
use Rattle.values.specs.Row.{Row}
use Rattle.windows.specs.Back.{all_back}
use Rattle.windows.specs.Latest.{held_in}
use Rattle.windows.specs.Widths.{AreWide}
use Rattle.windows.proofs.keyed_parts.KeyedParts.take_all_back.Given as goal

abbrev pub invariant-loop-left : goal.invariant-loop-left
invariant-loop-left g l = record {
  le : l.left ≤ l.count;
  back : all_back l.columns l.batch l.fallen l.left l.self ≡ all_back l.columns l.batch l.fallen l.count l.initial.self;
  wide : (k : Row) → AreWide (width l.batch) (held_in l.self k);
}

abbrev pub decreases-loop-left : goal.decreases-loop-left
decreases-loop-left g l = l.left
