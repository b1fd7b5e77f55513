use Rattle.std.proofs.Common.{◌≡◌, take}
use Rattle.column.specs.Rows.{width}
use Rattle.values.specs.Row.{Row}
use Rattle.windows.specs.Back.{all_back}
use Rattle.windows.specs.Latest.{AreParts, all_after, held_in}
use Rattle.windows.proofs.keyed_parts.KeyedParts.take_all.Given as goal

abbrev pub invariant-loop-place : goal.invariant-loop-place
invariant-loop-place g l = record {
  after : (k : Row) → held_in l.self k ≡ all_after l.columns l.count (held_in l.initial.self) (take l.place l.batch) k;
  parts : AreParts l.count (width l.batch) (held_in l.self);
  back : all_back l.columns l.batch l.fallen l.place l.self ≡ l.initial.self;
}
