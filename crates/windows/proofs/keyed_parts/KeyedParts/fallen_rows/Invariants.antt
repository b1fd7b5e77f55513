use Rattle.std.proofs.Common.{◌≡◌, take}
use Rattle.windows.specs.Latest.{all_fallen, held_in, part}
use Rattle.windows.specs.Widths.{OneRow}
use Rattle.windows.proofs.LatestLemmas.{like}
use Rattle.windows.proofs.keyed_parts.KeyedParts.fallen_rows.Given as goal

abbrev pub invariant-loop-place : goal.invariant-loop-place
invariant-loop-place g l = record {
  rows : l.rows ≡ all_fallen l.columns l.count (held_in l.self) (take l.place l.batch);
  came : (k : OneRow) → part k l.came ≡ like l.columns k.items (take l.place l.batch);
}
