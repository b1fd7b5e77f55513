use Rattle.std.proofs.Common.{◌≡◌, ◌≤◌, ◌+◌, ◌*◌, length, take, true}
use Rattle.std.specs.List.{list_all}
use Rattle.reference.specs.Commands.{is_instant, is_stream_value}
use Rattle.stream_store.specs.LateRows.{lent_rows}
use Rattle.stream_store.specs.Open.{after_put, below, open_of}
use Rattle.stream_store.specs.OpenRows.{IsOpen, with_late}
use Rattle.stream_store.proofs.open_rows.put_runs.Given as goal

-- if what follows is right for the rest, the whole is right
abbrev pub invariant-loop-instant : goal.invariant-loop-instant
invariant-loop-instant l = record {
  put : after_put l.number (lent_rows l.width l.rest l.rest_values) (with_late (open_of l.late.entries) l.rising.rows)
      ≡ after_put l.first (lent_rows l.width l.instants l.values) (with_late (open_of l.initial.late.entries) l.initial.rising.rows);
  parts : IsOpen l.rising l.late.entries;
  width : l.rising.width ≡ l.width;
  longer : length l.initial.rising.rows ≤ length l.rising.rows;
  rising : take (length l.initial.rising.rows) l.rising.rows ≡ l.initial.rising.rows;
  late : below l.first l.late.entries ≡ below l.first l.initial.late.entries;
  full : length l.rest_values ≡ length l.rest * l.width;
  instants : list_all is_instant l.rest ≡ true;
  values : list_all is_stream_value l.rest_values ≡ true;
  later : l.first ≤ l.number;
  room : l.number + length l.rest ≡ l.first + length l.instants;
}

abbrev pub decreases-loop-instant : goal.decreases-loop-instant
decreases-loop-instant l = length l.rest
