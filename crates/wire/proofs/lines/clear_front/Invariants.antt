-- Up to here no group had a line feed.
use Rattle.std.proofs.Common.{◌≤◌, ◌-◌, length}
use Rattle.wire.specs.Reading.{EachOther}
use Rattle.wire.proofs.lines.clear_front.Given as goal

abbrev pub invariant-loop-clear : goal.invariant-loop-clear
invariant-loop-clear l = record {
  none : EachOther l.bytes l.clear;
  within : l.clear ≤ length l.bytes;
}

abbrev pub decreases-loop-clear : goal.decreases-loop-clear
decreases-loop-clear l = length l.bytes - l.clear
