use Rattle.std.proofs.Common.{◌≡◌, ◌*◌, ◌++◌, length, drop}
use Rattle.values.specs.Window.{input_of, numbered}
use Rattle.values.specs.Plain.{plain}
use Rattle.reference.specs.Kept.{kept_in}
use Rattle.reference.specs.Views.{pairs_of}
use Rattle.reference.proofs.stream.copy_input.Given as goal

-- with what counts of the rest it is the whole
abbrev pub invariant-loop-i : goal.invariant-loop-i
invariant-loop-i l = record {
  whole : pairs_of l.input.items ++ plain (input_of l.arrivals l.first (numbered l.i (kept_in l.width (drop l.i l.instants) l.rest)))
      ≡ plain (input_of l.arrivals l.first (numbered 0 (kept_in l.width l.instants l.values)));
  all : length l.rest ≡ length (drop l.i l.instants) * l.width;
}
