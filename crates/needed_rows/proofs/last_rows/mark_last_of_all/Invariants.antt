use Rattle.std.proofs.Common.{◌≡◌, ◌-◌, true}
use Rattle.needed_rows.specs.Marks.{Sets, count_places, has_arrived, is_among_last}
use Rattle.needed_rows.proofs.MarkLemmas.{D}
use Rattle.needed_rows.proofs.last_rows.mark_last_of_all.Given as goal

abbrev pub invariant-loop-passed : goal.invariant-loop-passed
invariant-loop-passed l = record {
  set : Sets (D (is_among_last (has_arrived l.numbers l.place) (λ i j. true) l.count l.start l.end) (l.end - l.passed)) l.initial.kept l.kept;
  counted : l.left ≡ l.count - count_places (has_arrived l.numbers l.place) (l.end - l.passed) l.passed;
}
