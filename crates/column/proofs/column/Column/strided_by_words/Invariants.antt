use Rattle.std.proofs.Common.{◌≡◌, ◌-◌, vec_len, vec_capacity}
use Rattle.column.proofs.StrideLemmas.{IsStrided}
use Rattle.column.proofs.column.Column.strided_by_words.Given as goal

abbrev pub invariant-loop-from : goal.invariant-loop-from
invariant-loop-from l = record {
  len : vec_len l.numbers ≡ l.from;
  room : vec_capacity l.numbers ≡ l.count;
  cells : IsStrided l.values l.start l.stride l.count l.from l.numbers.items l.valid;
}

abbrev pub decreases-loop-from : goal.decreases-loop-from
decreases-loop-from l = l.count - l.from
