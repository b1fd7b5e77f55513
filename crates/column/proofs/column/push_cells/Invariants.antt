use Rattle.std.proofs.Common.{◌≡◌, ◌+◌, vec_len, vec_capacity}
use Rattle.column.proofs.StrideLemmas.{IsPushing}
use Rattle.column.proofs.column.push_cells.Given as goal

abbrev pub invariant-loop-i : goal.invariant-loop-i
invariant-loop-i l = record {
  len : vec_len l.numbers ≡ vec_len l.initial.numbers + l.i;
  room : vec_capacity l.numbers ≡ vec_capacity l.initial.numbers;
  cells : IsPushing l.initial.numbers.items l.values l.start l.stride l.i l.word l.numbers.items;
}
