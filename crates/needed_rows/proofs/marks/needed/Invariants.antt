use Rattle.std.proofs.Common.{◌≡◌, ◌<◌, ℕ, false, length, get_or, take}
use Rattle.needed_rows.specs.Needed.{element_in, elements_of, is_needed_by_some, readers_in}
use Rattle.needed_rows.proofs.marks.needed.Given as goal

abbrev pub invariant-loop-reader : goal.invariant-loop-reader
invariant-loop-reader l = record {
  same : length l.marks.items ≡ length l.rows.instants.now;
  marked : (i : ℕ) → i < length l.rows.instants.now → get_or l.marks.items i false ≡ is_needed_by_some (elements_of l.rows) (readers_in (take l.reader-index l.readers)) (element_in l.rows i);
}
