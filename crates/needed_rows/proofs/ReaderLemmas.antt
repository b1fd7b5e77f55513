-- Marks of all readers.
use Rattle.std.proofs.Common.{◌≡◌, ℕ, ◌<◌, ◌≤◌, Bool, false, List, length, map, take, get_or, ap, sym, ◌∙◌, arith}
use Rattle.std.proofs.lemmas.List.{ext_get_or, get_or-map, length-map, take_all}
use Rattle.std.proofs.lemmas.List.FromFn.{get_or-map-range_with_len}
use Rattle.values.specs.Window.{Element}
use Rattle.op_queue.proofs.TableLemmas.{length-elements_in}
use Rattle.needed_rows.specs.declared.reader.Reader.{Reader}
use Rattle.needed_rows.specs.declared.reader.ClosedRows.{ClosedRows}
use Rattle.needed_rows.specs.Needed.{element_in, elements_of, is_needed_by_some, lists, readers_in}

pub all_marked : (rows : ClosedRows) (readers : List Reader) (k : ℕ) (marks : List Bool) → length readers ≤ k → length marks ≡ length rows.instants.now
    → ((i : ℕ) → i < length rows.instants.now → get_or marks i false ≡ is_needed_by_some (elements_of rows) (readers_in (take k readers)) (element_in rows i))
    → marks ≡ map (is_needed_by_some (elements_of rows) (readers_in readers)) (elements_of rows)
all_marked rows readers k marks all same h =
    let test : Element → Bool = is_needed_by_some (elements_of rows) (readers_in readers) in
    let at : ℕ → Element = element_in rows in
    let n : ℕ = length rows.instants.now in
    let whole : length (elements_of rows) ≡ n = length-elements_in n rows.instants.now rows.numbers.now (lists rows.columns.now) in
    ext_get_or false marks (map test (elements_of rows)) (omega (arith, same, whole, length-map (elements_of rows) test))
    (λ i l. let u : i < n = omega (arith, l, same) in
    h i u
    ∙ ap (λ rs. is_needed_by_some (elements_of rows) (readers_in rs) (element_in rows i)) (take_all k readers all)
    ∙ sym (get_or-map test (elements_of rows) i (at i) false (omega (arith, u, whole)) ∙ ap test (get_or-map-range_with_len at 0 n i i (at i) u (omega arith))))
