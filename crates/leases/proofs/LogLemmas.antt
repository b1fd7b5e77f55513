-- The log of a stream whose rows stand as they came, its columns, and the marks of its rows.
use Rattle.std.proofs.Common.{◌≡◌, ℕ, ℤ, ◌+◌, Bool, Option, Some, None, List, [], ◌∷◌, ◌++◌, length, map, sym, ap, ap₂, ◌∙◌, arith}
use Rattle.std.specs.Prelude.{slice_get}
use Rattle.std.specs.List.{range_with_len}
use Rattle.std.specs.Option.{option_map}
use Rattle.std.proofs.lemmas.List.FromFn.{map-range_with_len_more}
use Rattle.values.specs.Row.{value_at}
use Rattle.values.specs.Window.{Element}
use Rattle.op_queue.specs.Logs.{Closed}
use Rattle.reference.specs.Machine.{Stream}
use Rattle.stream_store.specs.Closing.{closed_of}
use Rattle.needed_rows.specs.Columns.{AreColumns, StandFor}
use Rattle.needed_rows.specs.Needed.{AreInOrder, PlainReader, elements_of, is_needed_by_some, lists}
use Rattle.needed_rows.specs.declared.reader.ClosedRows.{ClosedRows}
use Rattle.needed_rows.proofs.ColumnLemmas.{stand_for}
use Rattle.leases.specs.Forgets.{AreReadIn, IsReadIn, IsReadLog}

-- THE LOG
some_log : {a b : Closed} → Some a ≡ Some b → a ≡ b
some_log e = cc

log_read : (o : Option Stream) (log : Closed) → IsReadIn o → option_map closed_of o ≡ Some log → IsReadLog log
log_read None log h e = absurd (cc)
log_read (Some s) log h e = (s, (h, sym (some_log e)))

pub is_read_log : (ss : List Stream) (n : ℕ) (log : Closed) → AreReadIn ss n → option_map closed_of (slice_get ss n) ≡ Some log → IsReadLog log
is_read_log ss n log h e = log_read (slice_get ss n) log h e

-- its columns, one after the other
pub column_next : (log : Closed) (k : ℕ) (before : List (List (Option ℤ))) (column : List (Option ℤ)) → before ≡ map (λ k. map (λ (e : Element). value_at e.row k) log.elements) (range_with_len 0 k) → column ≡ map (λ (e : Element). value_at e.row k) log.elements
    → before ++ column ∷ [] ≡ map (λ k. map (λ (e : Element). value_at e.row k) log.elements) (range_with_len 0 (k + 1))
column_next log k before column h is =
    let f : ℕ → List (Option ℤ) = λ k. map (λ (e : Element). value_at e.row k) log.elements in
    ap₂ (λ (l : List (List (Option ℤ))) (x : List (Option ℤ)). l ++ x ∷ []) h is ∙ sym (map-range_with_len_more f 0 k k (omega arith))

-- they stand for its elements
pub columns_stand : (log : Closed) (rows : ClosedRows) → IsReadLog log → rows.instants.now ≡ map (λ (e : Element). e.instant) log.elements → rows.numbers.now ≡ map (λ (e : Element). e.arrival) log.elements
    → lists rows.columns.now ≡ map (λ k. map (λ (e : Element). value_at e.row k) log.elements) (range_with_len 0 log.width) → AreInOrder rows × (elements_of rows ≡ log.elements)
columns_stand log rows read i n c =
    let is : log ≡ closed_of read.0 = read.1.1 in
    let are : AreColumns (length read.0.columns) (closed_of read.0).elements rows = record {
      instants = i ∙ ap (λ (l : Closed). map (λ (e : Element). e.instant) l.elements) is;
      numbers = n ∙ ap (λ (l : Closed). map (λ (e : Element). e.arrival) l.elements) is;
      columns = c ∙ ap (λ (l : Closed). map (λ k. map (λ (e : Element). value_at e.row k) l.elements) (range_with_len 0 l.width)) is;
    } in
    let stand : StandFor read.0 rows = stand_for read.0 rows read.1.0 are in
    (stand.order, stand.elements ∙ ap (λ (l : Closed). l.elements) (sym is))

pub marks_made : (log : Closed) (rows : ClosedRows) (rs : List PlainReader) (marks : List Bool) → elements_of rows ≡ log.elements → marks ≡ map (is_needed_by_some (elements_of rows) rs) (elements_of rows) → marks ≡ map (is_needed_by_some log.elements rs) log.elements
marks_made log rows rs marks same is = is ∙ ap (λ es. map (is_needed_by_some es rs) es) same

pub marks_said : (ss : List Stream) (n : ℕ) (log : Closed) (rs rs2 : List PlainReader) (marks : List Bool) → option_map closed_of (slice_get ss n) ≡ Some log → rs ≡ rs2 → marks ≡ map (is_needed_by_some log.elements rs) log.elements
    → (s : Stream) → slice_get ss n ≡ Some s → marks ≡ map (is_needed_by_some (closed_of s).elements rs2) (closed_of s).elements
marks_said ss n log rs rs2 marks e same is s at =
    let closed : log ≡ closed_of s = some_log (sym e ∙ ap (option_map closed_of) at) in
    is ∙ ap₂ (λ (l : Closed) (z : List PlainReader). map (is_needed_by_some l.elements z) l.elements) closed same
