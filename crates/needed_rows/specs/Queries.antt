-- The sources of the running queries over a stream of the machine.
use Rattle.std.specs.Prelude.{◌≡◌, ℕ, ◌≤◌, ◌==◌, max, cond, Option, Some, None, List, [], ◌∷◌, ◌++◌}
use Rattle.std.specs.Prelude.{map}
use Rattle.std.specs.List.{AllByRecursion, list_any}
use Rattle.values.specs.Window.{Element, Window}
use Rattle.reference.specs.Machine.{Place, Registered, Stream}
use Rattle.reference.specs.Opening.{needs_by}
use Rattle.stream_store.specs.Closing.{closed_of}
use Rattle.needed_rows.specs.Needed.{PlainReader, is_in_input, is_needed_by_some}

-- a source of the query, from its place on
abbrev pub reader_at : Registered → ℕ → Window → Place → PlainReader
reader_at q next w p = record { place = p.arrivals; first = q.first; next = next; window = w }

-- the sources of the query over the stream n; `next` is the instant after the query's mark
abbrev pub readers_of : ℕ → Registered → ℕ → List Window → List Place → List PlainReader
readers_of n q next [] ps = []
readers_of n q next (w ∷ ws) [] = []
readers_of n q next (w ∷ ws) (p ∷ ps) =
    cond (p.stream == n) (reader_at q next w p ∷ readers_of n q next ws ps)
    (readers_of n q next ws ps)

-- those of all queries that run
abbrev pub readers_over : ℕ → List Registered → List (Option ℕ) → List PlainReader
readers_over n [] marks = []
readers_over n (q ∷ qs) [] = []
readers_over n (q ∷ qs) (None ∷ marks) = readers_over n qs marks
readers_over n (q ∷ qs) (Some next ∷ marks) =
    readers_of n q next q.meaning.windows q.places ++ readers_over n qs marks

-- no mark lies above what is closed, unless it is still below the first instant
abbrev pub AreCaughtUp : ℕ → List PlainReader → Type 0
AreCaughtUp until readers = AllByRecursion (λ r. r.next ≤ max r.first until) readers

-- WHAT THE QUERIES NEED of the stream is what its readers need: of the closed
-- elements by the closed ones alone, of the open ones all that are in an input
pub record ReadersSay (streams : List Stream) (queries : List Registered) (marks : List (Option ℕ))
    (n : ℕ) (s : Stream) : Type 0 where
  pub closed : map (needs_by streams queries marks n) (closed_of s).elements
      ≡ map (is_needed_by_some (closed_of s).elements (readers_over n queries marks))
      (closed_of s).elements
  pub opened : (e : Element) → s.first_open ≤ e.instant
      → needs_by streams queries marks n e
      ≡ list_any (λ r. is_in_input r e) (readers_over n queries marks)
