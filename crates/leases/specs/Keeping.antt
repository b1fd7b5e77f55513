-- How the rows that stay are found and kept, stream by stream and query by query.
use Rattle.std.specs.Prelude.{ℕ, zero, suc, ◌<◌, Bool, Option, Some, None, List, [], ◌∷◌, get_or}
use Rattle.std.specs.Prelude.{length, slice_get}
use Rattle.values.specs.Row.{Row}
use Rattle.values.specs.Window.{Element}
use Rattle.reference.specs.Machine.{Registered, Stream}
use Rattle.reference.specs.Opening.{restart}
use Rattle.stream_store.specs.Kept.{SaysKeptOf}
use Rattle.needed_rows.specs.Needed.{PlainReader}
use Rattle.needed_rows.specs.Queries.{readers_of}
use Rattle.stream_store.specs.declared.starts.Start.{Start}

-- THE STREAMS: the marks and starts of each
abbrev pub AllSay : (ℕ → Element → Bool) → List (List Bool × List Start) → List Stream → Type 0
AllSay keep kept streams = (i : ℕ) (d : List Bool × List Start) → i < length kept
    → SaysKeptOf (get_or kept i d).0 (get_or kept i d).1 (keep i) (slice_get streams i)

-- THE QUERIES that run, each with the instant after its mark
abbrev pub going_over : List Registered → List (Option ℕ) → List (Registered × ℕ)
going_over [] marks = []
going_over (q ∷ qs) [] = []
going_over (q ∷ qs) (None ∷ marks) = going_over qs marks
going_over (q ∷ qs) (Some next ∷ marks) = (q, next) ∷ going_over qs marks

-- the sources of one over the stream n
abbrev pub sources_of : ℕ → Registered × ℕ → List PlainReader
sources_of n g = readers_of n g.0 g.1 g.0.meaning.windows g.0.places

-- where a source begins
abbrev pub start_of : PlainReader → Start
start_of r = record { place = r.place; first = r.first }

-- the first `count` are restarted
abbrev pub restarted_first : List Registered → List (Option ℕ) → List (List (ℕ × Row)) → ℕ
    → List Registered
restarted_first [] marks waiting count = []
restarted_first (q ∷ qs) marks waiting zero = q ∷ qs
restarted_first (q ∷ qs) [] waiting (suc count) = q ∷ qs
restarted_first (q ∷ qs) (m ∷ marks) [] (suc count) = q ∷ qs
restarted_first (q ∷ qs) (m ∷ marks) (w ∷ waiting) (suc count) =
    restart q m w ∷ restarted_first qs marks waiting count
