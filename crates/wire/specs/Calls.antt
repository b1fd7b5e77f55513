-- TO BELIEVE: the theorem rests on these definitions, and no proof can check them.
-- The call of an engine that a request asks for, with streams and queries by name.
use Rattle.std.specs.Prelude.{ℕ, ℤ, List, Option, string_bytes}
use Rattle.plan.specs.Chart.{given_by}
use Rattle.reference.specs.CallViews.{texts_of}
use Rattle.reference.specs.Looks.{Look, look_of}
use Rattle.wire.specs.declared.request.Request.{Request}
use Rattle.wire.specs.declared.request.Request.TheVariants.{Stream, Query, Append, Heartbeat, Drain}
use Rattle.wire.specs.declared.request.Request.TheVariants.{Take, Drop, Forget}
use Rattle.wire.specs.declared.request.Request.TheVariants as asked

-- a row of an append: its instant, then its values
abbrev pub NewRow : Type 0
NewRow = ℤ × List (Option ℤ)

pub data Call : Type 0 where
  -- a stream of a name, its columns, and the first instant that is open
  declare : List ℕ → List (List ℕ) → ℤ → Call
  -- a query of a name and a text, and what a chart gives for its operators
  register : List ℕ → List ℕ → Option (List (ℤ × ℤ)) → Call
  -- rows for a stream
  append : List ℕ → List NewRow → Call
  -- a stream is closed up to an instant
  heartbeat : List ℕ → ℤ → Call
  -- the closed answers are to wait
  drain : Call
  -- the next answers of a query, at most so many
  take_rows : List ℕ → ℤ → Call
  -- a query is dropped
  drop_query : List ℕ → Call
  -- the rows that no query needs any longer are given up
  forget : Call
  -- something is looked at, and nothing changes
  look : Look → Call

abbrev pub call_of : Request → Call
call_of (Stream name columns start) = declare (string_bytes name) (texts_of columns.items) start
call_of (Query name text chart) = register (string_bytes name) (string_bytes text) (given_by chart)
call_of (Append stream rows) = append (string_bytes stream) rows
call_of (Heartbeat stream at) = heartbeat (string_bytes stream) at
call_of Drain = drain
call_of (Take query limit) = take_rows (string_bytes query) limit
call_of (Drop query) = drop_query (string_bytes query)
call_of Forget = forget
call_of (asked.Look at) = look (look_of at)
