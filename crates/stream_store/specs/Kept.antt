-- What is kept of a stream: of the closed elements those that
-- are marked, of the open ones those that have a reader.
use Rattle.std.specs.Prelude.{◌≡◌, ℕ, ◌≤◌, Bool, Option, Some, None, List, map, length, ⊤}
use Rattle.std.specs.List.{filter}
use Rattle.values.specs.Window.{Element}
use Rattle.reference.specs.Machine.{Stream}
use Rattle.stream_store.specs.declared.starts.Start.{Start}
use Rattle.stream_store.specs.Closing.{closed_of}
use Rattle.stream_store.specs.Starts.{has_reader}

-- what is left of a stream where only such elements are
-- kept; its counts and its first open instant go on
abbrev pub kept_stream : (Element → Bool) → Stream → Stream
kept_stream keep s = record s { elements = filter keep s.elements }

-- the marks, one for each closed element, and the starts
-- of the readers say what is to be kept of the stream
pub record SaysKept (marks : List Bool) (starts : List Start) (keep : Element → Bool)
    (s : Stream) : Type 0 where
  pub closed : marks ≡ map keep (closed_of s).elements
  pub opened : (e : Element) → s.first_open ≤ e.instant → keep e ≡ has_reader starts e

-- the same of a stream that may not be there
abbrev pub SaysKeptOf : List Bool → List Start → (Element → Bool) → Option Stream → Type 0
SaysKeptOf marks starts keep None = ⊤
SaysKeptOf marks starts keep (Some s) = SaysKept marks starts keep s

-- how many elements the stream has closed
abbrev pub count_closed : Stream → ℕ
count_closed s = length (closed_of s).elements

-- all but its elements is as it was
abbrev pub HasRest : Stream → Stream → Type 0
HasRest old new = new ≡ record old { elements = new.elements }
