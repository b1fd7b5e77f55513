-- TO BELIEVE: the theorem rests on these definitions, and no proof can check them.
-- What a stream of the machine has closed.
use Rattle.std.specs.Prelude.{ℕ, ◌-◌, ◌==◌, List, length}
use Rattle.std.specs.List.{filter, flat_map, range_with_len}
use Rattle.values.specs.Window.{Element}
use Rattle.op_queue.specs.Logs.{Closed}
use Rattle.reference.specs.Machine.{Stream}

-- the elements whose key is one of so many numbers from `start`
-- on, by key, and those of one key in the order of the list
abbrev pub by_key : (Element → ℕ) → ℕ → ℕ → List Element → List Element
by_key f start count es = flat_map (λ k. filter (λ e. f e == k) es) (range_with_len start count)

-- the elements of the instants from `start` to below `until`,
-- by instant, then arrival, where the list goes by arrival
abbrev pub by_instant : ℕ → ℕ → List Element → List Element
by_instant start until es = by_key (λ e. e.instant) start (until - start) es

-- what the stream has closed
abbrev pub closed_of : Stream → Closed
closed_of s = record {
  width = length s.columns;
  elements = by_instant 0 s.first_open s.elements;
  until = s.first_open;
}
