-- Queries that run, each with the instant after its mark.
use Rattle.std.specs.Prelude.{ℕ, List, flat_map}
use Rattle.needed_rows.specs.Needed.{PlainReader}
use Rattle.leases.specs.Forgets.{going_of}
use Rattle.leases.specs.Keeping.{sources_of}
use Rattle.leases.specs.declared.state.forget.Going.{Going}

-- the sources of all over the stream n
abbrev pub all_sources : ℕ → List Going → List PlainReader
all_sources n gs = flat_map (λ g. sources_of n (going_of g)) gs
