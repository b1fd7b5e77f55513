use Rattle.std.proofs.Common.{◌≡◌, take, map}
use Rattle.needed_rows.specs.Needed.{readers_in}
use Rattle.leases.specs.Keeping.{start_of}
use Rattle.leases.proofs.state.forget.starts_of.Given as goal

abbrev pub invariant-loop-reader : goal.invariant-loop-reader
invariant-loop-reader l = l.starts.items ≡ map start_of (readers_in (take l.reader-index l.readers))
