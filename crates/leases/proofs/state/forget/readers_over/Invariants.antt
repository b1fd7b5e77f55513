use Rattle.std.proofs.Common.{◌≡◌, take}
use Rattle.leases.specs.Going.{all_sources}
use Rattle.needed_rows.specs.Needed.{readers_in}
use Rattle.leases.proofs.state.forget.readers_over.Given as goal

abbrev pub invariant-loop-it : goal.invariant-loop-it
invariant-loop-it l = readers_in l.readers.items ≡ all_sources l.stream (take l.it-index l.going)
