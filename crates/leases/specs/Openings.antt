-- The machine that an opening is.
use Rattle.std.specs.Prelude.{map}
use Rattle.reference.specs.Machine.{Machine}
use Rattle.leases.specs.Views.{query_of}
use Rattle.leases.specs.declared.opening.Opening.{Opening}

-- not unfolded, so that what is said of a history stays short
unfoldable pub opening_in : Opening → Machine
opening_in o = record { streams = o.streams.items; queries = map query_of o.registered.items }
