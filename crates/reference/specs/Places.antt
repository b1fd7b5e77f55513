-- The places of the code as those of the machine.
use Rattle.std.specs.Prelude.{List, []}
use Rattle.reference.specs.Machine as machine
use Rattle.reference.specs.declared.place.Place.{Place}

abbrev pub place_of : Place → machine.Place
place_of p = record { stream = p.stream; arrivals = p.arrivals }

-- a machine of these streams alone
abbrev pub machine_of : List machine.Stream → machine.Machine
machine_of streams = record { streams = streams; queries = [] }
