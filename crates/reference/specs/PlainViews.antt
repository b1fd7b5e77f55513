-- The plain engine as a world.
use Rattle.std.specs.Prelude.{map}
use Rattle.reference.specs.World.{World}
use Rattle.reference.specs.Machine.{Machine}
use Rattle.reference.specs.Standing.{query_of, waiting_of, upto_of}
use Rattle.reference.specs.declared.plain.Plain.{Plain}

abbrev pub machine_in : Plain → Machine
machine_in p = record { streams = p.streams.items; queries = map query_of p.queries.items }

-- the machine that it was told, the answers that wait, and up to where they are complete
abbrev pub world_of : Plain → World
world_of p = record {
  machine = machine_in p;
  waiting = map waiting_of p.queries.items;
  upto = map upto_of p.queries.items;
}
